-- A result in the place of operands that name no object, with the test of room after it: the stack has not grown, so there is room.
-- Assumes nothing.
use Rattle.std.specs.Prelude.{Ok}
use mathlib.Core.Path.{◌≡◌, ap, ◌∙◌}
use mathlib.Core.List.{List, ◌∷◌, ◌++◌}
use Prim.Native.Nat.{ℕ, ◌≤◌}
use native.Mathlib.Omega.{arith}
use lib.ListN.{length, length-append}
use Rattle.semantics.specs.Values.{Value, Result, ok, ◌>>=◌}
use Rattle.semantics.specs.Machine as Floo
use Rattle.semantics.specs.Machine.{with_stack, push}
use Rattle.semantics.specs.ListLaws.{All}
use Rattle.semantics.specs.Steps.{room_for}
use Rattle.machine.specs.Places.{Nameless}
use Rattle.machine.specs.Operands.{Scalar, Replaces}
use Rattle.machine.specs.Rep.{Rep, Answer}
use Rattle.machine.specs.Room.{lent, fitted}
use Rattle.machine.specs.declared.Machine.{Machine}
use Rattle.machine.proofs.Rooms.{stack_passes}

pub result_fits : (f : Floo.Machine → Result Floo.Machine) {m r : Machine} {st st' : List ℕ} {n t p : ℕ} {v : Value}
    → Replaces n t p m r st st'
    → Scalar v t p
    → (old rest : List Value)
    → length old ≡ n
    → 1 ≤ n
    → All Nameless old
    → (e d c l : List ℕ) (μ : Floo.Machine)
    → μ.stack ≡ old ++ rest
    → f μ ≡ ok (push v (with_stack rest μ))
    → Rep m st e d c l μ
    → Answer (λ x. Rep x st' e d c l) (st' ≡ st) (Ok r) (fitted (lent st e d c l) f μ)
unfolding fitted ◌>>=◌ push with_stack
result_fits f {st = st} {v = v} P sc old rest len some nameless e d c l μ s gives R =
    let few : length (v ∷ rest) ≤ length μ.stack = omega (arith, ap length s, length-append old rest) in (
      with_stack (v ∷ rest) μ,
      ap (λ q. q >>= room_for (lent st e d c l) μ) gives ∙ stack_passes R (v ∷ rest) few,
      P.does sc old rest len nameless e d c l μ s R,
    )
