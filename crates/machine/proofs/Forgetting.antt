-- The topmost execution slot goes without a word changed, where it names no object: no count moves.
-- Assumes nothing.
use mathlib.Core.Path.{◌≡◌, refl, sym, subst}
use mathlib.Core.List.{List}
use Prim.Native.Nat.{ℕ, ◌-◌, ◌≤◌, ◌<◌}
use native.Mathlib.Omega.{arith}
use Rattle.heap.specs.Shape.{Full}
use Rattle.heap.specs.declared.Lists.{Lists}
use Rattle.heap.proofs.Parts as parts
use Rattle.machine.specs.Recount.{Recounts}
use Rattle.machine.specs.declared.Machine.{Machine}
use Rattle.machine.proofs.Recounting.{nothing_to_let_go}
use Rattle.machine.proofs.Rerooting.{with_depths}
use Rattle.machine.specs.FrameMoves.{ForgetsFrame}
use Rattle.machine.proofs.Tops.{drop_rep}

-- Nothing gives way to nothing.
plain_recounts : {s : Lists} {c : List ℕ} {old was : ℕ} → s.dead ≡ 0 → old < 8 → Recounts s c old was 0 0 s c
plain_recounts {s} {c} {old} z low =
    record {
      none_dead = z;
      changes = λ P g x L. nothing_to_let_go L (record {
        risen = λ p g t F a. subst (λ h. Full g p h t c) (sym (parts.no_object 0 0 0 refl (omega arith))) F;
        same = λ y u a b. refl;
        long = refl;
      }) low;
    }

pub forgets : {m : Machine} → 1 ≤ m.frames → ForgetsFrame m (with_depths m.depth (m.frames - 1) m.lists m)
forgets {m} some =
    record {
      moves = λ s e d c l μ R low. drop_rep R (m.frames - 1) (omega (arith, some)) (plain_recounts R.stored.none_dead low);
    }
