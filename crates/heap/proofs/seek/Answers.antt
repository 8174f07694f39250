-- `seek` meets its contract: cell i stands i cells before the first where the body's cells stand side by side (`side_cell`), and else it is walked to.
-- Assumes nothing.
use Prim.Native.Nat.{◌+◌, ◌-◌, ◌/◌, ◌%◌}
use mathlib.Core.Path.{refl, sym, ap, ◌∙◌}
use native.Mathlib.Omega.{arith}
use Rattle.heap.specs.Shape.{scattered}
use Rattle.heap.proofs.Shapes.{room}
use Rattle.heap.proofs.Walks.{side_cell}
use Rattle.heap.proofs.seek.Goals as goal

pub get-requires : goal.get-requires
get-requires c = let P = c.requires in (omega arith, room P.2 _ P.3 refl)

pub get-requires-then-get-eq0 : goal.get-requires-then-get-eq0
get-requires-then-get-eq0 c = let P = c.requires in (omega arith, room P.2 _ P.3 refl)

pub overflow_sub-result : goal.overflow_sub-result
overflow_sub-result c = let P = c.requires in
    let together = ap (λ w. w / scattered % 2) (sym c.get.ensures) ∙ c.if-get-eq0.true in
    omega (arith, c.get-then-get-eq0.ensures, (side_cell P.2 c.args.h c.args.i (P.0.size (c.args.h + 2) - 1 - c.args.i) P.3 together (omega (arith, P.4))).0)

pub returns-then-get-eq0 : goal.returns-then-get-eq0
returns-then-get-eq0 c = λ g e S l k z.
    let together = ap (λ w. w / scattered % 2) (sym c.get.ensures) ∙ c.if-get-eq0.true in
    rw c.get-then-get-eq0.ensures (side_cell S _ _ k l together z).1
