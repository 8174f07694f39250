-- `free_header` meets its contract: a dead header with no body comes off its list (`buries`), loses the mark (`clears`) and goes on the free list (`gives`).
-- Assumes nothing.
use mathlib.Core.Path.{refl}
use native.Mathlib.Omega.{arith}
use Rattle.heap.proofs.Shapes.{room}
use Rattle.heap.proofs.Parts.{gives, clears, first_dead, buries}
use Rattle.heap.proofs.free_header.Goals as goal

pub get-next-requires : goal.get-next-requires
get-next-requires c = let F = c.requires.0.2 in (omega arith, room F.heap.shape _ (first_dead F c.requires.1).2 refl)

pub put-requires : goal.put-requires
put-requires c = let F = c.requires.0.2 in (omega arith, room F.heap.shape _ (first_dead F c.requires.1).2 refl)

pub free_cell-requires : goal.free_cell-requires
free_cell-requires c = let P = c.requires in
    let X = buries P.0.2 P.1 P.2 in
    let Z = clears X.1 X.2 c.put.ensures in
    (X.0, rw c.get-next.ensures Z.0.heap, X.2, rw c.put.ensures.here (omega arith))

pub returns : goal.returns
returns c = let P = c.requires in let G = c.free_cell.ensures in (
  G.1,
  λ p g F. let X = buries F P.1 P.2 in
      let Z = clears X.1 X.2 c.put.ensures in
      let K = rw (← c.get-next.ensures) at Z.0 in
      let Y = gives K X.2 G.0 (G.2 X.0 K.heap X.2) in
      (_, Y.0, λ g₀ m₀ R. Y.1 g₀ m₀ (Z.1 g₀ m₀ (X.3 g₀ m₀ R)), λ n. Y.2 (X.4 n)),
)
