-- `new_header` meets its contract: four stores to a cell that was taken make a header of count 1 (`headed`).
-- Assumes nothing.
use mathlib.Core.Path.{refl}
use native.Mathlib.Omega.{arith}
use Rattle.heap.proofs.Shapes.{room}
use Rattle.heap.proofs.Bodies.{headed}
use Rattle.heap.proofs.new_header.Goals as goal

pub put-requires : goal.put-requires
put-requires c = let F = c.requires.0 in
    let X = c.take-t.ensures.1 F.0 F.1 F.2 F.3 in
    (omega arith, room X.1.heap.shape _ X.2 refl)

pub put-requires-2 : goal.put-requires-2
put-requires-2 c = let F = c.requires.0 in
    let X = c.take-t.ensures.1 F.0 F.1 F.2 F.3 in
    (omega arith, rw c.put.ensures.size (room X.1.heap.shape _ X.2 refl))

pub put-requires-3 : goal.put-requires-3
put-requires-3 c = let F = c.requires.0 in
    let X = c.take-t.ensures.1 F.0 F.1 F.2 F.3 in
    (omega arith, rw (c.put-2.ensures.size, c.put.ensures.size) (room X.1.heap.shape _ X.2 refl))

pub put-requires-4 : goal.put-requires-4
put-requires-4 c = let F = c.requires.0 in
    let X = c.take-t.ensures.1 F.0 F.1 F.2 F.3 in
    (omega arith, rw (c.put-3.ensures.size, c.put-2.ensures.size, c.put.ensures.size) (room X.1.heap.shape _ X.2 refl))

pub returns : goal.returns
returns c = let taken = c.take-t.ensures in
    (taken.0, λ p g F. headed F taken.1 c.put.ensures c.put-2.ensures c.put-3.ensures c.put-4.ensures, taken.2)
