-- `walk` meets its contract: the cell has the rank that the loop counts, by the skip word or by the next word; the rank goes down.
-- Assumes nothing.
use Prim.Native.Nat.{suc, ◌-◌, ◌<◌}
use mathlib.Core.Path.{◌≡◌, refl}
use native.Mathlib.Omega.{arith}
use Rattle.heap.proofs.Walks.{first_cell, next_cell, skip_of}
use Rattle.heap.proofs.Shapes.{room, header_of}
use Rattle.heap.proofs.walk.Goals as goal

pub size-n-requires : goal.size-n-requires
size-n-requires c = let P = c.requires in room P.2 _ P.3 refl

pub overflow_sub-rank : goal.overflow_sub-rank
overflow_sub-rank c = let P = c.requires in omega (arith, c.size-n.ensures, (header_of P.2 _ P.3 refl).0)

pub overflow_sub-rank-2 : goal.overflow_sub-rank-2
overflow_sub-rank-2 c = let P = c.requires in omega (arith, c.size-n.ensures, (header_of P.2 _ P.3 refl).0)

pub get-c-requires : goal.get-c-requires
get-c-requires c = let P = c.requires in (omega arith, room P.2 _ P.3 refl)

pub overflow_sub-j : goal.overflow_sub-j
overflow_sub-j c = let P = c.requires in omega (arith, c.size-n.ensures, (header_of P.2 _ P.3 refl).0)

pub loop-j-init : goal.loop-j-init
loop-j-init c = let P = c.requires in
    let n = c.size-n.result in
    let some : 0 < n = omega (arith, c.size-n.ensures, (header_of P.2 _ P.3 refl).0) in
    (omega arith, λ g e S l. rw c.get-c.ensures (first_cell S _ (n - 1) l (omega (arith, c.size-n.ensures, (header_of S _ l refl).0))))

pub get-w-requires : goal.get-w-requires
get-w-requires c = let P = c.requires in (omega arith, room P.2 _ (c.loop-j.invariant.1 P.0 P.1 P.2 P.3) refl)

pub loop-j-smaller-then-rank-w : goal.loop-j-smaller-then-rank-w
loop-j-smaller-then-rank-w c = let P = c.requires in
    let K = skip_of P.2 _ _ _ (omega arith) (omega arith) (c.loop-j.invariant.1 P.0 P.1 P.2 P.3) in
    omega (arith, c.get-w.ensures, K.lower)

pub loop-j-preserved-then-rank-w : goal.loop-j-preserved-then-rank-w
loop-j-preserved-then-rank-w c = (c.if-rank-w.true, λ g e S l. rw c.get-w.ensures (skip_of S _ _ _ (omega arith) (omega arith) (c.loop-j.invariant.1 g e S l)).lands)

pub get-c-requires-else-rank-w : goal.get-c-requires-else-rank-w
get-c-requires-else-rank-w c = let P = c.requires in (omega arith, room P.2 _ (c.loop-j.invariant.1 P.0 P.1 P.2 P.3) refl)

pub overflow_sub-j-else-rank-w : goal.overflow_sub-j-else-rank-w
overflow_sub-j-else-rank-w c = omega arith

pub loop-j-smaller : goal.loop-j-smaller
loop-j-smaller c = omega arith

pub loop-j-preserved : goal.loop-j-preserved
loop-j-preserved c = let j = c.loop-j.j in
    let z : j ≡ suc (j - 1) = omega arith in
    (omega arith, λ g e S l. rw c.get-c-else-rank-w.ensures (next_cell S _ _ (j - 1) (rw z at (c.loop-j.invariant.1 g e S l))))

pub returns : goal.returns
returns c = λ g e S l k z.
    let q : c.loop-j.j ≡ k = omega (arith, c.loop-j.invariant.0, c.size-n.ensures, (header_of S _ l refl).0) in
    rw q at (c.loop-j.invariant.1 g e S l)
