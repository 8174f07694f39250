-- `skip_word` meets its contract: it leads to the first cell, whose rank is n - 1, or to where that one's target leads (`skip_over`), which is lower.
-- Assumes nothing.
use Prim.Native.Nat.{◌-◌}
use mathlib.Core.Path.{refl}
use native.Mathlib.Omega.{arith}
use Rattle.heap.proofs.Walks.{first_of, skip_of, skip_first, skip_over}
use Rattle.heap.proofs.Shapes.{room, inside, list_le}
use Rattle.heap.proofs.skip_word.Goals as goal

pub returns-then-n-lt2 : goal.returns-then-n-lt2
returns-then-n-lt2 c = (λ g e s S l z t k q. skip_first S s k _ z t q (omega (arith, c.if-n-lt2.true)), λ q. refl)

pub get-w-requires : goal.get-w-requires
get-w-requires c = let P = c.requires in
    (omega arith, room P.3 _ (first_of P.3 P.2 (c.args.n - 1) P.5 P.6 (omega arith)) refl)

pub get-v-requires : goal.get-v-requires
get-v-requires c = let P = c.requires in
    let n = c.args.n in
    let o = first_of P.3 P.2 (n - 1) P.5 P.6 (omega arith) in
    let K = skip_of P.3 _ P.2 (n - 1) P.4 (omega arith) o in
    (omega arith, rw c.get-w.ensures (room P.3 _ K.lands refl))

pub overflow_add-n : goal.overflow_add-n
overflow_add-n c = let P = c.requires in omega (arith, list_le P.3 P.2, P.3.few, P.5)

pub returns-then-n-v : goal.returns-then-n-v
returns-then-n-v c = (
  λ g e s S l z t k q.
      let o = first_of S s k z t q in
      let K = skip_of S _ s k l (omega (arith, c.if-n-lt2.false)) o in
      skip_over S s (k - 1) k _ _ l (rw c.get-w.ensures K) (omega (arith, c.if-n-v.true, c.if-n-lt2.false)) (omega arith) c.get-v.ensures,
  λ q. absurd (omega (arith, c.if-n-lt2.false)),
)

pub overflow_mul-result : goal.overflow_mul-result
overflow_mul-result c = let P = c.requires in omega (arith, list_le P.3 P.2, P.3.few, P.5)

pub overflow_add-result : goal.overflow_add-result
overflow_add-result c = let P = c.requires in
    let o = first_of P.3 P.2 (c.args.n - 1) P.5 P.6 (omega (arith, c.if-n-lt2.false)) in
    omega (arith, list_le P.3 P.2, P.3.few, P.5, (inside P.3 _ o refl).0)

pub returns : goal.returns
returns c = (λ g e s S l z t k q. skip_first S s k _ z t q (omega arith), λ q. absurd (omega (arith, c.if-n-lt2.false)))
