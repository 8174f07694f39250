-- A value is pushed, or takes an item's place, by its words: copies of items, and elements.
-- Assumes nothing.
use mathlib.Core.Path.{◌≡◌, sym, ap, ◌∙◌, subst}
use mathlib.Core.List.{List, ◌∷◌}
use Prim.Native.Nat.{ℕ, suc, ◌+◌, ◌*◌, ◌≤◌, ◌<◌}
use native.Mathlib.Omega.{arith}
use native.Mathlib.Numerals.{add-one}
use lib.ListN.{length, get_or, set}
use Rattle.semantics.specs.Values.{Value, null}
use Rattle.semantics.specs.Machine as Floo
use Rattle.semantics.specs.Machine.{with_stack, push}
use Rattle.heap.specs.declared.Lists.{Lists}
use Rattle.machine.specs.Words.{item_tag, item_payload}
use Rattle.machine.specs.Places.{from_end, roots}
use Rattle.machine.specs.Rep.{Rep, IsIn, Items, item}
use Rattle.machine.specs.Recount.{Placed, Recounts}
use Rattle.machine.specs.declared.Machine.{Machine}
use Rattle.machine.proofs.Items.{items_length, items_frame, item_at, items_set}
use Rattle.machine.proofs.Operands.{two_first, two_second, two_below, two_others, two_length}
use Rattle.machine.proofs.Roots.{stack_root, at_front, at_other, at_end, from_top, set_here, set_there}
use Rattle.machine.proofs.Dropping.{nothing}
use Rattle.machine.proofs.Restacking.{with_depth, placed, restacked}

module _ {m : Machine} {st e d c l : List ℕ} {μ : Floo.Machine} (R : Rep m st e d c l μ) where
  depth : length μ.stack ≡ m.depth
  depth = items_length R.items

  -- Item i from the top, at place k.
  pub word_of : (i k : ℕ) → m.depth ≡ k + suc i → IsIn R.world μ (get_or μ.stack i null) (item_tag st k) (item_payload st k)
  word_of i k h = item_at R.items i k h

  -- The same, by the words that were read.
  pub words_of : (i k : ℕ) {t p : ℕ} → m.depth ≡ k + suc i → t ≡ item_tag st k → p ≡ item_payload st k → IsIn R.world μ (get_or μ.stack i null) t p
  words_of i k h x y = rw (x, y) (word_of i k h)

  -- ---- a value is pushed

  module _ {v : Value} {t p : ℕ} (new : IsIn R.world μ v t p) (room : 2 * m.depth + 2 ≤ length st) where
    free : IsIn R.world μ (roots μ (4 * m.depth)) 0 0
    free =
        subst (λ v. IsIn R.world μ v 0 0)
        (sym (stack_root μ m.depth ∙ at_end (λ x. x) μ.stack m.depth (omega (arith, depth))))
        nothing

    few : m.depth < 512
    few = omega (arith, R.rooms.stack_few)

    pub push_placed : Placed m.lists c 0 0 t p
    push_placed = placed R m.depth few free new

    pub push_rep : {s' : Lists} {c' : List ℕ}
        → Recounts m.lists c 0 0 t p s' c'
        → Rep (with_depth (m.depth + 1) s' m) (set (set st (2 * m.depth) t) (2 * m.depth + 1) p) e d c' l (push v μ)
    unfolding push
    push_rep K =
        let n = m.depth in
        let st' = set (set st (2 * n) t) (2 * n + 1) p in
        let words : IsIn R.world μ v (item_tag st' n) (item_payload st' n) =
        rw (two_first st n t p room, two_second st n t p room) new in
        let items = subst (λ x. Items (IsIn R.world μ) st' x (v ∷ μ.stack)) (sym (add-one n)) (item words (items_frame (two_below st n t p room) R.items)) in
        restacked R n few free new K (v ∷ μ.stack) st' (n + 1)
        (λ j q. at_other (λ x. x) v μ.stack j (λ z. q (z ∙ depth)))
        (ap (from_end (λ x. x) (v ∷ μ.stack)) (sym depth) ∙ at_front (λ x. x) v μ.stack)
        (two_length st n t p room)
        (omega arith)
        items

  -- ---- a value takes an item's place

  module _ (i k : ℕ) (h : m.depth ≡ k + suc i) where
    pub held : IsIn R.world μ (roots μ (4 * k)) (item_tag st k) (item_payload st k)
    held =
        subst (λ v. IsIn R.world μ v (item_tag st k) (item_payload st k))
        (sym (stack_root μ k ∙ from_top μ.stack i k (depth ∙ h)))
        (word_of i k h)

    pub low : k < 512
    low = omega (arith, R.rooms.stack_fits, R.rooms.stack_few)

    module _ {v : Value} {t p : ℕ} (new : IsIn R.world μ v t p) where
      pub value_placed : Placed m.lists c (item_tag st k) (item_payload st k) t p
      value_placed = placed R k low held new

      pub value_rep : {s' : Lists} {c' : List ℕ}
          → Recounts m.lists c (item_tag st k) (item_payload st k) t p s' c'
          → Rep (with_depth m.depth s' m) (set (set st (2 * k) t) (2 * k + 1) p) e d c' l (with_stack (set μ.stack i v) μ)
      value_rep K =
          let st' = set (set st (2 * k) t) (2 * k + 1) p in
          let room : 2 * k + 2 ≤ length st = omega (arith, R.rooms.stack_fits) in
          let words : IsIn R.world μ v (item_tag st' k) (item_payload st' k) = rw (two_first st k t p room, two_second st k t p room) new in
          restacked R k low held new K (set μ.stack i v) st' m.depth
          (set_there μ.stack i k v (depth ∙ h))
          (set_here μ.stack i k v (depth ∙ h))
          (two_length st k t p room)
          R.rooms.stack_fits
          (items_set R.items i k h words (two_others st k t p room))
