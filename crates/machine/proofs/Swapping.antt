-- Two items of the stack change places: no count changes, only which place names what.
-- Assumes nothing.
use mathlib.Core.Path.{◌≡◌, refl, ◌∙◌}
use mathlib.Core.List.{List}
use Prim.Native.Nat.{ℕ, suc, ◌+◌, ◌*◌, ◌≤◌}
use native.Mathlib.Omega.{arith}
use lib.ListN.{length, get_or, set, length-set}
use Rattle.semantics.specs.Values.{null}
use Rattle.semantics.specs.Machine as Floo
use Rattle.semantics.specs.Machine.{with_stack, with_exec}
use Rattle.heap.specs.Upd.{upd}
use Rattle.machine.specs.Words.{item_tag, item_payload}
use Rattle.machine.specs.Places.{roots}
use Rattle.machine.specs.Rep.{Rep, IsIn, Items}
use Rattle.machine.specs.Moves.{swapped}
use Rattle.machine.specs.declared.Machine.{Machine}
use Rattle.machine.proofs.Items.{items_length, items_set}
use Rattle.machine.proofs.Operands.{two_first, two_second, two_others, two_length}
use Rattle.machine.proofs.Roots.{stack_root, from_top, roots_at, set_here, set_there}
use Rattle.machine.proofs.Copying.{word_of}
use Rattle.machine.proofs.Exchanging.{upd_alike, exchange_rep}

module _ {m : Machine} {st e d c l : List ℕ} {μ : Floo.Machine} (R : Rep m st e d c l μ) (i k j o : ℕ) (h : m.depth ≡ k + suc i) (g : m.depth ≡ o + suc j) where
  depth : length μ.stack ≡ m.depth
  depth = items_length R.items

  once : length (set μ.stack i (get_or μ.stack j null)) ≡ o + suc j
  once = length-set μ.stack i (get_or μ.stack j null) ∙ depth ∙ g

  -- What the places hold after.
  changed : (r : ℕ) → roots (swapped i j μ) r ≡ upd (upd (roots μ) (4 * k) (roots μ (4 * o))) (4 * o) (roots μ (4 * k)) r
  unfolding swapped with_stack
  changed r =
      let a = get_or μ.stack i null in
      let b = get_or μ.stack j null in
      let first = with_stack (set μ.stack i b) μ in
      let at_k : roots μ (4 * k) ≡ a = stack_root μ k ∙ from_top μ.stack i k (depth ∙ h) in
      let at_o : roots μ (4 * o) ≡ b = stack_root μ o ∙ from_top μ.stack j o (depth ∙ g) in
      roots_at first (set (set μ.stack i b) j a) o a
      (set_there (set μ.stack i b) j o a once)
      (set_here (set μ.stack i b) j o a once)
      r
      ∙ upd_alike (roots first) (upd (roots μ) (4 * k) b) (4 * o) a r
      (roots_at μ (set μ.stack i b) k b (set_there μ.stack i k b (depth ∙ h)) (set_here μ.stack i k b (depth ∙ h)) r)
      ∙ rw (at_k, at_o) refl

  pub swap_rep : Rep m
      (set (set (set (set st (2 * k) (item_tag st o)) (2 * k + 1) (item_payload st o)) (2 * o) (item_tag st k)) (2 * o + 1) (item_payload st k))
      e d c l (swapped i j μ)
  unfolding swapped with_exec with_stack
  swap_rep =
      let t = item_tag st k in
      let p = item_payload st k in
      let u = item_tag st o in
      let q = item_payload st o in
      let st₁ = set (set st (2 * k) u) (2 * k + 1) q in
      let st₂ = set (set st₁ (2 * o) t) (2 * o + 1) p in
      let room₁ : 2 * k + 2 ≤ length st = omega (arith, R.rooms.stack_fits) in
      let long₁ : length st₁ ≡ length st = two_length st k u q room₁ in
      let room₂ : 2 * o + 2 ≤ length st₁ = omega (arith, R.rooms.stack_fits) in
      let long₂ : length st₂ ≡ length st₁ = two_length st₁ o t p room₂ in
      let a = get_or μ.stack i null in
      let b = get_or μ.stack j null in
      let words₁ : IsIn R.world μ b (item_tag st₁ k) (item_payload st₁ k) = rw (two_first st k u q room₁, two_second st k u q room₁) (word_of R j o g) in
      let words₂ : IsIn R.world μ a (item_tag st₂ o) (item_payload st₂ o) = rw (two_first st₁ o t p room₂, two_second st₁ o t p room₂) (word_of R i k h) in
      let first : Items (IsIn R.world μ) st₁ m.depth (set μ.stack i b) = items_set R.items i k h words₁ (two_others st k u q room₁) in
      let items : Items (IsIn R.world μ) st₂ m.depth (set (set μ.stack i b) j a) = items_set first j o g words₂ (two_others st₁ o t p room₂) in
      exchange_rep R (4 * k) (4 * o) (omega (arith, R.rooms.stack_fits, R.rooms.stack_few)) (omega (arith, R.rooms.stack_fits, R.rooms.stack_few))
      (set (set μ.stack i b) j a) μ.exec changed (long₂ ∙ long₁) refl R.rooms.stack_fits R.rooms.exec_fits items R.frames
