-- A copy of an element takes the place of an item.
-- Assumes nothing.
use mathlib.Core.Path.{◌≡◌}
use mathlib.Core.List.{List}
use Prim.Native.Nat.{ℕ, suc, ◌+◌}
use Rattle.semantics.specs.Machine as Floo
use Rattle.heap.specs.Word.{word}
use Rattle.machine.specs.Words.{item_payload}
use Rattle.machine.specs.Copies.{HeldItems, PutsValue}
use Rattle.machine.specs.Rep.{Rep, MovesHeap}
use Rattle.machine.specs.declared.Machine.{Machine}
use Rattle.elements.specs.Elements.{HasElement, element_copied}
use Rattle.elements.proofs.Arrays.{Found, element_too, element_value}

module _ {m : Machine} {st e d c l : List ℕ} {μ : Floo.Machine} (R : Rep m st e d c l μ) (i k q : ℕ) (h : m.depth ≡ k + suc i) (b : HasElement i q μ) (cell : ℕ)
    (found : Found c (item_payload st k) q cell) (t p : ℕ) (x : t ≡ word c cell 0) (y : p ≡ word c cell 1) where
  pub element_held : HeldItems t p m st c
  element_held = (e, d, l, μ, R, _, element_value R i k q h b cell found t p x y)

  pub element_moves : {r : Machine} {s' c' : List ℕ} (j : ℕ) → PutsValue j t p m r st s' c c' → MovesHeap (element_copied i q j) m r st s' c c'
  unfolding element_copied
  element_moves j P =
      record {
        moves = λ e d l μ R'. P.moves e d l μ R' _ (element_value R' i k q h (element_too R i k q h b R') cell found t p x y);
      }
