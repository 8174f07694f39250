-- The topmost item goes, and what it names is let go.
-- Assumes nothing.
use mathlib.Core.Path.{◌≡◌, refl, sym, ap, ◌∙◌, subst}
use mathlib.Core.Bool.{Bool}
use mathlib.Core.List.{List, ◌∷◌}
use Prim.Native.Nat.{ℕ, suc, ◌*◌, ◌<◌}
use native.Mathlib.Omega.{arith}
use lib.ListN.{length, drop}
use Rattle.semantics.specs.Values.{null}
use Rattle.semantics.specs.Machine as Floo
use Rattle.semantics.specs.Machine.{with_stack}
use Rattle.heap.specs.declared.Lists.{Lists}
use Rattle.store.specs.Rep.{a_null}
use Rattle.machine.specs.Words.{item_tag, item_payload}
use Rattle.machine.specs.Places.{from_end, roots}
use Rattle.machine.specs.Rep.{Rep, World, Is, IsIn}
use Rattle.machine.specs.Recount.{Placed, Recounts}
use Rattle.machine.specs.Moves.{dropped}
use Rattle.machine.specs.declared.Machine.{Machine}
use Rattle.machine.proofs.Items.{items_length}
use Rattle.machine.proofs.Operands.{Top, top}
use Rattle.machine.proofs.Roots.{stack_root, at_front, at_other, at_end}
use Rattle.machine.proofs.Restacking.{with_depth, placed, restacked}

pub nothing : {w : World} {names : List (List ℕ)} {strings : List Bool} → Is w names strings null 0 0
nothing = record { stands = a_null; alive = λ l. absurd (omega arith) }

module _ {m : Machine} {st e d c l : List ℕ} {μ : Floo.Machine} (R : Rep m st e d c l μ) (k : ℕ) (h : m.depth ≡ suc k) where
  pub item : Top (IsIn R.world μ) st k μ.stack
  item = top R.items k h

  pub below : length item.rest ≡ k
  below = items_length item.below

  pub few : k < 512
  few = omega (arith, R.rooms.stack_fits, R.rooms.stack_few)

  -- The item's root place holds it.
  pub held : roots μ (4 * k) ≡ item.value
  held =
      stack_root μ k
      ∙ ap (λ s. from_end (λ x. x) s k) item.split
      ∙ ap (from_end (λ x. x) (item.value ∷ item.rest)) (sym below)
      ∙ at_front (λ x. x) item.value item.rest

  pub old : IsIn R.world μ (roots μ (4 * k)) (item_tag st k) (item_payload st k)
  old = subst (λ v. IsIn R.world μ v (item_tag st k) (item_payload st k)) (sym held) item.words

  -- The rest has nothing at the item's place, and the same elsewhere.
  pub others : (j : ℕ) → (j ≡ k → ⊥) → from_end (λ x. x) item.rest j ≡ from_end (λ x. x) μ.stack j
  others j n = sym (at_other (λ x. x) item.value item.rest j (λ q. n (q ∙ below))) ∙ ap (λ s. from_end (λ x. x) s j) (sym item.split)

  pub here : from_end (λ x. x) item.rest k ≡ null
  here = at_end (λ x. x) item.rest k (omega (arith, below))

  pub drop_placed : Placed m.lists c (item_tag st k) (item_payload st k) 0 0
  drop_placed = placed R k few old nothing

  pub drop_rep : {s' : Lists} {c' : List ℕ}
      → Recounts m.lists c (item_tag st k) (item_payload st k) 0 0 s' c'
      → Rep (with_depth k s' m) st e d c' l (dropped μ)
  unfolding dropped
  drop_rep {s'} {c'} K =
      subst (λ s. Rep (with_depth k s' m) st e d c' l (with_stack s μ)) (ap (drop 1) (sym item.split))
      (restacked R k few old nothing K item.rest st k others here refl (omega (arith, R.rooms.stack_fits)) item.below)
