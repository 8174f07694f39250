-- A root place changes what it names: the new object's count rises while it is in hand, the place and the hand change, and the old object is let go.
-- Assumes nothing.
use mathlib.Core.Path.{◌≡◌, refl, ◌∙◌, subst}
use mathlib.Core.List.{List}
use Prim.Native.Nat.{ℕ, suc, ◌≤◌, ◌<◌}
use lib.ListN.{length}
use Rattle.heap.specs.Word.{word}
use Rattle.heap.specs.Shape.{Ghost, Full, cells, target}
use Rattle.heap.specs.Assign.{aimed, Risen}
use Rattle.heap.specs.Gone.{Sound, Goes}
use Rattle.heap.specs.declared.Lists.{Lists}
use Rattle.heap.proofs.Since.{begins}
use Rattle.heap.proofs.Roots.{root_swap}
use Rattle.heap.proofs.Parts as parts
use Rattle.machine.specs.Recount.{Place, Change}

-- The words in which the new object has been counted.
pub record Counted (c : List ℕ) (tag pay : ℕ) (c₁ : List ℕ) : Type 0 where
  pub risen : Risen tag pay c c₁
  pub same : (y u : ℕ) → u < 4 → (u ≡ 2 → ⊥) → word c₁ y u ≡ word c y u
  pub long : length c₁ ≡ length c

module _ {s : Lists} {c c₁ : List ℕ} {old was tag pay P : ℕ} {g : Ghost} {x : ℕ} (L : Place s c old was tag pay P g x) (I : Counted c tag pay c₁) where
  -- The place names the new object, and the old one is in hand.
  swapped : Full (aimed g x (target 0 tag pay)) P (target 0 old was) s c₁
  swapped =
      let at_cells : cells c₁ ≤ x = rw I.long L.root in
      subst (λ h. Full (aimed g x (target 0 tag pay)) P h s c₁) L.holds
      (root_swap x (I.risen P g s L.full L.alive) at_cells L.inside)

  dead_none : (aimed g x (target 0 tag pay)).size 1 ≡ 0
  dead_none = L.full.heap.dead ∙ L.none_dead

  -- The old value is an object.
  module _ (is : 8 ≤ old) where
    in_hand : Full (aimed g x (target 0 tag pay)) P (suc was) s c₁
    in_hand = subst (λ h. Full (aimed g x (target 0 tag pay)) P h s c₁) (parts.object 0 old was refl is) swapped

    pub ready : Sound (suc was) s c₁
    ready = (P, aimed g x (target 0 tag pay), in_hand)

    pub let_go : {r : Lists} {c' : List ℕ} → Goes (suc was) s c₁ r c' → Change s c tag pay r c' P g x
    let_go G =
        let X = G P (aimed g x (target 0 tag pay)) in_hand in
        record {
          counted = c₁;
          ghost = X.0;
          long = I.long;
          same = I.same;
          risen = I.risen P g s L.full L.alive;
          full = X.1;
          since = X.2 _ c₁ (begins P (aimed g x (target 0 tag pay)) _ _ c₁ in_hand.heap.shape in_hand.counts dead_none);
          whole = X.3;
        }

  -- The old value names nothing.
  module _ (is : old < 8) where
    empty_hand : Full (aimed g x (target 0 tag pay)) P 0 s c₁
    empty_hand = subst (λ h. Full (aimed g x (target 0 tag pay)) P h s c₁) (parts.no_object 0 old was refl is) swapped

    pub nothing_to_let_go : Change s c tag pay s c₁ P g x
    nothing_to_let_go =
        record {
          counted = c₁;
          ghost = aimed g x (target 0 tag pay);
          long = I.long;
          same = I.same;
          risen = I.risen P g s L.full L.alive;
          full = empty_hand;
          since = begins P (aimed g x (target 0 tag pay)) _ _ c₁ empty_hand.heap.shape empty_hand.counts dead_none;
          whole = λ n. n;
        }
