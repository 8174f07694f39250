-- The loop that writes the predefined names: after k of them, the first k slots are right, the rest of the list has the other names, and no word from
-- slot k on has changed.
-- Assumes nothing.
use mathlib.Core.Path.{◌≡◌, refl, sym, ap, ◌∙◌, subst}
use mathlib.Core.Bool.{true}
use mathlib.Core.List.{List, [], ◌∷◌, ◌++◌}
use mathlib.Core.Logic.{⊎_elim}
use mathlib.Core.Option.{some}
use Prim.Native.Nat.{ℕ, suc, ◌+◌, ◌-◌, ◌*◌, ◌/◌, ◌%◌, ◌≤◌, ◌<◌}
use native.Mathlib.Omega.{arith}
use lib.ListN.{length, get_or, take, drop, set, get_elem?, length-set, length-map}
use lib.Seq.{drop-cons, get_or-set_same, get_or-set_other}
use Rattle.semantics.specs.Sizes.{name_count, name_most, name_words}
use Rattle.semantics.specs.Text.{textual}
use Rattle.semantics.specs.Machine.{Slot}
use Rattle.semantics.specs.Operators.{◌is◌, table}
use Rattle.semantics.specs.Steps as Steps
use Rattle.semantics.specs.Steps.{predefined}
use Rattle.semantics.specs.ListLaws.{every, an_element, inside_list, some_one}
use Rattle.semantics.specs.NameLaws.{name_count_lem}
use Rattle.heap.proofs.Since.{lt_or_le}
use Rattle.store.specs.Rep.{byte_of}
use Rattle.dictionary.specs.Packing.{Spells}
use Rattle.start.specs.Predefined.{names, tag_of, payload_of, Written, Filled, Unhandled}
use Rattle.dictionary.specs.Listing.{listed, Ends}
use Rattle.dictionary.proofs.Blanks.{Plain, plain, plain_at, room, name_end, name_slice, name_after}

-- ---- the names

names_count : length names ≡ name_count
unfolding names
names_count = length-map predefined (λ (s : Slot). s.key) ∙ name_count_lem

all_plain : every plain names ≡ true
unfolding names predefined Steps.slot table ◌is◌ textual
all_plain = refl

abbrev name : ℕ → List ℕ
name k = get_or names k []

pub name_short : (k : ℕ) (n : List ℕ) → get_elem? names k ≡ some n → length n ≤ name_most
name_short k n e = (plain_at names all_plain k n e).short

name_plain : (k : ℕ) → k < name_count → Plain (name k)
name_plain k l = plain_at names all_plain k (name k) (an_element names k [] (omega (arith, names_count)))

-- ---- the loop

written_same : {words other : List ℕ} {k : ℕ} {n : List ℕ}
    → ((j : ℕ) → 12 * k ≤ j → j < 12 * k + 11 → get_or other j 0 ≡ get_or words j 0)
    → Written words k n
    → Written other k n
written_same {k = k} f W =
    record {
      size = f (12 * k) (omega arith) (omega arith) ∙ W.size;
      spelt = λ j l. ap (λ w. byte_of w (j % 4)) (f (12 * k + 1 + j / 4) (omega arith) (omega arith)) ∙ W.spelt j l;
      tag = f (12 * k + 9) (omega arith) (omega arith) ∙ W.tag;
      payload = f (12 * k + 10) (omega arith) (omega arith) ∙ W.payload;
    }

pub record Filling (list d d' : List ℕ) (at k : ℕ) : Type 0 where
  pub few : k ≤ name_count
  pub long : length d' ≡ length d
  pub left : drop at list ≡ listed (drop k names)
  pub within : at ≤ length list
  pub slots : (i : ℕ) (n : List ℕ) → i < k → get_elem? names i ≡ some n → Written d' i n
  pub kept : (i : ℕ) → 12 * k ≤ i → get_or d' i 0 ≡ get_or d i 0

pub fill_begin : {list d : List ℕ} → list ≡ listed names → Filling list d d 0 0
fill_begin e =
    record { few = omega arith; long = refl; left = e; within = omega arith; slots = λ i n l. absurd (omega arith); kept = λ i l. refl }

module _ {list d d₁ : List ℕ} {at k : ℕ} (F : Filling list d d₁ at k) (l : k < name_count) where
  next : drop at list ≡ name k ++ (32 ∷ listed (drop (suc k) names))
  unfolding listed
  next = F.left ∙ ap listed (drop-cons names k [] (omega (arith, names_count)))

  module _ {r : ℕ} (E : Ends list at r) where
    ends : r ≡ at + length (name k)
    ends = name_end list at r (name k) (listed (drop (suc k) names)) next F.within (name_plain k l) E

    pub fill_inside : r < length list
    fill_inside = omega (arith, ends, room list at r (name k) (listed (drop (suc k) names)) next F.within)

    sliced : take (r - at) (drop at list) ≡ name k
    sliced = name_slice list at r (name k) (listed (drop (suc k) names)) next F.within ends

    pub fill_short : length (take (r - at) (drop at list)) ≤ name_most
    fill_short = omega (arith, ap length sliced, (name_plain k l).short)

    module _ {d₂ : List ℕ} {t p : ℕ} (S : Spells k (take (r - at) (drop at list)) d₁ d₂) (same : length d₂ ≡ length d₁) (large : name_words ≤ length d) (tag : t ≡ tag_of k) (pay : p ≡ payload_of k) where
      abbrev tagged : List ℕ
      tagged = set d₂ (12 * k + 9) t

      abbrev now' : List ℕ
      now' = set tagged (12 * k + 10) p

      tagged_long : length tagged ≡ length d
      tagged_long = length-set d₂ (12 * k + 9) t ∙ same ∙ F.long

      apart : (j : ℕ) → (j ≡ 12 * k + 9 → ⊥) → (j ≡ 12 * k + 10 → ⊥) → get_or now' j 0 ≡ get_or d₂ j 0
      apart j f g = get_or-set_other tagged (12 * k + 10) j p 0 g ∙ get_or-set_other d₂ (12 * k + 9) j t 0 f

      -- The words of other slots.
      outside : (j : ℕ) → (12 * k ≤ j → 12 * k + 11 ≤ j) → get_or now' j 0 ≡ get_or d₁ j 0
      outside j f =
          apart j (λ e. omega (arith, f (omega arith))) (λ e. omega (arith, f (omega arith))) ∙ S.others j (λ x. omega (arith, f x))

      written : Written now' k (name k)
      written =
          record {
            size = apart (12 * k) (λ e. omega arith) (λ e. omega arith) ∙ S.size ∙ ap length sliced;
            spelt = λ j x.
                ap (λ w. byte_of w (j % 4)) (apart (12 * k + 1 + j / 4) (λ e. omega arith) (λ e. omega arith))
                ∙ S.spelt j x
                ∙ ap (λ n. get_or n j 0) sliced;
            tag = get_or-set_other tagged (12 * k + 10) (12 * k + 9) p 0 (λ e. omega arith) ∙ get_or-set_same d₂ (12 * k + 9) t 0 (omega (arith, F.long)) ∙ tag;
            payload = get_or-set_same tagged (12 * k + 10) p 0 (omega (arith, tagged_long)) ∙ pay;
          }

      pub fill_again : Filling list d now' (r + 1) (k + 1)
      fill_again =
          let after : suc k ≡ k + 1 = omega arith in
          record {
            few = omega arith;
            long = length-set tagged (12 * k + 10) p ∙ tagged_long;
            left = name_after list at r (name k) (listed (drop (suc k) names)) next F.within ends ∙ ap (λ x. listed (drop x names)) after;
            within = omega (arith, fill_inside);
            slots = λ i n x e.
                ⊎_elim
                (λ (y : i < k). written_same (λ j a b. outside j (λ z. omega arith)) (F.slots i n y e))
                (λ (y : k ≤ i).
                let place : k ≡ i = omega arith in
                let same_name : name k ≡ n = some_one (sym (an_element names k [] (omega (arith, names_count))) ∙ ap (get_elem? names) place ∙ e) in
                subst (λ z. Written now' z n) place (subst (Written now' k) same_name written))
                (lt_or_le i k);
            kept = λ i x. outside i (λ z. omega arith) ∙ F.kept i (omega arith);
          }

pub fill_end : {list d d' : List ℕ} {at k : ℕ} → Filling list d d' at k → name_count ≤ k → Filled d d'
fill_end {k = k} F l =
    record {
      slots = λ i n e. F.slots i n (omega (arith, names_count, inside_list names i e)) e;
      kept = λ i x. F.kept i (omega (arith, F.few));
    }

-- Handlers have words of their own.
pub filled_still : {d d₁ d' : List ℕ} → Filled d d₁ → Unhandled d₁ d' → Filled d d'
filled_still F U =
    record {
      slots = λ k n e. written_same (λ j a b. U.kept j (λ x y. omega arith)) (F.slots k n e);
      kept = λ i x. U.kept i (λ y z. omega arith) ∙ F.kept i x;
    }
