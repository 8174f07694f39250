-- The row of the error whose name has a slot: the names of errors are gone through one after another, and none before is the slot's.
-- Assumes nothing.
use Rattle.std.specs.Prelude.{Option, Some, None, IfSome, unwrap_or}
use mathlib.Core.Path.{◌≡◌, refl, sym, ap, ◌∙◌, subst}
use mathlib.Core.Bool.{Bool, true, false, not}
use mathlib.Core.List.{List, [], ◌∷◌, ◌++◌}
use mathlib.Core.Logic.{⊎_elim}
use mathlib.Core.Option.{some}
use Prim.Native.Nat.{ℕ, suc, ◌+◌, ◌-◌, ◌≤◌, ◌<◌}
use native.Mathlib.Omega.{arith}
use lib.Dec.{T}
use lib.ListN.{length, get_or, take, drop, get_elem?}
use lib.Seq.{drop-cons}
use Rattle.semantics.specs.Sizes.{error_count, name_most}
use Rattle.semantics.specs.Text.{textual, same}
use Rattle.semantics.specs.Errors.{error_names}
use Rattle.semantics.specs.Machine as Floo
use Rattle.semantics.specs.ListLaws.{every, an_element, inside_list, some_one}
use Rattle.semantics.specs.NameLaws.{error_count_lem}
use Rattle.semantics.specs.SameLaws.{same_refl, same_equal}
use Rattle.heap.proofs.Since.{lt_or_le}
use Rattle.machine.specs.Places.{keys}
use Rattle.machine.specs.Rep.{Rep}
use Rattle.machine.specs.declared.Machine.{Machine}
use Rattle.dictionary.specs.Listing.{listed, Ends, IsNamed}
use Rattle.dictionary.proofs.Blanks.{Plain, plain, plain_at, room, name_end, name_slice, name_after}
use Rattle.handlers.specs.Handling.{NamesRow}

abbrev name : ℕ → List ℕ
name j = get_or error_names j []

all_plain : every plain error_names ≡ true
unfolding error_names textual
all_plain = refl

pub name_is : (j : ℕ) → j < error_count → get_elem? error_names j ≡ some (name j)
name_is j l = an_element error_names j [] (omega (arith, error_count_lem))

name_plain : (j : ℕ) → j < error_count → Plain (name j)
name_plain j l = plain_at error_names all_plain j (name j) (name_is j l)

-- No name before the j-th is that of slot k.
pub record Searching (list d : List ℕ) (k at j : ℕ) : Type 0 where
  pub few : j ≤ error_count
  pub left : drop at list ≡ listed (drop j error_names)
  pub within : at ≤ length list
  pub none : (i : ℕ) → i < j → (m : Machine) (s e c l : List ℕ) (μ : Floo.Machine) → Rep m s e d c l μ → get_elem? (keys μ) k ≡ some (name i) → ⊥

pub search_begin : {list d : List ℕ} {k : ℕ} → list ≡ listed error_names → Searching list d k 0 0
search_begin e = record { few = omega arith; left = e; within = omega arith; none = λ i l. absurd (omega arith) }

module _ {list d : List ℕ} {k at j : ℕ} (S : Searching list d k at j) (l : j < error_count) where
  next : drop at list ≡ name j ++ (32 ∷ listed (drop (suc j) error_names))
  unfolding listed
  next = S.left ∙ ap listed (drop-cons error_names j [] (omega (arith, error_count_lem)))

  module _ {r : ℕ} (E : Ends list at r) where
    ends : r ≡ at + length (name j)
    ends = name_end list at r (name j) (listed (drop (suc j) error_names)) next S.within (name_plain j l) E

    pub search_inside : r < length list
    search_inside = omega (arith, ends, room list at r (name j) (listed (drop (suc j) error_names)) next S.within)

    sliced : take (r - at) (drop at list) ≡ name j
    sliced = name_slice list at r (name j) (listed (drop (suc j) error_names)) next S.within ends

    pub search_short : length (take (r - at) (drop at list)) ≤ name_most
    search_short = omega (arith, ap length sliced, (name_plain j l).short)

    -- The slot has the j-th name.
    pub search_found : {t : Bool} → IsNamed d k (take (r - at) (drop at list)) t → t ≡ true → NamesRow d k j
    search_found {t} N is =
        record {
          few = S.few;
          here = λ m s e c x μ R n key low.
              let equal : name j ≡ n = same_equal (name j) n (ap (λ y. same y n) (sym sliced) ∙ sym (N.says m s e c x μ R n key) ∙ is) in
              name_is j l ∙ ap some equal;
          nowhere = λ m s e c x μ R n key high. absurd (omega arith);
        }

    -- It has another.
    pub search_again : {t : Bool} → IsNamed d k (take (r - at) (drop at list)) t → t ≡ false → Searching list d k (r + 1) (j + 1)
    search_again {t} N is =
        let after : suc j ≡ j + 1 = omega arith in
        record {
          few = omega arith;
          left = name_after list at r (name j) (listed (drop (suc j) error_names)) next S.within ends ∙ ap (λ x. listed (drop x error_names)) after;
          within = omega (arith, search_inside);
          none = λ i x m s e c y μ R key.
              ⊎_elim
              (λ (z : i < j). S.none i z m s e c y μ R key)
              (λ (z : j ≤ i).
              let place : i ≡ j = omega arith in
              let told = N.says m s e c y μ R (name j) (key ∙ ap (λ u. some (name u)) place) in
              let here : same (take (r - at) (drop at list)) (name j) ≡ true = ap (λ u. same u (name j)) sliced ∙ same_refl (name j) in
              let clash : false ≡ true = sym is ∙ told ∙ here in
              absurd (subst (λ b. T (not b)) clash tt))
              (lt_or_le i j);
        }

pub search_end : {list d : List ℕ} {k at j : ℕ} → Searching list d k at j → error_count ≤ j → NamesRow d k j
search_end {j = j} S high =
    record {
      few = S.few;
      here = λ m s e c x μ R n key low. absurd (omega arith);
      nowhere = λ m s e c x μ R n key all i q.
          let inside : i < error_count = omega (arith, inside_list error_names i q, error_count_lem) in
          let same_name : n ≡ name i = some_one (sym q ∙ name_is i inside) in
          S.none i (omega arith) m s e c x μ R (key ∙ ap some same_name);
    }

-- ---- what `row_named` answers

module _ {d : List ℕ} {k : ℕ} {r : Option ℕ} (X : NamesRow d k (unwrap_or r error_count)) where
  pub some_row : {j : ℕ} → IfSome r (λ i. i < error_count) → r ≡ Some j → NamesRow d k j × (j < error_count)
  some_row low q = (subst (λ x. NamesRow d k (unwrap_or x error_count)) q X, subst (λ x. IfSome x (λ i. i < error_count)) q low)

  pub no_row : r ≡ None → NamesRow d k error_count
  no_row q = subst (λ x. NamesRow d k (unwrap_or x error_count)) q X
