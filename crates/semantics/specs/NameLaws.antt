-- There are as many operators, predefined names and names of errors as 01 and 02 say (House rules; W1, W4, W5 and W7), all different: no text has two places among them.
-- Assumes nothing.
use Rattle.std.specs.Prelude.{◌≡◌, refl, Bool, true, not, ◌&&◌, List, [], ◌∷◌, map, ℕ, zero, suc, T, length}
use Rattle.std.proofs.Common.{sym, ap, ◌∙◌, subst}
use Rattle.std.proofs.Math.Option.{some}
use Rattle.std.proofs.Math.ListN.{get_elem?}
use Rattle.semantics.specs.Sizes.{operator_count, name_count, error_count}
use Rattle.semantics.specs.Text.{textual, same}
use Rattle.semantics.specs.Errors.{error_names}
use Rattle.semantics.specs.Machine.{Slot}
use Rattle.semantics.specs.Operators.{Entry, ◌is◌, table}
use Rattle.semantics.specs.Steps.{slot, predefined}
use Rattle.semantics.specs.ListLaws.{every, all_every, at_all, none_some, both}
use Rattle.semantics.specs.SameLaws.{same_refl}

-- No text stands twice.
abbrev pub different : List (List ℕ) → Bool
different [] = true
different (t ∷ ts) = every (λ u. not (same t u)) ts && different ts

pub operator_count_lem : length table ≡ operator_count
unfolding table
operator_count_lem = refl

pub operators_differ : different (map (λ (e : Entry). e.title) table) ≡ true
unfolding table ◌is◌ textual
operators_differ = refl

pub name_count_lem : length predefined ≡ name_count
unfolding predefined table
name_count_lem = refl

pub names_differ : different (map (λ (s : Slot). s.key) predefined) ≡ true
unfolding predefined slot table ◌is◌ textual
names_differ = refl

-- The faults of tokens and the errors; limitcheck is both.
pub error_count_lem : length error_names ≡ error_count
unfolding error_names
error_count_lem = refl

pub errors_differ : different error_names ≡ true
unfolding error_names textual
errors_differ = refl

-- ---- places

-- No text has two places.
abbrev pub Distinct : List (List ℕ) → Type 0
Distinct ks = (i j : ℕ) (n : List ℕ) → get_elem? ks i ≡ some n → get_elem? ks j ≡ some n → i ≡ j

again : (k : List ℕ) (ks : List (List ℕ)) → T (every (λ u. not (same k u)) ks && different ks) → (j : ℕ) → get_elem? ks j ≡ some k → ⊥
again k ks t j e =
    subst (λ b. T (not b)) (same_refl k) (at_all (all_every (λ u. not (same k u)) ks (both (every (λ u. not (same k u)) ks) (different ks) t).0) j k e)

differ_distinct : (ks : List (List ℕ)) → T (different ks) → Distinct ks
differ_distinct [] t i j n p q = absurd (none_some p)
differ_distinct (k ∷ ks) t zero zero n p q = refl
differ_distinct (k ∷ ks) t zero (suc j) n p q = absurd (again k ks t j (q ∙ sym p))
differ_distinct (k ∷ ks) t (suc i) zero n p q = absurd (again k ks t i (p ∙ sym q))
differ_distinct (k ∷ ks) t (suc i) (suc j) n p q = ap suc (differ_distinct ks (both (every (λ u. not (same k u)) ks) (different ks) t).1 i j n p q)

pub distinct : (ks : List (List ℕ)) → different ks ≡ true → Distinct ks
distinct ks e = differ_distinct ks (subst T (sym e) tt)

pub errors_distinct : Distinct error_names
errors_distinct = distinct error_names errors_differ
