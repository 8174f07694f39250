-- Space, comment and runs of name bytes: what is left of each from an offset on.
-- Assumes nothing.
use mathlib.Core.Path.{◌≡◌, refl, sym, ◌∙◌}
use mathlib.Core.Bool.{Bool, true, false, not, cond}
use mathlib.Core.List.{List, [], ◌∷◌}
use Prim.Native.Nat.{ℕ, suc, ◌+◌, ◌≤◌, ◌<◌}
use native.Mathlib.Omega.{arith}
use native.Mathlib.Numerals.{add-one}
use lib.ListN.{length, take, drop, get_or, drop_of_length-le}
use lib.Seq.{drop-cons}
use Rattle.std.specs.List.{position_or_len}
use Rattle.std.specs.Prelude.{Option, unwrap_or, Some, None, ltb}
use Rattle.std.proofs.lemmas.Grind.{common_steps}
use Rattle.std.proofs.lemmas.List.{take_all}
use Rattle.std.proofs.lemmas.List.Sums.{prefix_len-le-length}
use Rattle.std.proofs.lemmas.List.Recursion.{is_position_or_len}
use Rattle.semantics.specs.Tokens.{is_name_byte, is_blank, comment_after, blanks, blanks_in, run}

-- A count over the bytes from i on that is `total` with what is before: at a byte that counts it goes on, at another it stops, and at
-- the end it is done. `rest` counts the bytes left; it may change with a byte.
module _ (s : List ℕ) (total i : ℕ) (rest : List ℕ → ℕ) (inv : total ≡ i + rest (drop i s)) where
  pub goes_on_lem : (more : List ℕ → ℕ) → i < length s → ((t : List ℕ) → rest (get_or s i 0 ∷ t) ≡ suc (more t))
      → total ≡ i + 1 + more (drop (i + 1) s)
  goes_on_lem more h e = inv ∙ rw (drop-cons s i 0 h, e (drop (suc i) s), add-one i) (omega arith)

  pub stops : i < length s → ((t : List ℕ) → rest (get_or s i 0 ∷ t) ≡ 0) → i ≡ total
  stops h e = sym (inv ∙ rw (drop-cons s i 0 h, e (drop (suc i) s)) (omega arith))

  pub ends : i ≡ length s → rest [] ≡ 0 → length s ≡ total
  ends h e = let over : length s ≤ i = omega arith in sym (inv ∙ rw (drop_of_length-le s over, e) (omega arith))

-- ---- space and comment

pub blank_go : (c : Bool) (b : ℕ) → is_blank c b ≡ true → (s : List ℕ) → blanks_in c (b ∷ s) ≡ suc (blanks_in (comment_after c b) s)
unfolding blanks_in
blank_go c b e s = rw (e, blanks_in)

pub blank_stop : (c : Bool) (b : ℕ) → is_blank c b ≡ false → (s : List ℕ) → blanks_in c (b ∷ s) ≡ 0
unfolding blanks_in
blank_stop c b e s = rw (e, blanks_in)

pub blank_none : (c : Bool) → blanks_in c [] ≡ 0
unfolding blanks_in
blank_none c = refl

pub blank_start : (s : List ℕ) (at : ℕ) → at + blanks (drop at s) ≡ at + blanks_in false (drop at s)
unfolding blanks
blank_start s at = refl

-- ---- the first byte that passes a test

unwrap_cut : (a n : ℕ) → a ≤ n → unwrap_or (cond (ltb a n) (Some a) None) n ≡ a
unwrap_cut a n h = grind (arith, common_steps)

-- What an iterator's `position` over the rest of a script gives, or else the length of the rest.
pub first_place : (p : ℕ → Bool) (s : List ℕ) (n : ℕ) (r : Option ℕ) → length s ≤ n
    → r ≡ cond (ltb (position_or_len p (take n s)) (length (take n s))) (Some (position_or_len p (take n s))) None
    → unwrap_or r (length (take n s)) ≡ position_or_len p s
first_place p s n r h e =
    let all = take_all n s h in
    rw e (rw all (unwrap_cut (position_or_len p s) (length s) (prefix_len-le-length _ s)))

-- ---- runs of name bytes

pub run_go : (b : ℕ) → is_name_byte b ≡ true → (s : List ℕ) → run (b ∷ s) ≡ suc (run s)
unfolding run
run_go b e s = rw (e, run)

-- A run ends at the first byte that is no name byte.
pub run_position : (s : List ℕ) → run s ≡ position_or_len (λ b. not (is_name_byte b)) s
unfolding run
run_position = is_position_or_len run (λ b. not (is_name_byte b)) refl step
  where
    step : (b : ℕ) (s : List ℕ) → run (b ∷ s) ≡ cond (not (is_name_byte b)) 0 (1 + run s)
    step b s = by (is_name_byte b)
      where
        by : (t : Bool) → elim t as (λ _. ℕ) [ true ↦ suc (run s) | false ↦ 0 ] ≡ cond (not t) 0 (1 + run s)
        by true = omega arith
        by false = refl
