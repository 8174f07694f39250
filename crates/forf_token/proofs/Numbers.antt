-- Numbers: Floo's digits with a place and their faults are Forf's without, and the form of a run by its first bytes.
-- Assumes nothing.
use mathlib.Core.Path.{◌≡◌, refl, ap, ◌∙◌}
use mathlib.Core.Bool.{Bool, true, false}
use mathlib.Core.List.{List, [], ◌∷◌}
use Prim.Native.Nat.{ℕ, suc, ◌+◌, ◌-◌, ◌*◌, ◌%◌, ◌^◌, ◌≤◌, ◌<◌}
use native.Mathlib.Omega.{arith}
use lib.IntN.{pos, neg_ℤ}
use Rattle.std.proofs.lemmas.List.{take_all}
use lib.ListN.{length, take, drop, get_or, length-drop}
use lib.Seq.{drop-drop}
use lib.Dec.{leb, ltb, eqb}
use borrow.Author.Tests.{eq-eqb, ne_eqb}
use Rattle.semantics.specs.Words.{word}
use Rattle.semantics.specs.Values.{ok, fault, ◌>>=◌, check}
use Rattle.semantics.specs.Tokens.{Lexing, digit, digits_from, digits}
use Rattle.semantics.specs.Tokens as floo
use Rattle.semantics.specs.declared.Fault.TheVariants.{BadNumber, OverLimit}
use Rattle.semantics.specs.declared.Fault.{Fault}
use Rattle.std.specs.Prelude.{Result as Reply, Ok, Err}
use Rattle.std.specs.Result.{result_or}
use Rattle.token.specs.Numbers.{number_is}
use Rattle.token.specs.Numbers as numbers
use Rattle.token.proofs.Digits.{negation_is}
use Rattle.forf_token.specs.declared.SyntaxError.{SyntaxError as Bad}
use Rattle.forf_semantics.specs.Errors.{Result}
use Rattle.forf_semantics.specs.Tokens.{hexadecimal, octal, plain, form_of, numeral, magnitude, up_to, is_negative}
use Rattle.forf_semantics.specs.Tokens as tokens
use Rattle.forf_semantics.specs.declared.Error.TheVariants.{SyntaxError}
use Rattle.forf_token.specs.Lexing.{read_number, up_to_limit}

-- ---- digits

from_place : (base a b n : ℕ) (s : List ℕ) → numeral (digits_from base a n s) ≡ numeral (digits_from base b n s)
unfolding digits_from numeral
from_place base a b n [] = refl
from_place base a b n (x ∷ s) = by (ltb (digit x) base) (from_place base (suc a) (suc b) (n * base + digit x) s)
  where
    by : (t : Bool) → numeral (digits_from base (suc a) (n * base + digit x) s) ≡ numeral (digits_from base (suc b) (n * base + digit x) s)
        → numeral (elim t [ true ↦ digits_from base (suc a) (n * base + digit x) s | false ↦ fault (BadNumber a) ])
        ≡ numeral (elim t [ true ↦ digits_from base (suc b) (n * base + digit x) s | false ↦ fault (BadNumber b) ])
    by true e = e
    by false e = refl

-- Where the digits stand does not matter.
digits_place : (base a b : ℕ) (s : List ℕ) → numeral (digits base a s) ≡ numeral (digits base b s)
unfolding digits numeral
digits_place base a b [] = refl
digits_place base a b (x ∷ s) = from_place base a b 0 (x ∷ s)

limited : (limit : ℕ) (r : Lexing ℕ) → numeral (r >>= floo.up_to limit) ≡ (numeral r >>= up_to limit)
unfolding numeral floo.up_to up_to check ◌>>=◌
limited limit (ok n) = by (leb n limit)
  where
    by : (t : Bool) → numeral (check t OverLimit >>= λ u. ok n) ≡ (check t SyntaxError >>= λ u. ok n)
    by true = refl
    by false = refl
limited limit (fault e) = refl

-- Floo's number; all that can be wrong with it is a syntaxerror here.
abbrev pub renamed : Reply ℕ Fault → Reply ℕ Bad
renamed n = result_or n (Err (record {}))

read_is : (n : Reply ℕ Fault) → read_number (renamed n) ≡ numeral (number_is n)
unfolding numeral
read_is (Ok w) = refl
read_is (Err f) = refl

-- What Floo's reader of digits answers.
digits_read : (n : Reply ℕ Fault) (base limit place : ℕ) (s : List ℕ) → number_is n ≡ numbers.numeral base limit place s
    → read_number (renamed n) ≡ (numeral (digits base 0 s) >>= up_to limit)
unfolding numbers.numeral
digits_read n base limit place s e =
    read_is n
    ∙ ap numeral e
    ∙ limited limit (digits base place s)
    ∙ ap (λ r. r >>= up_to limit) (digits_place base place 0 s)

-- ---- the form of a run

form_short : (s : List ℕ) → length s < 2 → form_of s ≡ plain
unfolding form_of
form_short [] h = refl
form_short (b ∷ []) h = refl
form_short (b ∷ c ∷ s) h = absurd (omega arith)

form_plain : (s : List ℕ) → 2 ≤ length s → (get_or s 0 0 ≡ 48 → ⊥) → form_of s ≡ plain
unfolding form_of
form_plain [] h n = absurd (omega arith)
form_plain (b ∷ []) h n = absurd (omega arith)
form_plain (b ∷ c ∷ s) h n = rw (ne_eqb b 48 n) refl

form_hexadecimal : (s : List ℕ) → 2 ≤ length s → get_or s 0 0 ≡ 48 → get_or s 1 0 ≡ 120 → form_of s ≡ hexadecimal
unfolding form_of
form_hexadecimal [] h e f = absurd (omega arith)
form_hexadecimal (b ∷ []) h e f = absurd (omega arith)
form_hexadecimal (b ∷ c ∷ s) h e f = rw (e, f) refl

form_octal : (s : List ℕ) → 2 ≤ length s → get_or s 0 0 ≡ 48 → (get_or s 1 0 ≡ 120 → ⊥) → form_of s ≡ octal
unfolding form_of
form_octal [] h e n = absurd (omega arith)
form_octal (b ∷ []) h e n = absurd (omega arith)
form_octal (b ∷ c ∷ s) h e n = rw (e, ne_eqb c 120 n) refl

-- ---- a run without its sign

-- The rest of a run from `at` on, as the code has it.
abbrev pub rest : List ℕ → ℕ → List ℕ
rest s at = take (length s - at) (drop at s)

whole : (s : List ℕ) (at : ℕ) → rest s at ≡ drop at s
whole s at = take_all (length s - at) (drop at s) (omega (arith, length-drop at s))

-- Its form, and what Floo's reader of digits answers for it.
module _ (s : List ℕ) (at limit place : ℕ) (n : Reply ℕ Fault) {r : Reply ℕ Bad} (is : r ≡ renamed n) where
  read_form : (base prefix : ℕ) → number_is n ≡ numbers.numeral base limit place (drop (at + prefix) s)
      → (numeral (digits base 0 (drop (at + prefix) s)) >>= up_to limit) ≡ up_to_limit limit (magnitude (drop at s))
      → read_number r ≡ up_to_limit limit (magnitude (drop at s))
  read_form base prefix e f = ap read_number is ∙ digits_read n base limit place (drop (at + prefix) s) e ∙ f

  plain_form : form_of (rest s at) ≡ plain → number_is n ≡ numbers.numeral 10 limit place (drop (at + 0) s) → read_number r ≡ up_to_limit limit (magnitude (drop at s))
  unfolding magnitude up_to_limit
  plain_form f e = let z : at + 0 ≡ at = omega arith in read_form 10 0 e (rw (z, magnitude, rw (whole s at) at f) refl)

  pub read_short : length (rest s at) < 2 → number_is n ≡ numbers.numeral 10 limit place (drop (at + 0) s) → read_number r ≡ up_to_limit limit (magnitude (drop at s))
  read_short h e = plain_form (form_short (rest s at) h) e

  module _ (h : 2 ≤ length (rest s at)) where
    pub read_plain : (get_or (rest s at) 0 0 ≡ 48 → ⊥) → number_is n ≡ numbers.numeral 10 limit place (drop (at + 0) s)
        → read_number r ≡ up_to_limit limit (magnitude (drop at s))
    read_plain k e = plain_form (form_plain (rest s at) h k) e

    pub read_hexadecimal : get_or (rest s at) 0 0 ≡ 48 → get_or (rest s at) 1 0 ≡ 120 → number_is n ≡ numbers.numeral 16 limit place (drop (at + 2) s)
        → read_number r ≡ up_to_limit limit (magnitude (drop at s))
    unfolding magnitude up_to_limit
    read_hexadecimal k l e = read_form 16 2 e (rw (magnitude, rw (whole s at) at (form_hexadecimal (rest s at) h k l), drop-drop 2 at s) refl)

    pub read_octal : get_or (rest s at) 0 0 ≡ 48 → (get_or (rest s at) 1 0 ≡ 120 → ⊥) → number_is n ≡ numbers.numeral 8 limit place (drop (at + 1) s)
        → read_number r ≡ up_to_limit limit (magnitude (drop at s))
    unfolding magnitude up_to_limit
    read_octal k l e = read_form 8 1 e (rw (magnitude, rw (whole s at) at (form_octal (rest s at) h k l), drop-drop 1 at s) refl)

-- ---- a run with its sign

one_by_one : (r : Result ℕ) → (up_to_limit (2 ^ 31) r >>= λ n. ok (word (neg_ℤ (pos n)))) ≡ (r >>= λ n. up_to (2 ^ 31) n >>= λ m. ok (word (neg_ℤ (pos m))))
unfolding up_to_limit ◌>>=◌
one_by_one (ok n) = refl
one_by_one (fault e) = refl

negative_is : (s : List ℕ) → 0 < length s → is_negative s ≡ eqb (get_or s 0 0) 45
unfolding is_negative
negative_is [] h = absurd (omega arith)
negative_is (b ∷ s) h = refl

unsigned : (s : List ℕ) → (get_or s 0 0 ≡ 45 → ⊥) → is_negative s ≡ false
unfolding is_negative
unsigned [] h = refl
unsigned (b ∷ s) h = ne_eqb b 45 h

pub empty_unsigned : (s : List ℕ) → length s < 1 → get_or s 0 0 ≡ 45 → ⊥
empty_unsigned [] h e = omega arith
empty_unsigned (b ∷ s) h e = omega arith

module _ (s : List ℕ) where
  pub number_plain : (n : Reply ℕ Bad) → (get_or s 0 0 ≡ 45 → ⊥) → read_number n ≡ up_to_limit 2147483647 (magnitude s) → read_number n ≡ tokens.number s
  unfolding tokens.number up_to_limit
  number_plain n k e = e ∙ rw (tokens.number, unsigned s k) refl

  module _ (h : length s ≡ 0 → ⊥) (k : get_or s 0 0 ≡ 45) where
    signed : (up_to_limit (2 ^ 31) (magnitude (drop 1 s)) >>= λ m. ok (word (neg_ℤ (pos m)))) ≡ tokens.number s
    unfolding tokens.number
    signed = one_by_one (magnitude (drop 1 s)) ∙ rw (tokens.number, negative_is s (omega arith), eq-eqb (get_or s 0 0) 45 k) refl

    pub number_negative : {n m : ℕ} → read_number (Ok n) ≡ up_to_limit 2147483648 (magnitude (drop 1 s))
        → n < 2 ^ 32 → m < 2 ^ 32 → (m + n) % 2 ^ 32 ≡ 0 → read_number (Ok m) ≡ tokens.number s
    unfolding ◌>>=◌
    number_negative {n} {m} e f g z = ap ok (negation_is n m f g z) ∙ ap (λ t. t >>= λ m. ok (word (neg_ℤ (pos m)))) e ∙ signed

    pub number_fault : fault SyntaxError ≡ up_to_limit 2147483648 (magnitude (drop 1 s)) → fault SyntaxError ≡ tokens.number s
    unfolding ◌>>=◌
    number_fault e = ap (λ t. t >>= λ m. ok (word (neg_ℤ (pos m)))) e ∙ signed
