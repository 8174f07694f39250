-- Numbers: how one begins, its form, its digits read from left to right with the value kept over the limit, and its 32 bits.
-- Assumes nothing.
use mathlib.Core.Path.{◌≡◌, refl, sym, ap, subst, ◌∙◌}
use mathlib.Core.Bool.{Bool, true, false, not, cond, false≢true}
use mathlib.Core.List.{List, [], ◌∷◌}
use Prim.Native.Nat.{ℕ, zero, suc, ◌+◌, ◌-◌, ◌*◌, ◌%◌, ◌^◌, ◌≤◌, ◌<◌}
use native.Mathlib.Nat.{mul-le-mul, le-mul_of_pos_right}
use native.Mathlib.Numerals.{add-one}
use native.Mathlib.Omega.{arith}
use lib.IntN.{pos, neg_ℤ}
use lib.ListN.{length, drop, get_or, drop_of_length-le}
use lib.Seq.{drop-cons}
use lib.Dec.{T, ltb, ltb→lt, nltb→le}
use borrow.Author.Tests.{lt-ltb, le-ltb, le-leb, lt-leb, ne_eqb}
use Rattle.semantics.specs.Values.{ok, fault, ◌>>=◌, check}
use Rattle.semantics.specs.Words.{word}
use Rattle.semantics.specs.Tokens.{Lexing, is_digit, within, digit, digits, digits_from, up_to, starts_number, signs, form_of, number}
use Rattle.semantics.specs.Tokens as tokens
use Rattle.semantics.proofs.TokenLaws.{signs_le}
use Rattle.semantics.specs.declared.Fault.{Fault}
use Rattle.semantics.specs.declared.Fault.TheVariants.{BadNumber, OverLimit}
use Rattle.token.specs.Numbers.{with_digit, numeral}

-- ---- how a number begins

pub starts_none : (s : List ℕ) → length s ≡ 0 → false ≡ starts_number s
unfolding starts_number
starts_none [] e = refl
starts_none (b ∷ s) e = absurd (omega arith)

module _ (t : Bool) where
  pub starts_digit : (s : List ℕ) → (length s ≡ 0 → ⊥) → t ≡ is_digit (get_or s 0 0) → t ≡ true → true ≡ starts_number s
  unfolding starts_number
  starts_digit [] h e f = absurd (h refl)
  starts_digit (b ∷ []) h e f = sym (sym e ∙ f)
  starts_digit (b ∷ c ∷ s) h e f = rw (sym e ∙ f)

  pub starts_alone : (s : List ℕ) → length s ≡ 1 → t ≡ is_digit (get_or s 0 0) → t ≡ false → false ≡ starts_number s
  unfolding starts_number
  starts_alone [] h e f = absurd (omega arith)
  starts_alone (b ∷ []) h e f = sym (sym e ∙ f)
  starts_alone (b ∷ c ∷ s) h e f = absurd (omega arith)

  pub starts_other : (s : List ℕ) → (length s ≡ 0 → ⊥) → (length s ≡ 1 → ⊥)
      → t ≡ is_digit (get_or s 0 0) → t ≡ false → (get_or s 0 0 ≡ 45 → ⊥) → false ≡ starts_number s
  unfolding starts_number
  starts_other [] h k e f g = absurd (h refl)
  starts_other (b ∷ []) h k e f g = absurd (k refl)
  starts_other (b ∷ c ∷ s) h k e f g = rw (sym e ∙ f, ne_eqb b 45 g)

  pub starts_minus : (s : List ℕ) (r : Bool) → (length s ≡ 0 → ⊥) → (length s ≡ 1 → ⊥)
      → t ≡ is_digit (get_or s 0 0) → t ≡ false → get_or s 0 0 ≡ 45 → r ≡ is_digit (get_or s 1 0) → r ≡ starts_number s
  unfolding starts_number
  starts_minus [] r h k e f g i = absurd (h refl)
  starts_minus (b ∷ []) r h k e f g i = absurd (k refl)
  starts_minus (b ∷ c ∷ s) r h k e f g i = rw g i

pub signs_none : (s : List ℕ) → length s ≡ 0 → 0 ≡ signs s
unfolding signs
signs_none [] e = refl
signs_none (b ∷ s) e = absurd (omega arith)

module _ (t : Bool) where
  pub signs_digit : (s : List ℕ) → t ≡ is_digit (get_or s 0 0) → t ≡ true → 0 ≡ signs s
  unfolding signs
  signs_digit [] e f = refl
  signs_digit (b ∷ s) e f = rw (sym e ∙ f)

  pub signs_other : (s : List ℕ) → (length s ≡ 0 → ⊥) → t ≡ is_digit (get_or s 0 0) → t ≡ false → 1 ≡ signs s
  unfolding signs
  signs_other [] h e f = absurd (h refl)
  signs_other (b ∷ s) h e f = rw (sym e ∙ f)

pub signs_few : {n : ℕ} (s : List ℕ) → n ≡ signs s → n ≤ 1
signs_few s e = subst (λ k. k ≤ 1) (sym e) (signs_le s).0

-- ---- its form

pub form_short : (s : List ℕ) → length s < 2 → tokens.plain ≡ form_of s
unfolding form_of
form_short [] h = refl
form_short (b ∷ []) h = refl
form_short (b ∷ c ∷ s) h = absurd (omega arith)

pub form_negative : (s : List ℕ) → 2 ≤ length s → get_or s 0 0 ≡ 45 → tokens.negative ≡ form_of s
unfolding form_of
form_negative [] h e = absurd (omega arith)
form_negative (b ∷ []) h e = absurd (omega arith)
form_negative (b ∷ c ∷ s) h e = rw e

pub form_plain : (s : List ℕ) → 2 ≤ length s → (get_or s 0 0 ≡ 45 → ⊥) → (get_or s 0 0 ≡ 48 → ⊥) → tokens.plain ≡ form_of s
unfolding form_of
form_plain [] h e f = absurd (omega arith)
form_plain (b ∷ []) h e f = absurd (omega arith)
form_plain (b ∷ c ∷ s) h e f = rw (ne_eqb b 45 e, ne_eqb b 48 f)

pub form_hexadecimal : (s : List ℕ) → 2 ≤ length s → get_or s 0 0 ≡ 48 → get_or s 1 0 ≡ 120 → tokens.hexadecimal ≡ form_of s
unfolding form_of
form_hexadecimal [] h e f = absurd (omega arith)
form_hexadecimal (b ∷ []) h e f = absurd (omega arith)
form_hexadecimal (b ∷ c ∷ s) h e f = rw (e, f)

pub form_zero : (s : List ℕ) → 2 ≤ length s → get_or s 0 0 ≡ 48 → (get_or s 1 0 ≡ 120 → ⊥) → tokens.plain ≡ form_of s
unfolding form_of
form_zero [] h e f = absurd (omega arith)
form_zero (b ∷ []) h e f = absurd (omega arith)
form_zero (b ∷ c ∷ s) h e f = rw (e, ne_eqb c 120 f)

abbrev signed : tokens.Form → Bool
signed tokens.negative = true
signed tokens.hexadecimal = true
signed tokens.plain = false

-- A form that is not the plain one has two bytes before its digits, or one and a digit.
pub form_long : (f : tokens.Form) (s : List ℕ) → f ≡ form_of s → signed f ≡ true → 2 ≤ length s
unfolding form_of
form_long f [] e k = absurd (false≢true (sym (ap signed e) ∙ k))
form_long f (b ∷ []) e k = absurd (false≢true (sym (ap signed e) ∙ k))
form_long f (b ∷ c ∷ s) e k = omega arith

-- ---- a digit

pub digit_decimal : (b : ℕ) (t : Bool) → t ≡ is_digit b → t ≡ true → b - 48 ≡ digit b
unfolding digit
digit_decimal b t e f = rw (sym e ∙ f)

module _ (b : ℕ) (t u : Bool) (e : t ≡ is_digit b) (f : t ≡ false) (g : u ≡ within 97 102 b) where
  pub digit_lower : u ≡ true → b - 87 ≡ digit b
  unfolding digit
  digit_lower h = rw (sym e ∙ f, sym g ∙ h)

  pub digit_upper : (v : Bool) → u ≡ false → v ≡ within 65 70 b → v ≡ true → b - 55 ≡ digit b
  unfolding digit
  digit_upper v h i j = rw (sym e ∙ f, sym g ∙ h, sym i ∙ j)

  pub digit_none : (v : Bool) → u ≡ false → v ≡ within 65 70 b → v ≡ false → 16 ≡ digit b
  unfolding digit
  digit_none v h i j = rw (sym e ∙ f, sym g ∙ h, sym i ∙ j)

-- ---- one digit more

pub digit_stays : (limit base n d : ℕ) → limit < n → n ≡ with_digit limit base n d
unfolding with_digit
digit_stays limit base n d h = rw (lt-ltb limit n h)

pub digit_more : (limit base n d : ℕ) → n ≤ limit → n * base + d ≡ with_digit limit base n d
unfolding with_digit
digit_more limit base n d h = rw (le-ltb limit n h)

pub product_fits : (limit base n : ℕ) → limit < 2 ^ 32 → base ≤ 16 → n ≤ limit → n * base ≤ 2 ^ 36
product_fits limit base n h k l = let m : n ≤ 2 ^ 32 = omega arith in mul-le-mul m k

-- ---- the digits

-- That a test for being over the limit is right.
abbrev Over : Bool → ℕ → ℕ → Type 0
Over true limit n = limit < n
Over false limit n = n ≤ limit

test : (limit n : ℕ) → Over (ltb limit n) limit n
test limit n = by (ltb limit n) (ltb→lt limit n) (nltb→le limit n)
  where
    by : (t : Bool) → (T t → limit < n) → (T (not t) → n ≤ limit) → Over t limit n
    by true f g = f tt
    by false f g = g tt

-- What the digits left give, the first of them at the offset `at`, where those before them gave n.
pub judged : ℕ → ℕ → ℕ → ℕ → List ℕ → Lexing ℕ
judged base limit at n s = digits_from base at n s >>= up_to limit

over_limit : (limit n : ℕ) → limit < n → up_to limit n ≡ fault OverLimit
unfolding up_to check ◌>>=◌
over_limit limit n h = rw (lt-leb n limit h)

judged_bad : (base limit at n b : ℕ) (s : List ℕ) → base ≤ digit b → judged base limit at n (b ∷ s) ≡ fault (BadNumber at)
unfolding judged digits_from ◌>>=◌
judged_bad base limit at n b s h = rw (le-ltb (digit b) base h, digits_from)

judged_good : (base limit at n b : ℕ) (s : List ℕ) → digit b < base → judged base limit at n (b ∷ s) ≡ judged base limit (suc at) (n * base + digit b) s
unfolding judged digits_from
judged_good base limit at n b s h = rw (lt-ltb (digit b) base h, digits_from)

-- Over the limit the value does not matter.
over : (base limit : ℕ) → 0 < base → (at : ℕ) (s : List ℕ) (n m : ℕ) → limit < n → limit < m → judged base limit at n s ≡ judged base limit at m s
unfolding judged digits_from ◌>>=◌
over base limit p at [] n m h k = over_limit limit n h ∙ sym (over_limit limit m k)
over base limit p at (b ∷ s) n m h k =
    by (ltb (digit b) base) (over base limit p (suc at) s (n * base + digit b) (m * base + digit b) (more n h) (more m k))
  where
    more : (n : ℕ) → limit < n → limit < n * base + digit b
    more n h = let q : n ≤ n * base = le-mul_of_pos_right n p in omega arith

    by : (t : Bool) → judged base limit (suc at) (n * base + digit b) s ≡ judged base limit (suc at) (m * base + digit b) s
        → (elim t as (λ _. Lexing ℕ) [ true ↦ digits_from base (suc at) (n * base + digit b) s | false ↦ fault (BadNumber at) ] >>= up_to limit)
        ≡ (elim t as (λ _. Lexing ℕ) [ true ↦ digits_from base (suc at) (m * base + digit b) s | false ↦ fault (BadNumber at) ] >>= up_to limit)
    by true e = e
    by false e = refl

-- A run whose first byte is at `start` in the script.
module _ (s : List ℕ) (start base limit : ℕ) where
  pub numeral_none : (at : ℕ) → length s ≤ at → fault (BadNumber (start + at)) ≡ numeral base limit (start + at) (drop at s)
  unfolding numeral digits ◌>>=◌
  numeral_none at h = rw (drop_of_length-le s h)

  pub numeral_start : (at : ℕ) → at < length s → numeral base limit (start + at) (drop at s) ≡ judged base limit (start + at) 0 (drop at s)
  unfolding numeral digits judged
  numeral_start at h = rw (drop-cons s at 0 h)

  module _ (total : Lexing ℕ) (i n : ℕ) (inv : total ≡ judged base limit (start + i) n (drop i s)) where
    pub numeral_bad : (d : ℕ) → i < length s → d ≡ digit (get_or s i 0) → base ≤ d → fault (BadNumber (start + i)) ≡ total
    numeral_bad d h e k = sym (inv ∙ rw (drop-cons s i 0 h) (judged_bad base limit (start + i) n (get_or s i 0) (drop (suc i) s) (rw (sym e) k)))

    pub numeral_turn : (d m : ℕ) → 0 < base → i < length s → d ≡ digit (get_or s i 0) → d < base → m ≡ with_digit limit base n d
        → total ≡ judged base limit (start + (i + 1)) m (drop (i + 1) s)
    unfolding with_digit
    numeral_turn d m p h e k f =
        let further : suc (start + i) ≡ start + (i + 1) = omega arith in
        inv ∙ rw (drop-cons s i 0 h)
        (judged_good base limit (start + i) n (get_or s i 0) (drop (suc i) s) (rw (sym e) k) ∙ rw (sym e, f) (by (ltb limit n) (test limit n)))
        ∙ ap (λ (o : ℕ). judged base limit o m (drop (suc i) s)) further
        ∙ ap (λ (j : ℕ). judged base limit (start + (i + 1)) m (drop j s)) (sym (add-one i))
      where
        by : (t : Bool) → Over t limit n
            → judged base limit (suc (start + i)) (n * base + d) (drop (suc i) s)
            ≡ judged base limit (suc (start + i)) (cond t n (n * base + d)) (drop (suc i) s)
        by true q = over base limit p (suc (start + i)) (drop (suc i) s) (n * base + d) n (let r : n ≤ n * base = le-mul_of_pos_right n p in omega arith) q
        by false q = refl

    pub numeral_over : length s ≤ i → limit < n → fault OverLimit ≡ total
    unfolding judged digits_from ◌>>=◌
    numeral_over h k = sym (inv ∙ rw (drop_of_length-le s h) (over_limit limit n k))

    pub numeral_end : length s ≤ i → n ≤ limit → ok n ≡ total
    unfolding judged digits_from up_to check ◌>>=◌
    numeral_end h k = sym (inv ∙ rw (drop_of_length-le s h, le-leb n limit k))

-- ---- the 32 bits

-- The 32 bits of a number's negation.
unfoldable negation : Lexing ℕ → Lexing ℕ
negation r = r >>= λ n. ok (word (neg_ℤ (pos n)))

-- Two numbers whose sum is 0 modulo 2 ^ 32 are each other's negation.
pub negation_is : (w m : ℕ) → w < 2 ^ 32 → m < 2 ^ 32 → (m + w) % 2 ^ 32 ≡ 0 → m ≡ word (neg_ℤ (pos w))
unfolding word
negation_is zero m h k e = omega arith
negation_is (suc w) m h k e = omega arith

associates : (r : Lexing ℕ) (f g : ℕ → Lexing ℕ) → (r >>= f >>= g) ≡ (r >>= λ n. f n >>= g)
unfolding ◌>>=◌
associates (ok a) f g = refl
associates (fault e) f g = refl

module _ (at : ℕ) (s : List ℕ) where
  number_negation : tokens.negative ≡ form_of s → negation (numeral 10 2147483648 (at + 1) (drop 1 s)) ≡ number at s
  unfolding negation numeral number
  number_negation e = rw (sym e, number) (associates (digits 10 (at + 1) (drop 1 s)) (up_to 2147483648) (λ n. ok (word (neg_ℤ (pos n)))))

  pub number_fault : {f : Fault} → tokens.negative ≡ form_of s → fault f ≡ numeral 10 2147483648 (at + 1) (drop 1 s) → fault f ≡ number at s
  unfolding negation ◌>>=◌
  number_fault e g = ap negation g ∙ number_negation e

  pub number_negative : {n m : ℕ} → tokens.negative ≡ form_of s → ok n ≡ numeral 10 2147483648 (at + 1) (drop 1 s)
      → n < 2 ^ 32 → m < 2 ^ 32 → (m + n) % 2 ^ 32 ≡ 0 → ok m ≡ number at s
  unfolding negation ◌>>=◌
  number_negative {n} {m} e g h k z = ap ok (negation_is n m h k z) ∙ ap negation g ∙ number_negation e

  pub number_hexadecimal : tokens.hexadecimal ≡ form_of s → numeral 16 4294967295 (at + 2) (drop 2 s) ≡ number at s
  unfolding numeral number
  number_hexadecimal e = rw (sym e, number)

  pub number_plain : tokens.plain ≡ form_of s → numeral 10 2147483647 (at + 0) (drop 0 s) ≡ number at s
  unfolding numeral number
  number_plain e = let z : at + 0 ≡ at = omega arith in rw (sym e, number, z)
