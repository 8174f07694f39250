-- Laws of 32-bit words: what the machine's unsigned operations give is what the definition asks. By cases on the operands' signs; the rest is arithmetic.
-- Assumes nothing.
use Rattle.std.proofs.Common.{◌≡◌, ℕ, zero, suc, ◌+◌, ◌-◌, ◌*◌, ◌/◌, ◌%◌, ◌^◌, ◌<◌, ◌≤◌, Bool, true, false, cond, not, T, ltb, ℤ, pos, negsuc, ◌+ℤ◌, ◌-ℤ◌, ◌*ℤ◌, neg_ℤ, sym, ap, ◌∙◌, mod-eq_of_lt, mul_comm, add-mul, mul-add, arith, ltb→lt, nltb→le, ltb-true, le-ltb, lt-ltb}
use lib.IntN.{sub_ℕ, +ℤ_idl}
use Rattle.semantics.specs.Words.{signed, word, in_range, shift}
pub use Rattle.semantics.specs.WordLaws.{signed_low, signed_high, Sign, low, high, sign}

-- ---- signs

-- What an operator gets that reads a word and writes it back, as the definition's bitshift does.
pub word_signed : (w : ℕ) → w < 2 ^ 32 → word (signed w) ≡ w
unfolding word
word_signed w h = by (sign w h)
  where
    by : Sign w → word (signed w) ≡ w
    by (low l e) = rw (e, word) (omega arith)
    by (high k l s e) = rw (e, word) (omega arith)

-- An integer of 32 bits is read back from its word.
pub signed_word : (z : ℤ) → in_range z ≡ true → signed (word z) ≡ z
unfolding word in_range
signed_word (pos n) h =
    let l = ltb-true n (2 ^ 31) h in
    signed_low (n % 2 ^ 32) (omega (arith, l)) ∙ ap pos (omega (arith, l))
signed_word (negsuc n) h =
    let l = ltb-true n (2 ^ 31) h in
    signed_high (2 ^ 32 - suc (n % 2 ^ 32)) (omega (arith, l)) (omega (arith, l)) ∙ ap negsuc (omega (arith, l))

-- ---- sums

-- a - b, where u + b is a and some times 2 ^ 32.
word_subℕ : (a b u q : ℕ) → u + b ≡ a + q * 2 ^ 32 → word (sub_ℕ a b) ≡ u % 2 ^ 32
unfolding word
word_subℕ a b u q h = by (ltb a b) (ltb→lt a b) (nltb→le a b)
  where
    by : (t : Bool) → (T t → a < b) → (T (not t) → b ≤ a) → word (cond t (negsuc (b - suc a)) (pos (a - b))) ≡ u % 2 ^ 32
    by true f g = let l : a < b = f tt in omega arith
    by false f g = let l : b ≤ a = g tt in omega arith

pub word_add : (a b : ℕ) → a < 2 ^ 32 → b < 2 ^ 32 → word (signed a +ℤ signed b) ≡ (a + b) % 2 ^ 32
unfolding word
word_add a b g h = by (sign a g) (sign b h)
  where
    by : Sign a → Sign b → word (signed a +ℤ signed b) ≡ (a + b) % 2 ^ 32
    by (low l e) (low m f) = rw (e, f)
    by (low l e) (high j m s f) = rw (e, f) (word_subℕ a (suc j) (a + b) 1 (omega arith))
    by (high k l r e) (low m f) = rw (e, f) (word_subℕ b (suc k) (a + b) 1 (omega arith))
    by (high k l r e) (high j m s f) = rw (e, f) (omega arith)

-- As the machine's contract has it: the r that b added to wraps back to a.
pub word_sub : (a b r : ℕ) → a < 2 ^ 32 → b < 2 ^ 32 → r < 2 ^ 32 → (r + b) % 2 ^ 32 ≡ a → word (signed a -ℤ signed b) ≡ r
unfolding word
word_sub a b r g h i w = by (sign a g) (sign b h)
  where
    low_low : (b : ℕ) → (r + b) % 2 ^ 32 ≡ a → b < 2 ^ 32 → word (pos a +ℤ neg_ℤ (pos b)) ≡ r
    low_low zero w h = omega arith
    low_low (suc b) w h = word_subℕ a (suc b) r ((r + suc b) / 2 ^ 32) (omega arith) ∙ mod-eq_of_lt i

    high_low : (b k : ℕ) → (r + b) % 2 ^ 32 ≡ a → b < 2 ^ 32 → a + suc k ≡ 2 ^ 32 → word (negsuc k +ℤ neg_ℤ (pos b)) ≡ r
    high_low zero k w h s = word_subℕ 0 (suc k) r 1 (omega arith) ∙ mod-eq_of_lt i
    high_low (suc b) k w h s = omega arith

    by : Sign a → Sign b → word (signed a -ℤ signed b) ≡ r
    by (low l e) (low m f) = rw (e, f) (low_low b w h)
    by (low l e) (high j m s f) = rw (e, f) (omega arith)
    by (high k l z e) (low m f) = rw (e, f) (high_low b k w h z)
    by (high k l z e) (high j m s f) = rw (e, f) (word_subℕ (suc j) (suc k) r ((r + b) / 2 ^ 32) (omega arith) ∙ mod-eq_of_lt i)

-- A difference from 0.
pub word_neg : (a r : ℕ) → a < 2 ^ 32 → r < 2 ^ 32 → (r + a) % 2 ^ 32 ≡ 0 → word (neg_ℤ (signed a)) ≡ r
word_neg a r h i w = ap word (rw (signed_low 0 (omega arith)) (sym (+ℤ_idl (neg_ℤ (signed a))))) ∙ word_sub 0 a r (omega arith) h i w

pub abs_is : (n r : ℕ) → r ≡ n → r ≤ 2 ^ 31 → r ≡ word (pos n)
unfolding word
abs_is n r e h = omega arith

-- ---- products

-- The word of -n, where u + n is some times 2 ^ 32.
word_opposite : (n u q : ℕ) → u + n ≡ q * 2 ^ 32 → word (neg_ℤ (pos n)) ≡ u % 2 ^ 32
unfolding word
word_opposite zero u q h = omega arith
word_opposite (suc n) u q h = omega arith

pub word_mul : (a b : ℕ) → a < 2 ^ 32 → b < 2 ^ 32 → word (signed a *ℤ signed b) ≡ (a * b) % 2 ^ 32
unfolding word
word_mul a b g h = by (sign a g) (sign b h)
  where
    by : Sign a → Sign b → word (signed a *ℤ signed b) ≡ (a * b) % 2 ^ 32
    by (low l e) (low m f) = rw (e, f)
    by (low l e) (high j m s f) = rw (e, f) (word_opposite (a * suc j) (a * b) a (sym (mul-add a b (suc j)) ∙ ap (λ x. a * x) s))
    by (high k l r e) (low m f) = rw (e, f) (word_opposite (suc k * b) (a * b) b (sym (add-mul a (suc k) b) ∙ ap (λ x. x * b) r ∙ mul_comm (2 ^ 32) b))
    by (high k l r e) (high j m s f) = rw (e, f) (omega (arith, sym (mul-add a b (suc j)) ∙ ap (λ x. a * x) s, sym (add-mul a (suc k) (suc j)) ∙ ap (λ x. x * suc j) r))

-- ---- shifts, by s to the left or by r to the right, where r is -s as a word

pub shift_left : (a s : ℕ) → s < 32 → a * 2 ^ s % 2 ^ 32 ≡ shift a (signed s)
unfolding shift
shift_left a s h = rw (signed_low s (omega arith), shift, lt-ltb s 32 h)

pub shift_right : (a s r : ℕ) → 32 ≤ s → s < 2 ^ 32 → (r + s) % 2 ^ 32 ≡ 0 → r < 32 → a / 2 ^ r ≡ shift a (signed s)
unfolding shift
shift_right a s r l h w i = by (sign s h)
  where
    by : Sign s → a / 2 ^ r ≡ shift a (signed s)
    by (low m e) = absurd (omega arith)
    by (high k m z e) =
        let n : suc k ≡ r = omega arith in
        rw (e, shift, n, lt-ltb r 32 i, n)

pub shift_out : (a s r : ℕ) → 32 ≤ s → s < 2 ^ 32 → r < 2 ^ 32 → (r + s) % 2 ^ 32 ≡ 0 → 32 ≤ r → 0 ≡ shift a (signed s)
unfolding shift
shift_out a s r l h g w i = by (sign s h)
  where
    by : Sign s → 0 ≡ shift a (signed s)
    by (low m e) = rw (e, shift, le-ltb s 32 l)
    by (high k m z e) =
        let n : suc k ≡ r = omega arith in
        rw (e, shift, n, le-ltb r 32 i)
