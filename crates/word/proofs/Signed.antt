-- The machine's signed integers are the definition's: a word read as one, two that were read and are worked on, and one written as a word.
-- Assumes nothing.
use Rattle.std.proofs.Common.{◌≡◌, ℕ, ◌^◌, ◌<◌, ◌≤◌, ℤ, pos, negsuc, ap, ◌∙◌, ap₂, arith, w32, Fits, to_z, of_z}
use lib.Signed.{mag}
use mir.ValLaws.{of_z-to_z}
use Rattle.semantics.specs.Words.{signed, word}

-- The machine's 32 bits of the integer of a word are read back as it.
pub reread : (w : ℕ) (z : ℤ) → Fits w32 w → z ≡ signed w → to_z w32 (of_z w32 z) ≡ signed w
unfolding signed
reread w z f e = ap (λ x. to_z w32 (of_z w32 x)) e ∙ ap (to_z w32) (of_z-to_z w32 w f)

-- What an operation or a test makes of the integers of two words.
pub on_signed : {A : Type 0} (f : ℤ → ℤ → A) (a b : ℕ) (x y : ℤ) → Fits w32 a → Fits w32 b → x ≡ signed a → y ≡ signed b
    → f (to_z w32 (of_z w32 x)) (to_z w32 (of_z w32 y)) ≡ f (signed a) (signed b)
on_signed f a b x y g h d e = ap₂ f (reread a x g d) (reread b y h e)

-- The bits of an integer that is no further from 0 than the least one are its word.
pub word_is : (z : ℤ) → mag z ≤ 2 ^ 31 → of_z w32 z ≡ word z
unfolding word
word_is (pos n) h = omega arith
word_is (negsuc n) h = omega arith

pub bits_fit : (z : ℤ) → mag z ≤ 2 ^ 31 → of_z w32 z < 2 ^ 32
bits_fit (pos n) h = omega arith
bits_fit (negsuc n) h = omega arith
