-- Tests of single bytes: each test of the code that leads to an answer settles the definition's test.
-- Assumes nothing.
use mathlib.Core.Path.{◌≡◌, refl, sym, ◌∙◌}
use mathlib.Core.Bool.{Bool, true, false, ◌&&◌, false≢true}
use mathlib.Core.Logic.{◌⊎◌, inl, inr}
use Prim.Native.Nat.{ℕ, ◌≤◌}
use lib.Dec.{leb}
use borrow.Author.Tests.{leb-true, ne_eqb}
use Rattle.semantics.specs.Tokens as tokens
use Rattle.semantics.specs.Tokens.{within, is_break, is_space, is_blank, is_name_byte, class_of, comment_after}

-- ---- ranges

both : (s t : Bool) → (s && t) ≡ true → (s ≡ true) × (t ≡ true)
both true t e = (refl, e)
both false t e = absurd (false≢true e)

-- What is within a range is neither below nor above it.
pub within_low : (a b x : ℕ) (t : Bool) → t ≡ within a b x → t ≡ true → a ≤ x
within_low a b x t e f = leb-true a x (both (leb a x) (leb x b) (sym e ∙ f)).0

pub within_high : (a b x : ℕ) (t : Bool) → t ≡ within a b x → t ≡ true → x ≤ b
within_high a b x t e f = leb-true x b (both (leb a x) (leb x b) (sym e ∙ f)).1

-- ---- classes

pub class_name : (b : ℕ) (t : Bool) → t ≡ is_name_byte b → t ≡ true → tokens.name_byte ≡ class_of b
unfolding class_of
class_name b t e f = rw (sym e ∙ f)

pub class_bracket : (b : ℕ) → (b ≡ 91) ⊎ (b ≡ 93) → tokens.bracket ≡ class_of b
unfolding class_of
class_bracket b (inl e) = rw e
class_bracket b (inr e) = rw e

pub class_at : (b n : ℕ) (class : tokens.Class) → b ≡ n → class ≡ class_of n → class ≡ class_of b
class_at b n class e f = rw e f

pub class_other : (b : ℕ) (t : Bool) → t ≡ is_name_byte b → t ≡ false
    → ((b ≡ 91) ⊎ (b ≡ 93) → ⊥) → (b ≡ 123 → ⊥) → (b ≡ 125 → ⊥) → (b ≡ 34 → ⊥) → (b ≡ 47 → ⊥) → tokens.other ≡ class_of b
unfolding class_of
class_other b t e f h i j k l =
    rw (sym e ∙ f, ne_eqb b 91 (λ p. h (inl p)), ne_eqb b 93 (λ p. h (inr p)), ne_eqb b 123 i, ne_eqb b 125 j, ne_eqb b 34 k, ne_eqb b 47 l)
