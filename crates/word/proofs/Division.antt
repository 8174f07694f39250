-- The words' division against the definition's: by zero there is none, and elsewhere the machine's quotient, which wraps at the corner, and its remainder are the definition's.
-- Assumes nothing.
use Rattle.std.proofs.Common.{◌≡◌, ℕ, zero, suc, ◌/◌, ◌^◌, ◌<◌, ◌≤◌, ◌≢◌, ℤ, pos, negsuc, neg_ℤ, nat_abs, ap, ◌∙◌, div-le_self, arith, w32, Fits, SFits, to_z, of_z, ne_eqb}
use lib.Signed.{quot_z, rem_z, mag, mag_rem}
use mir.ValLaws.{to_z-of_z, to_z-Fits, sfits_le}
use Rattle.std.proofs.lemmas.Int.{of_z-to_z}
use Rattle.semantics.specs.Values.{ok, fault, check, ◌>>=◌}
use Rattle.semantics.specs.Words.{signed, word}
use Rattle.semantics.specs.NumberOperators.{division}
use Rattle.semantics.specs.declared.Error.TheVariants.{UndefinedResult}
use Rattle.word.specs.Answers.{divided_words}
use Rattle.word.proofs.Words.{Sign, low, high, sign}
use Rattle.word.proofs.Signed.{on_signed, word_is, bits_fit}

pub by_zero : (f : ℤ → ℤ → ℤ) (a b : ℕ) → b ≡ 0 → fault UndefinedResult ≡ divided_words f a b
unfolding divided_words division check ◌>>=◌ signed
by_zero f a b e = rw e

pub nonzero : (w : ℕ) → Fits w32 w → w ≢ 0 → nat_abs (signed w) ≢ 0
nonzero w h n = by (sign w h.fits)
  where
    by : Sign w → nat_abs (signed w) ≢ 0
    by (low l e) = rw e n
    by (high k l s e) = rw e (λ (z : suc k ≡ 0). omega arith)

mag_neg : (r : ℕ) → r ≤ 2 ^ 31 → mag (neg_ℤ (pos r)) ≤ 2 ^ 31
mag_neg zero l = omega arith
mag_neg (suc r) l = omega arith

mag_quot : (x y : ℤ) → mag x < 2 ^ 31 → mag (quot_z x y) ≤ 2 ^ 31
mag_quot (pos a) (pos b) h = omega (arith, div-le_self a b)
mag_quot (pos a) (negsuc b) h = mag_neg (a / suc b) (omega (arith, div-le_self a (suc b)))
mag_quot (negsuc a) (pos b) h = mag_neg (suc a / b) (omega (arith, div-le_self (suc a) b))
mag_quot (negsuc a) (negsuc b) h = omega (arith, div-le_self (suc a) (suc b))

-- Two words, read as the integers x and y, the second not 0.
module _ {a b : ℕ} {x y : ℤ} (g : Fits w32 a) (h : Fits w32 b) (d : x ≡ signed a) (e : y ≡ signed b) (n : b ≢ 0) where
  read : (f : ℤ → ℤ → ℤ) → f (to_z w32 (of_z w32 x)) (to_z w32 (of_z w32 y)) ≡ f (signed a) (signed b)
  read f = on_signed f a b x y g h d e

  exact : (f : ℤ → ℤ → ℤ) → ok (word (f (signed a) (signed b))) ≡ divided_words f a b
  unfolding divided_words division check ◌>>=◌
  exact f = rw (ne_eqb (nat_abs (signed b)) 0 (nonzero b h n))

  pub quotient : {q : ℤ} {r : ℕ} → q ≡ to_z w32 (of_z w32 (quot_z (to_z w32 (of_z w32 x)) (to_z w32 (of_z w32 y)))) → r ≡ of_z w32 (to_z w32 (of_z w32 q)) → ok r ≡ divided_words quot_z a b
  unfolding signed
  quotient {q} {r} s t =
      let z = quot_z (signed a) (signed b) in
      let m : mag z ≤ 2 ^ 31 = mag_quot (signed a) (signed b) (to_z-Fits w32 a g).sfits in
      let l : of_z w32 z < 2 ^ 32 = bits_fit z m in
      ap ok (t ∙ ap (λ w. of_z w32 (to_z w32 (of_z w32 w))) (s ∙ ap (λ w. to_z w32 (of_z w32 w)) (read quot_z)) ∙ ap (λ w. of_z w32 (to_z w32 w)) (of_z-to_z w32 (of_z w32 z) l) ∙ of_z-to_z w32 (of_z w32 z) l ∙ word_is z m) ∙ exact quot_z

  pub remainder : {q : ℤ} {r : ℕ} → q ≡ rem_z (to_z w32 (of_z w32 x)) (to_z w32 (of_z w32 y)) → r ≡ of_z w32 (to_z w32 (of_z w32 q)) → ok r ≡ divided_words rem_z a b
  unfolding signed
  remainder {q} {r} s t =
      let z = rem_z (signed a) (signed b) in
      let f : SFits w32 z = sfits_le (mag_rem (signed a) (signed b)) (to_z-Fits w32 a g) in
      ap ok (t ∙ ap (λ w. of_z w32 (to_z w32 (of_z w32 w))) (s ∙ read rem_z) ∙ ap (of_z w32) (to_z-of_z w32 z f) ∙ word_is z (omega (arith, f.sfits))) ∙ exact rem_z
