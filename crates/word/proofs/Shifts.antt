-- Forf's shifts: what the machine's give for counts from 0 to 31, and what stands for a count outside.
-- Assumes nothing.
use Rattle.std.proofs.Common.{◌≡◌, ℕ, ◌*◌, ◌%◌, ◌^◌, ◌<◌, Bool, true, false, cond, ltb, min, ℤ, pos, negsuc, refl, ap, ◌∙◌, div-le_self, arith, w32, Fits, SFits, to_z, of_z, lt-ltb, ltb-true, ltb-false}
use Rattle.std.specs.Prelude.{Option, Some, None, SomeIff, unwrap_or}
use lib.Signed.{shr_z}
use mir.ValLaws.{to_z-Fits, to_z-of_z}
use Rattle.semantics.specs.Words.{signed, word, shift}
use Rattle.word.proofs.Signed.{reread, word_is}

-- The machine's shift by less than 32, or else 0.
pub left : (a s : ℕ) (o : Option ℕ) → SomeIff o (s < 32) (a * 2 ^ s % 2 ^ 32) → unwrap_or o 0 ≡ shift a (pos s)
unfolding shift
left a s (Some x) h = h.1 ∙ rw (shift, lt-ltb s 32 h.0)
left a s None h = by (ltb s 32) refl
  where
    by : (t : Bool) → ltb s 32 ≡ t → 0 ≡ shift a (pos s)
    by true e = absurd (h (ltb-true s 32 e))
    by false e = rw (shift, e)

shr_fits : (z : ℤ) (m : ℕ) → SFits w32 z → SFits w32 (shr_z z m)
shr_fits (pos n) m f = record { sfits = omega (arith, f.sfits, div-le_self n m) }
shr_fits (negsuc n) m f = record { sfits = omega (arith, f.sfits, div-le_self n m) }

count : (s : ℕ) → min s 31 ≡ cond (ltb s 32) s 31
count s = by (ltb s 32) refl
  where
    by : (t : Bool) → ltb s 32 ≡ t → min s 31 ≡ cond t s 31
    by true e = omega (arith, ltb-true s 32 e)
    by false e = omega (arith, ltb-false s 32 e)

-- What the code makes of the integer x of w.
pub right : (w s : ℕ) {k r : ℕ} {x : ℤ} → Fits w32 w → x ≡ signed w → k ≡ min s 31
    → r ≡ of_z w32 (to_z w32 (of_z w32 (shr_z (to_z w32 (of_z w32 x)) (2 ^ k)))) → r ≡ word (shr_z (signed w) (2 ^ cond (ltb s 32) s 31))
unfolding signed
right w s {k} {r} {x} f e g h =
    let z = shr_z (to_z w32 w) (2 ^ k) in
    let i : SFits w32 z = shr_fits (to_z w32 w) (2 ^ k) (to_z-Fits w32 w f) in
    h
    ∙ ap (λ (y : ℤ). of_z w32 (to_z w32 (of_z w32 (shr_z y (2 ^ k))))) (reread w x f e)
    ∙ ap (of_z w32) (to_z-of_z w32 z i)
    ∙ word_is z (omega (arith, i.sfits))
    ∙ ap (λ (n : ℕ). word (shr_z (to_z w32 w) (2 ^ n))) (g ∙ count s)
