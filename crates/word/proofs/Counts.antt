-- A word as the definition's count: below the sign bit it is its number, from there on it is out of range.
-- Assumes nothing.
use Rattle.std.proofs.Common.{◌≡◌, ℕ, ◌^◌, ◌<◌, ◌≤◌, refl}
use Rattle.semantics.specs.Words.{signed}
use Rattle.semantics.specs.Values.{ok, fault, count}
use Rattle.semantics.specs.declared.Error.TheVariants.{RangeCheck}
use Rattle.word.proofs.Words.{signed_low, signed_high}

pub count_low : (w : ℕ) → w < 2 ^ 31 → count (signed w) ≡ ok w
unfolding count
count_low w l = rw (signed_low w l) refl

pub count_high : (w : ℕ) → 2 ^ 31 ≤ w → w < 2 ^ 32 → count (signed w) ≡ fault RangeCheck
unfolding count
count_high w l h = rw (signed_high w l h) refl
