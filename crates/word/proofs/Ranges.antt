-- The test of an exact sum: it has 32 bits exactly where the machine's checked sum is one.
-- Assumes nothing.
use Rattle.std.proofs.Common.{◌≡◌, ◌^◌, Bool, true, false, ltb, ℤ, pos, negsuc, sym, refl, ◌∙◌, w32, SFits, lt-ltb, ltb-true}
use Rattle.std.specs.Prelude.{Option, Some, None, SomeIff, is_some}
use lib.Signed.{mag}
use Rattle.semantics.specs.Words.{in_range}

by_mag : (z : ℤ) → in_range z ≡ ltb (mag z) (2 ^ 31)
unfolding in_range
by_mag (pos n) = refl
by_mag (negsuc n) = refl

pub range_is : (o : Option ℤ) (z : ℤ) → SomeIff o (SFits w32 z) z → is_some o ≡ in_range z
range_is (Some x) z h = sym (by_mag z ∙ lt-ltb (mag z) (2 ^ 31) h.0.sfits)
range_is None z h = by (ltb (mag z) (2 ^ 31)) refl ∙ sym (by_mag z)
  where
    by : (t : Bool) → ltb (mag z) (2 ^ 31) ≡ t → false ≡ ltb (mag z) (2 ^ 31)
    by true e = absurd (h (record { sfits = ltb-true (mag z) (2 ^ 31) e }))
    by false e = sym e
