-- A word's sign: what its 32 bits stand for.
-- Assumes nothing.
use Rattle.std.specs.Prelude.{◌≡◌, Bool, true, false, not, ℕ, suc, ◌+◌, ◌-◌, ◌^◌, ◌≤◌, ◌<◌, pos, negsuc, T, ltb}
use Rattle.std.proofs.Common.{subst, arith, ltb→lt, nltb→le, to_z}
use Rattle.std.specs.Int.{w32}
use mir.ValLaws.{to_z_pos, to_z-neg}
use Rattle.semantics.specs.Words.{signed}

pub signed_low : (w : ℕ) → w < 2 ^ 31 → signed w ≡ pos w
unfolding signed
signed_low w h = to_z_pos w32 w h

pub signed_high : (w : ℕ) → 2 ^ 31 ≤ w → w < 2 ^ 32 → signed w ≡ negsuc (2 ^ 32 - suc w)
unfolding signed
signed_high w l h =
    let e : 2 ^ 32 - suc (2 ^ 32 - suc w) ≡ w = omega arith in
    subst (λ x. to_z w32 x ≡ negsuc (2 ^ 32 - suc w)) e (to_z-neg w32 (2 ^ 32 - suc w) (omega arith))

-- A word is nonnegative, and then it is its number; or it is -(k + 1), and then it is 2 ^ 32 - (k + 1).
pub data Sign (w : ℕ) : Type 0 where
  low : w < 2 ^ 31 → signed w ≡ pos w → Sign w
  high : (k : ℕ) → k < 2 ^ 31 → w + suc k ≡ 2 ^ 32 → signed w ≡ negsuc k → Sign w

pub sign : (w : ℕ) → w < 2 ^ 32 → Sign w
sign w h = by (ltb w (2 ^ 31)) (ltb→lt w (2 ^ 31)) (nltb→le w (2 ^ 31))
  where
    by : (b : Bool) → (T b → w < 2 ^ 31) → (T (not b) → 2 ^ 31 ≤ w) → Sign w
    by true f g = low (f tt) (signed_low w (f tt))
    by false f g =
        let l : 2 ^ 31 ≤ w = g tt in
        high (2 ^ 32 - suc w) (omega arith) (omega arith) (signed_high w l h)
