-- The bytes of a word by division, and a byte that is set without overflow: arithmetic at each of the four places.
-- Assumes nothing.
use mathlib.Core.Path.{◌≡◌}
use Prim.Native.Nat.{ℕ, ◌+◌, ◌-◌, ◌*◌, ◌/◌, ◌%◌, ◌^◌, ◌<◌, ◌≤◌}
use native.Mathlib.Omega.{arith}
use Rattle.store.specs.Rep.{byte_of, with_byte}
use Rattle.store.proofs.Bytes.{with_fits, four}

byte_low : (w j : ℕ) → j < 4 → byte_of w j * 2 ^ (8 * j) ≤ w
byte_low w = four (λ j. byte_of w j * 2 ^ (8 * j) ≤ w) (omega arith) (omega arith) (omega arith) (omega arith)

byte_fits : (b : ℕ) → b < 256 → (j : ℕ) → j < 4 → b * 2 ^ (8 * j) < 2 ^ 32
byte_fits b l = four (λ j. b * 2 ^ (8 * j) < 2 ^ 32) (omega arith) (omega arith) (omega arith) (omega arith)

-- The same with u for the unit.
module _ (w u j : ℕ) (e : u ≡ 2 ^ (8 * j)) (l : j < 4) where
  pub unit_low : w / u % 256 * u ≤ w
  unit_low = rw e (byte_low w j l)

  pub unit_fits : (b : ℕ) → w < 2 ^ 32 → b < 256 → w - w / u % 256 * u + b * u < 2 ^ 32
  unit_fits b f s = rw e (with_fits w b f s j l)

  pub unit_small : (b : ℕ) → b < 256 → b * u < 2 ^ 32
  unit_small b s = rw e (byte_fits b s j l)

  pub unit_byte : w / u % 256 ≡ byte_of w j
  unit_byte = rw e

  pub unit_with : (b : ℕ) → w - w / u % 256 * u + b * u ≡ with_byte w j b
  unit_with b = rw e
