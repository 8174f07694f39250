-- Every word that a machine holds has at most 31 bytes, every integer has 32 bits, and the memory keeps its size: tokens give no others, and
-- the operators only move items about and make integers of 32 bits. What is said of integers is a parameter, Q: nothing for the outcome's
-- length, 32 bits for `integers_kept`.
-- Assumes nothing.
use Prim.Native.Nat.{ℕ, ◌^◌, ◌<◌}
use Rattle.std.specs.Int.Bits.{bit_and, bit_or, bit_xor}

-- A property of integers that all of 32 bits have, and that the three words on bits keep.
pub record Closed (Q : ℕ → Type 0) : Type 0 where
  pub small : (w : ℕ) → w < 2 ^ 32 → Q w
  pub ands : (b a : ℕ) → Q b → Q a → Q (bit_and b a)
  pub ors : (b a : ℕ) → Q b → Q a → Q (bit_or b a)
  pub xors : (b a : ℕ) → Q b → Q a → Q (bit_xor b a)
