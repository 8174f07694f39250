-- The text of a byte has 4 bytes at most: a backslash and three digits.
-- Assumes nothing.
use Rattle.std.specs.Prelude.{Bool, true, false, cond, List, ℕ, ◌≤◌, length, eqb}
use Rattle.std.proofs.Common.{arith}
use Rattle.semantics.specs.Text.{bytes, octal}
use Rattle.semantics.specs.Printing.{string_byte, name_byte}
use Rattle.text.specs.Writing.{is_plain, visible}

either_short : (t : Bool) (x y : List ℕ) → length x ≤ 4 → length y ≤ 4 → length (cond t x y) ≤ 4
either_short true x y h k = h
either_short false x y h k = k

visible_short : (low b : ℕ) → length (visible low b) ≤ 4
unfolding visible octal
visible_short low b = either_short (is_plain low b) _ _ (omega arith) (omega arith)

pub string_byte_short : (b : ℕ) → length (string_byte b) ≤ 4
unfolding string_byte bytes visible is_plain
string_byte_short b = either_short (eqb b 34) _ _ (omega arith) (either_short (eqb b 10) _ _ (omega arith) (visible_short 32 b))

pub name_byte_short : (b : ℕ) → length (name_byte b) ≤ 4
unfolding name_byte visible is_plain
name_byte_short b = visible_short 33 b
