-- What echo writes, and that its text of a string or an integer, read as a token, is what was echoed (02, W14): a string byte by byte, whatever follows it; an integer
-- digit by digit, before a space.
-- Assumes nothing.
use mathlib.Core.List.{List, ◌++◌}
use Prim.Native.Nat.{ℕ}
use Rattle.semantics.specs.Text.{bytes}
use Rattle.semantics.specs.Words.{signed, decimal_z}
use Rattle.semantics.specs.Printing.{escaped, string_byte}

-- What echo writes of a string whose current bytes these are.
abbrev pub quoted_text : List ℕ → List ℕ
quoted_text bs = bytes "\"" ++ escaped string_byte bs ++ bytes "\""

-- What echo writes of an integer of these 32 bits.
abbrev pub integer_text : ℕ → List ℕ
integer_text w = decimal_z (signed w)
