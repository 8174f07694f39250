-- What a writer does, and the texts that the writers share.
-- Assumes nothing.
use Rattle.std.specs.Prelude.{◌≡◌, Bool, true, false, not, ◌&&◌, cond, List, [], ◌∷◌, ◌++◌, ℕ, ◌+◌, length, eqb}
use Rattle.semantics.specs.Text.{bytes, octal}
use Rattle.semantics.specs.Tokens.{within}
use Rattle.semantics.specs.Printing.{escaped, string_byte, name_byte}
use Rattle.semantics.specs.ObjectOperators.{pasted}

-- `new` is `old` with the text t written into it from `at` on, and r is the place after the text.
pub record Written (at : ℕ) (t old new : List ℕ) (r : ℕ) : Type 0 where
  pub end : r ≡ at + length t
  pub bytes : new ≡ pasted at t old

-- From `low` to 126, and no backslash.
unfoldable pub is_plain : ℕ → ℕ → Bool
is_plain low b = within low 126 b && not (eqb b 92)

-- A plain byte is itself, any other is in octal.
unfoldable pub visible : ℕ → ℕ → List ℕ
visible low b = cond (is_plain low b) (b ∷ []) (octal b)

-- A byte of a string, or else of a name.
unfoldable pub byte_text : Bool → ℕ → List ℕ
byte_text true = string_byte
byte_text false = name_byte

-- A string between quotes, as the definition writes it.
abbrev pub quoted : List ℕ → List ℕ
quoted s = bytes "\"" ++ escaped string_byte s ++ bytes "\""
