-- A token takes at least one byte, unless it is the end, and never more bytes than there are.
-- Assumes nothing.
use Rattle.std.specs.Prelude.{◌≡◌, ℕ, ◌≤◌}
use Rattle.semantics.specs.Tokens.{Token}

-- ---- sizes

-- A size of at least one byte, of n.
abbrev pub Within : ℕ → ℕ → Type 0
Within n size = (1 ≤ size) × (size ≤ n)

-- What a token takes of n bytes.
abbrev pub Fits : ℕ → Token → ℕ → Type 0
Fits n (Token.integer w) size = Within n size
Fits n (Token.string bs) size = Within n size
Fits n (Token.name x bs) size = Within n size
Fits n Token.open_brace size = Within n size
Fits n Token.close_brace size = Within n size
Fits n Token.end size = size ≡ 0
