-- A token takes at least one byte, unless it is the end, a brace just one, and none more bytes than there are. A word has at most 31.
-- Assumes nothing.
use Rattle.std.specs.Prelude.{◌≡◌, ℕ, ◌^◌, ◌≤◌, ◌<◌, length}
use Rattle.forf_semantics.specs.Tokens.{Token}

-- ---- sizes

-- A size of at least one byte, of n.
abbrev pub Within : ℕ → ℕ → Type 0
Within n size = (1 ≤ size) × (size ≤ n)

-- A size of just one byte, of n.
abbrev pub OneOf : ℕ → ℕ → Type 0
OneOf n size = (1 ≤ n) × (size ≡ 1)

-- What a token takes of n bytes.
abbrev pub Fits : ℕ → Token → ℕ → Type 0
Fits n (Token.integer w) size = (1 ≤ size) × (size ≤ n) × (w < 2 ^ 32)
Fits n (Token.word bs) size = (1 ≤ size) × (size ≤ n) × (length bs ≤ 31)
Fits n Token.open_brace size = OneOf n size
Fits n Token.close_brace size = OneOf n size
Fits n Token.end size = size ≡ 0
