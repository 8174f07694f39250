-- The effects of tokens are what the definition's step makes of them.
-- Assumes nothing.
use mathlib.Core.Path.{◌≡◌, refl}
use mathlib.Core.Bool.{true, false}
use mathlib.Core.List.{List}
use Prim.Native.Nat.{ℕ}
use Rattle.semantics.specs.Tokens.{Token}
use Rattle.semantics.specs.Values.{Value, integer, null, name, string, text}
use Rattle.semantics.specs.Machine.{Machine, make, made, intern}
use Rattle.semantics.specs.Groups.{Taken}
use Rattle.semantics.specs.Steps.{token_move, treat, is_procedure, execute}
use Rattle.taking.specs.Effects.{integer_taken, string_taken, literal_taken, executable_taken}

-- What is taken of a token that is no brace: its value, and the machine with the object or the slot that it needs.
abbrev pub value_of : Token → Machine → Value
value_of (Token.integer w) μ = integer w
value_of (Token.string bs) μ = string (made μ)
value_of (Token.name x n) μ = name x n
value_of Token.open_brace μ = null
value_of Token.close_brace μ = null
value_of Token.end μ = null

abbrev pub machine_of : Token → Machine → Machine
machine_of (Token.integer w) μ = μ
machine_of (Token.string bs) μ = make (text bs) μ
machine_of (Token.name true n) μ = μ
machine_of (Token.name false n) μ = intern n μ
machine_of Token.open_brace μ = μ
machine_of Token.close_brace μ = μ
machine_of Token.end μ = μ

abbrev pub taken_of : Token → Machine → ℕ → Taken
taken_of t μ after = record { value = value_of t μ; machine = machine_of t μ; after = after }

module _ (μ : Machine) (after : ℕ) where
  pub integer_move : (w : ℕ) → (token_move (taken_of (Token.integer w) μ after)).result ≡ integer_taken w μ
  unfolding token_move treat is_procedure execute integer_taken
  integer_move w = refl

  pub string_move : (bs : List ℕ) → (token_move (taken_of (Token.string bs) μ after)).result ≡ string_taken bs μ
  unfolding token_move treat is_procedure execute string_taken
  string_move bs = refl

  pub literal_move : (n : List ℕ) → (token_move (taken_of (Token.name false n) μ after)).result ≡ literal_taken n μ
  unfolding token_move treat is_procedure execute literal_taken
  literal_move n = refl

  pub executable_move : (n : List ℕ) → (token_move (taken_of (Token.name true n) μ after)).result ≡ executable_taken n μ
  unfolding token_move treat is_procedure execute executable_taken
  executable_move n = refl
