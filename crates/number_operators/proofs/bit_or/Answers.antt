-- `number_operators::bit_or` meets its contract: the step of two words or two truth values, with the word's operation on both.
-- Assumes nothing.
use Rattle.std.proofs.Common.{rules}
use mathlib.Core.Bool.{◌||◌}
use lib.Bits.{bit_or}
use Rattle.number_operators.proofs.Named.{or_is}
use Rattle.number_operators.proofs.Shapes.{named}
use Rattle.number_operators.proofs.Connectives.{or_bits}
use Rattle.number_operators.proofs.bit_or.Goals as goal

pub returns : goal.returns
returns c = named or_is (c.logical.ensures.does bit_or ◌||◌ (λ a b w la lb p. search rules) or_bits)
