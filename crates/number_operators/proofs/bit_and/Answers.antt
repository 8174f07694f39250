-- `number_operators::bit_and` meets its contract: the step of two words or two truth values, with the word's operation on both.
-- Assumes nothing.
use Rattle.std.proofs.Common.{rules}
use mathlib.Core.Bool.{◌&&◌}
use lib.Bits.{bit_and}
use Rattle.number_operators.proofs.Named.{and_is}
use Rattle.number_operators.proofs.Shapes.{named}
use Rattle.number_operators.proofs.Connectives.{and_bits}
use Rattle.number_operators.proofs.bit_and.Goals as goal

pub returns : goal.returns
returns c = named and_is (c.logical.ensures.does bit_and ◌&&◌ (λ a b w la lb p. search rules) and_bits)
