-- `number_operators::bit_xor` meets its contract: the step of two words or two truth values, with the word's operation on both.
-- Assumes nothing.
use Rattle.std.proofs.Common.{rules}
use mathlib.Core.Bool.{not, beq}
use lib.Bits.{bit_xor}
use Rattle.number_operators.proofs.Named.{xor_is}
use Rattle.number_operators.proofs.Shapes.{named}
use Rattle.number_operators.proofs.Connectives.{xor_bits}
use Rattle.number_operators.proofs.bit_xor.Goals as goal

pub returns : goal.returns
returns c = named xor_is (c.logical.ensures.does bit_xor (λ a b. not (beq a b)) (λ a b w la lb p. search rules) xor_bits)
