-- `number_operators::ones` meets its contract: the step of one integer, with the word's count of its bits.
-- Assumes nothing.
use Rattle.std.proofs.Common.{rules}
use mathlib.Core.Option.{some}
use Rattle.semantics.specs.NumberOperators.{ones_in}
use Rattle.number_operators.proofs.Named.{ones_is}
use Rattle.number_operators.proofs.Shapes.{named, pegging, counted}
use Rattle.number_operators.proofs.ones.Goals as goal

pub returns : goal.returns
returns c = named ones_is (c.one.ensures.does (pegging (λ w. some (ones_in 32 w))) (λ a w la p. counted (ones_in 32) a la (search rules)))
