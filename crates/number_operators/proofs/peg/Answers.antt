-- `number_operators::peg` meets its contract: the step of one integer, with the place of a bit that is 1, or the error.
-- Assumes nothing.
use Rattle.std.proofs.Common.{rules}
use Rattle.semantics.specs.NumberOperators.{lowest_in, highest_in}
use Rattle.number_operators.proofs.Named.{lowpeg_is, highpeg_is}
use Rattle.number_operators.proofs.Shapes.{named, pegging, pegged}
use Rattle.number_operators.proofs.peg.Goals as goal

pub returns-then-highest : goal.returns-then-highest
returns-then-highest c = rw c.if-highest.true (named highpeg_is (c.one.ensures.does (pegging (highest_in 32)) (λ a w la p. pegged (highest_in 32) a la (search rules))))

pub returns : goal.returns
returns c = rw c.if-highest.false (named lowpeg_is (c.one-2.ensures.does (pegging (lowest_in 32)) (λ a w la p. pegged (lowest_in 32) a la (search rules))))
