-- `number_operators::neg` meets its contract: the step of one integer, with the word's operation.
-- Assumes nothing.
use Rattle.std.proofs.Common.{rules}
use lib.IntN.{neg_ℤ}
use Rattle.number_operators.proofs.Named.{neg_is}
use Rattle.number_operators.proofs.Shapes.{named, computing1, computed1}
use Rattle.number_operators.proofs.neg.Goals as goal

pub returns : goal.returns
returns c = named neg_is (c.one.ensures.does (computing1 neg_ℤ) (λ a w la p. computed1 neg_ℤ a (search rules)))
