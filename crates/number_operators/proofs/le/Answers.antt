-- `number_operators::le` meets its contract: the step of two integers, with the word's comparison.
-- Assumes nothing.
use Rattle.std.proofs.Common.{rules}
use lib.Signed.{le_z}
use Rattle.number_operators.proofs.Named.{le_is}
use Rattle.number_operators.proofs.Shapes.{named, comparing, compared}
use Rattle.number_operators.proofs.le.Goals as goal

pub returns : goal.returns
returns c = named le_is (c.two.ensures.does (comparing le_z) (λ a b w la lb p. compared le_z a b (search rules)))
