-- `number_operators::idiv` meets its contract: the step of two integers, with the word's division and its error.
-- Assumes nothing.
use Rattle.std.proofs.Common.{rules}
use Rattle.semantics.specs.NumberOperators.{division}
use lib.Signed.{quot_z}
use Rattle.number_operators.proofs.Named.{idiv_is}
use Rattle.number_operators.proofs.Shapes.{named, computing, divided}
use Rattle.number_operators.proofs.idiv.Goals as goal

pub returns : goal.returns
returns c = named idiv_is (c.two.ensures.does (computing (division quot_z)) (λ a b w la lb p. divided quot_z a b (search rules)))
