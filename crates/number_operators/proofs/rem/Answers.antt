-- `number_operators::rem` meets its contract: the step of two integers, with the word's division and its error.
-- Assumes nothing.
use Rattle.std.proofs.Common.{rules}
use Rattle.semantics.specs.NumberOperators.{division}
use lib.Signed.{rem_z}
use Rattle.number_operators.proofs.Named.{mod_is}
use Rattle.number_operators.proofs.Shapes.{named, computing, divided}
use Rattle.number_operators.proofs.rem.Goals as goal

pub returns : goal.returns
returns c = named mod_is (c.two.ensures.does (computing (division rem_z)) (λ a b w la lb p. divided rem_z a b (search rules)))
