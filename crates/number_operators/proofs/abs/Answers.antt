-- `number_operators::abs` meets its contract: the step of one integer, with the word's operation.
-- Assumes nothing.
use Rattle.std.proofs.Common.{rules}
use lib.IntN.{pos, nat_abs}
use Rattle.number_operators.proofs.Named.{abs_is}
use Rattle.number_operators.proofs.Shapes.{named, computing1, computed1}
use Rattle.number_operators.proofs.abs.Goals as goal

pub returns : goal.returns
returns c = named abs_is (c.one.ensures.does (computing1 (λ x. pos (nat_abs x))) (λ a w la p. computed1 (λ x. pos (nat_abs x)) a (search rules)))
