-- `number_operators::lt` meets its contract: the step of two integers, with the word's comparison.
-- Assumes nothing.
use Rattle.std.proofs.Common.{rules}
use lib.Signed.{lt_z}
use Rattle.number_operators.proofs.Named.{lt_is}
use Rattle.number_operators.proofs.Shapes.{named, comparing, compared}
use Rattle.number_operators.proofs.lt.Goals as goal

pub returns : goal.returns
returns c = named lt_is (c.two.ensures.does (comparing lt_z) (λ a b w la lb p. compared lt_z a b (search rules)))
