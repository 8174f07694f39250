-- `number_operators::ge` meets its contract: the step of two integers, with the word's comparison.
-- Assumes nothing.
use Rattle.std.proofs.Common.{rules}
use lib.Signed.{le_z}
use Rattle.number_operators.proofs.Named.{ge_is}
use Rattle.number_operators.proofs.Shapes.{named, comparing, compared}
use Rattle.number_operators.proofs.ge.Goals as goal

pub returns : goal.returns
returns c = named ge_is (c.two.ensures.does (comparing (λ x y. le_z y x)) (λ a b w la lb p. compared (λ x y. le_z y x) a b (search rules)))
