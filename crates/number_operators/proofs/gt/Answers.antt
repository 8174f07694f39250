-- `number_operators::gt` meets its contract: the step of two integers, with the word's comparison.
-- Assumes nothing.
use Rattle.std.proofs.Common.{rules}
use lib.Signed.{lt_z}
use Rattle.number_operators.proofs.Named.{gt_is}
use Rattle.number_operators.proofs.Shapes.{named, comparing, compared}
use Rattle.number_operators.proofs.gt.Goals as goal

pub returns : goal.returns
returns c = named gt_is (c.two.ensures.does (comparing (λ x y. lt_z y x)) (λ a b w la lb p. compared (λ x y. lt_z y x) a b (search rules)))
