-- `number_operators::mul` meets its contract: the step of two integers, with the word's operation.
-- Assumes nothing.
use Rattle.std.proofs.Common.{rules}
use Rattle.semantics.specs.Values.{ok}
use lib.IntN.{◌*ℤ◌}
use Rattle.number_operators.proofs.Named.{mul_is}
use Rattle.number_operators.proofs.Shapes.{named, computing, computed}
use Rattle.number_operators.proofs.mul.Goals as goal

pub returns : goal.returns
returns c = named mul_is (c.two.ensures.does (computing (λ x y. ok (x *ℤ y))) (λ a b w la lb p. computed ◌*ℤ◌ a b (search rules)))
