-- `number_operators::add` meets its contract: the step of two integers, with the word's operation.
-- Assumes nothing.
use Rattle.std.proofs.Common.{rules}
use Rattle.semantics.specs.Values.{ok}
use lib.IntN.{◌+ℤ◌}
use Rattle.number_operators.proofs.Named.{add_is}
use Rattle.number_operators.proofs.Shapes.{named, computing, computed}
use Rattle.number_operators.proofs.add.Goals as goal

pub returns : goal.returns
returns c = named add_is (c.two.ensures.does (computing (λ x y. ok (x +ℤ y))) (λ a b w la lb p. computed ◌+ℤ◌ a b (search rules)))
