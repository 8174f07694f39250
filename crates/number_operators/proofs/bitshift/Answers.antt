-- `number_operators::bitshift` meets its contract: the step of two integers, with the word's operation.
-- Assumes nothing.
use Rattle.std.proofs.Common.{rules}
use Rattle.number_operators.proofs.Named.{bitshift_is}
use Rattle.number_operators.proofs.Shapes.{named, shifting, shifted}
use Rattle.number_operators.proofs.bitshift.Goals as goal

pub returns : goal.returns
returns c = named bitshift_is (c.two.ensures.does (shifting) (λ a b w la lb p. shifted a b la (search rules)))
