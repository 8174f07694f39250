-- A machine whose numbers and bytes are in range, and which is within what is lent. It stands here and not in specs/ because `ranged` carries its own laws.
-- Assumes nothing.
use Rattle.semantics.specs.Machine.{Machine}
use Rattle.semantics.specs.Steps.{Limits}
use Rattle.walk.specs.Parts.{Everywhere, Within}
use Rattle.echo_laws.specs.Ranges.{ranged}

-- Numbers and bytes are in range, and all is within what is lent.
pub record Sound (l : Limits) (m : Machine) : Type 0 where
  pub parts : Everywhere ranged m
  pub room : Within l m
