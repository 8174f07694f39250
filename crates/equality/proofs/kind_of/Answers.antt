-- `equality::kind_of` meets its contract: by the tag.
-- Assumes nothing.
use Rattle.std.proofs.Common.{rules}
use mathlib.Core.Path.{refl}
use borrow.Author.Tests.{ne_eqb}
use Rattle.machine.specs.Moves.{tag_as}
use Rattle.equality.proofs.kind_of.Goals as goal

pub returns-in-6 : goal.returns-in-6
unfolding tag_as
returns-in-6 c = rw c.in-6.is refl

pub returns-in-10 : goal.returns-in-10
unfolding tag_as
returns-in-10 c = rw c.in-10.is refl

pub returns-in_default : goal.returns-in_default
unfolding tag_as
returns-in_default c = rw (ne_eqb c.args.tag 6 (search rules), ne_eqb c.args.tag 10 (search rules)) refl
