-- `tag_of` meets its contract: the word read is the tag of the item (`item_tag_lem`).
-- Assumes nothing.
use Rattle.elements.proofs.Tags.{item_tag_lem}
use native.Mathlib.Omega.{arith}
use mathlib.Core.Path.{◌∙◌}
use Rattle.elements.proofs.tag_of.Goals as goal

pub returns : goal.returns
returns c = record { says = λ e d x l μ R. c.item.ensures.0 ∙ item_tag_lem R c.args.i _ (omega (arith, c.requires.0)) }
