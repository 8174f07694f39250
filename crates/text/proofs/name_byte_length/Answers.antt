-- `text::name_byte_length` meets its contract. A byte of a name is visible from 33 on.
-- Assumes nothing.
use mathlib.Core.Path.{sym, ap, ◌∙◌}
use lib.ListN.{length}
use Rattle.text.proofs.Escapes.{name_visible}
use Rattle.text.proofs.name_byte_length.Goals as goal

pub returns : goal.returns
returns c = c.visible_length.ensures ∙ sym (ap length (name_visible c.args.b))
