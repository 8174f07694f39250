-- `text::visible_length` meets its contract. By the test: a plain byte is one byte, octal is four.
-- Assumes nothing.
use mathlib.Core.Path.{sym, ap, ◌∙◌}
use lib.ListN.{length}
use Rattle.semantics.specs.Text.{octal}
use Rattle.text.proofs.Escapes.{visible_plain, visible_octal}
use Rattle.text.proofs.visible_length.Goals as goal

pub returns-then-is_plain : goal.returns-then-is_plain
returns-then-is_plain c = sym (ap length (visible_plain _ _ (sym c.is_plain.ensures ∙ c.if-is_plain.true)))

pub returns-else-is_plain : goal.returns-else-is_plain
unfolding octal
returns-else-is_plain c = sym (ap length (visible_octal _ _ (sym c.is_plain.ensures ∙ c.if-is_plain.false)))
