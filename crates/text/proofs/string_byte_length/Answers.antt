-- `text::string_byte_length` meets its contract. By the byte: a quote and a newline are two bytes, any other is visible from 32 on.
-- Assumes nothing.
use mathlib.Core.Path.{sym, ap, ◌∙◌}
use lib.ListN.{length}
use Rattle.text.proofs.Escapes.{string_quote, string_newline, string_visible}
use Rattle.text.proofs.string_byte_length.Goals as goal

pub returns-then-b-eq34 : goal.returns-then-b-eq34
returns-then-b-eq34 c = sym (ap length (string_quote _ c.if-b-eq34.true))

pub returns-then-b-eq10 : goal.returns-then-b-eq10
returns-then-b-eq10 c = sym (ap length (string_newline _ c.if-b-eq10.true))

pub returns : goal.returns
returns c = c.visible_length.ensures ∙ sym (ap length (string_visible _ c.if-b-eq34.false c.if-b-eq10.false))
