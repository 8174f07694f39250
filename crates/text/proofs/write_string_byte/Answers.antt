-- `text::write_string_byte` meets its contract. By the byte: a quote and a newline are copied, any other is visible from 32 on.
-- Assumes nothing.
use mathlib.Core.Path.{ap}
use native.Mathlib.Omega.{arith}
use lib.ListN.{length}
use Rattle.text.proofs.Pasting.{respelt}
use Rattle.text.proofs.Escapes.{string_quote, string_newline, string_visible}
use Rattle.text.proofs.write_string_byte.Goals as goal

pub copy-requires : goal.copy-requires
copy-requires c = omega (arith, ap length (string_quote c.args.b c.if-b-eq34.true))

pub returns-then-b-eq34 : goal.returns-then-b-eq34
returns-then-b-eq34 c = respelt (string_quote _ c.if-b-eq34.true) c.copy.ensures

pub copy-requires-then-b-eq10 : goal.copy-requires-then-b-eq10
copy-requires-then-b-eq10 c = omega (arith, ap length (string_newline c.args.b c.if-b-eq10.true))

pub returns-then-b-eq10 : goal.returns-then-b-eq10
returns-then-b-eq10 c = respelt (string_newline _ c.if-b-eq10.true) c.copy-then-b-eq10.ensures

pub write_visible-requires : goal.write_visible-requires
write_visible-requires c = omega (arith, ap length (string_visible c.args.b c.if-b-eq34.false c.if-b-eq10.false))

pub returns : goal.returns
returns c = respelt (string_visible _ c.if-b-eq34.false c.if-b-eq10.false) c.write_visible.ensures
