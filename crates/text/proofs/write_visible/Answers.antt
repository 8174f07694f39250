-- `text::write_visible` meets its contract. By the test: a plain byte is written as it is, and any other by the octal writer.
-- Assumes nothing.
use mathlib.Core.Path.{sym, ap, ◌∙◌}
use native.Mathlib.Omega.{arith}
use lib.ListN.{length}
use Rattle.text.proofs.Pasting.{one, respelt}
use Rattle.text.proofs.Escapes.{visible_plain, visible_octal}
use Rattle.text.proofs.write_visible.Goals as goal

pub bounds-out-at : goal.bounds-out-at
bounds-out-at c = omega (arith, ap length (visible_plain c.args.low c.args.b (sym c.is_plain.ensures ∙ c.if-is_plain.true)))

pub returns-then-is_plain : goal.returns-then-is_plain
returns-then-is_plain c = let plain = visible_plain c.args.low c.args.b (sym c.is_plain.ensures ∙ c.if-is_plain.true) in
    respelt plain (one (omega (arith, ap length plain)))

pub write_octal-requires : goal.write_octal-requires
write_octal-requires c = omega (arith, ap length (visible_octal c.args.low c.args.b (sym c.is_plain.ensures ∙ c.if-is_plain.false)))

pub returns : goal.returns
returns c = respelt (visible_octal _ _ (sym c.is_plain.ensures ∙ c.if-is_plain.false)) c.write_octal.ensures
