-- `text::write_name` meets its contract. By whether the name is executable: a literal one has a slash before it.
-- Assumes nothing.
use mathlib.Core.Path.{ap, ◌∙◌}
use native.Mathlib.Omega.{arith}
use lib.ListN.{length, length-set}
use Rattle.text.proofs.Pasting.{first, respelt}
use Rattle.text.proofs.Escapes.{name_executable, name_literal}
use Rattle.text.proofs.write_name.Goals as goal

pub write_escaped-requires : goal.write_escaped-requires
write_escaped-requires c = omega (arith, ap length (name_executable c.args.s.now c.args.executable c.if-executable.true))

pub returns-then-executable : goal.returns-then-executable
returns-then-executable c = respelt (name_executable _ _ c.if-executable.true) c.write_escaped.ensures

pub bounds-out-at : goal.bounds-out-at
bounds-out-at c = omega (arith, ap length (name_literal c.args.s.now c.args.executable c.if-executable.false))

pub write_escaped-requires-2 : goal.write_escaped-requires-2
write_escaped-requires-2 c = simp length-set (omega (arith, ap length (name_literal c.args.s.now c.args.executable c.if-executable.false)))

pub shape_of-out : goal.shape_of-out
shape_of-out c = c.write_escaped-2.auto.out ∙ simp length-set

pub returns : goal.returns
returns c = let literal = name_literal c.args.s.now c.args.executable c.if-executable.false in
    respelt literal (first c.args.at 47 c.args.out.now (omega (arith, ap length literal, c.requires)) c.write_escaped-2.ensures)
