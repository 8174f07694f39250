-- `text::name_length` meets its contract. By whether the name is executable: a literal one has a slash more.
-- Assumes nothing.
use mathlib.Core.Path.{sym, ap, ◌∙◌}
use native.Mathlib.Omega.{arith}
use lib.ListN.{length}
use Rattle.semantics.specs.Printing.{name_byte}
use Rattle.text.specs.Lengths.{name_byte_short}
use Rattle.text.proofs.Escapes.{escaped_within, name_executable, name_literal}
use Rattle.text.proofs.name_length.Goals as goal

pub returns-then-executable : goal.returns-then-executable
returns-then-executable c = c.escaped_length.ensures ∙ sym (ap length (name_executable _ _ c.if-executable.true))

pub overflow_add-result : goal.overflow_add-result
overflow_add-result c = omega (arith, escaped_within name_byte name_byte_short c.args.s.now)

pub returns : goal.returns
returns c = omega (arith, ap length (name_literal c.args.s.now c.args.executable c.if-executable.false))
