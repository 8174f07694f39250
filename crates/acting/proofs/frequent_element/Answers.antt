-- `acting::frequent_element` meets its contract: by how many elements are left, and by the tag and the number of the next.
-- Assumes nothing.
use mathlib.Core.Path.{sym, ◌∙◌}
use native.Mathlib.Omega.{arith}
use Rattle.frames.proofs.Running.{run_at, cell_room}
use Rattle.acting.proofs.Choosing.{element_executes}
use Rattle.acting.proofs.frequent_element.Goals as goal

pub get-requires : goal.get-requires
get-requires c = let R = c.requires.2.4 in let x = run_at R _ (omega (arith, c.requires.0)) c.requires.1 in (omega arith, cell_room R _ (omega (arith, c.requires.0)) x.0 x.1 x.2 (omega (arith, c.if-left-eq0.false)))

pub get-number-requires : goal.get-number-requires
get-number-requires c = let R = c.requires.2.4 in let x = run_at R _ (omega (arith, c.requires.0)) c.requires.1 in (omega arith, cell_room R _ (omega (arith, c.requires.0)) x.0 x.1 x.2 (omega (arith, c.if-left-eq0.false)))

pub returns : goal.returns
returns c = element_executes c.requires.0 c.requires.1 (omega (arith, c.if-left-eq0.false)) c.advance.ensures.turned c.advance.auto.exec c.advance.ensures.advances (sym c.get.ensures ∙ c.if-get-ne-TAG_OPERATOR.false) c.get-number.ensures (omega (arith, c.if-number-ge-RARE.false))
