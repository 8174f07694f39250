-- `carry_label` meets its contract: the run with the label, and the entry that it leaves, where it is finished (`Carrying`).
-- Assumes nothing.
use mathlib.Core.Path.{ap}
use mathlib.Core.Bool.{not}
use Rattle.semantics.specs.Text.{textual}
use Rattle.floor.proofs.Carrying.{stack_there, not_final, final}
use Rattle.floor.proofs.carry_label.Goals as goal

pub carry_out-done-requires : goal.carry_out-done-requires
unfolding textual
carry_out-done-requires c = c.requires

pub returns-then-not-is_final : goal.returns-then-not-is_final
unfolding textual
returns-then-not-is_final c = not_final c.carry_out-done.ensures c.is_final.ensures (ap not c.if-not-is_final.true)

pub read_entry-entry-requires : goal.read_entry-entry-requires
unfolding textual
read_entry-entry-requires c = stack_there c.carry_out-done.ensures

pub returns : goal.returns
unfolding textual
returns c = final c.carry_out-done.ensures c.is_final.ensures (ap not c.if-not-is_final.false) c.read_entry-entry.ensures
