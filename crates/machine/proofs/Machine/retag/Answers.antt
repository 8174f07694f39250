-- `machine::Machine::retag` meets its contract: the topmost item keeps its payload, so its place names the same object.
-- Assumes nothing.
use Rattle.machine.proofs.Retagging.{retag_rep}
use native.Mathlib.Omega.{arith}
use mathlib.Core.Path.{refl}
use Rattle.machine.proofs.Machine.retag.Goals as goal

pub returns : goal.returns
returns c = record { moves_stack = record { moves = λ e d k l μ R. retag_rep R c.args.executable _ (omega (arith, c.requires.0)) c.tag_as-tag.ensures }; depth_value = refl }
