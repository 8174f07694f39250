-- `operators::settled` meets its contract: a state made of the fields of another is that state.
-- Assumes nothing.
use Rattle.std.specs.Prelude.{Ok}
use mathlib.Core.Path.{ap, sym, ◌∙◌}
use Rattle.operators.proofs.settled.Goals as goal

pub returns-in-Ok : goal.returns-in-Ok
returns-in-Ok c = ap Ok c.fields.ensures ∙ sym c.in-Ok.is

pub returns-in-Err : goal.returns-in-Err
returns-in-Err c = sym c.in-Err.is
