-- `by_fields` meets its contract: a state made of the fields of another is that state.
-- Assumes nothing.
use Rattle.step.specs.declared.State.{State}
use Rattle.machine.specs.declared.Machine.{Machine}
use mathlib.Core.Path.{ap}
use Rattle.step.proofs.State.by_fields.Goals as goal

pub returns : goal.returns
returns c = ap {B = State} (λ (m : Machine). record { machine = m; next = c.args.self.next; at = c.args.self.at; steps = c.args.self.steps }) c.fields.ensures
