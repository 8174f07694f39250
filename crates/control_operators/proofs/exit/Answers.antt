-- `control_operators::exit` meets its contract: the innermost loop is looked for; with none the run ends as stop ends it, else the slots above it go with it.
-- Assumes nothing.
use Rattle.control_operators.proofs.Leaving.{halts, exit_none, exit_does}
use Rattle.control_operators.proofs.exit.Goals as goal

pub find_loop-requires : goal.find_loop-requires
find_loop-requires c = c.requires.4.rooms.exec_fits

pub returns-in-None : goal.returns-in-None
returns-in-None c = halts _ (λ s d l μ R. exit_none c.in-None.ensures.finds s d _ l μ R) c.stop.ensures

pub returns-in-Some : goal.returns-in-Some
returns-in-Some c = exit_does c.in-Some.ensures.finds c.in-Some.ensures.inside c.drop_to.ensures
