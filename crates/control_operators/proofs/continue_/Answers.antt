-- `control_operators::continue_` meets its contract: the innermost loop is looked for; with none the run ends as stop ends it, else the slots above it go.
-- Assumes nothing.
use Rattle.control_operators.proofs.Leaving.{halts, continue_none, continue_does}
use Rattle.control_operators.proofs.continue_.Goals as goal

pub find_loop-requires : goal.find_loop-requires
find_loop-requires c = c.requires.4.rooms.exec_fits

pub returns-in-None : goal.returns-in-None
returns-in-None c = halts _ (λ s d l μ R. continue_none c.in-None.ensures.finds s d _ l μ R) c.stop.ensures

pub returns-in-Some : goal.returns-in-Some
returns-in-Some c = continue_does c.in-Some.ensures.finds c.in-Some.ensures.inside c.drop_to.ensures
