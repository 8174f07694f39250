-- `floo_c::floo_run` meets its contract: each arm of the answer is a clause of `reply_of`.
-- Assumes nothing.
use mathlib.Core.Path.{◌∙◌, sym, ap}
use Rattle.floo_c.specs.Reply.{reply_of}
use Rattle.floo_c.proofs.floo_run.Goals as goal

pub returns-in-Err : goal.returns-in-Err
returns-in-Err c = record { answer = c.run.result; runs = c.run.ensures; replies = ap (λ n. record { refused = n; steps = 0; log = 0; outcome = 0 }) c.number.ensures ∙ ap reply_of (sym c.in-Err.is) }

pub returns-in-Ok : goal.returns-in-Ok
returns-in-Ok c = record { answer = c.run.result; runs = c.run.ensures; replies = ap reply_of (sym c.in-Ok.is) }
