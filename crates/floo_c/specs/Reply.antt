-- The runner's whole answer as a struct for C.
-- Assumes nothing.
use Rattle.std.specs.Prelude.{◌≡◌, Ok, Err, List, ℕ}
use Rattle.setup.specs.Lending.{number_of}
use Rattle.runner.specs.Promise.{Answer, Runs}
use Rattle.floo_c.specs.declared.Reply.{Reply}

-- No refusal has the number 0.
abbrev pub reply_of : Answer → Reply
reply_of (Err r) = record { refused = number_of r; steps = 0; log = 0; outcome = 0 }
reply_of (Ok r) = record { refused = 0; steps = r.steps; log = r.log; outcome = r.outcome }

-- The reply says what the runner answers, and the buffers are as the runner leaves them.
pub record Replies (script : List ℕ) (fuel : ℕ) (s s' e e' d d' c c' l l' o o' : List ℕ) (r : Reply) : Type 0 where
  pub answer : Answer
  pub runs : Runs script fuel s s' e e' d d' c c' l l' o o' answer
  pub replies : r ≡ reply_of answer
