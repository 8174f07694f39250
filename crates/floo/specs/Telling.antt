-- What is printed of an answer, from the buffers: the line of a refusal, or the start of the log and of the outcome.
-- Assumes nothing.
use Rattle.std.specs.Prelude.{Ok, Err, List, ◌++◌, ℕ, ◌+◌, ◌≤◌, length, take}
use Rattle.semantics.specs.Text.{bytes, decimal}
use Rattle.semantics.specs.Outcome.{line}
use Rattle.floo.specs.Sizes.{page}
use Rattle.setup.specs.Lending.{number_of}
use Rattle.runner.specs.Promise.{Answer}

abbrev pub told : Answer → List ℕ → List ℕ → List ℕ
told (Err r) log outcome = line (bytes "refused") (decimal (number_of r))
told (Ok r) log outcome = take r.log log ++ take r.outcome outcome

-- Both counts lie within their buffers, and together within a page.
abbrev pub Within : Answer → List ℕ → List ℕ → Type 0
Within (Err r) log outcome = Unit {0}
Within (Ok r) log outcome = (r.log ≤ length log) × (r.outcome ≤ length outcome) × (r.log + r.outcome ≤ page)
