-- `forf_steps::no_item` meets its contract: each way to an answer by its law.
-- Assumes nothing.
use Rattle.forf_steps.proofs.Choosing.{none, some}
use Rattle.std.specs.Prelude.{None, Ok, Err}
use Rattle.forf_steps.specs.Stepping.{without_item}
use Rattle.forf_semantics.specs.declared.Error.TheVariants.{SyntaxError}
use mathlib.Core.Path.{ap, ◌∙◌}
use Rattle.forf_steps.proofs.no_item.Goals as goal

pub returns-then-m-eq0 : goal.returns-then-m-eq0
unfolding without_item
returns-then-m-eq0 c = ap (λ τ. Err (record { error = SyntaxError; command = None; state = τ })) c.failed.ensures ∙ none _ c.if-m-eq0.true

pub returns : goal.returns
unfolding without_item
returns c = ap Ok c.after.ensures ∙ some _ c.if-m-eq0.false
