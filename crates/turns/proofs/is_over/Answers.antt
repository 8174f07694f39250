-- `turns::is_over` meets its contract: by its kind, else by its number.
-- Assumes nothing.
use mathlib.Core.Path.{sym, ap, ◌∙◌}
use mathlib.Core.Bool.{◌||◌}
use Rattle.semantics.specs.Words.{signed}
use Rattle.semantics.specs.Steps.{beyond}
use borrow.Author.Tests.{eq-eqb, ne_eqb}
use Rattle.turns.proofs.is_over.Goals as goal

pub returns-then-kind-eq-PAST : goal.returns-then-kind-eq-PAST
returns-then-kind-eq-PAST c = sym (ap (λ t. t || beyond (signed c.args.next) (signed c.args.increment) (signed c.args.last)) (eq-eqb c.args.kind 5 c.if-kind-eq-PAST.true))

pub returns : goal.returns
returns c = c.is_beyond.ensures ∙ sym (ap (λ t. t || beyond (signed c.args.next) (signed c.args.increment) (signed c.args.last)) (ne_eqb c.args.kind 5 c.if-kind-eq-PAST.false))
