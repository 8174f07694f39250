-- `forf_machine::titles::operator_of` meets its contract: each way to an answer by its law.
-- Assumes nothing.
use mathlib.Core.Path.{ap, ◌∙◌}
use Rattle.forf_machine.specs.Titles.{keys, key_place}
use Rattle.forf_machine.proofs.Naming.{short_place, long_place}
use Rattle.forf_machine.proofs.titles.operator_of.Goals as goal

pub returns-then-word-gt-LONGEST : goal.returns-then-word-gt-LONGEST
returns-then-word-gt-LONGEST c = long_place _ c.if-word-gt-LONGEST.true

pub returns : goal.returns
returns c = c.word_of.ensures ∙ ap (key_place keys) c.key_of.ensures ∙ short_place _ c.if-word-gt-LONGEST.false (λ i. (c.type_inv.word i).fits)
