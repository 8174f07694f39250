-- `bind` meets its contract: the words that it compares decide between the definition's errors and what `bind_elements` does.
-- Assumes nothing.
use Rattle.dictionary_operators.proofs.Loops.{bind_short, bind_mistyped, bind_procedure, bind_good}
use Rattle.dictionary_operators.proofs.bind.Goals as goal

pub returns-then-m-lt1 : goal.returns-then-m-lt1
returns-then-m-lt1 c = bind_short c.if-m-lt1.true

pub returns-then-stack-m-ne-TAG_PROCEDURE : goal.returns-then-stack-m-ne-TAG_PROCEDURE
returns-then-stack-m-ne-TAG_PROCEDURE c = bind_mistyped c.if-m-lt1.false c.if-stack-m-ne-TAG_PROCEDURE.true

pub bind_elements-requires : goal.bind_elements-requires
bind_elements-requires c = (c.if-m-lt1.false, bind_procedure c.if-m-lt1.false c.if-stack-m-ne-TAG_PROCEDURE.false c.requires)

pub returns : goal.returns
returns c = bind_good c.if-m-lt1.false c.if-stack-m-ne-TAG_PROCEDURE.false c.bind_elements.ensures
