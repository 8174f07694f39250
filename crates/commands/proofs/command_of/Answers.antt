-- `commands::command_of` meets its contract: by the tag.
-- Assumes nothing.
use Rattle.commands.proofs.Values.{operator_command, name_command, no_command}
use Rattle.commands.proofs.command_of.Goals as goal

pub returns-then-tag-eq-TAG_OPERATOR : goal.returns-then-tag-eq-TAG_OPERATOR
returns-then-tag-eq-TAG_OPERATOR c = operator_command c.if-tag-eq-TAG_OPERATOR.true

pub returns-then-tag-eq-TAG_EXECUTABLE : goal.returns-then-tag-eq-TAG_EXECUTABLE
returns-then-tag-eq-TAG_EXECUTABLE c = name_command c.if-tag-eq-TAG_EXECUTABLE.true

pub returns : goal.returns
returns c = no_command c.if-tag-eq-TAG_OPERATOR.false c.if-tag-eq-TAG_EXECUTABLE.false
