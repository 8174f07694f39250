-- `write_plain` meets its contract: by the tag, which says what the value is.
-- Assumes nothing.
use Rattle.printing.proofs.Sorts.{always_room, always_writes, always_integer, always_truth, always_mark, always_null, string_fits, literal_fits, executable_fits, operator_fits, string_writes, literal_writes, executable_writes, operator_writes, literal_low, literal_set}
use Rattle.semantics.specs.Text.{bytes}
use lib.ListN.{length-set}
use mathlib.Core.Path.{◌∙◌}
use Rattle.printing.proofs.write_plain.Goals as goal

pub write_integer-requires : goal.write_integer-requires
write_integer-requires c = always_room _ (always_integer _ _ c.if-tag-eq-TAG_INTEGER.true) c.requires.1

pub returns-then-tag-eq-TAG_INTEGER : goal.returns-then-tag-eq-TAG_INTEGER
returns-then-tag-eq-TAG_INTEGER c = always_writes _ (always_integer _ _ c.if-tag-eq-TAG_INTEGER.true) c.write_integer.ensures

pub write_truth-requires : goal.write_truth-requires
write_truth-requires c = always_room _ (always_truth _ _ c.if-tag-eq-TAG_BOOLEAN.true) c.requires.1

pub returns-then-tag-eq-TAG_BOOLEAN : goal.returns-then-tag-eq-TAG_BOOLEAN
returns-then-tag-eq-TAG_BOOLEAN c = always_writes _ (always_truth _ _ c.if-tag-eq-TAG_BOOLEAN.true) c.write_truth.ensures

pub write_string-requires : goal.write_string-requires
write_string-requires c = string_fits c.requires.1 c.if-tag-eq-TAG_STRING.true

pub returns-then-tag-eq-TAG_STRING : goal.returns-then-tag-eq-TAG_STRING
returns-then-tag-eq-TAG_STRING c = string_writes c.if-tag-eq-TAG_STRING.true c.write_string.ensures

pub write_operator-requires : goal.write_operator-requires
write_operator-requires c = operator_fits c.requires.1 c.if-tag-eq-TAG_OPERATOR.true

pub returns-then-tag-eq-TAG_OPERATOR : goal.returns-then-tag-eq-TAG_OPERATOR
returns-then-tag-eq-TAG_OPERATOR c = operator_writes c.if-tag-eq-TAG_OPERATOR.true c.write_operator.ensures

pub write_name-requires : goal.write_name-requires
write_name-requires c = executable_fits c.requires.1 c.if-tag-eq-TAG_EXECUTABLE.true

pub returns-then-tag-eq-TAG_EXECUTABLE : goal.returns-then-tag-eq-TAG_EXECUTABLE
returns-then-tag-eq-TAG_EXECUTABLE c = executable_writes c.if-tag-eq-TAG_EXECUTABLE.true c.write_name.ensures

pub bounds-log-at : goal.bounds-log-at
bounds-log-at c = literal_low c.requires.1 c.if-tag-eq-TAG_LITERAL.true

pub write_name-requires-then-tag-eq-TAG_LITERAL : goal.write_name-requires-then-tag-eq-TAG_LITERAL
write_name-requires-then-tag-eq-TAG_LITERAL c = literal_set c.args.at 47 (literal_fits c.requires.1 c.if-tag-eq-TAG_LITERAL.true)

pub shape_of-log-then-tag-eq-TAG_LITERAL : goal.shape_of-log-then-tag-eq-TAG_LITERAL
shape_of-log-then-tag-eq-TAG_LITERAL c = c.write_name-then-tag-eq-TAG_LITERAL.auto.log ∙ length-set c.args.log.now c.args.at 47

pub returns-then-tag-eq-TAG_LITERAL : goal.returns-then-tag-eq-TAG_LITERAL
returns-then-tag-eq-TAG_LITERAL c = literal_writes _ _ (literal_low c.requires.1 c.if-tag-eq-TAG_LITERAL.true) c.if-tag-eq-TAG_LITERAL.true c.write_name-then-tag-eq-TAG_LITERAL.ensures

pub copy-requires : goal.copy-requires
unfolding bytes
copy-requires c = always_room _ (always_mark _ _ c.if-tag-eq-TAG_MARK.true) c.requires.1

pub returns-then-tag-eq-TAG_MARK : goal.returns-then-tag-eq-TAG_MARK
unfolding bytes
returns-then-tag-eq-TAG_MARK c = always_writes _ (always_mark _ _ c.if-tag-eq-TAG_MARK.true) c.copy.ensures

pub copy-requires-2 : goal.copy-requires-2
unfolding bytes
copy-requires-2 c = always_room _ (always_null _ _ c.requires.0 c.if-tag-eq-TAG_INTEGER.false c.if-tag-eq-TAG_BOOLEAN.false c.if-tag-eq-TAG_STRING.false c.if-tag-eq-TAG_OPERATOR.false c.if-tag-eq-TAG_EXECUTABLE.false c.if-tag-eq-TAG_LITERAL.false c.if-tag-eq-TAG_MARK.false) c.requires.1

pub returns : goal.returns
unfolding bytes
returns c = always_writes _ (always_null _ _ c.requires.0 c.if-tag-eq-TAG_INTEGER.false c.if-tag-eq-TAG_BOOLEAN.false c.if-tag-eq-TAG_STRING.false c.if-tag-eq-TAG_OPERATOR.false c.if-tag-eq-TAG_EXECUTABLE.false c.if-tag-eq-TAG_LITERAL.false c.if-tag-eq-TAG_MARK.false) c.copy-2.ensures
