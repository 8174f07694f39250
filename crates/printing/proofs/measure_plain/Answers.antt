-- `measure_plain` meets its contract: by the tag, which says what the value is.
-- Assumes nothing.
use Rattle.printing.proofs.Sorts.{always_size, always_integer, always_truth, always_mark, always_null, known_string, known_literal, known_executable, known_operator, string_size, literal_size, executable_size, operator_size}
use Rattle.printing.proofs.Spelling.{name_few, name_small}
use Rattle.printing.proofs.Marks.{truth_yes, truth_no}
use Rattle.names.proofs.Spelling.{named_inside}
use Rattle.semantics.specs.Text.{bytes}
use lib.ListN.{length}
use mathlib.Core.Path.{refl, sym, ap}
use native.Mathlib.Omega.{arith}
use Rattle.printing.proofs.measure_plain.Goals as goal

pub returns-then-tag-eq-TAG_INTEGER : goal.returns-then-tag-eq-TAG_INTEGER
returns-then-tag-eq-TAG_INTEGER c = always_size _ (always_integer _ _ c.if-tag-eq-TAG_INTEGER.true) c.integer_length.ensures

pub returns-then-pay-eq1 : goal.returns-then-pay-eq1
returns-then-pay-eq1 c = always_size _ (always_truth _ _ c.if-tag-eq-TAG_BOOLEAN.true) (sym (ap length (truth_yes _ c.if-pay-eq1.true)))

pub returns-else-pay-eq1 : goal.returns-else-pay-eq1
returns-else-pay-eq1 c = always_size _ (always_truth _ _ c.if-tag-eq-TAG_BOOLEAN.true) (sym (ap length (truth_no _ c.if-pay-eq1.false)))

pub measure_string-requires : goal.measure_string-requires
measure_string-requires c = known_string c.requires.1 c.if-tag-eq-TAG_STRING.true

pub returns-then-tag-eq-TAG_STRING : goal.returns-then-tag-eq-TAG_STRING
returns-then-tag-eq-TAG_STRING c = string_size c.if-tag-eq-TAG_STRING.true c.measure_string.ensures

pub name_size-requires : goal.name_size-requires
name_size-requires c = named_inside (known_operator c.requires.1 c.if-tag-eq-TAG_OPERATOR.true)

pub overflow_add-result : goal.overflow_add-result
overflow_add-result c = omega (arith, name_few c.name_size.ensures (known_operator c.requires.1 c.if-tag-eq-TAG_OPERATOR.true))

pub returns-then-tag-eq-TAG_OPERATOR : goal.returns-then-tag-eq-TAG_OPERATOR
returns-then-tag-eq-TAG_OPERATOR c = operator_size c.if-tag-eq-TAG_OPERATOR.true c.name_size.ensures

pub measure_name-requires : goal.measure_name-requires
measure_name-requires c = known_executable c.requires.1 c.if-tag-eq-TAG_EXECUTABLE.true

pub returns-then-tag-eq-TAG_EXECUTABLE : goal.returns-then-tag-eq-TAG_EXECUTABLE
returns-then-tag-eq-TAG_EXECUTABLE c = executable_size c.if-tag-eq-TAG_EXECUTABLE.true c.measure_name.ensures

pub measure_name-requires-then-tag-eq-TAG_LITERAL : goal.measure_name-requires-then-tag-eq-TAG_LITERAL
measure_name-requires-then-tag-eq-TAG_LITERAL c = known_literal c.requires.1 c.if-tag-eq-TAG_LITERAL.true

pub overflow_add-result-then-tag-eq-TAG_LITERAL : goal.overflow_add-result-then-tag-eq-TAG_LITERAL
overflow_add-result-then-tag-eq-TAG_LITERAL c = omega (arith, name_small c.measure_name-then-tag-eq-TAG_LITERAL.ensures (known_literal c.requires.1 c.if-tag-eq-TAG_LITERAL.true))

pub returns-then-tag-eq-TAG_LITERAL : goal.returns-then-tag-eq-TAG_LITERAL
returns-then-tag-eq-TAG_LITERAL c = literal_size c.if-tag-eq-TAG_LITERAL.true c.measure_name-then-tag-eq-TAG_LITERAL.ensures

pub returns-then-tag-eq-TAG_MARK : goal.returns-then-tag-eq-TAG_MARK
unfolding bytes
returns-then-tag-eq-TAG_MARK c = always_size _ (always_mark _ _ c.if-tag-eq-TAG_MARK.true) refl

pub returns : goal.returns
unfolding bytes
returns c = always_size _ (always_null _ _ c.requires.0 c.if-tag-eq-TAG_INTEGER.false c.if-tag-eq-TAG_BOOLEAN.false c.if-tag-eq-TAG_STRING.false c.if-tag-eq-TAG_OPERATOR.false c.if-tag-eq-TAG_EXECUTABLE.false c.if-tag-eq-TAG_LITERAL.false c.if-tag-eq-TAG_MARK.false) refl
