-- `write_value` meets its contract: each tag has its text, and none is longer than 31 bytes.
-- Assumes nothing.
use Rattle.conversions.proofs.Valuing.{integer_text_lem, true_text, false_text, nothing_text, literal_named, executable_named, literal_text, executable_text}
use Rattle.text.proofs.Decimals.{integer_short}
use native.Mathlib.Omega.{arith}
use borrow.Author.Rules.{rules}
use Rattle.conversions.proofs.write_value.Goals as goal

pub write_integer-requires : goal.write_integer-requires
write_integer-requires c = omega (arith, c.requires.0, integer_short c.args.value.pay (search rules))

pub returns-then-tag-eq-TAG_INTEGER : goal.returns-then-tag-eq-TAG_INTEGER
returns-then-tag-eq-TAG_INTEGER c = let clauses = integer_text_lem c.requires.0 c.if-tag-eq-TAG_INTEGER.true (integer_short c.args.value.pay (search rules)) c.write_integer.ensures in record { text_of = clauses.0; upper_bound = clauses.1 }

pub returns-then-pay-eq1 : goal.returns-then-pay-eq1
returns-then-pay-eq1 c = let clauses = true_text c.requires.0 c.if-tag-eq-TAG_BOOLEAN.true c.if-pay-eq1.true c.copy.ensures in record { text_of = clauses.0; upper_bound = clauses.1 }

pub returns-then-tag-eq-TAG_BOOLEAN : goal.returns-then-tag-eq-TAG_BOOLEAN
returns-then-tag-eq-TAG_BOOLEAN c = let clauses = false_text c.requires.0 c.if-tag-eq-TAG_BOOLEAN.true c.if-pay-eq1.false c.copy-then-tag-eq-TAG_BOOLEAN.ensures in record { text_of = clauses.0; upper_bound = clauses.1 }

pub read_name-requires : goal.read_name-requires
read_name-requires c = (c.requires.0, literal_named c.requires.2 c.if-tag-eq-TAG_LITERAL.true)

pub returns-then-tag-eq-TAG_LITERAL : goal.returns-then-tag-eq-TAG_LITERAL
returns-then-tag-eq-TAG_LITERAL c = record { text_of = literal_text c.read_name.ensures.name_read c.if-tag-eq-TAG_LITERAL.true; upper_bound = c.read_name.ensures.upper_bound }

pub read_name-requires-then-tag-eq-TAG_EXECUTABLE : goal.read_name-requires-then-tag-eq-TAG_EXECUTABLE
read_name-requires-then-tag-eq-TAG_EXECUTABLE c = (c.requires.0, executable_named c.requires.2 c.if-tag-eq-TAG_EXECUTABLE.true)

pub returns-then-tag-eq-TAG_EXECUTABLE : goal.returns-then-tag-eq-TAG_EXECUTABLE
returns-then-tag-eq-TAG_EXECUTABLE c = record { text_of = executable_text c.read_name-then-tag-eq-TAG_EXECUTABLE.ensures.name_read c.if-tag-eq-TAG_EXECUTABLE.true; upper_bound = c.read_name-then-tag-eq-TAG_EXECUTABLE.ensures.upper_bound }

pub returns : goal.returns
returns c = let clauses = nothing_text c.requires.0 c.requires.1 c.if-tag-eq-TAG_INTEGER.false c.if-tag-eq-TAG_BOOLEAN.false c.if-tag-eq-TAG_LITERAL.false c.if-tag-eq-TAG_EXECUTABLE.false c.copy-2.ensures in record { text_of = clauses.0; upper_bound = clauses.1 }
