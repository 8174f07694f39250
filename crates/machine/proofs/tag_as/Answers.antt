-- `machine::tag_as` meets its contract: each test decides a choice of `tag_as`.
-- Assumes nothing.
use Rattle.machine.specs.Moves.{tag_as}
use borrow.Author.Tests.{eq-eqb, ne_eqb}
use Rattle.machine.proofs.tag_as.Goals as goal

pub returns-then-tag-eq-TAG_LITERAL : goal.returns-then-tag-eq-TAG_LITERAL
unfolding tag_as
returns-then-tag-eq-TAG_LITERAL c = rw (c.if-executable.true, eq-eqb _ _ c.if-tag-eq-TAG_LITERAL.true)

pub returns-then-tag-eq-TAG_ARRAY : goal.returns-then-tag-eq-TAG_ARRAY
unfolding tag_as
returns-then-tag-eq-TAG_ARRAY c = rw (c.if-executable.true, ne_eqb _ _ c.if-tag-eq-TAG_LITERAL.false, eq-eqb _ _ c.if-tag-eq-TAG_ARRAY.true)

pub returns-then-executable : goal.returns-then-executable
unfolding tag_as
returns-then-executable c = rw (c.if-executable.true, ne_eqb _ _ c.if-tag-eq-TAG_LITERAL.false, ne_eqb _ _ c.if-tag-eq-TAG_ARRAY.false)

pub returns-then-tag-eq-TAG_EXECUTABLE : goal.returns-then-tag-eq-TAG_EXECUTABLE
unfolding tag_as
returns-then-tag-eq-TAG_EXECUTABLE c = rw (c.if-executable.false, eq-eqb _ _ c.if-tag-eq-TAG_EXECUTABLE.true)

pub returns-then-tag-eq-TAG_PROCEDURE : goal.returns-then-tag-eq-TAG_PROCEDURE
unfolding tag_as
returns-then-tag-eq-TAG_PROCEDURE c = rw (c.if-executable.false, ne_eqb _ _ c.if-tag-eq-TAG_EXECUTABLE.false, eq-eqb _ _ c.if-tag-eq-TAG_PROCEDURE.true)

pub returns : goal.returns
unfolding tag_as
returns c = rw (c.if-executable.false, ne_eqb _ _ c.if-tag-eq-TAG_EXECUTABLE.false, ne_eqb _ _ c.if-tag-eq-TAG_PROCEDURE.false)
