-- `byte_after` meets its contract: by its tests (`after_some`, `after_array`, `after_procedure`).
-- Assumes nothing.
use Rattle.printing.proofs.Marks.{after_some, after_array, after_procedure}
use Rattle.printing.proofs.byte_after.Goals as goal

pub returns-then-left-gt0 : goal.returns-then-left-gt0
returns-then-left-gt0 c = after_some _ _ c.if-left-gt0.true

pub returns-then-tag-eq-TAG_ARRAY : goal.returns-then-tag-eq-TAG_ARRAY
returns-then-tag-eq-TAG_ARRAY c = after_array _ _ c.if-left-gt0.false c.if-tag-eq-TAG_ARRAY.true

pub returns : goal.returns
returns c = after_procedure _ _ c.if-left-gt0.false c.if-tag-eq-TAG_ARRAY.false
