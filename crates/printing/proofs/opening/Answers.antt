-- `opening` meets its contract: by its test (`opening_array`, `opening_procedure`).
-- Assumes nothing.
use Rattle.printing.proofs.Marks.{opening_array, opening_procedure}
use Rattle.printing.proofs.opening.Goals as goal

pub returns-then-tag-eq-TAG_ARRAY : goal.returns-then-tag-eq-TAG_ARRAY
returns-then-tag-eq-TAG_ARRAY c = opening_array _ c.if-tag-eq-TAG_ARRAY.true

pub returns : goal.returns
returns c = opening_procedure _ c.if-tag-eq-TAG_ARRAY.false
