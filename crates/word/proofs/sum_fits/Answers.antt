-- `word::sum_fits` meets its contract: the checked sum of the two integers is one exactly where it has 32 bits.
-- Assumes nothing.
use Rattle.std.proofs.Common.{◌+ℤ◌, ap, ◌∙◌}
use Rattle.semantics.specs.Words.{signed, in_range}
use Rattle.word.proofs.Ranges.{range_is}
use Rattle.word.proofs.Signed.{on_signed}
use Rattle.word.proofs.sum_fits.Goals as goal

pub returns : goal.returns
unfolding signed
returns c = c.is_some.ensures ∙ range_is _ _ c.checked_add.ensures ∙ ap in_range (on_signed (λ x y. x +ℤ y) _ _ _ _ c.ranges.a c.ranges.b c.cast_signed.ensures c.cast_signed-2.ensures)
