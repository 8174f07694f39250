-- `word::bitshift` meets its contract: the count is below 32, or its opposite is, or neither, and then nothing is left of the word.
-- Assumes nothing.
use Rattle.word.proofs.Words.{shift_left, shift_right, shift_out}
use Rattle.word.proofs.bitshift.Goals as goal

pub returns-then-s-lt-WIDTH : goal.returns-then-s-lt-WIDTH
returns-then-s-lt-WIDTH c = shift_left _ _ c.if-s-lt-WIDTH.true

pub returns-then-right-lt-WIDTH : goal.returns-then-right-lt-WIDTH
returns-then-right-lt-WIDTH c = shift_right _ _ _ c.if-s-lt-WIDTH.false c.ranges.s.fits c.wrapping_neg-right.ensures c.if-right-lt-WIDTH.true

pub returns : goal.returns
returns c = shift_out _ _ _ c.if-s-lt-WIDTH.false c.ranges.s.fits c.wrapping_neg-right.type_inv c.wrapping_neg-right.ensures c.if-right-lt-WIDTH.false
