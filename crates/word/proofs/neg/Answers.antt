-- `word::neg` meets its contract: the wrapping opposite of a word is the word of the opposite of its integer.
-- Assumes nothing.
use Rattle.std.proofs.Common.{sym}
use Rattle.word.proofs.Words.{word_neg}
use Rattle.word.proofs.neg.Goals as goal

pub returns : goal.returns
returns c = sym (word_neg _ _ c.ranges.a.fits c.wrapping_neg.type_inv c.wrapping_neg.ensures)
