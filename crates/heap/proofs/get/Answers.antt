-- `get` meets its contract: the read index is the word's place in the slice, which `c * 4 + 4` bounds.
-- Assumes nothing.
use borrow.Author.Rules.{rules}
use Rattle.heap.specs.Word.{word}
use Rattle.heap.proofs.get.Goals as goal

pub returns : goal.returns
unfolding word
returns c = search rules
