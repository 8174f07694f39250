-- `agrees` meets its contract: the loop keeps `Agreeing`, that the words so far are the same, and words of the same bytes are equal.
-- Assumes nothing.
use Rattle.dictionary.proofs.Spelling.{agree_begin, agree_again, agree_end, size_differs, word_differs}
use Rattle.dictionary.proofs.agrees.Goals as goal

pub returns-then-dict-at : goal.returns-then-dict-at
returns-then-dict-at c = size_differs c.if-dict-at.true

pub loop-i-init : goal.loop-i-init
loop-i-init c = agree_begin c.if-dict-at.false

pub returns-then-dict-at-2 : goal.returns-then-dict-at-2
returns-then-dict-at-2 c = word_differs _ c.loop-i-test.true (c.type_inv.dict _).fits (c.type_inv.words _).fits c.if-dict-at-2.true

pub loop-i-preserved : goal.loop-i-preserved
loop-i-preserved c = agree_again c.loop-i.invariant c.loop-i-test.true c.if-dict-at-2.false

pub returns : goal.returns
returns c = agree_end c.loop-i.invariant c.loop-i-test.false
