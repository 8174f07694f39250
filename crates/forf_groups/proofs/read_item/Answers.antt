-- `forf_groups::read_item` meets its contract: each way to an answer by its law.
-- Assumes nothing.
use Rattle.forf_groups.proofs.Taking.{number_taken, word_taken, close_nothing, end_nothing, open_nothing, group_taken, bad_nothing}
use Rattle.forf_groups.proofs.Ending.{open_later}
use native.Mathlib.Omega.{arith}
use Rattle.forf_groups.proofs.read_item.Goals as goal

pub returns-in_default : goal.returns-in_default
returns-in_default c = bad_nothing c.in_default.ensures

pub group_end-requires : goal.group_end-requires
group_end-requires c =
    let T = (rw c.in-OpenBrace.is at c.in-Ok.ensures) in
    (omega (arith, open_later T), record { inside = T.inside; short = c.requires.short })

pub returns-in_default-group_end : goal.returns-in_default-group_end
returns-in_default-group_end c = open_nothing (rw c.in-OpenBrace.is at c.in-Ok.ensures) c.in_default-group_end.ensures

pub returns-in-Integer : goal.returns-in-Integer
returns-in-Integer c = number_taken (rw c.in-Integer.is at c.in-Ok.ensures)

pub returns-in-Word : goal.returns-in-Word
returns-in-Word c = word_taken (rw c.in-Word.is at c.in-Ok.ensures)

pub returns-in-Ok-group_end : goal.returns-in-Ok-group_end
returns-in-Ok-group_end c = group_taken (rw c.in-OpenBrace.is at c.in-Ok.ensures) c.in-Ok-group_end.ensures

pub returns-in-CloseBrace : goal.returns-in-CloseBrace
returns-in-CloseBrace c = close_nothing (rw c.in-CloseBrace.is at c.in-Ok.ensures)

pub returns-in-End : goal.returns-in-End
returns-in-End c = end_nothing (rw c.in-End.is at c.in-Ok.ensures)
