-- `read` meets its contract: the records that were judged good fill the book, and a refusal leaves it (Deciding).
-- Assumes nothing.
use Rattle.ledger_reader.proofs.Deciding.{read_fits, read_records, read_passed}
use Rattle.ledger_reader.proofs.read.Goals as goal

pub fill-requires : goal.fill-requires
fill-requires c = read_fits _ _ _ c.room_of.ensures _ c.in_ok-judged.ensures

pub returns-in_err-judged : goal.returns-in_err-judged
returns-in_err-judged c = read_passed _ _ _ c.room_of.ensures _ _ c.in_err-judged.ensures c.from_residual.ensures.1

pub returns : goal.returns
returns c = read_records _ _ _ c.room_of.ensures _ c.in_ok-judged.ensures c.fill.ensures
