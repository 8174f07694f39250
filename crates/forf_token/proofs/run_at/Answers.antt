-- `forf_token::run_at` meets its contract: each way to an answer by its law.
-- Assumes nothing.
use Rattle.std.proofs.lemmas.Result.{err_from_is_err_and}
use Rattle.forf_token.proofs.Lexemes.{integer_token, number_fault_lem, word_token, word_long}
use Rattle.forf_token.proofs.run_at.Goals as goal

pub returns-in_err-w : goal.returns-in_err-w
returns-in_err-w c = let p = err_from_is_err_and c.from_residual.result c.from_residual.ensures.1 in rw p.1
    (number_fault_lem c.requires c.run_end-end.ensures.value c.run_end-end.ensures.upper_bound _ c.starts_number.ensures c.if-starts_number.true c.in_err-w.ensures)

pub returns-then-starts_number : goal.returns-then-starts_number
returns-then-starts_number c = integer_token c.requires c.run_end-end.ensures.value c.run_end-end.ensures.upper_bound _ c.starts_number.ensures c.if-starts_number.true c.in_ok-w.ensures

pub returns-then-end-start-gt-NAME_MOST : goal.returns-then-end-start-gt-NAME_MOST
returns-then-end-start-gt-NAME_MOST c = word_long c.requires c.run_end-end.ensures.value c.run_end-end.ensures.upper_bound _ c.starts_number.ensures c.if-starts_number.false c.if-end-start-gt-NAME_MOST.true

pub returns : goal.returns
returns c = word_token c.requires c.run_end-end.ensures.value c.run_end-end.ensures.upper_bound _ c.starts_number.ensures c.if-starts_number.false c.if-end-start-gt-NAME_MOST.false
