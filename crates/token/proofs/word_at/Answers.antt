-- `token::word_at` meets its contract: the run of name bytes is a number where it begins as one, and a name where it is short enough.
-- Assumes nothing.
use Rattle.token.proofs.Lexemes.{word_integer, word_fault, word_name, word_long}
use Rattle.std.proofs.lemmas.Result.{err_from_is_err_and}
use Rattle.token.proofs.word_at.Goals as goal

pub returns-in_err-w : goal.returns-in_err-w
returns-in_err-w c = let p = err_from_is_err_and c.from_residual.result c.from_residual.ensures.1 in rw (p.1, p.2)
    (word_fault c.requires.name_byte_at c.run_end-end.ensures.value c.run_end-end.ensures.upper_bound _ c.starts_number.ensures c.if-starts_number.true c.in_err-w.ensures)

pub returns-then-starts_number : goal.returns-then-starts_number
returns-then-starts_number c =
    word_integer c.requires.name_byte_at c.run_end-end.ensures.value c.run_end-end.ensures.upper_bound _ c.starts_number.ensures c.if-starts_number.true c.in_ok-w.ensures

pub returns-then-size-gt-NAME_MOST : goal.returns-then-size-gt-NAME_MOST
returns-then-size-gt-NAME_MOST c =
    word_long c.requires.name_byte_at c.run_end-end.ensures.value c.run_end-end.ensures.upper_bound _ c.starts_number.ensures c.if-starts_number.false c.if-size-gt-NAME_MOST.true

pub returns : goal.returns
returns c =
    word_name c.requires.name_byte_at c.run_end-end.ensures.value c.run_end-end.ensures.upper_bound _ c.starts_number.ensures c.if-starts_number.false c.if-size-gt-NAME_MOST.false
