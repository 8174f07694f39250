-- `groups::weigh` meets its contract: each kind of token by its own law.
-- Assumes nothing.
use native.Mathlib.Omega.{arith}
use Rattle.std.proofs.lemmas.Result.{err_from_is_err_and}
use Rattle.groups.proofs.Judging.{weigh_fault, weigh_integer, weigh_string, string_room, weigh_executable, weigh_literal, weigh_open, weigh_close, weigh_end}
use Rattle.groups.proofs.weigh.Goals as goal

pub returns-in_err-read : goal.returns-in_err-read
returns-in_err-read c = let p = err_from_is_err_and c.from_residual.result c.from_residual.ensures.1 in rw (p.1, p.2)
    (weigh_fault _ _ _ c.skip-start.ensures.value c.requires.0 c.in_err-read.ensures)

pub overflow_add-result : goal.overflow_add-result
overflow_add-result c = record { fits = omega (arith, string_room _ _ _ c.skip-start.ensures.value c.requires.0 (rw c.in-String.is at c.in_ok-read.ensures)) }

pub returns-in-Integer : goal.returns-in-Integer
returns-in-Integer c = weigh_integer _ _ _ c.skip-start.ensures.value c.requires.0 (rw c.in-Integer.is at c.in_ok-read.ensures)

pub returns-in-String : goal.returns-in-String
returns-in-String c = weigh_string _ _ _ c.skip-start.ensures.value c.requires.0 (rw c.in-String.is at c.in_ok-read.ensures)

pub returns-in-ExecutableName : goal.returns-in-ExecutableName
returns-in-ExecutableName c = weigh_executable _ _ _ c.skip-start.ensures.value c.requires.0 (rw c.in-ExecutableName.is at c.in_ok-read.ensures)

pub returns-in-LiteralName : goal.returns-in-LiteralName
returns-in-LiteralName c = weigh_literal _ _ _ c.skip-start.ensures.value c.requires.0 (rw c.in-LiteralName.is at c.in_ok-read.ensures)

pub returns-in-OpenBrace : goal.returns-in-OpenBrace
returns-in-OpenBrace c = weigh_open _ _ _ c.skip-start.ensures.value c.requires.0 (rw c.in-OpenBrace.is at c.in_ok-read.ensures)

pub returns-in-CloseBrace : goal.returns-in-CloseBrace
returns-in-CloseBrace c = weigh_close _ _ _ c.skip-start.ensures.value c.requires.0 (rw c.in-CloseBrace.is at c.in_ok-read.ensures)

pub returns-in-End : goal.returns-in-End
returns-in-End c = weigh_end _ _ _ c.skip-start.ensures.value c.requires.0 (rw c.in-End.is at c.in_ok-read.ensures)
