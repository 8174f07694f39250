-- `forf_groups::group_end` meets its contract: each way to an answer by its law.
-- Assumes nothing.
use Rattle.forf_groups.proofs.Ending.{number_later, word_later, open_later, begin, at_later, number_on, word_on, close_ends, missing_ends, fault_ends, deep_ends, inner_ends, inner_inside, inner_on}
use Rattle.std.proofs.lemmas.Result.{err_from_is_err_and}
use native.Mathlib.Omega.{arith}
use Rattle.forf_groups.proofs.+group_end.Goals as goal

pub loop-token-init : goal.loop-token-init
loop-token-init t c = begin _ c.requires.0 c.requires.1.inside

pub skip-start-requires : goal.skip-start-requires
skip-start-requires t c = c.loop-token.invariant.inside

pub token_at-requires : goal.token_at-requires
token_at-requires t c = (c.skip-start.ensures.upper_bound, c.requires.1.short)

pub returns-in_err-token : goal.returns-in_err-token
returns-in_err-token t c = let p = err_from_is_err_and c.from_residual.result c.from_residual.ensures.1 in rw p.1 (fault_ends c.loop-token.invariant c.skip-start.ensures.value c.in_err-token.ensures)

pub loop-token-smaller-in-Integer : goal.loop-token-smaller-in-Integer
loop-token-smaller-in-Integer t c =
    let T = (rw c.in-Integer.is at c.in_ok-token.ensures) in
    omega (arith, number_later T, T.inside, at_later c.loop-token.invariant c.skip-start.ensures.value)

pub loop-token-preserved-in-Integer : goal.loop-token-preserved-in-Integer
loop-token-preserved-in-Integer t c = number_on c.loop-token.invariant c.skip-start.ensures.value (rw c.in-Integer.is at c.in_ok-token.ensures)

pub loop-token-smaller-in-Word : goal.loop-token-smaller-in-Word
loop-token-smaller-in-Word t c =
    let T = (rw c.in-Word.is at c.in_ok-token.ensures) in
    omega (arith, word_later T, T.inside, at_later c.loop-token.invariant c.skip-start.ensures.value)

pub loop-token-preserved-in-Word : goal.loop-token-preserved-in-Word
loop-token-preserved-in-Word t c = word_on c.loop-token.invariant c.skip-start.ensures.value (rw c.in-Word.is at c.in_ok-token.ensures)

pub returns-then-depth-eq0 : goal.returns-then-depth-eq0
returns-then-depth-eq0 t c = deep_ends c.loop-token.invariant c.skip-start.ensures.value (rw c.in-OpenBrace.is at c.in_ok-token.ensures) c.if-depth-eq0.true

pub group_end-requires : goal.group_end-requires
group_end-requires t c =
    let T = (rw c.in-OpenBrace.is at c.in_ok-token.ensures) in
    (omega (arith, c.if-depth-eq0.false, c.decreases), (omega (arith, open_later T), record { inside = T.inside; short = c.requires.1.short }))

pub returns-in_err-at-in-OpenBrace : goal.returns-in_err-at-in-OpenBrace
returns-in_err-at-in-OpenBrace t c =
    let p = err_from_is_err_and c.from_residual-in_err-at-in-OpenBrace.result c.from_residual-in_err-at-in-OpenBrace.ensures.1 in
    rw p.1 (inner_ends c.loop-token.invariant c.skip-start.ensures.value (rw c.in-OpenBrace.is at c.in_ok-token.ensures) c.if-depth-eq0.false c.in_err-at-in-OpenBrace.ensures)

pub loop-token-smaller : goal.loop-token-smaller
loop-token-smaller t c =
    let T = (rw c.in-OpenBrace.is at c.in_ok-token.ensures) in
    let i = inner_inside c.loop-token.invariant c.skip-start.ensures.value T c.if-depth-eq0.false c.in_ok-at-in-OpenBrace.ensures in
    omega (arith, open_later T, at_later c.loop-token.invariant c.skip-start.ensures.value)

pub loop-token-preserved : goal.loop-token-preserved
loop-token-preserved t c = inner_on c.loop-token.invariant c.skip-start.ensures.value (rw c.in-OpenBrace.is at c.in_ok-token.ensures) c.if-depth-eq0.false c.in_ok-at-in-OpenBrace.ensures

pub returns-in-CloseBrace : goal.returns-in-CloseBrace
returns-in-CloseBrace t c = close_ends c.loop-token.invariant c.skip-start.ensures.value (rw c.in-CloseBrace.is at c.in_ok-token.ensures)

pub returns-in-End : goal.returns-in-End
returns-in-End t c = missing_ends c.loop-token.invariant c.skip-start.ensures.value (rw c.in-End.is at c.in_ok-token.ensures)
