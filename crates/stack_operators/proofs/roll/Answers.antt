-- `stack_operators::roll` meets its contract: the count's sign and the depth decide between the definition's errors and what two `drop`s and `exchange` do in turn.
-- Assumes nothing.
use Rattle.std.proofs.Common.{rules}
use native.Mathlib.Omega.{arith}
use Rattle.stack_operators.proofs.Returns.{roll_bad, roll_range, roll_short, roll_no_items, roll_no_shift, roll_good}
use Rattle.machine.proofs.Outcomes.{elsewhere}
use Rattle.std.proofs.lemmas.Result.{err_from_is_err_and}
use Rattle.stack_operators.proofs.roll.Goals as goal

pub returns-in_err-w : goal.returns-in_err-w
returns-in_err-w c =
    let p = err_from_is_err_and c.from_residual.result c.from_residual.ensures.1 in
    rw (p.1, p.2) (roll_bad c.two_ints.ensures.fetches_two c.in_err-w.was)

pub returns-then-w-ge-SIGN : goal.returns-then-w-ge-SIGN
returns-then-w-ge-SIGN c = roll_range c.two_ints.ensures.fetches_two c.in_ok-w.was c.if-w-ge-SIGN.true (search rules)

pub returns-in_err-needs : goal.returns-in_err-needs
returns-in_err-needs c =
    let p = err_from_is_err_and c.from_residual-in_err-needs.result c.from_residual-in_err-needs.ensures.1 in
    rw (p.1, p.2, c.in_err-needs.ensures.1) (roll_short c.two_ints.ensures.fetches_two c.in_ok-w.was c.if-w-ge-SIGN.false (omega (arith, c.in_err-needs.ensures.0, c.in_ok-w.ensures.result_bound)))

pub drop-one-requires : goal.drop-one-requires
drop-one-requires c = (omega (arith, c.in_ok-needs.ensures), c.requires)

pub drop-left-requires : goal.drop-left-requires
drop-left-requires c = (omega (arith, c.in_ok-needs.ensures, c.drop-one.ensures.depth_value), elsewhere c.drop-one.ensures.moves_heap c.requires)

pub returns-then-w-eq0 : goal.returns-then-w-eq0
returns-then-w-eq0 c = roll_no_items c.two_ints.ensures.fetches_two c.in_ok-w.was c.if-w-ge-SIGN.false (omega (arith, c.in_ok-needs.ensures)) c.drop-one.ensures.moves_heap c.drop-left.ensures.moves_heap c.if-w-eq0.true

pub returns-then-k-eq0 : goal.returns-then-k-eq0
returns-then-k-eq0 c = roll_no_shift c.two_ints.ensures.fetches_two c.in_ok-w.was c.if-w-ge-SIGN.false (omega (arith, c.in_ok-needs.ensures)) c.drop-one.ensures.moves_heap c.drop-left.ensures.moves_heap c.modulo-k.ensures.value c.if-k-eq0.true

pub exchange-requires : goal.exchange-requires
exchange-requires c =
    let first = c.drop-one.ensures.depth_value in
    let second = c.drop-left.ensures.depth_value in
    (omega (arith, first, second, c.requires.4.rooms.stack_fits), omega (arith, first, second, c.in_ok-needs.ensures, c.modulo-k.ensures.upper_bound))

pub returns : goal.returns
returns c = roll_good c.two_ints.ensures.fetches_two c.in_ok-w.was c.if-w-ge-SIGN.false (omega (arith, c.in_ok-needs.ensures)) c.drop-one.ensures.moves_heap c.drop-left.ensures.moves_heap c.modulo-k.ensures.value c.modulo-k.ensures.upper_bound c.exchange.ensures c.exchange.auto.stack
