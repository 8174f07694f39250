-- `row_among` meets its contract: the loop keeps `Searching`, that no name before is the slot's.
-- Assumes nothing.
use Rattle.handlers.specs.Handling.{NamesRow}
use mathlib.Core.Path.{subst}
use Rattle.handlers.proofs.Errors.{search_begin, search_inside, search_short, search_found, search_again, search_end}
use native.Mathlib.Omega.{arith}
use Rattle.handlers.proofs.row_among.Goals as goal

pub loop-j-init : goal.loop-j-init
loop-j-init c = let pre = c.requires in
    search_begin pre.0

pub blank_from-end-requires : goal.blank_from-end-requires
blank_from-end-requires c = c.loop-j.invariant.within

pub is_named-requires : goal.is_named-requires
is_named-requires c = let loop = c.loop-j in
    let loop-test = c.loop-j-test in
    let pre = c.requires in
    (search_short loop.invariant loop-test.true c.blank_from-end.ensures, pre.1, pre.2)

pub returns-then-is_named : goal.returns-then-is_named
returns-then-is_named c = let loop = c.loop-j in
    let loop-test = c.loop-j-test in
    let blank-from = c.blank_from-end in
    record { names_row = search_found loop.invariant loop-test.true blank-from.ensures c.is_named.ensures c.if-is_named.true; upper_bound = loop-test.true }

pub overflow_add-at : goal.overflow_add-at
overflow_add-at c = let loop = c.loop-j in
    let loop-test = c.loop-j-test in
    let blank-from = c.blank_from-end in
    omega (arith, search_inside loop.invariant loop-test.true blank-from.ensures)

pub loop-j-preserved : goal.loop-j-preserved
loop-j-preserved c = let loop = c.loop-j in
    let loop-test = c.loop-j-test in
    let blank-from = c.blank_from-end in
    search_again loop.invariant loop-test.true blank-from.ensures c.is_named.ensures c.if-is_named.false

pub returns : goal.returns
returns c = record { names_row = subst (NamesRow _ _) (omega (arith, c.loop-j-test.false, c.loop-j.auto.j-end)) (search_end c.loop-j.invariant c.loop-j-test.false); upper_bound = tt }
