-- `onerror` meets its contract: the words that it compares and the row of the name decide between the definition's errors and what `bind_handler` and two drops do.
-- Assumes nothing.
use Rattle.machine.proofs.Outcomes.{elsewhere}
use Rattle.dictionary_operators.proofs.Returns.{def_named}
use Rattle.handlers.proofs.Errors.{some_row, no_row}
use Rattle.error_operators.proofs.Setting.{onerror_short, onerror_mistyped, onerror_room, onerror_unknown, onerror_bound, onerror_good}
use Prim.Native.Nat.{◌+◌, ◌-◌, ◌*◌}
use native.Mathlib.Omega.{arith}
use Rattle.error_operators.proofs.onerror.Goals as goal

pub returns-then-m-lt2 : goal.returns-then-m-lt2
returns-then-m-lt2 c = onerror_short c.if-m-lt2.true

pub returns-then-stack-i-ne-TAG_LITERAL : goal.returns-then-stack-i-ne-TAG_LITERAL
returns-then-stack-i-ne-TAG_LITERAL c = onerror_mistyped c.if-m-lt2.false c.if-stack-i-ne-TAG_LITERAL.true

pub overflow_cast-slot : goal.overflow_cast-slot
overflow_cast-slot c = let args = c.args in
    omega (arith, c.type_inv.stack (2 * (args.m.depth - 2) + 1))

pub row_named-requires : goal.row_named-requires
row_named-requires c = let pre = c.requires in
    onerror_room c.if-m-lt2.false c.if-stack-i-ne-TAG_LITERAL.false pre

pub returns-in_default : goal.returns-in_default
returns-in_default c = onerror_unknown c.if-m-lt2.false c.if-stack-i-ne-TAG_LITERAL.false (no_row c.row_named.ensures.names_row c.in_default.is) (omega arith)

pub bind_handler-bound-requires : goal.bind_handler-bound-requires
bind_handler-bound-requires c = let pre = c.requires in
    (omega (arith, c.if-m-lt2.false), (some_row c.row_named.ensures.names_row c.row_named.ensures.upper_bound c.in-Some.is).1, def_named c.if-m-lt2.false c.if-stack-i-ne-TAG_LITERAL.false pre)

pub drop-one-requires : goal.drop-one-requires
drop-one-requires c = let pre = c.requires in
    (omega (arith, c.if-m-lt2.false, c.bind_handler-bound.ensures.depth_value), onerror_bound c.if-m-lt2.false c.if-stack-i-ne-TAG_LITERAL.false (some_row c.row_named.ensures.names_row c.row_named.ensures.upper_bound c.in-Some.is).0 (some_row c.row_named.ensures.names_row c.row_named.ensures.upper_bound c.in-Some.is).1 c.bind_handler-bound.ensures.binds_handler pre)

pub drop-requires : goal.drop-requires
drop-requires c = let pre = c.requires in
    (omega (arith, c.if-m-lt2.false, c.bind_handler-bound.ensures.depth_value, c.drop-one.ensures.depth_value), elsewhere c.drop-one.ensures.moves_heap (onerror_bound c.if-m-lt2.false c.if-stack-i-ne-TAG_LITERAL.false (some_row c.row_named.ensures.names_row c.row_named.ensures.upper_bound c.in-Some.is).0 (some_row c.row_named.ensures.names_row c.row_named.ensures.upper_bound c.in-Some.is).1 c.bind_handler-bound.ensures.binds_handler pre))

pub shape_of-dict : goal.shape_of-dict
shape_of-dict c = c.bind_handler-bound.auto.dict

pub returns : goal.returns
returns c = onerror_good c.if-m-lt2.false c.if-stack-i-ne-TAG_LITERAL.false (some_row c.row_named.ensures.names_row c.row_named.ensures.upper_bound c.in-Some.is).0 (some_row c.row_named.ensures.names_row c.row_named.ensures.upper_bound c.in-Some.is).1 c.bind_handler-bound.ensures.binds_handler c.drop-one.ensures.moves_heap c.drop.ensures.moves_heap c.bind_handler-bound.auto.dict
