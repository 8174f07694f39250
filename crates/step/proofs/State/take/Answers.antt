-- `take` meets its contract: by the token that is read, a law for each.
-- Assumes nothing.
use native.Mathlib.Omega.{arith}
use Rattle.taking.proofs.Naming.{part_short}
use Rattle.step.proofs.TokenSteps.{token_is, lex_fault, close_fault, end_fault, integer_does, string_does, literal_does, executable_does, group_does}
use Rattle.step.proofs.State.take.Goals as goal

pub skip-start-requires : goal.skip-start-requires
skip-start-requires c = let pre = c.requires in
    pre.1.inside

pub token_at-requires : goal.token_at-requires
token_at-requires c = let pre = c.requires in record { start_in_bounds = c.skip-start.ensures.upper_bound; script_len_bound = omega (arith, pre.1.short) }

pub take_integer-requires : goal.take_integer-requires
take_integer-requires c = let pre = c.requires in
    (pre.1.machine.1.rooms.stack_fits, pre.1.machine.1.rooms.stack_few)

pub ended-requires : goal.ended-requires
ended-requires c = let pre = c.requires in
    pre.1.few

pub take_string-did-requires : goal.take_string-did-requires
take_string-did-requires c = let args = c.args in
    let pre = c.requires in
    let T = token_is args.script.now c.skip-start.result _ c.in-Ok.ensures c.in-String.is in (pre.1.short, (T.bytes, _, T.own, T.holds), (_, _, _, _, pre.1.machine.1))

pub ended-requires-in-String : goal.ended-requires-in-String
ended-requires-in-String c = let pre = c.requires in
    pre.1.few

pub overflow_add-at : goal.overflow_add-at
overflow_add-at c = let args = c.args in
    let pre = c.requires in
    let T = token_is args.script.now c.skip-start.result _ c.in-Ok.ensures c.in-ExecutableName.is in omega (arith, T.ends, T.token.inside, pre.1.short)

pub slice_bounds-take_executable-count : goal.slice_bounds-take_executable-count
slice_bounds-take_executable-count c = omega arith

pub take_executable-did-requires : goal.take_executable-did-requires
take_executable-did-requires c = let args = c.args in
    let pre = c.requires in
    let T = token_is args.script.now c.skip-start.result _ c.in-Ok.ensures c.in-ExecutableName.is in (part_short _ _ _ T.few, (_, _, _, pre.1.machine.1))

pub ended-requires-in-ExecutableName : goal.ended-requires-in-ExecutableName
ended-requires-in-ExecutableName c = let pre = c.requires in
    pre.1.few

pub overflow_add-at-in-LiteralName : goal.overflow_add-at-in-LiteralName
overflow_add-at-in-LiteralName c = let args = c.args in
    let pre = c.requires in
    let T = token_is args.script.now c.skip-start.result _ c.in-Ok.ensures c.in-LiteralName.is in omega (arith, T.ends, T.token.inside, pre.1.short)

pub slice_bounds-take_literal-count : goal.slice_bounds-take_literal-count
slice_bounds-take_literal-count c = omega arith

pub take_literal-did-requires : goal.take_literal-did-requires
take_literal-did-requires c = let args = c.args in
    let pre = c.requires in
    let T = token_is args.script.now c.skip-start.result _ c.in-Ok.ensures c.in-LiteralName.is in (part_short _ _ _ T.few, (_, _, _, _, pre.1.machine.1))

pub ended-requires-in-LiteralName : goal.ended-requires-in-LiteralName
ended-requires-in-LiteralName c = let pre = c.requires in
    pre.1.few

pub take_group-grouped-requires : goal.take_group-grouped-requires
take_group-grouped-requires c = let args = c.args in
    let pre = c.requires in
    let T = token_is args.script.now c.skip-start.result _ c.in-Ok.ensures c.in-OpenBrace.is in (omega (arith, T.ends), T.token.inside, pre.1.short, (_, _, _, pre.1.machine.1))

pub grouped-requires : goal.grouped-requires
grouped-requires c = let pre = c.requires in
    pre.1.few

pub overflow_cast-start : goal.overflow_cast-start
overflow_cast-start c = let pre = c.requires in
    omega (arith, c.skip-start.ensures.upper_bound, pre.1.short)

pub misread-requires : goal.misread-requires
misread-requires c = let pre = c.requires in
    pre.1.few

pub overflow_cast-start-in-End : goal.overflow_cast-start-in-End
overflow_cast-start-in-End c = let pre = c.requires in
    omega (arith, c.skip-start.ensures.upper_bound, pre.1.short)

pub misread-requires-in-End : goal.misread-requires-in-End
misread-requires-in-End c = let pre = c.requires in
    pre.1.few

pub returns-in-Integer : goal.returns-in-Integer
returns-in-Integer c = let args = c.args in
    let pre = c.requires in
    let read_as = token_is args.script.now c.skip-start.result _ c.in-Ok.ensures c.in-Integer.is in
    integer_does pre.2 c.skip-start.ensures.value c.skip-start.ensures.upper_bound read_as _ c.take_integer.ensures c.ended.ensures

pub returns-in-String : goal.returns-in-String
returns-in-String c = let args = c.args in
    let pre = c.requires in
    let read_as = token_is args.script.now c.skip-start.result _ c.in-Ok.ensures c.in-String.is in
    string_does pre.2 c.skip-start.ensures.value c.skip-start.ensures.upper_bound read_as _ c.take_string-did.ensures c.ended-in-String.ensures

pub returns-in-ExecutableName : goal.returns-in-ExecutableName
returns-in-ExecutableName c = let args = c.args in
    let pre = c.requires in
    let read_as = token_is args.script.now c.skip-start.result _ c.in-Ok.ensures c.in-ExecutableName.is in
    executable_does pre.2 c.skip-start.ensures.value c.skip-start.ensures.upper_bound read_as _ c.take_executable-did.ensures c.ended-in-ExecutableName.ensures

pub returns-in-LiteralName : goal.returns-in-LiteralName
returns-in-LiteralName c = let args = c.args in
    let pre = c.requires in
    let read_as = token_is args.script.now c.skip-start.result _ c.in-Ok.ensures c.in-LiteralName.is in
    literal_does pre.2 c.skip-start.ensures.value c.skip-start.ensures.upper_bound read_as _ c.take_literal-did.ensures c.ended-in-LiteralName.ensures

pub returns-in-OpenBrace : goal.returns-in-OpenBrace
returns-in-OpenBrace c = let pre = c.requires in
    let args = c.args in
    group_does pre.2 c.skip-start.ensures.value c.skip-start.ensures.upper_bound (token_is args.script.now c.skip-start.result _ c.in-Ok.ensures c.in-OpenBrace.is) _ c.take_group-grouped.ensures c.grouped.ensures

pub returns-in-CloseBrace : goal.returns-in-CloseBrace
returns-in-CloseBrace c = let args = c.args in
    let pre = c.requires in
    let read_as = token_is args.script.now c.skip-start.result _ c.in-Ok.ensures c.in-CloseBrace.is in
    close_fault pre.2 c.skip-start.ensures.value c.skip-start.ensures.upper_bound read_as c.misread.ensures

pub returns-in-End : goal.returns-in-End
returns-in-End c = let args = c.args in
    let pre = c.requires in
    let read_as = token_is args.script.now c.skip-start.result _ c.in-Ok.ensures c.in-End.is in
    end_fault pre.2 c.skip-start.ensures.value c.skip-start.ensures.upper_bound read_as c.misread-in-End.ensures

pub misread-requires-in-Err : goal.misread-requires-in-Err
misread-requires-in-Err c = let pre = c.requires in
    pre.1.few

pub returns-in-Err : goal.returns-in-Err
returns-in-Err c = let pre = c.requires in
    lex_fault pre.2 c.skip-start.ensures.value c.skip-start.ensures.upper_bound c.in-Err.ensures c.misread-in-Err.ensures
