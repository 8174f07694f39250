-- `acting::name_element` meets its contract: as for an operator, with the binding made pending.
-- Assumes nothing.
use Rattle.acting.proofs.Executing.{named_ready, element_named, element_unnamed}
use Rattle.frames.proofs.Running.{run_at, cell_room}
use mathlib.Core.List.{[]}
use native.Mathlib.Omega.{arith}
use Rattle.acting.proofs.name_element.Goals as goal

pub get-slot-requires : goal.get-slot-requires
get-slot-requires c = let pre = c.requires in
    let x = run_at pre.4.3 _ (omega (arith, pre.0)) pre.1 in (omega arith, cell_room pre.4.3 _ (omega (arith, pre.0)) x.0 x.1 x.2 pre.2)

pub take_name-requires : goal.take_name-requires
take_name-requires c = let pre = c.requires in
    named_ready _ _ _ [] _ _ [] pre.0 pre.1 pre.2 c.advance.ensures.turned c.advance.auto.exec c.advance.ensures.advances pre.3 c.get-slot.ensures pre.4

pub reset_top-requires : goal.reset_top-requires
reset_top-requires c = let pre = c.requires in
    (pre.0, omega (arith, c.take_name.auto.exec, c.advance.auto.exec, pre.4.3.rooms.exec_fits))

pub returns-in-Ok : goal.returns-in-Ok
returns-in-Ok c = let pre = c.requires in
    element_named _ _ _ _ _ _ _ pre.0 pre.1 pre.2 c.advance.ensures.turned c.advance.auto.exec c.advance.ensures.advances pre.3 c.get-slot.ensures c.in-Ok.is c.take_name.ensures

pub returns-in-Err : goal.returns-in-Err
returns-in-Err c = let pre = c.requires in
    element_unnamed _ _ _ _ _ _ _ pre.0 pre.1 pre.2 c.advance.ensures.turned c.advance.auto.exec c.advance.ensures.advances pre.3 c.get-slot.ensures c.in-Err.is c.take_name.ensures c.reset_top.ensures.words
