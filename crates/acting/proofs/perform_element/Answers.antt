-- `acting::perform_element` meets its contract: the procedure moves on, the operator acts, and the procedure is put back if it fails.
-- Assumes nothing.
use native.Mathlib.Omega.{arith}
use mathlib.Core.List.{[]}
use Rattle.frames.proofs.Running.{run_at, cell_room}
use Rattle.acting.proofs.Executing.{element_ready, element_performs, element_fails}
use Rattle.acting.proofs.perform_element.Goals as goal

pub get-number-requires : goal.get-number-requires
get-number-requires c = let R = c.requires.5.1 in let x = run_at R _ (omega (arith, c.requires.0)) c.requires.1 in (omega arith, cell_room R _ (omega (arith, c.requires.0)) x.0 x.1 x.2 c.requires.2)

pub rare-requires : goal.rare-requires
rare-requires c = let w = element_ready _ _ _ [] _ _ [] c.requires.0 c.requires.1 c.requires.2 c.advance.ensures.turned c.advance.auto.exec c.advance.ensures.advances c.requires.3 c.get-number.ensures _ [] [] _ [] c.requires.5.1 in
    (omega (arith, c.get-number.ensures, c.requires.4), w.0, w.1)

pub reset_top-requires : goal.reset_top-requires
reset_top-requires c = (c.requires.0, omega (arith, c.advance.auto.exec, c.requires.5.1.rooms.exec_fits))

pub returns-in-Ok : goal.returns-in-Ok
returns-in-Ok c = element_performs _ _ _ _ _ _ _ c.requires.0 c.requires.1 c.requires.2 c.advance.ensures.turned c.advance.auto.exec c.advance.ensures.advances c.requires.3 c.get-number.ensures _ _ _ _ _ c.in-Ok.is c.rare.ensures

pub returns-in-Err : goal.returns-in-Err
returns-in-Err c = element_fails _ _ _ _ _ _ _ c.requires.0 c.requires.1 c.requires.2 c.advance.ensures.turned c.advance.auto.exec c.advance.ensures.advances c.requires.3 c.get-number.ensures _ _ _ _ _ c.in-Err.is c.rare.ensures c.reset_top.ensures.words
