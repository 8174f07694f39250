-- `acting::name_pending` meets its contract: the slot goes, and the binding takes its place.
-- Assumes nothing.
use Rattle.acting.proofs.Executing.{name_ready, name_does}
use Prim.Native.Nat.{◌+◌, ◌-◌, ◌*◌}
use native.Mathlib.Omega.{arith}
use Rattle.acting.proofs.name_pending.Goals as goal

pub overflow_cast-slot : goal.overflow_cast-slot
overflow_cast-slot c = omega (arith, c.type_inv.exec (8 * (c.args.m.frames - 1) + 2))

pub take_name-requires : goal.take_name-requires
take_name-requires c = name_ready c.requires.3.3 c.requires.0 c.requires.1 c.forget_frame-left.ensures.forgets_frame c.requires.2

pub returns : goal.returns
returns c = name_does _ c.requires.0 c.requires.1 c.requires.2 c.forget_frame-left.ensures.forgets_frame c.take_name.ensures
