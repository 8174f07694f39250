-- `forf_steps::place_of` meets its contract: each way to an answer by its law.
-- Assumes nothing.
use native.Mathlib.Omega.{arith}
use Rattle.forf_steps.proofs.Choosing.{none, some}
use Rattle.forf_steps.specs.Stepping.{place_of}
use Prim.Native.Nat.{◌+◌, ◌*◌, ◌-◌}
use Rattle.forf_steps.proofs.place_of.Goals as goal

pub returns-then-m-eq0 : goal.returns-then-m-eq0
unfolding place_of
returns-then-m-eq0 c = none _ c.if-m-eq0.true

pub overflow_cast-result : goal.overflow_cast-result
overflow_cast-result c = omega (arith, c.type_inv.exec (8 * (c.args.m.frames - 1) + 1))

pub returns : goal.returns
unfolding place_of
returns c = some _ c.if-m-eq0.false
