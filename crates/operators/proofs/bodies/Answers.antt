-- `operators::bodies` meets its contract: each branch by the operator that it calls, named by its number.
-- Assumes nothing.
use Rattle.control_operators.proofs.Promising.{slots_frames}
use Rattle.operators.proofs.Named.{frames_named}
use Rattle.store.specs.Rep.{titles}
use Rattle.semantics.specs.Operators.{table, ◌is◌}
use native.Mathlib.Omega.{arith}
use mathlib.Core.Path.{refl}
use Rattle.operators.proofs.bodies.Goals as goal

pub returns-in-27 : goal.returns-in-27
unfolding titles table ◌is◌
returns-in-27 c = frames_named _ _ c.in-27.is refl (slots_frames _ c.exec_.ensures _)

pub returns-in-28 : goal.returns-in-28
unfolding titles table ◌is◌
returns-in-28 c = frames_named _ _ c.in-28.is refl c.if_.ensures

pub returns-in-29 : goal.returns-in-29
unfolding titles table ◌is◌
returns-in-29 c = frames_named _ _ c.in-29.is refl c.ifelse.ensures

pub returns-in-30 : goal.returns-in-30
unfolding titles table ◌is◌
returns-in-30 c = frames_named _ _ c.in-30.is refl (slots_frames _ c.loop_.ensures _)

pub returns-in-31 : goal.returns-in-31
unfolding titles table ◌is◌
returns-in-31 c = frames_named _ _ c.in-31.is refl (slots_frames _ c.repeat_.ensures _)

pub returns-in_default : goal.returns-in_default
unfolding titles table ◌is◌
returns-in_default c = frames_named 32 _ (omega arith) refl (slots_frames _ c.for_.ensures _)
