-- `forf_runner::set_up` meets its contract: each way to an answer by its law.
-- Assumes nothing.
use Rattle.forf_runner.proofs.Answering.{few_slots}
use Prim.Native.Nat.{◌/◌}
use borrow.Author.Tests.{lt-ltb, le-ltb}
use Rattle.forf_runner.specs.Promise.{refusal_of}
use native.Mathlib.Omega.{arith}
use mathlib.Core.Path.{sym, ◌∙◌, refl}
use Rattle.forf_runner.proofs.set_up.Goals as goal

pub returns-then-script-gt-SCRIPT_MOST : goal.returns-then-script-gt-SCRIPT_MOST
unfolding refusal_of
returns-then-script-gt-SCRIPT_MOST c = rw (lt-ltb _ _ c.if-script-gt-SCRIPT_MOST.true) (omega arith, refl)

pub returns-then-fuel-gt-FUEL_MOST : goal.returns-then-fuel-gt-FUEL_MOST
unfolding refusal_of
returns-then-fuel-gt-FUEL_MOST c = rw (le-ltb _ _ c.if-script-gt-SCRIPT_MOST.false, lt-ltb _ _ c.if-fuel-gt-FUEL_MOST.true) (omega arith, refl)

pub returns-then-outside : goal.returns-then-outside
unfolding refusal_of
returns-then-outside c = rw (le-ltb _ _ c.if-script-gt-SCRIPT_MOST.false, le-ltb _ _ c.if-fuel-gt-FUEL_MOST.false, sym c.outside.ensures ∙ c.if-outside.true) (omega arith, refl)

pub returns-then-outside-2 : goal.returns-then-outside-2
unfolding refusal_of
returns-then-outside-2 c = rw (le-ltb _ _ c.if-script-gt-SCRIPT_MOST.false, le-ltb _ _ c.if-fuel-gt-FUEL_MOST.false, sym c.outside.ensures ∙ c.if-outside.false, sym c.outside-2.ensures ∙ c.if-outside-2.true) (omega arith, refl)

pub overflow_mul-slots : goal.overflow_mul-slots
overflow_mul-slots c = let few = few_slots (c.args.stack / 2) c.outside.ensures c.if-outside.false in omega arith

pub overflow_add-slots : goal.overflow_add-slots
overflow_add-slots c = let few = few_slots (c.args.stack / 2) c.outside.ensures c.if-outside.false in omega arith

pub returns-then-outcome-slots : goal.returns-then-outcome-slots
unfolding refusal_of
returns-then-outcome-slots c = rw (le-ltb _ _ c.if-script-gt-SCRIPT_MOST.false, le-ltb _ _ c.if-fuel-gt-FUEL_MOST.false, sym c.outside.ensures ∙ c.if-outside.false, sym c.outside-2.ensures ∙ c.if-outside-2.false, lt-ltb _ _ c.if-outcome-slots.true) (omega arith, refl)

pub returns : goal.returns
unfolding refusal_of
returns c = rw (le-ltb _ _ c.if-script-gt-SCRIPT_MOST.false, le-ltb _ _ c.if-fuel-gt-FUEL_MOST.false, sym c.outside.ensures ∙ c.if-outside.false, sym c.outside-2.ensures ∙ c.if-outside-2.false, le-ltb _ _ c.if-outcome-slots.false) refl
