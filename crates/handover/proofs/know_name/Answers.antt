-- `know_name` meets its contract: the name has a slot, gets one, or is not stored.
-- Assumes nothing.
use Rattle.handover.proofs.Knowing.{stored_empty, stored_slot, stored_none, stored_new}
use Rattle.dictionary.proofs.Interning.{found_key}
use mathlib.Core.Path.{refl}
use native.Mathlib.Omega.{arith}
use Rattle.handover.proofs.know_name.Goals as goal

pub returns-then-name-eq0 : goal.returns-then-name-eq0
returns-then-name-eq0 c = record { knows = λ s e k l μ R. stored_empty R _ c.if-name-eq0.true }

pub find-requires : goal.find-requires
find-requires c = let pre = c.requires in
    (pre.0, pre.1.5.rooms.dict_fits, pre.1.5.rooms.dict_few)

pub overflow_cast-result : goal.overflow_cast-result
overflow_cast-result c = let pre = c.requires in
    omega (arith, c.in-Some.ensures.upper_bound, pre.1.5.rooms.dict_fits, pre.1.5.rooms.dict_few)

pub overflow_add-result : goal.overflow_add-result
overflow_add-result c = let pre = c.requires in
    omega (arith, c.in-Some.ensures.upper_bound, pre.1.5.rooms.dict_fits, pre.1.5.rooms.dict_few)

pub returns-in-Some : goal.returns-in-Some
returns-in-Some c = record { knows = λ s e k l μ R. stored_slot R _ _ _ (found_key R _ c.in-Some.ensures.finds c.in-Some.ensures.upper_bound) c.if-name-eq0.false refl }

pub returns-then-dict-m : goal.returns-then-dict-m
returns-then-dict-m c = record { knows = λ s e k l μ R. stored_none R _ c.in_default.ensures.finds c.if-dict-m.true }

pub add-r-requires : goal.add-r-requires
add-r-requires c = let pre = c.requires in
    (pre.0, c.if-dict-m.false, pre.1.5.rooms.dict_few)

pub overflow_cast-result-2 : goal.overflow_cast-result-2
overflow_cast-result-2 c = let pre = c.requires in
    omega (arith, pre.1.5.rooms.dict_fits, pre.1.5.rooms.dict_few)

pub overflow_add-result-2 : goal.overflow_add-result-2
overflow_add-result-2 c = let pre = c.requires in
    omega (arith, pre.1.5.rooms.dict_fits, pre.1.5.rooms.dict_few)

pub returns : goal.returns
returns c = record { knows = λ s e k l μ R. stored_new R _ c.in_default.ensures.finds _ _ _ c.if-dict-m.false c.if-name-eq0.false c.add-r.ensures.adds refl }
