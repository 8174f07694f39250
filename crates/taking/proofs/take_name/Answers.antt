-- `take_name` meets its contract: the tag of the slot's binding says whether the name is bound, and what is bound becomes pending.
-- Assumes nothing.
use Rattle.std.proofs.lemmas.Result.{err_from_is_err_and}
use Rattle.taking.proofs.Executing.{name_room, name_unbound, name_full, name_bound, name_done}
use native.Mathlib.Omega.{arith}
use Rattle.taking.proofs.take_name.Goals as goal

pub overflow_mul-slot : goal.overflow_mul-slot
overflow_mul-slot c = omega (arith, name_room c.requires)

pub overflow_add-slot : goal.overflow_add-slot
overflow_add-slot c = omega (arith, name_room c.requires)

pub offset_bounds-dict-slot : goal.offset_bounds-dict-slot
offset_bounds-dict-slot c = omega (arith, name_room c.requires)

pub bounds-dict-slot : goal.bounds-dict-slot
bounds-dict-slot c = omega (arith, name_room c.requires)

pub returns-then-dict-slot-eq-TAG_UNBOUND : goal.returns-then-dict-slot-eq-TAG_UNBOUND
returns-then-dict-slot-eq-TAG_UNBOUND c = name_unbound c.if-dict-slot-eq-TAG_UNBOUND.true

pub returns-in_err-has_slot : goal.returns-in_err-has_slot
returns-in_err-has_slot c =
    let p = err_from_is_err_and c.from_residual.result c.from_residual.ensures.1 in
    rw (p.1, p.2, c.in_err-has_slot.ensures.1) (name_full c.if-dict-slot-eq-TAG_UNBOUND.false c.in_err-has_slot.ensures.0)

pub pend_binding-requires : goal.pend_binding-requires
pend_binding-requires c = (c.in_ok-has_slot.ensures, name_bound c.if-dict-slot-eq-TAG_UNBOUND.false c.requires)

pub returns : goal.returns
returns c = name_done c.if-dict-slot-eq-TAG_UNBOUND.false c.pend_binding.ensures.pends_binding c.pend_binding.auto.exec
