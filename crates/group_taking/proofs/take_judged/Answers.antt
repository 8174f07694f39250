-- `take_judged` meets its contract: no room in the definition's order, or the procedure.
-- Assumes nothing.
use Rattle.std.proofs.lemmas.Result.{err_from_is_err_and}
use mathlib.Core.Path.{refl}
use native.Mathlib.Omega.{arith}
use Rattle.taking.proofs.Flattening.{parsed_flat}
use Rattle.group_taking.proofs.Rooming.{group_full, group_over, group_none, group_ready, group_done}
use Rattle.group_taking.proofs.take_judged.Goals as goal

pub add_names-requires : goal.add_names-requires
add_names-requires c = let pre = c.requires.opened in (pre.2, (_, parsed_flat c.requires.judged.1), (_, _, _, _, _, pre.3.3))

pub returns-in_err-with : goal.returns-in_err-with
returns-in_err-with c =
    let p = err_from_is_err_and c.from_residual.result c.from_residual.ensures.1 in
    let G = c.requires.judged in
    rw (p.1, p.2) (group_full c.requires.opened.0 c.requires.opened.1 G.1 G.5 c.in_err-with.ensures c.add_names.auto.dict refl)

pub has_room-requires : goal.has_room-requires
has_room-requires c = c.requires.opened.3.3.rooms.stack_fits

pub returns-in_err-has_room : goal.returns-in_err-has_room
returns-in_err-has_room c =
    let p = err_from_is_err_and c.from_residual-in_err-has_room.result c.from_residual-in_err-has_room.ensures.1 in
    let G = c.requires.judged in
    rw (p.1, p.2, c.in_err-has_room.ensures.1)
    (group_over c.requires.opened.0 c.requires.opened.1 G.1 G.5 c.in_ok-with.ensures c.add_names.auto.dict refl (omega (arith, c.in_err-has_room.ensures.0)))

pub free_cells-requires : goal.free_cells-requires
free_cells-requires c = (_, (_, _, _, _, c.requires.opened.3.3))

pub overflow_add-judged : goal.overflow_add-judged
overflow_add-judged c = omega (arith, c.requires.judged.4, c.requires.judged.5, c.requires.opened.2)

pub overflow_add-judged-2 : goal.overflow_add-judged-2
overflow_add-judged-2 c = omega (arith, c.requires.judged.4, c.requires.judged.5, c.requires.opened.2)

pub returns-then-free_cells-judged : goal.returns-then-free_cells-judged
returns-then-free_cells-judged c = let G = c.requires.judged in
    group_none c.requires.opened.0 c.requires.opened.1 G.1 G.5 c.in_ok-with.ensures c.add_names.auto.dict refl (omega (arith, c.in_ok-has_room.ensures))
    (omega (arith, c.if-free_cells-judged.true, c.free_cells.ensures, G.2, G.3))

pub construct-requires : goal.construct-requires
construct-requires c = let G = c.requires.judged in
    group_ready c.requires.opened.0 c.requires.opened.1 G.1 G.5 c.in_ok-with.ensures c.add_names.auto.dict refl (omega (arith, c.in_ok-has_room.ensures))
    (omega (arith, c.if-free_cells-judged.false, c.free_cells.ensures, G.2, G.3)) c.requires.opened.2 G.2 (omega (arith, G.4, G.5, c.requires.opened.2)) c.requires.opened.3

pub returns : goal.returns
returns c = let G = c.requires.judged in
    group_done c.requires.opened.0 c.requires.opened.1 G.1 G.5 c.in_ok-with.ensures c.add_names.auto.dict refl (omega (arith, c.in_ok-has_room.ensures))
    (omega (arith, c.if-free_cells-judged.false, c.free_cells.ensures, G.2, G.3)) c.construct.ensures
