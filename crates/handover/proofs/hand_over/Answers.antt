-- `hand_over` meets its contract: what failed is taken, both names are stored, and the handler becomes pending, one change after another.
-- Assumes nothing.
use Rattle.handover.proofs.Handing.{hands_none, hands_full, may_know, rows_there, slot_small, pend_room, pend_there, hands}
use Rattle.handlers.proofs.Setting.{rows_room, rows_few}
use Rattle.machine.specs.Words.{handler_tag}
use Prim.Native.Nat.{◌+◌}
use mathlib.Core.Path.{◌≡◌, sym, ap, ◌∙◌}
use native.Mathlib.Omega.{arith}
use Rattle.handover.proofs.hand_over.Goals as goal

pub handler_tag-requires : goal.handler_tag-requires
handler_tag-requires c = let pre = c.requires in
    (c.row_of-row.ensures.1, rows_room pre.stands, rows_few pre.stands)

pub returns-then-handler_tag-eq-TAG_UNBOUND : goal.returns-then-handler_tag-eq-TAG_UNBOUND
returns-then-handler_tag-eq-TAG_UNBOUND c = let args = c.args in
    hands_none _ args.e _ _ _ _ _ c.row_of-row.ensures.0 (sym c.handler_tag.ensures ∙ c.if-handler_tag-eq-TAG_UNBOUND.true)

pub has_slot-requires : goal.has_slot-requires
has_slot-requires c = let pre = c.requires in
    pre.stands.rooms.exec_fits

pub pass_top-passed-requires : goal.pass_top-passed-requires
pass_top-passed-requires c = let pre = c.requires in
    (pre.passable, (pre.stack, _, pre.log, pre.machine, pre.stands))

pub know_command-known-requires : goal.know_command-known-requires
know_command-known-requires c = let args = c.args in
    let pre = c.requires in
    may_know _ args.e _ _ _ _ _ c.row_of-row.ensures.0 (λ q. c.if-handler_tag-eq-TAG_UNBOUND.false (c.handler_tag.ensures ∙ q)) c.has_slot.ensures c.if-not-has_slot.false _ _ _ c.pass_top-passed.ensures c.pass_top-passed.auto.exec (pre)

pub name_slot-error-requires : goal.name_slot-error-requires
name_slot-error-requires c = let args = c.args in
    let pre = c.requires in
    let there = rows_there _ args.e _ _ _ _ _ c.row_of-row.ensures.0 (λ q. c.if-handler_tag-eq-TAG_UNBOUND.false (c.handler_tag.ensures ∙ q)) c.has_slot.ensures c.if-not-has_slot.false _ _ _ c.pass_top-passed.ensures c.pass_top-passed.auto.exec _ _ c.know_command-known.ensures c.know_command-known.auto.dict (pre) in
    (c.row_of-row.ensures.1, there.0, there.1)

pub overflow_add-error : goal.overflow_add-error
overflow_add-error c = let args = c.args in
    let pre = c.requires in
    let small = slot_small _ args.e _ _ _ _ _ c.row_of-row.ensures.0 (λ q. c.if-handler_tag-eq-TAG_UNBOUND.false (c.handler_tag.ensures ∙ q)) c.has_slot.ensures c.if-not-has_slot.false _ _ _ c.pass_top-passed.ensures c.pass_top-passed.auto.exec _ _ c.know_command-known.ensures c.know_command-known.auto.dict (pre) in
    omega (arith, small, c.name_slot-error.ensures)

pub note-requires : goal.note-requires
note-requires c = let args = c.args in
    let pre = c.requires in
    rows_there _ args.e _ _ _ _ _ c.row_of-row.ensures.0 (λ q. c.if-handler_tag-eq-TAG_UNBOUND.false (c.handler_tag.ensures ∙ q)) c.has_slot.ensures c.if-not-has_slot.false _ _ _ c.pass_top-passed.ensures c.pass_top-passed.auto.exec _ _ c.know_command-known.ensures c.know_command-known.auto.dict (pre)

pub pend_handler-requires : goal.pend_handler-requires
pend_handler-requires c = let args = c.args in
    let pre = c.requires in
    let is_IsWord = ap (λ n. n + 1) c.name_slot-error.ensures in
    let tagged : handler_tag args.dict.now c.row_of-row.result ≡ 7 → ⊥ = λ q. c.if-handler_tag-eq-TAG_UNBOUND.false (c.handler_tag.ensures ∙ q) in (
      pend_room _ args.e _ _ _ _ _ c.row_of-row.ensures.0 tagged c.has_slot.ensures c.if-not-has_slot.false _ _ _ c.pass_top-passed.ensures c.pass_top-passed.auto.exec _ _ c.know_command-known.ensures c.know_command-known.auto.dict _ is_IsWord _ c.note.ensures c.note.auto.dict (pre),
      c.row_of-row.ensures.1,
      pend_there _ args.e _ _ _ _ _ c.row_of-row.ensures.0 tagged c.has_slot.ensures c.if-not-has_slot.false _ _ _ c.pass_top-passed.ensures c.pass_top-passed.auto.exec _ _ c.know_command-known.ensures c.know_command-known.auto.dict _ is_IsWord _ c.note.ensures c.note.auto.dict (pre),
    )

pub returns-then-not-has_slot : goal.returns-then-not-has_slot
returns-then-not-has_slot c = let args = c.args in
    hands_full _ args.e _ _ _ _ _ c.row_of-row.ensures.0 (λ q. c.if-handler_tag-eq-TAG_UNBOUND.false (c.handler_tag.ensures ∙ q)) c.has_slot.ensures c.if-not-has_slot.true

pub shape_of-exec : goal.shape_of-exec
shape_of-exec c = c.pend_handler.auto.exec ∙ c.pass_top-passed.auto.exec

pub shape_of-dict : goal.shape_of-dict
shape_of-dict c = c.note.auto.dict ∙ c.know_command-known.auto.dict

pub shape_of-cells : goal.shape_of-cells
shape_of-cells c = c.pend_handler.auto.cells ∙ c.pass_top-passed.auto.cells

pub returns : goal.returns
returns c = let args = c.args in
    let is_IsWord = ap (λ n. n + 1) c.name_slot-error.ensures in
    let tagged : handler_tag args.dict.now c.row_of-row.result ≡ 7 → ⊥ = λ q. c.if-handler_tag-eq-TAG_UNBOUND.false (c.handler_tag.ensures ∙ q) in
    hands _ args.e _ _ _ _ _ c.row_of-row.ensures.0 tagged c.has_slot.ensures c.if-not-has_slot.false _ _ _ c.pass_top-passed.ensures c.pass_top-passed.auto.exec _ _ c.know_command-known.ensures c.know_command-known.auto.dict _ is_IsWord _ c.note.ensures c.note.auto.dict c.pend_handler.ensures.pends_handler
