-- `emit_line` meets its contract: the parts of the line, one after the other (`Lines`).
-- Assumes nothing.
use mathlib.Core.Path.{◌≡◌, ◌∙◌, sym}
use native.Mathlib.Omega.{arith}
use lib.ListN.{length}
use lib.Seq.{length-take-le}
use borrow.Author.Rules.{rules}
use Rattle.ledger_writer.proofs.Lines.{room_number, room_comma, room_place, room_comma_2, room_time, room_break, line_emits}
use Rattle.ledger_writer.proofs.emit_line.Goals as goal

pub emit_number-first-requires : goal.emit_number-first-requires
emit_number-first-requires c = room_number _ c.requires.1

pub put-second-requires : goal.put-second-requires
put-second-requires c = room_comma _ c.requires.1 c.emit_number-first.ensures c.emit_number-first.auto.text

pub slice_bounds-place-end : goal.slice_bounds-place-end
slice_bounds-place-end c = let whole : length c.args.entry.place ≡ 31 = search rules in
    omega (arith, whole, c.requires.0)

pub slice_bounds-emit_place-end : goal.slice_bounds-emit_place-end
slice_bounds-emit_place-end c = let whole : length c.args.entry.place ≡ 31 = search rules in
    sym (length-take-le c.args.entry.length c.args.entry.place (omega (arith, whole, c.requires.0)))

pub emit_place-third-requires : goal.emit_place-third-requires
emit_place-third-requires c = room_place _ c.requires.1 c.emit_number-first.ensures c.emit_number-first.auto.text c.put-second.ensures c.put-second.auto.text

pub put-fourth-requires : goal.put-fourth-requires
put-fourth-requires c = room_comma_2 _ c.requires.1 c.emit_number-first.ensures c.emit_number-first.auto.text c.put-second.ensures c.put-second.auto.text c.emit_place-third.ensures c.emit_place-third.auto.text

pub emit_number-fifth-requires : goal.emit_number-fifth-requires
emit_number-fifth-requires c = room_time _ c.requires.1 c.emit_number-first.ensures c.emit_number-first.auto.text c.put-second.ensures c.put-second.auto.text c.emit_place-third.ensures c.emit_place-third.auto.text c.put-fourth.ensures c.put-fourth.auto.text

pub emit_break-requires : goal.emit_break-requires
emit_break-requires c = room_break _ c.requires.1 c.emit_number-first.ensures c.emit_number-first.auto.text c.put-second.ensures c.put-second.auto.text c.emit_place-third.ensures c.emit_place-third.auto.text c.put-fourth.ensures c.put-fourth.auto.text c.emit_number-fifth.ensures c.emit_number-fifth.auto.text

pub shape_of-text : goal.shape_of-text
shape_of-text c = c.emit_break.auto.text ∙ c.emit_number-fifth.auto.text ∙ c.put-fourth.auto.text ∙ c.emit_place-third.auto.text ∙ c.put-second.auto.text ∙ c.emit_number-first.auto.text

pub returns : goal.returns
returns c = line_emits _ c.requires.1 c.emit_number-first.ensures c.emit_number-first.auto.text c.put-second.ensures c.put-second.auto.text c.emit_place-third.ensures c.emit_place-third.auto.text c.put-fourth.ensures c.put-fourth.auto.text c.emit_number-fifth.ensures c.emit_number-fifth.auto.text c.emit_break.ensures
