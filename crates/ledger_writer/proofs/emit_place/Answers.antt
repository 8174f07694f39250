-- `emit_place` meets its contract: a quote, the bytes and a quote, one after the other; or the bytes alone, of which none is a quote.
-- Assumes nothing.
use mathlib.Core.List.{[], ◌∷◌, ◌++◌}
use mathlib.Core.Path.{◌∙◌, sym}
use Rattle.ledger.specs.Ledger.{doubled}
use Rattle.ledger_writer.proofs.Emits.{room_first, room_rest, room_of_lem, emits_as, emits_then}
use Rattle.ledger_writer.proofs.Places.{any_special, field_quoted, field_plain}
use Rattle.ledger_writer.proofs.emit_place.Goals as goal

pub put-inside-requires : goal.put-inside-requires
put-inside-requires c = room_first (34 ∷ []) _ (room_of_lem (field_quoted _ (c.needs_quotes.ensures ∙ any_special _) c.if-needs_quotes.true) c.requires)

pub emit_doubled-close-requires : goal.emit_doubled-close-requires
emit_doubled-close-requires c = room_first _ (34 ∷ []) (room_rest (34 ∷ []) _ (room_of_lem (field_quoted _ (c.needs_quotes.ensures ∙ any_special _) c.if-needs_quotes.true) c.requires) c.put-inside.ensures c.put-inside.auto.text)

pub put-requires : goal.put-requires
put-requires c = room_rest (doubled c.args.place.now) (34 ∷ []) (room_rest (34 ∷ []) _ (room_of_lem (field_quoted _ (c.needs_quotes.ensures ∙ any_special _) c.if-needs_quotes.true) c.requires) c.put-inside.ensures c.put-inside.auto.text) c.emit_doubled-close.ensures c.emit_doubled-close.auto.text

pub shape_of-text-then-needs_quotes : goal.shape_of-text-then-needs_quotes
shape_of-text-then-needs_quotes c = c.put.auto.text ∙ c.emit_doubled-close.auto.text ∙ c.put-inside.auto.text

pub returns-then-needs_quotes : goal.returns-then-needs_quotes
returns-then-needs_quotes c = let place = c.args.place.now in
    let quoted = field_quoted place (c.needs_quotes.ensures ∙ any_special _) c.if-needs_quotes.true in
    let room = room_of_lem quoted c.requires in
    let inside = room_rest (34 ∷ []) (doubled place ++ (34 ∷ [])) room c.put-inside.ensures c.put-inside.auto.text in
    emits_as (sym quoted) (emits_then (34 ∷ []) (doubled place ++ (34 ∷ [])) room c.put-inside.ensures (emits_then (doubled place) (34 ∷ []) inside c.emit_doubled-close.ensures c.put.ensures))

pub emit_doubled-requires : goal.emit_doubled-requires
emit_doubled-requires c = room_of_lem (field_plain _ (c.needs_quotes.ensures ∙ any_special _) c.if-needs_quotes.false) c.requires

pub shape_of-text : goal.shape_of-text
shape_of-text c = c.emit_doubled.auto.text

pub returns : goal.returns
returns c = emits_as (sym (field_plain c.args.place.now (c.needs_quotes.ensures ∙ any_special _) c.if-needs_quotes.false)) c.emit_doubled.ensures
