-- `emit_byte` meets its contract: a quote is emitted twice, any other byte once.
-- Assumes nothing.
use mathlib.Core.List.{[], ◌∷◌}
use mathlib.Core.Path.{◌∙◌, sym}
use Rattle.ledger_writer.proofs.Emits.{room_first, room_rest, room_of_lem, emits_as, emits_then}
use Rattle.ledger_writer.proofs.Places.{doubled_quote, doubled_else}
use Rattle.ledger_writer.proofs.emit_byte.Goals as goal

pub put-second-requires : goal.put-second-requires
put-second-requires c = room_first (34 ∷ []) (34 ∷ []) (room_of_lem (doubled_quote _ c.if-b-eq34.true) c.requires)

pub put-requires : goal.put-requires
put-requires c = room_rest (34 ∷ []) (34 ∷ []) (room_of_lem (doubled_quote _ c.if-b-eq34.true) c.requires) c.put-second.ensures c.put-second.auto.text

pub shape_of-text-then-b-eq34 : goal.shape_of-text-then-b-eq34
shape_of-text-then-b-eq34 c = c.put.auto.text ∙ c.put-second.auto.text

pub returns-then-b-eq34 : goal.returns-then-b-eq34
returns-then-b-eq34 c = emits_as (sym (doubled_quote _ c.if-b-eq34.true)) (emits_then (34 ∷ []) (34 ∷ []) (room_of_lem (doubled_quote _ c.if-b-eq34.true) c.requires) c.put-second.ensures c.put.ensures)

pub put-requires-2 : goal.put-requires-2
put-requires-2 c = room_of_lem (doubled_else _ c.if-b-eq34.false) c.requires

pub shape_of-text : goal.shape_of-text
shape_of-text c = c.put-2.auto.text

pub returns : goal.returns
returns c = emits_as (sym (doubled_else _ c.if-b-eq34.false)) c.put-2.ensures
