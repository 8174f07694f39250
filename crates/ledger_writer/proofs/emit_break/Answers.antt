-- `emit_break` meets its contract: two bytes, one after the other.
-- Assumes nothing.
use mathlib.Core.List.{[], ◌∷◌}
use mathlib.Core.Path.{◌∙◌}
use Rattle.ledger_writer.proofs.Emits.{room_first, room_rest, emits_then}
use Rattle.ledger_writer.proofs.emit_break.Goals as goal

pub put-second-requires : goal.put-second-requires
put-second-requires c = room_first (13 ∷ []) (10 ∷ []) c.requires

pub put-requires : goal.put-requires
put-requires c = room_rest (13 ∷ []) (10 ∷ []) c.requires c.put-second.ensures c.put-second.auto.text

pub shape_of-text : goal.shape_of-text
shape_of-text c = c.put.auto.text ∙ c.put-second.auto.text

pub returns : goal.returns
returns c = emits_then (13 ∷ []) (10 ∷ []) c.requires c.put-second.ensures c.put.ensures
