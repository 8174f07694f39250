-- `pend_handler` meets its contract: the handler's words are its value, which becomes pending.
-- Assumes nothing.
use Rattle.handlers.proofs.Setting.{rows_room, handler_words}
use Rattle.handlers.proofs.pend_handler.Goals as goal

pub handler-value-requires : goal.handler-value-requires
handler-value-requires c = let R = c.requires.2.6 in (c.requires.1, rows_room R, R.rooms.dict_few)

pub pend-requires : goal.pend-requires
pend-requires c = let P = c.requires.2 in
    (c.requires.0, (_, _, _, _, P.6, _, handler_words P.6 _ _ P.5.row P.5.value c.handler-value.ensures.0 c.handler-value.ensures.1))

pub returns : goal.returns
returns c = record {
  pends_handler = record { moves = λ s l μ R n v h. c.pend.ensures.pends.moves s _ l μ R v (handler_words R _ n h.row h.value c.handler-value.ensures.0 c.handler-value.ensures.1) };
  depth_value = c.pend.ensures.depth_value;
}
