-- `pend_binding` meets its contract: the binding's words are its value, which becomes pending.
-- Assumes nothing.
use Rattle.dictionary.proofs.Rebinding.{slot_room, bound_words}
use Rattle.dictionary.proofs.pend_binding.Goals as goal

pub binding-value-requires : goal.binding-value-requires
binding-value-requires c = let R = c.requires.1.6 in (slot_room R _ _ c.requires.1.5.slot, R.rooms.dict_few)

pub pend-requires : goal.pend-requires
pend-requires c = let P = c.requires.1 in
    (c.requires.0, (_, _, _, _, P.6, _, bound_words P.6 _ _ P.5.slot P.5.value c.binding-value.ensures.0 c.binding-value.ensures.1))

pub returns : goal.returns
returns c = record {
  pends_binding = record { moves = λ s l μ R n v key q. c.pend.ensures.pends.moves s _ l μ R v (bound_words R _ n key q c.binding-value.ensures.0 c.binding-value.ensures.1) };
  depth_value = c.pend.ensures.depth_value;
}
