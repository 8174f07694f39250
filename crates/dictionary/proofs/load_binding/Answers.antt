-- `load_binding` meets its contract: the binding's words are its value, to which the item gives way.
-- Assumes nothing.
use Rattle.dictionary.proofs.Rebinding.{slot_room, bound_words}
use Rattle.dictionary.proofs.load_binding.Goals as goal

pub binding-value-requires : goal.binding-value-requires
binding-value-requires c = let R = c.requires.1.6 in (slot_room R _ _ c.requires.1.5.slot, R.rooms.dict_few)

pub put_value-requires : goal.put_value-requires
put_value-requires c = let P = c.requires.1 in
    (c.requires.0, (_, _, _, _, P.6, _, bound_words P.6 _ _ P.5.slot P.5.value c.binding-value.ensures.0 c.binding-value.ensures.1))

pub returns : goal.returns
returns c = record {
  loads_binding = record { moves = λ e l μ R n v key q. c.put_value.ensures.puts_value.moves e _ l μ R v (bound_words R _ n key q c.binding-value.ensures.0 c.binding-value.ensures.1) };
  depth_value = c.put_value.ensures.depth_value;
}
