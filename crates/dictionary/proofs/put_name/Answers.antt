-- `put_name` meets its contract: the item gives way to a literal name, which names no object.
-- Assumes nothing.
use Rattle.dictionary.proofs.Rebinding.{name_words_lem}
use Rattle.dictionary.proofs.put_name.Goals as goal

pub put_value-requires : goal.put_value-requires
put_value-requires c = let P = c.requires.1 in (c.requires.0, (_, _, _, _, P.6, _, name_words_lem P.6.world P.3 c.args.slot P.5))

pub returns : goal.returns
returns c = record {
  puts_name = record { moves = λ e d l μ R n key. c.put_value.ensures.puts_value.moves e d l μ R _ (name_words_lem R.world μ c.args.slot key) };
  depth_value = c.put_value.ensures.depth_value;
}
