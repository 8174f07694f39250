-- `machine::Machine::copy_over` meets its contract: item j's words are its value, to which item i gives way.
-- Assumes nothing.
use Rattle.machine.specs.Moves.{copied_over}
use Rattle.machine.proofs.Copying.{words_of}
use native.Mathlib.Omega.{arith}
use Rattle.machine.proofs.Machine.copy_over.Goals as goal

pub put_value-requires : goal.put_value-requires
put_value-requires c = let R = c.requires.2.4 in
    (c.requires.0, (_, _, _, _, R, _, words_of R c.args.j _ (omega (arith, c.requires.1)) c.item-new.ensures.0 c.item-new.ensures.1))

pub returns : goal.returns
unfolding copied_over
returns c = record {
  moves_heap = record { moves = λ e d l μ R. c.put_value.ensures.puts_value.moves e d l μ R _ (words_of R c.args.j _ (omega (arith, c.requires.1)) c.item-new.ensures.0 c.item-new.ensures.1) };
  depth_value = c.put_value.ensures.depth_value;
}
