-- `machine::Machine::push_copy` meets its contract: the item's words are its value, which is pushed.
-- Assumes nothing.
use Rattle.machine.specs.Moves.{copied}
use Rattle.semantics.specs.Machine.{push}
use Rattle.machine.proofs.Copying.{words_of}
use native.Mathlib.Omega.{arith}
use Rattle.machine.proofs.Machine.push_copy.Goals as goal

pub push_value-requires : goal.push_value-requires
push_value-requires c = let R = c.requires.2.4 in
    (c.requires.1, (_, _, _, _, R, _, words_of R c.args.i _ (omega (arith, c.requires.0)) c.item-new.ensures.0 c.item-new.ensures.1))

pub returns : goal.returns
unfolding copied push
returns c = record {
  moves_heap = record { moves = λ e d l μ R. c.push_value.ensures.pushes_value.moves e d l μ R _ (words_of R c.args.i _ (omega (arith, c.requires.0)) c.item-new.ensures.0 c.item-new.ensures.1) };
  depth_value = c.push_value.ensures.depth_value.0;
}
