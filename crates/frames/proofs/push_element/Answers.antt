-- `frames::push_element` meets its contract: the cell's words are the element's, which is pushed.
-- Assumes nothing.
use Rattle.frames.specs.Moves.{element_pushed}
use Rattle.frames.proofs.Running.{run_at, cell_room, element_is}
use native.Mathlib.Omega.{arith}
use Rattle.frames.proofs.push_element.Goals as goal

pub value_of-value-requires : goal.value_of-value-requires
value_of-value-requires c = let R = c.requires.4.3 in let x = run_at R _ (omega (arith, c.requires.0)) c.requires.1 in cell_room R _ (omega (arith, c.requires.0)) x.0 x.1 x.2 c.requires.2

pub push_value-requires : goal.push_value-requires
push_value-requires c = let R = c.requires.4.3 in
    let x = run_at R _ (omega (arith, c.requires.0)) c.requires.1 in
    (c.requires.3, (_, _, _, _, R, _, element_is R _ (omega (arith, c.requires.0)) x.0 x.1 x.2 c.requires.2 c.value_of-value.ensures.0 c.value_of-value.ensures.1))

pub returns : goal.returns
unfolding element_pushed
returns c = record {
  pushes_element = record {
    moves = λ d l μ R i j is.
        c.push_value.ensures.pushes_value.moves _ d l μ R _
        (element_is R _ (omega (arith, c.requires.0)) i j is c.requires.2 c.value_of-value.ensures.0 c.value_of-value.ensures.1);
  };
  depth_value = c.push_value.ensures.depth_value;
}
