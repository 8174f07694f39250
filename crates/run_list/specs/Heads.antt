-- The lengths that a case asks for are no more than there is room for.
-- Assumes nothing.
use Rattle.std.specs.Prelude.{ℕ, ◌+◌, ◌*◌, ◌≤◌, List, length}
use Rattle.semantics.specs.Sizes.{stack_width, exec_width, dictionary_width, cell_width, stack_most, exec_most, dictionary_most, cells_most, log_most, head_room, item_room}
use Rattle.run_list.specs.declared.Head.{Head}

pub record Fits (h : Head) : Type 0 where
  pub stack : h.stack ≤ stack_width * (stack_most + 1)
  pub exec : h.exec ≤ exec_width * (exec_most + 1)
  pub dict : h.dict ≤ dictionary_width * (dictionary_most + 1)
  pub cells : h.cells ≤ cell_width * (cells_most + 1)
  pub log : h.log ≤ log_most + 1
  pub outcome : h.outcome ≤ head_room + item_room * stack_most

pub record Within (h : Head) (s e d c l o : List ℕ) : Type 0 where
  pub stack : h.stack ≤ length s
  pub exec : h.exec ≤ length e
  pub dict : h.dict ≤ length d
  pub cells : h.cells ≤ length c
  pub log : h.log ≤ length l
  pub outcome : h.outcome ≤ length o
