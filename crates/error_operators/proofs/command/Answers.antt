-- `command` meets its contract: the word that it reads is that of the command's name.
-- Assumes nothing.
use Rattle.error_operators.proofs.Pushing.{command_stored, command_pushed, latest_room}
use native.Mathlib.Omega.{arith}
use Rattle.error_operators.proofs.command.Goals as goal

pub bounds-dict-635 : goal.bounds-dict-635
bounds-dict-635 c = let pre = c.requires in
    omega (arith, latest_room pre)

pub push_noted-requires : goal.push_noted-requires
push_noted-requires c = let pre = c.requires in
    command_stored pre

pub returns : goal.returns
returns c = command_pushed c.push_noted.ensures
