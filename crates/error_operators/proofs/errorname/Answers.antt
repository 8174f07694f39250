-- `errorname` meets its contract: the word that it reads is that of the error's name.
-- Assumes nothing.
use Rattle.error_operators.proofs.Pushing.{errorname_stored, errorname_pushed, latest_room}
use native.Mathlib.Omega.{arith}
use Rattle.error_operators.proofs.errorname.Goals as goal

pub bounds-dict-623 : goal.bounds-dict-623
bounds-dict-623 c = let pre = c.requires in
    omega (arith, latest_room pre)

pub push_noted-requires : goal.push_noted-requires
push_noted-requires c = let pre = c.requires in
    errorname_stored pre

pub returns : goal.returns
returns c = errorname_pushed c.push_noted.ensures
