-- `know_command` meets its contract: an operator and a name of a slot have their slots, a name of the script gets one.
-- Assumes nothing.
use Rattle.handover.proofs.Knowing.{nothing_known, token_silent, operator_small, operator_known, name_inside, name_known, token_inside, token_there, token_known}
use native.Mathlib.Omega.{arith}
use Rattle.handover.proofs.know_command.Goals as goal

pub overflow_add-result : goal.overflow_add-result
overflow_add-result c = let pre = c.requires in
    omega (arith, operator_small _ _ _ _ _ c.in-Operator.is (pre))

pub known_word-requires : goal.known_word-requires
known_word-requires c = let pre = c.requires in
    name_inside _ _ _ _ _ c.in-Name.is (pre)

pub overflow_add-at : goal.overflow_add-at
overflow_add-at c = let pre = c.requires in
    omega (arith, (token_inside _ _ _ _ _ _ c.in-Token.is (pre)).0, c.well_formed.1.1.0)

pub know_name-requires : goal.know_name-requires
know_name-requires c = let pre = c.requires in
    token_there _ _ _ _ _ _ c.in-Token.is (pre)

pub returns-in-Nothing : goal.returns-in-Nothing
returns-in-Nothing c = nothing_known _ _ _ _ c.in-Nothing.is

pub returns-in-Operator : goal.returns-in-Operator
returns-in-Operator c = operator_known _ _ _ _ _ c.in-Operator.is

pub returns-in-Name : goal.returns-in-Name
returns-in-Name c = name_known _ _ _ _ _ c.in-Name.is c.known_word.ensures

pub returns-in-Token : goal.returns-in-Token
returns-in-Token c = token_known _ _ _ _ _ _ c.in-Token.is c.know_name.ensures

pub returns-in-Taken : goal.returns-in-Taken
returns-in-Taken c = token_silent _ _ _ _ _ c.in-Taken.is
