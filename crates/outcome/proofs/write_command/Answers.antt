-- `write_command` meets its contract: an operator and a name of a slot are written as the executable name in that slot, a name of the script as its bytes.
-- Assumes nothing.
use native.Mathlib.Omega.{arith}
use Rattle.outcome.proofs.Commands.{token_silent, nothing_written, operator_room, operator_written, name_room, name_written, token_inside, token_room, token_written}
use Rattle.outcome.proofs.write_command.Goals as goal

pub write-requires : goal.write-requires
write-requires c = let pre = c.requires in
    operator_room c.in-Operator.is (pre)

pub write-requires-in-Name : goal.write-requires-in-Name
write-requires-in-Name c = let pre = c.requires in
    name_room c.in-Name.is (pre)

pub overflow_add-start : goal.overflow_add-start
overflow_add-start c = let pre = c.requires in
    omega (arith, (token_inside _ _ c.in-Token.is (pre)).0, c.well_formed.1.0.0)

pub write_name-requires : goal.write_name-requires
write_name-requires c = let pre = c.requires in
    token_room _ _ c.in-Token.is (pre)

pub returns-in-Nothing : goal.returns-in-Nothing
returns-in-Nothing c = nothing_written c.in-Nothing.is

pub shape_of-out-in-Operator : goal.shape_of-out-in-Operator
shape_of-out-in-Operator c = c.write.auto.log

pub returns-in-Operator : goal.returns-in-Operator
returns-in-Operator c = operator_written c.in-Operator.is c.write.ensures

pub shape_of-out-in-Name : goal.shape_of-out-in-Name
shape_of-out-in-Name c = c.write-in-Name.auto.log

pub returns-in-Name : goal.returns-in-Name
returns-in-Name c = name_written c.in-Name.is c.write-in-Name.ensures

pub shape_of-out-in-Token : goal.shape_of-out-in-Token
shape_of-out-in-Token c = c.write_name.auto.out

pub returns-in-Token : goal.returns-in-Token
returns-in-Token c = token_written _ _ c.in-Token.is c.write_name.ensures

pub returns-in-Taken : goal.returns-in-Taken
returns-in-Taken c = token_silent c.in-Taken.is
