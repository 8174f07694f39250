-- `put_leaf` meets its contract: each kind of token by its own law.
-- Assumes nothing.
use Rattle.group_building.proofs.Leaves.{leaf_cell, puts_integer, puts_executable, puts_literal, puts_string, executable_inside, literal_inside, executable_short, literal_short, executable_at, literal_at, string_room, string_few, string_fills, leaf_kind}
use mathlib.Core.Path.{refl, ◌∙◌}
use mathlib.Core.Bool.{true, false}
use native.Mathlib.Omega.{arith}
use Rattle.group_building.proofs.put_leaf.Goals as goal

pub set_plain-requires : goal.set_plain-requires
set_plain-requires c = (omega arith, leaf_cell c.requires.9)

pub overflow_cast-size : goal.overflow_cast-size
overflow_cast-size c = omega (arith, string_few c.args.script.now c.args.read c.requires.9 c.requires.10 c.in-String.is)

pub set_string-placed-requires : goal.set_string-placed-requires
set_string-placed-requires c = (string_room c.args.script.now c.args.read c.requires.9 c.requires.10 c.in-String.is, leaf_cell c.requires.9, (_, (_, _, _, _, c.requires.9.rep)))

pub fill_at-requires : goal.fill_at-requires
fill_at-requires c = string_fills c.args.script.now c.args.read c.requires.9 c.requires.10 c.in-String.is c.set_string-placed.ensures.sets_string

pub overflow_add-from : goal.overflow_add-from
overflow_add-from c = omega (arith, executable_inside c.args.script.now c.args.read c.requires.9 c.requires.10 c.in-ExecutableName.is)

pub put_name-requires : goal.put_name-requires
put_name-requires c = (_, _, _, _, _, _, _, _, true, executable_at c.args.script.now c.args.read c.requires.9 c.requires.10 c.in-ExecutableName.is, refl, executable_short c.args.script.now c.args.read c.requires.9 c.requires.10 c.in-ExecutableName.is)

pub overflow_add-from-in-LiteralName : goal.overflow_add-from-in-LiteralName
overflow_add-from-in-LiteralName c = omega (arith, literal_inside c.args.script.now c.args.read c.requires.9 c.requires.10 c.in-LiteralName.is)

pub put_name-requires-in-LiteralName : goal.put_name-requires-in-LiteralName
put_name-requires-in-LiteralName c = (_, _, _, _, _, _, _, _, false, literal_at c.args.script.now c.args.read c.requires.9 c.requires.10 c.in-LiteralName.is, refl, literal_short c.args.script.now c.args.read c.requires.9 c.requires.10 c.in-LiteralName.is)

pub returns-in-Integer : goal.returns-in-Integer
returns-in-Integer c = puts_integer c.in-Integer.is c.set_plain.ensures c.set_plain.auto.cells

pub shape_of-cells-in-String : goal.shape_of-cells-in-String
shape_of-cells-in-String c = c.fill_at.auto.cells ∙ c.set_string-placed.auto.cells

pub returns-in-String : goal.returns-in-String
returns-in-String c = puts_string c.in-String.is c.set_string-placed.ensures.sets_string c.set_string-placed.ensures.same_but.0 c.set_string-placed.ensures.same_but.1 c.fill_at.ensures c.fill_at.auto.cells

pub returns-in-ExecutableName : goal.returns-in-ExecutableName
returns-in-ExecutableName c = puts_executable c.in-ExecutableName.is c.put_name.ensures

pub returns-in-LiteralName : goal.returns-in-LiteralName
returns-in-LiteralName c = puts_literal c.in-LiteralName.is c.put_name-in-LiteralName.ensures

pub unreachable-requires : goal.unreachable-requires
unreachable-requires c = leaf_kind c.args.script.now c.args.read _ c.requires.10 c.in_default.not-Integer c.in_default.not-String c.in_default.not-ExecutableName c.in_default.not-LiteralName
