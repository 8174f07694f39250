-- `with_byte` meets its contract: the old byte is taken away before the new one is added, so nothing overflows (`unit_low`, `unit_fits`).
-- Assumes nothing.
use Rattle.elements.proofs.Units.{unit_low, unit_small, unit_fits, unit_with}
use native.Mathlib.Omega.{arith}
use borrow.Author.Rules.{rules}
use Rattle.elements.proofs.with_byte.Goals as goal

pub overflow_mul-result : goal.overflow_mul-result
overflow_mul-result c = omega (arith, unit_low c.args.w _ c.args.j c.unit-u.ensures c.requires)

pub overflow_sub-result : goal.overflow_sub-result
overflow_sub-result c = unit_low c.args.w _ c.args.j c.unit-u.ensures c.requires

pub overflow_mul-result-2 : goal.overflow_mul-result-2
overflow_mul-result-2 c = omega (arith, unit_small c.args.w _ c.args.j c.unit-u.ensures c.requires c.args.b (search rules))

pub overflow_add-result : goal.overflow_add-result
overflow_add-result c = omega (arith, unit_fits c.args.w _ c.args.j c.unit-u.ensures c.requires c.args.b (search rules) (search rules))

pub returns : goal.returns
returns c = unit_with c.args.w _ c.args.j c.unit-u.ensures c.requires c.args.b
