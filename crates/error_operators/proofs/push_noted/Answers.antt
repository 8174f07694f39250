-- `push_noted` meets its contract: null is pushed, and the name takes its place where one is stored.
-- Assumes nothing.
use mathlib.Core.Path.{◌∙◌}
use Rattle.error_operators.proofs.Pushing.{noted_over, noted_null, noted_named, noted_name}
use native.Mathlib.Omega.{arith}
use Rattle.error_operators.proofs.push_noted.Goals as goal

pub returns-then-stack-m : goal.returns-then-stack-m
returns-then-stack-m c = noted_over c.if-stack-m.true

pub returns-then-word-eq0 : goal.returns-then-word-eq0
returns-then-word-eq0 c = noted_null c.push_scalar-deeper.ensures.pushes c.if-word-eq0.true c.push_scalar-deeper.auto.stack

pub put_name-requires : goal.put_name-requires
put_name-requires c = let pre = c.requires in
    (omega (arith, c.push_scalar-deeper.ensures.depth_value), noted_named c.push_scalar-deeper.ensures.pushes c.if-word-eq0.false pre)

pub returns : goal.returns
returns c = noted_name c.push_scalar-deeper.ensures.pushes c.if-word-eq0.false c.put_name.ensures.puts_name (c.put_name.auto.stack ∙ c.push_scalar-deeper.auto.stack)
