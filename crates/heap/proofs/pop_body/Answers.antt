-- `pop_body` meets its contract: the two stores that `Shed` names.
-- Assumes nothing.
use Prim.Native.Nat.{◌-◌, ◌%◌}
use mathlib.Core.Path.{◌≡◌, ap}
use native.Mathlib.Omega.{arith}
use Rattle.heap.specs.Shape.{first_unit}
use Rattle.heap.proofs.pop_body.Goals as goal

pub returns : goal.returns
returns c = record {
  mid = c.put.new.m;
  cell = ap (λ w. w % first_unit) c.get-b.ensures;
  less = λ v e. let q : c.args.n - 1 ≡ v = omega arith in rw q at c.put.ensures;
  next = rw c.get-next.ensures at c.put-2.ensures;
}
