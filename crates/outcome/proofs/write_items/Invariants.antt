-- `write_items` meets its contract: the items from place i on are written.
-- Assumes nothing.
use Prim.Native.Nat.{◌≤◌}
use Rattle.outcome.proofs.Lining.{Listed}
use Rattle.outcome.proofs.write_items.Given as goal

abbrev pub invariant-loop-i : goal.invariant-loop-i
invariant-loop-i l = (l.i ≤ l.m.depth) × Listed l.m l.stack l.dict l.cells l.i l.at l.initial.out l.out l.next
