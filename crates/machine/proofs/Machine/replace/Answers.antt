-- `machine::Machine::replace` meets its contract: two words are stored where the lowest operand was, which no other place reads.
-- Assumes nothing.
use Prim.Native.Nat.{◌-◌}
use Rattle.machine.proofs.Operands.{replaced}
use native.Mathlib.Omega.{arith}
use Rattle.machine.proofs.Machine.replace.Goals as goal

pub returns : goal.returns
returns c = record { does = λ sc old rest len a e d k l μ s R. rw c.set_item.ensures (replaced R (c.args.self.depth - c.args.n) _ _ _ (omega (arith, c.requires.2)) c.requires.1 sc old rest len a s) }
