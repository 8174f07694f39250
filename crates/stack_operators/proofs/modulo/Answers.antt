-- `stack_operators::modulo` meets its contract: by the shift's sign.
-- Assumes nothing.
use Rattle.stack_operators.proofs.Counted.{modulo_low, modulo_high}
use native.Mathlib.Nat.{mod-lt}
use native.Mathlib.Omega.{arith}
use Prim.Native.Nat.{◌-◌}
use borrow.Author.Rules.{rules}
use Rattle.stack_operators.proofs.modulo.Goals as goal

pub overflow_sub-result-else-shift-lt-SIGN-2 : goal.overflow_sub-result-else-shift-lt-SIGN-2
overflow_sub-result-else-shift-lt-SIGN-2 c = omega (arith, mod-lt (4294967295 - c.args.shift) {m = c.args.n} c.requires)

pub returns-then-shift-lt-SIGN : goal.returns-then-shift-lt-SIGN
returns-then-shift-lt-SIGN c = record { value = modulo_low _ _ c.if-shift-lt-SIGN.true; upper_bound = mod-lt c.args.shift {m = c.args.n} c.requires }

pub returns-else-shift-lt-SIGN : goal.returns-else-shift-lt-SIGN
returns-else-shift-lt-SIGN c = record { value = modulo_high _ _ c.if-shift-lt-SIGN.false (search rules); upper_bound = omega (arith, c.requires) }
