-- `after` meets its contract, command by command.
-- Assumes nothing.
use mathlib.Core.Path.{sym, ap, subst}
use Prim.Native.Nat.{◌≤◌}
use native.Mathlib.Omega.{arith}
use Rattle.semantics.specs.Sizes.{script_most}
use Rattle.ending.specs.Endings.{after_of}
use Rattle.run_loop.proofs.after.Goals as goal

-- src/lib.rt:162:37
pub overflow_add-result : goal.overflow_add-result
overflow_add-result c = omega (arith, subst (λ command. after_of c.args.next command ≤ script_most) c.in-Token.is c.requires)

-- src/lib.rt:157:1
pub returns-in-Token : goal.returns-in-Token
returns-in-Token c = sym (ap (after_of c.args.next) c.in-Token.is)
