-- The definition's operator of each name.
-- Assumes nothing.
use mathlib.Core.Path.{◌≡◌, refl}
use Rattle.semantics.specs.Text.{bytes, textual}
use Rattle.semantics.specs.Values.{Value, Result, ok, ◌>>=◌}
use Rattle.semantics.specs.Machine.{Machine, Frame, pending, looping, enter, pop1}
use Rattle.semantics.specs.Operators.{perform, find, table, ◌is◌}
use Rattle.semantics.specs.ControlOperators.{exec, loop, repeat, for, if', ifelse, exit, continue, stop}

-- The topmost operand goes into a slot.
abbrev pub entering : (Value → Frame) → Machine → Result Machine
entering g μ = pop1 μ >>= λ p. ok (enter (g p.0) p.1)

pub exec_is : (μ : Machine) → perform (bytes "exec") μ ≡ entering pending μ
unfolding textual perform find table ◌is◌ exec
exec_is μ = refl

pub loop_is : (μ : Machine) → perform (bytes "loop") μ ≡ entering looping μ
unfolding textual perform find table ◌is◌ loop
loop_is μ = refl

pub repeat_is : (μ : Machine) → perform (bytes "repeat") μ ≡ repeat μ
unfolding textual perform find table ◌is◌
repeat_is μ = refl

pub for_is : (μ : Machine) → perform (bytes "for") μ ≡ for μ
unfolding textual perform find table ◌is◌
for_is μ = refl

pub if_is : (μ : Machine) → perform (bytes "if") μ ≡ if' μ
unfolding textual perform find table ◌is◌
if_is μ = refl

pub ifelse_is : (μ : Machine) → perform (bytes "ifelse") μ ≡ ifelse μ
unfolding textual perform find table ◌is◌
ifelse_is μ = refl

pub exit_is : (μ : Machine) → perform (bytes "exit") μ ≡ exit μ
unfolding textual perform find table ◌is◌
exit_is μ = refl

pub continue_is : (μ : Machine) → perform (bytes "continue") μ ≡ continue μ
unfolding textual perform find table ◌is◌
continue_is μ = refl

pub stop_is : (μ : Machine) → perform (bytes "stop") μ ≡ stop μ
unfolding textual perform find table ◌is◌
stop_is μ = refl
