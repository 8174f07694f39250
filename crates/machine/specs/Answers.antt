-- What operators and the fetchers of operands answer, by short names.
-- Assumes nothing.
use Rattle.std.specs.Prelude.{Result, ℕ}
use Rattle.semantics.specs.declared.Error.{Error}
use Rattle.machine.specs.declared.Machine.{Machine}
use Rattle.machine.specs.declared.Logical.{Logical}

-- The machine after an operator.
abbrev pub Did : Type 0
Did = Result Machine Error

abbrev pub OneInt : Type 0
OneInt = Result ℕ Error

abbrev pub TwoInts : Type 0
TwoInts = Result (ℕ × ℕ) Error

abbrev pub OneLogical : Type 0
OneLogical = Result (Logical ℕ) Error

abbrev pub TwoLogical : Type 0
TwoLogical = Result (Logical (ℕ × ℕ)) Error
