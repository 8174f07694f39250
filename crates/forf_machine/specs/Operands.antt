-- Operands by their slots: integers, and offsets of substacks.
-- Assumes nothing.
use Rattle.std.specs.Prelude.{Bool, true, false, List, [], ◌∷◌, ℕ, eqb}
use Rattle.semantics.specs.Values.{ok, fault, ◌>>=◌}
use Rattle.forf_semantics.specs.Errors.{Result}
use Rattle.forf_semantics.specs.declared.Error.TheVariants.{StackUnderflow, TypeCheck}
use Rattle.forf_machine.specs.Slots.{Slot}
use Rattle.forf_semantics.specs.declared.Error.{Error}
use Rattle.std.specs.Prelude.{Ok, Err}
use Rattle.std.specs.Prelude as std

unfoldable pub int_as : Bool → ℕ → Result ℕ
int_as true p = ok p
int_as false p = fault TypeCheck

-- An integer's 32 bits.
unfoldable pub int_of : Slot → Result ℕ
int_of x = int_as (eqb x.0 0) x.1

unfoldable pub offset_as : Bool → ℕ → Result ℕ
offset_as true p = fault TypeCheck
offset_as false p = ok p

-- The offset of a substack.
unfoldable pub offset_of : Slot → Result ℕ
offset_of x = offset_as (eqb x.0 0) x.1

-- The topmost integer; and the two topmost, the lower first.
unfoldable pub one_int : List Slot → Result ℕ
one_int [] = fault StackUnderflow
one_int (x ∷ vs) = int_of x

unfoldable pub two_ints : List Slot → Result (ℕ × ℕ)
two_ints [] = fault StackUnderflow
two_ints (x ∷ []) = fault StackUnderflow
two_ints (x ∷ y ∷ vs) = int_of y >>= λ b. int_of x >>= λ a. ok (b, a)

-- What the code finds, as a result of the definition.
abbrev pub result_of : {A : Type 0} → std.Result A Error → Result A
result_of (Ok x) = ok x
result_of (Err e) = fault e
