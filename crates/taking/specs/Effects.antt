-- What a script token other than a brace group comes to in a step, the test of room aside.
-- Assumes nothing.
use Rattle.std.specs.Prelude.{false, List, ℕ}
use Rattle.semantics.specs.Values.{Result, ok, ◌>>=◌, given, integer, name, string, text}
use Rattle.semantics.specs.Machine.{Machine, pending, push, enter, make, made, intern, lookup}
use Rattle.semantics.specs.declared.Error.TheVariants.{Undefined}

-- An integer is pushed.
unfoldable pub integer_taken : ℕ → Machine → Result Machine
integer_taken w μ = ok (push (integer w) μ)

-- A string is made and pushed.
unfoldable pub string_taken : List ℕ → Machine → Result Machine
string_taken bs μ = ok (push (string (made μ)) (make (text bs) μ))

-- A literal name takes a slot and is pushed.
unfoldable pub literal_taken : List ℕ → Machine → Result Machine
literal_taken n μ = ok (push (name false n) (intern n μ))

-- An executable name's binding becomes pending.
unfoldable pub executable_taken : List ℕ → Machine → Result Machine
executable_taken n μ = given (lookup n μ.dictionary) Undefined >>= λ v. ok (enter (pending v) μ)
