-- Arithmetic, logic and relations (000, 6.3 and 6.4; 01, House rules), and pegs (02, W5).
-- Assumes nothing.
use Rattle.std.specs.Prelude.{Bool, true, false, not, List, [], ◌∷◌, ℕ, zero, suc, ◌+◌, ◌-◌, ◌/◌, ◌%◌, ◌^◌, ℤ, nat_abs, eqb}
use Rattle.std.proofs.Math.Option.{Option, none, some}
use Rattle.semantics.specs.Text.{same}
use Rattle.semantics.specs.Words.{word, shift}
use Rattle.semantics.specs.Values.{Result, ok, fault, ◌>>=◌, check, given, Value, integer, boolean, null, mark, operator, name, string, array, current, int}
use Rattle.semantics.specs.Machine.{Machine, push, pop1, pop2, object, bytes_of}
use Rattle.semantics.specs.StackOperators.{Operator}
use Rattle.semantics.specs.declared.Error.TheVariants.{TypeCheck, UndefinedResult}

-- ---- arithmetic

-- Two integers give one, or an error.
unfoldable pub arithmetic : (ℤ → ℤ → Result ℤ) → Operator
arithmetic f m = do
  (x, y, τ) ← pop2 m
  a ← int x
  b ← int y
  c ← f a b
  ok (push (integer (word c)) τ)

unfoldable pub arithmetic1 : (ℤ → ℤ) → Operator
arithmetic1 f m = do
  (x, τ) ← pop1 m
  a ← int x
  ok (push (integer (word (f a))) τ)

-- A quotient or a remainder, toward zero; a remainder has the sign of the first operand (R72).
unfoldable pub division : (ℤ → ℤ → ℤ) → ℤ → ℤ → Result ℤ
division f a b = do
  _ ← check (not (eqb (nat_abs b) 0)) UndefinedResult
  ok (f a b)

-- Shifts are logical (R71).
unfoldable pub bitshift : Operator
bitshift m = do
  (x, y, τ) ← pop2 m
  a ← int x
  b ← int y
  ok (push (integer (shift (word a) b)) τ)

-- ---- pegs: the bits of an integer, peg k being bit k and the sign bit peg 31 (02, W5)

-- Bit k of a word: 0 or 1.
unfoldable pub bit_of : ℕ → ℕ → ℕ
bit_of w k = w / 2 ^ k % 2

-- How many of the n lowest bits are 1: their sum.
unfoldable pub ones_in : ℕ → ℕ → ℕ
ones_in zero w = 0
ones_in (suc n) w = ones_in n w + bit_of w n

-- The place n of a bit, if it is 1.
unfoldable pub placed : ℕ → ℕ → Option ℕ
placed zero n = none
placed (suc b) n = some n

-- The first that is there.
unfoldable pub or_else : Option ℕ → Option ℕ → Option ℕ
or_else none p = p
or_else (some k) p = some k

-- Of the n lowest bits the place of the lowest that is 1, and of the highest.
unfoldable pub lowest_in : ℕ → ℕ → Option ℕ
lowest_in zero w = none
lowest_in (suc n) w = or_else (lowest_in n w) (placed (bit_of w n) n)

unfoldable pub highest_in : ℕ → ℕ → Option ℕ
highest_in zero w = none
highest_in (suc n) w = or_else (placed (bit_of w n) n) (highest_in n w)

-- What is asked of the 32 bits of an integer: a number, or undefinedresult where there is none.
unfoldable pub pegs : (ℕ → Option ℕ) → Operator
pegs f m = do
  (x, τ) ← pop1 m
  a ← int x
  k ← given (f (word a)) UndefinedResult
  ok (push (integer k) τ)

-- ---- logic

-- An operand of and, or, xor and not: 32 bits, a truth value, or neither.
pub data Logical : Type 0 where
  bits : ℕ → Logical
  truth : Bool → Logical
  neither : Logical

unfoldable pub logical : Value → Logical
logical (integer w) = bits w
logical (boolean b) = truth b
logical null = neither
logical mark = neither
logical (operator o) = neither
logical (name x n) = neither
logical (string i) = neither
logical (array x i) = neither

-- and, or, xor want two of one kind (R61).
unfoldable pub logical2 : (ℕ → ℕ → ℕ) → (Bool → Bool → Bool) → Logical → Logical → Result Value
logical2 f g (bits a) (bits b) = ok (integer (f a b))
logical2 f g (bits a) (truth b) = fault TypeCheck
logical2 f g (bits a) neither = fault TypeCheck
logical2 f g (truth a) (bits b) = fault TypeCheck
logical2 f g (truth a) (truth b) = ok (boolean (g a b))
logical2 f g (truth a) neither = fault TypeCheck
logical2 f g neither y = fault TypeCheck

unfoldable pub connective : (ℕ → ℕ → ℕ) → (Bool → Bool → Bool) → Operator
connective f g m = do
  (x, y, τ) ← pop2 m
  v ← logical2 f g (logical x) (logical y)
  ok (push v τ)

unfoldable pub negated : Logical → Result Value
negated (bits a) = ok (integer ((2 ^ 32 - 1) - a))
negated (truth b) = ok (boolean (not b))
negated neither = fault TypeCheck

unfoldable pub negation : Operator
negation m = do
  (x, τ) ← pop1 m
  v ← negated (logical x)
  ok (push v τ)

-- ---- relations

-- Two values are equal if their keys are: the kind, and what is compared (R73). Literal or executable is ignored.
unfoldable pub key : Machine → Value → List ℕ
key m (integer w) = 0 ∷ w ∷ []
key m (boolean true) = 1 ∷ 1 ∷ []
key m (boolean false) = 1 ∷ 0 ∷ []
key m null = 2 ∷ []
key m mark = 3 ∷ []
key m (operator o) = 4 ∷ o
key m (name x n) = 5 ∷ n
key m (string i) = 6 ∷ current (bytes_of (object m i))
key m (array x i) = 7 ∷ i ∷ []

unfoldable pub equality : (Bool → Bool) → Operator
equality f m = do
  (x, y, τ) ← pop2 m
  ok (push (boolean (f (same (key τ x) (key τ y)))) τ)

unfoldable pub comparison : (ℤ → ℤ → Bool) → Operator
comparison f m = do
  (x, y, τ) ← pop2 m
  a ← int x
  b ← int y
  ok (push (boolean (f a b)) τ)

-- Opens every definition of this file.
unfoldable pub number_operators : Unit {0}
unfolding arithmetic arithmetic1 division bitshift bit_of ones_in placed or_else lowest_in highest_in pegs logical logical2 connective negated negation key equality comparison
number_operators = tt
