-- Conversions and output (000, 6.9 and 6.10; 01, House rules).
-- Assumes nothing.
use Rattle.std.specs.Prelude.{Bool, false, List, ◌++◌, map, reverse, ℕ, length, drop, set, leb}
use Rattle.semantics.specs.Sizes.{name_most}
use Rattle.semantics.specs.Text.{bytes}
use Rattle.semantics.specs.Values.{ok, ◌>>=◌, check, Value, integer, boolean, null, mark, operator, name, string, array, text, current, string_id}
use Rattle.semantics.specs.Machine.{write, push, pop1, pop2, object, bytes_of, change, writable, intern}
use Rattle.semantics.specs.Printing.{joined, echoed, stringval}
use Rattle.semantics.specs.StackOperators.{Operator}
use Rattle.semantics.specs.declared.Error.TheVariants.{LimitCheck, RangeCheck}

-- ---- conversions

-- The text first, then a zero if room remains; the bytes after it stay (R75).
unfoldable pub overwrite : List ℕ → List ℕ → List ℕ
overwrite t bs = t ++ drop (length t) (set bs (length t) 0)

unfoldable pub cvs : Operator
cvs m = do
  (x, y, τ) ← pop2 m
  i ← string_id y
  _ ← writable i τ
  let t = stringval τ x
  let bs = bytes_of (object τ i)
  _ ← check (leb (length t) (length bs)) RangeCheck
  ok (push y (change i (text (overwrite t bs)) τ))

-- A name or an array, made executable or literal.
unfoldable pub as_executable : Bool → Value → Value
as_executable e (integer w) = integer w
as_executable e (boolean b) = boolean b
as_executable e null = null
as_executable e mark = mark
as_executable e (operator o) = operator o
as_executable e (name x n) = name e n
as_executable e (string i) = string i
as_executable e (array x i) = array e i

-- cvx and cvlit change the reference on the stack only (R76).
unfoldable pub convert : Bool → Operator
convert e m = do
  (x, τ) ← pop1 m
  ok (push (as_executable e x) τ)

-- Any current bytes make a name (R77), none too (R78).
unfoldable pub cvn : Operator
cvn m = do
  (x, τ) ← pop1 m
  i ← string_id x
  let n = current (bytes_of (object τ i))
  _ ← check (leb (length n) name_most) LimitCheck
  ok (push (name false n) (intern n τ))

-- ---- output

-- The bytes before the first zero, unescaped, with no LF (R5).
unfoldable pub print : Operator
print m = do
  (x, τ) ← pop1 m
  i ← string_id x
  ok (write (current (bytes_of (object τ i))) τ)

unfoldable pub echo : Operator
echo m = do
  (x, τ) ← pop1 m
  ok (write (echoed τ x ++ bytes "\n") τ)

-- Of an empty stack LF alone (R86).
unfoldable pub echostack : Operator
echostack m = ok (write (joined (bytes " ") (map (echoed m) (reverse m.stack)) ++ bytes "\n") m)

-- Opens every definition of this file.
unfoldable pub text_operators : Unit {0}
unfolding overwrite cvs as_executable convert cvn print echo echostack
text_operators = tt
