-- The dictionary and the flow of control (000, 6.5 and 6.6; 01, Steps and House rules).
-- Assumes nothing.
use Rattle.std.specs.Prelude.{Bool, true, false, cond, ◌||◌, List, [], ◌∷◌, map, ℕ}
use Rattle.std.proofs.Math.Option.{Option, none, some}
use Rattle.semantics.specs.Text.{same}
use Rattle.semantics.specs.Words.{word}
use Rattle.semantics.specs.Values.{ok, ◌>>=◌, check, given, Value, integer, boolean, null, mark, operator, name, string, array, elements, int, bool, literal_name, procedure_id, count}
use Rattle.semantics.specs.Machine.{Machine, Frame, pending, running, looping, repeating, counting, Slot, with_exec, with_dictionary, with_handlers, name_or_null, halt, push, enter, pop1, pop2, pop3, pop4, object, elements_of, change, lookup, assign}
use Rattle.semantics.specs.StackOperators.{Operator}
use Rattle.semantics.specs.declared.Error.TheVariants.{Undefined, RangeCheck}

-- ---- dictionary

-- def and load refuse an executable name (R59).
unfoldable pub def : Operator
def m = do
  (x, v, τ) ← pop2 m
  n ← literal_name x
  ok (with_dictionary (assign n v τ.dictionary) τ)

-- An unbound name is undefined here, after underflow and typecheck (R96); a binding to null is one (R80).
unfoldable pub load : Operator
load m = do
  (x, τ) ← pop1 m
  n ← literal_name x
  v ← given (lookup n τ.dictionary) Undefined
  ok (push v τ)

-- A binding that is an operator, else the value itself.
unfoldable pub operator_or : Value → Option Value → Value
operator_or v none = v
operator_or v (some (integer w)) = v
operator_or v (some (boolean b)) = v
operator_or v (some null) = v
operator_or v (some mark) = v
operator_or v (some (operator o)) = operator o
operator_or v (some (name x n)) = v
operator_or v (some (string i)) = v
operator_or v (some (array x i)) = v

-- An executable name that is bound to an operator becomes the operator.
unfoldable pub bound : Machine → Value → Value
bound m (integer w) = integer w
bound m (boolean b) = boolean b
bound m null = null
bound m mark = mark
bound m (operator o) = operator o
bound m (name true n) = operator_or (name true n) (lookup n m.dictionary)
bound m (name false n) = name false n
bound m (string i) = string i
bound m (array x i) = array x i

-- A procedure's own elements are replaced, in place (R58, R74).
unfoldable pub bind : Operator
bind m = do
  (x, τ) ← pop1 m
  i ← procedure_id x
  ok (push x (change i (elements (map (bound τ) (elements_of (object τ i)))) τ))

-- ---- control

unfoldable pub exec : Operator
exec m = do
  (x, τ) ← pop1 m
  ok (enter (pending x) τ)

-- With false no execution slot is needed (R79).
unfoldable pub if' : Operator
if' m = do
  (x, y, τ) ← pop2 m
  b ← bool x
  ok (cond b (enter (pending y) τ) τ)

unfoldable pub ifelse : Operator
ifelse m = do
  (x, y, z, τ) ← pop3 m
  b ← bool x
  ok (enter (pending (cond b y z)) τ)

-- A loop's body may be any object (R42).
unfoldable pub loop : Operator
loop m = do
  (x, τ) ← pop1 m
  ok (enter (looping x) τ)

unfoldable pub repeat : Operator
repeat m = do
  (x, y, τ) ← pop2 m
  z ← int x
  n ← count z
  ok (enter (repeating n y) τ)

unfoldable pub for : Operator
for m = do
  (x, y, z, b, τ) ← pop4 m
  initial ← int x
  increment ← int y
  final ← int z
  ok (enter (counting initial (word increment) (word final) b) τ)

-- The execution stack from its innermost loop down; empty where there is none.
unfoldable pub from_loop : List Frame → List Frame
from_loop [] = []
from_loop (pending v ∷ fs) = from_loop fs
from_loop (running i k ∷ fs) = from_loop fs
from_loop (looping b ∷ fs) = looping b ∷ fs
from_loop (repeating n b ∷ fs) = repeating n b ∷ fs
from_loop (counting n i f b ∷ fs) = counting n i f b ∷ fs

-- exit drops through the innermost loop, continue what is above it (R43); with no loop they end the run as stop does (R44).
unfoldable pub exit : Operator
exit m = elim (from_loop m.exec) [ [] ↦ ok (halt m) | f ∷ fs ↦ ok (with_exec fs m) ]

unfoldable pub continue : Operator
continue m = elim (from_loop m.exec) [ [] ↦ ok (halt m) | f ∷ fs ↦ ok (with_exec (f ∷ fs) m) ]

unfoldable pub stop : Operator
stop m = ok (halt m)

-- ---- errors (02, W1)

-- Whether a slot has the name n.
unfoldable pub has_slot : List ℕ → List Slot → Bool
has_slot n [] = false
has_slot n (s ∷ d) = same n s.key || has_slot n d

-- The name is below, and is one of the runner's errors byte for byte (W1.1, W1.2); any object may handle it (W1.3).
unfoldable pub onerror : Operator
onerror m = do
  (x, v, τ) ← pop2 m
  n ← literal_name x
  _ ← check (has_slot n τ.handlers) RangeCheck
  ok (with_handlers (assign n v τ.handlers) τ)

unfoldable pub errorname : Operator
errorname m = ok (push (name_or_null m.latest.errorname) m)

unfoldable pub command : Operator
command m = ok (push (name_or_null m.latest.command) m)

-- Opens every definition of this file.
unfoldable pub control_operators : Unit {0}
unfolding def load operator_or bound bind exec if' ifelse loop repeat for from_loop exit continue stop has_slot onerror errorname command
control_operators = tt
