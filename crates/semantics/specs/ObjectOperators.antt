-- Arrays and strings (000, 6.7 and 6.8; 01, House rules).
-- Assumes nothing.
use Rattle.std.specs.Prelude.{Bool, true, false, ◌&&◌, ◌||◌, List, [], ◌∷◌, ◌++◌, reverse, ℕ, ◌+◌, ℤ, length, take, drop, set, get_or, replicate, leb, ltb, eqb}
use Rattle.std.proofs.Math.ListN.{get_elem?}
use Rattle.semantics.specs.Values.{Result, ok, fault, ◌>>=◌, check, given, Value, integer, boolean, null, mark, operator, name, string, array, Object, elements, text, current, int, array_id, object_id, count}
use Rattle.semantics.specs.Machine.{Machine, with_stack, push, pop1, pop2, pop3, object, elements_of, make, made, change, protect, writable}
use Rattle.semantics.specs.StackOperators.{Operator}
use Rattle.semantics.specs.declared.Error.TheVariants.{LimitCheck, StackUnderflow, TypeCheck, RangeCheck, UnmatchedMark}

-- ---- making objects

-- A length for array and string: rangecheck, then limitcheck (R70).
unfoldable pub new_length : Value → Result ℕ
new_length x = do
  z ← int x
  n ← count z
  _ ← check (leb n 32767) LimitCheck
  ok n

-- The machine with a new object, and the value that names it pushed.
unfoldable pub push_new : (ℕ → Value) → Object → Machine → Machine
push_new f o m = push (f (made m)) (make o m)

unfoldable pub array' : Operator
array' m = do
  (x, τ) ← pop1 m
  n ← new_length x
  ok (push_new (array false) (elements (replicate n null)) τ)

unfoldable pub string' : Operator
string' m = do
  (x, τ) ← pop1 m
  n ← new_length x
  ok (push_new string (text (replicate n 0)) τ)

unfoldable pub mark' : Operator
mark' m = ok (push mark m)

unfoldable pub is_mark : Value → Bool
is_mark (integer w) = false
is_mark (boolean b) = false
is_mark null = false
is_mark mark = true
is_mark (operator o) = false
is_mark (name x n) = false
is_mark (string i) = false
is_mark (array x i) = false

-- The items above the topmost mark, the lowest first, and the stack below it; `vs` are the items passed already.
unfoldable pub above_mark : List Value → List Value → Result (List Value × List Value)
above_mark vs [] = fault UnmatchedMark
above_mark vs (v ∷ s) = elim (is_mark v) [ true ↦ ok (vs, s) | false ↦ above_mark (v ∷ vs) s ]

-- ], by the topmost mark, however it came there (R81)
unfoldable pub close : Operator
close m = do
  (vs, s) ← above_mark [] m.stack
  ok (push_new (array false) (elements vs) (with_stack s m))

-- ---- length, get, put

-- The length of an array, the current length of a string (R6).
unfoldable pub length_of : Object → ℕ
length_of (elements vs) = length vs
length_of (text bs) = length (current bs)

unfoldable pub length' : Operator
length' m = do
  (x, τ) ← pop1 m
  i ← object_id x
  ok (push (integer (length_of (object τ i))) τ)

-- get at position n of a string of maximum n gives 0.
unfoldable pub got : Object → ℕ → Result Value
got (elements vs) n = given (get_elem? vs n) RangeCheck
got (text bs) n = do
  _ ← check (leb n (length bs)) RangeCheck
  ok (integer (get_or bs n 0))

unfoldable pub get : Operator
get m = do
  (x, y, τ) ← pop2 m
  i ← object_id x
  z ← int y
  n ← count z
  v ← got (object τ i) n
  ok (push v τ)

-- An array with a value at a place,
unfoldable pub put_element : List Value → Value → ℤ → Result Object
put_element vs v z = do
  n ← count z
  _ ← check (ltb n (length vs)) RangeCheck
  ok (elements (set vs n v))

-- a string with a byte there. Stored bytes are 0 to 255. At position n of a string of maximum n only 0 is accepted, and changes nothing.
unfoldable pub put_byte : List ℕ → ℤ → ℤ → Result Object
put_byte bs y z = do
  n ← count z
  b ← count y
  _ ← check (leb b 255) RangeCheck
  _ ← check (ltb n (length bs) || (eqb n (length bs) && eqb b 0)) RangeCheck
  ok (text (set bs n b))

-- The object with a value written into it, at a place to be given. The value's type comes before the mark and the ranges (R60; 02, W7).
unfoldable pub put_into : Object → Value → Result (ℤ → Result Object)
put_into (elements vs) v = ok (put_element vs v)
put_into (text bs) v = do
  y ← int v
  ok (put_byte bs y)

unfoldable pub put : Operator
put m = do
  (x, y, v, τ) ← pop3 m
  i ← object_id x
  z ← int y
  written ← put_into (object τ i) v
  _ ← writable i τ
  o ← written z
  ok (change i o τ)

-- ---- intervals

-- The n of get, put and both intervals: the length of an array, the maximum of a string.
unfoldable pub size : Object → ℕ
size (elements vs) = length vs
size (text bs) = length bs

unfoldable pub part : ℕ → ℕ → Object → Object
part start n (elements vs) = elements (take n (drop start vs))
part start n (text bs) = text (take n (drop start bs))

-- The same kind of reference, to another object.
unfoldable pub redirect : Value → ℕ → Value
redirect (integer w) j = integer w
redirect (boolean b) j = boolean b
redirect null j = null
redirect mark j = mark
redirect (operator o) j = operator o
redirect (name x n) j = name x n
redirect (string i) j = string j
redirect (array x i) j = array x j

-- getinterval keeps literal or executable, copies zeros too (R68), and knows no limitcheck (R66).
unfoldable pub getinterval : Operator
getinterval m = do
  (x, y, z, τ) ← pop3 m
  i ← object_id x
  p ← int y
  q ← int z
  start ← count p
  n ← count q
  _ ← check (leb (start + n) (size (object τ i))) RangeCheck
  ok (push_new (redirect x) (part start n (object τ i)) τ)

-- `old` with `new` written into it from a place on.
unfoldable pub pasted : {A : Type 0} → ℕ → List A → List A → List A
pasted start new old = take start old ++ new ++ drop (start + length new) old

-- The first object with the second written into it, at a place to be given: two arrays or two strings.
unfoldable pub put_all : Object → Object → Result (ℕ → Object)
put_all (elements vs) (elements us) = ok (λ start. elements (pasted start us vs))
put_all (elements vs) (text bs) = fault TypeCheck
put_all (text bs) (elements vs) = fault TypeCheck
put_all (text bs) (text cs) = ok (λ start. text (pasted start cs bs))

-- The whole source is read before anything is written (R69); the ranges are R67's.
unfoldable pub putinterval : Operator
putinterval m = do
  (x, y, z, τ) ← pop3 m
  i ← object_id x
  p ← int y
  j ← object_id z
  written ← put_all (object τ i) (object τ j)
  _ ← writable i τ
  start ← count p
  _ ← check (leb (start + size (object τ j)) (size (object τ i))) RangeCheck
  ok (change i (written start) τ)

-- ---- all elements at once

unfoldable pub aload : Operator
aload m = do
  (x, τ) ← pop1 m
  i ← array_id x
  ok (push x (with_stack (reverse (elements_of (object τ i)) ++ τ.stack) τ))

-- All elements are taken before any is written (R69).
unfoldable pub astore : Operator
astore m = do
  (x, τ) ← pop1 m
  i ← array_id x
  _ ← writable i τ
  let n = size (object τ i)
  _ ← check (leb n (length τ.stack)) StackUnderflow
  ok (push x (change i (elements (reverse (take n τ.stack))) (with_stack (drop n τ.stack) τ)))

-- ---- the mark for read only (02, W7)

-- An object that has it keeps it (W7.3).
unfoldable pub readonly : Operator
readonly m = do
  (x, τ) ← pop1 m
  i ← object_id x
  ok (push x (protect i τ))

-- Opens every definition of this file.
unfoldable pub object_operators : Unit {0}
unfolding new_length push_new array' string' mark' is_mark above_mark close length_of length' got get put_element put_byte put_into put size part redirect getinterval pasted put_all putinterval aload astore readonly
object_operators = tt
