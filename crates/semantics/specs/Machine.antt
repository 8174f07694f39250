-- The machine that operators act on: both stacks, the dictionary, the made objects and the log (000, chapters 2 and 4; 01, Steps and Room).
-- Assumes nothing.
use Rattle.std.specs.Prelude.{Bool, true, false, not, ◌||◌, List, [], ◌∷◌, ◌++◌, ℕ, ℤ, length, get_or, set, eqb}
use Rattle.std.proofs.Math.Option.{Option, none, some}
use Rattle.semantics.specs.Text.{same}
use Rattle.semantics.specs.Values.{Result, ok, fault, check, Value, null, name, Object, elements, text}
use Rattle.semantics.specs.declared.Error.TheVariants.{StackUnderflow, InvalidAccess}

-- A slot of the execution stack.
pub data Frame : Type 0 where
  pending : Value → Frame
  running : ℕ → ℕ → Frame  -- a procedure's object, and the place of its next element
  looping : Value → Frame  -- loop: its body
  repeating : ℕ → Value → Frame  -- repeat: how many repetitions are left, and the body
  counting : ℤ → ℕ → ℕ → Value → Frame  -- for: next, an integer that may have left 32 bits, increment and final (32 bits each), and the body

-- A dictionary slot: a name, and what it is bound to, if anything.
pub record Slot : Type 0 where
  pub key : List ℕ
  pub binding : Option Value

-- The names of the latest error that was handled, and of its command (02, W1). None shows as null.
pub record Latest : Type 0 where
  pub errorname : Option (List ℕ)
  pub command : Option (List ℕ)

pub record Machine : Type 0 where
  pub stack : List Value  -- the top first
  pub dictionary : List Slot
  pub exec : List Frame  -- the top first
  pub store : List Object  -- every object made so far
  pub read_only : List ℕ  -- the objects that carry the mark for read only (02, W7)
  pub handlers : List Slot  -- by the errors' names: what handles the error, if anything does
  pub latest : Latest
  pub log : List ℕ
  pub stopped : Bool  -- by stop, or by exit or continue with no loop

unfoldable pub with_stack : List Value → Machine → Machine
with_stack s m = record { stack = s; dictionary = m.dictionary; exec = m.exec; store = m.store; read_only = m.read_only; handlers = m.handlers; latest = m.latest; log = m.log; stopped = m.stopped }

unfoldable pub with_dictionary : List Slot → Machine → Machine
with_dictionary d m = record { stack = m.stack; dictionary = d; exec = m.exec; store = m.store; read_only = m.read_only; handlers = m.handlers; latest = m.latest; log = m.log; stopped = m.stopped }

unfoldable pub with_exec : List Frame → Machine → Machine
with_exec e m = record { stack = m.stack; dictionary = m.dictionary; exec = e; store = m.store; read_only = m.read_only; handlers = m.handlers; latest = m.latest; log = m.log; stopped = m.stopped }

unfoldable pub with_store : List Object → Machine → Machine
with_store o m = record { stack = m.stack; dictionary = m.dictionary; exec = m.exec; store = o; read_only = m.read_only; handlers = m.handlers; latest = m.latest; log = m.log; stopped = m.stopped }

unfoldable pub with_read_only : List ℕ → Machine → Machine
with_read_only r m = record { stack = m.stack; dictionary = m.dictionary; exec = m.exec; store = m.store; read_only = r; handlers = m.handlers; latest = m.latest; log = m.log; stopped = m.stopped }

unfoldable pub with_handlers : List Slot → Machine → Machine
with_handlers h m = record { stack = m.stack; dictionary = m.dictionary; exec = m.exec; store = m.store; read_only = m.read_only; handlers = h; latest = m.latest; log = m.log; stopped = m.stopped }

unfoldable pub with_latest : Latest → Machine → Machine
with_latest t m = record { stack = m.stack; dictionary = m.dictionary; exec = m.exec; store = m.store; read_only = m.read_only; handlers = m.handlers; latest = t; log = m.log; stopped = m.stopped }

unfoldable pub write : List ℕ → Machine → Machine
write t m = record { stack = m.stack; dictionary = m.dictionary; exec = m.exec; store = m.store; read_only = m.read_only; handlers = m.handlers; latest = m.latest; log = m.log ++ t; stopped = m.stopped }

unfoldable pub halt : Machine → Machine
halt m = record { stack = m.stack; dictionary = m.dictionary; exec = m.exec; store = m.store; read_only = m.read_only; handlers = m.handlers; latest = m.latest; log = m.log; stopped = true }

-- ---- stacks

unfoldable pub push : Value → Machine → Machine
push v m = with_stack (v ∷ m.stack) m

unfoldable pub enter : Frame → Machine → Machine
enter f m = with_exec (f ∷ m.exec) m

-- The top items, the lowest first, and the machine without them.
unfoldable pub pop1 : Machine → Result (Value × Machine)
pop1 m = elim m.stack [ [] ↦ fault StackUnderflow | x ∷ s ↦ ok (x, with_stack s m) ]

unfoldable pub pop2 : Machine → Result (Value × Value × Machine)
pop2 m =
    elim m.stack [
      | [] ↦ fault StackUnderflow
      | y ∷ s ↦ elim s [ [] ↦ fault StackUnderflow | x ∷ r ↦ ok (x, y, with_stack r m) ]
    ]

unfoldable pub pop3 : Machine → Result (Value × Value × Value × Machine)
pop3 m =
    elim m.stack [
      | [] ↦ fault StackUnderflow
      | z ∷ s ↦ elim s [
        | [] ↦ fault StackUnderflow
        | y ∷ r ↦ elim r [ [] ↦ fault StackUnderflow | x ∷ q ↦ ok (x, y, z, with_stack q m) ]
      ]
    ]

unfoldable pub pop4 : Machine → Result (Value × Value × Value × Value × Machine)
pop4 m =
    elim m.stack [
      | [] ↦ fault StackUnderflow
      | z ∷ s ↦ elim s [
        | [] ↦ fault StackUnderflow
        | y ∷ r ↦ elim r [
          | [] ↦ fault StackUnderflow
          | x ∷ q ↦ elim q [ [] ↦ fault StackUnderflow | w ∷ p ↦ ok (w, x, y, z, with_stack p m) ]
        ]
      ]
    ]

-- ---- objects

unfoldable pub object : Machine → ℕ → Object
object m i = get_or m.store i (elements [])

unfoldable pub elements_of : Object → List Value
elements_of (elements vs) = vs
elements_of (text bs) = []

unfoldable pub bytes_of : Object → List ℕ
bytes_of (elements vs) = []
bytes_of (text bs) = bs

-- A new object goes after the others, so its name is the number of those made before.
unfoldable pub make : Object → Machine → Machine
make o m = with_store (m.store ++ (o ∷ [])) m

unfoldable pub made : Machine → ℕ
made m = length m.store

unfoldable pub change : ℕ → Object → Machine → Machine
change i o m = with_store (set m.store i o) m

-- ---- the mark for read only (02, W7)

unfoldable pub member : ℕ → List ℕ → Bool
member i [] = false
member i (j ∷ js) = eqb i j || member i js

-- An object gets the mark, for good.
unfoldable pub protect : ℕ → Machine → Machine
protect i m = with_read_only (m.read_only ++ (i ∷ [])) m

-- An object that may be written to, else invalidaccess.
unfoldable pub writable : ℕ → Machine → Result (Unit {0})
writable i m = check (not (member i m.read_only)) InvalidAccess

-- ---- names

unfoldable pub lookup : List ℕ → List Slot → Option Value
lookup n [] = none
lookup n (s ∷ d) = elim (same n s.key) [ true ↦ s.binding | false ↦ lookup n d ]

-- A name's slot is bound anew. The first clause is never met in `def`, for a literal name has had its slot since it was met (R34, R77).
unfoldable pub assign : List ℕ → Value → List Slot → List Slot
assign n v [] = record { key = n; binding = some v } ∷ []
assign n v (s ∷ d) = elim (same n s.key) [ true ↦ record { key = n; binding = some v } ∷ d | false ↦ s ∷ assign n v d ]

unfoldable pub slotted : List ℕ → List Slot → List Slot
slotted n [] = record { key = n; binding = none } ∷ []
slotted n (s ∷ d) = elim (same n s.key) [ true ↦ s ∷ d | false ↦ s ∷ slotted n d ]

-- A name met in a literal, a brace group or cvn takes a slot for good (01, House rules).
unfoldable pub intern : List ℕ → Machine → Machine
intern n m = with_dictionary (slotted n m.dictionary) m

-- A literal name, or null.
unfoldable pub name_or_null : Option (List ℕ) → Value
name_or_null none = null
name_or_null (some n) = name false n

-- Opens every definition of this file.
unfoldable pub machinery : Unit {0}
unfolding with_stack with_dictionary with_exec with_store with_read_only with_handlers with_latest write halt push enter pop1 pop2 pop3 pop4 object elements_of bytes_of make made change member protect writable lookup assign slotted intern name_or_null
machinery = tt
