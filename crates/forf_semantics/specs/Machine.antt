-- The machine that words act on: both stacks and the memory (002, Data Types and Memory).
-- Assumes nothing.
use Rattle.std.specs.Prelude.{List, [], ◌∷◌, ℕ}
use Rattle.semantics.specs.Values.{ok, fault}
use Rattle.forf_semantics.specs.Errors.{Result}
use Rattle.forf_semantics.specs.Items.{Items}
use Rattle.forf_semantics.specs.declared.Error.TheVariants.{StackUnderflow, TypeCheck}

pub data Value : Type 0 where
  integer : ℕ → Value  -- its 32 bits
  substack : Items → Value

-- A slot of the execution stack: a substack that is to run, or the items that are left of one that runs.
pub data Frame : Type 0 where
  pending : Items → Frame
  running : Items → Frame

pub record Machine : Type 0 where
  pub stack : List Value  -- the top first
  pub exec : List Frame  -- the top first
  pub memory : List ℕ  -- 32 integers, 32 bits each

unfoldable pub with_stack : List Value → Machine → Machine
with_stack s m = record { stack = s; exec = m.exec; memory = m.memory }

unfoldable pub with_exec : List Frame → Machine → Machine
with_exec e m = record { stack = m.stack; exec = e; memory = m.memory }

unfoldable pub with_memory : List ℕ → Machine → Machine
with_memory s m = record { stack = m.stack; exec = m.exec; memory = s }

-- ---- stacks

unfoldable pub push : Value → Machine → Machine
push v m = with_stack (v ∷ m.stack) m

unfoldable pub enter : Frame → Machine → Machine
enter f m = with_exec (f ∷ m.exec) m

-- The top items, the lowest first, and the machine without them.
unfoldable pub pop1 : Machine → Result (Value × Machine)
pop1 m = elim m.stack [ [] ↦ fault StackUnderflow | x ∷ s ↦ ok (x, with_stack s m) ]

unfoldable pub pop2 : Machine → Result (Value × Value × Machine)
pop2 m =
    elim m.stack [
      | [] ↦ fault StackUnderflow
      | x ∷ s ↦ elim s [ [] ↦ fault StackUnderflow | y ∷ r ↦ ok (y, x, with_stack r m) ]
    ]

unfoldable pub pop3 : Machine → Result (Value × Value × Value × Machine)
pop3 m =
    elim m.stack [
      | [] ↦ fault StackUnderflow
      | x ∷ s ↦ elim s [
        | [] ↦ fault StackUnderflow
        | y ∷ r ↦ elim r [ [] ↦ fault StackUnderflow | z ∷ q ↦ ok (z, y, x, with_stack q m) ]
      ]
    ]

-- ---- what an operand must be, else typecheck

-- An integer's 32 bits.
unfoldable pub int : Value → Result ℕ
int (integer w) = ok w
int (substack xs) = fault TypeCheck

unfoldable pub body : Value → Result Items
body (integer w) = fault TypeCheck
body (substack xs) = ok xs

-- Opens every definition of this file.
unfoldable pub machinery : Unit {0}
unfolding with_stack with_exec with_memory push enter pop1 pop2 pop3 int body
machinery = tt
