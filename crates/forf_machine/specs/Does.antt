-- What a word does to the words that stand for a machine, errors and the test of room included.
-- Assumes nothing.
use Rattle.std.specs.Prelude.{◌≡◌, List, ℕ, ◌*◌, ◌≤◌, length}
use Rattle.semantics.specs.Sizes.{stack_width, exec_width}
use Rattle.semantics.specs.Values.{ok, fault, ◌>>=◌}
use Rattle.forf_semantics.specs.Errors.{Result}
use Rattle.forf_semantics.specs.Machine as Forf
use Rattle.forf_semantics.specs.Operators.{Operator}
use Rattle.forf_semantics.specs.Steps.{room_for}
use Rattle.forf_semantics.specs.BodyLaws.{body_at}
use Rattle.forf_machine.specs.Rep.{SoundValue, value_of, machine_of, Rep, limits_of}
use Rattle.forf_machine.specs.declared.Machine.{Machine}
use Rattle.forf_semantics.specs.declared.Error.{Error}
use Rattle.std.specs.Prelude.{Ok, Err}
use Rattle.std.specs.Prelude as std

-- The machine after a word or a push, or its error.
abbrev pub Acted : Type 0
Acted = std.Result Machine Error

-- What is answered, where the definition gives q: the error, with stack and memory as they were; or the machine after it.
abbrev pub Answer : List ℕ → List ℕ → List ℕ → List ℕ → List ℕ → List ℕ → Acted → Result Forf.Machine → Type 0
Answer script s s' e' mem mem' (Err x) q = (q ≡ fault x) × (s' ≡ s) × (mem' ≡ mem)
Answer script s s' e' mem mem' (Ok m) q = (q ≡ ok (machine_of script m s' e' mem')) × Rep script m s' e' mem'

pub record Does (f : Operator) (m : Machine) (s s' e e' mem mem' : List ℕ) (r : Acted) : Type 0 where
  pub does : (script : List ℕ) → Rep script m s e mem → Answer script s s' e' mem mem' r (f (machine_of script m s e mem) >>= room_for (limits_of s e))

-- A word that touches no words, the stack alone, the stack and the execution stack, or the stack and the memory.
abbrev pub OnDepth : Operator → Machine → Acted → Type 0
OnDepth f m r = (s e mem : List ℕ) → Does f m s s e e mem mem r

abbrev pub OnStack : Operator → Machine → List ℕ → List ℕ → Acted → Type 0
OnStack f m s s' r = (e mem : List ℕ) → Does f m s s' e e mem mem r

abbrev pub OnExec : Operator → Machine → List ℕ → List ℕ → List ℕ → Acted → Type 0
OnExec f m s e e' r = (mem : List ℕ) → Does f m s s e e' mem mem r

abbrev pub OnMemory : Operator → Machine → List ℕ → List ℕ → List ℕ → List ℕ → Acted → Type 0
OnMemory f m s s' mem mem' r = (e : List ℕ) → Does f m s s' e e mem mem' r

-- A value is pushed whose substack, if it is one, can be read.
pub record Pushes (m : Machine) (tag payload : ℕ) (s s' : List ℕ) (r : Acted) : Type 0 where
  pub pushes : (script e mem : List ℕ) → Rep script m s e mem → SoundValue script (tag, payload)
      → Answer script s s' e mem mem r (ok (Forf.push (value_of script (tag, payload)) (machine_of script m s e mem)) >>= room_for (limits_of s e))

-- The substack at an offset that can be read becomes pending.
pub record Pends (m : Machine) (body : ℕ) (e e' : List ℕ) (r : Acted) : Type 0 where
  pub pends : (script s mem : List ℕ) → Rep script m s e mem → SoundValue script (1, body)
      → Answer script s s e' mem mem r (ok (Forf.enter (Forf.pending (body_at script body)) (machine_of script m s e mem)) >>= room_for (limits_of s e))

-- What the words lent to a word must be: the slots in use are lent, and the memory has 32 slots.
pub record Lent (m : Machine) (s e mem : List ℕ) : Type 0 where
  pub stack_fits : stack_width * m.depth ≤ length s
  pub exec_fits : exec_width * m.frames ≤ length e
  pub memory_slots_lem : length mem ≡ 32
