-- What an echo line is, and when a step executes an operator: what the theorems on echo lines speak of. Their states of runs stand in proofs/Runs, since they rest on `ranged`, which carries its laws.
-- Assumes nothing.
use Rattle.std.specs.Prelude.{◌≡◌, List, ◌++◌, ℕ}
use Rattle.std.proofs.Math.Option.{some}
use Rattle.std.proofs.Math.ListN.{get_elem?}
use Rattle.semantics.specs.Text.{bytes}
use Rattle.semantics.specs.Values.{Value, operator, current}
use Rattle.semantics.specs.Machine.{Machine, Frame, pending, running, object, elements_of, bytes_of}
use Rattle.semantics.specs.Printing.{echoed}

-- The current bytes of the string that a machine has at a place.
abbrev pub current_at : Machine → ℕ → List ℕ
current_at m i = current (bytes_of (object m i))

-- What echo adds to the log: the text, and a line feed (`echo_line` in EchoLaws).
abbrev pub line_of : Machine → Value → List ℕ
line_of m v = echoed m v ++ bytes "\n"

-- The topmost slot executes an operator: it is pending, or it is the next element of a running procedure. (A token is never an operator.)
pub data Executes (m : Machine) (o : List ℕ) : Frame → Type 0 where
  waiting : Executes m o (pending (operator o))
  element : {i k : ℕ} → get_elem? (elements_of (object m i)) k ≡ some (operator o) → Executes m o (running i k)

abbrev pub Iff : Type 0 → Type 0 → Type 0
Iff A B = (A → B) × (B → A)
