-- What the writers of the outcome's parts ask for and write: the definition's text, in every machine that the words stand for.
-- Assumes nothing.
use Rattle.std.specs.Prelude.{◌≡◌, true, cond, List, [], ◌++◌, reverse, ℕ, ◌+◌, ◌*◌, ◌/◌, ◌≤◌, ◌<◌, length, get_or, eqb}
use Rattle.semantics.specs.Sizes.{script_most, log_most, head_room, item_room}
use Rattle.semantics.specs.Text.{bytes, decimal}
use Rattle.semantics.specs.Values.{null, string, current}
use Rattle.semantics.specs.Machine as Floo
use Rattle.semantics.specs.Machine.{object, bytes_of}
use Rattle.semantics.specs.Printing.{name_text, item}
use Rattle.semantics.specs.Held.{held_cells}
use Rattle.semantics.specs.Steps as Steps
use Rattle.semantics.specs.Outcome.{line, ending_lines, where_of, items, outcome}
use Rattle.semantics.specs.declared.Error.{Error}
use Rattle.text.specs.Writing.{Written}
use Rattle.ending.specs.Endings.{command_text, IsCommand, ending_of, IsEnding}
use Rattle.ending.specs.declared.Command.{Command}
use Rattle.ending.specs.declared.Ending.{Ending}
use Rattle.machine.specs.Places.{keys}
use Rattle.machine.specs.Rep.{Rep}
use Rattle.machine.specs.declared.Machine.{Machine}

-- ---- the whole

-- The words stand for a machine that has come to this ending, and there is room for its outcome. A script has 32,768 bytes at most and a log 65,536 (01, Setup).
pub record Ready (script : List ℕ) (m : Machine) (ending : Ending) (at : ℕ) (s d c out : List ℕ) : Type 0 where
  pub offset : at ≤ script_most
  pub log_few : m.written ≤ log_most
  pub fits : head_room + item_room * (length s / 2) ≤ length out
  pub exec : List ℕ
  pub log : List ℕ
  pub machine : Floo.Machine
  pub rep : Rep m s exec d c log machine
  pub ends : IsEnding script (keys machine) ending

pub record WritesOutcome (script : List ℕ) (m : Machine) (ending : Ending) (at steps : ℕ) (s d c old new : List ℕ) (r : ℕ) : Type 0 where
  pub says : (e l : List ℕ) (μ : Floo.Machine) (next : ℕ)
      → Rep m s e d c l μ
      → Written 0
      (outcome (record { ending = ending_of script (keys μ) ending; final = record { machine = μ; next = next; at = at; steps = steps } }))
      old
      new
      r

-- ---- how the run ended

-- The words of dictionary and cells stand for some machine of which P holds.
pub record Known (P : Floo.Machine → Type 0) (d c : List ℕ) : Type 0 where
  pub small : Machine
  pub stack : List ℕ
  pub exec : List ℕ
  pub log : List ℕ
  pub machine : Floo.Machine
  pub rep : Rep small stack exec d c log machine
  pub holds : P machine

pub record EndingRoom (script d c : List ℕ) (ending : Ending) (out : List ℕ) : Type 0 where
  pub known : Known (λ μ. IsEnding script (keys μ) ending) d c
  pub fits : 170 ≤ length out

pub record WritesEnding (script d c : List ℕ) (ending : Ending) (old new : List ℕ) (r : ℕ) : Type 0 where
  pub says : (m : Machine) (s e l : List ℕ) (μ : Floo.Machine)
      → Rep m s e d c l μ
      → IsEnding script (keys μ) ending
      → Written 0 (ending_lines (ending_of script (keys μ) ending)) old new r

pub record FailureRoom (script d c : List ℕ) (command : Command) (out : List ℕ) : Type 0 where
  pub known : Known (λ μ. IsCommand script (keys μ) command) d c
  pub fits : 170 ≤ length out

pub record WritesFailure (script d c : List ℕ) (error : Error) (command : Command) (old new : List ℕ) (r : ℕ) : Type 0 where
  pub says : (m : Machine) (s e l : List ℕ) (μ : Floo.Machine)
      → Rep m s e d c l μ
      → IsCommand script (keys μ) command
      → Written 0 (ending_lines (Steps.failed error (command_text script (keys μ) command))) old new r

pub record CommandRoom (script d c : List ℕ) (command : Command) (at : ℕ) (out : List ℕ) : Type 0 where
  pub known : Known (λ μ. IsCommand script (keys μ) command) d c
  pub fits : at + 124 ≤ length out

pub record WritesCommand (script d c : List ℕ) (command : Command) (at : ℕ) (old new : List ℕ) (r : ℕ) : Type 0 where
  pub says : (m : Machine) (s e l : List ℕ) (μ : Floo.Machine)
      → Rep m s e d c l μ
      → IsCommand script (keys μ) command
      → Written at (name_text true (command_text script (keys μ) command)) old new r

-- ---- the numbers

-- The line of the first byte that could not be accepted.
pub record WritesWhere (ending : Ending) (at : ℕ) (old new : List ℕ) (r : ℕ) : Type 0 where
  pub says : (script : List ℕ) (names : List (List ℕ)) → Written at (line (bytes "where") (where_of (ending_of script names ending))) old new r

-- The lines of the four counts.
unfoldable pub count_lines : ℕ → ℕ → ℕ → ℕ → List ℕ
count_lines steps depth held log =
    line (bytes "steps") (decimal steps)
    ++ line (bytes "depth") (decimal depth)
    ++ line (bytes "held") (decimal held)
    ++ line (bytes "log") (decimal log)

pub record CountsRoom (m : Machine) (c : List ℕ) (next : ℕ) (out : List ℕ) : Type 0 where
  pub log_few : m.written ≤ log_most
  pub fits : next + 65 ≤ length out
  pub stack : List ℕ
  pub exec : List ℕ
  pub dict : List ℕ
  pub log : List ℕ
  pub machine : Floo.Machine
  pub rep : Rep m stack exec dict c log machine

pub record WritesCounts (m : Machine) (steps : ℕ) (c : List ℕ) (next : ℕ) (old new : List ℕ) (r : ℕ) : Type 0 where
  pub says : (s e d l : List ℕ) (μ : Floo.Machine)
      → Rep m s e d c l μ
      → Written next (count_lines steps (length μ.stack) (held_cells μ) (length μ.log)) old new r

-- ---- the items

pub record ItemsRoom (m : Machine) (s d c : List ℕ) (at : ℕ) (out : List ℕ) : Type 0 where
  pub exec : List ℕ
  pub log : List ℕ
  pub machine : Floo.Machine
  pub rep : Rep m s exec d c log machine
  pub fits : at + item_room * m.depth ≤ length out

pub record WritesItems (m : Machine) (s d c : List ℕ) (at : ℕ) (old new : List ℕ) (r : ℕ) : Type 0 where
  pub says : (e l : List ℕ) (μ : Floo.Machine) → Rep m s e d c l μ → Written at (items μ (reverse μ.stack)) old new r

-- There is an item i from the top.
pub record ItemRoom (i : ℕ) (m : Machine) (s d c : List ℕ) : Type 0 where
  pub exec : List ℕ
  pub log : List ℕ
  pub machine : Floo.Machine
  pub rep : Rep m s exec d c log machine
  pub inside : i < m.depth

pub record WritesItem (i : ℕ) (m : Machine) (s d c : List ℕ) (at : ℕ) (old new : List ℕ) (r : ℕ) : Type 0 where
  pub says : (e l : List ℕ) (μ : Floo.Machine) → Rep m s e d c l μ → Written at (line (bytes "item") (item μ (get_or μ.stack i null))) old new r

pub record WritesValue (i : ℕ) (m : Machine) (s d c : List ℕ) (at : ℕ) (old new : List ℕ) (r : ℕ) : Type 0 where
  pub says : (e l : List ℕ) (μ : Floo.Machine) → Rep m s e d c l μ → Written at (item μ (get_or μ.stack i null)) old new r

-- What an item begins with, by its tag.
unfoldable pub kind_text : ℕ → List ℕ
kind_text t =
    cond (eqb t 1) (bytes "integer:")
    (cond (eqb t 2) (bytes "boolean:")
    (cond (eqb t 3) (bytes "mark")
    (cond (eqb t 4) (bytes "operator:")
    (cond (eqb t 5) (bytes "name:")
    (cond (eqb t 6) (bytes "name:")
    (cond (eqb t 8) (bytes "string:")
    (cond (eqb t 9) (bytes "array:")
    (cond (eqb t 10) (bytes "procedure:") []))))))))

-- The sizes of the string id.
unfoldable pub sizes_text : Floo.Machine → ℕ → List ℕ
sizes_text μ id =
    let bs = bytes_of (object μ id) in
    decimal (length (current bs)) ++ bytes "/" ++ decimal (length bs)

pub record WritesSizes (i : ℕ) (m : Machine) (s c : List ℕ) (at : ℕ) (old new : List ℕ) (r : ℕ) : Type 0 where
  pub says : (e d l : List ℕ) (μ : Floo.Machine)
      → Rep m s e d c l μ
      → (id : ℕ)
      → get_or μ.stack i null ≡ string id
      → Written at (sizes_text μ id) old new r
