-- A string lent before step 1, under a name that has no slot.
-- Assumes nothing.
use Rattle.std.specs.Prelude.{◌≡◌, List, ℕ, ◌+◌, ◌*◌, ◌/◌, ◌≤◌, length}
use Rattle.semantics.specs.Sizes.{name_most, name_words}
use Rattle.semantics.specs.Machine as Floo
use Rattle.semantics.specs.Steps as steps
use Rattle.semantics.specs.Steps.{start_of, initial, lending}
use Rattle.machine.specs.Rep.{Rep}
use Rattle.machine.specs.declared.Machine.{Machine}
use Rattle.elements.specs.Elements.{free_cells}
use Rattle.dictionary.specs.Names.{slot_of}
use Rattle.runner.specs.Promise as runner
use Rattle.runner.specs.Promise.{CarriesOut, Reaches}
use Rattle.runner.specs.declared.Proceeded.{Proceeded}

-- The words of an empty stack, with a slot and cells for the string.
pub record MayLend (m : Machine) (s d c name contents : List ℕ) : Type 0 where
  pub empty : m.depth ≡ 0
  pub scratch : 2 ≤ length s
  pub short : length name ≤ name_most
  pub slot : 12 * m.names + 12 ≤ length d
  pub cells : (length contents + 7) / 8 + 1 ≤ free_cells m c
  pub exec : List ℕ
  pub log : List ℕ
  pub machine : Floo.Machine
  pub rep : Rep m s exec d c log machine
  pub unknown : slot_of name machine.dictionary ≡ m.names

-- The string is made and bound, and the stack is empty again.
pub record Lends (m r : Machine) (s s' d d' c c' name contents : List ℕ) : Type 0 where
  pub lends : (e l : List ℕ) (μ : Floo.Machine)
      → Rep m s e d c l μ
      → slot_of name μ.dictionary ≡ m.names
      → Rep r s' e d' c' l (lending name contents μ)
  pub empty : r.depth ≡ 0

-- The start of a run with this string lent.
abbrev pub lent_start : List ℕ → List ℕ → steps.State
lent_start name contents = start_of (lending name contents initial.machine)

-- Setup accepts, and there is room for the string; no predefined name is its name.
pub record Ready (script : List ℕ) (fuel : ℕ) (name contents s e d c l o : List ℕ) : Type 0 where
  pub setup : runner.Ready script fuel s e d c l o
  pub scratch : 2 ≤ length s
  pub short : length name ≤ name_most
  pub unknown : slot_of name initial.machine.dictionary ≡ length initial.machine.dictionary
  pub slot : name_words + 12 ≤ length d
  pub cells : (length contents + 7) / 8 + 1 ≤ length c / 4

-- The run from there. Before it the first stack slot was written, and cells.
pub record Carries (script : List ℕ) (fuel : ℕ) (name contents s s' e e' d d' c c' l l' o o' : List ℕ) (r : Proceeded) : Type 0 where
  pub run : CarriesOut script fuel (lent_start name contents) 2 (length c) s s' e e' d d' c c' l l' o o' r.report
  pub ends : Reaches script fuel (lent_start name contents) s s' e e' d d' c c' l l' o r
