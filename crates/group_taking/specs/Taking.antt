-- What taking a brace group comes to in a step.
-- Assumes nothing.
use Rattle.std.specs.Prelude.{◌≡◌, true, List, [], ℕ, ◌+◌, ◌-◌, ◌*◌, ◌≤◌, length, replicate, Result, Ok, Err}
use Rattle.semantics.specs.Sizes.{script_most}
use Rattle.semantics.specs.Tokens.{Lexing}
use Rattle.semantics.specs.Values.{ok, fault, null, array, elements}
use Rattle.semantics.specs.Machine as Floo
use Rattle.semantics.specs.Machine.{push, make, made, protect}
use Rattle.semantics.specs.Groups.{Taken, taken, group, opened}
use Rattle.semantics.specs.Steps.{room_for}
use Rattle.groups.specs.Nodes.{Nodes, count, wanted, names}
use Rattle.groups.specs.Parsing.{Parsed}
use Rattle.machine.specs.Rep.{Rep}
use Rattle.machine.specs.Room.{lent}
use Rattle.machine.specs.declared.Machine.{Machine}
use Rattle.machine.specs.Answers.{Did}
use Rattle.elements.specs.Elements.{free_cells}
use Rattle.group_building.specs.Building.{Known, planted}
use Rattle.group_taking.specs.declared.GroupError.{GroupError}
use Rattle.group_taking.specs.declared.GroupError.TheVariants.{Failed, Misread}

-- The definition's reading of the group whose opening brace ends at `from`.
unfoldable pub group_read : List ℕ → ℕ → Floo.Machine → Lexing Taken
group_read script from μ = group script (length script) (made μ) (from - 1) 15 from [] (opened μ)

-- From `from` on, past a brace, the script may have a group, and the words stand for some machine.
abbrev pub Opened : List ℕ → ℕ → Machine → List ℕ → List ℕ → List ℕ → Type 0
Opened script from m s d c =
    (1 ≤ from) × (from ≤ length script) × (length script ≤ script_most) × ((e : List ℕ) × (l : List ℕ) × (μ : Floo.Machine) × Rep m s e d c l μ)

abbrev pub Grouped : Type 0
Grouped = Result (Machine × ℕ) GroupError

-- The machine after the group, and the offset after it; or the error of the test of room, with that offset, or what is wrong with the group's text, where the
-- words stand for what they stood for.
abbrev pub GroupedAs : List ℕ → ℕ → Machine → List ℕ → List ℕ → List ℕ → List ℕ → List ℕ → List ℕ → List ℕ → List ℕ → Floo.Machine → Grouped → Type 0
GroupedAs script from m s s' e d d' c c' l μ (Ok (r, after)) =
    (ν : Floo.Machine) × (group_read script from μ ≡ taken (array true (made μ)) ν after)
    × (room_for (lent s e d c l) μ (push (array true (made μ)) ν) ≡ ok (push (array true (made μ)) ν))
    × Rep r s' e d' c' l (push (array true (made μ)) ν) × (after ≤ length script)
GroupedAs script from m s s' e d d' c c' l μ (Err (Failed x after)) =
    (ν : Floo.Machine) × (group_read script from μ ≡ taken (array true (made μ)) ν after)
    × (room_for (lent s e d c l) μ (push (array true (made μ)) ν) ≡ fault x) × (s' ≡ s) × (c' ≡ c) × Rep m s e d' c l μ × (after ≤ length script)
GroupedAs script from m s s' e d d' c c' l μ (Err (Misread f)) = (group_read script from μ ≡ fault f) × (s' ≡ s) × (c' ≡ c) × Rep m s e d' c l μ

pub record TakesGroup (script : List ℕ) (from : ℕ) (m : Machine) (s s' d d' c c' : List ℕ) (r : Grouped) : Type 0 where
  pub takes : (e l : List ℕ) (μ : Floo.Machine) → Rep m s e d c l μ → GroupedAs script from m s s' e d d' c c' l μ r

-- What taking a group that has been judged comes to, whose end is at `after`.
abbrev pub counted : ℕ → Did → Grouped
counted after (Ok r) = Ok (r, after)
counted after (Err x) = Err (Failed x after)

-- ---- where there is room

-- The group is there, its names have slots, and there is room on the stack and in the cells.
pub record Roomy (script : List ℕ) (from : ℕ) (m : Machine) (s e d c l : List ℕ) (μ : Floo.Machine) (ns : Nodes) (after : ℕ) : Type 0 where
  pub rep : Rep m s e d c l μ
  pub parsed : Parsed script 15 from ns after
  pub known : Known μ (names ns)
  pub stack : 2 * m.depth + 2 ≤ length s
  pub cells : count ns + 1 + wanted ns ≤ free_cells m c

abbrev pub ReadyGroup : List ℕ → ℕ → ℕ → Machine → List ℕ → List ℕ → List ℕ → Type 0
ReadyGroup script from size m s d c =
    (from ≤ length script) × (length script ≤ script_most) × (size ≤ 32768)
    × ((e : List ℕ) × (l : List ℕ) × (μ : Floo.Machine) × (ns : Nodes) × (after : ℕ) × Roomy script from m s e d c l μ ns after × (size ≡ count ns))

-- The procedure is pushed, with its elements, all that was made for it read only.
pub record ConstructsGroup (script : List ℕ) (from : ℕ) (m r : Machine) (s s' d c c' : List ℕ) : Type 0 where
  pub constructs : {e l : List ℕ} {μ : Floo.Machine} {ns : Nodes} {after : ℕ}
      → Roomy script from m s e d c l μ ns after
      → Rep r s' e d c' l (push (array true (made μ)) (planted (made μ) 0 ns (protect (made μ) (make (elements (replicate (count ns) null)) μ))))
