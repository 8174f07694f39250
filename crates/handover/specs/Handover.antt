-- An error that is handed over to its handler, as the definition has it (02, W1).
-- Assumes nothing.
use Rattle.std.specs.Prelude.{◌≡◌, Bool, true, false, List, [], ◌∷◌, ℕ, suc, ◌/◌, ◌≤◌, leb, length, Option as Maybe, Some, None}
use Rattle.std.proofs.Math.Option.{Option, none, some}
use Rattle.std.proofs.Math.ListN.{get_elem?}
use Rattle.semantics.specs.Errors.{error_text}
use Rattle.semantics.specs.Machine as Floo
use Rattle.semantics.specs.Machine.{Frame, with_exec, with_dictionary, lookup}
use Rattle.semantics.specs.SlotLaws.{keys_of}
use Rattle.semantics.specs.Steps.{Limits, passed, noted, handling}
use Rattle.semantics.specs.declared.Error.{Error}
use Rattle.ending.specs.Endings.{command_text, IsCommand}
use Rattle.ending.specs.declared.Command.{Command}
use Rattle.machine.specs.Words.{frame_kind, frame_left}
use Rattle.machine.specs.Places.{keys}
use Rattle.machine.specs.Rep.{Rep, Noted}
use Rattle.machine.specs.declared.Machine.{Machine}
use Rattle.handover.specs.declared.Known.{Known}

-- ---- what failed counts as taken

-- What is left of the execution stack: with no slot it was a token that failed.
abbrev pub left_of : List Frame → List Frame
left_of [] = []
left_of (f ∷ fs) = passed f fs

unfoldable pub passed_top : Floo.Machine → Floo.Machine
passed_top μ = with_exec (left_of μ.exec) μ

-- The step of the topmost slot can fail: it is no procedure of which no element is left, and no `for` past its end.
pub record Passable (m : Machine) (e : List ℕ) : Type 0 where
  pub running : (k : ℕ) → m.frames ≡ suc k → frame_kind e k ≡ 1 → 1 ≤ frame_left e k
  pub counting : (k : ℕ) → m.frames ≡ suc k → frame_kind e k ≡ 5 → ⊥

-- Whether a slot is free for the handler then.
pub record HasSlot (m : Machine) (e : List ℕ) (r : Bool) : Type 0 where
  pub says : (s d c l : List ℕ) (μ : Floo.Machine) → Rep m s e d c l μ → r ≡ leb (suc (length (left_of μ.exec))) (length e / 8)

-- ---- the name of a command

-- What is stored of a name, and the dictionary then.
abbrev pub Stored : List ℕ → List ℕ → List ℕ → Known → List ℕ → List ℕ → List ℕ → List ℕ → Floo.Machine → Type 0
Stored n d d' r s e c l μ =
    let x = noted (length d / 12) n μ.dictionary in
    Rep r.machine s e d' c l (with_dictionary x.1 μ) × Noted (keys_of x.1) x.0 r.word

pub record KnowsName (n : List ℕ) (m : Machine) (d d' : List ℕ) (r : Known) : Type 0 where
  pub knows : (s e c l : List ℕ) (μ : Floo.Machine) → Rep m s e d c l μ → Stored n d d' r s e c l μ

-- The name that has the slot k.
pub record KnowsSlot (k : ℕ) (d : List ℕ) (w : ℕ) : Type 0 where
  pub knows : (m : Machine) (s e c l : List ℕ) (μ : Floo.Machine)
      → Rep m s e d c l μ
      → (n : List ℕ)
      → get_elem? (keys μ) k ≡ some n
      → Stored n d d (record { machine = m; word = w }) s e c l μ

-- A command's name.
pub record Knows (script : List ℕ) (command : Command) (m : Machine) (d d' : List ℕ) (r : Known) : Type 0 where
  pub knows : (s e c l : List ℕ) (μ : Floo.Machine)
      → Rep m s e d c l μ
      → IsCommand script (keys μ) command
      → Stored (command_text script (keys μ) command) d d' r s e c l μ

-- The words of the dictionary stand for some machine; and the command is there in it.
abbrev pub NamesSomewhere : Machine → List ℕ → Type 0
NamesSomewhere m d = (s : List ℕ) × (e : List ℕ) × (c : List ℕ) × (l : List ℕ) × (μ : Floo.Machine) × Rep m s e d c l μ

abbrev pub MayKnow : List ℕ → Command → Machine → List ℕ → Type 0
MayKnow script command m d =
    (s : List ℕ) × (e : List ℕ) × (c : List ℕ) × (l : List ℕ) × (μ : Floo.Machine) × Rep m s e d c l μ × IsCommand script (keys μ) command

-- ---- the error

-- The machine in which the error's handler has taken over, if it has one and an execution slot is free for it.
unfoldable pub handed_over : Limits → Error → List ℕ → Floo.Machine → Option Floo.Machine
handed_over l x command μ =
    elim (lookup (error_text x) μ.handlers) [
      | none ↦ none
      | some h ↦ elim (leb (suc (length (left_of μ.exec))) l.exec_slots) [ true ↦ some (handling l h x command (left_of μ.exec) μ) | false ↦ none ]
    ]

-- The machine in which the handler took over, if it did.
abbrev pub Handed : Type 0
Handed = Maybe Machine

-- What the answer means: R says that a machine stands for one of the definition, Same that no word has changed.
abbrev pub HandedAs : (Machine → Floo.Machine → Type 0) → Type 0 → Handed → Option Floo.Machine → Type 0
HandedAs R Same (Some m) q = (ν : Floo.Machine) × (q ≡ some ν) × R m ν
HandedAs R Same None q = (q ≡ none) × Same

-- The words stand for some machine in which the command is there, and whose topmost slot can fail.
pub record MayHand (script : List ℕ) (command : Command) (m : Machine) (e d c : List ℕ) : Type 0 where
  pub passable : Passable m e
  pub stack : List ℕ
  pub log : List ℕ
  pub machine : Floo.Machine
  pub stands : Rep m stack e d c log machine
  pub is : IsCommand script (keys machine) command

-- Of the limits, only the execution slots and the dictionary's are looked at.
pub record HandsOver (script : List ℕ) (x : Error) (command : Command) (m : Machine) (e e' d d' c c' : List ℕ) (r : Handed) : Type 0 where
  pub hands : (s l : List ℕ) (μ : Floo.Machine) (limits : Limits)
      → Rep m s e d c l μ
      → IsCommand script (keys μ) command
      → limits.exec_slots ≡ length e / 8
      → limits.dictionary_slots ≡ length d / 12
      → HandedAs (λ m'. Rep m' s e' d' c' l) ((e' ≡ e) × (d' ≡ d) × (c' ≡ c)) r (handed_over limits x (command_text script (keys μ) command) μ)
