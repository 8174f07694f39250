-- What taking a token promises: its effect with the test of room after it.
-- Assumes nothing.
use Rattle.std.specs.Prelude.{◌≡◌, false, List, ℕ, ◌+◌, ◌*◌, length, set}
use Rattle.std.proofs.Math.Option.{some}
use Rattle.std.proofs.Math.ListN.{get_elem?}
use Rattle.semantics.specs.Values.{Result, name}
use Rattle.semantics.specs.Machine as Floo
use Rattle.semantics.specs.Machine.{push}
use Rattle.token.specs.Strings.{StringAt}
use Rattle.machine.specs.Places.{keys}
use Rattle.machine.specs.Rep.{Rep, Answer}
use Rattle.machine.specs.Room.{lent, fitted, DoesHeap}
use Rattle.machine.specs.declared.Machine.{Machine}
use Rattle.machine.specs.Answers.{Did}
use Rattle.taking.specs.Effects.{string_taken, executable_taken}

-- ---- what is asked

-- The words of execution slots, dictionary and cells stand for some machine,
abbrev pub Bindings : Machine → List ℕ → List ℕ → List ℕ → Type 0
Bindings m e d c = (s : List ℕ) × (l : List ℕ) × (μ : Floo.Machine) × Rep m s e d c l μ

-- in which a name has the slot k.
abbrev pub NamedBindings : ℕ → Machine → List ℕ → List ℕ → List ℕ → Type 0
NamedBindings k m e d c = (s : List ℕ) × (l : List ℕ) × (μ : Floo.Machine) × (n : List ℕ) × (get_elem? (keys μ) k ≡ some n) × Rep m s e d c l μ

-- The words of stack and dictionary stand for some machine.
abbrev pub Names : Machine → List ℕ → List ℕ → Type 0
Names m s d = (e : List ℕ) × (c : List ℕ) × (l : List ℕ) × (μ : Floo.Machine) × Rep m s e d c l μ

-- At `at` are the bytes of a string token that holds `size` of them.
abbrev pub StringOf : List ℕ → ℕ → ℕ → Type 0
StringOf script at size = (bs : List ℕ) × (next : ℕ) × StringAt script at bs next × (length bs ≡ size)

-- ---- tokens

-- What touches the words of execution slots and cells, and reads those of the dictionary, does f where there is room, or fails as f and the test of room do.
pub record DoesBinding (f : Floo.Machine → Result Floo.Machine) (m : Machine) (e e' d c c' : List ℕ) (r : Did) : Type 0 where
  pub does : (s l : List ℕ) (μ : Floo.Machine)
      → Rep m s e d c l μ
      → Answer (λ m'. Rep m' s e' d c' l) ((e' ≡ e) × (c' ≡ c)) r (fitted (lent s e d c l) f μ)

-- The same of what executes the name with the slot k.
pub record DoesNamed (k : ℕ) (m : Machine) (e e' d c c' : List ℕ) (r : Did) : Type 0 where
  pub does : (s l : List ℕ) (μ : Floo.Machine)
      → Rep m s e d c l μ
      → (n : List ℕ)
      → get_elem? (keys μ) k ≡ some n
      → Answer (λ m'. Rep m' s e' d c' l) ((e' ≡ e) × (c' ≡ c)) r (fitted (lent s e d c l) (executable_taken n) μ)

-- What touches the words of stack and dictionary.
pub record DoesNames (f : Floo.Machine → Result Floo.Machine) (m : Machine) (s s' d d' : List ℕ) (r : Did) : Type 0 where
  pub does : (e c l : List ℕ) (μ : Floo.Machine)
      → Rep m s e d c l μ
      → Answer (λ m'. Rep m' s' e d' c l) ((s' ≡ s) × (d' ≡ d)) r (fitted (lent s e d c l) f μ)

-- The string whose bytes are at `at` is taken.
pub record DoesString (script : List ℕ) (at : ℕ) (m : Machine) (s s' c c' : List ℕ) (r : Did) : Type 0 where
  pub does : (bs : List ℕ) (next : ℕ) → StringAt script at bs next → DoesHeap (string_taken bs) m s s' c c' r

-- ---- parts

-- The small state with one item more.
abbrev pub deeper : Machine → Machine
deeper m = record { depth = m.depth + 1; frames = m.frames; names = m.names; written = m.written; lists = m.lists; stopped = m.stopped }

-- Two words go above the topmost item.
pub record PushesWords (t p : ℕ) (m r : Machine) (s s' : List ℕ) : Type 0 where
  pub state : r ≡ deeper m
  pub words : s' ≡ set (set s (2 * m.depth) t) (2 * m.depth + 1) p

-- The literal name with the slot k is pushed.
pub record PushesName (k : ℕ) (m r : Machine) (s s' : List ℕ) : Type 0 where
  pub moves : (e d c l : List ℕ) (μ : Floo.Machine)
      → Rep m s e d c l μ
      → (n : List ℕ)
      → get_elem? (keys μ) k ≡ some n
      → Rep r s' e d c l (push (name false n) μ)
