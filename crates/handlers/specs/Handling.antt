-- What the primitives on handlers do to a machine of the definition (02, W1). Rows are the places of the errors' names.
-- Assumes nothing.
use Rattle.std.specs.Prelude.{◌≡◌, List, ℕ, ◌≤◌, ◌<◌, get_or}
use Rattle.std.proofs.Math.Option.{Option, some}
use Rattle.std.proofs.Math.ListN.{get_elem?}
use Rattle.semantics.specs.Sizes.{error_count}
use Rattle.semantics.specs.Values.{Value, null}
use Rattle.semantics.specs.Errors.{error_names}
use Rattle.semantics.specs.Machine as Floo
use Rattle.semantics.specs.Machine.{pending, enter, lookup, assign, with_handlers, with_latest}
use Rattle.machine.specs.Places.{keys}
use Rattle.machine.specs.Rep.{Rep, Noted}
use Rattle.machine.specs.declared.Machine.{Machine}

-- The row of the error whose name has the slot k; the number of rows where no error has it.
pub record NamesRow (d : List ℕ) (k r : ℕ) : Type 0 where
  pub few : r ≤ error_count
  pub here : (m : Machine) (s e c l : List ℕ) (μ : Floo.Machine)
      → Rep m s e d c l μ
      → (n : List ℕ)
      → get_elem? (keys μ) k ≡ some n
      → r < error_count
      → get_elem? error_names r ≡ some n
  pub nowhere : (m : Machine) (s e c l : List ℕ) (μ : Floo.Machine)
      → Rep m s e d c l μ
      → (n : List ℕ)
      → get_elem? (keys μ) k ≡ some n
      → error_count ≤ r
      → (j : ℕ)
      → get_elem? error_names j ≡ some n
      → ⊥

-- The handler of the row j, whose error's name has the slot k, becomes a copy of item i.
pub record BindsHandler (j k i : ℕ) (m r : Machine) (s d d' c c' : List ℕ) : Type 0 where
  pub moves : (e l : List ℕ) (μ : Floo.Machine)
      → Rep m s e d c l μ
      → (n : List ℕ)
      → get_elem? (keys μ) k ≡ some n
      → get_elem? error_names j ≡ some n
      → Rep r s e d' c' l (with_handlers (assign n (get_or μ.stack i null) μ.handlers) μ)

-- The error of the row j has the handler v.
pub record HasHandler (j : ℕ) (n : List ℕ) (v : Value) (μ : Floo.Machine) : Type 0 where
  pub row : get_elem? error_names j ≡ some n
  pub value : lookup n μ.handlers ≡ some v

-- The words of execution slots, dictionary and cells stand for some machine in which the row has a handler.
abbrev pub HandledFrames : ℕ → Machine → List ℕ → List ℕ → List ℕ → Type 0
HandledFrames j m e d c =
    (s : List ℕ) × (l : List ℕ) × (μ : Floo.Machine) × (n : List ℕ) × (v : Value) × HasHandler j n v μ × Rep m s e d c l μ

-- A copy of the row's handler becomes pending.
pub record PendsHandler (j : ℕ) (m r : Machine) (e e' d c c' : List ℕ) : Type 0 where
  pub moves : (s l : List ℕ) (μ : Floo.Machine)
      → Rep m s e d c l μ
      → (n : List ℕ) (v : Value)
      → HasHandler j n v μ
      → Rep r s e' d c' l (enter (pending v) μ)

-- The names of the latest error, by their words.
pub record NotesNames (a b : ℕ) (d d' : List ℕ) : Type 0 where
  pub moves : (m : Machine) (s e c l : List ℕ) (μ : Floo.Machine) (x y : Option (List ℕ))
      → Rep m s e d c l μ
      → Noted (keys μ) x a
      → Noted (keys μ) y b
      → Rep m s e d' c l (with_latest (record { errorname = x; command = y }) μ)
