-- The definition's whole list of states of a run (01, Room): "Demand 3 is a single claim about a run's whole list of steps, not one for each step. The list
-- begins at that start; each step gets what the last one left."
-- Assumes nothing.
use Rattle.std.specs.Prelude.{true, false, List, [], ◌∷◌, ℕ, zero, suc}
use Rattle.semantics.specs.Steps.{Limits, State, Step, goes, fails, misreads, step, is_finished}

-- The state that a step leaves.
abbrev pub leaves : Step → State
leaves (goes τ) = τ
leaves (fails e c τ) = τ
leaves (misreads f τ) = τ

-- The states from a step on, given those of the rest. A step that ends the run is the last; one whose error is handled goes on (02, W1).
unfoldable pub trace_on : (State → List State) → Step → List State
trace_on rest (fails e c τ) = τ ∷ []
trace_on rest (misreads f τ) = τ ∷ []
trace_on rest (goes τ) = elim τ.machine.stopped [ true ↦ τ ∷ [] | false ↦ rest τ ]

-- The state at the start, then the state after each step that `run` makes.
unfoldable pub trace : Limits → List ℕ → ℕ → State → List State
trace l script zero σ = σ ∷ []
trace l script (suc fuel) σ =
    elim (is_finished script σ) [ true ↦ σ ∷ [] | false ↦ σ ∷ trace_on (trace l script fuel) (step l script σ) ]

-- ---- lists

-- The last of a list, and x where there is none.
unfoldable pub last : {A : Type 0} → A → List A → A
last x [] = x
last x (y ∷ l) = last y l

-- Two lists of one length, each element of the one with P to that of the other.
pub data Along {A B : Type 0} (P : A → B → Type 0) : List A → List B → Type 0 where
  nil : Along P [] []
  cons : {x : A} {y : B} {xs : List A} {ys : List B} → P x y → Along P xs ys → Along P (x ∷ xs) (y ∷ ys)
