-- The whole list of a run's steps (01, Room): "Demand 3 is a single claim about a run's whole list of steps, not one for each step. The list begins at that
-- start; each step gets what the last one left."
-- Assumes nothing.
use Rattle.std.specs.Prelude.{◌≡◌, List, [], ◌∷◌, ◌++◌, ℕ, ◌+◌, ◌≤◌, length, drop}
use Rattle.semantics.specs.Sizes.{script_most, fuel_most}
use Rattle.semantics.specs.Machine as Floo
use Rattle.semantics.specs.Steps as steps
use Rattle.semantics.specs.Steps.{Limits, run}
use Rattle.ending.specs.Endings.{ending_of, IsEnding}
use Rattle.ending.specs.declared.Ending.{Ending}
use Rattle.machine.specs.Places.{keys}
use Rattle.machine.specs.Rep.{Rep}
use Rattle.machine.specs.Room.{lent}
use Rattle.exactness.specs.Shown.{Snapshot, Shows}
use Rattle.exactness.specs.Traces.{trace, Along}
use Rattle.step.specs.Stepping.{state_of, Steps}
use Rattle.step.specs.declared.State.{State}
use Rattle.step.specs.declared.Stepped.{Stepped}
use Rattle.step.specs.declared.Stepped.TheVariants.{Goes, Fails, Misreads}

-- ---- moments

-- The runner between two steps: its state, and the words and bytes of the lent buffers.
pub record Moment : Type 0 where
  pub state : State
  pub stack : List ℕ
  pub exec : List ℕ
  pub dict : List ℕ
  pub cells : List ℕ
  pub log : List ℕ

abbrev pub snapshot : Moment → Snapshot
snapshot x = record { machine = x.state.machine; stack = x.stack; exec = x.exec; dict = x.dict; cells = x.cells; log = x.log }

abbrev pub limits_of : Moment → Limits
limits_of x = lent x.stack x.exec x.dict x.cells x.log

-- The state that a step left.
abbrev pub left_by : Stepped → State
left_by (Goes τ) = τ
left_by (Fails τ e command) = τ
left_by (Misreads τ command f) = τ

-- A step of the runner leads from x to y, with the room that is lent.
pub record Leads (script : List ℕ) (x y : Moment) : Type 0 where
  pub answer : Stepped
  pub steps : Steps script x.state x.stack y.stack x.exec y.exec x.dict y.dict x.cells y.cells x.log y.log answer
  pub left : left_by answer ≡ y.state
  pub room : limits_of y ≡ limits_of x

-- The list of moments from the first to the last: each step gets what the last one left.
pub data Chain (script : List ℕ) (first : Moment) : List Moment → Moment → Type 0 where
  start : Chain script first (first ∷ []) first
  then : {xs : List Moment} {x y : Moment} → Chain script first xs x → Leads script x y → Chain script first (xs ++ (y ∷ [])) y

-- A moment is exact for a state of the definition: the same offsets and count of steps, words that stand for its machine, and that show what is held.
pub record Exactly (x : Moment) (σ : steps.State) : Type 0 where
  pub next : x.state.next ≡ σ.next
  pub at : x.state.at ≡ σ.at
  pub steps : x.state.steps ≡ σ.steps
  pub stands : Rep x.state.machine x.stack x.exec x.dict x.cells x.log σ.machine
  pub shows : Shows σ.machine (snapshot x)

-- The moments of a run from σ₀ on, for as many states of the definition's run, each exact.
pub record History (script : List ℕ) (fuel : ℕ) (σ₀ : steps.State) (first last : Moment) : Type 0 where
  pub moments : List Moment
  pub chain : Chain script first moments last
  pub exact : Along Exactly moments (trace (limits_of first) script fuel σ₀)

-- ---- the run

abbrev pub moment : State → List ℕ → List ℕ → List ℕ → List ℕ → List ℕ → Moment
moment σ s e d c l = record { state = σ; stack = s; exec = e; dict = d; cells = c; log = l }

-- A run may begin with any state whose words stand for a machine.
pub record Begun (script : List ℕ) (fuel : ℕ) (st : State) (s e d c l : List ℕ) : Type 0 where
  pub short : length script ≤ script_most
  pub fueled : st.steps + fuel ≤ fuel_most
  pub inside : st.next ≤ length script
  pub within : st.at ≤ length script
  pub machine : (μ : Floo.Machine) × Rep st.machine s e d c l μ

-- How the run from the machine μ ended: the definition's run, the words that stand for its last machine, its history, and the log past what is written, as it
-- was.
pub record EndsFrom (script : List ℕ) (fuel : ℕ) (st : State) (μ : Floo.Machine) (s s' e e' d d' c c' l l' : List ℕ) (τ : State) (ending : Ending) : Type 0 where
  pub machine : Floo.Machine
  pub rep : Rep τ.machine s' e' d' c' l' machine
  pub named : IsEnding script (keys machine) ending
  pub runs : run (lent s e d c l) script fuel (state_of st μ) ≡ record { ending = ending_of script (keys machine) ending; final = state_of τ machine }
  pub within : τ.at ≤ length script
  pub last : State
  pub same : (last.machine ≡ τ.machine) × (last.steps ≡ τ.steps)
  pub history : History script fuel (state_of st μ) (moment st s e d c l) (moment last s' e' d' c' l')
  pub rest : drop τ.machine.written l' ≡ drop τ.machine.written l

-- It ended so from every machine that the first words stand for.
pub record Ends (script : List ℕ) (fuel : ℕ) (st : State) (s s' e e' d d' c c' l l' : List ℕ) (τ : State) (ending : Ending) : Type 0 where
  pub ends : (μ : Floo.Machine) → Rep st.machine s e d c l μ → EndsFrom script fuel st μ s s' e e' d d' c c' l l' τ ending
