-- A run so far, and the steps of it up to an error that is still to be handed over (02, W1).
-- Assumes nothing.
use Rattle.std.specs.Prelude.{◌≡◌, false, List, [], ◌∷◌, ◌++◌, ℕ, ◌+◌, ◌-◌, ◌≤◌, ◌<◌, length, drop}
use Rattle.semantics.specs.Sizes.{script_most, fuel_most}
use Rattle.semantics.specs.Machine as Floo
use Rattle.semantics.specs.Steps as steps
use Rattle.semantics.specs.declared.Error.{Error}
use Rattle.ending.specs.declared.Command.{Command}
use Rattle.ending.specs.declared.Ending.{Ending}
use Rattle.ending.specs.declared.Ending.TheVariants.{Finished, Stopped, OutOfFuel, Failed, Misread}
use Rattle.machine.specs.Rep.{Rep}
use Rattle.exactness.specs.Traces.{Along}
use Rattle.exactness.proofs.Reaching.{Reached}
use Rattle.step.specs.Stepping as Stepping
use Rattle.step.specs.Stepping.{state_of, Tries}
use Rattle.step.specs.declared.State.{State}
use Rattle.step.specs.declared.Stepped.TheVariants.{Fails}
use Rattle.run_loop.specs.History.{Moment, moment, limits_of, Chain, Exactly, Ends}

-- ---- the run so far

-- The run so far, from one machine that the first words stand for.
pub record RunningFrom (script : List ℕ) (fuel : ℕ) (μ₀ : Floo.Machine) (first here : Moment) (left : ℕ) : Type 0 where
  pub machine : Floo.Machine
  pub rep : Rep here.state.machine here.stack here.exec here.dict here.cells here.log machine
  pub before : List steps.State
  pub reached : Reached (limits_of first) script fuel (state_of first.state μ₀) before left (state_of here.state machine)
  pub moments : List Moment
  pub chain : Chain script first moments here
  pub exact : Along Exactly moments (before ++ (state_of here.state machine ∷ []))
  pub rest : drop here.state.machine.written here.log ≡ drop here.state.machine.written first.log

-- There is such a machine, and the run so far is from each.
pub record Running (script : List ℕ) (fuel : ℕ) (first here : Moment) (left : ℕ) : Type 0 where
  pub short : length script ≤ script_most
  pub fueled : first.state.steps + fuel ≤ fuel_most
  pub inside : here.state.next ≤ length script
  pub within : here.state.at ≤ length script
  pub count : here.state.steps + left ≡ first.state.steps + fuel
  pub ls : length here.stack ≡ length first.stack
  pub le : length here.exec ≡ length first.exec
  pub ld : length here.dict ≡ length first.dict
  pub lc : length here.cells ≡ length first.cells
  pub ll : length here.log ≡ length first.log
  pub some : (μ : Floo.Machine) × Rep first.state.machine first.stack first.exec first.dict first.cells first.log μ
  pub from : (μ : Floo.Machine) → Rep first.state.machine first.stack first.exec first.dict first.cells first.log μ → RunningFrom script fuel μ first here left

-- ---- up to an error

-- The step after the run so far has failed, and its error is still to be handed over.
pub record Fell (script : List ℕ) (fuel from : ℕ) (first : Moment) (s' e' d' c' l' : List ℕ) (τ : State) (x : Error) (command : Command) : Type 0 where
  pub here : Moment
  pub left : ℕ
  pub running : Running script fuel first here left
  pub later : from ≤ here.state.steps
  pub some_left : 0 < left
  pub more : Stepping.Finished script here.state false
  pub tries : Tries script here.state here.stack s' here.exec e' here.dict d' here.cells c' here.log l' (Fails τ x command)
  pub ls : length s' ≡ length here.stack
  pub le : length e' ≡ length here.exec
  pub ld : length d' ≡ length here.dict
  pub lc : length c' ≡ length here.cells
  pub ll : length l' ≡ length here.log

-- The run ended so, or its last step failed.
abbrev pub HaltsAs : List ℕ → ℕ → ℕ → Moment → List ℕ → List ℕ → List ℕ → List ℕ → List ℕ → State → Ending → Type 0
HaltsAs script fuel from first s' e' d' c' l' τ Finished = Ends script fuel first.state first.stack s' first.exec e' first.dict d' first.cells c' first.log l' τ Finished
HaltsAs script fuel from first s' e' d' c' l' τ Stopped = Ends script fuel first.state first.stack s' first.exec e' first.dict d' first.cells c' first.log l' τ Stopped
HaltsAs script fuel from first s' e' d' c' l' τ OutOfFuel = Ends script fuel first.state first.stack s' first.exec e' first.dict d' first.cells c' first.log l' τ OutOfFuel
HaltsAs script fuel from first s' e' d' c' l' τ (Failed x command) = Fell script fuel from first s' e' d' c' l' τ x command
HaltsAs script fuel from first s' e' d' c' l' τ (Misread f) = Ends script fuel first.state first.stack s' first.exec e' first.dict d' first.cells c' first.log l' τ (Misread f)

-- Some run has come this far, and may go on to this count of steps.
abbrev pub MayHalt : List ℕ → ℕ → State → List ℕ → List ℕ → List ℕ → List ℕ → List ℕ → Type 0
MayHalt script limit st s e d c l =
    (fuel : ℕ) × (first : Moment) × (first.state.steps + fuel ≡ limit) × Running script fuel first (moment st s e d c l) (limit - st.steps)

-- Every run that had come so far comes to this.
pub record Halts (script : List ℕ) (limit : ℕ) (st : State) (s s' e e' d d' c c' l l' : List ℕ) (τ : State) (ending : Ending) : Type 0 where
  pub halts : (fuel : ℕ) (first : Moment)
      → first.state.steps + fuel ≡ limit
      → Running script fuel first (moment st s e d c l) (limit - st.steps)
      → HaltsAs script fuel st.steps first s' e' d' c' l' τ ending
