-- What the primitives on execution slots do to a machine of the definition.
-- Assumes nothing.
use Rattle.std.specs.Prelude.{◌≡◌, List, ◌∷◌, ℕ, suc, ◌+◌, ◌-◌, ◌*◌, get_or, drop, set, true}
use Rattle.semantics.specs.Values.{Value, null, array}
use Rattle.store.specs.Rep.{element}
use Rattle.semantics.specs.Words.{signed}
use Rattle.semantics.specs.Machine as Floo
use Rattle.semantics.specs.Machine.{Frame, pending, running, looping, repeating, counting, with_stack, with_exec, push, enter}
use Rattle.machine.specs.Words.{frame_tag, frame_payload, frame_final}
use Rattle.machine.specs.Places.{frame_value}
use Rattle.machine.specs.Rep.{Rep, IsIn, FrameIs}
use Rattle.machine.specs.FrameMoves.{top_frame, top_value}
use Rattle.machine.specs.declared.Machine.{Machine}

-- The kind and the three numbers of an execution slot for a value.
pub data Shaped : (Value → Frame) → ℕ → ℕ → ℕ → ℕ → Type 0 where
  a_pending : {a b c : ℕ} → Shaped pending 0 a b c
  a_loop : {a b c : ℕ} → Shaped looping 2 a b c
  a_repeat : {n b c : ℕ} → Shaped (repeating n) 3 n b c
  a_for : {n i f : ℕ} → Shaped (counting (signed n) i f) 4 n i f

-- The topmost item of the stack goes into a new execution slot.
unfoldable pub entered : (Value → Frame) → Floo.Machine → Floo.Machine
entered f μ = enter (f (get_or μ.stack 0 null)) (with_stack (drop 1 μ.stack) μ)

-- A copy of the topmost slot's value becomes pending.
unfoldable pub body_pended : Floo.Machine → Floo.Machine
body_pended μ = enter (pending (top_value μ)) μ

-- The topmost slot gives way to this one.
unfoldable pub reset_top : Frame → Floo.Machine → Floo.Machine
reset_top f μ = with_exec (f ∷ drop 1 μ.exec) μ

-- Element k of the array i is pushed.
unfoldable pub element_pushed : ℕ → ℕ → Floo.Machine → Floo.Machine
element_pushed i k μ = push (element μ.store i k) μ

-- A primitive that touches the execution slots' words alone and reads the stack's: it puts the topmost item into a slot of this kind.
pub record Enters (kind a b c : ℕ) (m r : Machine) (s e e' : List ℕ) : Type 0 where
  pub moves : {f : Value → Frame}
      → Shaped f kind a b c
      → (d cs l : List ℕ) (μ : Floo.Machine)
      → Rep m s e d cs l μ
      → Rep r s e' d cs l (entered f μ)

-- The words of execution slots and cells stand for some machine, in which the words t and p are a value.
abbrev pub HeldFrames : ℕ → ℕ → Machine → List ℕ → List ℕ → Type 0
HeldFrames t p m e c =
    (s : List ℕ) × (d : List ℕ) × (l : List ℕ) × (μ : Floo.Machine) × (R : Rep m s e d c l μ) × (v : Value) × IsIn R.world μ v t p

-- A copy of the value becomes pending.
pub record Pends (t p : ℕ) (m r : Machine) (e e' c c' : List ℕ) : Type 0 where
  pub moves : (s d l : List ℕ) (μ : Floo.Machine) (R : Rep m s e d c l μ) (v : Value)
      → IsIn R.world μ v t p
      → Rep r s e' d c' l (enter (pending v) μ)

-- The words of stack, execution slots and cells stand for some machine.
abbrev pub SomewhereAll : Machine → List ℕ → List ℕ → List ℕ → Type 0
SomewhereAll m s e c = (d : List ℕ) × (l : List ℕ) × (μ : Floo.Machine) × Rep m s e d c l μ

-- The topmost slot takes this kind and these numbers and keeps its value: it is then each frame of that value that its words are.
pub record Resets (kind a b : ℕ) (m : Machine) (e e' : List ℕ) : Type 0 where
  pub moves : (s d c l : List ℕ) (μ : Floo.Machine) (R : Rep m s e d c l μ) (f : Frame)
      → frame_value f ≡ top_value μ
      → FrameIs (IsIn R.world μ) R.world.ghost μ.store f kind (frame_tag e (m.frames - 1)) (frame_payload e (m.frames - 1)) a b (frame_final e (m.frames - 1))
      → Rep m s e' d c l (reset_top f μ)

-- Its words then.
abbrev pub reset_words : ℕ → ℕ → ℕ → Machine → List ℕ → List ℕ
reset_words kind a b m e = set (set (set e (8 * (m.frames - 1)) kind) (8 * (m.frames - 1) + 3) a) (8 * (m.frames - 1) + 4) b

-- The topmost slot, which runs a procedure, has other numbers and nothing else has changed.
abbrev pub Turned : Machine → List ℕ → List ℕ → Type 0
Turned m e e' = (a : ℕ) × (b : ℕ) × (e' ≡ reset_words 1 a b m e)

-- The procedure in the topmost slot starts to run.
pub record Starts (m : Machine) (e e' c : List ℕ) : Type 0 where
  pub moves : (s d l : List ℕ) (μ : Floo.Machine) → Rep m s e d c l μ → (i : ℕ) → top_value μ ≡ array true i → Rep m s e' d c l (reset_top (running i 0) μ)

-- The procedure that runs in the topmost slot goes on.
pub record Advances (m : Machine) (e e' c : List ℕ) : Type 0 where
  pub moves : (s d l : List ℕ) (μ : Floo.Machine)
      → Rep m s e d c l μ
      → (i k : ℕ)
      → top_frame μ ≡ running i k
      → Rep m s e' d c l (reset_top (running i (suc k)) μ)

-- Its next element is pushed.
pub record PushesElement (m r : Machine) (s s' e c c' : List ℕ) : Type 0 where
  pub moves : (d l : List ℕ) (μ : Floo.Machine)
      → Rep m s e d c l μ
      → (i k : ℕ)
      → top_frame μ ≡ running i k
      → Rep r s' e d c' l (element_pushed i k μ)
