-- The words of execution slots: what stores above them leave, and a slot put on top.
-- Assumes nothing.
use mathlib.Core.Path.{◌≡◌, refl}
use mathlib.Core.List.{List}
use Prim.Native.Nat.{ℕ, ◌+◌, ◌*◌, ◌<◌}
use native.Mathlib.Omega.{arith}
use lib.ListN.{get_or}
use Rattle.semantics.specs.Values.{Value, Object}
use Rattle.semantics.specs.Machine.{Frame}
use Rattle.heap.specs.Shape.{Ghost}
use Rattle.machine.specs.Words.{frame_kind, frame_tag, frame_payload, frame_cell, frame_left, frame_final}
use Rattle.machine.specs.Rep.{FrameIs, a_pending, a_looping, a_repeating, a_counting, Frames, frame}
use Rattle.machine.specs.Places.{frame_value}
use Rattle.frames.specs.Moves as Moves
use Rattle.frames.specs.Moves.{Shaped}

module _ {A : Value → ℕ → ℕ → Type 0} {g : Ghost} {store : List Object} where
  pub frames_frame : {words other : List ℕ} {n : ℕ} {fs : List Frame}
      → ((k : ℕ) → k < 8 * n → get_or other k 0 ≡ get_or words k 0)
      → Frames A g store words n fs
      → Frames A g store other n fs
  frames_frame f Frames.bottom = Frames.bottom
  frames_frame {other} f (frame {n = n} {f = fr} h r) =
      let words : FrameIs A g store fr (frame_kind other n) (frame_tag other n) (frame_payload other n) (frame_cell other n) (frame_left other n) (frame_final other n) =
      rw (f (8 * n) (omega arith), f (8 * n + 1) (omega arith), f (8 * n + 2) (omega arith), f (8 * n + 3) (omega arith), f (8 * n + 4) (omega arith), f (8 * n + 5) (omega arith)) h in
      frame words (frames_frame (λ k l. f k (omega arith)) r)

  -- A shape with a value's words is a slot.
  pub shaped : {f : Value → Frame} {kind a b c : ℕ} → Shaped f kind a b c → {v : Value} {t p : ℕ} → A v t p → FrameIs A g store (f v) kind t p a b c
  shaped Moves.a_pending h = a_pending h
  shaped Moves.a_loop h = a_looping h
  shaped Moves.a_repeat h = a_repeating h
  shaped Moves.a_for h = a_counting h refl

pub shaped_value : {f : Value → Frame} {kind a b c : ℕ} → Shaped f kind a b c → (v : Value) → frame_value (f v) ≡ v
shaped_value Moves.a_pending v = refl
shaped_value Moves.a_loop v = refl
shaped_value Moves.a_repeat v = refl
shaped_value Moves.a_for v = refl
