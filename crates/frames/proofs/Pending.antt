-- A value becomes pending by its words: the free place above the topmost execution slot takes it. So does a copy of that slot's value, a loop's body.
-- Assumes nothing.
use mathlib.Core.Path.{◌≡◌, refl, sym, ◌∙◌, subst}
use mathlib.Core.List.{List, ◌∷◌}
use Prim.Native.Nat.{ℕ, suc, ◌+◌, ◌*◌, ◌≤◌, ◌<◌}
use native.Mathlib.Omega.{arith}
use native.Mathlib.Numerals.{add-one}
use lib.ListN.{length}
use Rattle.semantics.specs.Values.{Value}
use Rattle.semantics.specs.Machine as Floo
use Rattle.semantics.specs.Machine.{pending, with_stack, with_exec, enter}
use Rattle.heap.specs.declared.Lists.{Lists}
use Rattle.machine.specs.Words.{frame_kind, frame_tag, frame_payload, frame_cell, frame_left, frame_final}
use Rattle.machine.specs.Places.{frame_value, roots}
use Rattle.machine.specs.Rep.{Rep, IsIn, FrameIs, a_pending, Frames, frame}
use Rattle.machine.specs.Recount.{Placed, Recounts}
use Rattle.machine.specs.declared.Machine.{Machine}
use Rattle.machine.proofs.Dropping.{nothing}
use Rattle.machine.proofs.Rerooting.{with_depths, placed, rerooted}
use Rattle.machine.proofs.Rooms.{frames_length}
use Rattle.machine.proofs.Roots.{exec_root, at_end}
use Rattle.machine.proofs.Regions.{front_at, exec_at}
use Rattle.machine.proofs.Tops.{words, top_value_lem}
use Rattle.machine.specs.FrameMoves.{top_value}
use Rattle.frames.proofs.Entering.{Put}
use Rattle.frames.proofs.Frames.{frames_frame}

module _ {m : Machine} {st e d c l : List ℕ} {μ : Floo.Machine} (R : Rep m st e d c l μ)
    {v : Value} {t p : ℕ} (named : IsIn R.world μ v t p) (room : 8 * m.frames + 8 ≤ length e) where
  used : length μ.exec ≡ m.frames
  used = frames_length R.frames

  free : IsIn R.world μ (roots μ (4 * m.frames + 1)) 0 0
  free =
      subst (λ v. IsIn R.world μ v 0 0)
      (sym (exec_root μ m.frames ∙ at_end frame_value μ.exec m.frames (omega (arith, used))))
      nothing

  above : 4 * m.frames + 1 < 2048
  above = omega (arith, R.rooms.exec_few)

  pub pend_placed : Placed m.lists c 0 0 t p
  pend_placed = placed R (4 * m.frames + 1) above free named

  pub pend_rep : {s' : Lists} {c' e' : List ℕ} {x y z : ℕ}
      → Recounts m.lists c 0 0 t p s' c'
      → Put e e' m.frames 0 t p x y z
      → Rep (with_depths m.depth (m.frames + 1) s' m) st e' d c' l (enter (pending v) μ)
  unfolding enter with_exec with_stack
  pend_rep {s'} {c'} {e'} K put =
      let n = m.frames in
      let at_top : FrameIs (IsIn R.world μ) R.world.ghost μ.store (pending v) (frame_kind e' n) (frame_tag e' n) (frame_payload e' n) (frame_cell e' n) (frame_left e' n) (frame_final e' n) =
      rw (put.kind_is, put.tag_is, put.pay_is, put.a_is, put.b_is, put.c_is) (a_pending named) in
      let frames = subst (λ x. Frames (IsIn R.world μ) R.world.ghost μ.store e' x (pending v ∷ μ.exec)) (sym (add-one n)) (frame at_top (frames_frame put.below R.frames)) in
      rerooted R (4 * n + 1) above free named K μ.stack (pending v ∷ μ.exec)
      (exec_at μ (with_exec (pending v ∷ μ.exec) μ) refl refl n v refl (front_at frame_value (pending v) μ.exec n v used refl))
      refl put.long R.rooms.stack_fits (omega arith) R.items frames

-- ---- a copy of the topmost slot's value

module _ {m : Machine} {st e d c l : List ℕ} {μ : Floo.Machine} (R : Rep m st e d c l μ) (k : ℕ) (h : m.frames ≡ suc k) {t p : ℕ} (t-is : t ≡ frame_tag e k) (p-is : p ≡ frame_payload e k) where
  pub body_is : IsIn R.world μ (top_value μ) t p
  body_is = subst (λ v. IsIn R.world μ v t p) (sym (top_value_lem R k h)) (rw (t-is, p-is) (words R k h))
