-- The topmost item of the stack goes into a new execution slot: no count changes, only which place names what.
-- Assumes nothing.
use mathlib.Core.Path.{◌≡◌, refl, sym, ◌∙◌, subst}
use mathlib.Core.List.{List, ◌∷◌}
use Prim.Native.Nat.{ℕ, suc, ◌+◌, ◌*◌, ◌≤◌, ◌<◌}
use native.Mathlib.Omega.{arith}
use native.Mathlib.Numerals.{add-one}
use lib.ListN.{length, get_or, drop}
use Rattle.semantics.specs.Values.{Value, null}
use Rattle.semantics.specs.Machine as Floo
use Rattle.semantics.specs.Machine.{with_stack, with_exec, enter, Frame}
use Rattle.heap.specs.Upd.{upd}
use Rattle.machine.specs.Words.{item_tag, item_payload, frame_kind, frame_tag, frame_payload, frame_cell, frame_left, frame_final}
use Rattle.machine.specs.Places.{frame_value, roots}
use Rattle.machine.specs.Rep.{Rep, IsIn, FrameIs, Frames, frame}
use Rattle.machine.specs.declared.Machine.{Machine}
use Rattle.machine.proofs.Dropping as Top
use Rattle.machine.proofs.Roots.{exec_root, roots_at, at_end}
use Rattle.machine.proofs.Rooms.{frames_length}
use Rattle.machine.proofs.Rerooting.{with_depths}
use Rattle.machine.proofs.Exchanging.{upd_alike, exchange_rep}
use Rattle.frames.specs.Moves.{Shaped, entered}
use Rattle.frames.proofs.Frames.{frames_frame, shaped, shaped_value}
use Rattle.machine.proofs.Regions.{front_at, exec_at}

-- A slot's words are put above the others.
pub record Put (e e' : List ℕ) (n kind t p a b c : ℕ) : Type 0 where
  pub long : length e' ≡ length e
  pub below : (k : ℕ) → k < 8 * n → get_or e' k 0 ≡ get_or e k 0
  pub kind_is : frame_kind e' n ≡ kind
  pub tag_is : frame_tag e' n ≡ t
  pub pay_is : frame_payload e' n ≡ p
  pub a_is : frame_cell e' n ≡ a
  pub b_is : frame_left e' n ≡ b
  pub c_is : frame_final e' n ≡ c

module _ {m : Machine} {st e d cs l : List ℕ} {μ : Floo.Machine} (R : Rep m st e d cs l μ) (k : ℕ) (h : m.depth ≡ suc k) where
  module _ {f : Value → Frame} {kind a b c : ℕ} (shape : Shaped f kind a b c) (room : 8 * m.frames + 8 ≤ length e)
      {e' : List ℕ} (put : Put e e' m.frames kind (item_tag st k) (item_payload st k) a b c) where
    few : m.frames < 512
    few = omega (arith, R.rooms.exec_few)

    slots_used : length μ.exec ≡ m.frames
    slots_used = frames_length R.frames

    abbrev after : Floo.Machine
    after = enter (f (Top.item R k h).value) (with_stack (Top.item R k h).rest μ)

    changed : (r : ℕ) → roots after r ≡ upd (upd (roots μ) (4 * k) (roots μ (4 * m.frames + 1))) (4 * m.frames + 1) (roots μ (4 * k)) r
    unfolding enter with_exec with_stack
    changed r =
        let first = with_stack (Top.item R k h).rest μ in
        let x = (Top.item R k h).value in
        let free : roots μ (4 * m.frames + 1) ≡ null = exec_root μ m.frames ∙ at_end frame_value μ.exec m.frames (omega (arith, slots_used)) in
        let slots = front_at frame_value (f x) μ.exec m.frames x slots_used (shaped_value shape x) in
        exec_at first after refl refl m.frames x refl slots r
        ∙ upd_alike (roots first) (upd (roots μ) (4 * k) null) (4 * m.frames + 1) x r
        (roots_at μ (Top.item R k h).rest k null (Top.others R k h) (Top.here R k h) r)
        ∙ rw (free, Top.held R k h) refl

    in_words : FrameIs (IsIn R.world μ) R.world.ghost μ.store (f (Top.item R k h).value)
        (frame_kind e' m.frames) (frame_tag e' m.frames) (frame_payload e' m.frames) (frame_cell e' m.frames) (frame_left e' m.frames) (frame_final e' m.frames)
    in_words = rw (put.kind_is, put.tag_is, put.pay_is, put.a_is, put.b_is, put.c_is) (shaped shape (Top.item R k h).words)

    all_frames : Frames (IsIn R.world μ) R.world.ghost μ.store e' (m.frames + 1) (f (Top.item R k h).value ∷ μ.exec)
    all_frames =
        subst (λ n. Frames (IsIn R.world μ) R.world.ghost μ.store e' n (f (Top.item R k h).value ∷ μ.exec)) (sym (add-one m.frames))
        (frame in_words (frames_frame put.below R.frames))

    pub enter_rep : Rep (with_depths k (m.frames + 1) m.lists m) st e' d cs l (entered f μ)
    unfolding entered enter with_exec with_stack
    enter_rep =
        let base : Rep (with_depths k (m.frames + 1) m.lists m) st e' d cs l after =
        exchange_rep R (4 * k) (4 * m.frames + 1) (omega (arith, R.rooms.stack_fits, R.rooms.stack_few)) (omega (arith, R.rooms.exec_few))
        (Top.item R k h).rest (f (Top.item R k h).value ∷ μ.exec) changed
        refl put.long (omega (arith, R.rooms.stack_fits)) (omega arith) (Top.item R k h).below all_frames in
        subst (λ s. Rep (with_depths k (m.frames + 1) m.lists m) st e' d cs l (enter (f (get_or s 0 null)) (with_stack (drop 1 s) μ))) (sym (Top.item R k h).split) base
