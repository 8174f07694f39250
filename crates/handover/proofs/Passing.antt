-- What failed counts as taken, by the kind of the topmost slot; and whether a slot is free then.
-- Assumes nothing.
use mathlib.Core.Path.{◌≡◌, refl, sym, ap, ◌∙◌, subst}
use mathlib.Core.Bool.{true}
use mathlib.Core.List.{List, [], ◌∷◌}
use mathlib.Core.Logic.{⊎_elim}
use Prim.Native.Nat.{ℕ, suc, ◌+◌, ◌-◌, ◌*◌, ◌/◌, ◌≤◌, ◌<◌}
use native.Mathlib.Omega.{arith}
use borrow.Author.Tests.{le-leb, lt-leb}
use lib.Dec.{leb}
use lib.IntN.{◌+ℤ◌}
use lib.ListN.{length, get_or, drop, length-drop}
use Rattle.semantics.specs.Words.{signed}
use Rattle.semantics.specs.Values.{Value, Object, null, ok, fault, ◌>>=◌}
use Rattle.semantics.specs.Machine as Floo
use Rattle.semantics.specs.Machine.{Frame, pending, running, looping, repeating, counting, with_exec}
use Rattle.semantics.specs.Steps.{passed, following, room_for}
use Rattle.semantics.specs.declared.Error.{Error}
use Rattle.heap.specs.Shape.{Ghost}
use Rattle.heap.proofs.Since.{lt_or_le}
use Rattle.machine.specs.Words.{frame_kind, frame_left, frame_next, frame_increment, frame_final}
use Rattle.machine.specs.Rep.{Rep, FrameIs, a_pending, a_running, a_looping, a_repeating, a_counting, a_past, Frames, bottom, frame}
use Rattle.machine.specs.declared.Machine.{Machine}
use Rattle.machine.specs.FrameMoves.{frame_dropped, MovesFrames}
use Rattle.machine.specs.Room.{lent, fitted}
use Rattle.machine.proofs.Rooms.{frames_length, stack_fits, exec_fits, dictionary_fits, log_fits, room_passes}
use Rattle.machine.proofs.Tops.{slot}
use Rattle.frames.specs.Moves.{reset_top, Resets, Advances}
use Rattle.frames.proofs.Running.{run_at}
use Rattle.turns.proofs.Resuming.{is_loop, is_repeat, is_for, own_exec, top_value_is, dropped_is, past_ended}
use Rattle.turns.specs.Turns.{resumed}
use Rattle.turns.proofs.Procedures.{is_pending_lem, run_ended}
use Rattle.turns.proofs.Looping.{Counted, repeat_reset, for_reset}
use Rattle.handover.specs.Handover.{left_of, passed_top, Passable, HasSlot}

-- ---- kinds

module _ {A : Value → ℕ → ℕ → Type 0} {g : Ghost} {store : List Object} where
  -- Of no kind but 0 a slot stays.
  stays : {f : Frame} {kind t p a b c : ℕ} → FrameIs A g store f kind t p a b c → (kind ≡ 0 → ⊥) → (fs : List Frame) → length (passed f fs) ≡ suc (length fs)
  unfolding passed
  stays (a_pending h) q fs = absurd (q refl)
  stays (a_running h x y) q fs = refl
  stays (a_looping h) q fs = refl
  stays (a_repeating h) q fs = refl
  stays (a_counting h e) q fs = refl
  stays (a_past h e o b) q fs = refl

  -- What is none of the others is a loop, or past its end.
  loops : {f : Frame} {kind t p a b c : ℕ} → FrameIs A g store f kind t p a b c → (kind ≡ 0 → ⊥) → (kind ≡ 1 → ⊥) → (kind ≡ 3 → ⊥) → (kind ≡ 4 → ⊥) → (kind ≡ 5 → ⊥) → kind ≡ 2
  loops (a_pending h) x y z w u = absurd (x refl)
  loops (a_running h i j) x y z w u = absurd (y refl)
  loops (a_looping h) x y z w u = refl
  loops (a_repeating h) x y z w u = absurd (z refl)
  loops (a_counting h e) x y z w u = absurd (w refl)
  loops (a_past h e o b) x y z w u = absurd (u refl)

-- ---- the machine then

no_frames : {A : Value → ℕ → ℕ → Type 0} {g : Ghost} {store : List Object} {words : List ℕ} {n : ℕ} {fs : List Frame} → Frames A g store words n fs → n ≡ 0 → fs ≡ []
no_frames bottom q = refl
no_frames (frame h f) q = absurd (omega arith)

pub exec_empty : {m : Machine} {s e d c l : List ℕ} {μ : Floo.Machine} → Rep m s e d c l μ → m.frames ≡ 0 → μ.exec ≡ []
exec_empty R q = no_frames R.frames q

passed_is : (μ : Floo.Machine) {f : Frame} {fs : List Frame} → μ.exec ≡ f ∷ fs → with_exec (passed f fs) μ ≡ passed_top μ
unfolding passed_top
passed_is μ split = ap (λ fs. with_exec (left_of fs) μ) (sym split)

pub pass_none : {m : Machine} {e c : List ℕ} → m.frames ≡ 0 → MovesFrames passed_top m m e e c c
unfolding passed_top
pass_none {m} {e} {c} q =
    record {
      moves = λ s d l μ R.
          let none = exec_empty R q in
          subst (λ ν. Rep m s e d c l ν) (sym (ap (λ fs. with_exec (left_of fs) μ) none ∙ own_exec μ none)) R;
    }

abbrev top : Machine → ℕ
top m = m.frames - 1

one_less : (m : Machine) → (m.frames ≡ 0 → ⊥) → m.frames ≡ suc (top m)
one_less m some = omega (arith, some)

module _ {m : Machine} {e c : List ℕ} (some : (m.frames ≡ 0) → ⊥) where
  -- The slot's frame, by what its words say.
  at : {s d l : List ℕ} {μ : Floo.Machine} (R : Rep m s e d c l μ) {f : Frame} → (slot R (top m) (one_less m some)).top ≡ f → μ.exec ≡ f ∷ (slot R (top m) (one_less m some)).rest
  at R q = (slot R (top m) (one_less m some)).split ∙ ap (λ f. f ∷ (slot R (top m) (one_less m some)).rest) q

  pub pass_pending : {r : Machine} {c' : List ℕ} → frame_kind e (top m) ≡ 0 → MovesFrames frame_dropped m r e e c c' → MovesFrames passed_top m r e e c c'
  unfolding passed
  pass_pending {r} {c'} q M =
      record {
        moves = λ s d l μ R.
            let w = is_pending_lem (slot R (top m) (one_less m some)).words q in
            let split = at R w.1 in
            subst (λ ν. Rep r s e d c' l ν) (dropped_is μ split ∙ passed_is μ split) (M.moves s d l μ R);
      }

  pub pass_running : {e' : List ℕ} → frame_kind e (top m) ≡ 1 → Advances m e e' c → MovesFrames passed_top m m e e' c c
  unfolding passed reset_top
  pass_running {e'} q A =
      record {
        moves = λ s d l μ R.
            let w = run_at R (top m) (one_less m some) q in
            let split = at R (sym (ap (λ fs. get_or fs 0 (pending null)) (slot R (top m) (one_less m some)).split) ∙ w.2) in
            subst (λ ν. Rep m s e' d c l ν) (ap (λ fs. with_exec (running w.0 (suc w.1) ∷ drop 1 fs) μ) split ∙ passed_is μ split) (A.moves s d l μ R w.0 w.1 w.2);
      }

  pub pass_looping : frame_kind e (top m) ≡ 2 → MovesFrames passed_top m m e e c c
  unfolding passed
  pass_looping q =
      record {
        moves = λ s d l μ R.
            let w = is_loop (slot R (top m) (one_less m some)).words q in
            let split = at R w.1 in
            subst (λ ν. Rep m s e d c l ν) (sym (own_exec μ split) ∙ passed_is μ split) R;
      }

  -- A slot that none of the tests found.
  pub pass_other : Passable m e → (frame_kind e (top m) ≡ 0 → ⊥) → (frame_kind e (top m) ≡ 1 → ⊥) → (frame_kind e (top m) ≡ 3 → ⊥) → (frame_kind e (top m) ≡ 4 → ⊥) → MovesFrames passed_top m m e e c c
  pass_other P x y z w =
      record { moves = λ s d l μ R. (pass_looping (loops (slot R (top m) (one_less m some)).words x y z w (P.counting (top m) (one_less m some)))).moves s d l μ R }

  pub pass_repeating_none : frame_kind e (top m) ≡ 3 → frame_next e (top m) ≡ 0 → MovesFrames passed_top m m e e c c
  unfolding passed
  pass_repeating_none q z =
      record {
        moves = λ s d l μ R.
            let w = is_repeat (slot R (top m) (one_less m some)).words q in
            let split = at R (w.1 ∙ ap (λ n. repeating n w.0) z) in
            subst (λ ν. Rep m s e d c l ν) (sym (own_exec μ split) ∙ passed_is μ split) R;
      }

  pub pass_repeating : {e' : List ℕ} {b : ℕ} → frame_kind e (top m) ≡ 3 → Resets 3 (frame_next e (top m) - 1) b m e e' → MovesFrames passed_top m m e e' c c
  unfolding passed reset_top
  pass_repeating {e'} q E =
      record {
        moves = λ s d l μ R.
            let w = is_repeat (slot R (top m) (one_less m some)).words q in
            let split = at R w.1 in
            let n = frame_next e (top m) - 1 in
            let made = ap (λ v. with_exec (repeating n v ∷ drop 1 μ.exec) μ) (top_value_is μ split) ∙ ap (λ fs. with_exec (repeating n w.0 ∷ drop 1 fs) μ) split in
            subst (λ ν. Rep m s e' d c l ν) (made ∙ passed_is μ split) (repeat_reset (omega (arith, some)) E s d c l μ R);
      }

  pub pass_counting : {e' : List ℕ} {kind a : ℕ}
      → frame_kind e (top m) ≡ 4
      → Counted kind a (frame_increment e (top m)) (frame_final e (top m)) (signed (frame_next e (top m)) +ℤ signed (frame_increment e (top m)))
      → Resets kind a (frame_increment e (top m)) m e e'
      → MovesFrames passed_top m m e e' c c
  unfolding passed reset_top following
  pass_counting {e'} q C E =
      record {
        moves = λ s d l μ R.
            let w = is_for (slot R (top m) (one_less m some)).words q in
            let split = at R w.1 in
            let f : Value → Frame = λ v. counting (signed (frame_next e (top m)) +ℤ signed (frame_increment e (top m))) (frame_increment e (top m)) (frame_final e (top m)) v in
            let made = ap (λ v. with_exec (f v ∷ drop 1 μ.exec) μ) (top_value_is μ split) ∙ ap (λ fs. with_exec (f w.0 ∷ drop 1 fs) μ) split in
            subst (λ ν. Rep m s e' d c l ν) (made ∙ passed_is μ split) (for_reset (omega (arith, some)) C E s d c l μ R);
      }

-- ---- the slot for the handler

by_eight : (n x : ℕ) → leb (8 * n + 8) x ≡ leb (n + 1) (x / 8)
by_eight n x =
    ⊎_elim
    (λ (l : x < 8 * n + 8). lt-leb (8 * n + 8) x l ∙ sym (lt-leb (n + 1) (x / 8) (omega arith)))
    (λ (l : 8 * n + 8 ≤ x). le-leb (8 * n + 8) x l ∙ sym (le-leb (n + 1) (x / 8) (omega arith)))
    (lt_or_le x (8 * n + 8))

pub slot_first : {m : Machine} {e : List ℕ} → m.frames ≡ 0 → HasSlot m e (leb 8 (length e))
slot_first {m} {e} q = record { says = λ s d c l μ R. by_eight 0 (length e) ∙ ap (λ fs. leb (suc (length (left_of fs))) (length e / 8)) (sym (exec_empty R q)) }

module _ {m : Machine} {e : List ℕ} (some : (m.frames ≡ 0) → ⊥) where
  left_length : {s d c l : List ℕ} {μ : Floo.Machine} (R : Rep m s e d c l μ) → length (slot R (m.frames - 1) (omega (arith, some))).rest ≡ m.frames - 1
  left_length R = frames_length (slot R (m.frames - 1) (omega (arith, some))).below

  pub slot_pending : frame_kind e (m.frames - 1) ≡ 0 → HasSlot m e true
  unfolding passed
  slot_pending q =
      record {
        says = λ s d c l μ R.
            let h : m.frames ≡ suc (m.frames - 1) = omega (arith, some) in
            let w = is_pending_lem (slot R (m.frames - 1) h).words q in
            let split = (slot R (m.frames - 1) h).split ∙ ap (λ f. f ∷ (slot R (m.frames - 1) h).rest) w.1 in
            let room : suc (length (slot R (m.frames - 1) h).rest) ≤ length e / 8 = omega (arith, left_length R, R.rooms.exec_fits) in
            sym (ap (λ fs. leb (suc (length (left_of fs))) (length e / 8)) split ∙ le-leb _ _ room);
      }

  pub slot_other : (frame_kind e (m.frames - 1) ≡ 0 → ⊥) → HasSlot m e (leb (8 * m.frames + 8) (length e))
  slot_other q =
      record {
        says = λ s d c l μ R.
            let h : m.frames ≡ suc (m.frames - 1) = omega (arith, some) in
            let S = slot R (m.frames - 1) h in
            let long : suc (length (left_of μ.exec)) ≡ m.frames + 1 = ap (λ fs. suc (length (left_of fs))) S.split ∙ ap suc (stays S.words q S.rest) ∙ omega (arith, left_length R, h) in
            by_eight m.frames (length e) ∙ ap (λ n. leb n (length e / 8)) (sym long);
      }

-- With no slot, nothing of it can stand in the way.
pub no_slot : {m : Machine} {e : List ℕ} → m.frames ≡ 0 → Passable m e
no_slot q = record { running = λ k h. absurd (omega (arith, q)); counting = λ k h. absurd (omega (arith, q)) }

-- A step that fails is none that drops its slot: there is always room for that.
module _ {m : Machine} {s e d c l : List ℕ} {μ : Floo.Machine} (R : Rep m s e d c l μ) {x : Error} (fell : fitted (lent s e d c l) resumed μ ≡ fault x) where
  no_drop : resumed μ ≡ ok (frame_dropped μ) → ⊥
  unfolding fitted ◌>>=◌ lent frame_dropped with_exec
  no_drop q =
      let fits : length (drop 1 μ.exec) ≤ length e / 8 = omega (arith, exec_fits R, length-drop 1 μ.exec) in
      let goes = ap (λ r. r >>= room_for (lent s e d c l) μ) q ∙ room_passes (lent s e d c l) μ (frame_dropped μ) (dictionary_fits R) fits (stack_fits R) refl (log_fits R) in
      let clash : ok (frame_dropped μ) ≡ fault x = sym goes ∙ fell in
      let z : ◌≡◌ {A = ℕ} 0 1 = cc in
      absurd (omega arith)

  pub passable : Passable m e
  passable =
      record {
        running = λ k h kind.
            ⊎_elim
            (λ (z : frame_left e k < 1). absurd (no_drop (run_ended R k h kind (omega arith))))
            (λ (z : 1 ≤ frame_left e k). z)
            (lt_or_le (frame_left e k) 1);
        counting = λ k h kind. no_drop (past_ended R k h kind);
      }
