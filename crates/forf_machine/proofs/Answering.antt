-- The test of room, and what an answer of the code means: nothing fits less than what did, and only a push and a pending substack can be one too many.
-- Assumes nothing.
use mathlib.Core.Path.{◌≡◌, refl, sym, ap, subst, ◌∙◌}
use mathlib.Core.List.{List, ◌∷◌}
use Prim.Native.Nat.{ℕ, suc, ◌+◌, ◌/◌, ◌≤◌, ◌<◌}
use native.Mathlib.Omega.{arith}
use lib.ListN.{length, length-map}
use borrow.Author.Tests.{le-leb, lt-leb}
use Rattle.semantics.specs.Values.{ok, fault, ◌>>=◌, check}
use Rattle.semantics.specs.ListLaws.{All, cons}
use Rattle.forf_semantics.specs.Errors.{Result}
use Rattle.forf_semantics.specs.Machine as Forf
use Rattle.forf_semantics.specs.Steps.{room_for}
use Rattle.forf_semantics.specs.BodyLaws.{body_at}
use Rattle.forf_semantics.specs.declared.Error.{Error}
use Rattle.forf_semantics.specs.declared.Error.TheVariants.{StackOverflow, ExecStackOverflow}
use Rattle.forf_machine.specs.Slots.{Slot, slots, put_slot}
use Rattle.forf_machine.specs.Rep.{value_of, frame_as, frame_of, SoundValue, SoundFrame, machine_from, machine_of, Rep, limits_of}
use Rattle.forf_machine.specs.declared.Machine.{Machine}
use Rattle.forf_machine.proofs.Slotting.{length_slots, length_put, put_top}

-- ---- the test of room

module _ (script : List ℕ) (vs fs : List Slot) (s e mem : List ℕ) where
  room_fits : length vs ≤ length s / 2 → length fs ≤ length e / 8 → room_for (limits_of s e) (machine_from script vs fs mem) ≡ ok (machine_from script vs fs mem)
  unfolding room_for limits_of machine_from check ◌>>=◌
  room_fits h k = rw (length-map fs (frame_of script), length-map vs (value_of script), le-leb (length fs) (length e / 8) k, le-leb (length vs) (length s / 2) h) refl

  room_stack : length s / 2 < length vs → length fs ≤ length e / 8 → room_for (limits_of s e) (machine_from script vs fs mem) ≡ fault StackOverflow
  unfolding room_for limits_of machine_from check ◌>>=◌
  room_stack h k = rw (length-map fs (frame_of script), length-map vs (value_of script), le-leb (length fs) (length e / 8) k, lt-leb (length vs) (length s / 2) h) refl

  room_exec : length e / 8 < length fs → room_for (limits_of s e) (machine_from script vs fs mem) ≡ fault ExecStackOverflow
  unfolding room_for limits_of machine_from check ◌>>=◌
  room_exec k = rw (length-map fs (frame_of script), lt-leb (length fs) (length e / 8) k) refl

-- ---- answers

-- The error of a word is that of its step.
pub failed : {q : Result Forf.Machine} {x : Error} (s e : List ℕ) → q ≡ fault x → (q >>= room_for (limits_of s e)) ≡ fault x
unfolding ◌>>=◌
failed s e h = rw h refl

-- A machine whose words are as many as before has room.
pub went : {script : List ℕ} {m : Machine} {s' e' mem' : List ℕ} {q : Result Forf.Machine} (s e : List ℕ)
    → length s' ≡ length s
    → length e' ≡ length e
    → Rep script m s' e' mem'
    → q ≡ ok (machine_of script m s' e' mem')
    → ((q >>= room_for (limits_of s e)) ≡ ok (machine_of script m s' e' mem')) × Rep script m s' e' mem'
unfolding ◌>>=◌ machine_of
went {script} {m} {s'} {e'} {mem'} s e p r R h =
    let a = R.stack_fits in
    let b = R.exec_fits in (
      rw h (room_fits script (slots 2 m.depth s') (slots 8 m.frames e') s e mem'
          (omega (arith, length_slots 2 m.depth s'))
          (omega (arith, length_slots 8 m.frames e'))),
      R,
    )

-- ---- a push

module _ {script : List ℕ} {m : Machine} {s e mem : List ℕ} (R : Rep script m s e mem) (t p : ℕ) where
  pushed : Forf.push (value_of script (t, p)) (machine_of script m s e mem) ≡ machine_from script ((t, p) ∷ slots 2 m.depth s) (slots 8 m.frames e) mem
  unfolding Forf.push Forf.with_stack machine_of machine_from
  pushed = refl

  pub push_full : length s / 2 ≤ m.depth
      → (ok (Forf.push (value_of script (t, p)) (machine_of script m s e mem)) >>= room_for (limits_of s e)) ≡ fault StackOverflow
  unfolding ◌>>=◌
  push_full h =
      let b = R.exec_fits in
      rw pushed (room_stack script ((t, p) ∷ slots 2 m.depth s) (slots 8 m.frames e) s e mem
      (omega (arith, length_slots 2 m.depth s))
      (omega (arith, length_slots 8 m.frames e)))

  module _ (h : m.depth < length s / 2) (S : SoundValue script (t, p)) where
    after : Machine
    after = record { depth = m.depth + 1; frames = m.frames }

    push_rep : Rep script (record { depth = m.depth + 1; frames = m.frames }) (put_slot 2 m.depth t p s) e mem
    push_rep = record {
      stack_fits = omega (arith, length_put 2 m.depth t p s);
      exec_fits = R.exec_fits;
      values = subst (λ (n : ℕ). All (SoundValue script) (slots 2 n (put_slot 2 m.depth t p s))) (omega arith)
          (subst (All (SoundValue script)) (sym (put_top 2 m.depth t p s (omega arith) (omega arith))) (cons S R.values));
      frames = R.frames;
      memory_slots_lem = R.memory_slots_lem;
    }

    pub push_done : {m' : Machine} {s' : List ℕ} → m' ≡ record { depth = m.depth + 1; frames = m.frames } → s' ≡ put_slot 2 m.depth t p s
        → ((ok (Forf.push (value_of script (t, p)) (machine_of script m s e mem)) >>= room_for (limits_of s e)) ≡ ok (machine_of script m' s' e mem)) × Rep script m' s' e mem
    unfolding machine_of
    push_done {m'} {s'} k l =
        let n : suc m.depth ≡ m.depth + 1 = omega arith in
        rw (k, l) (went s e (length_put 2 m.depth t p s) refl push_rep
        (ap ok (pushed ∙ ap (λ (vs : List Slot). machine_from script vs (slots 8 m.frames e) mem)
        (sym (put_top 2 m.depth t p s (omega arith) (omega arith)) ∙ ap (λ (i : ℕ). slots 2 i (put_slot 2 m.depth t p s)) n))))

-- ---- a pending substack

module _ {script : List ℕ} {m : Machine} {s e mem : List ℕ} (R : Rep script m s e mem) (body : ℕ) where
  entered : Forf.enter (Forf.pending (body_at script body)) (machine_of script m s e mem) ≡ machine_from script (slots 2 m.depth s) ((0, body) ∷ slots 8 m.frames e) mem
  unfolding Forf.enter Forf.with_exec machine_of machine_from frame_of frame_as
  entered = refl

  pub pend_full : length e / 8 ≤ m.frames
      → (ok (Forf.enter (Forf.pending (body_at script body)) (machine_of script m s e mem)) >>= room_for (limits_of s e)) ≡ fault ExecStackOverflow
  unfolding ◌>>=◌
  pend_full h =
      rw entered (room_exec script (slots 2 m.depth s) ((0, body) ∷ slots 8 m.frames e) s e mem (omega (arith, length_slots 8 m.frames e)))

  module _ (h : m.frames < length e / 8) (S : SoundValue script (1, body)) where
    pend_rep : Rep script (record { depth = m.depth; frames = m.frames + 1 }) s (put_slot 8 m.frames 0 body e) mem
    pend_rep = record {
      stack_fits = R.stack_fits;
      exec_fits = omega (arith, length_put 8 m.frames 0 body e);
      values = R.values;
      frames = subst (λ (n : ℕ). All (SoundFrame script) (slots 8 n (put_slot 8 m.frames 0 body e))) (omega arith)
          (subst (All (SoundFrame script)) (sym (put_top 8 m.frames 0 body e (omega arith) (omega arith))) (cons (S (λ z. omega arith)) R.frames));
      memory_slots_lem = R.memory_slots_lem;
    }

    pub pend_done : {e' : List ℕ} → e' ≡ put_slot 8 m.frames 0 body e
        → ((ok (Forf.enter (Forf.pending (body_at script body)) (machine_of script m s e mem)) >>= room_for (limits_of s e))
        ≡ ok (machine_of script (record { depth = m.depth; frames = m.frames + 1 }) s e' mem))
        × Rep script (record { depth = m.depth; frames = m.frames + 1 }) s e' mem
    unfolding machine_of
    pend_done {e'} l =
        let n : suc m.frames ≡ m.frames + 1 = omega arith in
        rw l (went s e refl (length_put 8 m.frames 0 body e) pend_rep
        (ap ok (entered ∙ ap (λ (fs : List Slot). machine_from script (slots 2 m.depth s) fs mem)
        (sym (put_top 8 m.frames 0 body e (omega arith) (omega arith)) ∙ ap (λ (i : ℕ). slots 8 i (put_slot 8 m.frames 0 body e)) n))))
