-- stop, exit and continue: the innermost loop is looked for from the top, and the slots above it go one by one.
-- Assumes nothing.
use Rattle.std.specs.Prelude.{Ok, Err, Some, None}
use mathlib.Core.Path.{◌≡◌, refl, sym, ap, ◌∙◌, subst}
use mathlib.Core.Bool.{true}
use mathlib.Core.List.{List, [], ◌∷◌}
use Prim.Native.Nat.{ℕ, zero, suc, ◌+◌, ◌-◌, ◌≤◌, ◌<◌}
use native.Mathlib.Omega.{arith}
use lib.ListN.{drop, drop_of_length-le}
use lib.Seq.{drop-drop}
use Rattle.semantics.specs.Text.{bytes}
use Rattle.semantics.specs.Values.{Value, Object, Result, ok, ◌>>=◌}
use Rattle.semantics.specs.Machine as Floo
use Rattle.semantics.specs.Machine.{Frame, with_exec, halt}
use Rattle.semantics.specs.Operators.{perform}
use Rattle.semantics.specs.ControlOperators.{from_loop, exit, continue, stop}
use Rattle.semantics.specs.Steps.{room_for}
use Rattle.heap.specs.Shape.{Ghost}
use Rattle.store.specs.Rep.{Names}
use Rattle.store.proofs.Rooting.{rep_alike}
use Rattle.machine.specs.Words.{frame_kind}
use Rattle.machine.specs.Places.{roots}
use Rattle.machine.specs.Rep.{Rep, FrameIs, a_pending, a_running, a_looping, a_repeating, a_counting, a_past, Frames, frame}
use Rattle.machine.specs.Room.{lent, fitted}
use Rattle.machine.specs.declared.Machine.{Machine}
use Rattle.machine.specs.Answers.{Did}
use Rattle.machine.proofs.Rooms.{frames_length}
use Rattle.machine.proofs.Roots.{roots_alike}
use Rattle.machine.specs.FrameMoves.{MovesFrames, frame_dropped}
use Rattle.control_operators.specs.Promises.{DoesState, DoesCells, FindsLoop, cut_by}
use Rattle.control_operators.proofs.Promising.{fit_ok}
use Rattle.control_operators.proofs.Named.{exit_is, continue_is, stop_is}

-- ---- stop

abbrev halted : Machine → Machine
halted m = record { depth = m.depth; frames = m.frames; names = m.names; written = m.written; lists = m.lists; stopped = true }

same_roots : (μ : Floo.Machine) (r : ℕ) → roots (halt μ) r ≡ roots μ r
unfolding halt
same_roots μ r = roots_alike μ (halt μ) refl refl refl refl r

halt_rep : {m : Machine} {s e d c l : List ℕ} {μ : Floo.Machine} → Rep m s e d c l μ → Rep (halted m) s e d c l (halt μ)
unfolding halt
halt_rep {μ = μ} R =
    record {
      world = R.world;
      stored = record {
        full = R.stored.full;
        none_dead = R.stored.none_dead;
        none_out = R.stored.none_out;
        objects = rep_alike R.stored.objects (λ x i. (λ a. subst (λ y. Names y i) (sym (same_roots μ x)) a, λ a. subst (λ y. Names y i) (same_roots μ x) a));
      };
      items = R.items;
      frames = R.frames;
      slots = R.slots;
      handled = R.handled;
      sealed = R.sealed;
      naming = R.naming;
      logging = R.logging;
      stopped = refl;
      rooms = R.rooms;
    }

pub stop_does : {m : Machine} → DoesState (perform (bytes "stop")) m (Ok (halted m))
unfolding stop halt
stop_does = record { does = λ s e d c l μ R. (halt μ, fit_ok (perform (bytes "stop")) s e d c l μ (halt_rep R) (stop_is μ) refl refl refl, halt_rep R) }

-- An operator that does what stop does.
pub halts : {f : Floo.Machine → Result Floo.Machine} {m : Machine} {e c : List ℕ} (r : Did)
    → ((s d l : List ℕ) (μ : Floo.Machine) → Rep m s e d c l μ → f μ ≡ perform (bytes "stop") μ)
    → DoesState (perform (bytes "stop")) m r
    → DoesCells f m e c c r
unfolding fitted
halts {e = e} {c = c} (Err x) q D =
    record { does = λ s d l μ R. (ap (λ t. t >>= room_for (lent s e d c l) μ) (q s d l μ R) ∙ (D.does s e d c l μ R).0, refl) }
halts {e = e} {c = c} (Ok m') q D =
    record {
      does = λ s d l μ R.
          let a = D.does s e d c l μ R in
          (a.0, ap (λ t. t >>= room_for (lent s e d c l) μ) (q s d l μ R) ∙ a.1, a.2);
    }

-- ---- looking for the loop

-- The slot at place k, below j others.
record At (A : Value → ℕ → ℕ → Type 0) (g : Ghost) (store : List Object) (e : List ℕ) (fs : List Frame) (j k : ℕ) : Type 0 where
  pub slot : Frame
  pub tag : ℕ
  pub pay : ℕ
  pub one : ℕ
  pub two : ℕ
  pub three : ℕ
  pub split : drop j fs ≡ slot ∷ drop (suc j) fs
  pub words : FrameIs A g store slot (frame_kind e k) tag pay one two three

module _ {A : Value → ℕ → ℕ → Type 0} {g : Ghost} {store : List Object} where
  passed_by : {f : Frame} {w t p a b c : ℕ} → FrameIs A g store f w t p a b c → w < 2 → (fs : List Frame) → from_loop (f ∷ fs) ≡ from_loop fs
  unfolding from_loop
  passed_by (a_pending h) l fs = refl
  passed_by (a_running h q o) l fs = refl
  passed_by (a_looping h) l fs = absurd (omega arith)
  passed_by (a_repeating h) l fs = absurd (omega arith)
  passed_by (a_counting h e) l fs = absurd (omega arith)
  passed_by (a_past h e o b) l fs = absurd (omega arith)

  met : {f : Frame} {w t p a b c : ℕ} → FrameIs A g store f w t p a b c → 2 ≤ w → (fs : List Frame) → from_loop (f ∷ fs) ≡ f ∷ fs
  unfolding from_loop
  met (a_pending h) l fs = absurd (omega arith)
  met (a_running h q o) l fs = absurd (omega arith)
  met (a_looping h) l fs = refl
  met (a_repeating h) l fs = refl
  met (a_counting h e) l fs = refl
  met (a_past h e o b) l fs = refl

  at : {e : List ℕ} {n : ℕ} {fs : List Frame} → Frames A g store e n fs → (j k : ℕ) → n ≡ j + suc k → At A g store e fs j k
  at Frames.bottom j k q = absurd (omega arith)
  at {e} (frame {n = n} {f = f} {fs = fs} h r) zero k q =
      let same : n ≡ k = omega arith in
      subst (λ x. At A g store e (f ∷ fs) 0 x) same (record { slot = f; tag = _; pay = _; one = _; two = _; three = _; split = refl; words = h })
  at (frame h r) (suc j) k q =
      let x = at r j k (omega arith) in
      record { slot = x.slot; tag = x.tag; pay = x.pay; one = x.one; two = x.two; three = x.three; split = x.split; words = x.words }

-- No loop is among the slots above the lowest k of n.
pub record Passed (e : List ℕ) (n k : ℕ) : Type 0 where
  pub says : (m : Machine) (s d c l : List ℕ) (μ : Floo.Machine) → m.frames ≡ n → Rep m s e d c l μ → from_loop μ.exec ≡ from_loop (drop (n - k) μ.exec)

pub passed_none : {e : List ℕ} {n : ℕ} → Passed e n n
passed_none {e} {n} =
    record {
      says = λ m s d c l μ q R.
          let z : n - n ≡ 0 = omega arith in
          ap (λ j. from_loop (drop j μ.exec)) (sym z);
    }

pub passed_one : {e : List ℕ} {n k : ℕ} → Passed e n k → 0 < k → k ≤ n → frame_kind e (k - 1) < 2 → Passed e n (k - 1)
passed_one {e} {n} {k} P some few low =
    record {
      says = λ m s d c l μ q R.
          let x = at R.frames (n - k) (k - 1) (omega arith) in
          let next : suc (n - k) ≡ n - (k - 1) = omega arith in
          P.says m s d c l μ q R
          ∙ ap from_loop x.split
          ∙ passed_by x.words low (drop (suc (n - k)) μ.exec)
          ∙ ap (λ j. from_loop (drop j μ.exec)) next;
    }

pub found : {m : Machine} {e : List ℕ} {k : ℕ} → Passed e m.frames k → 0 < k → k ≤ m.frames → 2 ≤ frame_kind e (k - 1) → FindsLoop m e (Some (k - 1))
found {m} {e} {k} P some few high =
    record {
      says = λ s d c l μ R.
          let x = at R.frames (m.frames - k) (k - 1) (omega arith) in
          let same : k ≡ k - 1 + 1 = omega arith in
          P.says m s d c l μ refl R
          ∙ ap from_loop x.split
          ∙ met x.words high (drop (suc (m.frames - k)) μ.exec)
          ∙ sym x.split
          ∙ ap (λ j. drop (m.frames - j) μ.exec) same;
    }

pub not_found : {m : Machine} {e : List ℕ} {k : ℕ} → Passed e m.frames k → k ≤ 0 → FindsLoop m e None
unfolding from_loop
not_found {m} {e} {k} P z =
    record {
      says = λ s d c l μ R.
          let none : drop (m.frames - k) μ.exec ≡ [] = drop_of_length-le μ.exec {i = m.frames - k} (omega (arith, frames_length R.frames)) in
          P.says m s d c l μ refl R ∙ ap from_loop none;
    }

-- ---- dropping slots

-- After some turns of the loop that leaves k slots, whose number goes up from k to n.
pub record Cutting (n : ℕ) (m₀ m : Machine) (e c₀ c : List ℕ) (k i : ℕ) : Type 0 where
  pub left : m.frames + i ≡ n + k
  pub moves : MovesFrames (cut_by (i - k)) m₀ m e e c₀ c

pub begin : (m : Machine) (e c : List ℕ) (k : ℕ) → Cutting m.frames m m e c c k k
unfolding cut_by with_exec
begin m e c k =
    record {
      left = refl;
      moves = record {
        moves = λ s d l μ R.
            let z : k - k ≡ 0 = omega arith in
            subst (λ j. Rep m s e d c l (cut_by j μ)) (sym z) R;
      };
    }

pub cut_one : {m r r' : Machine} {e c c' c'' : List ℕ} (i j : ℕ)
    → MovesFrames (cut_by i) m r e e c c'
    → MovesFrames frame_dropped r r' e e c' c''
    → i + 1 ≡ j
    → MovesFrames (cut_by j) m r' e e c c''
unfolding cut_by frame_dropped with_exec
cut_one {r'} {e} {c''} i j P Q h =
    record {
      moves = λ s d l μ R.
          subst (λ x. Rep r' s e d c'' l (with_exec x μ)) (drop-drop 1 i μ.exec ∙ ap (λ n. drop n μ.exec) h) (Q.moves s d l (cut_by i μ) (P.moves s d l μ R));
    }

pub cut_same : {m r : Machine} {e c c' : List ℕ} (i j : ℕ) → MovesFrames (cut_by i) m r e e c c' → i ≡ j → MovesFrames (cut_by j) m r e e c c'
cut_same {m} {r} {e} {c} {c'} i j P h = subst (λ n. MovesFrames (cut_by n) m r e e c c') h P

module _ {n : ℕ} {m₀ m : Machine} {e c₀ c : List ℕ} {k i : ℕ} (C : Cutting n m₀ m e c₀ c k i) (h : k ≤ i) where
  pub again : {r : Machine} {c' : List ℕ} → i < n → MovesFrames frame_dropped m r e e c c' → r.frames ≡ m.frames - 1 → Cutting n m₀ r e c₀ c' k (i + 1)
  again less D one = record { left = omega (arith, C.left); moves = cut_one (i - k) (i + 1 - k) C.moves D (omega arith) }

  pub finish : n ≤ i → i ≤ n → MovesFrames (cut_by (n - k)) m₀ m e e c₀ c
  finish all few = cut_same (i - k) (n - k) C.moves (omega arith)

-- ---- exit and continue

module _ {m : Machine} {e : List ℕ} (F : FindsLoop m e None) where
  pub exit_none : (s d c l : List ℕ) (μ : Floo.Machine) → Rep m s e d c l μ → perform (bytes "exit") μ ≡ perform (bytes "stop") μ
  unfolding exit stop
  exit_none s d c l μ R = exit_is μ ∙ rw (F.says s d c l μ R, exit) refl ∙ sym (stop_is μ)

  pub continue_none : (s d c l : List ℕ) (μ : Floo.Machine) → Rep m s e d c l μ → perform (bytes "continue") μ ≡ perform (bytes "stop") μ
  unfolding continue stop
  continue_none s d c l μ R = continue_is μ ∙ rw (F.says s d c l μ R, continue) refl ∙ sym (stop_is μ)

module _ {m : Machine} {e : List ℕ} {k : ℕ} (F : FindsLoop m e (Some k)) (few : k < m.frames) where
  exit_cuts : (s d c l : List ℕ) (μ : Floo.Machine) → Rep m s e d c l μ → perform (bytes "exit") μ ≡ ok (cut_by (m.frames - k) μ)
  unfolding exit cut_by
  exit_cuts s d c l μ R =
      let x = at R.frames (m.frames - (k + 1)) k (omega arith) in
      let next : suc (m.frames - (k + 1)) ≡ m.frames - k = omega arith in
      exit_is μ ∙ rw (F.says s d c l μ R ∙ x.split, exit) refl ∙ ap (λ j. ok (with_exec (drop j μ.exec) μ)) next

  continue_cuts : (s d c l : List ℕ) (μ : Floo.Machine) → Rep m s e d c l μ → perform (bytes "continue") μ ≡ ok (cut_by (m.frames - (k + 1)) μ)
  unfolding continue cut_by
  continue_cuts s d c l μ R =
      let x = at R.frames (m.frames - (k + 1)) k (omega arith) in
      continue_is μ ∙ rw (F.says s d c l μ R ∙ x.split, continue) refl ∙ ap (λ fs. ok (with_exec fs μ)) (sym x.split)

  pub exit_does : {r : Machine} {c c' : List ℕ} → MovesFrames (cut_by (m.frames - k)) m r e e c c' → DoesCells (perform (bytes "exit")) m e c c' (Ok r)
  unfolding cut_by with_exec
  exit_does {c} D =
      record {
        does = λ s d l μ R.
            let R' = D.moves s d l μ R in
            (cut_by (m.frames - k) μ, fit_ok (perform (bytes "exit")) s e d c l μ R' (exit_cuts s d c l μ R) refl refl refl, R');
      }

  pub continue_does : {r : Machine} {c c' : List ℕ} → MovesFrames (cut_by (m.frames - (k + 1))) m r e e c c' → DoesCells (perform (bytes "continue")) m e c c' (Ok r)
  unfolding cut_by with_exec
  continue_does {c} D =
      record {
        does = λ s d l μ R.
            let R' = D.moves s d l μ R in
            (cut_by (m.frames - (k + 1)) μ, fit_ok (perform (bytes "continue")) s e d c l μ R' (continue_cuts s d c l μ R) refl refl refl, R');
      }
