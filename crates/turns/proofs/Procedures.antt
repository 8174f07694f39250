-- A pending literal is pushed, a pending procedure starts, a running one pushes its next element or goes: what each comes to, by the words of
-- the topmost slot and of the element's cell.
-- Assumes nothing.
use Rattle.std.specs.Prelude.{Ok, Err}
use mathlib.Core.Path.{◌≡◌, refl, sym, ap, ◌∙◌}
use mathlib.Core.Bool.{Bool, true}
use mathlib.Core.List.{List, ◌∷◌}
use Prim.Native.Nat.{ℕ, suc, ◌+◌, ◌-◌, ◌*◌, ◌/◌, ◌≤◌, ◌<◌}
use native.Mathlib.Omega.{arith}
use lib.ListN.{length, drop}
use Rattle.semantics.specs.Values.{Value, null, array, Object, ok}
use Rattle.semantics.specs.Machine as Floo
use Rattle.semantics.specs.Machine.{Frame, pending, running, with_stack, with_exec, push, enter, object, elements_of}
use Rattle.semantics.specs.Steps.{execute, treat, is_procedure, resume, silent}
use Rattle.semantics.specs.declared.Error.TheVariants.{StackOverflow}
use Rattle.semantics.specs.ListLaws.{no_element, an_element}
use Rattle.heap.specs.Shape.{Ghost}
use Rattle.heap.specs.Word.{word}
use Rattle.store.specs.Rep.{object_at, element, Stands, a_null, an_integer, a_boolean, a_mark, an_operator, a_literal, an_executable, a_string, an_array, a_procedure}
use Rattle.store.proofs.Standing.{is_procedure_lem}
use Rattle.machine.specs.Words.{frame_kind, frame_tag, frame_payload, frame_cell, frame_left}
use Rattle.machine.specs.Rep.{Rep, IsIn, FrameIs, a_pending, a_running, a_looping, a_repeating, a_counting, a_past}
use Rattle.machine.specs.declared.Machine.{Machine}
use Rattle.machine.proofs.Rooms.{exec_fits}
use Rattle.machine.specs.FrameMoves.{top_frame, top_value, frame_dropped, returned, MovesFrames, MovesItems, Somewhere}
use Rattle.frames.specs.Moves.{reset_top, element_pushed, Starts, Advances, PushesElement, SomewhereAll}
use Rattle.machine.proofs.Tops.{slot}
use Rattle.frames.proofs.Running.{Runs, runs, kind_runs, run_at, element_words}
use Rattle.control_operators.specs.Promises.{DoesFrames}
use Rattle.turns.specs.Turns.{resumed, IsNot, Quiet, DoesTurn, DoesItems}
use Rattle.turns.proofs.Resuming.{top_is, dropped_is, resumed_is, top_value_is, reset_is}
use Rattle.turns.proofs.Fitting.{items_over, turn_does, items_fails, items_does, frames_fails, frames_does}
use Rattle.turns.proofs.Looping.{reset_length}

-- ---- values that are pushed

module _ {keys : List (List ℕ)} {texts : List Bool} {ρ : ℕ → ℕ} (μ : Floo.Machine) where
  executes : {v : Value} {t p : ℕ} → Stands keys texts ρ v t p → Quiet t → IsNot 10 t → execute v μ ≡ ok (push v μ)
  unfolding execute
  executes a_null q n = refl
  executes an_integer q n = refl
  executes a_boolean q n = refl
  executes a_mark q n = refl
  executes (an_operator x) q n = absurd (q.0 refl)
  executes (a_literal x) q n = refl
  executes (an_executable x) q n = absurd (q.1 refl)
  executes (a_string x y) q n = refl
  executes (an_array x y) q n = refl
  executes (a_procedure x y) q n = absurd (n refl)

  treats : {v : Value} {t p : ℕ} → Stands keys texts ρ v t p → Quiet t → treat v μ ≡ ok (push v μ)
  unfolding treat execute is_procedure
  treats a_null q = refl
  treats an_integer q = refl
  treats a_boolean q = refl
  treats a_mark q = refl
  treats (an_operator x) q = absurd (q.0 refl)
  treats (a_literal x) q = refl
  treats (an_executable x) q = absurd (q.1 refl)
  treats (a_string x y) q = refl
  treats (an_array x y) q = refl
  treats (a_procedure x y) q = refl

-- ---- the frame of each kind

pub is_pending_lem : {A : Value → ℕ → ℕ → Type 0} {g : Ghost} {store : List Object} {f : Frame} {kind t p a b c : ℕ}
    → FrameIs A g store f kind t p a b c
    → kind ≡ 0
    → (v : Value) × (f ≡ pending v) × A v t p
is_pending_lem (a_pending {v = v} h) q = (v, refl, h)
is_pending_lem (a_running h x y) q = absurd (omega arith)
is_pending_lem (a_looping h) q = absurd (omega arith)
is_pending_lem (a_repeating h) q = absurd (omega arith)
is_pending_lem (a_counting h e) q = absurd (omega arith)
is_pending_lem (a_past h e o b) q = absurd (omega arith)

module _ {m : Machine} {s e d c l : List ℕ} {μ : Floo.Machine} (R : Rep m s e d c l μ) (k : ℕ) (h : m.frames ≡ suc k) where
  abbrev rest : List Frame
  rest = (slot R k h).rest

  -- ---- a pending value

  module _ (kind : frame_kind e k ≡ 0) where
    literal_resumed : Quiet (frame_tag e k) → IsNot 10 (frame_tag e k) → resumed μ ≡ ok (returned μ)
    unfolding resume returned
    literal_resumed q n =
        let w = is_pending_lem (slot R k h).words kind in
        let split : μ.exec ≡ pending w.0 ∷ rest = (slot R k h).split ∙ ap (λ f. f ∷ rest) w.1 in
        resumed_is μ split ∙ executes (with_exec rest μ) w.2.stands q n ∙ ap ok (ap (push w.0) (sym (dropped_is μ split)) ∙ ap (λ v. push v (frame_dropped μ)) (sym (top_value_is μ split)))

    procedure_resumed : frame_tag e k ≡ 10 → (i : ℕ) × (top_value μ ≡ array true i) × (resumed μ ≡ ok (reset_top (running i 0) μ))
    unfolding resume execute
    procedure_resumed ten =
        let w = is_pending_lem (slot R k h).words kind in
        let x = is_procedure_lem w.2.stands ten in
        let split : μ.exec ≡ pending (array true x.0) ∷ rest = (slot R k h).split ∙ ap (λ f. f ∷ rest) (w.1 ∙ ap pending x.1) in
        (x.0, top_value_is μ split, resumed_is μ split ∙ ap ok (reset_is μ split (running x.0 0)))

  -- ---- a running procedure

  module _ (kind : frame_kind e k ≡ 1) where
    place : (i : ℕ) × (j : ℕ) × ((slot R k h).top ≡ running i j)
    place = kind_runs kind (slot R k h).words

    i : ℕ
    i = place.0

    j : ℕ
    j = place.1

    split : μ.exec ≡ running i j ∷ rest
    unfolding i j
    split = (slot R k h).split ∙ ap (λ f. f ∷ rest) place.2

    run : Runs (IsIn R.world μ) R.world.ghost μ.store i j (frame_tag e k) (frame_payload e k) (frame_cell e k) (frame_left e k)
    unfolding i j
    run = runs place.0 place.1 place.2 (slot R k h).words

    running_top : top_frame μ ≡ running i j
    running_top = top_is μ split

    pub run_ended : frame_left e k ≡ 0 → resumed μ ≡ ok (frame_dropped μ)
    unfolding resume silent object with_exec
    run_ended z =
        let vs = elements_of (object_at μ.store i) in
        resumed_is μ split ∙ rw (no_element vs j (omega (arith, run.left, z))) (ap ok (sym (dropped_is μ split)))

    module _ (left : 1 ≤ frame_left e k) (quiet : Quiet (word c (frame_cell e k) 0)) where
      run_resumed : resumed μ ≡ ok (reset_top (running i (suc j)) (element_pushed i j μ))
      unfolding resume element_pushed reset_top push object with_exec with_stack
      run_resumed =
          let vs = elements_of (object_at μ.store i) in
          let v = element μ.store i j in
          let w = element_words R k h i j running_top left in
          resumed_is μ split
          ∙ rw (an_element vs j null (omega (arith, run.left, left))) (treats (enter (running i (suc j)) (with_exec rest μ)) w.stands quiet)
          ∙ ap (λ m. ok (push v m)) (reset_is μ split (running i (suc j)))

-- ---- what a step comes to

module _ {m : Machine} {s e : List ℕ} (some : 1 ≤ m.frames) (kind : frame_kind e (m.frames - 1) ≡ 0)
    (quiet : Quiet (frame_tag e (m.frames - 1))) (literal : IsNot 10 (frame_tag e (m.frames - 1))) where
  pub literal_over : length s < 2 * m.depth + 2 → DoesItems resumed m s s e (Err StackOverflow)
  unfolding returned frame_dropped push with_exec with_stack
  literal_over full =
      items_fails (λ d c l μ R.
      let slots : length (drop 1 μ.exec) ≤ length e / 8 = omega (arith, reset_length R some, exec_fits R) in
      items_over R (literal_resumed R (m.frames - 1) (omega (arith, some)) kind quiet literal) refl full refl slots)

  pub literal_pushed : {r : Machine} {s' : List ℕ} → MovesItems returned m r s s' e → length s' ≡ length s → DoesItems resumed m s s' e (Ok r)
  unfolding returned frame_dropped push with_exec with_stack
  literal_pushed M long =
      items_does long (λ d c l μ R. record {
        after = returned μ;
        gives = literal_resumed R (m.frames - 1) (omega (arith, some)) kind quiet literal;
        made = refl;
        stands = M.moves d c l μ R;
      })

pub procedure_starts : {m : Machine} {e e' c : List ℕ}
    → 1 ≤ m.frames
    → frame_kind e (m.frames - 1) ≡ 0
    → frame_tag e (m.frames - 1) ≡ 10
    → Starts m e e' c
    → length e' ≡ length e
    → DoesTurn resumed m e e' c c (Ok m)
unfolding reset_top with_exec
procedure_starts {m} held kind ten S long =
    turn_does long (λ s d l μ R.
    let x = procedure_resumed R (m.frames - 1) (omega (arith, held)) kind ten in
    record { after = reset_top (running x.0 0) μ; gives = x.2; made = refl; stands = S.moves s d l μ R x.0 x.1 })

module _ {m : Machine} {e c : List ℕ} (some : 1 ≤ m.frames) (kind : frame_kind e (m.frames - 1) ≡ 1) where
  pub procedure_ends : {r : Machine} {c' : List ℕ} → frame_left e (m.frames - 1) ≡ 0 → MovesFrames frame_dropped m r e e c c' → DoesTurn resumed m e e c c' (Ok r)
  unfolding frame_dropped with_exec
  procedure_ends zero_left M =
      turn_does refl (λ s d l μ R. record {
        after = frame_dropped μ;
        gives = run_ended R (m.frames - 1) (omega (arith, some)) kind zero_left;
        made = refl;
        stands = M.moves s d l μ R;
      })

  module _ (left : 1 ≤ frame_left e (m.frames - 1)) {s : List ℕ} where
    -- The slot is as it was once the element has been pushed.
    pub next_stands : {r : Machine} {s' c' : List ℕ}
        → PushesElement m r s s' e c c'
        → r.frames ≡ m.frames
        → SomewhereAll m s e c
        → (1 ≤ r.frames) × (frame_kind e (r.frames - 1) ≡ 1) × (1 ≤ frame_left e (r.frames - 1)) × Somewhere r e c'
    next_stands {r} {s'} {c'} P same w =
        let x = run_at w.3 (m.frames - 1) (omega (arith, some)) kind in
        (omega (arith, some, same), rw same kind, rw same left, (s', w.0, w.1, _, P.moves w.0 w.1 w.2 w.3 x.0 x.1 x.2))

    module _ (quiet : Quiet (word c (frame_cell e (m.frames - 1)) 0)) where
      pub next_over : length s < 2 * m.depth + 2 → DoesFrames resumed m s s e e c c (Err StackOverflow)
      unfolding element_pushed reset_top push with_exec with_stack
      next_over full =
          frames_fails (λ d l μ R.
          let slots : suc (length (drop 1 μ.exec)) ≤ length e / 8 = omega (arith, reset_length R some, exec_fits R) in
          items_over R (run_resumed R (m.frames - 1) (omega (arith, some)) kind left quiet) refl full refl slots)

      pub next_pushed : {r : Machine} {s' e' c' : List ℕ}
          → PushesElement m r s s' e c c'
          → Advances r e e' c'
          → length s' ≡ length s
          → length e' ≡ length e
          → DoesFrames resumed m s s' e e' c c' (Ok r)
      unfolding element_pushed reset_top push with_exec with_stack
      next_pushed {s' = s'} P A stack exec =
          frames_does stack exec (λ d l μ R.
          let h : m.frames ≡ suc (m.frames - 1) = omega (arith, some) in
          let at = i R (m.frames - 1) h kind in
          let from = j R (m.frames - 1) h kind in
          let top = running_top R (m.frames - 1) h kind in
          record {
            after = reset_top (running at (suc from)) (element_pushed at from μ);
            gives = run_resumed R (m.frames - 1) h kind left quiet;
            made = refl;
            stands = A.moves s' d l (element_pushed at from μ) (P.moves d l μ R at from top) at from top;
          })
