-- An operator or a name that is pending, or is a procedure's next element, is executed: what it promises on the machine without the slot, or with the procedure
-- moved on, is what the step promises.
-- Assumes nothing.
use Rattle.std.specs.Prelude.{Ok, Err}
use mathlib.Core.Path.{◌≡◌, refl, sym, ap, ◌∙◌, subst}
use mathlib.Core.Bool.{true}
use mathlib.Core.List.{List, [], ◌∷◌}
use mathlib.Core.Option.{some}
use Prim.Native.Nat.{ℕ, suc, ◌-◌, ◌/◌, ◌≤◌, ◌<◌}
use native.Mathlib.Omega.{arith}
use lib.ListN.{length, get_elem?}
use Rattle.semantics.specs.Sizes.{operator_count}
use Rattle.semantics.specs.Values.{Value, operator, name, Result, null}
use Rattle.semantics.specs.Machine as Floo
use Rattle.semantics.specs.Machine.{Frame, pending, running, with_exec, elements_of, object}
use Rattle.semantics.specs.Held.{of_value}
use Rattle.semantics.specs.Operators.{perform}
use Rattle.semantics.specs.Steps.{resume, execute, treat, is_procedure}
use Rattle.semantics.specs.declared.Error.{Error}
use Rattle.semantics.specs.ListLaws.{an_element, get_d_known}
use Rattle.heap.specs.Word.{word}
use Rattle.heap.specs.Shape.{cells}
use Rattle.store.specs.Rep.{titles, element, object_at}
use Rattle.store.proofs.Standing.{is_operator, is_executable}
use Rattle.machine.specs.Words.{frame_kind, frame_tag, frame_payload, frame_cell, frame_left}
use Rattle.machine.specs.Places.{keys}
use Rattle.machine.specs.Rep.{Rep, IsIn, Answer}
use Rattle.machine.specs.Room.{lent, fitted}
use Rattle.machine.specs.declared.Machine.{Machine}
use Rattle.machine.specs.Answers.{Did}
use Rattle.machine.specs.FrameMoves.{top_frame, frame_dropped, ForgetsFrame}
use Rattle.frames.specs.Moves.{reset_top, reset_words, Turned, Advances}
use Rattle.machine.proofs.Tops.{slot}
use Rattle.frames.proofs.Running.{runs, kind_runs, element_words}
use Rattle.frames.proofs.Undoing.{undone}
use Rattle.operators.specs.Titles.{perform_at, Everywhere, DoesAll}
use Rattle.operators.proofs.Named.{log_same}
use Rattle.taking.specs.Effects.{executable_taken}
use Rattle.taking.specs.Promises.{Bindings, NamedBindings, DoesBinding, DoesNamed}
use Rattle.turns.specs.Turns.{resumed}
use Rattle.turns.proofs.Resuming.{top_is, dropped_is, resumed_is, reset_is}
use Rattle.turns.proofs.Procedures.{is_pending_lem}
use Rattle.commands.proofs.Values.{operator_number}
use Rattle.acting.proofs.Via.{via, roots_dropped, roots_moved}

-- ---- the answer of what stands for the step

pub alike : (Q : Machine → Floo.Machine → Type 0) (S : Type 0) (r : Did) {p q : Result Floo.Machine} → p ≡ q → Answer Q S r q → Answer Q S r p
alike Q S r e A = subst (λ x. Answer Q S r x) (sym e) A

-- ---- what is pending

dropped_store : (μ : Floo.Machine) → μ.store ≡ (frame_dropped μ).store
unfolding frame_dropped with_exec
dropped_store μ = refl

dropped_keys : (μ : Floo.Machine) → keys (frame_dropped μ) ≡ keys μ
unfolding frame_dropped with_exec
dropped_keys μ = refl

operator_none : (o : List ℕ) → of_value (operator o) ≡ []
unfolding of_value
operator_none o = refl

name_none : (n : List ℕ) → of_value (name true n) ≡ []
unfolding of_value
name_none n = refl

-- The operator of a number.
performs : (p : ℕ) (o : List ℕ) → get_elem? titles p ≡ some o → perform_at p ≡ perform o
unfolding perform_at
performs p o q = ap perform (get_d_known titles p [] q)

module _ {m : Machine} {s e d c l : List ℕ} {μ : Floo.Machine} (R : Rep m s e d c l μ) (k : ℕ) (h : m.frames ≡ suc k) where
  abbrev rest : List Frame
  rest = (slot R k h).rest

  module _ (kind : frame_kind e k ≡ 0) where
    waits : (v : Value) × ((slot R k h).top ≡ pending v) × IsIn R.world μ v (frame_tag e k) (frame_payload e k)
    waits = is_pending_lem (slot R k h).words kind

    pub operator_waits : frame_tag e k ≡ 4
        → (o : List ℕ) × (get_elem? titles (frame_payload e k) ≡ some o) × (μ.exec ≡ pending (operator o) ∷ rest)
    operator_waits four =
        let w = is_operator waits.2.stands four in
        (w.0, w.2, (slot R k h).split ∙ ap (λ f. f ∷ rest) (waits.1 ∙ ap pending w.1))

    pub name_waits : frame_tag e k ≡ 6
        → (n : List ℕ) × (get_elem? (keys μ) (frame_payload e k) ≡ some n) × (μ.exec ≡ pending (name true n) ∷ rest)
    name_waits six =
        let w = is_executable waits.2.stands six in
        (w.0, w.2, (slot R k h).split ∙ ap (λ f. f ∷ rest) (waits.1 ∙ ap pending w.1))

    pub operator_fits : frame_tag e k ≡ 4 → fitted (lent s e d c l) resumed μ ≡ fitted (lent s e d c l) (perform_at (frame_payload e k)) (frame_dropped μ)
    unfolding resume execute
    operator_fits four =
        let w = operator_waits four in
        let f = perform_at (frame_payload e k) in
        via (lent s e d c l) μ (frame_dropped μ) resumed f
        (resumed_is μ w.2 ∙ ap (λ g. g (with_exec rest μ)) (sym (performs _ w.0 w.1)) ∙ ap f (sym (dropped_is μ w.2)))
        (dropped_store μ) (roots_dropped μ (operator_none w.0) w.2)

    name_fits : (six : frame_tag e k ≡ 6)
        → fitted (lent s e d c l) resumed μ ≡ fitted (lent s e d c l) (executable_taken (name_waits six).0) (frame_dropped μ)
    unfolding resume execute executable_taken
    name_fits six =
        let w = name_waits six in
        via (lent s e d c l) μ (frame_dropped μ) resumed (executable_taken w.0)
        (resumed_is μ w.2 ∙ ap (executable_taken w.0) (sym (dropped_is μ w.2)))
        (dropped_store μ) (roots_dropped μ (name_none w.0) w.2)

-- What is asked before it acts.
module _ {m left : Machine} {s e d c l : List ℕ} {μ : Floo.Machine} (R : Rep m s e d c l μ) (slots : 1 ≤ m.frames) (kind : frame_kind e (m.frames - 1) ≡ 0) (F : ForgetsFrame m left) where
  pub operator_ready : frame_tag e (m.frames - 1) ≡ 4 → (frame_payload e (m.frames - 1) < operator_count) × Everywhere left s e d c l
  operator_ready four =
      let w = operator_waits R (m.frames - 1) (omega (arith, slots)) kind four in
      (operator_number _ w.1, (frame_dropped μ, F.moves s e d c l μ R (omega (arith, four))))

  pub name_ready : frame_tag e (m.frames - 1) ≡ 6 → NamedBindings (frame_payload e (m.frames - 1)) left e d c
  name_ready six =
      let w = name_waits R (m.frames - 1) (omega (arith, slots)) kind six in (
        s,
        l,
        frame_dropped μ,
        w.0,
        subst (λ ks. get_elem? ks (frame_payload e (m.frames - 1)) ≡ some w.0) (sym (dropped_keys μ)) w.1,
        F.moves s e d c l μ R (omega (arith, six)),
      )

-- What the operator promises of the machine without the slot, the step promises.
pub operator_does : {m left : Machine} {s s' e e' d d' c c' l l' : List ℕ} (r : Did)
    → 1 ≤ m.frames
    → frame_kind e (m.frames - 1) ≡ 0
    → frame_tag e (m.frames - 1) ≡ 4
    → ForgetsFrame m left
    → DoesAll (perform_at (frame_payload e (m.frames - 1))) left s s' e e' d d' c c' l l' r
    → DoesAll resumed m s s' e e' d d' c c' l l' r
operator_does {m} {s = s} {s' = s'} {e = e} {e' = e'} {d = d} {d' = d'} {c = c} {c' = c'} {l = l} {l' = l'} r slots kind four F D =
    record {
      does = λ μ R. alike (λ m'. Rep m' s' e' d' c' l') ((s' ≡ s) × (e' ≡ e) × (d' ≡ d) × (c' ≡ c) × (l' ≡ l)) r
          (operator_fits R (m.frames - 1) (omega (arith, slots)) kind four)
          (D.does (frame_dropped μ) (F.moves s e d c l μ R (omega (arith, four))));
      rest = D.rest;
    }

pub name_does : {m left : Machine} {e e' d c c' : List ℕ} (r : Did)
    → 1 ≤ m.frames
    → frame_kind e (m.frames - 1) ≡ 0
    → frame_tag e (m.frames - 1) ≡ 6
    → ForgetsFrame m left
    → DoesNamed (frame_payload e (m.frames - 1)) left e e' d c c' r
    → DoesBinding resumed m e e' d c c' r
name_does {m} {e = e} {e' = e'} {d = d} {c = c} {c' = c'} r slots kind six F D =
    record {
      does = λ s l μ R.
          let w = name_waits R (m.frames - 1) (omega (arith, slots)) kind six in
          alike (λ m'. Rep m' s e' d c' l) ((e' ≡ e) × (c' ≡ c)) r (name_fits R (m.frames - 1) (omega (arith, slots)) kind six)
          (D.does s l (frame_dropped μ) (F.moves s e d c l μ R (omega (arith, six))) w.0
          (subst (λ ks. get_elem? ks (frame_payload e (m.frames - 1)) ≡ some w.0) (sym (dropped_keys μ)) w.1));
    }

-- ---- the next element of a procedure

moved_store : (f : Frame) (μ : Floo.Machine) → μ.store ≡ (reset_top f μ).store
unfolding reset_top with_exec
moved_store f μ = refl

moved_keys : (f : Frame) (μ : Floo.Machine) → keys (reset_top f μ) ≡ keys μ
unfolding reset_top with_exec
moved_keys f μ = refl

treats_operator : (o : List ℕ) (μ : Floo.Machine) → treat (operator o) μ ≡ perform o μ
unfolding treat is_procedure execute
treats_operator o μ = refl

treats_name : (n : List ℕ) (μ : Floo.Machine) → treat (name true n) μ ≡ executable_taken n μ
unfolding treat is_procedure execute executable_taken
treats_name n μ = refl

module _ {m : Machine} {s e d c l : List ℕ} {μ : Floo.Machine} (R : Rep m s e d c l μ) (k : ℕ) (h : m.frames ≡ suc k)
    (kind : frame_kind e k ≡ 1) (left : 1 ≤ frame_left e k) where
  pub place : (i : ℕ) × (j : ℕ) × ((slot R k h).top ≡ running i j)
  place = kind_runs kind (slot R k h).words

  split : μ.exec ≡ running place.0 place.1 ∷ (slot R k h).rest
  split = (slot R k h).split ∙ ap (λ f. f ∷ (slot R k h).rest) place.2

  pub at_top : top_frame μ ≡ running place.0 place.1
  at_top = top_is μ split

  abbrev value : Value
  value = element μ.store place.0 place.1

  pub value_words : IsIn R.world μ value (word c (frame_cell e k) 0) (word c (frame_cell e k) 1)
  value_words = element_words R k h place.0 place.1 at_top left

  abbrev moved : Floo.Machine
  moved = reset_top (running place.0 (suc place.1)) μ

  element_resumed : resumed μ ≡ treat value moved
  unfolding resume object with_exec
  element_resumed =
      let run = runs place.0 place.1 place.2 (slot R k h).words in
      let vs = elements_of (object_at μ.store place.0) in
      resumed_is μ split
      ∙ rw (an_element vs place.1 null (omega (arith, run.left, left))) (ap (treat value) (reset_is μ split (running place.0 (suc place.1))))

  -- The same test of room.
  moved_fits : (f : Floo.Machine → Result Floo.Machine) → treat value moved ≡ f moved → fitted (lent s e d c l) resumed μ ≡ fitted (lent s e d c l) f moved
  moved_fits f q = via (lent s e d c l) μ moved resumed f (element_resumed ∙ q) (moved_store _ μ) (roots_moved μ split)

  pub operator_next : word c (frame_cell e k) 0 ≡ 4
      → fitted (lent s e d c l) resumed μ ≡ fitted (lent s e d c l) (perform_at (word c (frame_cell e k) 1)) moved
  operator_next four =
      let w = is_operator value_words.stands four in
      moved_fits (perform_at (word c (frame_cell e k) 1))
      (ap (λ v. treat v moved) w.1 ∙ treats_operator w.0 moved ∙ ap (λ g. g moved) (sym (performs _ w.0 w.2)))

  pub name_next : word c (frame_cell e k) 0 ≡ 6
      → (n : List ℕ) × (get_elem? (keys moved) (word c (frame_cell e k) 1) ≡ some n)
      × (fitted (lent s e d c l) resumed μ ≡ fitted (lent s e d c l) (executable_taken n) moved)
  name_next six =
      let w = is_executable value_words.stands six in (
        w.0,
        subst (λ ks. get_elem? ks (word c (frame_cell e k) 1) ≡ some w.0) (sym (moved_keys _ μ)) w.2,
        moved_fits (executable_taken w.0) (ap (λ v. treat v moved) w.1 ∙ treats_name w.0 moved),
      )

-- The slots are as many as before.
lent_same : (s d c l e e₁ : List ℕ) → length e₁ ≡ length e → lent s e d c l ≡ lent s e₁ d c l
unfolding lent
lent_same s d c l e e₁ q = ap (λ n. record { stack_slots = length s / 2; exec_slots = n / 8; dictionary_slots = length d / 12; cell_count = cells c; log_bytes = length l }) (sym q)

-- A procedure that had moved on is put back.
pub back : (m : Machine) (e e₁ e' e'' : List ℕ)
    → frame_kind e (m.frames - 1) ≡ 1
    → Turned m e e₁
    → e' ≡ e₁
    → e'' ≡ reset_words 1 (frame_cell e (m.frames - 1)) (frame_left e (m.frames - 1)) m e'
    → e'' ≡ e
back m e e₁ e' e'' kind T q z =
    z ∙ ap (reset_words 1 (frame_cell e (m.frames - 1)) (frame_left e (m.frames - 1)) m) (q ∙ T.2) ∙ undone m e T.0 T.1 kind

-- The procedure has moved on, the element acts, and the procedure is put back where it fails.
module _ (m : Machine) (e e₁ e' d c c' : List ℕ) (slots : 1 ≤ m.frames) (kind : frame_kind e (m.frames - 1) ≡ 1)
    (left : 1 ≤ frame_left e (m.frames - 1)) (T : Turned m e e₁) (long : length e₁ ≡ length e) (A : Advances m e e₁ c) where
  abbrev cell : ℕ
  cell = frame_cell e (m.frames - 1)

  module _ (s l : List ℕ) (μ : Floo.Machine) (R : Rep m s e d c l μ) where
    abbrev pub after : Floo.Machine
    after = moved R (m.frames - 1) (omega (arith, slots)) kind left

    pub stands : Rep m s e₁ d c l after
    stands = A.moves s d l μ R _ _ (at_top R (m.frames - 1) (omega (arith, slots)) kind left)

    same_room : (f : Floo.Machine → Result Floo.Machine)
        → fitted (lent s e d c l) resumed μ ≡ fitted (lent s e d c l) f after
        → fitted (lent s e d c l) resumed μ ≡ fitted (lent s e₁ d c l) f after
    same_room f q = q ∙ ap (λ lim. fitted lim f after) (lent_same s d c l e e₁ long)

  module _ (four : word c cell 0 ≡ 4) {p : ℕ} (number : p ≡ word c cell 1) (s s' d' l l' : List ℕ) where
    pub fits : (μ : Floo.Machine) (R : Rep m s e d c l μ) → fitted (lent s e d c l) resumed μ ≡ fitted (lent s e₁ d c l) (perform_at (word c cell 1)) (after s l μ R)
    fits μ R = same_room s l μ R (perform_at (word c cell 1)) (operator_next R (m.frames - 1) (omega (arith, slots)) kind left four)

    pub element_ready : {μ : Floo.Machine} → Rep m s e d c l μ → (p < operator_count) × Everywhere m s e₁ d c l
    element_ready {μ} R =
        let w = is_operator (value_words R (m.frames - 1) (omega (arith, slots)) kind left).stands four in
        (subst (λ q. q < operator_count) (sym number) (operator_number _ w.2), (after s l μ R, stands s l μ R))

    pub element_performs : {did : Did} {r : Machine}
        → did ≡ Ok r
        → DoesAll (perform_at p) m s s' e₁ e' d d' c c' l l' did
        → DoesAll resumed m s s' e e' d d' c c' l l' (Ok r)
    element_performs {r = r} g E =
        let D = subst (λ q. DoesAll (perform_at q) m s s' e₁ e' d d' c c' l l' (Ok r)) number (subst (DoesAll (perform_at p) m s s' e₁ e' d d' c c' l l') g E) in
        record {
          does = λ μ R. alike (λ m'. Rep m' s' e' d' c' l') ((s' ≡ s) × (e' ≡ e) × (d' ≡ d) × (c' ≡ c) × (l' ≡ l)) (Ok r) (fits μ R)
              (D.does _ (stands s l μ R));
          rest = D.rest;
        }

    pub element_fails : {did : Did} {x : Error} {e'' : List ℕ}
        → did ≡ Err x
        → DoesAll (perform_at p) m s s' e₁ e' d d' c c' l l' did
        → e'' ≡ reset_words 1 cell (frame_left e (m.frames - 1)) m e'
        → DoesAll resumed m s s' e e'' d d' c c' l l' (Err x)
    element_fails {x = x} g E z =
        let D = subst (λ q. DoesAll (perform_at q) m s s' e₁ e' d d' c c' l l' (Err x)) number (subst (DoesAll (perform_at p) m s s' e₁ e' d d' c c' l l') g E) in
        record {
          does = λ μ R.
              let a = D.does _ (stands s l μ R) in
              (fits μ R ∙ a.0, (a.1.0, back m e e₁ e' _ kind T a.1.1 z, a.1.2, a.1.3, a.1.4));
          rest = D.rest;
        }

  module _ (six : word c cell 0 ≡ 6) {p : ℕ} (slot_is : p ≡ word c cell 1) where
    next : (s l : List ℕ) (μ : Floo.Machine) (R : Rep m s e d c l μ)
        → (n : List ℕ) × (get_elem? (keys (after s l μ R)) (word c cell 1) ≡ some n)
        × (fitted (lent s e d c l) resumed μ ≡ fitted (lent s e₁ d c l) (executable_taken n) (after s l μ R))
    next s l μ R =
        let w = name_next R (m.frames - 1) (omega (arith, slots)) kind left six in
        (w.0, w.1, same_room s l μ R (executable_taken w.0) w.2)

    pub named_ready : Bindings m e d c → NamedBindings p m e₁ d c
    named_ready B =
        let w = next B.0 B.1 B.2 B.3 in
        subst (λ q. NamedBindings q m e₁ d c) (sym slot_is) (B.0, B.1, after B.0 B.1 B.2 B.3, w.0, w.1, stands B.0 B.1 B.2 B.3)

    pub element_named : {did : Did} {r : Machine} → did ≡ Ok r → DoesNamed p m e₁ e' d c c' did → DoesBinding resumed m e e' d c c' (Ok r)
    element_named {r = r} g E =
        let D = subst (λ q. DoesNamed q m e₁ e' d c c' (Ok r)) slot_is (subst (DoesNamed p m e₁ e' d c c') g E) in
        record {
          does = λ s l μ R.
              let w = next s l μ R in
              alike (λ m'. Rep m' s e' d c' l) ((e' ≡ e) × (c' ≡ c)) (Ok r) w.2 (D.does s l _ (stands s l μ R) w.0 w.1);
        }

    pub element_unnamed : {did : Did} {x : Error} {e'' : List ℕ}
        → did ≡ Err x
        → DoesNamed p m e₁ e' d c c' did
        → e'' ≡ reset_words 1 cell (frame_left e (m.frames - 1)) m e'
        → DoesBinding resumed m e e'' d c c' (Err x)
    element_unnamed {x = x} g E z =
        let D = subst (λ q. DoesNamed q m e₁ e' d c c' (Err x)) slot_is (subst (DoesNamed p m e₁ e' d c c') g E) in
        record {
          does = λ s l μ R.
              let w = next s l μ R in
              let a = D.does s l _ (stands s l μ R) w.0 w.1 in
              (w.2 ∙ a.0, (back m e e₁ e' _ kind T a.1.0 z, a.1.1));
        }

-- ---- promises on all words

pub binding_all : {f : Floo.Machine → Result Floo.Machine} {m : Machine} {e e' d c c' : List ℕ} (r : Did)
    → DoesBinding f m e e' d c c' r
    → (s l : List ℕ)
    → DoesAll f m s s e e' d d c c' l l r
binding_all (Err x) D s l = record { does = λ μ R. let a = D.does s l μ R in (a.0, (refl, a.1.0, refl, a.1.1, refl)); rest = log_same l (Err x) }
binding_all (Ok m') D s l = record { does = λ μ R. D.does s l μ R; rest = log_same l (Ok m') }
