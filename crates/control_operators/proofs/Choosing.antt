-- if and ifelse: the Boolean goes, one operand becomes pending, the other is let go.
-- Assumes nothing.
use Rattle.std.specs.Prelude.{Ok, Err}
use mathlib.Core.Path.{◌≡◌, refl, sym, ap, ◌∙◌, subst}
use mathlib.Core.Bool.{Bool, true, false, cond}
use mathlib.Core.List.{List, [], ◌∷◌}
use Prim.Native.Nat.{ℕ, suc, ◌+◌, ◌*◌, ◌<◌}
use native.Mathlib.Omega.{arith}
use lib.ListN.{length, get_or, drop}
use Rattle.semantics.specs.Text.{bytes}
use Rattle.semantics.specs.Values.{Value, boolean, null, Result, ok, fault, ◌>>=◌, bool}
use Rattle.semantics.specs.Machine as Floo
use Rattle.semantics.specs.Machine.{Frame, pending, with_stack, with_exec, enter}
use Rattle.semantics.specs.ListLaws.{nil, cons}
use Rattle.semantics.specs.Operators.{perform}
use Rattle.semantics.specs.ControlOperators.{if', ifelse}
use Rattle.semantics.specs.declared.Error.{Error}
use Rattle.semantics.specs.declared.Error.TheVariants.{StackUnderflow, TypeCheck, ExecStackOverflow}
use Rattle.store.specs.Rep.{bit}
use Rattle.store.proofs.Standing.{is_boolean}
use Rattle.machine.specs.Words.{item_tag, item_payload}
use Rattle.machine.specs.Moves.{dropped}
use Rattle.machine.specs.Rep.{Rep, IsIn, MovesHeap}
use Rattle.machine.specs.Room.{lent}
use Rattle.machine.specs.declared.Machine.{Machine}
use Rattle.machine.proofs.Items.{items_length}
use Rattle.machine.proofs.Rooms.{frames_length, fitted_fails}
use Rattle.machine.proofs.Operands.{Top, top, pop2_some, upper, lower, both, pop2_under}
use Rattle.frames.specs.Moves as Moves
use Rattle.frames.specs.Moves.{Enters, entered}
use Rattle.control_operators.specs.Promises.{DoesFrames, Forgets}
use Rattle.machine.proofs.Pops.{pop3_under, pop3_some}
use Rattle.machine.proofs.Naming.{boolean_nameless}
use Rattle.control_operators.proofs.Popping.{stands_no_boolean}
use Rattle.control_operators.proofs.Promising.{fit_full, fit_ok}
use Rattle.control_operators.proofs.Named.{if_is, ifelse_is}
use Rattle.control_operators.proofs.Entering.{Into}

bit_false : (b : Bool) → bit b ≡ 0 → b ≡ false
bit_false true e = absurd (omega arith)
bit_false false e = refl

bit_true : (b : Bool) → (bit b ≡ 0 → ⊥) → b ≡ true
bit_true true e = refl
bit_true false e = absurd (e refl)

-- ---- promises

module _ {f : Floo.Machine → Result Floo.Machine} {m : Machine} {s e c : List ℕ} where
  pub frames_fault : {x : Error} → ((d l : List ℕ) (μ : Floo.Machine) → Rep m s e d c l μ → f μ ≡ fault x) → DoesFrames f m s s e e c c (Err x)
  frames_fault q = record { does = λ d l μ R. (fitted_fails (lent s e d c l) f μ (q d l μ R), (refl, refl, refl)) }

  pub frames_full : length e < 8 * m.frames + 8
      → ((d l : List ℕ) (μ : Floo.Machine) → Rep m s e d c l μ → (g : Frame) × (stack : List Value) × (f μ ≡ ok (enter g (with_stack stack μ))))
      → DoesFrames f m s s e e c c (Err ExecStackOverflow)
  frames_full full q = record { does = λ d l μ R. (fit_full f s e d c l μ R full _ _ (q d l μ R).2, (refl, refl, refl)) }

  pub frames_done : {r : Machine} {e' c' : List ℕ}
      → length e' ≡ length e
      → ((d l : List ℕ) (μ : Floo.Machine) → Rep m s e d c l μ → (after : Floo.Machine) × (f μ ≡ ok after) × (length after.store ≡ length μ.store) × Rep r s e' d c' l after)
      → DoesFrames f m s s e e' c c' (Ok r)
  frames_done long q =
      record { does = λ d l μ R. let x = q d l μ R in (x.0, fit_ok f s e d c l μ x.3 x.1 refl long x.2, x.3) }

-- ---- if

module _ {m : Machine} {s e d c l : List ℕ} {μ : Floo.Machine} (R : Rep m s e d c l μ) where
  pub if_under : m.depth < 2 → perform (bytes "if") μ ≡ fault StackUnderflow
  unfolding if' ◌>>=◌
  if_under h = if_is μ ∙ rw (pop2_under μ (omega (arith, items_length R.items))) refl

  module _ (k : ℕ) (h : m.depth ≡ suc (suc k)) where
    pub if_type : (item_tag s k ≡ 2 → ⊥) → perform (bytes "if") μ ≡ fault TypeCheck
    unfolding if' ◌>>=◌
    if_type n = if_is μ ∙ rw (pop2_some μ (both R k (suc k) h refl), stands_no_boolean (lower R k (suc k) h refl).words.stands n) refl

    module _ (i : item_tag s k ≡ 2) where
      tested : (b : Bool) → (is_boolean (lower R k (suc k) h refl).words.stands i).0 ≡ b → μ.stack ≡ (upper R k (suc k) h refl).value ∷ boolean b ∷ (lower R k (suc k) h refl).rest
      tested b q = both R k (suc k) h refl ∙ ap (λ v. (upper R k (suc k) h refl).value ∷ v ∷ (lower R k (suc k) h refl).rest) ((is_boolean (lower R k (suc k) h refl).words.stands i).1 ∙ ap boolean q)

      pub if_into : (item_payload s k ≡ 0 → ⊥) → Into (perform (bytes "if")) pending (boolean true ∷ []) μ
      unfolding if' ◌>>=◌ bool
      if_into n =
          let x = is_boolean (lower R k (suc k) h refl).words.stands i in
          let split = tested true (bit_true x.0 (λ q. n (x.2 ∙ q))) in
          record { value = (upper R k (suc k) h refl).value; rest = (lower R k (suc k) h refl).rest; split = split; gives = if_is μ ∙ rw (pop2_some μ split) refl }

      pub if_not : item_payload s k ≡ 0 → (y : Value) × (rest : List Value) × (μ.stack ≡ y ∷ boolean false ∷ rest) × (perform (bytes "if") μ ≡ ok (with_stack rest μ))
      unfolding if' ◌>>=◌ bool
      if_not n =
          let x = is_boolean (lower R k (suc k) h refl).words.stands i in
          let split = tested false (bit_false x.0 (sym x.2 ∙ n)) in
          ((upper R k (suc k) h refl).value, (lower R k (suc k) h refl).rest, split, if_is μ ∙ rw (pop2_some μ split) refl)

-- The body is let go.
pub if_skips : {m r r' : Machine} {s e c c' : List ℕ} (k : ℕ)
    → m.depth ≡ suc (suc k)
    → item_tag s k ≡ 2
    → item_payload s k ≡ 0
    → MovesHeap dropped m r s s c c'
    → Forgets 1 r r'
    → DoesFrames (perform (bytes "if")) m s s e e c c' (Ok r')
unfolding dropped with_stack
if_skips {r'} {s} {e} {c'} k h i n D F =
    frames_done refl
    (λ d l μ R.
    let x = if_not R k h i n in (
      with_stack x.1 μ,
      x.3,
      refl,
      F.moves (boolean false ∷ []) x.1 refl (cons boolean_nameless nil) s e d c' l (dropped μ) (ap (drop 1) x.2) (D.moves e d l μ R),
    ))

-- ---- ifelse

-- Dropping an item leaves the execution slots.
pub same_frames : {m r : Machine} {s e d c c' l : List ℕ} {μ : Floo.Machine} → Rep m s e d c l μ → Rep r s e d c' l (dropped μ) → r.frames ≡ m.frames
unfolding dropped with_stack
same_frames R R' = sym (frames_length R'.frames) ∙ frames_length R.frames

module _ {m : Machine} {s e d c l : List ℕ} {μ : Floo.Machine} (R : Rep m s e d c l μ) where
  pub ifelse_under : m.depth < 3 → perform (bytes "ifelse") μ ≡ fault StackUnderflow
  unfolding ifelse ◌>>=◌
  ifelse_under h = ifelse_is μ ∙ rw (pop3_under μ (omega (arith, items_length R.items))) refl

  module _ (k : ℕ) (h : m.depth ≡ suc (suc (suc k))) where
    if_false : Top (IsIn R.world μ) s (suc (suc k)) μ.stack
    if_false = top R.items (suc (suc k)) h

    if_true : Top (IsIn R.world μ) s (suc k) if_false.rest
    if_true = top if_false.below (suc k) refl

    which : Top (IsIn R.world μ) s k if_true.rest
    which = top if_true.below k refl

    three : μ.stack ≡ if_false.value ∷ if_true.value ∷ which.value ∷ which.rest
    three = if_false.split ∙ ap (λ r. if_false.value ∷ r) (if_true.split ∙ ap (λ r. if_true.value ∷ r) which.split)

    pub ifelse_type : (item_tag s k ≡ 2 → ⊥) → perform (bytes "ifelse") μ ≡ fault TypeCheck
    unfolding ifelse ◌>>=◌
    ifelse_type n = ifelse_is μ ∙ rw (pop3_some μ three, stands_no_boolean which.words.stands n) refl

    -- The operands, and what is done with them.
    pub chosen : item_tag s k ≡ 2
        → (b : Bool) × (y : Value) × (z : Value) × (rest : List Value) × (μ.stack ≡ z ∷ y ∷ boolean b ∷ rest) × (item_payload s k ≡ bit b)
        × (perform (bytes "ifelse") μ ≡ ok (enter (pending (cond b y z)) (with_stack rest μ)))
    unfolding ifelse ◌>>=◌ bool
    chosen i =
        let x = is_boolean which.words.stands i in
        let split : μ.stack ≡ if_false.value ∷ if_true.value ∷ boolean x.0 ∷ which.rest =
        three ∙ ap (λ v. if_false.value ∷ if_true.value ∷ v ∷ which.rest) x.1 in
        (x.0, if_true.value, if_false.value, which.rest, split, x.2, ifelse_is μ ∙ rw (pop3_some μ split) refl)

module _ {m : Machine} {s e c : List ℕ} (k : ℕ) (h : m.depth ≡ suc (suc (suc k))) (i : item_tag s k ≡ 2) where
  pub ifelse_full : length e < 8 * m.frames + 8 → DoesFrames (perform (bytes "ifelse")) m s s e e c c (Err ExecStackOverflow)
  ifelse_full full = frames_full full (λ d l μ R. let x = chosen R k h i in (pending (cond x.0 x.1 x.2), x.3, x.6))

  -- The lower operand is let go.
  pub ifelse_upper : {p r r' : Machine} {e' c' : List ℕ} {a b g : ℕ}
      → item_payload s k ≡ 0
      → Enters 0 a b g m p s e e'
      → MovesHeap dropped p r s s c c'
      → Forgets 1 r r'
      → length e' ≡ length e
      → DoesFrames (perform (bytes "ifelse")) m s s e e' c c' (Ok r')
  unfolding dropped entered enter with_stack with_exec
  ifelse_upper {r'} {e'} {c'} n E D F long =
      frames_done long
      (λ d l μ R.
      let x = chosen R k h i in
      let no = bit_false x.0 (sym x.5 ∙ n) in
      let gives : perform (bytes "ifelse") μ ≡ ok (enter (pending x.2) (with_stack x.3 μ)) =
      x.6 ∙ ap (λ t. ok (enter (pending (cond t x.1 x.2)) (with_stack x.3 μ))) no in (
        enter (pending x.2) (with_stack x.3 μ),
        gives,
        refl,
        subst (λ v. Rep r' s e' d c' l (enter (pending (get_or v 0 null)) (with_stack x.3 μ))) x.4
            (F.moves (boolean x.0 ∷ []) x.3 refl (cons boolean_nameless nil) s e' d c' l (dropped (entered pending μ)) (ap (λ v. drop 1 (drop 1 v)) x.4)
            (D.moves e' d l (entered pending μ) (E.moves Moves.a_pending d c l μ R))),
      ))

  -- The upper operand is let go.
  pub ifelse_lower : {p r r' : Machine} {e' c' : List ℕ} {a b g : ℕ}
      → (item_payload s k ≡ 0 → ⊥)
      → MovesHeap dropped m p s s c c'
      → Enters 0 a b g p r s e e'
      → Forgets 1 r r'
      → length e' ≡ length e
      → DoesFrames (perform (bytes "ifelse")) m s s e e' c c' (Ok r')
  unfolding dropped entered enter with_stack with_exec
  ifelse_lower {r'} {e'} {c'} n D E F long =
      frames_done long
      (λ d l μ R.
      let x = chosen R k h i in
      let yes = bit_true x.0 (λ q. n (x.5 ∙ q)) in
      let gives : perform (bytes "ifelse") μ ≡ ok (enter (pending x.1) (with_stack x.3 μ)) =
      x.6 ∙ ap (λ t. ok (enter (pending (cond t x.1 x.2)) (with_stack x.3 μ))) yes in (
        enter (pending x.1) (with_stack x.3 μ),
        gives,
        refl,
        subst (λ v. Rep r' s e' d c' l (enter (pending (get_or (drop 1 v) 0 null)) (with_stack x.3 μ))) x.4
            (F.moves (boolean x.0 ∷ []) x.3 refl (cons boolean_nameless nil) s e' d c' l (entered pending (dropped μ)) (ap (λ v. drop 1 (drop 1 v)) x.4)
            (E.moves Moves.a_pending d c' l (dropped μ) (D.moves e d l μ R))),
      ))
