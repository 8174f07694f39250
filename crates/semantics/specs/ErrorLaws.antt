-- Handlers for errors (02, W1): each error's place among the names, and its handler there; when a failing step is handled; the names that are stored then; and that
-- nothing else changes.
-- Assumes nothing.
use Rattle.std.specs.Prelude.{◌≡◌, Bool, true, false, List, [], ◌∷◌, ◌++◌, length, set, leb}
use Rattle.std.proofs.Math.Path.{refl}
use Rattle.std.proofs.Common.{sym, ap, ◌∙◌, subst, le-leb, length-append}
use Rattle.std.proofs.Math.Option.{Option, none, some}
use Prim.Native.Nat.{ℕ, suc, ◌≤◌, ◌<◌}
use native.Mathlib.Omega.{arith}
use Rattle.std.proofs.lemmas.Bool.{lt-leb}
use Rattle.std.proofs.Math.ListN.{get_elem?}
use Rattle.semantics.specs.Sizes.{error_count}
use Rattle.semantics.specs.Text.{bytes}
use Rattle.semantics.specs.Values.{Value}
use Rattle.semantics.specs.Errors.{error_text, error_names}
use Rattle.semantics.specs.Machine.{Machine, Frame, pending, Slot, with_exec, with_dictionary, with_latest, lookup, assign, slotted}
use Rattle.semantics.specs.ControlOperators.{has_slot}
use Rattle.semantics.specs.Steps.{Limits, State, goes, fails, unmoved, noted, handling, failing}
use Rattle.semantics.specs.ResultLaws.{choose}
use Rattle.semantics.specs.ListLaws.{inside_list}
use Rattle.semantics.specs.NameLaws.{Distinct, error_count_lem, errors_distinct}
use Rattle.semantics.specs.SlotLaws.{keys_of, has_key, lacks_key, lookup_place, assign_place, slotted_known, slotted_unknown, lookup_slotted}
use Rattle.semantics.specs.declared.Error.{Error}
use Rattle.semantics.specs.declared.Error.TheVariants.{LimitCheck, Undefined, StackUnderflow, TypeCheck, InvalidAccess, RangeCheck, UndefinedResult, UnmatchedMark, ExecStackOverflow, StackOverflow, VmError, IoError}

-- ---- errors by their places

-- The place of an error's name among the names of errors; the faults of tokens have the places before.
abbrev pub error_row : Error → ℕ
error_row LimitCheck = 5
error_row Undefined = 6
error_row StackUnderflow = 7
error_row TypeCheck = 8
error_row InvalidAccess = 9
error_row RangeCheck = 10
error_row UndefinedResult = 11
error_row UnmatchedMark = 12
error_row ExecStackOverflow = 13
error_row StackOverflow = 14
error_row VmError = 15
error_row IoError = 16

pub error_named : (e : Error) → get_elem? error_names (error_row e) ≡ some (error_text e)
unfolding error_names error_text
error_named LimitCheck = refl
error_named Undefined = refl
error_named StackUnderflow = refl
error_named TypeCheck = refl
error_named InvalidAccess = refl
error_named RangeCheck = refl
error_named UndefinedResult = refl
error_named UnmatchedMark = refl
error_named ExecStackOverflow = refl
error_named StackOverflow = refl
error_named VmError = refl
error_named IoError = refl

pub error_row_lem : (e : Error) → error_row e < error_count
error_row_lem e = omega (arith, inside_list error_names (error_row e) (error_named e), error_count_lem)

pub error_not_empty : (e : Error) → 0 < length (error_text e)
unfolding error_text bytes
error_not_empty LimitCheck = omega arith
error_not_empty Undefined = omega arith
error_not_empty StackUnderflow = omega arith
error_not_empty TypeCheck = omega arith
error_not_empty InvalidAccess = omega arith
error_not_empty RangeCheck = omega arith
error_not_empty UndefinedResult = omega arith
error_not_empty UnmatchedMark = omega arith
error_not_empty ExecStackOverflow = omega arith
error_not_empty StackOverflow = omega arith
error_not_empty VmError = omega arith
error_not_empty IoError = omega arith

-- ---- handlers

-- Slots by the errors' names, as the handlers are in every run.
module _ (d : List Slot) (names : keys_of d ≡ error_names) where
  names_distinct : Distinct (keys_of d)
  names_distinct = subst Distinct (sym names) errors_distinct

  key_at : (j : ℕ) (n : List ℕ) → get_elem? error_names j ≡ some n → get_elem? (keys_of d) j ≡ some n
  key_at j n e = ap (λ (ks : List (List ℕ)). get_elem? ks j) names ∙ e

  -- onerror takes the names of errors, and no others.
  pub handler_has : (j : ℕ) (n : List ℕ) → get_elem? error_names j ≡ some n → has_slot n d ≡ true
  handler_has j n e = has_key n d j (key_at j n e)

  pub handler_lacks : (n : List ℕ) → ((j : ℕ) → get_elem? error_names j ≡ some n → ⊥) → has_slot n d ≡ false
  handler_lacks n f = lacks_key n d (λ j e. f j (ap (λ (ks : List (List ℕ)). get_elem? ks j) (sym names) ∙ e))

  -- It sets the handler at the name's place.
  pub handler_set : (j : ℕ) (n : List ℕ) (v : Value) → get_elem? error_names j ≡ some n → assign n v d ≡ set d j (record { key = n; binding = some v })
  handler_set j n v e = assign_place n v d names_distinct j (key_at j n e)

  -- What handles an error is at the error's place.
  pub handler_of : (e : Error) (s : Slot) → get_elem? d (error_row e) ≡ some s → lookup (error_text e) d ≡ s.binding
  handler_of e s h = lookup_place (error_text e) d names_distinct (error_row e) s (key_at (error_row e) (error_text e) (error_named e)) h

-- ---- names that are stored

pub noted_empty : (slots : ℕ) (d : List Slot) → noted slots [] d ≡ (none, d)
unfolding noted
noted_empty slots d = refl

noted_room : (slots : ℕ) (n : List ℕ) (d : List Slot) → 0 < length n → length (slotted n d) ≤ slots → noted slots n d ≡ (some n, slotted n d)
unfolding noted
noted_room slots [] d h k = absurd (omega arith)
noted_room slots (b ∷ n) d h k = rw (le-leb _ _ k, noted) refl

-- A name that has a slot is stored, and the dictionary stays.
pub noted_found : (slots : ℕ) (n : List ℕ) (d : List Slot)
    → 0 < length n
    → has_slot n d ≡ true
    → length d ≤ slots
    → noted slots n d ≡ (some n, d)
noted_found slots n d h e k =
    let same = slotted_known n d e in
    noted_room slots n d h (omega (arith, ap length same, k)) ∙ ap (λ (x : List Slot). (some n, x)) same

-- An unknown one takes the slot after the last one, without a binding,
pub noted_new : (slots : ℕ) (n : List ℕ) (d : List Slot)
    → 0 < length n
    → has_slot n d ≡ false
    → length d < slots
    → noted slots n d ≡ (some n, d ++ (record { key = n; binding = none } ∷ []))
noted_new slots n d h e k =
    let more = slotted_unknown n d e in
    let long : length (slotted n d) ≤ slots = omega (arith, ap length more, length-append d (record { key = n; binding = none } ∷ []), k) in
    noted_room slots n d h long ∙ ap (λ (x : List Slot). (some n, x)) more

-- or is not stored, where no slot is free.
pub noted_full : (slots : ℕ) (n : List ℕ) (d : List Slot) → has_slot n d ≡ false → slots ≤ length d → noted slots n d ≡ (none, d)
unfolding noted
noted_full slots [] d e k = refl
noted_full slots (b ∷ n) d e k =
    let long : slots < length (slotted (b ∷ n) d) = omega (arith, ap length (slotted_unknown (b ∷ n) d e), length-append d (record { key = b ∷ n; binding = none } ∷ []), k) in
    rw (lt-leb _ _ long, noted) refl

-- Every name is bound as before.
pub noted_bindings : (slots : ℕ) (n : List ℕ) (d : List Slot) (k : List ℕ) → lookup k (noted slots n d).1 ≡ lookup k d
unfolding noted
noted_bindings slots [] d k = refl
noted_bindings slots (b ∷ n) d k =
    choose (λ (x : Option (List ℕ) × List Slot). lookup k x.1 ≡ lookup k d) (leb (length (slotted (b ∷ n) d)) slots) (some (b ∷ n), slotted (b ∷ n) d) (none, d)
    (λ t. lookup_slotted (b ∷ n) k d)
    (λ t. refl)

-- ---- a failing step

-- Both names are stored, the error's first.
pub handling_noted : (l : Limits) (h : Value) (e : Error) (c : List ℕ) (left : List Frame) (m : Machine) {x y : Option (List ℕ)} {d f : List Slot}
    → noted l.dictionary_slots (error_text e) m.dictionary ≡ (x, d)
    → noted l.dictionary_slots c d ≡ (y, f)
    → handling l h e c left m ≡ with_latest (record { errorname = x; command = y }) (with_dictionary f (with_exec (pending h ∷ left) m))
unfolding handling
handling_noted l h e c left m p q = rw (p, q) refl

module _ (l : Limits) (σ : State) (at next : ℕ) (left : List Frame) (e : Error) (c : List ℕ) where
  -- Without a handler it ends the run,
  pub failing_none : failing l σ at next left e c none ≡ fails e c (unmoved σ at)
  unfolding failing
  failing_none = refl

  -- and so it does where no execution slot is free.
  pub failing_full : (h : Option Value) → l.exec_slots ≤ length left → failing l σ at next left e c h ≡ fails e c (unmoved σ at)
  unfolding failing
  failing_full none k = refl
  failing_full (some h) k =
      let full : l.exec_slots < suc (length left) = omega arith in
      rw (lt-leb _ _ full, failing) refl

  -- Else its handler takes over.
  pub failing_goes : (h : Value)
      → length left < l.exec_slots
      → failing l σ at next left e c (some h) ≡ goes (record { machine = handling l h e c left σ.machine; next = next; at = at; steps = suc σ.steps })
  unfolding failing
  failing_goes h k =
      let free : suc (length left) ≤ l.exec_slots = omega arith in
      rw (le-leb _ _ free, failing) refl

-- What a handled error leaves as it was: items, objects, log, handlers, and what each name is bound to.
pub record Unharmed (before after : Machine) : Type 0 where
  pub stack : after.stack ≡ before.stack
  pub store : after.store ≡ before.store
  pub log : after.log ≡ before.log
  pub handlers : after.handlers ≡ before.handlers
  pub stopped : after.stopped ≡ before.stopped
  pub bindings : (n : List ℕ) → lookup n after.dictionary ≡ lookup n before.dictionary

pub handling_unharmed : (l : Limits) (h : Value) (e : Error) (c : List ℕ) (left : List Frame) (m : Machine) → Unharmed m (handling l h e c left m)
unfolding handling with_latest with_dictionary with_exec
handling_unharmed l h e c left m =
    let slots = l.dictionary_slots in
    let first = (noted slots (error_text e) m.dictionary).1 in
    record {
      stack = refl;
      store = refl;
      log = refl;
      handlers = refl;
      stopped = refl;
      bindings = λ n. noted_bindings slots c first n ∙ noted_bindings slots (error_text e) m.dictionary n;
    }

-- A failing step that goes on.
pub failing_unharmed : (l : Limits) (σ τ : State) (at next : ℕ) (left : List Frame) (e : Error) (c : List ℕ) (h : Option Value)
    → failing l σ at next left e c h ≡ goes τ
    → Unharmed σ.machine τ.machine
unfolding failing
failing_unharmed l σ τ at next left e c none q =
    let z : ◌≡◌ {A = ℕ} 0 1 = cc in
    absurd (omega arith)
failing_unharmed l σ τ at next left e c (some h) q = by (leb (suc (length left)) l.exec_slots) q
  where
    after : State
    after = record { machine = handling l h e c left σ.machine; next = next; at = at; steps = suc σ.steps }

    by : (t : Bool) → elim t [ true ↦ goes after | false ↦ fails e c (unmoved σ at) ] ≡ goes τ → Unharmed σ.machine τ.machine
    by true q =
        let same : after ≡ τ = cc in
        subst (λ (x : State). Unharmed σ.machine x.machine) same (handling_unharmed l h e c left σ.machine)
    by false q =
        let z : ◌≡◌ {A = ℕ} 0 1 = cc in
        absurd (omega arith)
