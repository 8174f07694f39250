-- Values of other places are carried along: from one reading of two words to another, place by place.
-- Assumes nothing.
use mathlib.Core.Path.{◌≡◌, refl, sym, ap, ◌∙◌}
use mathlib.Core.Bool.{true}
use mathlib.Core.List.{List, [], ◌∷◌}
use mathlib.Core.Option.{some}
use Prim.Native.Nat.{ℕ, suc, ◌+◌, ◌*◌, ◌%◌, ◌≤◌, ◌<◌}
use native.Mathlib.Omega.{arith}
use lib.ListN.{length, get_or, get_elem?, length-map}
use Rattle.semantics.specs.Sizes.{operator_count, error_count}
use Rattle.semantics.specs.NameLaws.{error_count_lem}
use Rattle.semantics.specs.Values.{Value, array, Object}
use Rattle.semantics.specs.Machine.{Frame, Slot, Latest, elements_of}
use Rattle.semantics.specs.ListLaws.{All, nil, cons}
use Rattle.heap.specs.Chain.{on}
use Rattle.heap.specs.Shape.{Ghost}
use Rattle.heap.proofs.Upds.{at_upd, upd_same}
use Rattle.store.specs.Rep as Store
use Rattle.store.specs.Rep.{Names}
use Rattle.machine.specs.Places.{from_end, frame_value, bound, binding_at}
use Rattle.machine.specs.Rep as Words
use Rattle.machine.specs.Rep.{Items, item, FrameIs, a_pending, a_running, a_looping, a_repeating, a_counting, a_past, Frames, frame, Bound, unbound, Slots, end, slot, RowIs, Rows, row, Noted, nothing, noted, Handled}
use Rattle.machine.proofs.Naming.{past_end}

-- What a value names has the property.
pub record Reached (Q : ℕ → Type 0) (v : Value) : Type 0 where
  pub reach : (i : ℕ) → Names v i → Q i

-- ---- what all places name, by the lists of the definition

pub all_from_end : {A : Type 0} (h : A → Value) {Q : ℕ → Type 0} (l : List A)
    → ((j i : ℕ) → Names (from_end h l j) i → Q i)
    → All (λ a. Reached Q (h a)) l
unfolding from_end
all_from_end h [] f = nil
all_from_end h (a ∷ l) f =
    cons (record { reach = λ i n. f (length l) i (rw (upd_same (from_end h l) (length l) (h a)) n) })
    (all_from_end h l
    (λ j i n. f j i
    (at_upd (λ v. Names v i) (from_end h l) (length l) (h a) j (λ e. absurd (past_end h l j i (omega arith) n)) (λ e. n))))

pub all_bindings : {Q : ℕ → Type 0} (d : List Slot)
    → ((j i : ℕ) → Names (binding_at d j) i → Q i)
    → All (λ (s : Slot). Reached Q (bound s.binding)) d
unfolding binding_at
all_bindings [] f = nil
all_bindings (s ∷ d) f = cons (record { reach = λ i n. f 0 i n }) (all_bindings d (λ j i n. f (suc j) i n))

-- ---- carried over

module _ {A B : Value → ℕ → ℕ → Type 0} {Q : ℕ → Type 0} (f : (v : Value) (t p : ℕ) → Reached Q v → A v t p → B v t p) where
  pub items_map : {words : List ℕ} {n : ℕ} {s : List Value} → All (Reached Q) s → Items A words n s → Items B words n s
  items_map nil Items.bottom = Items.bottom
  items_map (cons q qs) (item h i) = item (f _ _ _ q h) (items_map qs i)

  binding_map : {o : _} {t p : ℕ} → Reached Q (bound o) → Bound A o t p → Bound B o t p
  binding_map q unbound = unbound
  binding_map q (Words.bound h) = Words.bound (f _ _ _ q h)

  pub slots_map : {words : List ℕ} {k : ℕ} {d : List Slot} → All (λ (s : Slot). Reached Q (bound s.binding)) d → Slots A words k d → Slots B words k d
  slots_map nil end = end
  slots_map (cons q qs) (slot h i) =
      slot (record { size = h.size; short = h.short; spelt = h.spelt; binding = binding_map q h.binding }) (slots_map qs i)

  pub rows_map : {names : List (List ℕ)} {words : List ℕ} {k : ℕ} {d : List Slot}
      → All (λ (s : Slot). Reached Q (bound s.binding)) d
      → Rows A names words k d
      → Rows B names words k d
  rows_map nil Rows.end = Rows.end
  rows_map (cons q qs) (row h i) = row (record { handler = binding_map q h.handler; named = h.named }) (rows_map qs i)

  pub handled_map : {names : List (List ℕ)} {words : List ℕ} {handlers : List Slot} {latest : Latest}
      → All (λ (s : Slot). Reached Q (bound s.binding)) handlers
      → Handled A names words handlers latest
      → Handled B names words handlers latest
  handled_map q h = record { rows = rows_map q h.rows; errors = h.errors; errorname = h.errorname; command = h.command }

  module _ {g g' : Ghost} {store store' : List Object}
      (long : (i t p : ℕ) → A (array true i) t p → length (elements_of (Store.object_at store' i)) ≡ length (elements_of (Store.object_at store i)))
      (stays : (i t p a r : ℕ) → Reached Q (array true i) → A (array true i) t p → g.own a ≡ on (p + 2) r → g'.own a ≡ on (p + 2) r) where
    frame_map : {fr : Frame} {k t p a b c : ℕ} → Reached Q (frame_value fr) → FrameIs A g store fr k t p a b c → FrameIs B g' store' fr k t p a b c
    frame_map q (a_pending h) = a_pending (f _ _ _ q h)
    frame_map q (a_running {i = i} {t = t} {p = p} {a = a} h s l) =
        a_running (f _ _ _ q h) (s ∙ sym (long i t p h)) (λ r e. stays i t p a r q h (l r e))
    frame_map q (a_looping h) = a_looping (f _ _ _ q h)
    frame_map q (a_repeating h) = a_repeating (f _ _ _ q h)
    frame_map q (a_counting h e) = a_counting (f _ _ _ q h) e
    frame_map q (a_past h e o b) = a_past (f _ _ _ q h) e o b

    pub frames_map : {words : List ℕ} {n : ℕ} {fs : List Frame} → All (λ fr. Reached Q (frame_value fr)) fs → Frames A g store words n fs → Frames B g' store' words n fs
    frames_map nil Frames.bottom = Frames.bottom
    frames_map (cons q qs) (frame h i) = frame (frame_map q h) (frames_map qs i)

-- ---- handlers by other words and other names

-- A row for each error.
pub handlers_many : {A : Value → ℕ → ℕ → Type 0} {names : List (List ℕ)} {words : List ℕ} {handlers : List Slot} {latest : Latest}
    → Handled A names words handlers latest
    → length handlers ≡ error_count
handlers_many {handlers = handlers} h = sym (length-map handlers (λ (s : Slot). s.key)) ∙ ap length h.errors ∙ error_count_lem

noted_kept : {names names' : List (List ℕ)}
    → ((k : ℕ) (n : List ℕ) → get_elem? names k ≡ some n → get_elem? names' k ≡ some n)
    → {o : _} {k : ℕ}
    → Noted names o k
    → Noted names' o k
noted_kept known nothing = nothing
noted_kept known (noted e) = noted (known _ _ e)

module _ {A : Value → ℕ → ℕ → Type 0} {names names' : List (List ℕ)} (words words' : List ℕ)
    (same : (i : ℕ) → i % 12 ≡ 11 → i < 12 * operator_count → get_or words' i 0 ≡ get_or words i 0)
    (known : (k : ℕ) (n : List ℕ) → get_elem? names k ≡ some n → get_elem? names' k ≡ some n) where
  rows_kept : {j : ℕ} {d : List Slot} → j + length d ≤ error_count → Rows A names words j d → Rows A names' words' j d
  rows_kept few Rows.end = Rows.end
  rows_kept few (row {j = j} {s = s} h i) =
      row {j = j} {s = s}
      (record {
        handler = rw (same (36 * j + 11) (omega arith) (omega arith), same (36 * j + 23) (omega arith) (omega arith)) h.handler;
        named = λ v e. known _ _ (rw (same (36 * j + 35) (omega arith) (omega arith)) (h.named v e));
      })
      (rows_kept (omega arith) i)

  -- Where the words after the bindings stay, and every name keeps its slot.
  pub handled_kept : {handlers : List Slot} {latest : Latest} → Handled A names words handlers latest → Handled A names' words' handlers latest
  handled_kept h =
      record {
        rows = rows_kept (omega (arith, handlers_many h)) h.rows;
        errors = h.errors;
        errorname = rw (same 623 refl (omega arith)) (noted_kept known h.errorname);
        command = rw (same 635 refl (omega arith)) (noted_kept known h.command);
      }
