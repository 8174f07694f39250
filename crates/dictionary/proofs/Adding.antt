-- Words past the names do not matter, and a name that has no slot takes the next one: the names that there were stand as before, no name has two slots,
-- and an unbound name is a root place that holds nothing.
-- Assumes nothing.
use mathlib.Core.Path.{◌≡◌, refl, sym, ap, ◌∙◌, subst}
use mathlib.Core.List.{List, [], ◌∷◌, ◌++◌, map-append}
use mathlib.Core.Logic.{◌⊎◌, inl, inr, ⊎_elim}
use mathlib.Core.Option.{none, some}
use Prim.Native.Nat.{ℕ, zero, suc, ◌+◌, ◌*◌, ◌/◌, ◌%◌, ◌≤◌, ◌<◌}
use native.Mathlib.Omega.{arith}
use lib.ListN.{length, get_or, take, set, get_elem?, length-append, length-set}
use lib.Seq.{get_or-set_same, get_or-set_other}
use Rattle.semantics.specs.Sizes.{operator_count, name_most, dictionary_words_most}
use Rattle.semantics.specs.Values.{Value}
use Rattle.semantics.specs.Machine as Floo
use Rattle.semantics.specs.Machine.{Slot, with_dictionary, intern}
use Rattle.semantics.specs.ListLaws.{some_one, none_some, all_of}
use Rattle.store.specs.Rep as Store
use Rattle.store.specs.Rep.{Names, Stands, byte_of}
use Rattle.store.proofs.Fresh.{rep_keys}
use Rattle.store.proofs.Rooting.{rep_alike}
use Rattle.store.proofs.Standing.{stands_keys, getElem?-append}
use Rattle.machine.specs.Words.{binding_tag, binding_payload}
use Rattle.semantics.specs.NameLaws.{Distinct}
use Rattle.machine.specs.Places.{frame_value, binding_at, bound, root_in, roots, root_count, keys, texts}
use Rattle.machine.specs.Rep as Words
use Rattle.machine.specs.Rep.{Rep, Stored, Is, IsIn, Bound, Slots, SlotIs, Handled}
use Rattle.machine.specs.declared.Machine.{Machine}
use Rattle.machine.proofs.Carrying.{Reached, items_map, slots_map, handled_map, handled_kept, frames_map}
use Rattle.machine.proofs.Rooms.{keys_enough, names_enough}
use Rattle.dictionary.specs.Names.{slot_of, Kept, Adds}
use Rattle.dictionary.specs.Packing.{Spells}
use Rattle.dictionary.proofs.Slots.{slots_frame, slots_more}
use Rattle.semantics.specs.SlotLaws.{keys_of, Absent, slotted_absent, no_key}
use Rattle.dictionary.proofs.Dictionaries.{absent}

-- ---- words past the names

pub kept_rep : {m : Machine} {s e d d' c l : List ℕ} {μ : Floo.Machine}
    → Rep m s e d c l μ
    → 12 * m.names ≤ length d'
    → length d' ≤ dictionary_words_most
    → Kept (12 * m.names) d d'
    → Rep m s e d' c l μ
kept_rep {m} R fits few K =
    record {
      world = R.world;
      stored = R.stored;
      items = R.items;
      frames = R.frames;
      slots = slots_frame (λ j l. K.below j (omega (arith, R.naming.many))) R.slots;
      handled = handled_kept _ _ (λ i a b. K.below i (omega (arith, names_enough R))) (λ k n q. q) R.handled;
      sealed = R.sealed;
      naming = R.naming;
      logging = R.logging;
      stopped = R.stopped;
      rooms = record {
        stack_fits = R.rooms.stack_fits;
        exec_fits = R.rooms.exec_fits;
        dict_fits = fits;
        stack_few = R.rooms.stack_few;
        exec_few = R.rooms.exec_few;
        dict_few = few;
      };
    }

-- ---- one name more

-- The words of the new slot, and those before it.
pub record Slotted (k : ℕ) (n d d' : List ℕ) : Type 0 where
  pub long : length d' ≡ length d
  pub below : (i : ℕ) → i < 12 * k → get_or d' i 0 ≡ get_or d i 0
  pub size : get_or d' (12 * k) 0 ≡ length n
  pub spelt : (j : ℕ) → j < 32 → byte_of (get_or d' (12 * k + 1 + j / 4) 0) (j % 4) ≡ get_or n j 0
  pub unbound : binding_tag d' k ≡ 7

-- The small state with another number of names.
abbrev pub with_names : ℕ → Machine → Machine
with_names k m = record { depth = m.depth; frames = m.frames; names = k; written = m.written; lists = m.lists; stopped = m.stopped }

-- An unbound slot more is an empty place more.
binding_more : (d : List Slot) (n : List ℕ) (i : ℕ) → binding_at (d ++ (record { key = n; binding = none } ∷ [])) i ≡ binding_at d i
unfolding binding_at
binding_more [] n zero = refl
binding_more [] n (suc i) = refl
binding_more (s ∷ d) n zero = refl
binding_more (s ∷ d) n (suc i) = binding_more d n i

take_more : {A : Type 0} (k : ℕ) (a b : List A) → k ≤ length a → take k (a ++ b) ≡ take k a
take_more zero a b l = refl
take_more (suc k) [] b l = absurd (omega arith)
take_more (suc k) (x ∷ a) b l = ap (λ t. x ∷ t) (take_more k a b (omega arith))

-- An element of a list with one more is one of the list, or the last.
last_or : {A : Type 0} (l : List A) (x : A) (i : ℕ) (a : A) → get_elem? (l ++ (x ∷ [])) i ≡ some a → (get_elem? l i ≡ some a) ⊎ ((i ≡ length l) × (a ≡ x))
last_or [] x zero a e = inr (refl, sym (some_one e))
last_or [] x (suc i) a e = absurd (none_some e)
last_or (y ∷ l) x zero a e = inl e
last_or (y ∷ l) x (suc i) a e =
    ⊎_elim
    (λ (q : get_elem? l i ≡ some a). inl q)
    (λ (q : (i ≡ length l) × (a ≡ x)). inr (ap suc q.0, q.1))
    (last_or l x i a e)

distinct_more : (ks : List (List ℕ)) (n : List ℕ) → Distinct ks → ((i : ℕ) → get_elem? ks i ≡ some n → ⊥) → Distinct (ks ++ (n ∷ []))
distinct_more ks n one new i j k p q =
    ⊎_elim
    (λ (x : get_elem? ks i ≡ some k).
    ⊎_elim
    (λ (y : get_elem? ks j ≡ some k). one i j k x y)
    (λ (y : (j ≡ length ks) × (k ≡ n)). absurd (new i (x ∙ ap some y.1)))
    (last_or ks n j k q))
    (λ (x : (i ≡ length ks) × (k ≡ n)).
    ⊎_elim
    (λ (y : get_elem? ks j ≡ some k). absurd (new j (y ∙ ap some x.1)))
    (λ (y : (j ≡ length ks) × (k ≡ n)). x.0 ∙ sym y.0)
    (last_or ks n j k q))
    (last_or ks n i k p)

-- Root places where the bindings are the same.
roots_same : (μ : Floo.Machine) (d : List Slot) → ((i : ℕ) → binding_at d i ≡ binding_at μ.dictionary i) → (r : ℕ) → roots (with_dictionary d μ) r ≡ roots μ r
unfolding roots root_in with_dictionary
roots_same μ d h r = by (r % 4)
  where
    by : (k : ℕ) → root_in (with_dictionary d μ) k (r / 4) ≡ root_in μ k (r / 4)
    by zero = refl
    by (suc zero) = refl
    by (suc (suc zero)) = h (r / 4)
    by (suc (suc (suc zero))) = refl
    by (suc (suc (suc (suc k)))) = refl

anything : (v : Value) → Reached (λ i. Unit {0}) v
anything v = record { reach = λ i n. tt }

module _ {m : Machine} {s e d c l : List ℕ} {μ : Floo.Machine} (R : Rep m s e d c l μ) (n : List ℕ) (short : length n ≤ name_most) (new : slot_of n μ.dictionary ≡ m.names)
    (room : 12 * m.names + 12 ≤ length d) {d' : List ℕ} (W : Slotted m.names n d d') where
  abbrev unbound : Slot
  unbound = record { key = n; binding = none }

  abbrev dictionary : List Slot
  dictionary = μ.dictionary ++ (unbound ∷ [])

  nowhere : Absent n μ.dictionary
  nowhere = absent n μ.dictionary (new ∙ R.naming.many)

  more : keys_of dictionary ≡ keys μ ++ (n ∷ [])
  more = map-append (λ (t : Slot). t.key) μ.dictionary (unbound ∷ [])

  abbrev Now : Value → ℕ → ℕ → Type 0
  Now = Is R.world (keys_of dictionary) (texts μ)

  carry : (v : Value) (t p : ℕ) → Reached (λ i. Unit {0}) v → IsIn R.world μ v t p → Now v t p
  carry v t p q h =
      record { stands = subst (λ ks. Stands ks (texts μ) R.world.ρ v t p) (sym more) (stands_keys (n ∷ []) h.stands); alive = h.alive }

  slot_new : SlotIs Now d' (0 + length μ.dictionary) unbound
  slot_new =
      let at : m.names ≡ 0 + length μ.dictionary = omega (arith, R.naming.many) in
      let tag : Bound Now none (binding_tag d' m.names) (binding_payload d' m.names) = rw W.unbound Words.unbound in
      subst (λ k. SlotIs Now d' k unbound) at (record { size = W.size; short = short; spelt = W.spelt; binding = tag })

  slots_new : Slots Now d' 0 dictionary
  slots_new =
      slots_more
      (slots_frame (λ j x. W.below j (omega (arith, R.naming.many))) (slots_map carry (all_of (λ (t : Slot). anything (bound t.binding)) μ.dictionary) R.slots))
      slot_new

  handled_new : Handled Now (keys_of dictionary) d' μ.handlers μ.latest
  handled_new =
      handled_kept d d' (λ i a b. W.below i (omega (arith, names_enough R)))
      (λ k x q. ap (λ ks. get_elem? ks k) more ∙ getElem?-append (keys μ) (n ∷ []) k x q)
      (handled_map carry (all_of (λ (t : Slot). anything (bound t.binding)) μ.handlers) R.handled)

  stored_new : Stored R.world m.lists c (keys_of dictionary) μ.store (roots (with_dictionary dictionary μ))
  stored_new =
      let same = roots_same μ dictionary (binding_more μ.dictionary n) in
      let objects = subst (λ ks. Store.Rep ks root_count R.world.ρ R.world.ghost c μ.store (roots μ)) (sym more) (rep_keys (n ∷ []) R.stored.objects) in
      record {
        full = R.stored.full;
        none_dead = R.stored.none_dead;
        none_out = R.stored.none_out;
        objects = rep_alike objects (λ x i. (λ a. subst (λ y. Names y i) (sym (same x)) a, λ a. subst (λ y. Names y i) (same x) a));
      }

  added : Rep (with_names (m.names + 1) m) s e d' c l (with_dictionary dictionary μ)
  unfolding with_dictionary
  added =
      record {
        world = R.world;
        stored = stored_new;
        items = items_map carry (all_of anything μ.stack) R.items;
        frames = frames_map carry (λ i t p w. refl) (λ i t p a r q h o. o) (all_of (λ f. anything (frame_value f)) μ.exec) R.frames;
        slots = slots_new;
        handled = handled_new;
        sealed = R.sealed;
        naming = record {
          many = omega (arith, R.naming.many, length-append μ.dictionary (unbound ∷ []));
          titled = ap (take operator_count) more ∙ take_more operator_count (keys μ) (n ∷ []) (keys_enough R) ∙ R.naming.titled;
          distinct = subst Distinct (sym more) (distinct_more (keys μ) n R.naming.distinct (no_key n nowhere));
        };
        logging = R.logging;
        stopped = R.stopped;
        rooms = record {
          stack_fits = R.rooms.stack_fits;
          exec_fits = R.rooms.exec_fits;
          dict_fits = omega (arith, W.long);
          stack_few = R.rooms.stack_few;
          exec_few = R.rooms.exec_few;
          dict_few = omega (arith, W.long, R.rooms.dict_few);
        };
      }

  pub add_rep : Rep (with_names (m.names + 1) m) s e d' c l (intern n μ)
  unfolding intern
  add_rep = subst (λ x. Rep (with_names (m.names + 1) m) s e d' c l (with_dictionary x μ)) (sym (slotted_absent n nowhere)) added

-- ---- the words that `add` leaves

pub slotted_words : {k : ℕ} {n d d₁ : List ℕ} → 12 * k + 12 ≤ length d → length d₁ ≡ length d → Spells k n d d₁ → Slotted k n d (set d₁ (12 * k + 9) 7)
slotted_words {k} {n} {d} {d₁} room long P =
    record {
      long = length-set d₁ (12 * k + 9) 7 ∙ long;
      below = λ i l. get_or-set_other d₁ (12 * k + 9) i 7 0 (λ e. omega arith) ∙ P.others i (λ x. omega arith);
      size = get_or-set_other d₁ (12 * k + 9) (12 * k) 7 0 (λ e. omega arith) ∙ P.size;
      spelt = λ j l. ap (λ w. byte_of w (j % 4)) (get_or-set_other d₁ (12 * k + 9) (12 * k + 1 + j / 4) 7 0 (λ e. omega arith)) ∙ P.spelt j l;
      unbound = get_or-set_same d₁ (12 * k + 9) 7 0 (omega arith);
    }

pub adds : {m : Machine} {n d d' : List ℕ} → length n ≤ name_most → 12 * m.names + 12 ≤ length d → Slotted m.names n d d' → Adds m (with_names (m.names + 1) m) d d' n
adds {n = n} short room W = record { moves = λ s e c l μ R new. add_rep R n short new room W; kept = record { below = W.below } }
