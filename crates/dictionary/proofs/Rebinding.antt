-- The binding of a name, by its slot: its words stand for what the definition looks up, and it may be copied to an item or to an execution slot, or become a
-- copy of an item. What names nothing is one to `recount`, an unbound name as null.
-- Assumes nothing.
use mathlib.Core.Path.{◌≡◌, refl, sym, ap, ◌∙◌, subst}
use mathlib.Core.Bool.{Bool, false}
use mathlib.Core.List.{List, [], ◌∷◌}
use mathlib.Core.Logic.{⊎_elim}
use mathlib.Core.Option.{Option, none, some}
use Prim.Native.Nat.{ℕ, zero, suc, ◌+◌, ◌*◌, ◌/◌, ◌%◌, ◌≤◌, ◌<◌}
use native.Mathlib.Omega.{arith}
use lib.ListN.{length, get_or, set, get_elem?, length-set}
use lib.Seq.{get_or-set_same, get_or-set_other}
use Rattle.semantics.specs.Sizes.{name_most, dictionary_words_most}
use Rattle.semantics.specs.Values.{Value, null, name}
use Rattle.semantics.specs.Machine as Floo
use Rattle.semantics.specs.Machine.{Slot, with_stack, with_exec, with_dictionary, with_handlers, lookup, assign}
use Rattle.semantics.specs.ListLaws.{none_some}
use Rattle.store.specs.Rep.{byte_of, a_literal}
use Rattle.store.proofs.Standing.{not_seven}
use Rattle.heap.specs.Shape.{target}
use Rattle.heap.specs.Upd.{upd}
use Rattle.heap.specs.declared.Lists.{Lists}
use Rattle.heap.proofs.Parts as parts
use Rattle.heap.proofs.Upds.{same?, upd_at, upd_other}
use Rattle.machine.specs.Words.{binding_tag, binding_payload}
use Rattle.machine.specs.Places as Places
use Rattle.machine.specs.Places.{binding_at, root_in, roots, root_count, keys}
use Rattle.machine.specs.Rep.{Rep, World, Is, IsIn, Bound, unbound, bound, SlotIs, Slots}
use Rattle.machine.specs.Recount.{Placed, Recounts}
use Rattle.machine.specs.declared.Machine.{Machine}
use Rattle.machine.proofs.Dropping.{nothing}
use Rattle.machine.proofs.Rerooting.{with_depths, placed, rerooted_all}
use Rattle.machine.proofs.Carrying.{handled_kept}
use Rattle.machine.proofs.Roots.{binding_root, region_changed}
use Rattle.dictionary.specs.Names.{slot_of}
use Rattle.dictionary.proofs.Slots.{slot_at, slots_set}
use Rattle.semantics.specs.SlotLaws.{Sits, sits, lookup_sits, assign_sits, element_sits, keys_set}
use Rattle.dictionary.proofs.Dictionaries.{slot_sits}

-- ---- one binding changes

pub binding_set : (d : List Slot) (k : ℕ) (s : Slot) → k < length d → (j : ℕ) → binding_at (set d k s) j ≡ upd (binding_at d) k (Places.bound s.binding) j
unfolding binding_at
binding_set [] k s l j = absurd (omega arith)
binding_set (t ∷ d) zero s l zero = sym (upd_at (binding_at (t ∷ d)) 0 (Places.bound s.binding) 0 refl)
binding_set (t ∷ d) zero s l (suc j) = sym (upd_other (binding_at (t ∷ d)) 0 (Places.bound s.binding) (suc j) (λ e. omega arith))
binding_set (t ∷ d) (suc k) s l zero = sym (upd_other (binding_at (t ∷ d)) (suc k) (Places.bound s.binding) 0 (λ e. omega arith))
binding_set (t ∷ d) (suc k) s l (suc j) =
    binding_set d k s (omega arith) j
    ∙ ⊎_elim
    (λ (e : j ≡ k).
    upd_at (binding_at d) k (Places.bound s.binding) j e ∙ sym (upd_at (binding_at (t ∷ d)) (suc k) (Places.bound s.binding) (suc j) (ap suc e)))
    (λ (e : j ≡ k → ⊥).
    upd_other (binding_at d) k (Places.bound s.binding) j e
    ∙ sym (upd_other (binding_at (t ∷ d)) (suc k) (Places.bound s.binding) (suc j) (λ z. e (omega arith))))
    (same? j k)

binding_changed : (μ : Floo.Machine) (d : List Slot) (k : ℕ) (v : Value)
    → ((j : ℕ) → binding_at d j ≡ upd (binding_at μ.dictionary) k v j)
    → (r : ℕ)
    → roots (with_dictionary d μ) r ≡ upd (roots μ) (4 * k + 2) v r
unfolding root_in with_dictionary
binding_changed μ d k v h r = region_changed μ (with_dictionary d μ) 2 k v (omega arith) h other r
  where
    other : (x i : ℕ) → (x ≡ 2 → ⊥) → root_in (with_dictionary d μ) x i ≡ root_in μ x i
    other zero i n = refl
    other (suc zero) i n = refl
    other (suc (suc zero)) i n = absurd (n refl)
    other (suc (suc (suc zero))) i n = refl
    other (suc (suc (suc (suc x)))) i n = refl

pub binding_here : (d : List Slot) (k : ℕ) {s : Slot} → get_elem? d k ≡ some s → binding_at d k ≡ Places.bound s.binding
unfolding binding_at
binding_here [] k e = absurd (none_some e)
binding_here (t ∷ d) zero e = cc
binding_here (t ∷ d) (suc k) e = binding_here d k e

-- ---- to `recount`, words that name the same are the same

module _ {s : Lists} {c : List ℕ} {t p t' p' tag pay : ℕ} (alike : target 0 t p ≡ target 0 t' p') where
  pub placed_alike : Placed s c t p tag pay → Placed s c t' p' tag pay
  placed_alike (P, g, x, L) =
      (P, g, x, record { full = L.full; none_dead = L.none_dead; alive = L.alive; root = L.root; inside = L.inside; holds = L.holds ∙ alike })

  pub recounts_alike : {r : Lists} {c' : List ℕ} → Recounts s c t' p' tag pay r c' → Recounts s c t p tag pay r c'
  recounts_alike K =
      record {
        none_dead = K.none_dead;
        changes = λ P g x L.
            K.changes P g x
            (record { full = L.full; none_dead = L.none_dead; alive = L.alive; root = L.root; inside = L.inside; holds = L.holds ∙ alike });
      }

-- Words of the binding's value that name what the binding's words name.
pub record Valued (A : Value → ℕ → ℕ → Type 0) (v : Value) (t p : ℕ) : Type 0 where
  pub tag : ℕ
  pub pay : ℕ
  pub is : A v tag pay
  pub alike : target 0 tag pay ≡ target 0 t p

pub valued : {A : Value → ℕ → ℕ → Type 0} {o : Option Value} {t p : ℕ} → A null 0 0 → Bound A o t p → Valued A (Places.bound o) t p
valued empty unbound = record { tag = 0; pay = 0; is = empty; alike = parts.no_object 0 0 0 refl (omega arith) ∙ sym (parts.no_object 0 7 _ refl (omega arith)) }
valued {t = t} {p = p} empty (bound h) = record { tag = t; pay = p; is = h; alike = refl }

-- ---- the slot of a name

module _ {m : Machine} {st e d c l : List ℕ} {μ : Floo.Machine} (R : Rep m st e d c l μ) (k : ℕ) (n : List ℕ) (key : get_elem? (keys μ) k ≡ some n) where
  at : (s : Slot) × Sits n μ.dictionary k s
  at = sits n μ.dictionary k R.naming.distinct key

  pub slot_room : 12 * k + 12 ≤ length d
  slot_room = omega (arith, (element_sits n at.1).2, R.naming.many, R.rooms.dict_fits)

  pub slot_few : 12 * k + 12 ≤ dictionary_words_most
  slot_few = omega (arith, slot_room, R.rooms.dict_few)

  words : SlotIs (IsIn R.world μ) d k at.0
  words =
      let place : 0 + k ≡ k = omega arith in
      subst (λ x. SlotIs (IsIn R.world μ) d x at.0) place (slot_at k (element_sits n at.1).0 R.slots)

  pub slot_size : get_or d (12 * k) 0 ≡ length n
  slot_size = words.size ∙ ap length (element_sits n at.1).1

  -- The words of the binding stand for what is looked up, and the slot is the name's.
  pub binding_at_lem : Bound (IsIn R.world μ) (lookup n μ.dictionary) (binding_tag d k) (binding_payload d k) × (slot_of n μ.dictionary ≡ k)
  binding_at_lem =
      (subst (λ o. Bound (IsIn R.world μ) o (binding_tag d k) (binding_payload d k)) (sym (lookup_sits n at.1)) words.binding, slot_sits n at.1)

  -- ---- the binding becomes another value

  abbrev old : Valued (IsIn R.world μ) (Places.bound at.0.binding) (binding_tag d k) (binding_payload d k)
  old = valued nothing words.binding

  held : IsIn R.world μ (roots μ (4 * k + 2)) old.tag old.pay
  held =
      subst (λ v. IsIn R.world μ v old.tag old.pay)
      (sym (binding_root μ k ∙ binding_here μ.dictionary k (element_sits n at.1).0))
      old.is

  low : 4 * k + 2 < root_count
  low = omega (arith, slot_few)

  module _ {v : Value} {t p : ℕ} (new : IsIn R.world μ v t p) where
    pub bind_placed : Placed m.lists c (binding_tag d k) (binding_payload d k) t p
    bind_placed = placed_alike old.alike (placed R (4 * k + 2) low held new)

    abbrev words_after : List ℕ
    words_after = set (set d (12 * k + 9) t) (12 * k + 10) p

    after_long : length words_after ≡ length d
    after_long = length-set (set d (12 * k + 9) t) (12 * k + 10) p ∙ length-set d (12 * k + 9) t

    elsewhere : (j : ℕ) → (j ≡ 12 * k + 9 → ⊥) → (j ≡ 12 * k + 10 → ⊥) → get_or words_after j 0 ≡ get_or d j 0
    elsewhere j a b = get_or-set_other (set d (12 * k + 9) t) (12 * k + 10) j p 0 b ∙ get_or-set_other d (12 * k + 9) j t 0 a

    tag_after : binding_tag words_after k ≡ t
    tag_after =
        get_or-set_other (set d (12 * k + 9) t) (12 * k + 10) (12 * k + 9) p 0 (λ q. omega arith)
        ∙ get_or-set_same d (12 * k + 9) t 0 (omega (arith, slot_room))

    pay_after : binding_payload words_after k ≡ p
    pay_after = get_or-set_same (set d (12 * k + 9) t) (12 * k + 10) p 0 (omega (arith, slot_room, length-set d (12 * k + 9) t))

    abbrev slot_after : Slot
    slot_after = record { key = n; binding = some v }

    slot_is : SlotIs (IsIn R.world μ) words_after (0 + k) slot_after
    slot_is =
        let place : k ≡ 0 + k = omega arith in
        let same_key = (element_sits n at.1).1 in
        let both : Bound (IsIn R.world μ) (some v) (binding_tag words_after k) (binding_payload words_after k) = rw (tag_after, pay_after) (bound new) in
        subst (λ x. SlotIs (IsIn R.world μ) words_after x slot_after) place
        (record {
          size = elsewhere (12 * k) (λ q. omega arith) (λ q. omega arith) ∙ words.size ∙ ap length same_key;
          short = subst (λ x. length x ≤ name_most) same_key words.short;
          spelt = λ j x.
              ap (λ w. byte_of w (j % 4)) (elsewhere (12 * k + 1 + j / 4) (λ q. omega arith) (λ q. omega arith))
              ∙ words.spelt j x
              ∙ ap (λ w. get_or w j 0) same_key;
          binding = both;
        })

    all_slots : Slots (IsIn R.world μ) words_after 0 (set μ.dictionary k slot_after)
    all_slots = slots_set k (element_sits n at.1).2 (λ j x. elsewhere j (λ q. omega (arith, x (omega arith))) (λ q. omega (arith, x (omega arith)))) R.slots slot_is

    pub bind_rep : {s' : Lists} {c' : List ℕ}
        → Recounts m.lists c (binding_tag d k) (binding_payload d k) t p s' c'
        → Rep (with_depths m.depth m.frames s' m) st e words_after c' l (with_dictionary (assign n v μ.dictionary) μ)
    unfolding with_exec with_stack with_dictionary with_handlers
    bind_rep {s'} {c'} K =
        subst (λ x. Rep (with_depths m.depth m.frames s' m) st e words_after c' l (with_dictionary x μ)) (sym (assign_sits n v at.1))
        (rerooted_all R (4 * k + 2) low held new (recounts_alike old.alike K) μ.stack μ.exec (set μ.dictionary k slot_after) μ.handlers
        (keys_set n (some v) at.1)
        (binding_changed μ (set μ.dictionary k slot_after) k v (binding_set μ.dictionary k slot_after (element_sits n at.1).2))
        refl refl after_long R.rooms.stack_fits R.rooms.exec_fits R.items R.frames all_slots
        (handled_kept d words_after (λ i a b. elsewhere i (λ q. omega arith) (λ q. omega arith)) (λ j x q. q) R.handled))

-- Whether there is a binding, by its tag.
pub bound_none : {w : World} {names : List (List ℕ)} {strings : List Bool} {o : Option Value} {t p : ℕ} → Bound (Is w names strings) o t p → t ≡ 7 → o ≡ none
bound_none unbound q = refl
bound_none (bound h) q = absurd (not_seven h.stands q)

pub bound_some : {A : Value → ℕ → ℕ → Type 0} {o : Option Value} {t p : ℕ} → Bound A o t p → (t ≡ 7 → ⊥) → (v : Value) × (o ≡ some v)
bound_some unbound n = absurd (n refl)
bound_some (bound {v = v} h) n = (v, refl)

-- The value that a bound name's words stand for.
pub bound_is : {A : Value → ℕ → ℕ → Type 0} {o : Option Value} {v : Value} {t p : ℕ} → Bound A o t p → o ≡ some v → A v t p
bound_is {A} {v = v} {t = t} {p = p} (bound {v = u} h) e =
    let same : u ≡ v = cc in
    subst (λ x. A x t p) same h
bound_is unbound e = absurd (none_some e)

module _ {m : Machine} {st e d c l : List ℕ} {μ : Floo.Machine} (R : Rep m st e d c l μ) (k : ℕ) (n : List ℕ) (key : get_elem? (keys μ) k ≡ some n) where
  pub bound_value : {v : Value} → lookup n μ.dictionary ≡ some v → IsIn R.world μ v (binding_tag d k) (binding_payload d k)
  bound_value q = bound_is (binding_at_lem R k n key).0 q

  -- The same, by the words that were read.
  pub bound_words : {v : Value} {t p : ℕ} → lookup n μ.dictionary ≡ some v → t ≡ binding_tag d k → p ≡ binding_payload d k → IsIn R.world μ v t p
  bound_words q x y = rw (x, y) (bound_value q)

-- The words of a literal name.
pub name_words_lem : (w : World) (μ : Floo.Machine) (k : ℕ) {n : List ℕ} → get_elem? (keys μ) k ≡ some n → IsIn w μ (name false n) 5 k
name_words_lem w μ k key = record { stands = a_literal key; alive = λ l. absurd (omega arith) }
