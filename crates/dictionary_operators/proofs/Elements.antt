-- One element of a procedure is bound: by its tag and by the tag of its name's binding it stays, or becomes the operator of the binding. Neither the old nor the
-- new value names an object.
-- Assumes nothing.
use mathlib.Core.Path.{◌≡◌, refl, sym, ap, ◌∙◌, subst}
use mathlib.Core.Bool.{Bool, true}
use mathlib.Core.List.{List, []}
use mathlib.Core.Option.{Option, some}
use Prim.Native.Nat.{ℕ, ◌+◌, ◌*◌, ◌≤◌, ◌<◌}
use native.Mathlib.Omega.{arith}
use lib.ListN.{length, get_or, set, get_elem?}
use lib.Seq.{set-get_or}
use Rattle.semantics.specs.Sizes.{dictionary_words_most}
use Rattle.semantics.specs.Values.{Value, name, operator, null, elements}
use Rattle.semantics.specs.Machine as Floo
use Rattle.semantics.specs.Machine.{with_store, object, change, lookup}
use Rattle.semantics.specs.ControlOperators.{bound, operator_or}
use Rattle.heap.specs.Word.{word}
use Rattle.heap.specs.Chain.{live}
use Rattle.heap.specs.Shape.{Ghost, Shape}
use Rattle.heap.specs.Assign.{Assigned, Target}
use Rattle.heap.specs.declared.Lists.{Lists}
use Rattle.heap.proofs.Shapes.{room}
use Rattle.store.specs.Rep.{Stands, a_null, an_integer, a_boolean, a_mark, an_operator, a_literal, an_executable, a_string, an_array, a_procedure}
use Rattle.store.proofs.Standing.{is_executable, is_operator}
use Rattle.machine.specs.Words.{item_payload, binding_tag, binding_payload}
use Rattle.machine.specs.Places.{keys}
use Rattle.machine.specs.Rep as Words
use Rattle.machine.specs.Rep.{Rep, IsIn, Bound}
use Rattle.machine.specs.declared.Machine.{Machine}
use Rattle.machine.proofs.Restacking.{with_depth}
use Rattle.elements.specs.Elements.{HasElement, item_id}
use Rattle.elements.proofs.Arrays.{Found, item_id_lem, size_read, here, sought, at_cell, element_value}
use Rattle.elements.proofs.Putting.{value_target, value_put}
use Rattle.dictionary.proofs.Rebinding.{binding_at_lem, slot_room}
use Rattle.dictionary_operators.specs.Binding.{IsProcedure, elements_in, HasElementAt, BindsElement}

-- ---- a value by its tag

stands_bound : {ks : List (List ℕ)} {texts : List Bool} {ρ : ℕ → ℕ} {v : Value} {t p : ℕ} (μ : Floo.Machine) → Stands ks texts ρ v t p → (t ≡ 6 → ⊥) → bound μ v ≡ v
unfolding bound
stands_bound μ a_null n = refl
stands_bound μ an_integer n = refl
stands_bound μ a_boolean n = refl
stands_bound μ a_mark n = refl
stands_bound μ (an_operator q) n = refl
stands_bound μ (a_literal q) n = refl
stands_bound μ (an_executable q) n = absurd (n refl)
stands_bound μ (a_string q k) n = refl
stands_bound μ (an_array q k) n = refl
stands_bound μ (a_procedure q k) n = refl

stands_other : {ks : List (List ℕ)} {texts : List Bool} {ρ : ℕ → ℕ} {v : Value} {t p : ℕ} (u : Value) → Stands ks texts ρ v t p → (t ≡ 4 → ⊥) → operator_or u (some v) ≡ u
unfolding operator_or
stands_other u a_null n = refl
stands_other u an_integer n = refl
stands_other u a_boolean n = refl
stands_other u a_mark n = refl
stands_other u (an_operator q) n = absurd (n refl)
stands_other u (a_literal q) n = refl
stands_other u (an_executable q) n = refl
stands_other u (a_string q k) n = refl
stands_other u (an_array q k) n = refl
stands_other u (a_procedure q k) n = refl

module _ {m : Machine} {s e d c l : List ℕ} {μ : Floo.Machine} (R : Rep m s e d c l μ) where
  bound_other : (u : Value) {o : Option Value} {t p : ℕ} → Bound (IsIn R.world μ) o t p → (t ≡ 4 → ⊥) → operator_or u o ≡ u
  unfolding operator_or
  bound_other u Words.unbound n = refl
  bound_other u (Words.bound h) n = stands_other u h.stands n

  record Operates (o : Option Value) (p : ℕ) : Type 0 where
    pub title : List ℕ
    pub value : o ≡ some (operator title)
    pub words : IsIn R.world μ (operator title) 4 p

  operates : {o : Option Value} {t p : ℕ} → Bound (IsIn R.world μ) o t p → t ≡ 4 → Operates o p
  operates Words.unbound e = absurd (omega arith)
  operates (Words.bound {t = t} {p = p} h) e =
      let y = is_operator h.stands e in
      record { title = y.0; value = ap some y.1; words = rw (← y.1, ← e) h }

-- ---- element q

abbrev element_of : (μ : Floo.Machine) (q id : ℕ) → IsProcedure μ id → q < length (elements_in μ id) → HasElement 0 q μ
element_of μ q id p inside = record { array = record { executable = true; id = id; item = p }; inside = inside }

module _ {m : Machine} {s e d c l : List ℕ} {μ : Floo.Machine} (R : Rep m s e d c l μ) (q k : ℕ) (h : m.depth ≡ k + 1) (id : ℕ) (p : IsProcedure μ id) (inside : q < length (elements_in μ id))
    (cell : ℕ) (found : Found c (item_payload s k) q cell) where
  abbrev has : HasElement 0 q μ
  has = element_of μ q id p inside

  named_id : item_id 0 μ ≡ id
  named_id = item_id_lem has.array

  abbrev value : Value
  value = get_or (elements_in μ id) q null

  words : (t w : ℕ) → t ≡ word c cell 0 → w ≡ word c cell 1 → IsIn R.world μ value t w
  words t w te we =
      subst (λ x. IsIn R.world μ (get_or (elements_in μ x) q null) t w) named_id (element_value R 0 k q (omega arith) has cell found t w te we)

  whole : object μ id ≡ elements (elements_in μ id)
  unfolding object
  whole =
      let at = here R 0 k q (omega arith) has in
      subst (λ x. object μ x ≡ elements (elements_in μ x)) (at.stands ∙ named_id) at.whole

  same : change id (elements (set (elements_in μ id) q value)) μ ≡ μ
  unfolding change with_store object
  same =
      ap (λ vs. with_store (set μ.store id (elements vs)) μ) (set-get_or (elements_in μ id) q null)
      ∙ ap (λ x. with_store (set μ.store id x) μ) (sym whole)
      ∙ ap (λ x. with_store x μ) (set-get_or μ.store id (elements []))

  abbrev after : Value → Floo.Machine
  after v = change id (elements (set (elements_in μ id) q v)) μ

  stays : bound μ value ≡ value → Rep m s e d c l (after (bound μ value))
  stays x = subst (Rep m s e d c l) (sym (ap after x ∙ same)) R

  module _ (t w : ℕ) (te : t ≡ word c cell 0) (we : w ≡ word c cell 1) where
    skips : (t ≡ 6 → ⊥) → Rep m s e d c l (after (bound μ value))
    skips n = stays (stands_bound μ (words t w te we).stands n)

    module _ (is : t ≡ 6) where
      text : (n : List ℕ) × (value ≡ name true n) × (get_elem? (keys μ) w ≡ some n)
      text = is_executable (words t w te we).stands is

      slot_there : (12 * w + 12 ≤ length d) × (length d ≤ dictionary_words_most)
      slot_there = (slot_room R w text.0 text.2, R.rooms.dict_few)

      looked_up : bound μ value ≡ operator_or (name true text.0) (lookup text.0 μ.dictionary)
      unfolding bound
      looked_up = ap (bound μ) text.1

      keeps : (binding_tag d w ≡ 4 → ⊥) → Rep m s e d c l (after (bound μ value))
      keeps n = stays (looked_up ∙ bound_other R (name true text.0) (binding_at_lem R w text.0 text.2).0 n ∙ sym text.1)

      module _ (op : binding_tag d w ≡ 4) where
        binding : Operates R (lookup text.0 μ.dictionary) (binding_payload d w)
        binding = operates R (binding_at_lem R w text.0 text.2).0 op

        becomes : bound μ value ≡ operator binding.title
        unfolding operator_or
        becomes = looked_up ∙ ap (operator_or (name true text.0)) binding.value

        target : Target cell 4 (binding_payload d w) m.lists c × (m.lists.dead ≡ 0)
        target = (value_target R 0 k q (omega arith) has cell found binding.words, R.stored.none_dead)

        puts : {r : Lists} {c' : List ℕ} → Assigned cell 4 (binding_payload d w) m.lists c r c' → r.dead ≡ 0 → Rep (with_depth m.depth r m) s e d c' l (after (bound μ value))
        puts {r} {c'} A z =
            subst (λ v. Rep (with_depth m.depth r m) s e d c' l (after v)) (sym becomes)
            (subst (λ x. Rep (with_depth m.depth r m) s e d c' l (change x (elements (set (elements_in μ x) q (operator binding.title))) μ)) named_id
            (value_put R 0 k q (omega arith) has cell found binding.words A z))

-- ---- what the code has compared

module _ {m : Machine} {s d c : List ℕ} (q k : ℕ) (h : m.depth ≡ k + 1) (W : HasElementAt q m s d c) where
  inside_too : {e l : List ℕ} {μ : Floo.Machine} → Rep m s e d c l μ → (id : ℕ) → IsProcedure μ id → q < length (elements_in μ id)
  inside_too R id p = omega (arith, W.5, size_read W.6 0 k (omega arith) W.4, size_read R 0 k (omega arith) p)

  pub bind_sought : (g : Ghost) × (n : ℕ) × Shape g n c × (g.own (item_payload s k) ≡ live) × (q < g.size (item_payload s k + 2))
  bind_sought = sought W.6 0 k q (omega arith) (element_of W.2 q W.3 W.4 W.5)

  module _ (cell : ℕ) (found : Found c (item_payload s k) q cell) where
    pub bind_room : cell * 4 + 4 ≤ length c
    bind_room = room W.6.stored.full.heap.shape cell (at_cell W.6 0 k q (omega arith) (element_of W.2 q W.3 W.4 W.5) cell found) refl

    module _ (t : ℕ) (te : t ≡ word c cell 0) where
      pub bind_skips : (t ≡ 6 → ⊥) → BindsElement q m m s d c c
      bind_skips n = record { moves = λ e l μ R id p. skips R q k h id p (inside_too R id p) cell found t (word c cell 1) te refl n }

      module _ (is : t ≡ 6) (w : ℕ) (we : w ≡ word c cell 1) where
        pub bind_slot : (12 * w + 12 ≤ length d) × (length d ≤ dictionary_words_most)
        bind_slot = slot_there W.6 q k h W.3 W.4 W.5 cell found t w te we is

        pub bind_keeps : (binding_tag d w ≡ 4 → ⊥) → BindsElement q m m s d c c
        bind_keeps n = record { moves = λ e l μ R id p. keeps R q k h id p (inside_too R id p) cell found t w te we is n }

        module _ (op : binding_tag d w ≡ 4) {pay : ℕ} (pe : pay ≡ binding_payload d w) where
          pub bind_target : Target cell 4 pay m.lists c × (m.lists.dead ≡ 0)
          bind_target = rw pe (target W.6 q k h W.3 W.4 W.5 cell found t w te we is op)

          pub bind_puts : {r : Lists} {c' : List ℕ} → Assigned cell 4 pay m.lists c r c' → r.dead ≡ 0 → BindsElement q m (with_depth m.depth r m) s d c c'
          bind_puts {r} {c'} A z =
              record {
                moves = λ e l μ R id p.
                    puts R q k h id p (inside_too R id p) cell found t w te we is op (subst (λ x. Assigned cell 4 x m.lists c r c') pe A) z;
              }
