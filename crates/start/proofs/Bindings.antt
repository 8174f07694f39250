-- The bindings of the predefined names: operators by their numbers, then mark's, two truth values and null; none names an object.
-- Assumes nothing.
use mathlib.Core.Path.{◌≡◌, refl, sym, ap, ◌∙◌, subst}
use mathlib.Core.Bool.{Bool, true, false, not}
use mathlib.Core.List.{List, [], ◌∷◌, ◌++◌, map}
use mathlib.Core.Logic.{⊎_elim}
use mathlib.Core.Option.{some}
use Prim.Native.Nat.{ℕ, zero, suc, ◌+◌, ◌-◌, ◌≤◌, ◌<◌}
use native.Mathlib.Omega.{arith}
use lib.Dec.{T, eqb}
use lib.ListN.{length, get_elem?}
use borrow.Author.Tests.{lt-ltb, le-ltb, le-leb, lt-leb, eq-eqb, ne_eqb}
use Rattle.semantics.specs.Sizes.{operator_count}
use Rattle.semantics.specs.Text.{bytes}
use Rattle.semantics.specs.Values.{Value, operator, boolean, null}
use Rattle.semantics.specs.Machine.{Slot}
use Rattle.semantics.specs.Operators.{Entry, ◌is◌, table}
use Rattle.semantics.specs.Steps as Steps
use Rattle.semantics.specs.Steps.{predefined}
use Rattle.semantics.specs.ListLaws.{All, nil, cons, every, all_every, some_one, none_some}
use Rattle.semantics.specs.NameLaws.{operator_count_lem}
use Rattle.heap.specs.Upd.{pick}
use Rattle.heap.proofs.Since.{lt_or_le}
use Rattle.store.specs.Rep.{titles, an_operator, a_boolean, a_null, Names, by_string, by_array}
use Rattle.machine.specs.Places.{bound, binding_at, is_object}
use Rattle.machine.specs.Rep as Words
use Rattle.machine.specs.Rep.{World, Is, Bound}
use Rattle.start.specs.Predefined.{tag_of, payload_of}

-- ---- the words of bindings

module _ (k : ℕ) where
  pub tag_operator : k ≤ operator_count → 4 ≡ tag_of k
  unfolding tag_of
  tag_operator l = rw (le-leb k operator_count l, pick) refl

  pub tag_boolean : operator_count < k → k ≤ (operator_count + 2) → 2 ≡ tag_of k
  unfolding tag_of
  tag_boolean g l = rw (lt-leb k operator_count g, le-leb k (operator_count + 2) l, pick) refl

  pub tag_null : operator_count < k → (operator_count + 2) < k → 0 ≡ tag_of k
  unfolding tag_of
  tag_null g l = rw (lt-leb k operator_count g, lt-leb k (operator_count + 2) l, pick) refl

  pub payload_operator : k < operator_count → k ≡ payload_of k
  unfolding payload_of
  payload_operator l = sym (ap (λ b. pick b k (pick (eqb k operator_count) 37 (pick (eqb k (operator_count + 1)) 1 0))) (lt-ltb k operator_count l))

  pub payload_mark : operator_count ≤ k → k ≡ operator_count → 37 ≡ payload_of k
  unfolding payload_of
  payload_mark g e = rw (le-ltb k operator_count g, eq-eqb k operator_count e, pick) refl

  pub payload_true : operator_count ≤ k → (k ≡ operator_count → ⊥) → k ≡ (operator_count + 1) → 1 ≡ payload_of k
  unfolding payload_of
  payload_true g f e = rw (le-ltb k operator_count g, ne_eqb k operator_count f, eq-eqb k (operator_count + 1) e, pick) refl

  pub payload_none : operator_count ≤ k → (k ≡ operator_count → ⊥) → (k ≡ (operator_count + 1) → ⊥) → 0 ≡ payload_of k
  unfolding payload_of
  payload_none g f e = rw (le-ltb k operator_count g, ne_eqb k operator_count f, ne_eqb k (operator_count + 1) e, pick) refl

-- ---- what they stand for

abbrev of_entry : Entry → Slot
of_entry e = Steps.slot e.title (operator e.title)

abbrev others : List Slot
others =
    Steps.slot (bytes "[") (operator (bytes "mark"))
    ∷ Steps.slot (bytes "true") (boolean true)
    ∷ Steps.slot (bytes "false") (boolean false)
    ∷ Steps.slot (bytes "null") null
    ∷ []

predefined_is : predefined ≡ map of_entry table ++ others
unfolding predefined
predefined_is = refl

-- The slot of an operator.
pub record Operates (s : Slot) (titled : List (List ℕ)) (k : ℕ) : Type 0 where
  pub title : List ℕ
  pub binding : s.binding ≡ some (operator title)
  pub number : get_elem? titled k ≡ some title

operates : (es : List Entry) (rest : List Slot) (k : ℕ) (s : Slot)
    → k < length es
    → get_elem? (map of_entry es ++ rest) k ≡ some s
    → Operates s (map (λ (e : Entry). e.title) es) k
unfolding Steps.slot
operates [] rest k s l e = absurd (omega arith)
operates (x ∷ es) rest zero s l e = record { title = x.title; binding = sym (ap (λ (t : Slot). t.binding) (some_one e)); number = refl }
operates (x ∷ es) rest (suc k) s l e =
    let r = operates es rest k s (omega arith) e in
    record { title = r.title; binding = r.binding; number = r.number }

past : (es : List Entry) (rest : List Slot) (j : ℕ) → get_elem? (map of_entry es ++ rest) (length es + j) ≡ get_elem? rest j
past [] rest j =
    let z : 0 + j ≡ j = omega arith in
    ap (get_elem? rest) z
past (x ∷ es) rest j =
    let z : suc (length es) + j ≡ suc (length es + j) = omega arith in
    ap (get_elem? (map of_entry (x ∷ es) ++ rest)) z ∙ past es rest j

titles_are : titles ≡ map (λ (x : Entry). x.title) table
unfolding titles
titles_are = refl

module _ (w : World) (keys : List (List ℕ)) (texts : List Bool) where
  operator_bound : (o : List ℕ) (q : ℕ) → get_elem? titles q ≡ some o → Bound (Is w keys texts) (some (operator o)) 4 q
  operator_bound o q e = Words.bound (record { stands = an_operator e; alive = λ l. absurd (omega arith) })

  other_bound : (j : ℕ) (s : Slot) → get_elem? others j ≡ some s → Bound (Is w keys texts) s.binding (tag_of (operator_count + j)) (payload_of (operator_count + j))
  unfolding tag_of payload_of Steps.slot titles table ◌is◌
  other_bound zero s e = subst (λ (t : Slot). Bound (Is w keys texts) t.binding 4 37) (some_one e) (operator_bound (bytes "mark") 37 refl)
  other_bound (suc zero) s e =
      subst (λ (t : Slot). Bound (Is w keys texts) t.binding 2 1) (some_one e)
      (Words.bound (record { stands = a_boolean {b = true}; alive = λ l. absurd (omega arith) }))
  other_bound (suc (suc zero)) s e =
      subst (λ (t : Slot). Bound (Is w keys texts) t.binding 2 0) (some_one e)
      (Words.bound (record { stands = a_boolean {b = false}; alive = λ l. absurd (omega arith) }))
  other_bound (suc (suc (suc zero))) s e =
      subst (λ (t : Slot). Bound (Is w keys texts) t.binding 0 0) (some_one e)
      (Words.bound (record { stands = a_null; alive = λ l. absurd (omega arith) }))
  other_bound (suc (suc (suc (suc j)))) s e = absurd (none_some e)

  -- The binding of name k is what its two words stand for.
  pub bound_at : (k : ℕ) (s : Slot) → get_elem? predefined k ≡ some s → Bound (Is w keys texts) s.binding (tag_of k) (payload_of k)
  bound_at k s e =
      ⊎_elim
      (λ (l : k < operator_count).
      let o : Operates s (map (λ (x : Entry). x.title) table) k = operates table others k s (omega (arith, operator_count_lem)) (ap (λ d. get_elem? d k) (sym predefined_is) ∙ e) in
      subst (λ t. Bound (Is w keys texts) s.binding t (payload_of k)) (tag_operator k (omega arith))
      (subst (λ p. Bound (Is w keys texts) s.binding 4 p) (payload_operator k l)
      (subst (λ v. Bound (Is w keys texts) v 4 k) (sym o.binding) (operator_bound o.title k (numbered o.number)))))
      (λ (l : operator_count ≤ k).
      let place : k ≡ operator_count + (k - operator_count) = omega arith in
      let count : length table + (k - operator_count) ≡ k = omega (arith, operator_count_lem) in
      let there : get_elem? others (k - operator_count) ≡ some s =
      sym (past table others (k - operator_count)) ∙ ap (get_elem? (map of_entry table ++ others)) count ∙ ap (λ d. get_elem? d k) (sym predefined_is) ∙ e in
      subst (λ x. Bound (Is w keys texts) s.binding (tag_of x) (payload_of x)) (sym place) (other_bound (k - operator_count) s there))
      (lt_or_le k operator_count)
    where
      numbered : {o : List ℕ} → get_elem? (map (λ (x : Entry). x.title) table) k ≡ some o → get_elem? titles k ≡ some o
      numbered q = ap (λ d. get_elem? d k) titles_are ∙ q

-- ---- no object is named

abbrev scalar : Slot → Bool
scalar s = not (is_object (bound s.binding))

scalars : every scalar predefined ≡ true
unfolding predefined Steps.slot table
scalars = refl

named : (s : Slot) (j : ℕ) → T (scalar s) → Names (bound s.binding) j → ⊥
named s j t n = by (bound s.binding) t n
  where
    by : (v : Value) → T (not (is_object v)) → Names v j → ⊥
    by _ u by_string = u
    by _ u by_array = u

pub null_names : {j : ℕ} → Names null j → ⊥
null_names n = named (record { key = []; binding = some null }) _ tt n

nameless : {d : List Slot} → All (λ s. T (scalar s)) d → (i j : ℕ) → Names (binding_at d i) j → ⊥
unfolding binding_at
nameless nil i j n = null_names n
nameless (cons {a = s} p ps) zero j n = named s j p n
nameless (cons p ps) (suc i) j n = nameless ps i j n

pub no_object : (i j : ℕ) → Names (binding_at predefined i) j → ⊥
no_object = nameless (all_every scalar predefined (subst T (sym scalars) tt))
