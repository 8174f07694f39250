-- The loop that copies elements: after each turn the elements of one part are copied, and those that are still to be read are as they were.
-- Assumes nothing.
use mathlib.Core.Path.{◌≡◌, refl, sym, ap, ◌∙◌, subst}
use mathlib.Core.Bool.{Bool}
use mathlib.Core.List.{List, []}
use mathlib.Core.Logic.{◌⊎◌, ⊎_elim}
use Prim.Native.Nat.{ℕ, suc, ◌+◌, ◌-◌, ◌≤◌, ◌<◌}
use native.Mathlib.Omega.{arith}
use native.Mathlib.Numerals.{add-one}
use lib.ListN.{length, get_or, set}
use lib.Seq.{get_or-set_same, get_or-set_other, set-get_or, set-set}
use Rattle.semantics.specs.Values.{Value, null, array, Object, elements}
use Rattle.semantics.specs.Machine as Floo
use Rattle.semantics.specs.Machine.{with_stack, with_store, object, elements_of, change}
use Rattle.heap.proofs.Shapes.{list_le}
use Rattle.heap.proofs.Upds.{same?}
use Rattle.store.specs.Rep.{object_at}
use Rattle.store.proofs.Changes.{at_set}
use Rattle.machine.specs.Words.{item_payload}
use Rattle.machine.specs.Rep.{Rep, MovesHeap}
use Rattle.machine.specs.declared.Machine.{Machine}
use Rattle.machine.proofs.Outcomes.{stack_depth}
use Rattle.elements.specs.Elements.{named, item_id, HasElement, SomewhereThat, ArraySize, element_copied, element_put}
use Rattle.elements.proofs.Arrays.{ArrayAt, array_item, array_too, item_id_lem, size_read}
use Rattle.strings.specs.Strings.{pasted}
use Rattle.strings.proofs.Parts.{pasted_none, length_pasted, pasted_after, pasted_up}
use Rattle.interval_operators.specs.Intervals.{HasElements, CopiesElements, last_of, elements_copied}

-- ---- what the words say of a part of an array

pub record Part (i q n : ℕ) (μ : Floo.Machine) : Type 0 where
  pub executable : Bool
  pub item : get_or μ.stack i null ≡ array executable (item_id i μ)
  pub made : item_id i μ < length μ.store
  pub whole : object μ (item_id i μ) ≡ elements (elements_of (object μ (item_id i μ)))
  pub few : length (elements_of (object μ (item_id i μ))) ≤ 32768
  pub inside : q + n ≤ length (elements_of (object μ (item_id i μ)))

pub part : {m : Machine} {st e d c l : List ℕ} {μ : Floo.Machine}
    → Rep m st e d c l μ
    → (i q n : ℕ)
    → i < m.depth
    → HasElements i q n μ
    → Part i q n μ
unfolding object
part {m} {st = st} {c = c} {μ = μ} R i q n deep b =
    let k = m.depth - suc i in
    let h : m.depth ≡ k + suc i = omega (arith, deep) in
    let same = sym (item_id_lem b.array) in
    let A = subst (λ id. ArrayAt R.world c μ.store (item_payload st k) id) same (array_item R i k h b.array.item) in
    let head = item_payload st k in
    let shape = R.stored.full.heap.shape in
    record {
      executable = b.array.executable;
      item = b.array.item ∙ ap (array b.array.executable) same;
      made = subst (λ id. id < length μ.store) A.stands (R.stored.objects.id head A.lives);
      whole = subst (λ id. object_at μ.store id ≡ elements (elements_of (object_at μ.store id))) A.stands A.whole;
      few = subst (λ id. length (elements_of (object_at μ.store id)) ≤ 32768) A.stands (omega (arith, A.many, list_le shape (head + 2), shape.few));
      inside = subst (λ id. q + n ≤ length (elements_of (object_at μ.store id))) same b.inside;
    }

part_too : {m : Machine} {st e d c l : List ℕ} {μ : Floo.Machine}
    → Rep m st e d c l μ
    → (i q n : ℕ)
    → i < m.depth
    → HasElements i q n μ
    → {e' d' l' : List ℕ} {μ' : Floo.Machine}
    → Rep m st e' d' c l' μ'
    → Part i q n μ'
part_too {m} R i q n deep b R' =
    let k = m.depth - suc i in
    let h : m.depth ≡ k + suc i = omega (arith, deep) in
    let a = array_too R i k h R' b.array in
    part R' i q n deep
    (record { array = a; inside = omega (arith, b.inside, size_read R i k h b.array.item, size_read R' i k h a.item) })

-- ---- an array that has changed, and item 1 with it

module _ (to : ℕ) (μ : Floo.Machine) where
  -- Item 1 is w, and the array that is item `to` has the elements p.
  unfoldable mid : Value → List Value → Floo.Machine
  mid w p = change (item_id to μ) (elements p) (with_stack (set μ.stack 1 w) μ)

  mid_item : (w : Value) (p : List Value) (i : ℕ) → (i ≡ 1 → ⊥) → get_or (mid w p).stack i null ≡ get_or μ.stack i null
  unfolding mid change with_store with_stack
  mid_item w p i n = get_or-set_other μ.stack 1 i w null n

  mid_id : (w : Value) (p : List Value) (i : ℕ) → (i ≡ 1 → ⊥) → item_id i (mid w p) ≡ item_id i μ
  unfolding item_id
  mid_id w p i n = ap named (mid_item w p i n)

  way_mid : (w : Value) (p : List Value) → 1 < length μ.stack → get_or (mid w p).stack 1 null ≡ w
  unfolding mid change with_store with_stack
  way_mid w p deep = get_or-set_same μ.stack 1 w null deep

  again_mid : (w : Value) (p r : List Value) → change (item_id to μ) (elements r) (mid w p) ≡ mid w r
  unfolding mid change with_store with_stack
  again_mid w p r = ap (λ (s : List Object). with_store s (with_stack (set μ.stack 1 w) μ)) (set-set μ.store (item_id to μ) (elements p) (elements r))

  mid_other : (w : Value) (p : List Value) (id : ℕ) → (id ≡ item_id to μ → ⊥) → object (mid w p) id ≡ object μ id
  unfolding mid change with_store with_stack object
  mid_other w p id n = get_or-set_other μ.store (item_id to μ) id (elements p) (elements []) n

  -- An element of another array, or of this one, comes to item 1.
  copied_mid : (w : Value) (p : List Value) (from q : ℕ) → (from ≡ 1 → ⊥)
      → element_copied from q 1 (mid w p) ≡ mid (get_or (elements_of (object (mid w p) (item_id from μ))) q null) p
  unfolding element_copied mid change with_store with_stack object
  copied_mid w p from q n =
      ap (λ (id : ℕ). with_stack (set (set μ.stack 1 w) 1 (get_or (elements_of (get_or (set μ.store (item_id to μ) (elements p)) id (elements []))) q null)) (mid w p)) (mid_id w p from n)
      ∙ ap (λ (t : List Value). with_stack t (mid w p)) (set-set μ.stack 1 w (get_or (elements_of (get_or (set μ.store (item_id to μ) (elements p)) (item_id from μ) (elements []))) q null))

  module _ (apart : to ≡ 1 → ⊥) (made : item_id to μ < length μ.store) where
    mid_elements : (w : Value) (p : List Value) → elements_of (object (mid w p) (item_id to μ)) ≡ p
    unfolding mid change with_store with_stack object elements_of
    mid_elements w p = ap elements_of (get_or-set_same μ.store (item_id to μ) (elements p) (elements []) made)

    -- Item 1 goes to an element.
    put_mid : (w : Value) (p : List Value) (q : ℕ) → 1 < length μ.stack → element_put to q 1 (mid w p) ≡ mid w (set p q w)
    unfolding element_put
    put_mid w p q deep =
        ap (λ (id : ℕ). change id (elements (set (elements_of (object (mid w p) id)) q (get_or (mid w p).stack 1 null))) (mid w p)) (mid_id w p to apart)
        ∙ ap (λ (v : Value). change (item_id to μ) (elements (set (elements_of (object (mid w p) (item_id to μ))) q v)) (mid w p)) (way_mid w p deep)
        ∙ ap (λ (t : List Value). change (item_id to μ) (elements (set t q w)) (mid w p)) (mid_elements w p)
        ∙ again_mid w p (set p q w)

-- ---- elements copied

module _ (to a from b : ℕ) (μ : Floo.Machine) where
  abbrev old : List Value
  old = elements_of (object μ (item_id to μ))

  abbrev src : List Value
  src = elements_of (object μ (item_id from μ))

  -- What is in item 1 after k elements.
  abbrev way : ℕ → Value
  way k = last_of (get_or μ.stack 1 null) src b k

  copied_is : (k : ℕ) → elements_copied to a from b k μ ≡ mid to μ (way k) (pasted old a src b k)
  unfolding elements_copied mid
  copied_is k = refl

  copied_none : object μ (item_id to μ) ≡ elements (elements_of (object μ (item_id to μ))) → elements_copied to a from b 0 μ ≡ μ
  unfolding elements_copied last_of change with_store with_stack object
  copied_none whole =
      let id = item_id to μ in
      let τ = with_stack (set μ.stack 1 (get_or μ.stack 1 null)) μ in
      ap (λ (t : List Value). with_store (set μ.store id (elements t)) τ) (pasted_none old a src b)
      ∙ ap (λ (o : Object). with_store (set μ.store id o) τ) (sym whole)
      ∙ ap (λ (s : List Object). with_store s τ) (set-get_or μ.store id (elements []))
      ∙ ap (λ (t : List Value). with_stack t μ) (set-get_or μ.stack 1 null)

  module _ (made : item_id to μ < length μ.store) (k : ℕ) (ha : a + k ≤ length old) (hb : b + k ≤ length src) where
    mid_long : (w : Value) (id : ℕ) → length (elements_of (object (mid to μ w (pasted old a src b k)) id)) ≡ length (elements_of (object μ id))
    unfolding mid change with_store with_stack object elements_of
    mid_long w id =
        at_set (λ x y. length (elements_of x) ≡ length (elements_of y)) μ.store (item_id to μ) (elements (pasted old a src b k)) made
        (length_pasted null old a src b k ha hb) id refl

    read_mid : (to ≡ 1 → ⊥) → (w : Value) (q : ℕ) → (item_id from μ ≡ item_id to μ → a + k ≤ q)
        → get_or (elements_of (object (mid to μ w (pasted old a src b k)) (item_id from μ))) q null ≡ get_or src q null
    read_mid apart w q after =
        ⊎_elim
        (λ (e : item_id from μ ≡ item_id to μ).
        ap (λ (id : ℕ). get_or (elements_of (object (mid to μ w (pasted old a src b k)) id)) q null) e
        ∙ ap (λ (t : List Value). get_or t q null) (mid_elements to μ apart made w (pasted old a src b k))
        ∙ pasted_after null old a src b k ha hb q (after e)
        ∙ ap (λ (id : ℕ). get_or (elements_of (object μ id)) q null) (sym e))
        (λ (n : item_id from μ ≡ item_id to μ → ⊥). ap (λ (o : Object). get_or (elements_of o) q null) (mid_other to μ w (pasted old a src b k) (item_id from μ) n))
        (same? (item_id from μ) (item_id to μ))

  module _ (apart : to ≡ 1 → ⊥) (apart' : from ≡ 1 → ⊥) (made : item_id to μ < length μ.store) (deep : 1 < length μ.stack) (forward : item_id from μ ≡ item_id to μ → a ≤ b)
      (k : ℕ) (ha : a + k < length old) (hb : b + k < length src) where
    abbrev next : Value
    next = get_or src (b + k) null

    -- Element b + k in item 1.
    copied_read : element_copied from (b + k) 1 (elements_copied to a from b k μ) ≡ mid to μ next (pasted old a src b k)
    copied_read =
        ap (λ (σ : Floo.Machine). element_copied from (b + k) 1 σ) (copied_is k)
        ∙ copied_mid to μ (way k) (pasted old a src b k) from (b + k) apart'
        ∙ ap (λ (v : Value). mid to μ v (pasted old a src b k))
        (read_mid made k (omega (arith, ha)) (omega (arith, hb)) apart (way k) (b + k) (λ e. omega (arith, forward e)))

    copied_next : element_put to (a + k) 1 (element_copied from (b + k) 1 (elements_copied to a from b k μ)) ≡ elements_copied to a from b (k + 1) μ
    unfolding last_of
    copied_next =
        ap (λ (σ : Floo.Machine). element_put to (a + k) 1 σ) copied_read
        ∙ put_mid to μ apart made next (pasted old a src b k) (a + k) deep
        ∙ ap (λ (t : List Value). mid to μ next t) (pasted_up null old a src b k ha hb)
        ∙ ap (λ (j : ℕ). mid to μ (way j) (pasted old a src b (k + 1))) (sym (add-one k))
        ∙ sym (copied_is (k + 1))

-- ---- the loop

-- So far k elements are copied.
pub record Copied (to a from b k : ℕ) (m₀ m : Machine) (s₀ s c₀ c : List ℕ) : Type 0 where
  pub deep : m.depth ≡ m₀.depth
  pub stack_long : length s ≡ length s₀
  pub long : length c ≡ length c₀
  pub moves : MovesHeap (elements_copied to a from b k) m₀ m s₀ s c₀ c

pub record Start (to at from start n : ℕ) (m : Machine) (s c : List ℕ) : Type 0 where
  pub target_deep : to < m.depth
  pub source_deep : from < m.depth
  pub two : 2 ≤ m.depth
  pub target_apart : to ≡ 1 → ⊥
  pub source_apart : from ≡ 1 → ⊥
  pub ends : (at ≤ start) ⊎ ArraySize from m s c (start + n)
  pub somewhere : SomewhereThat (CopiesElements to at from start n) m s c

module _ {to at from start n : ℕ} {m₀ : Machine} {s₀ c₀ : List ℕ} (G : Start to at from start n m₀ s₀ c₀) where
  abbrev W : SomewhereThat (CopiesElements to at from start n) m₀ s₀ c₀
  W = G.somewhere

  module _ {e d l : List ℕ} {μ : Floo.Machine} (R : Rep m₀ s₀ e d c₀ l μ) where
    target : Part to at n μ
    target = part_too W.4 to at n G.target_deep W.5.0 R

    source : Part from start n μ
    source = part_too W.4 from start n G.source_deep W.5.1 R

    forward : item_id from μ ≡ item_id to μ → at ≤ start
    forward q =
        ⊎_elim (λ h. h)
        (λ (Z : ArraySize from m₀ s₀ c₀ (start + n)).
        let size = Z.says e d l μ R source.executable (item_id from μ) source.item in
        omega (arith, size, target.inside, ap (λ id. length (elements_of (object μ id))) q)) G.ends

    below : 1 < length μ.stack
    below = omega (arith, G.two, stack_depth R)

  pub small_target : at + n ≤ 32768
  small_target = let P = target W.4 in omega (arith, P.inside, P.few)

  pub small_source : start + n ≤ 32768
  small_source = let P = source W.4 in omega (arith, P.inside, P.few)

  pub begin : Copied to at from start 0 m₀ m₀ s₀ s₀ c₀ c₀
  begin =
      record {
        deep = refl;
        stack_long = refl;
        long = refl;
        moves = record { moves = λ e d l μ R. subst (Rep m₀ s₀ e d c₀ l) (sym (copied_none to at from start μ (target R).whole)) R };
      }

  module _ {k : ℕ} {m : Machine} {s c : List ℕ} (D : Copied to at from start k m₀ m s₀ s c₀ c) (h : k < n) where
    pub source_element : SomewhereThat (HasElement from (start + k)) m s c
    source_element =
        let R = W.4 in
        let μ = W.3 in
        let T = target R in
        let S = source R in
        let w = way to at from start μ k in
        let p = pasted (old to at from start μ) at (src to at from start μ) start k in
        let long = mid_long to at from start μ T.made k (omega (arith, h, T.inside)) (omega (arith, h, S.inside)) w (item_id from μ) in (
          W.0,
          W.1,
          W.2,
          mid to μ w p,
          subst (Rep m s W.0 W.1 c W.2) (copied_is to at from start μ k) (D.moves.moves W.0 W.1 W.2 μ R),
          record {
            array = record { executable = S.executable; id = item_id from μ; item = mid_item to μ w p from G.source_apart ∙ S.item };
            inside = omega (arith, h, S.inside, long);
          },
        )

    module _ {m₁ : Machine} {s₁ c₁ : List ℕ} (C : MovesHeap (element_copied from (start + k) 1) m m₁ s s₁ c c₁) where
      pub target_element : SomewhereThat (HasElement to (at + k)) m₁ s₁ c₁
      target_element =
          let R = W.4 in
          let μ = W.3 in
          let T = target R in
          let S = source R in
          let w = next to at from start μ G.target_apart G.source_apart T.made (below R) (forward R) k (omega (arith, h, T.inside)) (omega (arith, h, S.inside)) in
          let p = pasted (old to at from start μ) at (src to at from start μ) start k in
          let long = mid_long to at from start μ T.made k (omega (arith, h, T.inside)) (omega (arith, h, S.inside)) w (item_id to μ) in (
            W.0,
            W.1,
            W.2,
            mid to μ w p,
            subst (Rep m₁ s₁ W.0 W.1 c₁ W.2)
                (copied_read to at from start μ G.target_apart G.source_apart T.made (below R) (forward R) k (omega (arith, h, T.inside)) (omega (arith, h, S.inside)))
                (C.moves W.0 W.1 W.2 _ (D.moves.moves W.0 W.1 W.2 μ R)),
            record {
              array = record { executable = T.executable; id = item_id to μ; item = mid_item to μ w p to G.target_apart ∙ T.item };
              inside = omega (arith, h, T.inside, long);
            },
          )

      pub again : {m₂ : Machine} {c₂ : List ℕ}
          → MovesHeap (element_put to (at + k) 1) m₁ m₂ s₁ s₁ c₁ c₂
          → m₁.depth ≡ m.depth
          → m₂.depth ≡ m₁.depth
          → length s₁ ≡ length s
          → length c₁ ≡ length c
          → length c₂ ≡ length c₁
          → Copied to at from start (k + 1) m₀ m₂ s₀ s₁ c₀ c₂
      again {m₂} {c₂} P d₁ d₂ sl cl cl' =
          record {
            deep = d₂ ∙ d₁ ∙ D.deep;
            stack_long = sl ∙ D.stack_long;
            long = cl' ∙ cl ∙ D.long;
            moves = record {
              moves = λ e d l μ R.
                  let T = target R in
                  let S = source R in
                  subst (Rep m₂ s₁ e d c₂ l)
                  (copied_next to at from start μ G.target_apart G.source_apart T.made (below R) (forward R) k (omega (arith, h, T.inside)) (omega (arith, h, S.inside)))
                  (P.moves e d l _ (C.moves e d l _ (D.moves.moves e d l μ R)));
            };
          }

pub finish : {to at from start n k : ℕ} {m₀ m : Machine} {s₀ s c₀ c : List ℕ}
    → Copied to at from start k m₀ m s₀ s c₀ c
    → k ≤ n
    → n ≤ k
    → MovesHeap (elements_copied to at from start n) m₀ m s₀ s c₀ c
finish {to} {at} {from} {start} {n} {k} {m₀} {m} {s₀} {s} {c₀} {c} D h past =
    let all : k ≡ n = omega (arith, h, past) in
    subst (λ j. MovesHeap (elements_copied to at from start j) m₀ m s₀ s c₀ c) all D.moves

pub started : {to at from start n : ℕ} {m : Machine} {s c : List ℕ}
    → (to < m.depth) × (from < m.depth) × (2 ≤ m.depth) × (to ≡ 1 → ⊥) × (from ≡ 1 → ⊥)
    → ((at ≤ start) ⊎ ArraySize from m s c (start + n)) × SomewhereThat (CopiesElements to at from start n) m s c
    → Start to at from start n m s c
started p q =
    record {
      target_deep = p.0;
      source_deep = p.1;
      two = p.2;
      target_apart = p.3;
      source_apart = p.4;
      ends = q.0;
      somewhere = q.1;
    }
