-- The loop of `store_items`: after q turns the first q elements are the items from the lowest up, and the others are as they were.
-- Assumes nothing.
use mathlib.Core.Path.{◌≡◌, refl, sym, ap, ◌∙◌, subst}
use mathlib.Core.List.{List, [], ◌∷◌, ◌++◌, reverse, reverse-cons}
use Prim.Native.Nat.{ℕ, suc, ◌+◌, ◌-◌, ◌≤◌, ◌<◌}
use native.Mathlib.Omega.{arith}
use lib.ListN.{length, get_or, take, drop, set, length-append, length-drop, length-reverse}
use lib.Seq.{drop-cons, set_at, set-set, set-get_or, get_or-set_same, append_snoc, length-take-le}
use Rattle.semantics.specs.Values.{Value, null, Object, elements}
use Rattle.semantics.specs.Machine as Floo
use Rattle.semantics.specs.Machine.{with_store, object, elements_of, change}
use Rattle.machine.specs.Rep.{Rep, MovesHeap}
use Rattle.machine.specs.declared.Machine.{Machine}
use Rattle.machine.proofs.Outcomes.{stack_depth, then_heap}
use Rattle.elements.specs.Elements.{item_id, HasArray, HasElement, SomewhereThat, element_put}
use Rattle.elements.proofs.Arrays.{item_id_lem}
use Rattle.array_operators.specs.Items.{HasFirst, items_put}
use Rattle.array_operators.proofs.Objects.{whole_array, made_array}
use Rattle.array_operators.proofs.Spreading.{first_too}

-- ---- on lists

module _ (st vs : List Value) (from : ℕ) where
  -- The elements after q turns.
  abbrev filled : ℕ → List Value
  filled q = reverse (take q (drop (from - q) st)) ++ drop q vs

  module _ (q : ℕ) (few : q ≤ from) (deep : from ≤ length st) where
    taken_long : length (reverse (take q (drop (from - q) st))) ≡ q
    taken_long =
        let enough : q ≤ length (drop (from - q) st) = rw (length-drop (from - q) st) (omega arith) in
        length-reverse (take q (drop (from - q) st)) ∙ length-take-le q (drop (from - q) st) enough

    filled_long : q ≤ length vs → length (filled q) ≡ length vs
    filled_long h =
        length-append (reverse (take q (drop (from - q) st))) (drop q vs)
        ∙ omega (arith, taken_long, length-drop q vs, h)

  filled_more : (q : ℕ) → q < from → from ≤ length st → q < length vs → set (filled q) q (get_or st (from - 1 - q) null) ≡ filled (q + 1)
  filled_more q h deep less =
      let old = reverse (take q (drop (from - q) st)) in
      let v = get_or st (from - 1 - q) null in
      let next : q + 1 ≡ suc q = omega arith in
      let place : from - suc q ≡ from - 1 - q = omega arith in
      let below : suc (from - 1 - q) ≡ from - q = omega (arith, h) in
      let items : drop (from - 1 - q) st ≡ v ∷ drop (from - q) st =
      drop-cons st (from - 1 - q) null (omega (arith, h, deep)) ∙ ap (λ k. v ∷ drop k st) below in
      ap (λ (t : List Value). set (old ++ t) q v) (drop-cons vs q null less)
      ∙ set_at old (get_or vs q null) (drop (suc q) vs) v q (taken_long q (omega (arith, h)) deep)
      ∙ sym (ap (λ k. reverse (take k (drop (from - k) st)) ++ drop k vs) next
      ∙ ap (λ k. reverse (take (suc q) (drop k st)) ++ drop (suc q) vs) place
      ∙ ap (λ (t : List Value). reverse (take (suc q) t) ++ drop (suc q) vs) items
      ∙ ap (λ (t : List Value). t ++ drop (suc q) vs) (reverse-cons v (take q (drop (from - q) st)))
      ∙ append_snoc old v (drop (suc q) vs))

-- ---- on machines

module _ (i from : ℕ) (μ : Floo.Machine) where
  abbrev old : List Value
  old = elements_of (object μ (item_id i μ))

  put_none : object μ (item_id i μ) ≡ elements old → items_put i from 0 μ ≡ μ
  unfolding items_put change with_store object
  put_none whole =
      ap (λ (o : Object). with_store (set μ.store (item_id i μ) o) μ) (sym whole)
      ∙ ap (λ (z : List Object). with_store z μ) (set-get_or μ.store (item_id i μ) (elements []))

  module _ (made : item_id i μ < length μ.store) where
    put_changed : (p : List Value) (q j : ℕ)
        → element_put i q j (change (item_id i μ) (elements p) μ) ≡ change (item_id i μ) (elements (set p q (get_or μ.stack j null))) μ
    unfolding element_put change with_store object item_id elements_of
    put_changed p q j =
        let id = item_id i μ in
        let v = get_or μ.stack j null in
        ap (λ (o : Object). with_store (set (set μ.store id (elements p)) id (elements (set (elements_of o) q v))) μ) (get_or-set_same μ.store id (elements p) (elements []) made)
        ∙ ap (λ (z : List Object). with_store z μ) (set-set μ.store id (elements p) (elements (set p q v)))

    put_more : (q : ℕ) → q < from → from ≤ length μ.stack → q < length old → element_put i q (from - 1 - q) (items_put i from q μ) ≡ items_put i from (q + 1) μ
    unfolding items_put
    put_more q h deep less =
        put_changed (filled μ.stack old from q) q (from - 1 - q)
        ∙ ap (λ (t : List Value). change (item_id i μ) (elements t) μ) (filled_more μ.stack old from q h deep less)

    put_element_lem : (q : ℕ) (a : HasArray i μ) → q < from → from ≤ length μ.stack → q < length old → HasElement i q (items_put i from q μ)
    unfolding items_put change with_store object elements_of
    put_element_lem q a h deep less =
        let id = item_id i μ in
        let p = filled μ.stack old from q in
        let same : elements_of (get_or (set μ.store id (elements p)) a.id (elements [])) ≡ p =
        ap (λ j. elements_of (get_or (set μ.store id (elements p)) j (elements []))) (sym (item_id_lem a))
        ∙ ap elements_of (get_or-set_same μ.store id (elements p) (elements []) made) in
        record {
          array = record { executable = a.executable; id = a.id; item = a.item };
          inside = omega (arith, ap length same, filled_long μ.stack old from q (omega (arith, h)) deep (omega (arith, less)), less);
        }

made_in : {m : Machine} {s e d c l : List ℕ} {μ : Floo.Machine} {i : ℕ} → Rep m s e d c l μ → i < m.depth → HasArray i μ → item_id i μ < length μ.store
made_in {μ = μ} R there a = subst (λ j. j < length μ.store) (sym (item_id_lem a)) (made_array R there a)

inside_in : {i n q : ℕ} {μ : Floo.Machine} → q < n → HasFirst i n μ → q < length (elements_of (object μ (item_id i μ)))
inside_in h b = rw (item_id_lem b.array) (omega (arith, h, b.inside))

-- ---- the loop

pub record Stored (i from n : ℕ) (m₀ : Machine) (s c₀ : List ℕ) (m : Machine) (c : List ℕ) (q : ℕ) : Type 0 where
  pub few : q ≤ n
  pub deep : m.depth ≡ m₀.depth
  pub long : length c ≡ length c₀
  pub moves : MovesHeap (items_put i from q) m₀ m s s c₀ c

module _ {i from n : ℕ} {m₀ : Machine} {s c₀ : List ℕ} (there : i < m₀.depth) (W : SomewhereThat (HasFirst i n) m₀ s c₀) where
  pub begin : Stored i from n m₀ s c₀ m₀ c₀ 0
  begin =
      record {
        few = omega arith;
        deep = refl;
        long = refl;
        moves = record {
          moves = λ e d l μ R.
              let a = (first_too W.4 there W.5 R).array in
              let whole = subst (λ j. object μ j ≡ elements (elements_of (object μ j))) (sym (item_id_lem a)) (whole_array R there a) in
              subst (Rep m₀ s e d c₀ l) (sym (put_none i from μ whole)) R;
        };
      }

  module _ (deep : from ≤ m₀.depth) (fits : n ≤ from) {m : Machine} {c : List ℕ} {q : ℕ} (S : Stored i from n m₀ s c₀ m c q) (h : q < n) where
    pub next_element : SomewhereThat (HasElement i q) m s c
    next_element =
        let e = W.0 in
        let d = W.1 in
        let l = W.2 in
        let μ = W.3 in
        let R = W.4 in
        let b = W.5 in (
          e,
          d,
          l,
          items_put i from q μ,
          S.moves.moves e d l μ R,
          put_element_lem i from μ (made_in R there b.array) q b.array (omega (arith, h, fits)) (omega (arith, deep, stack_depth R)) (inside_in h b),
        )

    pub again : {r : Machine} {c' : List ℕ}
        → MovesHeap (element_put i q (from - 1 - q)) m r s s c c'
        → r.depth ≡ m.depth
        → length c' ≡ length c
        → Stored i from n m₀ s c₀ r c' (q + 1)
    again {r} {c'} E same long =
        record {
          few = omega arith;
          deep = same ∙ S.deep;
          long = long ∙ S.long;
          moves = record {
            moves = λ e d l μ R.
                let b = first_too W.4 there W.5 R in
                subst (Rep r s e d c' l)
                (put_more i from μ (made_in R there b.array) q (omega (arith, h, fits)) (omega (arith, deep, stack_depth R)) (inside_in h b))
                ((then_heap S.moves E).moves e d l μ R);
          };
        }

pub finish : {i from n : ℕ} {m₀ : Machine} {s c₀ : List ℕ} {m : Machine} {c : List ℕ} {q : ℕ}
    → Stored i from n m₀ s c₀ m c q
    → n ≤ q
    → MovesHeap (items_put i from n) m₀ m s s c₀ c
finish {i} {from} {n} {m₀} {s} {c₀} {m} {c} {q} S h =
    let same : q ≡ n = omega (arith, S.few) in
    subst (λ k. MovesHeap (items_put i from k) m₀ m s s c₀ c) same S.moves
