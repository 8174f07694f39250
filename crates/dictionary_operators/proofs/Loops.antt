-- Each element of a procedure is bound, one after another: the elements before q are bound, the others as they were. The dictionary does not change meanwhile.
-- Assumes nothing.
use Rattle.std.specs.Prelude.{Ok, Err}
use mathlib.Core.Path.{◌≡◌, refl, sym, ap, ◌∙◌, subst}
use mathlib.Core.Bool.{Bool, true, false}
use mathlib.Core.List.{List, [], ◌∷◌, map}
use mathlib.Core.Logic.{⊎_elim}
use Prim.Native.Nat.{ℕ, ◌+◌, ◌-◌, ◌≤◌, ◌<◌}
use native.Mathlib.Omega.{arith}
use lib.ListN.{length, get_or, set, length-set, length-map, get_or-map}
use lib.Seq.{set-get_or, set-set, get_or-set_same, get_or-set_other, ext_get_or}
use Rattle.semantics.specs.Text.{bytes, textual}
use Rattle.semantics.specs.Values.{Value, integer, boolean, null, mark, operator, name, string, array, elements, Object, ok, fault, ◌>>=◌, procedure_id}
use Rattle.semantics.specs.Machine as Floo
use Rattle.semantics.specs.Machine.{with_store, with_stack, push, object, elements_of, change, lookup}
use Rattle.semantics.specs.Operators.{perform, find, table, ◌is◌}
use Rattle.semantics.specs.ControlOperators.{bound, operator_or, bind}
use Rattle.semantics.specs.declared.Error.TheVariants.{StackUnderflow, TypeCheck}
use Rattle.heap.proofs.Since.{lt_or_le}
use Rattle.store.specs.Rep.{Stands, a_null, an_integer, a_boolean, a_mark, an_operator, a_literal, an_executable, a_string, an_array, a_procedure}
use Rattle.store.proofs.Standing.{is_procedure_lem}
use Rattle.machine.specs.Words.{item_tag, item_payload}
use Rattle.machine.specs.Rep.{Rep}
use Rattle.machine.specs.declared.Machine.{Machine}
use Rattle.machine.proofs.Copying.{word_of}
use Rattle.machine.proofs.Operands.{pop1_some, pop1_under}
use Rattle.machine.proofs.Outcomes.{stack_depth, first_item}
use Rattle.elements.specs.Elements.{HasArray, SomewhereThat, ArraySize}
use Rattle.elements.proofs.Arrays.{array_item}
use Rattle.dictionary_operators.specs.Promises.{Represented, DoesDictionary}
use Rattle.dictionary_operators.specs.Binding.{IsProcedure, elements_in, HasProcedure, HasElementAt, BindsElement, BindsElements}
use Rattle.dictionary_operators.proofs.Promising.{fails, does}

-- ---- binding goes by the dictionary alone

bound_same : (τ μ : Floo.Machine) → τ.dictionary ≡ μ.dictionary → (v : Value) → bound τ v ≡ bound μ v
unfolding bound
bound_same τ μ e (integer w) = refl
bound_same τ μ e (boolean b) = refl
bound_same τ μ e null = refl
bound_same τ μ e mark = refl
bound_same τ μ e (operator o) = refl
bound_same τ μ e (name true n) = ap (λ d. operator_or (name true n) (lookup n d)) e
bound_same τ μ e (name false n) = refl
bound_same τ μ e (string i) = refl
bound_same τ μ e (array x i) = refl

map_same : (f g : Value → Value) → ((v : Value) → f v ≡ g v) → (l : List Value) → map f l ≡ map g l
map_same f g h [] = refl
map_same f g h (v ∷ l) = ap (λ x. x ∷ map f l) (h v) ∙ ap (λ x. g v ∷ x) (map_same f g h l)

-- ---- the procedure with other elements

module _ (μ : Floo.Machine) (id : ℕ) where
  changed_twice : (o p : Object) → change id p (change id o μ) ≡ change id p μ
  unfolding change with_store
  changed_twice o p = ap (λ x. with_store x μ) (set-set μ.store id o p)

  changed_elements : id < length μ.store → (vs : List Value) → elements_in (change id (elements vs) μ) id ≡ vs
  unfolding change with_store object elements_of
  changed_elements l vs = ap elements_of (get_or-set_same μ.store id (elements vs) (elements []) l)

  changed_bound : (o : Object) (v : Value) → bound (change id o μ) v ≡ bound μ v
  unfolding change with_store
  changed_bound o v = bound_same (change id o μ) μ refl v

  changed_procedure : (o : Object) → IsProcedure μ id → IsProcedure (change id o μ) id
  unfolding change with_store
  changed_procedure o p = p

  changed_count : (o : Object) → length (change id o μ).store ≡ length μ.store
  unfolding change with_store
  changed_count o = length-set μ.store id o

module _ {m : Machine} {s e d c l : List ℕ} {μ : Floo.Machine} (R : Rep m s e d c l μ) (k : ℕ) (h : m.depth ≡ k + 1) (id : ℕ) (p : IsProcedure μ id) where
  inside : id < length μ.store
  inside =
      let at = array_item R 0 k (omega arith) p in
      subst (λ x. x < length μ.store) at.stands (R.stored.objects.id (item_payload s k) at.lives)

  settled : change id (elements (elements_in μ id)) μ ≡ μ
  unfolding change with_store object
  settled =
      let at = array_item R 0 k (omega arith) p in
      let whole : object μ id ≡ elements (elements_in μ id) = subst (λ x. object μ x ≡ elements (elements_in μ x)) at.stands at.whole in
      ap (λ x. with_store (set μ.store id x) μ) (sym whole) ∙ ap (λ x. with_store x μ) (set-get_or μ.store id (elements []))

-- ---- the loop

-- The elements before q are bound.
pub record Part (m : Machine) (s e d c l : List ℕ) (μ : Floo.Machine) (id q : ℕ) : Type 0 where
  pub these : List Value
  pub rep : Rep m s e d c l (change id (elements these) μ)
  pub size : length these ≡ length (elements_in μ id)
  pub done : (j : ℕ) → j < q → get_or these j null ≡ bound μ (get_or (elements_in μ id) j null)
  pub rest : (j : ℕ) → q ≤ j → get_or these j null ≡ get_or (elements_in μ id) j null

pub record Bindings (m₀ : Machine) (s d c₀ c : List ℕ) (n : ℕ) (m : Machine) (q : ℕ) : Type 0 where
  pub deep : m.depth ≡ m₀.depth
  pub long : length c ≡ length c₀
  pub low : q ≤ n
  pub parts : (e l : List ℕ) (μ : Floo.Machine) → Rep m₀ s e d c₀ l μ → (id : ℕ) → IsProcedure μ id → Part m s e d c l μ id q

pub proc_array : {m : Machine} {s d c : List ℕ} → HasProcedure m s d c → SomewhereThat (HasArray 0) m s c
proc_array {d = d} (e, l, μ, id, p, R) = (e, d, l, μ, R, record { executable = true; id = id; item = p })

module _ {m₀ : Machine} {s d c₀ : List ℕ} (k : ℕ) (h : m₀.depth ≡ k + 1) {n : ℕ} (N : ArraySize 0 m₀ s c₀ n) where
  pub begin : Bindings m₀ s d c₀ c₀ n m₀ 0
  begin =
      record {
        deep = refl;
        long = refl;
        low = omega arith;
        parts = λ e l μ R id p. record {
          these = elements_in μ id;
          rep = subst (Rep m₀ s e d c₀ l) (sym (settled R k h id p)) R;
          size = refl;
          done = λ j x. absurd (omega arith);
          rest = λ j x. refl;
        };
      }

  module _ {m : Machine} {c : List ℕ} {q : ℕ} (B : Bindings m₀ s d c₀ c n m q) where
    pub element_left : q < n → HasProcedure m₀ s d c₀ → HasElementAt q m s d c
    element_left x (e, l, μ, id, p, R) =
        let P = B.parts e l μ R id p in
        let many = N.says e d l μ R true id p in
        let now = changed_elements μ id (inside R k h id p) P.these in
        (e, l, change id (elements P.these) μ, id, changed_procedure μ id (elements P.these) p, omega (arith, P.size, many, ap length now), P.rep)

    pub again : {r : Machine} {c' : List ℕ} → q < n → BindsElement q m r s d c c' → r.depth ≡ m.depth → length c' ≡ length c → Bindings m₀ s d c₀ c' n r (q + 1)
    again {r} {c'} x E deep long =
        record {
          deep = deep ∙ B.deep;
          long = long ∙ B.long;
          low = omega arith;
          parts = λ e l μ R id p.
              let P = B.parts e l μ R id p in
              let many = N.says e d l μ R true id p in
              let τ = change id (elements P.these) μ in
              let now = changed_elements μ id (inside R k h id p) P.these in
              let v = bound μ (get_or (elements_in μ id) q null) in
              let value : bound τ (get_or (elements_in τ id) q null) ≡ v =
              changed_bound μ id (elements P.these) (get_or (elements_in τ id) q null) ∙ ap (λ y. bound μ (get_or y q null)) now ∙ ap (bound μ) (P.rest q (omega arith)) in
              let list : set (elements_in τ id) q (bound τ (get_or (elements_in τ id) q null)) ≡ set P.these q v =
              ap (λ y. set (elements_in τ id) q y) value ∙ ap (λ y. set y q v) now in
              record {
                these = set P.these q v;
                rep = subst (Rep r s e d c' l) (ap (λ y. change id (elements y) τ) list ∙ changed_twice μ id (elements P.these) (elements (set P.these q v)))
                    (E.moves e l τ P.rep id (changed_procedure μ id (elements P.these) p));
                size = length-set P.these q v ∙ P.size;
                done = λ j y.
                    ⊎_elim
                    (λ (z : j < q). get_or-set_other P.these q j v null (λ w. omega arith) ∙ P.done j z)
                    (λ (z : q ≤ j).
                    let here : j ≡ q = omega arith in
                    ap (λ w. get_or (set P.these q v) w null) here
                    ∙ get_or-set_same P.these q v null (omega (arith, P.size, many))
                    ∙ ap (λ w. bound μ (get_or (elements_in μ id) w null)) (sym here))
                    (lt_or_le j q);
                rest = λ j y. get_or-set_other P.these q j v null (λ w. omega arith) ∙ P.rest j (omega arith);
              };
        }

    pub finish : n ≤ q → BindsElements m₀ m s d c₀ c
    unfolding bound
    finish x =
        record {
          moves = λ e l μ R id p.
              let P = B.parts e l μ R id p in
              let many = N.says e d l μ R true id p in
              let all : P.these ≡ map (bound μ) (elements_in μ id) =
              ext_get_or null P.these (map (bound μ) (elements_in μ id)) (P.size ∙ sym (length-map (elements_in μ id) (bound μ)))
              (λ j y. P.done j (omega (arith, P.size, B.low)) ∙ sym (get_or-map (bound μ) (elements_in μ id) j null)) in
              subst (λ y. Rep m s e d c l (change id (elements y) μ)) all P.rep;
        }

-- ---- bind

bind_is : (μ : Floo.Machine) → perform (bytes "bind") μ ≡ bind μ
unfolding textual perform find table ◌is◌
bind_is μ = refl

stands_no_procedure : {ks : List (List ℕ)} {texts : List Bool} {ρ : ℕ → ℕ} {v : Value} {t p : ℕ} → Stands ks texts ρ v t p → (t ≡ 10 → ⊥) → procedure_id v ≡ fault TypeCheck
unfolding procedure_id
stands_no_procedure a_null n = refl
stands_no_procedure an_integer n = refl
stands_no_procedure a_boolean n = refl
stands_no_procedure a_mark n = refl
stands_no_procedure (an_operator q) n = refl
stands_no_procedure (a_literal q) n = refl
stands_no_procedure (an_executable q) n = refl
stands_no_procedure (a_string q k) n = refl
stands_no_procedure (an_array q k) n = refl
stands_no_procedure (a_procedure q k) n = absurd (n refl)

module _ (μ : Floo.Machine) where
  bind_under : length μ.stack < 1 → perform (bytes "bind") μ ≡ fault StackUnderflow
  unfolding bind ◌>>=◌
  bind_under h = bind_is μ ∙ ap (λ r. r >>= λ p. procedure_id p.0 >>= λ i. ok (push p.0 (change i (elements (map (bound p.1) (elements_of (object p.1 i)))) p.1))) (pop1_under μ h)

  binding : {x : Value} {s : List Value} → μ.stack ≡ x ∷ s
      → perform (bytes "bind") μ ≡ (procedure_id x >>= λ i. ok (push x (change i (elements (map (bound (with_stack s μ)) (elements_of (object (with_stack s μ) i)))) (with_stack s μ))))
  unfolding bind ◌>>=◌
  binding q = bind_is μ ∙ ap (λ r. r >>= λ p. procedure_id p.0 >>= λ i. ok (push p.0 (change i (elements (map (bound p.1) (elements_of (object p.1 i)))) p.1))) (pop1_some μ q)

  bind_type : 1 ≤ length μ.stack → procedure_id (get_or μ.stack 0 null) ≡ fault TypeCheck → perform (bytes "bind") μ ≡ fault TypeCheck
  unfolding ◌>>=◌
  bind_type h q =
      let f = first_item μ.stack h in
      binding f.2
      ∙ ap (λ r. r >>= λ i. ok (push f.0 (change i (elements (map (bound (with_stack f.1 μ)) (elements_of (object (with_stack f.1 μ) i)))) (with_stack f.1 μ))))
      (ap (λ t. procedure_id (get_or t 0 null)) (sym f.2) ∙ q)

  bind_done : (id : ℕ) → 1 ≤ length μ.stack → IsProcedure μ id → perform (bytes "bind") μ ≡ ok (change id (elements (map (bound μ) (elements_in μ id))) μ)
  unfolding ◌>>=◌ procedure_id push with_stack change with_store object
  bind_done id h q =
      let f = first_item μ.stack h in
      let x : f.0 ≡ array true id = ap (λ t. get_or t 0 null) (sym f.2) ∙ q in
      binding f.2
      ∙ ap (λ y. procedure_id y >>= λ i. ok (push y (change i (elements (map (bound (with_stack f.1 μ)) (elements_of (object (with_stack f.1 μ) i)))) (with_stack f.1 μ)))) x
      ∙ ap (λ t. ok (push (array true id) (change id (elements t) (with_stack f.1 μ)))) (map_same (bound (with_stack f.1 μ)) (bound μ) (bound_same (with_stack f.1 μ) μ refl) (elements_in μ id))
      ∙ ap (λ t. ok (with_stack t (change id (elements (map (bound μ) (elements_in μ id))) μ))) (ap (λ y. y ∷ f.1) (sym x) ∙ sym f.2)

module _ {m : Machine} {s d c : List ℕ} where
  pub bind_short : m.depth < 1 → DoesDictionary (perform (bytes "bind")) m s s d d c c (Err StackUnderflow)
  bind_short h = fails (λ e l μ R. bind_under μ (omega (arith, stack_depth R)))

  module _ (one : 1 ≤ m.depth) where
    pub bind_mistyped : (item_tag s (m.depth - 1) ≡ 10 → ⊥) → DoesDictionary (perform (bytes "bind")) m s s d d c c (Err TypeCheck)
    bind_mistyped q =
        fails (λ e l μ R. bind_type μ (omega (arith, stack_depth R)) (stands_no_procedure (word_of R 0 (m.depth - 1) (omega arith)).stands q))

    module _ (q : item_tag s (m.depth - 1) ≡ 10) where
      pub bind_procedure : Represented m s d c → HasProcedure m s d c
      bind_procedure (e, l, μ, R) =
          let y = is_procedure_lem (word_of R 0 (m.depth - 1) (omega arith)).stands q in
          (e, l, μ, y.0, y.1, R)

      pub bind_good : {r : Machine} {c' : List ℕ} → BindsElements m r s d c c' → DoesDictionary (perform (bytes "bind")) m s s d d c c' (Ok r)
      bind_good B =
          does refl refl
          (λ e l μ R.
          let y = is_procedure_lem (word_of R 0 (m.depth - 1) (omega arith)).stands q in
          let o = elements (map (bound μ) (elements_in μ y.0)) in
          (change y.0 o μ, bind_done μ y.0 (omega (arith, stack_depth R)) y.1, changed_count μ y.0 o, B.moves e l μ R y.0 y.1))
