-- Operands by their words: what a tag says of the value, and so what the definition's fetchers give.
-- Assumes nothing.
use mathlib.Core.Path.{◌≡◌, refl, sym, ap, ◌∙◌, subst}
use mathlib.Core.Bool.{Bool}
use mathlib.Core.List.{List, [], ◌∷◌, ◌++◌}
use Prim.Native.Nat.{ℕ, suc, ◌+◌, ◌*◌, ◌≤◌, ◌<◌}
use native.Mathlib.Omega.{arith}
use native.Mathlib.Numerals.{add-one}
use lib.ListN.{length, get_or, set, length-set}
use lib.Seq.{get_or-set_same, get_or-set_other}
use Rattle.semantics.specs.Values.{Value, integer, ok, fault, ◌>>=◌, int}
use Rattle.semantics.specs.Machine as Floo
use Rattle.semantics.specs.Machine.{with_stack, push, pop1, pop2}
use Rattle.semantics.specs.ListLaws.{All, nil, cons}
use Rattle.semantics.specs.declared.Error.TheVariants.{StackUnderflow, TypeCheck}
use Rattle.store.specs.Rep.{Stands, a_null, an_integer, a_boolean, a_mark, an_operator, a_literal, an_executable, a_string, an_array, a_procedure}
use Rattle.store.proofs.Standing.{is_integer}
use Rattle.machine.specs.Words.{item_tag, item_payload}
use Rattle.machine.specs.Places.{Nameless}
use Rattle.machine.specs.Operands as Operands
use Rattle.machine.specs.Operands.{Scalar, one_int, two_ints}
use Rattle.machine.specs.Rep.{Rep, World, Is, IsIn, Items, bottom, item}
use Rattle.machine.specs.declared.Machine.{Machine}
use Rattle.machine.proofs.Items.{items_frame, items_below, items_length}
use Rattle.machine.proofs.Stacking.{at_depth, restack}

-- ---- what a tag says

module _ {keys : List (List ℕ)} {texts : List Bool} {ρ : ℕ → ℕ} {v : Value} {t p : ℕ} (h : Stands keys texts ρ v t p) where
  pub stands_no_integer : (t ≡ 1 → ⊥) → int v ≡ fault TypeCheck
  unfolding int
  stands_no_integer = by h
    where
      by : {v : Value} {t p : ℕ} → Stands keys texts ρ v t p → (t ≡ 1 → ⊥) → int v ≡ fault TypeCheck
      by a_null n = refl
      by an_integer n = absurd (n refl)
      by a_boolean n = refl
      by a_mark n = refl
      by (an_operator q) n = refl
      by (a_literal q) n = refl
      by (an_executable q) n = refl
      by (a_string q k) n = refl
      by (an_array q k) n = refl
      by (a_procedure q k) n = refl

-- ---- the topmost items

-- The topmost of k + 1 items, its words and what lies below it.
pub record Top (Is : Value → ℕ → ℕ → Type 0) (st : List ℕ) (k : ℕ) (s : List Value) : Type 0 where
  pub value : Value
  pub rest : List Value
  pub split : s ≡ value ∷ rest
  pub words : Is value (item_tag st k) (item_payload st k)
  pub below : Items Is st k rest

module _ {Is : Value → ℕ → ℕ → Type 0} {st : List ℕ} where
  pub top : {n : ℕ} {s : List Value} → Items Is st n s → (k : ℕ) → n ≡ suc k → Top Is st k s
  top bottom k e = absurd (omega arith)
  top (item {n = n} {v = v} {s = s} h i) k e =
      let q : n ≡ k = omega arith in
      subst (λ x. Top Is st x (v ∷ s)) q (record { value = v; rest = s; split = refl; words = h; below = i })

  pub no_items : {n : ℕ} {s : List Value} → Items Is st n s → n < 1 → s ≡ []
  no_items bottom l = refl
  no_items (item h i) l = absurd (omega arith)

-- ---- the definition's pops

module _ (μ : Floo.Machine) where
  pub pop1_none : μ.stack ≡ [] → pop1 μ ≡ fault StackUnderflow
  unfolding pop1
  pop1_none e = rw (e, pop1)

  pub pop1_some : {x : Value} {s : List Value} → μ.stack ≡ x ∷ s → pop1 μ ≡ ok (x, with_stack s μ)
  unfolding pop1 with_stack
  pop1_some e = rw (e, pop1)

  pub pop2_none : μ.stack ≡ [] → pop2 μ ≡ fault StackUnderflow
  unfolding pop2
  pop2_none e = rw (e, pop2)

  pub pop2_one : {y : Value} → μ.stack ≡ y ∷ [] → pop2 μ ≡ fault StackUnderflow
  unfolding pop2
  pop2_one e = rw (e, pop2)

  pub pop2_some : {x y : Value} {s : List Value} → μ.stack ≡ y ∷ x ∷ s → pop2 μ ≡ ok (x, y, with_stack s μ)
  unfolding pop2 with_stack
  pop2_some e = rw (e, pop2)

  pub pop1_under : length μ.stack < 1 → pop1 μ ≡ fault StackUnderflow
  pop1_under h = by μ.stack refl h
    where
      by : (l : List Value) → μ.stack ≡ l → length l < 1 → pop1 μ ≡ fault StackUnderflow
      by [] e h = pop1_none e
      by (x ∷ s) e h = absurd (omega arith)

  pub pop2_under : length μ.stack < 2 → pop2 μ ≡ fault StackUnderflow
  pop2_under h = by μ.stack refl h
    where
      by : (l : List Value) → μ.stack ≡ l → length l < 2 → pop2 μ ≡ fault StackUnderflow
      by [] e h = pop2_none e
      by (y ∷ []) e h = pop2_one e
      by (y ∷ x ∷ s) e h = absurd (omega arith)

-- ---- fetchers

module _ {m : Machine} {st e d c l : List ℕ} {μ : Floo.Machine} (R : Rep m st e d c l μ) where
  pub one_under : m.depth < 1 → one_int μ ≡ fault StackUnderflow
  unfolding one_int ◌>>=◌
  one_under h = rw (pop1_under μ (omega (arith, items_length R.items, h)))

  pub one_bad : (k : ℕ) → m.depth ≡ suc k → (item_tag st k ≡ 1 → ⊥) → one_int μ ≡ fault TypeCheck
  unfolding one_int ◌>>=◌
  one_bad k h n =
      let x = top R.items k h in
      rw (pop1_some μ x.split, stands_no_integer x.words.stands n)

  pub one_got : (k : ℕ) → m.depth ≡ suc k → item_tag st k ≡ 1 → (rest : List Value) × (μ.stack ≡ integer (item_payload st k) ∷ rest)
  one_got k h i =
      let x = top R.items k h in
      (x.rest, x.split ∙ ap (λ v. v ∷ x.rest) (is_integer x.words.stands i))

  pub two_under : m.depth < 2 → two_ints μ ≡ fault StackUnderflow
  unfolding two_ints ◌>>=◌
  two_under h = rw (pop2_under μ (omega (arith, items_length R.items, h)))

  -- The upper operand is item u, the lower one item k.
  module _ (k u : ℕ) (h : m.depth ≡ suc u) (next : u ≡ suc k) where
    pub upper : Top (IsIn R.world μ) st u μ.stack
    upper = top R.items u h

    pub lower : Top (IsIn R.world μ) st k upper.rest
    lower = top upper.below k next

    pub both : μ.stack ≡ upper.value ∷ lower.value ∷ lower.rest
    both = upper.split ∙ ap (λ r. upper.value ∷ r) lower.split

    pub two_first_bad : (item_tag st k ≡ 1 → ⊥) → two_ints μ ≡ fault TypeCheck
    unfolding two_ints ◌>>=◌
    two_first_bad n = rw (pop2_some μ both, stands_no_integer lower.words.stands n)

    pub two_second_bad : item_tag st k ≡ 1 → (item_tag st u ≡ 1 → ⊥) → two_ints μ ≡ fault TypeCheck
    unfolding two_ints ◌>>=◌ int
    two_second_bad i n = rw (pop2_some μ both, is_integer lower.words.stands i, stands_no_integer upper.words.stands n)

    pub two_got : item_tag st k ≡ 1
        → item_tag st u ≡ 1
        → (rest : List Value) × (μ.stack ≡ integer (item_payload st u) ∷ integer (item_payload st k) ∷ rest)
    two_got i j = (
      lower.rest,
      both ∙ ap (λ v. v ∷ lower.value ∷ lower.rest) (is_integer upper.words.stands j)
          ∙ ap (λ v. integer (item_payload st u) ∷ v ∷ lower.rest) (is_integer lower.words.stands i),
    )

-- ---- a value that needs no heap

scalar_stands : {w : World} {names : List (List ℕ)} {strings : List Bool} {v : Value} {t p : ℕ} → Scalar v t p → Is w names strings v t p
scalar_stands Operands.an_integer = record { stands = an_integer; alive = λ l. absurd (omega arith) }
scalar_stands Operands.a_boolean = record { stands = a_boolean; alive = λ l. absurd (omega arith) }
scalar_stands Operands.a_mark = record { stands = a_mark; alive = λ l. absurd (omega arith) }
scalar_stands Operands.a_null = record { stands = a_null; alive = λ l. absurd (omega arith) }

scalar_nameless : {v : Value} {t p : ℕ} → Scalar v t p → Nameless v
scalar_nameless Operands.an_integer = record { none = λ t. t }
scalar_nameless Operands.a_boolean = record { none = λ t. t }
scalar_nameless Operands.a_mark = record { none = λ t. t }
scalar_nameless Operands.a_null = record { none = λ t. t }

-- Two words stored at a slot.
module _ (st : List ℕ) (k t p : ℕ) (fits : 2 * k + 2 ≤ length st) where
  pub two_first : get_or (set (set st (2 * k) t) (2 * k + 1) p) (2 * k) 0 ≡ t
  two_first = get_or-set_other (set st (2 * k) t) (2 * k + 1) (2 * k) p 0 (λ q. omega arith) ∙ get_or-set_same st (2 * k) t 0 (omega arith)

  pub two_second : get_or (set (set st (2 * k) t) (2 * k + 1) p) (2 * k + 1) 0 ≡ p
  two_second = get_or-set_same (set st (2 * k) t) (2 * k + 1) p 0 (omega (arith, length-set st (2 * k) t))

  pub two_others : (j : ℕ) → (j ≡ 2 * k → ⊥) → (j ≡ 2 * k + 1 → ⊥) → get_or (set (set st (2 * k) t) (2 * k + 1) p) j 0 ≡ get_or st j 0
  two_others j a b = get_or-set_other (set st (2 * k) t) (2 * k + 1) j p 0 b ∙ get_or-set_other st (2 * k) j t 0 a

  pub two_below : (j : ℕ) → j < 2 * k → get_or (set (set st (2 * k) t) (2 * k + 1) p) j 0 ≡ get_or st j 0
  two_below j l = two_others j (λ q. omega arith) (λ q. omega arith)

  pub two_length : length (set (set st (2 * k) t) (2 * k + 1) p) ≡ length st
  two_length = length-set (set st (2 * k) t) (2 * k + 1) p ∙ length-set st (2 * k) t

-- k items are left, and a value is put above them.
put_above : {m : Machine} {st e d c l : List ℕ} {μ : Floo.Machine}
    → Rep m st e d c l μ
    → (k t p : ℕ)
    → 2 * k + 2 ≤ length st
    → {v : Value}
    → Scalar v t p
    → (old rest : List Value)
    → m.depth ≡ k + length old
    → All Nameless old
    → μ.stack ≡ old ++ rest
    → Rep (at_depth (k + 1) m) (set (set st (2 * k) t) (2 * k + 1) p) e d c l (with_stack (v ∷ rest) μ)
put_above {m} {st} {μ} R k t p fits {v} sc old rest z nameless s =
    let room : 2 * (k + 1) ≤ length st = omega arith in
    let old-items = subst (λ x. Items (IsIn R.world μ) st m.depth x) s R.items in
    let below = items_frame (two_below st k t p fits) (items_below old k z old-items) in
    let words : IsIn R.world μ v (get_or (set (set st (2 * k) t) (2 * k + 1) p) (2 * k) 0) (get_or (set (set st (2 * k) t) (2 * k + 1) p) (2 * k + 1) 0) =
    rw (two_first st k t p fits, two_second st k t p fits) (scalar_stands sc) in
    let items = subst (λ x. Items (IsIn R.world μ) (set (set st (2 * k) t) (2 * k + 1) p) x (v ∷ rest)) (sym (add-one k)) (item words below) in
    restack R (set (set st (2 * k) t) (2 * k + 1) p) (k + 1) old (v ∷ []) rest s nameless (cons (scalar_nameless sc) nil) (two_length st k t p fits) room items

-- n operands give way to a result.
pub replaced : {m : Machine} {st e d c l : List ℕ} {μ : Floo.Machine}
    → Rep m st e d c l μ
    → (k n t p : ℕ)
    → m.depth ≡ k + n
    → 1 ≤ n
    → {v : Value}
    → Scalar v t p
    → (old rest : List Value)
    → length old ≡ n
    → All Nameless old
    → μ.stack ≡ old ++ rest
    → Rep (at_depth (k + 1) m) (set (set st (2 * k) t) (2 * k + 1) p) e d c l (with_stack (v ∷ rest) μ)
replaced {st = st} R k n t p z few sc old rest len nameless s =
    let fits : 2 * k + 2 ≤ length st = omega (arith, R.rooms.stack_fits) in
    put_above R k t p fits sc old rest (omega arith) nameless s

-- A value is pushed.
pub pushed : {m : Machine} {st e d c l : List ℕ} {μ : Floo.Machine}
    → Rep m st e d c l μ
    → (t p : ℕ)
    → 2 * m.depth + 2 ≤ length st
    → {v : Value}
    → Scalar v t p
    → Rep (at_depth (m.depth + 1) m) (set (set st (2 * m.depth) t) (2 * m.depth + 1) p) e d c l (push v μ)
unfolding push
pushed {m} {μ = μ} R t p fits sc = put_above R m.depth t p fits sc [] μ.stack (omega arith) nil refl
