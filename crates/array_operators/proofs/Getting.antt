-- length and get on their operands: typecheck, rangecheck, and what the primitives do else.
-- Assumes nothing.
use Rattle.std.specs.Prelude.{Ok, Err}
use mathlib.Core.Path.{◌≡◌, refl, sym, ap, ◌∙◌, subst}
use mathlib.Core.List.{List, [], ◌∷◌}
use Prim.Native.Nat.{ℕ, ◌^◌, ◌≤◌, ◌<◌}
use native.Mathlib.Omega.{arith}
use borrow.Author.Tests.{le-leb, lt-leb}
use lib.ListN.{length, get_or, set, drop, get_elem?, get_or-eq_default}
use lib.Dec.{leb}
use Rattle.semantics.specs.Text.{bytes}
use Rattle.semantics.specs.Words.{signed}
use Rattle.semantics.specs.Values.{Value, integer, null, Object, ok, fault, ◌>>=◌, check, given, int, count, object_id}
use Rattle.semantics.specs.Machine as Floo
use Rattle.semantics.specs.Machine.{with_stack, push, object, elements_of, bytes_of}
use Rattle.semantics.specs.Operators.{perform}
use Rattle.semantics.specs.ObjectOperators.{length_of, got}
use Rattle.semantics.specs.declared.Error.{Error}
use Rattle.semantics.specs.declared.Error.TheVariants.{StackUnderflow, TypeCheck, RangeCheck}
use Rattle.semantics.specs.ListLaws.{no_element, an_element}
use Rattle.word.proofs.Counts.{count_low, count_high}
use Rattle.machine.specs.Rep.{Rep, MovesHeap}
use Rattle.machine.specs.Room.{DoesHeap}
use Rattle.machine.specs.Moves.{dropped}
use Rattle.machine.specs.Operands.{an_integer, Pushes}
use Rattle.machine.specs.declared.Machine.{Machine}
use Rattle.machine.specs.Answers.{OneInt}
use Rattle.machine.proofs.Outcomes.{stack_depth, fails_heap, moves_heap, then_heap}
use Rattle.machine.proofs.Pops.{pushes_heap}
use Rattle.elements.specs.Elements.{HasArray, HasString, ItemTag, ArraySize, StringSize, ByteOf, element_copied}
use Rattle.elements.proofs.Arrays.{item_id_lem}
use Rattle.elements.proofs.Tags.{tag_object, tag_no_object, array_of, string_of}
use Rattle.array_operators.specs.Items.{IntIs, ItemInt, IntegerItem, ArrayItem, StringItem, ItemLength, popped}
use Rattle.array_operators.proofs.Named.{getting, length_under, length_on, get_under, get_on}
use Rattle.array_operators.proofs.Objects.{whole_array, whole_string}

-- ---- length

module _ {m : Machine} {s c : List ℕ} where
  pub length_short : m.depth < 1 → DoesHeap (perform (bytes "length")) m s s c c (Err StackUnderflow)
  length_short h = fails_heap (λ e d l μ R. length_under μ (omega (arith, stack_depth R)))

  module _ {t : ℕ} (T : ItemTag 0 m s t) (deep : 1 ≤ m.depth) where
    pub length_type : t < 8 → DoesHeap (perform (bytes "length")) m s s c c (Err TypeCheck)
    unfolding ◌>>=◌
    length_type low =
        fails_heap (λ e d l μ R.
        length_on μ (omega (arith, stack_depth R))
        ∙ ap (λ r. r >>= λ i. ok (push (integer (length_of (object (popped 1 μ) i))) (popped 1 μ)))
        (tag_no_object (get_or μ.stack 0 null) (omega (arith, low, T.says e d c l μ R))))

    pub length_done : {n : ℕ} {m₁ m₂ : Machine} {s' c₁ : List ℕ}
        → 8 ≤ t
        → ItemLength 0 m s c n
        → MovesHeap dropped m m₁ s s c c₁
        → Pushes 1 n m₁ m₂ s s'
        → length s' ≡ length s
        → DoesHeap (perform (bytes "length")) m s s' c c₁ (Ok m₂)
    unfolding ◌>>=◌ push with_stack dropped popped object
    length_done {n} high L D P long =
        moves_heap (then_heap D (pushes_heap (an_integer {w = n}) P)) (λ μ. refl) long (λ e d l μ R.
        let x = tag_object (get_or μ.stack 0 null) (omega (arith, high, T.says e d c l μ R)) in
        length_on μ (omega (arith, stack_depth R))
        ∙ ap (λ r. r >>= λ i. ok (push (integer (length_of (object (popped 1 μ) i))) (popped 1 μ))) x
        ∙ ap (λ k. ok (push (integer k) (popped 1 μ))) (sym (L.says e d l μ R _ x)))

-- ---- get

module _ (x y : Value) (τ : Floo.Machine) where
  get_no_object : {e : Error} → object_id x ≡ fault e → getting x y τ ≡ fault e
  unfolding ◌>>=◌
  get_no_object q = ap (λ r. r >>= λ i. int y >>= λ z. count z >>= λ n. got (object τ i) n >>= λ v. ok (push v τ)) q

  module _ {i : ℕ} (q : object_id x ≡ ok i) where
    get_object : getting x y τ ≡ (int y >>= λ z. count z >>= λ n. got (object τ i) n >>= λ v. ok (push v τ))
    unfolding ◌>>=◌
    get_object = ap (λ r. r >>= λ i. int y >>= λ z. count z >>= λ n. got (object τ i) n >>= λ v. ok (push v τ)) q

    get_no_integer : {e : Error} → int y ≡ fault e → getting x y τ ≡ fault e
    unfolding ◌>>=◌
    get_no_integer b = get_object ∙ ap (λ r. r >>= λ z. count z >>= λ n. got (object τ i) n >>= λ v. ok (push v τ)) b

    module _ {w : ℕ} (b : y ≡ integer w) where
      get_integer : getting x y τ ≡ (count (signed w) >>= λ n. got (object τ i) n >>= λ v. ok (push v τ))
      unfolding ◌>>=◌ int
      get_integer = get_object ∙ ap (λ y. int y >>= λ z. count z >>= λ n. got (object τ i) n >>= λ v. ok (push v τ)) b

      get_negative : 2 ^ 31 ≤ w → w < 2 ^ 32 → getting x y τ ≡ fault RangeCheck
      unfolding ◌>>=◌
      get_negative l h = get_integer ∙ ap (λ r. r >>= λ n. got (object τ i) n >>= λ v. ok (push v τ)) (count_high w l h)

      get_from : w < 2 ^ 31 → (o : Object) → object τ i ≡ o → getting x y τ ≡ (got o w >>= λ v. ok (push v τ))
      unfolding ◌>>=◌
      get_from l o e =
          get_integer ∙ ap (λ r. r >>= λ n. got (object τ i) n >>= λ v. ok (push v τ)) (count_low w l) ∙ ap (λ o. got o w >>= λ v. ok (push v τ)) e

module _ {m : Machine} {s c : List ℕ} where
  pub get_short : m.depth < 2 → DoesHeap (perform (bytes "get")) m s s c c (Err StackUnderflow)
  get_short h = fails_heap (λ e d l μ R. get_under μ (omega (arith, stack_depth R)))

  module _ (deep : 2 ≤ m.depth) {t : ℕ} (T : ItemTag 1 m s t) where
    pub get_type : t < 8 → DoesHeap (perform (bytes "get")) m s s c c (Err TypeCheck)
    get_type low =
        fails_heap (λ e d l μ R.
        get_on μ (omega (arith, stack_depth R))
        ∙ get_no_object _ _ (popped 2 μ) (tag_no_object (get_or μ.stack 1 null) (omega (arith, low, T.says e d c l μ R))))

    module _ (high : 8 ≤ t) {r : OneInt} (I : ItemInt 0 m s r) where
      pub get_index : {x : Error} → r ≡ Err x → DoesHeap (perform (bytes "get")) m s s c c (Err x)
      get_index q =
          fails_heap (λ e d l μ R.
          let o = tag_object (get_or μ.stack 1 null) (omega (arith, high, T.says e d c l μ R)) in
          get_on μ (omega (arith, stack_depth R))
          ∙ get_no_integer _ _ (popped 2 μ) o (subst (IntIs (get_or μ.stack 0 null)) q (I.says e d c l μ R)))

      pub get_below : {w : ℕ} → r ≡ Ok w → 2 ^ 31 ≤ w → w < 2 ^ 32 → DoesHeap (perform (bytes "get")) m s s c c (Err RangeCheck)
      get_below q low less =
          fails_heap (λ e d l μ R.
          let o = tag_object (get_or μ.stack 1 null) (omega (arith, high, T.says e d c l μ R)) in
          get_on μ (omega (arith, stack_depth R))
          ∙ get_negative _ _ (popped 2 μ) o (subst (IntIs (get_or μ.stack 0 null)) q (I.says e d c l μ R)) low less)

-- ---- an element

-- The second item is replaced, and the first one goes.
second_set : (l : List Value) (v : Value) → 2 ≤ length l → drop 1 (set l 1 v) ≡ v ∷ drop 2 l
second_set [] v h = absurd (omega arith)
second_set (x ∷ []) v h = absurd (omega arith)
second_set (x ∷ y ∷ l) v h = refl

module _ {m : Machine} {s c : List ℕ} {n : ℕ} (deep : 2 ≤ m.depth) (low : n < 2 ^ 31) where
  module _ (A : ArrayItem 1 m s) (I : IntegerItem 0 n m s) where
    from_array : (e d l : List ℕ) (μ : Floo.Machine) (R : Rep m s e d c l μ) (a : HasArray 1 μ)
        → perform (bytes "get") μ ≡ (given (get_elem? (elements_of (object μ a.id)) n) RangeCheck >>= λ v. ok (push v (popped 2 μ)))
    unfolding got object_id popped with_stack object
    from_array e d l μ R a =
        get_on μ (omega (arith, stack_depth R))
        ∙ get_from (get_or μ.stack 1 null) _ (popped 2 μ) (ap object_id a.item) (I.says e d c l μ R) low _ (whole_array R deep a)

    module _ {k : ℕ} (Z : ArraySize 1 m s c k) where
      pub get_past : k ≤ n → DoesHeap (perform (bytes "get")) m s s c c (Err RangeCheck)
      unfolding ◌>>=◌ given
      get_past h =
          fails_heap (λ e d l μ R.
          let a = array_of R A in
          let many : length (elements_of (object μ a.id)) ≤ n = omega (arith, h, Z.says e d l μ R a.executable a.id a.item) in
          from_array e d l μ R a
          ∙ ap (λ o. given o RangeCheck >>= λ v. ok (push v (popped 2 μ))) (no_element (elements_of (object μ a.id)) n many))

      pub get_element : {m₁ m₂ : Machine} {s' c₁ c₂ : List ℕ}
          → n < k
          → MovesHeap (element_copied 1 n 1) m m₁ s s' c c₁
          → MovesHeap dropped m₁ m₂ s' s' c₁ c₂
          → length s' ≡ length s
          → DoesHeap (perform (bytes "get")) m s s' c c₂ (Ok m₂)
      unfolding ◌>>=◌ given push with_stack dropped popped element_copied
      get_element h E D long =
          moves_heap (then_heap E D) (λ μ. refl) long (λ e d l μ R.
          let a = array_of R A in
          let vs = elements_of (object μ a.id) in
          let few : n < length vs = omega (arith, h, Z.says e d l μ R a.executable a.id a.item) in
          let deep : 2 ≤ length μ.stack = omega (arith, stack_depth R) in
          from_array e d l μ R a
          ∙ ap (λ o. given o RangeCheck >>= λ v. ok (push v (popped 2 μ))) (an_element vs n null few)
          ∙ sym (ap (λ i. ok (with_stack (drop 1 (set μ.stack 1 (get_or (elements_of (object μ i)) n null))) μ)) (item_id_lem a)
          ∙ ap (λ (z : List Value). ok (with_stack z μ)) (second_set μ.stack (get_or vs n null) deep)))

  -- ---- a byte

  module _ (T : StringItem 1 m s) (I : IntegerItem 0 n m s) where
    from_string : (e d l : List ℕ) (μ : Floo.Machine) (R : Rep m s e d c l μ) (a : HasString 1 μ)
        → perform (bytes "get") μ
        ≡ ((check (leb n (length (bytes_of (object μ a.id)))) RangeCheck >>= λ u. ok (integer (get_or (bytes_of (object μ a.id)) n 0))) >>= λ v. ok (push v (popped 2 μ)))
    unfolding got object_id popped with_stack object
    from_string e d l μ R a =
        get_on μ (omega (arith, stack_depth R))
        ∙ get_from (get_or μ.stack 1 null) _ (popped 2 μ) (ap object_id a.item) (I.says e d c l μ R) low _ (whole_string R deep a)

    module _ {k : ℕ} (Z : StringSize 1 m s c k) where
      pub get_beyond : k < n → DoesHeap (perform (bytes "get")) m s s c c (Err RangeCheck)
      unfolding ◌>>=◌ check
      get_beyond h =
          fails_heap (λ e d l μ R.
          let a = string_of R T in
          let bs = bytes_of (object μ a.id) in
          from_string e d l μ R a
          ∙ ap (λ b. (check b RangeCheck >>= λ u. ok (integer (get_or bs n 0))) >>= λ v. ok (push v (popped 2 μ)))
          (lt-leb n (length bs) (omega (arith, h, Z.says e d l μ R a.id a.item))))

      pub get_byte_done : {b : ℕ} {m₁ m₂ : Machine} {s' c₁ : List ℕ}
          → n ≤ k
          → ByteOf 1 n m s c b
          → MovesHeap (popped 2) m m₁ s s c c₁
          → Pushes 1 b m₁ m₂ s s'
          → length s' ≡ length s
          → DoesHeap (perform (bytes "get")) m s s' c c₁ (Ok m₂)
      unfolding ◌>>=◌ check push with_stack popped
      get_byte_done {b} h B D P long =
          moves_heap (then_heap D (pushes_heap (an_integer {w = b}) P)) (λ μ. refl) long (λ e d l μ R.
          let a = string_of R T in
          let bs = bytes_of (object μ a.id) in
          from_string e d l μ R a
          ∙ ap (λ x. (check x RangeCheck >>= λ u. ok (integer (get_or bs n 0))) >>= λ v. ok (push v (popped 2 μ)))
          (le-leb n (length bs) (omega (arith, h, Z.says e d l μ R a.id a.item)))
          ∙ ap (λ x. ok (push (integer x) (popped 2 μ))) (sym (B.says e d l μ R a.id a.item)))

-- ---- a byte, or zero past the end

module _ {i q : ℕ} {m : Machine} {s c : List ℕ} {k : ℕ} (Z : StringSize i m s c k) where
  pub zero_past : k ≤ q → ByteOf i q m s c 0
  zero_past h =
      record {
        says = λ e d l μ R id x.
            sym (get_or-eq_default (bytes_of (object μ id)) 0 {n = q} (omega (arith, h, Z.says e d l μ R id x)));
      }
