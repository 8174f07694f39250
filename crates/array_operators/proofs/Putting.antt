-- put on its operands: typecheck, invalidaccess, rangecheck, and what the primitives do else. A zero that is put just past a string's end changes nothing.
-- Assumes nothing.
use Rattle.std.specs.Prelude.{Ok, Err}
use mathlib.Core.Path.{◌≡◌, refl, sym, ap, ◌∙◌, subst}
use mathlib.Core.Bool.{Bool, true, false, ◌&&◌, ◌||◌}
use mathlib.Core.List.{List, []}
use mathlib.Core.Logic.{⊎_elim}
use Prim.Native.Nat.{ℕ, suc, ◌+◌, ◌-◌, ◌^◌, ◌≤◌, ◌<◌}
use native.Mathlib.Omega.{arith}
use borrow.Author.Tests.{le-leb, lt-leb, lt-ltb, le-ltb}
use lib.IntN.{ℤ}
use lib.ListN.{length, get_or, set, drop, length-set}
use lib.Seq.{set_out, set-get_or}
use lib.Dec.{leb, ltb, eqb}
use Rattle.semantics.specs.Text.{bytes}
use Rattle.semantics.specs.Words.{signed}
use Rattle.semantics.specs.Values.{Value, integer, null, Object, elements, text, Result, ok, fault, ◌>>=◌, check, int, count, object_id}
use Rattle.semantics.specs.Machine as Floo
use Rattle.semantics.specs.Machine.{with_stack, with_store, object, elements_of, bytes_of, change, writable}
use Rattle.semantics.specs.Operators.{perform}
use Rattle.semantics.specs.ObjectOperators.{put_element, put_byte, put_into}
use Rattle.semantics.specs.declared.Error.{Error}
use Rattle.semantics.specs.declared.Error.TheVariants.{StackUnderflow, TypeCheck, InvalidAccess, RangeCheck}
use Rattle.heap.proofs.Since.{lt_or_le}
use Rattle.word.proofs.Counts.{count_low, count_high}
use Rattle.machine.specs.Rep.{Rep, MovesHeap}
use Rattle.machine.specs.Room.{DoesHeap}
use Rattle.machine.specs.declared.Machine.{Machine}
use Rattle.machine.specs.Answers.{OneInt}
use Rattle.machine.proofs.Outcomes.{stack_depth, fails_heap, moves_heap, then_heap}
use Rattle.elements.specs.Elements.{item_id, HasArray, HasString, SomewhereThat, ItemTag, ArraySize, StringSize, ItemSealed, element_put, byte_put}
use Rattle.elements.proofs.Arrays.{item_id_lem}
use Rattle.elements.proofs.Strings.{string_id_lem, string_too}
use Rattle.elements.proofs.Marking.{item_writable, item_refused}
use Rattle.elements.proofs.Tags.{tag_object, tag_no_object, array_of, string_of}
use Rattle.array_operators.specs.Items.{IntIs, ItemInt, IntegerItem, ArrayItem, StringItem, popped}
use Rattle.array_operators.proofs.Named.{putting, put_under, put_on}
use Rattle.array_operators.proofs.Objects.{whole_array, whole_string}

-- ---- what the definition does

-- What is done once the operands' types are known.
abbrev writing : ℕ → Floo.Machine → ℤ → Result (ℤ → Result Object) → Result Floo.Machine
writing i τ z r = r >>= λ f. writable i τ >>= λ u. f z >>= λ o. ok (change i o τ)

module _ (x y v : Value) (τ : Floo.Machine) where
  put_no_object : {e : Error} → object_id x ≡ fault e → putting x y v τ ≡ fault e
  unfolding ◌>>=◌
  put_no_object q = ap (λ r. r >>= λ i. int y >>= λ z. writing i τ z (put_into (object τ i) v)) q

  module _ {i : ℕ} (q : object_id x ≡ ok i) where
    put_object : putting x y v τ ≡ (int y >>= λ z. writing i τ z (put_into (object τ i) v))
    unfolding ◌>>=◌
    put_object = ap (λ r. r >>= λ i. int y >>= λ z. writing i τ z (put_into (object τ i) v)) q

    put_no_integer : {e : Error} → int y ≡ fault e → putting x y v τ ≡ fault e
    unfolding ◌>>=◌
    put_no_integer b = put_object ∙ ap (λ r. r >>= λ z. writing i τ z (put_into (object τ i) v)) b

    put_to : {w : ℕ} → y ≡ integer w → (o : Object) → object τ i ≡ o → {r : Result (ℤ → Result Object)} → put_into o v ≡ r → putting x y v τ ≡ writing i τ (signed w) r
    unfolding ◌>>=◌ int
    put_to {w} b o e p =
        put_object
        ∙ ap (λ y. int y >>= λ z. writing i τ z (put_into (object τ i) v)) b
        ∙ ap (writing i τ (signed w)) (ap (λ o. put_into o v) e ∙ p)

-- A target that is read only is refused, and another is written to.
module _ (i : ℕ) (τ : Floo.Machine) (z : ℤ) (f : ℤ → Result Object) where
  write_refused : writable i τ ≡ fault InvalidAccess → writing i τ z (ok f) ≡ fault InvalidAccess
  unfolding ◌>>=◌
  write_refused q = ap (λ r. r >>= λ u. f z >>= λ o. ok (change i o τ)) q

  write_done : writable i τ ≡ ok tt → {r : Result Object} → f z ≡ r → writing i τ z (ok f) ≡ (r >>= λ o. ok (change i o τ))
  unfolding ◌>>=◌
  write_done q p = ap (λ r. r >>= λ u. f z >>= λ o. ok (change i o τ)) q ∙ ap (λ r. r >>= λ o. ok (change i o τ)) p

-- Into an array.
module _ (vs : List Value) (w : ℕ) (v : Value) where
  array_negative : 2 ^ 31 ≤ w → w < 2 ^ 32 → put_element vs v (signed w) ≡ fault RangeCheck
  unfolding put_element ◌>>=◌
  array_negative l h = ap (λ r. r >>= λ n. check (ltb n (length vs)) RangeCheck >>= λ u. ok (elements (set vs n v))) (count_high w l h)

  module _ (low : w < 2 ^ 31) where
    array_checked : put_element vs v (signed w) ≡ (check (ltb w (length vs)) RangeCheck >>= λ u. ok (elements (set vs w v)))
    unfolding put_element ◌>>=◌
    array_checked = ap (λ r. r >>= λ n. check (ltb n (length vs)) RangeCheck >>= λ u. ok (elements (set vs n v))) (count_low w low)

    array_past : length vs ≤ w → put_element vs v (signed w) ≡ fault RangeCheck
    unfolding check ◌>>=◌
    array_past h = array_checked ∙ ap (λ b. check b RangeCheck >>= λ u. ok (elements (set vs w v))) (le-ltb w (length vs) h)

    array_set_lem : w < length vs → put_element vs v (signed w) ≡ ok (elements (set vs w v))
    unfolding check ◌>>=◌
    array_set_lem h = array_checked ∙ ap (λ b. check b RangeCheck >>= λ u. ok (elements (set vs w v))) (lt-ltb w (length vs) h)

-- Into a string.
abbrev in_reach : ℕ → ℕ → ℕ → Bool
in_reach n most b = ltb n most || (eqb n most && eqb b 0)

module _ (bs : List ℕ) (w : ℕ) where
  abbrev byte_set : ℕ → ℕ → Result Object
  byte_set n b = check (leb b 255) RangeCheck >>= λ u. check (in_reach n (length bs) b) RangeCheck >>= λ u. ok (text (set bs n b))

  text_type : (v : Value) {e : Error} → int v ≡ fault e → put_into (text bs) v ≡ fault e
  unfolding put_into ◌>>=◌
  text_type v q = ap (λ r. r >>= λ y. ok (put_byte bs y)) q

  module _ (b : ℕ) where
    text_negative : 2 ^ 31 ≤ w → w < 2 ^ 32 → put_byte bs (signed b) (signed w) ≡ fault RangeCheck
    unfolding put_byte ◌>>=◌
    text_negative l h = ap (λ r. r >>= λ n. count (signed b) >>= λ b. byte_set n b) (count_high w l h)

    module _ (low : w < 2 ^ 31) where
      text_counted : put_byte bs (signed b) (signed w) ≡ (count (signed b) >>= λ b. byte_set w b)
      unfolding put_byte ◌>>=◌
      text_counted = ap (λ r. r >>= λ n. count (signed b) >>= λ b. byte_set n b) (count_low w low)

      text_large : 255 < b → b < 2 ^ 32 → put_byte bs (signed b) (signed w) ≡ fault RangeCheck
      unfolding check ◌>>=◌
      text_large h less =
          text_counted
          ∙ ⊎_elim
          (λ (l : b < 2 ^ 31).
          ap (λ r. r >>= λ b. byte_set w b) (count_low b l)
          ∙ ap (λ x. check x RangeCheck >>= λ u. check (in_reach w (length bs) b) RangeCheck >>= λ u. ok (text (set bs w b))) (lt-leb b 255 h))
          (λ (l : 2 ^ 31 ≤ b). ap (λ r. r >>= λ b. byte_set w b) (count_high b l less))
          (lt_or_le b (2 ^ 31))

      text_checked : b ≤ 255 → put_byte bs (signed b) (signed w) ≡ (check (in_reach w (length bs) b) RangeCheck >>= λ u. ok (text (set bs w b)))
      unfolding check ◌>>=◌
      text_checked h =
          text_counted
          ∙ ap (λ r. r >>= λ b. byte_set w b) (count_low b (omega arith))
          ∙ ap (λ x. check x RangeCheck >>= λ u. check (in_reach w (length bs) b) RangeCheck >>= λ u. ok (text (set bs w b))) (le-leb b 255 h)

-- ---- the operator

module _ {m : Machine} {s c : List ℕ} where
  pub put_short : m.depth < 3 → DoesHeap (perform (bytes "put")) m s s c c (Err StackUnderflow)
  put_short h = fails_heap (λ e d l μ R. put_under μ (omega (arith, stack_depth R)))

  module _ (deep : 3 ≤ m.depth) {t : ℕ} (T : ItemTag 2 m s t) where
    pub put_type : t < 8 → DoesHeap (perform (bytes "put")) m s s c c (Err TypeCheck)
    put_type low =
        fails_heap (λ e d l μ R.
        put_on μ (omega (arith, stack_depth R))
        ∙ put_no_object _ _ _ (popped 3 μ) (tag_no_object (get_or μ.stack 2 null) (omega (arith, low, T.says e d c l μ R))))

    pub put_index : 8 ≤ t → {r : OneInt} → ItemInt 1 m s r → {x : Error} → r ≡ Err x → DoesHeap (perform (bytes "put")) m s s c c (Err x)
    put_index high I q =
        fails_heap (λ e d l μ R.
        let o = tag_object (get_or μ.stack 2 null) (omega (arith, high, T.says e d c l μ R)) in
        put_on μ (omega (arith, stack_depth R))
        ∙ put_no_integer _ _ _ (popped 3 μ) o (subst (IntIs (get_or μ.stack 1 null)) q (I.says e d c l μ R)))

module _ {m : Machine} {s c : List ℕ} {n : ℕ} (deep : 3 ≤ m.depth) (I : IntegerItem 1 n m s) {x : Bool} (M : ItemSealed 2 m s c x) where
  module _ (A : ArrayItem 2 m s) where
    to_array : (e d l : List ℕ) (μ : Floo.Machine) (R : Rep m s e d c l μ) (a : HasArray 2 μ)
        → perform (bytes "put") μ ≡ writing a.id (popped 3 μ) (signed n) (ok (put_element (elements_of (object μ a.id)) (get_or μ.stack 0 null)))
    unfolding object_id popped with_stack object put_into
    to_array e d l μ R a =
        put_on μ (omega (arith, stack_depth R))
        ∙ put_to (get_or μ.stack 2 null) _ _ (popped 3 μ) (ap object_id a.item) (I.says e d c l μ R) _ (whole_array R deep a) refl

    pub put_element_refused : x ≡ true → DoesHeap (perform (bytes "put")) m s s c c (Err InvalidAccess)
    unfolding object_id popped with_stack
    put_element_refused f =
        fails_heap (λ e d l μ R.
        let a = array_of R A in
        to_array e d l μ R a ∙ write_refused a.id (popped 3 μ) (signed n) _ (item_refused M R (ap object_id a.item) (popped 3 μ) refl f))

    module _ (plain : x ≡ false) where
      element_put_lem : (e d l : List ℕ) (μ : Floo.Machine) (R : Rep m s e d c l μ) (a : HasArray 2 μ) {r : Result Object}
          → put_element (elements_of (object μ a.id)) (get_or μ.stack 0 null) (signed n) ≡ r
          → perform (bytes "put") μ ≡ (r >>= λ o. ok (change a.id o (popped 3 μ)))
      unfolding object_id popped with_stack
      element_put_lem e d l μ R a p =
          to_array e d l μ R a ∙ write_done a.id (popped 3 μ) (signed n) _ (item_writable M R (ap object_id a.item) (popped 3 μ) refl plain) p

      pub put_below : 2 ^ 31 ≤ n → n < 2 ^ 32 → DoesHeap (perform (bytes "put")) m s s c c (Err RangeCheck)
      unfolding ◌>>=◌
      put_below low high = fails_heap (λ e d l μ R. let a = array_of R A in element_put_lem e d l μ R a (array_negative _ n _ low high))

      module _ (low : n < 2 ^ 31) {k : ℕ} (Z : ArraySize 2 m s c k) where
        pub put_past : k ≤ n → DoesHeap (perform (bytes "put")) m s s c c (Err RangeCheck)
        unfolding ◌>>=◌
        put_past h =
            fails_heap (λ e d l μ R.
            let a = array_of R A in
            element_put_lem e d l μ R a (array_past _ n _ low (omega (arith, h, Z.says e d l μ R a.executable a.id a.item))))

        pub put_element_done : {m₁ m₂ : Machine} {c₁ c₂ : List ℕ}
            → n < k
            → MovesHeap (element_put 2 n 0) m m₁ s s c c₁
            → MovesHeap (popped 3) m₁ m₂ s s c₁ c₂
            → DoesHeap (perform (bytes "put")) m s s c c₂ (Ok m₂)
        unfolding ◌>>=◌ popped with_stack element_put change with_store
        put_element_done h E D =
            moves_heap (then_heap E D) (λ μ. length-set μ.store (item_id 2 μ) (elements (set (elements_of (object μ (item_id 2 μ))) n (get_or μ.stack 0 null)))) refl (λ e d l μ R.
            let a = array_of R A in
            element_put_lem e d l μ R a (array_set_lem _ n _ low (omega (arith, h, Z.says e d l μ R a.executable a.id a.item)))
            ∙ sym (ap (λ i. ok (with_stack (drop 3 μ.stack) (change i (elements (set (elements_of (object μ i)) n (get_or μ.stack 0 null))) μ))) (item_id_lem a)))

module _ {m : Machine} {s c : List ℕ} {n : ℕ} (deep : 3 ≤ m.depth) (I : IntegerItem 1 n m s) (T : StringItem 2 m s) {r : OneInt} (B : ItemInt 0 m s r) where
  to_string : (e d l : List ℕ) (μ : Floo.Machine) (R : Rep m s e d c l μ) (a : HasString 2 μ) {r : Result (ℤ → Result Object)}
      → put_into (text (bytes_of (object μ a.id))) (get_or μ.stack 0 null) ≡ r
      → perform (bytes "put") μ ≡ writing a.id (popped 3 μ) (signed n) r
  unfolding object_id popped with_stack object
  to_string e d l μ R a p =
      put_on μ (omega (arith, stack_depth R))
      ∙ put_to (get_or μ.stack 2 null) _ _ (popped 3 μ) (ap object_id a.item) (I.says e d c l μ R) _ (whole_string R deep a) p

  pub put_no_byte : {x : Error} → r ≡ Err x → DoesHeap (perform (bytes "put")) m s s c c (Err x)
  unfolding ◌>>=◌
  put_no_byte q =
      fails_heap (λ e d l μ R.
      to_string e d l μ R (string_of R T) (text_type _ n _ (subst (IntIs (get_or μ.stack 0 null)) q (B.says e d c l μ R))))

  module _ {b : ℕ} (q : r ≡ Ok b) {x : Bool} (M : ItemSealed 2 m s c x) where
    to_byte : (e d l : List ℕ) (μ : Floo.Machine) (R : Rep m s e d c l μ) (a : HasString 2 μ)
        → perform (bytes "put") μ ≡ writing a.id (popped 3 μ) (signed n) (ok (put_byte (bytes_of (object μ a.id)) (signed b)))
    unfolding put_into int ◌>>=◌
    to_byte e d l μ R a =
        to_string e d l μ R a (ap (put_into (text (bytes_of (object μ a.id)))) (subst (IntIs (get_or μ.stack 0 null)) q (B.says e d c l μ R)))

    pub put_byte_refused : x ≡ true → DoesHeap (perform (bytes "put")) m s s c c (Err InvalidAccess)
    unfolding object_id popped with_stack
    put_byte_refused f =
        fails_heap (λ e d l μ R.
        let a = string_of R T in
        to_byte e d l μ R a ∙ write_refused a.id (popped 3 μ) (signed n) _ (item_refused M R (ap object_id a.item) (popped 3 μ) refl f))

    module _ (plain : x ≡ false) where
      byte_put_lem : (e d l : List ℕ) (μ : Floo.Machine) (R : Rep m s e d c l μ) (a : HasString 2 μ) {o : Result Object}
          → put_byte (bytes_of (object μ a.id)) (signed b) (signed n) ≡ o
          → perform (bytes "put") μ ≡ (o >>= λ o. ok (change a.id o (popped 3 μ)))
      unfolding object_id popped with_stack
      byte_put_lem e d l μ R a p =
          to_byte e d l μ R a ∙ write_done a.id (popped 3 μ) (signed n) _ (item_writable M R (ap object_id a.item) (popped 3 μ) refl plain) p

      pub put_byte_below : 2 ^ 31 ≤ n → n < 2 ^ 32 → DoesHeap (perform (bytes "put")) m s s c c (Err RangeCheck)
      unfolding ◌>>=◌
      put_byte_below low high = fails_heap (λ e d l μ R. byte_put_lem e d l μ R (string_of R T) (text_negative _ n b low high))

      module _ (low : n < 2 ^ 31) where
        pub put_byte_large : 255 < b → b < 2 ^ 32 → DoesHeap (perform (bytes "put")) m s s c c (Err RangeCheck)
        unfolding ◌>>=◌
        put_byte_large h less = fails_heap (λ e d l μ R. byte_put_lem e d l μ R (string_of R T) (text_large _ n b low h less))

        module _ (small : b ≤ 255) {k : ℕ} (Z : StringSize 2 m s c k) {y : Bool} (reach : y ≡ in_reach n k b) where
          checked : (e d l : List ℕ) (μ : Floo.Machine) (R : Rep m s e d c l μ) (a : HasString 2 μ)
              → perform (bytes "put") μ ≡ ((check y RangeCheck >>= λ u. ok (text (set (bytes_of (object μ a.id)) n b))) >>= λ o. ok (change a.id o (popped 3 μ)))
          checked e d l μ R a =
              let bs = bytes_of (object μ a.id) in
              byte_put_lem e d l μ R a
              (text_checked bs n b low small
              ∙ ap (λ j. check (in_reach n j b) RangeCheck >>= λ u. ok (text (set bs n b))) (sym (Z.says e d l μ R a.id a.item))
              ∙ ap (λ y. check y RangeCheck >>= λ u. ok (text (set bs n b))) (sym reach))

          pub put_byte_beyond : y ≡ false → DoesHeap (perform (bytes "put")) m s s c c (Err RangeCheck)
          unfolding check ◌>>=◌
          put_byte_beyond f =
              fails_heap (λ e d l μ R.
              let a = string_of R T in
              checked e d l μ R a
              ∙ ap (λ y. (check y RangeCheck >>= λ u. ok (text (set (bytes_of (object μ a.id)) n b))) >>= λ o. ok (change a.id o (popped 3 μ))) f)

          pub put_byte_done : {m₂ : Machine} {c₁ c₂ : List ℕ}
              → y ≡ true
              → MovesHeap (byte_put 2 n b) m m s s c c₁
              → MovesHeap (popped 3) m m₂ s s c₁ c₂
              → DoesHeap (perform (bytes "put")) m s s c c₂ (Ok m₂)
          unfolding check ◌>>=◌ popped with_stack byte_put change with_store
          put_byte_done t E D =
              moves_heap (then_heap E D) (λ μ. length-set μ.store (item_id 2 μ) (text (set (bytes_of (object μ (item_id 2 μ))) n b))) refl (λ e d l μ R.
              let a = string_of R T in
              checked e d l μ R a
              ∙ ap (λ y. (check y RangeCheck >>= λ u. ok (text (set (bytes_of (object μ a.id)) n b))) >>= λ o. ok (change a.id o (popped 3 μ))) t
              ∙ sym (ap (λ i. ok (with_stack (drop 3 μ.stack) (change i (text (set (bytes_of (object μ i)) n b)) μ))) (string_id_lem a)))

-- ---- past the end nothing changes

put_same : (i q b : ℕ) (μ : Floo.Machine) (a : HasString i μ)
    → object μ a.id ≡ text (bytes_of (object μ a.id))
    → length (bytes_of (object μ a.id)) ≤ q
    → byte_put i q b μ ≡ μ
unfolding byte_put change with_store object
put_same i q b μ a whole h =
    ap (λ j. change j (text (set (bytes_of (object μ j)) q b)) μ) (string_id_lem a)
    ∙ ap (λ (z : List ℕ). with_store (set μ.store a.id (text z)) μ) (set_out (bytes_of (object μ a.id)) q b h)
    ∙ ap (λ (o : Object). with_store (set μ.store a.id o) μ) (sym whole)
    ∙ ap (λ (z : List Object). with_store z μ) (set-get_or μ.store a.id (elements []))

pub put_outside : {i q : ℕ} {m : Machine} {s c : List ℕ} {k : ℕ} (b : ℕ)
    → i < m.depth
    → SomewhereThat (HasString i) m s c
    → StringSize i m s c k
    → k ≤ q
    → MovesHeap (byte_put i q b) m m s s c c
put_outside {i} {q} {m} {s} {c} b deep W Z h =
    record {
      moves = λ e d l μ R.
          let place : m.depth ≡ m.depth - suc i + suc i = omega (arith, deep) in
          let a = string_too W.4 i (m.depth - suc i) place R W.5 in
          let past : length (bytes_of (object μ a.id)) ≤ q = omega (arith, h, Z.says e d l μ R a.id a.item) in
          subst (Rep m s e d c l) (sym (put_same i q b μ a (whole_string R deep a) past)) R;
    }
