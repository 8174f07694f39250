-- aload and astore on their operands: typecheck, invalidaccess, too few items or too little room, and what the primitives do else.
-- Assumes nothing.
use Rattle.std.specs.Prelude.{Ok, Err}
use mathlib.Core.Path.{◌≡◌, refl, sym, ap, ◌∙◌}
use mathlib.Core.Bool.{Bool, true, false}
use mathlib.Core.List.{List, [], ◌∷◌, ◌++◌, reverse, append-nil}
use Prim.Native.Nat.{ℕ, suc, ◌+◌, ◌-◌, ◌/◌, ◌≤◌, ◌<◌}
use native.Mathlib.Omega.{arith}
use borrow.Author.Tests.{le-leb, lt-leb}
use lib.ListN.{length, get_or, take, drop, set, length-append, length-reverse, length-drop, length-set, drop_of_length-le}
use lib.Seq.{take_all, set_split, drop_at, drop-drop, drop-set-lt, length-take-le}
use lib.Dec.{leb}
use Rattle.semantics.specs.Text.{bytes}
use Rattle.semantics.specs.Values.{Value, null, elements, ok, fault, ◌>>=◌, check, array_id, object_id}
use Rattle.semantics.specs.Machine as Floo
use Rattle.semantics.specs.Machine.{with_stack, with_store, push, object, elements_of, change}
use Rattle.semantics.specs.Operators.{perform}
use Rattle.semantics.specs.ObjectOperators.{size}
use Rattle.semantics.specs.declared.Error.TheVariants.{StackUnderflow, StackOverflow, TypeCheck, InvalidAccess}
use Rattle.machine.specs.Rep.{Rep, Somewhere, MovesStack, MovesHeap}
use Rattle.machine.specs.Room.{DoesHeap}
use Rattle.machine.specs.Moves.{swapped}
use Rattle.machine.specs.declared.Machine.{Machine}
use Rattle.machine.proofs.Outcomes.{stack_depth, fails_heap, moves_heap, over_heap, then_heap, stack_heap}
use Rattle.elements.specs.Elements.{item_id, SomewhereThat, ItemTag, ArraySize, ItemSealed}
use Rattle.elements.proofs.Arrays.{item_id_lem}
use Rattle.elements.proofs.Marking.{item_writable, item_refused}
use Rattle.elements.proofs.Tags.{tag_no_array, array_of}
use Rattle.array_operators.specs.Items.{ArrayItem, HasFirst, popped, spread_out, items_put}
use Rattle.array_operators.proofs.Named.{aload_under, aload_on, storing_all, storing_into, astore_under, astore_on}
use Rattle.array_operators.proofs.Objects.{whole_array}

-- The array on top has all its elements.
pub first_there : {m : Machine} {s c : List ℕ} {i n : ℕ} → ArrayItem i m s → ArraySize i m s c n → Somewhere m s c → SomewhereThat (HasFirst i n) m s c
first_there A Z (e, d, l, μ, R) =
    let a = array_of R A in
    (e, d, l, μ, R, record { array = a; inside = omega (arith, Z.says e d l μ R a.executable a.id a.item) })

-- ---- aload

module _ {m : Machine} {s c : List ℕ} where
  pub aload_short : m.depth < 1 → DoesHeap (perform (bytes "aload")) m s s c c (Err StackUnderflow)
  aload_short h = fails_heap (λ e d l μ R. aload_under μ (omega (arith, stack_depth R)))

  pub astore_short : m.depth < 1 → DoesHeap (perform (bytes "astore")) m s s c c (Err StackUnderflow)
  astore_short h = fails_heap (λ e d l μ R. astore_under μ (omega (arith, stack_depth R)))

  module _ (deep : 1 ≤ m.depth) where
    module _ {t : ℕ} (T : ItemTag 0 m s t) (low : t < 9) where
      no_array : (e d l : List ℕ) (μ : Floo.Machine) → Rep m s e d c l μ → array_id (get_or μ.stack 0 null) ≡ fault TypeCheck
      no_array e d l μ R = tag_no_array (get_or μ.stack 0 null) (omega (arith, low, T.says e d c l μ R))

      pub aload_type : DoesHeap (perform (bytes "aload")) m s s c c (Err TypeCheck)
      unfolding ◌>>=◌
      aload_type =
          fails_heap (λ e d l μ R.
          let x = get_or μ.stack 0 null in
          let τ = popped 1 μ in
          aload_on μ (omega (arith, stack_depth R))
          ∙ ap (λ r. r >>= λ i. ok (push x (with_stack (reverse (elements_of (object τ i)) ++ τ.stack) τ))) (no_array e d l μ R))

      pub astore_type : DoesHeap (perform (bytes "astore")) m s s c c (Err TypeCheck)
      unfolding ◌>>=◌
      astore_type =
          fails_heap (λ e d l μ R.
          let x = get_or μ.stack 0 null in
          let τ = popped 1 μ in
          astore_on μ (omega (arith, stack_depth R))
          ∙ ap (λ r. r >>= λ i. storing_into x τ i) (no_array e d l μ R))

    module _ (A : ArrayItem 0 m s) {n : ℕ} (Z : ArraySize 0 m s c n) where
      many : (e d l : List ℕ) (μ : Floo.Machine) (R : Rep m s e d c l μ) → n ≡ length (elements_of (object μ (array_of R A).id))
      many e d l μ R = let a = array_of R A in Z.says e d l μ R a.executable a.id a.item

      loads : (e d l : List ℕ) (μ : Floo.Machine) (R : Rep m s e d c l μ)
          → perform (bytes "aload") μ ≡ ok (with_stack (get_or μ.stack 0 null ∷ (reverse (elements_of (object μ (array_of R A).id)) ++ drop 1 μ.stack)) μ)
      unfolding ◌>>=◌ array_id push with_stack popped object
      loads e d l μ R =
          let x = get_or μ.stack 0 null in
          let τ = popped 1 μ in
          aload_on μ (omega (arith, deep, stack_depth R))
          ∙ ap (λ r. r >>= λ i. ok (push x (with_stack (reverse (elements_of (object τ i)) ++ τ.stack) τ))) (ap array_id (array_of R A).item)

      pub aload_over : length s / 2 - m.depth < n → DoesHeap (perform (bytes "aload")) m s s c c (Err StackOverflow)
      aload_over h =
          over_heap (λ e d l μ R.
          let vs = elements_of (object μ (array_of R A).id) in
          let long : length (reverse vs ++ drop 1 μ.stack) ≡ length vs + (length μ.stack - 1) =
          length-append (reverse vs) (drop 1 μ.stack) ∙ omega (arith, length-reverse vs, length-drop 1 μ.stack) in (
            get_or μ.stack 0 null ∷ (reverse vs ++ drop 1 μ.stack),
            loads e d l μ R,
            omega (arith, h, long, stack_depth R, many e d l μ R, R.rooms.stack_fits, deep),
          ))

      pub aload_done : {m₁ : Machine} {s' c₁ : List ℕ}
          → MovesHeap (spread_out n) m m₁ s s' c c₁
          → length s' ≡ length s
          → DoesHeap (perform (bytes "aload")) m s s' c c₁ (Ok m₁)
      unfolding spread_out with_stack
      aload_done P long =
          moves_heap P (λ μ. refl) long (λ e d l μ R.
          let a = array_of R A in
          let x = get_or μ.stack 0 null in
          let all : length (elements_of (object μ a.id)) ≤ n = omega (arith, many e d l μ R) in
          loads e d l μ R
          ∙ sym (ap (λ i. ok (with_stack (x ∷ (reverse (take n (elements_of (object μ i))) ++ drop 1 μ.stack)) μ)) (item_id_lem a)
          ∙ ap (λ (z : List Value). ok (with_stack (x ∷ (reverse z ++ drop 1 μ.stack)) μ)) (take_all n (elements_of (object μ a.id)) all)))

-- ---- astore

module _ {m : Machine} {s c : List ℕ} (deep : 1 ≤ m.depth) (A : ArrayItem 0 m s) {y : Bool} (M : ItemSealed 0 m s c y) where
  pub astore_refused : y ≡ true → DoesHeap (perform (bytes "astore")) m s s c c (Err InvalidAccess)
  unfolding ◌>>=◌ array_id object_id popped with_stack
  astore_refused f =
      fails_heap (λ e d l μ R.
      let a = array_of R A in
      let x = get_or μ.stack 0 null in
      let τ = popped 1 μ in
      astore_on μ (omega (arith, deep, stack_depth R))
      ∙ ap (λ r. r >>= λ i. storing_into x τ i) (ap array_id a.item)
      ∙ ap (λ r. r >>= λ u. storing_all x τ a.id) (item_refused M R (ap object_id a.item) τ refl f))

  module _ (plain : y ≡ false) {n : ℕ} (Z : ArraySize 0 m s c n) where
    stores : (e d l : List ℕ) (μ : Floo.Machine) (R : Rep m s e d c l μ)
        → perform (bytes "astore") μ ≡ (check (leb n (length (drop 1 μ.stack))) StackUnderflow >>= λ u.
        ok (with_stack (get_or μ.stack 0 null ∷ drop n (drop 1 μ.stack)) (change (array_of R A).id (elements (reverse (take n (drop 1 μ.stack)))) μ)))
    unfolding ◌>>=◌ array_id object_id size push with_stack popped object change with_store
    stores e d l μ R =
        let a = array_of R A in
        let x = get_or μ.stack 0 null in
        let τ = popped 1 μ in
        let k : size (object μ a.id) ≡ n = ap size (whole_array R deep a) ∙ sym (many deep A Z e d l μ R) in
        astore_on μ (omega (arith, deep, stack_depth R))
        ∙ ap (λ r. r >>= λ i. storing_into x τ i) (ap array_id a.item)
        ∙ ap (λ r. r >>= λ u. storing_all x τ a.id) (item_writable M R (ap object_id a.item) τ refl plain)
        ∙ ap (λ k. check (leb k (length (drop 1 μ.stack))) StackUnderflow >>= λ u.
        ok (with_stack (x ∷ drop k (drop 1 μ.stack)) (change a.id (elements (reverse (take k (drop 1 μ.stack)))) μ))) k

    pub astore_few : m.depth - 1 < n → DoesHeap (perform (bytes "astore")) m s s c c (Err StackUnderflow)
    unfolding ◌>>=◌ check
    astore_few h =
        fails_heap (λ e d l μ R.
        stores e d l μ R
        ∙ ap (λ b. check b StackUnderflow >>= λ u.
        ok (with_stack (get_or μ.stack 0 null ∷ drop n (drop 1 μ.stack)) (change (array_of R A).id (elements (reverse (take n (drop 1 μ.stack)))) μ)))
        (lt-leb n (length (drop 1 μ.stack)) (omega (arith, h, length-drop 1 μ.stack, stack_depth R))))

    pub astore_done : {m₁ m₂ m₃ : Machine} {s' c₁ c₂ : List ℕ}
        → n ≤ m.depth - 1
        → MovesHeap (items_put 0 (n + 1) n) m m₁ s s c c₁
        → MovesStack (swapped 0 n) m₁ m₂ s s'
        → MovesHeap (popped n) m₂ m₃ s' s' c₁ c₂
        → length s' ≡ length s
        → DoesHeap (perform (bytes "astore")) m s s' c c₂ (Ok m₃)
    unfolding ◌>>=◌ check popped swapped items_put with_stack change with_store
    astore_done few P X D long =
        moves_heap (then_heap (then_heap P (stack_heap X)) D) (λ μ. length-set μ.store (item_id 0 μ) _) long (λ e d l μ R.
        let a = array_of R A in
        let st = μ.stack in
        let x = get_or st 0 null in
        let vs = elements_of (object μ a.id) in
        let one : n + 1 - n ≡ 1 = omega arith in
        let none : drop n vs ≡ [] = drop_of_length-le vs {i = n} (omega (arith, many deep A Z e d l μ R)) in
        stores e d l μ R
        ∙ ap (λ b. check b StackUnderflow >>= λ u. ok (with_stack (x ∷ drop n (drop 1 st)) (change a.id (elements (reverse (take n (drop 1 st)))) μ)))
        (le-leb n (length (drop 1 st)) (omega (arith, few, length-drop 1 st, stack_depth R)))
        ∙ ap (λ (z : List Value). ok (with_stack z (change a.id (elements (reverse (take n (drop 1 st)))) μ))) (sym (turned st n (omega (arith, few, deep, stack_depth R))))
        ∙ sym (ap (λ i. ok (with_stack (drop n (set (set st 0 (get_or st n null)) n x)) (change i (elements (reverse (take n (drop (n + 1 - n) st)) ++ drop n (elements_of (object μ i)))) μ))) (item_id_lem a)
        ∙ ap (λ k. ok (with_stack (drop n (set (set st 0 (get_or st n null)) n x)) (change a.id (elements (reverse (take n (drop k st)) ++ drop n vs)) μ))) one
        ∙ ap (λ (z : List Value). ok (with_stack (drop n (set (set st 0 (get_or st n null)) n x)) (change a.id (elements (reverse (take n (drop 1 st)) ++ z)) μ))) none
        ∙ ap (λ (z : List Value). ok (with_stack (drop n (set (set st 0 (get_or st n null)) n x)) (change a.id (elements z) μ))) (append-nil (reverse (take n (drop 1 st))))))
      where
        -- The array is put in the place of the lowest item, and the items above it go.
        turned : (st : List Value) (n : ℕ) → n < length st → drop n (set (set st 0 (get_or st n null)) n (get_or st 0 null)) ≡ get_or st 0 null ∷ drop n (drop 1 st)
        turned st n h =
            let t = set st 0 (get_or st n null) in
            let x = get_or st 0 null in
            let same = length-set st 0 (get_or st n null) in
            let after : suc n ≡ 1 + n = omega arith in
            ap (drop n) (set_split t n x (omega (arith, h, same)))
            ∙ drop_at (take n t) (x ∷ drop (suc n) t) n (length-take-le n t (omega (arith, h, same)))
            ∙ ap (λ (z : List Value). x ∷ z) (drop-set-lt (suc n) st 0 (get_or st n null) (omega arith) ∙ ap (λ k. drop k st) after ∙ sym (drop-drop n 1 st))
