-- getinterval: what each return shows, by the tags and sizes that the code has compared and by what its primitives did.
-- Assumes nothing.
use Rattle.std.specs.Prelude.{Ok, Err}
use mathlib.Core.Path.{◌≡◌, refl, sym, ap, ◌∙◌, subst}
use mathlib.Core.Bool.{Bool, true, false}
use mathlib.Core.List.{List, [], ◌∷◌, ◌++◌, append-nil}
use Prim.Native.Nat.{ℕ, ◌+◌, ◌/◌, ◌^◌, ◌≤◌, ◌<◌}
use native.Mathlib.Omega.{arith}
use borrow.Author.Tests.{le-leb, lt-leb}
use lib.IntN.{ℤ}
use lib.ListN.{length, get_or, set, take, drop, replicate, length-drop, length-replicate, drop_of_length-le, get_or-append}
use lib.Seq.{length-take-le, set-append_seam, get_or-append_seam}
use lib.Dec.{leb, eqb}
use Rattle.semantics.specs.Text.{bytes}
use Rattle.semantics.specs.Values.{Value, integer, null, string, array, Object, elements, text, cells, Result, ok, fault, ◌>>=◌, check, int, object_id, count}
use Rattle.semantics.specs.Machine as Floo
use Rattle.semantics.specs.Machine.{with_stack, with_store, push, object, elements_of, bytes_of, make, made, change}
use Rattle.semantics.specs.Held.{sum_of}
use Rattle.semantics.specs.ObjectOperators.{size, part, redirect, push_new}
use Rattle.semantics.specs.TextOperators.{as_executable}
use Rattle.semantics.specs.Operators.{perform}
use Rattle.semantics.specs.declared.Error.{Error}
use Rattle.semantics.specs.declared.Error.TheVariants.{StackUnderflow, TypeCheck, RangeCheck, VmError}
use Rattle.machine.specs.Rep.{Rep, MovesStack, MovesHeap}
use Rattle.machine.specs.Moves.{dropped, swapped, retagged}
use Rattle.machine.specs.Operands.{two_ints, TwoIs, FetchesTwo}
use Rattle.machine.specs.Room.{DoesHeap}
use Rattle.machine.specs.declared.Machine.{Machine}
use Rattle.machine.specs.Answers.{TwoInts}
use Rattle.machine.proofs.Operands.{pop2_some}
use Rattle.machine.proofs.Outcomes.{stack_depth, fails_heap, then_heap, stack_heap, two_fault}
use Rattle.machine.proofs.Rooms.{stack_fits}
use Rattle.elements.specs.Elements.{tag_of, named, item_id, free_cells, ItemTag, ArraySize, StringSize, array_made, string_made}
use Rattle.elements.proofs.Tags.{tag_object, tag_string, tag_array, tag_no_object}
use Rattle.elements.proofs.Vacancy.{push_makes, makes_heap, full_heap}
use Rattle.strings.specs.Strings.{pasted, bytes_copied}
use Rattle.interval_operators.specs.Intervals.{Integers, elements_copied, result_left}
use Rattle.word.proofs.Counts.{count_low, count_high}
use Rattle.interval_operators.proofs.Splitting.{three, refit, tag_x, known, text_of, array_of, text_size, array_size, getting, get_is, get_under}

abbrev op : Floo.Machine → Result Floo.Machine
op = perform (bytes "getinterval")

-- ---- the operands

-- What is left to do with an object and two integers.
abbrev taking : Value → Floo.Machine → ℕ → ℤ → ℤ → Result Floo.Machine
taking x τ i p q =
    count p >>= λ start.
    count q >>= λ n.
    check (leb (start + n) (size (object τ i))) RangeCheck >>= λ u.
    ok (push_new (redirect x) (part start n (object τ i)) τ)

no_object : (x y z : Value) (τ : Floo.Machine) → tag_of x < 8 → getting x y z τ ≡ fault TypeCheck
unfolding ◌>>=◌
no_object x y z τ a = rw (tag_no_object x a) refl

no_integers : (μ : Floo.Machine) {z y x : Value} {rest : List Value} {e : Error} → μ.stack ≡ z ∷ y ∷ x ∷ rest → 8 ≤ tag_of x → two_ints μ ≡ fault e → op μ ≡ fault e
unfolding ◌>>=◌
no_integers μ {z} {y} {x} {rest} split a q =
    let τ = with_stack rest μ in
    get_is μ split
    ∙ ap (λ r. r >>= λ i. int y >>= λ p. int z >>= λ q. taking x τ i p q) (tag_object x a)
    ∙ sym (ap (λ r. r >>= λ p. int p.0 >>= λ a. int p.1 >>= λ b. taking x τ (named x) a b) (pop2_some μ split))
    ∙ two_fault (λ a b σ. taking x τ (named x) a b) μ q

module _ (x : Value) (τ : Floo.Machine) {i : ℕ} (X : object_id x ≡ ok i) (start n : ℕ) where
  negative_start : 2 ^ 31 ≤ start → start < 2 ^ 32 → getting x (integer start) (integer n) τ ≡ fault RangeCheck
  unfolding ◌>>=◌ int
  negative_start l h = rw (X, count_high start l h) refl

  module _ (low : start < 2 ^ 31) where
    negative_count : 2 ^ 31 ≤ n → n < 2 ^ 32 → getting x (integer start) (integer n) τ ≡ fault RangeCheck
    unfolding ◌>>=◌ int
    negative_count l h = rw (X, count_low start low, count_high n l h) refl

    module _ (few : n < 2 ^ 31) where
      outside : size (object τ i) < start + n → getting x (integer start) (integer n) τ ≡ fault RangeCheck
      unfolding ◌>>=◌ int check
      outside h = rw (X, count_low start low, count_low n few, lt-leb (start + n) (size (object τ i)) h) refl

      inside : start + n ≤ size (object τ i) → getting x (integer start) (integer n) τ ≡ ok (push_new (redirect x) (part start n (object τ i)) τ)
      unfolding ◌>>=◌ int check
      inside h = rw (X, count_low start low, count_low n few, le-leb (start + n) (size (object τ i)) h) refl

module _ {m : Machine} {s c : List ℕ} (deep : 3 ≤ m.depth) {start n : ℕ} (I : Integers start n m s) {e d l : List ℕ} {μ : Floo.Machine} (R : Rep m s e d c l μ) where
  three_split : {x : Value} → (three R deep).x ≡ x → μ.stack ≡ integer n ∷ integer start ∷ x ∷ (three R deep).rest
  three_split x =
      let T = three R deep in
      let q = sym T.split ∙ (I.says e d c l μ R).1 in
      known T.split (ap (λ (r : List Value). get_or r 0 null) q) (ap (λ (r : List Value). get_or r 1 null) q) x

module _ {m : Machine} {s c : List ℕ} where
  pub get_short : m.depth < 3 → DoesHeap op m s s c c (Err StackUnderflow)
  get_short h = fails_heap (λ e d l μ R. get_under μ (omega (arith, h, stack_depth R)))

  module _ (deep : 3 ≤ m.depth) {t : ℕ} (X : ItemTag 2 m s t) where
    pub get_no_object : t < 8 → DoesHeap op m s s c c (Err TypeCheck)
    get_no_object h =
        fails_heap (λ e d l μ R.
        let T = three R deep in
        get_is μ T.split ∙ no_object T.x T.y T.z (with_stack T.rest μ) (omega (arith, h, tag_x R T X)))

    module _ (h : 8 ≤ t) where
      pub get_no_integers : {r : TwoInts} {x : Error} → FetchesTwo m s r → r ≡ Err x → DoesHeap op m s s c c (Err x)
      get_no_integers F q =
          fails_heap (λ e d l μ R.
          let T = three R deep in
          no_integers μ T.split (omega (arith, h, tag_x R T X)) (subst (TwoIs μ) q (F.says e d c l μ R)))

      module _ {start n : ℕ} (I : Integers start n m s) where
        module _ {e d l : List ℕ} {μ : Floo.Machine} (R : Rep m s e d c l μ) where
          object_x : object_id (three R deep).x ≡ ok (named (three R deep).x)
          object_x = tag_object (three R deep).x (omega (arith, h, tag_x R (three R deep) X))

        pub get_negative_start : 2 ^ 31 ≤ start → start < 2 ^ 32 → DoesHeap op m s s c c (Err RangeCheck)
        get_negative_start l k = fails_heap (λ e d l' μ R. get_is μ (three_split deep I R refl) ∙ negative_start (three R deep).x (with_stack (three R deep).rest μ) (object_x R) start n l k)

        pub get_negative_count : start < 2 ^ 31 → 2 ^ 31 ≤ n → n < 2 ^ 32 → DoesHeap op m s s c c (Err RangeCheck)
        get_negative_count low l k = fails_heap (λ e d l' μ R. get_is μ (three_split deep I R refl) ∙ negative_count (three R deep).x (with_stack (three R deep).rest μ) (object_x R) start n low l k)

pub integers : {m : Machine} {s : List ℕ} {r : TwoInts} {a b : ℕ} → FetchesTwo m s r → r ≡ Ok (a, b) → Integers a b m s
integers F q = record { says = λ e d c l μ R. subst (TwoIs μ) q (F.says e d c l μ R) }

-- ---- the new object

-- All of a new list is written over.
paste_new : {A : Type 0} (d : A) (src : List A) (start n : ℕ) → pasted (replicate n d) 0 src start n ≡ take n (drop start src)
unfolding pasted
paste_new d src start n =
    let over : length (replicate n d) ≤ 0 + n = omega (arith, length-replicate n d) in
    ap (λ (t : List _). take n (drop start src) ++ t) (drop_of_length-le (replicate n d) {i = 0 + n} over)
    ∙ append-nil (take n (drop start src))

interval_length : {A : Type 0} (src : List A) (start n : ℕ) → start + n ≤ length src → length (take n (drop start src)) ≡ n
interval_length src start n h = length-take-le n (drop start src) (omega (arith, h, length-drop start src))

module _ (start n : ℕ) (o : Object) where
  part_text : o ≡ text (bytes_of o) → part start n o ≡ text (take n (drop start (bytes_of o)))
  unfolding part
  part_text q = ap (part start n) q

  part_array : o ≡ elements (elements_of o) → part start n o ≡ elements (take n (drop start (elements_of o)))
  unfolding part
  part_array q = ap (part start n) q

  text_cells : o ≡ text (bytes_of o) → start + n ≤ length (bytes_of o) → sum_of cells (part start n o ∷ []) ≡ (n + 7) / 8 + 1
  unfolding sum_of cells
  text_cells q h = ap (λ (p : Object). cells p + 0) (part_text q) ∙ omega (arith, interval_length (bytes_of o) start n h)

  array_cells : o ≡ elements (elements_of o) → start + n ≤ length (elements_of o) → sum_of cells (part start n o ∷ []) ≡ n + 1
  unfolding sum_of cells
  array_cells q h = ap (λ (p : Object). cells p + 0) (part_array q) ∙ omega (arith, interval_length (elements_of o) start n h)

module _ (μ : Floo.Machine) (i start n : ℕ) (y z : Value) (rest : List Value) (made' : i < length μ.store) where
  got_string : object μ i ≡ text (bytes_of (object μ i))
      → result_left (bytes_copied 0 0 2 start n (string_made 0 n (with_stack (z ∷ y ∷ string i ∷ rest) μ)))
      ≡ push_new (redirect (string i)) (part start n (object μ i)) (with_stack rest μ)
  unfolding result_left dropped swapped bytes_copied string_made change with_store with_stack make made object item_id named push_new push redirect bytes_of
  got_string whole =
      let S = μ.store in
      let none = elements [] in
      let new = S ++ (text (replicate n 0) ∷ []) in
      let τ = with_stack (string (length S) ∷ rest) μ in
      ap (λ (o : Object). with_store (set new (length S) (text (pasted (bytes_of o) 0 (bytes_of (get_or new i none)) start n))) τ) (get_or-append_seam S (text (replicate n 0)) [] none)
      ∙ ap (λ (o : Object). with_store (set new (length S) (text (pasted (replicate n 0) 0 (bytes_of o) start n))) τ) (get_or-append S (text (replicate n 0) ∷ []) none i made')
      ∙ ap (λ (t : List ℕ). with_store (set new (length S) (text t)) τ) (paste_new 0 (bytes_of (get_or S i none)) start n)
      ∙ ap (λ (s : List Object). with_store s τ) (set-append_seam S (text (replicate n 0)) [] (text (take n (drop start (bytes_of (get_or S i none))))))
      ∙ ap (λ (o : Object). with_store (S ++ (o ∷ [])) τ) (sym (part_text start n (get_or S i none) whole))

  got_array : (b : Bool)
      → object μ i ≡ elements (elements_of (object μ i))
      → result_left (retagged b (elements_copied 0 0 2 start n (array_made 0 n (with_stack (z ∷ y ∷ array b i ∷ rest) μ))))
      ≡ push_new (redirect (array b i)) (part start n (object μ i)) (with_stack rest μ)
  unfolding result_left dropped swapped retagged as_executable elements_copied array_made change with_store with_stack make made object item_id named push_new push redirect elements_of
  got_array b whole =
      let S = μ.store in
      let none = elements [] in
      let new = S ++ (elements (replicate n null) ∷ []) in
      let τ = with_stack (array b (length S) ∷ rest) μ in
      ap (λ (o : Object). with_store (set new (length S) (elements (pasted (elements_of o) 0 (elements_of (get_or new i none)) start n))) τ) (get_or-append_seam S (elements (replicate n null)) [] none)
      ∙ ap (λ (o : Object). with_store (set new (length S) (elements (pasted (replicate n null) 0 (elements_of o) start n))) τ) (get_or-append S (elements (replicate n null) ∷ []) none i made')
      ∙ ap (λ (t : List Value). with_store (set new (length S) (elements t)) τ) (paste_new null (elements_of (get_or S i none)) start n)
      ∙ ap (λ (s : List Object). with_store s τ) (set-append_seam S (elements (replicate n null)) [] (elements (take n (drop start (elements_of (get_or S i none))))))
      ∙ ap (λ (o : Object). with_store (S ++ (o ∷ [])) τ) (sym (part_array start n (get_or S i none) whole))

-- ---- what is known of the operands

pub record StringCase (start n : ℕ) (μ : Floo.Machine) : Type 0 where
  pub i : ℕ
  pub rest : List Value
  pub split : μ.stack ≡ integer n ∷ integer start ∷ string i ∷ rest
  pub whole : object μ i ≡ text (bytes_of (object μ i))
  pub old : i < length μ.store

pub record ArrayCase (t start n : ℕ) (μ : Floo.Machine) : Type 0 where
  pub b : Bool
  pub i : ℕ
  pub rest : List Value
  pub split : μ.stack ≡ integer n ∷ integer start ∷ array b i ∷ rest
  pub whole : object μ i ≡ elements (elements_of (object μ i))
  pub old : i < length μ.store
  pub flag : eqb t 10 ≡ b

array_flag : (b : Bool) (i : ℕ) → eqb (tag_of (array b i)) 10 ≡ b
unfolding tag_of
array_flag true i = refl
array_flag false i = refl

module _ {m : Machine} {s c : List ℕ} (deep : 3 ≤ m.depth) {start n : ℕ} (I : Integers start n m s) {e d l : List ℕ} {μ : Floo.Machine} (R : Rep m s e d c l μ) where
  pub string_case : ItemTag 2 m s 8 → StringCase start n μ
  string_case X =
      let T = three R deep in
      let x = tag_string T.x (sym (tag_x R T X)) in
      let split = three_split deep I R x.1 in
      let A = text_of R 2 (omega (arith, deep)) (ap (λ (r : List Value). get_or r 2 null) split) in
      record { i = x.0; rest = T.rest; split = split; whole = A.0; old = A.1 }

  pub array_case : {t : ℕ} → 9 ≤ t → ItemTag 2 m s t → ArrayCase t start n μ
  array_case {t} h X =
      let T = three R deep in
      let x = tag_array T.x (omega (arith, h, tag_x R T X)) in
      let split = three_split deep I R x.2 in
      let A = array_of R 2 (omega (arith, deep)) (ap (λ (r : List Value). get_or r 2 null) split) in
      record {
        b = x.0;
        i = x.1;
        rest = T.rest;
        split = split;
        whole = A.0;
        old = A.1;
        flag = ap (λ k. eqb k 10) (tag_x R T X ∙ ap tag_of x.2) ∙ array_flag x.0 x.1;
      }

pub string_id_lem : (i : ℕ) → object_id (string i) ≡ ok i
unfolding object_id
string_id_lem i = refl

pub array_id_lem : (b : Bool) (i : ℕ) → object_id (array b i) ≡ ok i
unfolding object_id
array_id_lem b i = refl

-- ---- returns

module _ {m : Machine} {s c : List ℕ} (deep : 3 ≤ m.depth) {start n : ℕ} (low : start < 2 ^ 31) (few : n < 2 ^ 31) (I : Integers start n m s) where
  -- ---- strings

  module _ (X : ItemTag 2 m s 8) {k : ℕ} (K : StringSize 2 m s c k) where
    module _ {e d l : List ℕ} {μ : Floo.Machine} (R : Rep m s e d c l μ) where
      string_size : k ≡ length (bytes_of (object μ (string_case deep I R X).i))
      string_size = let S = string_case deep I R X in K.says e d l μ R S.i (ap (λ (r : List Value). get_or r 2 null) S.split)

      string_gives : start + n ≤ k → op μ ≡ ok (push_new (redirect (string (string_case deep I R X).i)) (part start n (object μ (string_case deep I R X).i)) (with_stack (string_case deep I R X).rest μ))
      unfolding object with_stack
      string_gives h =
          let S = string_case deep I R X in
          get_is μ S.split ∙ inside (string S.i) (with_stack S.rest μ) (string_id_lem S.i) start n low few (omega (arith, h, string_size, text_size S.whole))

    pub get_bytes_outside : k < start + n → DoesHeap op m s s c c (Err RangeCheck)
    unfolding object with_stack
    get_bytes_outside h =
        fails_heap (λ e d l μ R.
        let S = string_case deep I R X in
        get_is μ S.split ∙ outside (string S.i) (with_stack S.rest μ) (string_id_lem S.i) start n low few (omega (arith, h, string_size R, text_size S.whole)))

    module _ (h : start + n ≤ k) where
      pub get_bytes_full : {r : ℕ} → r ≡ free_cells m c → r < (n + 7) / 8 + 1 → DoesHeap op m s s c c (Err VmError)
      unfolding push_new push make with_stack with_store
      get_bytes_full q full =
          full_heap (λ e d l μ R.
          let S = string_case deep I R X in
          let o = part start n (object μ S.i) in
          let need = text_cells start n (object μ S.i) S.whole (omega (arith, h, string_size R)) in
          (push_new (redirect (string S.i)) o (with_stack S.rest μ), o ∷ [], string_gives R h, push_makes (redirect (string S.i)) o S.rest μ, omega (arith, stack_fits R, ap length S.split), omega (arith, q, full, need)))

      pub get_bytes_done : {r : ℕ} → r ≡ free_cells m c → (n + 7) / 8 + 1 ≤ r
          → {m₁ m₂ : Machine} {s₁ s₂ c₁ c₂ c₃ : List ℕ}
          → MovesHeap (string_made 0 n) m m₁ s s₁ c c₁
          → MovesHeap (bytes_copied 0 0 2 start n) m₁ m₁ s₁ s₁ c₁ c₂
          → MovesHeap result_left m₁ m₂ s₁ s₂ c₂ c₃
          → length s₂ ≡ length s
          → DoesHeap op m s s₂ c c₃ (Ok m₂)
      unfolding push_new push make with_stack with_store
      get_bytes_done q room A B C long =
          makes_heap (then_heap (then_heap A B) C) long (λ e d l μ R.
          let S = string_case deep I R X in
          let o = part start n (object μ S.i) in
          let need = text_cells start n (object μ S.i) S.whole (omega (arith, h, string_size R)) in
          let got = ap (λ (τ : Floo.Machine). result_left (bytes_copied 0 0 2 start n (string_made 0 n τ))) (sym (refit μ S.split))
          ∙ got_string μ S.i start n (integer start) (integer n) S.rest S.old S.whole in
          (o ∷ [], string_gives R h ∙ ap ok (sym got), ap (λ (τ : Floo.Machine). τ.store) got, omega (arith, q, room, need)))

  -- ---- arrays

  module _ {t : ℕ} (high : 9 ≤ t) (X : ItemTag 2 m s t) {k : ℕ} (K : ArraySize 2 m s c k) where
    module _ {e d l : List ℕ} {μ : Floo.Machine} (R : Rep m s e d c l μ) where
      array_long : k ≡ length (elements_of (object μ (array_case deep I R high X).i))
      array_long = let S = array_case deep I R high X in K.says e d l μ R S.b S.i (ap (λ (r : List Value). get_or r 2 null) S.split)

      array_gives : start + n ≤ k
          → op μ ≡ ok (push_new (redirect (array (array_case deep I R high X).b (array_case deep I R high X).i)) (part start n (object μ (array_case deep I R high X).i)) (with_stack (array_case deep I R high X).rest μ))
      unfolding object with_stack
      array_gives h =
          let S = array_case deep I R high X in
          get_is μ S.split ∙ inside (array S.b S.i) (with_stack S.rest μ) (array_id_lem S.b S.i) start n low few (omega (arith, h, array_long, array_size S.whole))

    pub get_elements_outside : k < start + n → DoesHeap op m s s c c (Err RangeCheck)
    unfolding object with_stack
    get_elements_outside h =
        fails_heap (λ e d l μ R.
        let S = array_case deep I R high X in
        get_is μ S.split ∙ outside (array S.b S.i) (with_stack S.rest μ) (array_id_lem S.b S.i) start n low few (omega (arith, h, array_long R, array_size S.whole)))

    module _ (h : start + n ≤ k) where
      pub get_elements_full : {r : ℕ} → r ≡ free_cells m c → r < n + 1 → DoesHeap op m s s c c (Err VmError)
      unfolding push_new push make with_stack with_store
      get_elements_full q full =
          full_heap (λ e d l μ R.
          let S = array_case deep I R high X in
          let o = part start n (object μ S.i) in
          let need = array_cells start n (object μ S.i) S.whole (omega (arith, h, array_long R)) in
          (push_new (redirect (array S.b S.i)) o (with_stack S.rest μ), o ∷ [], array_gives R h, push_makes (redirect (array S.b S.i)) o S.rest μ, omega (arith, stack_fits R, ap length S.split), omega (arith, q, full, need)))

      pub get_elements_done : {r : ℕ} → r ≡ free_cells m c → n + 1 ≤ r
          → {m₁ m₂ m₃ m₄ : Machine} {s₁ s₂ s₃ s₄ c₁ c₂ c₃ : List ℕ}
          → MovesHeap (array_made 0 n) m m₁ s s₁ c c₁
          → MovesHeap (elements_copied 0 0 2 start n) m₁ m₂ s₁ s₂ c₁ c₂
          → MovesStack (retagged (eqb t 10)) m₂ m₃ s₂ s₃
          → MovesHeap result_left m₃ m₄ s₃ s₄ c₂ c₃
          → length s₄ ≡ length s
          → DoesHeap op m s s₄ c c₃ (Ok m₄)
      unfolding push_new push make with_stack with_store
      get_elements_done q room A B C D long =
          makes_heap (then_heap (then_heap (then_heap A B) (stack_heap C)) D) long (λ e d l μ R.
          let S = array_case deep I R high X in
          let o = part start n (object μ S.i) in
          let need = array_cells start n (object μ S.i) S.whole (omega (arith, h, array_long R)) in
          let got = ap (λ (f : Bool). result_left (retagged f (elements_copied 0 0 2 start n (array_made 0 n μ)))) S.flag
          ∙ ap (λ (τ : Floo.Machine). result_left (retagged S.b (elements_copied 0 0 2 start n (array_made 0 n τ)))) (sym (refit μ S.split))
          ∙ got_array μ S.i start n (integer start) (integer n) S.rest S.old S.b S.whole in
          (o ∷ [], array_gives R h ∙ ap ok (sym got), ap (λ (τ : Floo.Machine). τ.store) got, omega (arith, q, room, need)))
