-- putinterval: what each return shows, by the tags and sizes that the code has compared and by what its primitives did.
-- Assumes nothing.
use Rattle.std.specs.Prelude.{Ok, Err}
use mathlib.Core.Path.{◌≡◌, refl, sym, ap, ◌∙◌, subst}
use mathlib.Core.Bool.{Bool, true, false}
use mathlib.Core.List.{List, ◌∷◌, ◌++◌}
use Prim.Native.Nat.{ℕ, ◌+◌, ◌^◌, ◌≤◌, ◌<◌}
use native.Mathlib.Omega.{arith}
use borrow.Author.Tests.{le-leb, lt-leb}
use lib.ListN.{length, get_or, take, drop, length-set}
use lib.Seq.{take-length}
use Rattle.semantics.specs.Text.{bytes}
use Rattle.semantics.specs.Values.{Value, integer, null, string, array, Object, elements, text, Result, ok, fault, ◌>>=◌, check, int, object_id}
use Rattle.semantics.specs.Machine as Floo
use Rattle.semantics.specs.Machine.{with_stack, with_store, object, elements_of, bytes_of, change, writable}
use Rattle.semantics.specs.ObjectOperators as Def
use Rattle.semantics.specs.ObjectOperators.{size, put_all}
use Rattle.semantics.specs.Operators.{perform}
use Rattle.semantics.specs.declared.Error.TheVariants.{StackUnderflow, TypeCheck, InvalidAccess, RangeCheck}
use Rattle.machine.specs.Rep.{Rep, Somewhere, MovesHeap}
use Rattle.machine.specs.Moves.{dropped}
use Rattle.machine.specs.Room.{DoesHeap}
use Rattle.machine.specs.declared.Machine.{Machine}
use Rattle.machine.proofs.Outcomes.{KeepsStore, stack_depth, fails_heap, moves_heap, then_heap}
use Rattle.elements.specs.Elements.{tag_of, named, item_id, ItemTag, ItemSealed, ArraySize, StringSize}
use Rattle.elements.proofs.Tags.{tag_string, tag_array, tag_object, tag_no_object}
use Rattle.elements.proofs.Marking.{item_writable, item_refused}
use Rattle.strings.specs.Strings.{pasted, bytes_copied}
use Rattle.interval_operators.specs.Intervals.{ArrayItem, ItemInteger, elements_copied, three_dropped}
use Rattle.word.proofs.Counts.{count_low, count_high}
use Rattle.interval_operators.proofs.Splitting.{Three, three, refit, tag_x, tag_y, tag_z, known, tag_integer, tag_no_integer, nine, text_of, array_of, text_size, array_size, putting, put_is, put_under}

abbrev op : Floo.Machine → Result Floo.Machine
op = perform (bytes "putinterval")

-- ---- the wrong kinds

module _ (x y z : Value) (τ : Floo.Machine) where
  no_target : tag_of x < 8 → putting x y z τ ≡ fault TypeCheck
  unfolding ◌>>=◌
  no_target a = rw (tag_no_object x a) refl

  module _ (a : 8 ≤ tag_of x) where
    no_start : (tag_of y ≡ 1 → ⊥) → putting x y z τ ≡ fault TypeCheck
    unfolding ◌>>=◌
    no_start b = rw (tag_object x a, tag_no_integer y b) refl

    no_source : tag_of y ≡ 1 → tag_of z < 8 → putting x y z τ ≡ fault TypeCheck
    unfolding ◌>>=◌ int
    no_source b c = rw (tag_object x a, (tag_integer y b).1, tag_no_object z c) refl

    two_kinds : tag_of y ≡ 1 → 8 ≤ tag_of z → put_all (object τ (named x)) (object τ (named z)) ≡ fault TypeCheck → putting x y z τ ≡ fault TypeCheck
    unfolding ◌>>=◌ int
    two_kinds b c k = rw (tag_object x a, (tag_integer y b).1, tag_object z c, k) refl

kinds_text : {o p : Object} {bs : List ℕ} {vs : List Value} → o ≡ text bs → p ≡ elements vs → put_all o p ≡ fault TypeCheck
unfolding put_all
kinds_text a b = rw (a, b) refl

kinds_elements : {o p : Object} {bs : List ℕ} {vs : List Value} → o ≡ elements vs → p ≡ text bs → put_all o p ≡ fault TypeCheck
unfolding put_all
kinds_elements a b = rw (a, b) refl

module _ {m : Machine} {s c : List ℕ} where
  pub put_short : m.depth < 3 → DoesHeap op m s s c c (Err StackUnderflow)
  put_short h = fails_heap (λ e d l μ R. put_under μ (omega (arith, h, stack_depth R)))

  module _ (deep : 3 ≤ m.depth) {t : ℕ} (X : ItemTag 2 m s t) where
    pub put_no_target : t < 8 → DoesHeap op m s s c c (Err TypeCheck)
    put_no_target h =
        fails_heap (λ e d l μ R.
        let T = three R deep in
        put_is μ T.split ∙ no_target T.x T.y T.z (with_stack T.rest μ) (omega (arith, h, tag_x R T X)))

    module _ (h : 8 ≤ t) {u : ℕ} (Y : ItemTag 1 m s u) where
      pub put_no_start : (u ≡ 1 → ⊥) → DoesHeap op m s s c c (Err TypeCheck)
      put_no_start n =
          fails_heap (λ e d l μ R.
          let T = three R deep in
          put_is μ T.split ∙ no_start T.x T.y T.z (with_stack T.rest μ) (omega (arith, h, tag_x R T X)) (λ q. n (tag_y R T Y ∙ q)))

      module _ (i : u ≡ 1) {v : ℕ} (Z : ItemTag 0 m s v) where
        pub put_no_source : v < 8 → DoesHeap op m s s c c (Err TypeCheck)
        put_no_source k =
            fails_heap (λ e d l μ R.
            let T = three R deep in
            put_is μ T.split ∙ no_source T.x T.y T.z (with_stack T.rest μ) (omega (arith, h, tag_x R T X)) (sym (tag_y R T Y) ∙ i) (omega (arith, k, tag_z R T Z)))

        module _ (k : 8 ≤ v) where
          pub put_text_array : t ≡ 8 → (v ≡ 8 → ⊥) → DoesHeap op m s s c c (Err TypeCheck)
          unfolding object with_stack named
          put_text_array a b =
              fails_heap (λ e d l μ R.
              let T = three R deep in
              let x = tag_string T.x (sym (tag_x R T X) ∙ a) in
              let z = tag_array T.z (nine k b (tag_z R T Z)) in
              let A = text_of R 2 (omega (arith, deep)) (ap (λ (r : List Value). get_or r 2 null) T.split ∙ x.1) in
              let B = array_of R 0 (omega (arith, deep)) (ap (λ (r : List Value). get_or r 0 null) T.split ∙ z.2) in
              let P : object μ (named T.x) ≡ text (bytes_of (object μ x.0)) = ap (λ v. object μ (named v)) x.1 ∙ A.0 in
              let Q : object μ (named T.z) ≡ elements (elements_of (object μ z.1)) = ap (λ v. object μ (named v)) z.2 ∙ B.0 in
              put_is μ T.split ∙ two_kinds T.x T.y T.z (with_stack T.rest μ) (omega (arith, h, tag_x R T X)) (sym (tag_y R T Y) ∙ i) (omega (arith, k, tag_z R T Z)) (kinds_text P Q))

          pub put_array_text : (t ≡ 8 → ⊥) → v ≡ 8 → DoesHeap op m s s c c (Err TypeCheck)
          unfolding object with_stack named
          put_array_text a b =
              fails_heap (λ e d l μ R.
              let T = three R deep in
              let x = tag_array T.x (nine h a (tag_x R T X)) in
              let z = tag_string T.z (sym (tag_z R T Z) ∙ b) in
              let A = array_of R 2 (omega (arith, deep)) (ap (λ (r : List Value). get_or r 2 null) T.split ∙ x.2) in
              let B = text_of R 0 (omega (arith, deep)) (ap (λ (r : List Value). get_or r 0 null) T.split ∙ z.1) in
              let P : object μ (named T.x) ≡ elements (elements_of (object μ x.1)) = ap (λ v. object μ (named v)) x.2 ∙ A.0 in
              let Q : object μ (named T.z) ≡ text (bytes_of (object μ z.0)) = ap (λ v. object μ (named v)) z.1 ∙ B.0 in
              put_is μ T.split ∙ two_kinds T.x T.y T.z (with_stack T.rest μ) (omega (arith, h, tag_x R T X)) (sym (tag_y R T Y) ∙ i) (omega (arith, k, tag_z R T Z)) (kinds_elements P Q))

          pub put_arrays : (t ≡ 8 → ⊥) → (v ≡ 8 → ⊥) → Somewhere m s c → (3 ≤ m.depth) × ArrayItem 2 m s × ItemTag 1 m s 1 × ArrayItem 0 m s × Somewhere m s c
          put_arrays a b W = (deep, (t, nine h a refl, X), subst (ItemTag 1 m s) i Y, (v, nine k b refl, Z), W)

          pub put_strings : t ≡ 8 → v ≡ 8 → Somewhere m s c → (3 ≤ m.depth) × ItemTag 2 m s 8 × ItemTag 1 m s 1 × ItemTag 0 m s 8 × Somewhere m s c
          put_strings a b W = (deep, subst (ItemTag 2 m s) a X, subst (ItemTag 1 m s) i Y, subst (ItemTag 0 m s) b Z, W)

-- ---- the start, and how much there is

-- The operands' objects, and what writing the one into the other gives.
record Objects (x z : Value) (τ : Floo.Machine) : Type 0 where
  i : ℕ
  j : ℕ
  written : ℕ → Object
  target : object_id x ≡ ok i
  source : object_id z ≡ ok j
  kinds : put_all (object τ i) (object τ j) ≡ ok written

module _ {x z : Value} {τ : Floo.Machine} (O : Objects x z τ) (w : ℕ) where
  refused : writable O.i τ ≡ fault InvalidAccess → putting x (integer w) z τ ≡ fault InvalidAccess
  unfolding ◌>>=◌ int
  refused q = rw (O.target, O.source, O.kinds, q) refl

  negative : writable O.i τ ≡ ok tt → 2 ^ 31 ≤ w → w < 2 ^ 32 → putting x (integer w) z τ ≡ fault RangeCheck
  unfolding ◌>>=◌ int
  negative q l h = rw (O.target, O.source, O.kinds, q, count_high w l h) refl

  module _ (q : writable O.i τ ≡ ok tt) (l : w < 2 ^ 31) where
    outside : size (object τ O.i) < w + size (object τ O.j) → putting x (integer w) z τ ≡ fault RangeCheck
    unfolding ◌>>=◌ int check
    outside h = rw (O.target, O.source, O.kinds, q, count_low w l, lt-leb (w + size (object τ O.j)) (size (object τ O.i)) h) refl

    inside : w + size (object τ O.j) ≤ size (object τ O.i) → putting x (integer w) z τ ≡ ok (change O.i (O.written w) τ)
    unfolding ◌>>=◌ int check
    inside h = rw (O.target, O.source, O.kinds, q, count_low w l, le-leb (w + size (object τ O.j)) (size (object τ O.i)) h) refl

unfoldable texts : (μ : Floo.Machine) (i j : ℕ) → object μ i ≡ text (bytes_of (object μ i)) → object μ j ≡ text (bytes_of (object μ j)) → Objects (string i) (string j) μ
unfolding object_id put_all
texts μ i j a b =
    record {
      i = i;
      j = j;
      written = λ start. text (Def.pasted start (bytes_of (object μ j)) (bytes_of (object μ i)));
      target = refl;
      source = refl;
      kinds = both a b;
    }
  where
    both : {o p : Object} {bs cs : List ℕ} → o ≡ text bs → p ≡ text cs → put_all o p ≡ ok (λ start. text (Def.pasted start cs bs))
    both a b = rw (a, b) refl

unfoldable arrays : (μ : Floo.Machine) (a b : Bool) (i j : ℕ)
    → object μ i ≡ elements (elements_of (object μ i))
    → object μ j ≡ elements (elements_of (object μ j))
    → Objects (array a i) (array b j) μ
unfolding object_id put_all
arrays μ a b i j x y =
    record {
      i = i;
      j = j;
      written = λ start. elements (Def.pasted start (elements_of (object μ j)) (elements_of (object μ i)));
      target = refl;
      source = refl;
      kinds = both x y;
    }
  where
    both : {o p : Object} {vs us : List Value} → o ≡ elements vs → p ≡ elements us → put_all o p ≡ ok (λ start. elements (Def.pasted start us vs))
    both a b = rw (a, b) refl

-- All of the source is written.
paste_all : {A : Type 0} (old : List A) (w : ℕ) (src : List A) {n : ℕ} → n ≡ length src → pasted old w src 0 n ≡ Def.pasted w src old
unfolding pasted Def.pasted
paste_all old w src q =
    ap (λ (k : ℕ). take w old ++ take k src ++ drop (w + k) old) q
    ∙ ap (λ (t : List _). take w old ++ t ++ drop (w + length src) old) (take-length src)

-- ---- strings

copied_text : (μ : Floo.Machine) (i j w n : ℕ) (y : Value) (rest : List Value)
    → n ≡ length (bytes_of (object μ j))
    → three_dropped (bytes_copied 2 w 0 0 n (with_stack (string j ∷ y ∷ string i ∷ rest) μ))
    ≡ change i (text (Def.pasted w (bytes_of (object μ j)) (bytes_of (object μ i)))) (with_stack rest μ)
unfolding three_dropped dropped bytes_copied change with_store with_stack object item_id named
copied_text μ i j w n y rest q =
    ap (λ (t : List ℕ). change i (text t) (with_stack rest μ)) (paste_all (bytes_of (object μ i)) w (bytes_of (object μ j)) q)

bytes_store : (w n : ℕ) → KeepsStore (λ μ. three_dropped (bytes_copied 2 w 0 0 n μ))
unfolding three_dropped dropped bytes_copied change with_store with_stack
bytes_store w n μ = length-set μ.store (item_id 2 μ) _

-- ---- arrays

copied_array : (μ : Floo.Machine) (a b : Bool) (i j w n : ℕ) (y : Value) (rest : List Value)
    → n ≡ length (elements_of (object μ j))
    → three_dropped (elements_copied 2 w 0 0 n (with_stack (array b j ∷ y ∷ array a i ∷ rest) μ))
    ≡ change i (elements (Def.pasted w (elements_of (object μ j)) (elements_of (object μ i)))) (with_stack rest μ)
unfolding three_dropped dropped elements_copied change with_store with_stack object item_id named
copied_array μ a b i j w n y rest q =
    ap (λ (t : List Value). change i (elements t) (with_stack rest μ)) (paste_all (elements_of (object μ i)) w (elements_of (object μ j)) q)

elements_store : (w n : ℕ) → KeepsStore (λ μ. three_dropped (elements_copied 2 w 0 0 n μ))
unfolding three_dropped dropped elements_copied change with_store with_stack
elements_store w n μ = length-set μ.store (item_id 2 μ) _

-- ---- two strings, or two arrays

-- The operands, and the objects that they name.
record Case (μ : Floo.Machine) (start : ℕ) : Type 0 where
  x : Value
  z : Value
  rest : List Value
  objects : Objects x z (with_stack rest μ)
  split : μ.stack ≡ z ∷ integer start ∷ x ∷ rest

module _ {m : Machine} {s c : List ℕ} {p : Bool} (M : ItemSealed 2 m s c p) {e d l : List ℕ} {μ : Floo.Machine} (R : Rep m s e d c l μ) {start : ℕ} (C : Case μ start) where
  target_named : object_id (get_or μ.stack 2 null) ≡ ok C.objects.i
  target_named = ap (λ (r : List Value). object_id (get_or r 2 null)) C.split ∙ C.objects.target

  case_refused : p ≡ true → op μ ≡ fault InvalidAccess
  unfolding with_stack
  case_refused q = put_is μ C.split ∙ refused C.objects start (item_refused M R target_named (with_stack C.rest μ) refl q)

  module _ (plain : p ≡ false) where
    writes : writable C.objects.i (with_stack C.rest μ) ≡ ok tt
    unfolding with_stack
    writes = item_writable M R target_named (with_stack C.rest μ) refl plain

    case_negative : 2 ^ 31 ≤ start → start < 2 ^ 32 → op μ ≡ fault RangeCheck
    case_negative l h = put_is μ C.split ∙ negative C.objects start writes l h

    module _ (low : start < 2 ^ 31) {n k : ℕ} (source-size : n ≡ size (object (with_stack C.rest μ) C.objects.j)) (target-size : k ≡ size (object (with_stack C.rest μ) C.objects.i)) where
      case_outside : k < start + n → op μ ≡ fault RangeCheck
      case_outside h = put_is μ C.split ∙ outside C.objects start writes low (omega (arith, h, source-size, target-size))

      case_inside : start + n ≤ k → op μ ≡ ok (change C.objects.i (C.objects.written start) (with_stack C.rest μ))
      case_inside h = put_is μ C.split ∙ inside C.objects start writes low (omega (arith, h, source-size, target-size))

record Strings (start : ℕ) (μ : Floo.Machine) : Type 0 where
  i : ℕ
  j : ℕ
  rest : List Value
  split : μ.stack ≡ string j ∷ integer start ∷ string i ∷ rest
  target : object μ i ≡ text (bytes_of (object μ i))
  source : object μ j ≡ text (bytes_of (object μ j))

record Arrays (start : ℕ) (μ : Floo.Machine) : Type 0 where
  a : Bool
  b : Bool
  i : ℕ
  j : ℕ
  rest : List Value
  split : μ.stack ≡ array b j ∷ integer start ∷ array a i ∷ rest
  target : object μ i ≡ elements (elements_of (object μ i))
  source : object μ j ≡ elements (elements_of (object μ j))

unfoldable strings_case : {start : ℕ} {μ : Floo.Machine} → Strings start μ → Case μ start
unfolding object with_stack
strings_case {μ = μ} S =
    record {
      x = string S.i;
      z = string S.j;
      rest = S.rest;
      objects = texts (with_stack S.rest μ) S.i S.j S.target S.source;
      split = S.split;
    }

unfoldable arrays_case : {start : ℕ} {μ : Floo.Machine} → Arrays start μ → Case μ start
unfolding object with_stack
arrays_case {μ = μ} S =
    record {
      x = array S.a S.i;
      z = array S.b S.j;
      rest = S.rest;
      objects = arrays (with_stack S.rest μ) S.a S.b S.i S.j S.target S.source;
      split = S.split;
    }

module _ {m : Machine} {s c : List ℕ} (deep : 3 ≤ m.depth) {start : ℕ} (I : ItemInteger 1 m s start) (Y : ItemTag 1 m s 1) where
  -- The start, in the middle.
  start_is : {e d l : List ℕ} {μ : Floo.Machine} (R : Rep m s e d c l μ) (T : Three μ) → T.y ≡ integer start
  start_is {e} {d} {l} {μ} R T =
      let w = tag_integer T.y (sym (tag_y R T Y)) in
      w.1 ∙ ap integer (sym (I.says e d c l μ R w.0 (ap (λ (r : List Value). get_or r 1 null) T.split ∙ w.1)))

  two_strings : ItemTag 2 m s 8 → ItemTag 0 m s 8 → {e d l : List ℕ} {μ : Floo.Machine} → Rep m s e d c l μ → Strings start μ
  two_strings X Z R =
      let T = three R deep in
      let x = tag_string T.x (sym (tag_x R T X)) in
      let z = tag_string T.z (sym (tag_z R T Z)) in
      let split = known T.split z.1 (start_is R T) x.1 in
      record {
        i = x.0;
        j = z.0;
        rest = T.rest;
        split = split;
        target = (text_of R 2 (omega (arith, deep)) (ap (λ (r : List Value). get_or r 2 null) split)).0;
        source = (text_of R 0 (omega (arith, deep)) (ap (λ (r : List Value). get_or r 0 null) split)).0;
      }

  two_arrays : ArrayItem 2 m s → ArrayItem 0 m s → {e d l : List ℕ} {μ : Floo.Machine} → Rep m s e d c l μ → Arrays start μ
  two_arrays X Z R =
      let T = three R deep in
      let x = tag_array T.x (omega (arith, X.1, tag_x R T X.2)) in
      let z = tag_array T.z (omega (arith, Z.1, tag_z R T Z.2)) in
      let split = known T.split z.2 (start_is R T) x.2 in
      record {
        a = x.0;
        b = z.0;
        i = x.1;
        j = z.1;
        rest = T.rest;
        split = split;
        target = (array_of R 2 (omega (arith, deep)) (ap (λ (r : List Value). get_or r 2 null) split)).0;
        source = (array_of R 0 (omega (arith, deep)) (ap (λ (r : List Value). get_or r 0 null) split)).0;
      }

  -- ---- strings

  module _ (X : ItemTag 2 m s 8) (Z : ItemTag 0 m s 8) {p : Bool} (M : ItemSealed 2 m s c p) where
    pub put_bytes_refused : p ≡ true → DoesHeap op m s s c c (Err InvalidAccess)
    put_bytes_refused q = fails_heap (λ e d l μ R. case_refused M R (strings_case (two_strings X Z R)) q)

    module _ (plain : p ≡ false) where
      pub put_bytes_negative : 2 ^ 31 ≤ start → start < 2 ^ 32 → DoesHeap op m s s c c (Err RangeCheck)
      put_bytes_negative l h = fails_heap (λ e d l' μ R. case_negative M R (strings_case (two_strings X Z R)) plain l h)

      module _ (low : start < 2 ^ 31) {n k : ℕ} (N : StringSize 0 m s c n) (K : StringSize 2 m s c k) where
        module _ {e d l : List ℕ} {μ : Floo.Machine} (R : Rep m s e d c l μ) where
          bytes_source : n ≡ size (object μ (two_strings X Z R).j)
          bytes_source = let S = two_strings X Z R in N.says e d l μ R S.j (ap (λ (r : List Value). get_or r 0 null) S.split) ∙ sym (text_size S.source)

          bytes_target : k ≡ size (object μ (two_strings X Z R).i)
          bytes_target = let S = two_strings X Z R in K.says e d l μ R S.i (ap (λ (r : List Value). get_or r 2 null) S.split) ∙ sym (text_size S.target)

        pub put_bytes_outside : k < start + n → DoesHeap op m s s c c (Err RangeCheck)
        unfolding strings_case texts object with_stack
        put_bytes_outside h = fails_heap (λ e d l μ R. case_outside M R (strings_case (two_strings X Z R)) plain low (bytes_source R) (bytes_target R) h)

        pub put_bytes_done : start + n ≤ k
            → {m' : Machine} {c₁ c₂ : List ℕ}
            → MovesHeap (bytes_copied 2 start 0 0 n) m m s s c c₁
            → MovesHeap three_dropped m m' s s c₁ c₂
            → DoesHeap op m s s c c₂ (Ok m')
        unfolding strings_case texts object with_stack
        put_bytes_done h A B =
            moves_heap (then_heap A B) (bytes_store start n) refl (λ e d l μ R.
            let S = two_strings X Z R in
            case_inside M R (strings_case S) plain low (bytes_source R) (bytes_target R) h
            ∙ ap ok (sym (ap (λ (τ : Floo.Machine). three_dropped (bytes_copied 2 start 0 0 n τ)) (sym (refit μ S.split))
            ∙ copied_text μ S.i S.j start n (integer start) S.rest (bytes_source R ∙ text_size S.source))))

  -- ---- arrays

  module _ (X : ArrayItem 2 m s) (Z : ArrayItem 0 m s) {p : Bool} (M : ItemSealed 2 m s c p) where
    pub put_elements_refused : p ≡ true → DoesHeap op m s s c c (Err InvalidAccess)
    put_elements_refused q = fails_heap (λ e d l μ R. case_refused M R (arrays_case (two_arrays X Z R)) q)

    module _ (plain : p ≡ false) where
      pub put_elements_negative : 2 ^ 31 ≤ start → start < 2 ^ 32 → DoesHeap op m s s c c (Err RangeCheck)
      put_elements_negative l h = fails_heap (λ e d l' μ R. case_negative M R (arrays_case (two_arrays X Z R)) plain l h)

      module _ (low : start < 2 ^ 31) {n k : ℕ} (N : ArraySize 0 m s c n) (K : ArraySize 2 m s c k) where
        module _ {e d l : List ℕ} {μ : Floo.Machine} (R : Rep m s e d c l μ) where
          elements_source : n ≡ size (object μ (two_arrays X Z R).j)
          elements_source = let S = two_arrays X Z R in N.says e d l μ R S.b S.j (ap (λ (r : List Value). get_or r 0 null) S.split) ∙ sym (array_size S.source)

          elements_target : k ≡ size (object μ (two_arrays X Z R).i)
          elements_target = let S = two_arrays X Z R in K.says e d l μ R S.a S.i (ap (λ (r : List Value). get_or r 2 null) S.split) ∙ sym (array_size S.target)

        pub put_elements_outside : k < start + n → DoesHeap op m s s c c (Err RangeCheck)
        unfolding arrays_case arrays object with_stack
        put_elements_outside h = fails_heap (λ e d l μ R. case_outside M R (arrays_case (two_arrays X Z R)) plain low (elements_source R) (elements_target R) h)

        pub put_elements_done : start + n ≤ k
            → {m₁ m' : Machine} {s' c₁ c₂ : List ℕ}
            → MovesHeap (elements_copied 2 start 0 0 n) m m₁ s s' c c₁
            → MovesHeap three_dropped m₁ m' s' s' c₁ c₂
            → length s' ≡ length s
            → DoesHeap op m s s' c c₂ (Ok m')
        unfolding arrays_case arrays object with_stack
        put_elements_done h A B long =
            moves_heap (then_heap A B) (elements_store start n) long (λ e d l μ R.
            let S = two_arrays X Z R in
            case_inside M R (arrays_case S) plain low (elements_source R) (elements_target R) h
            ∙ ap ok (sym (ap (λ (τ : Floo.Machine). three_dropped (elements_copied 2 start 0 0 n τ)) (sym (refit μ S.split))
            ∙ copied_array μ S.a S.b S.i S.j start n (integer start) S.rest (elements_source R ∙ array_size S.source))))
