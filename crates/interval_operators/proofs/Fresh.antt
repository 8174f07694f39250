-- What the primitives ask of getinterval's operands and of the object that has just been made.
-- Assumes nothing.
use mathlib.Core.Path.{◌≡◌, refl, sym, ap, ◌∙◌, subst}
use mathlib.Core.Bool.{Bool, false}
use mathlib.Core.List.{List, [], ◌∷◌}
use Prim.Native.Nat.{ℕ, ◌+◌, ◌≤◌, ◌<◌}
use native.Mathlib.Omega.{arith}
use lib.ListN.{length, get_or, replicate, length-replicate, get_or-append}
use lib.Seq.{get_or-append_seam}
use Rattle.semantics.specs.Values.{Value, integer, null, string, array, Object, elements, text}
use Rattle.semantics.specs.Machine as Floo
use Rattle.semantics.specs.Machine.{with_stack, with_store, object, elements_of, bytes_of, make, made}
use Rattle.machine.specs.Places.{Nameless}
use Rattle.machine.specs.Rep.{Rep, Somewhere, MovesHeap}
use Rattle.machine.specs.declared.Machine.{Machine}
use Rattle.elements.specs.Elements.{HasPlain, ItemTag, ArraySize, StringSize, SomewhereThat, array_made, string_made}
use Rattle.strings.specs.Strings.{Copies}
use Rattle.interval_operators.specs.Intervals.{Integers, CopiesElements}
use Rattle.interval_operators.proofs.Splitting.{refit}
use Rattle.interval_operators.proofs.Getting.{string_case, array_case}

integer_plain : {v : Value} {w : ℕ} → v ≡ integer w → Nameless v
integer_plain q = subst Nameless (sym q) (record { none = λ t. t })

pub plain_count : {m : Machine} {s c : List ℕ} {start n : ℕ} → Integers start n m s → Somewhere m s c → SomewhereThat (HasPlain 0) m s c
plain_count {c = c} I (e, d, l, μ, R) =
    (e, d, l, μ, R, integer_plain (ap (λ (r : List Value). get_or r 0 null) (I.says e d c l μ R).1))

-- ---- on machines

module _ (μ : Floo.Machine) (z y : Value) (i start n : ℕ) (rest : List Value) (old : i < length μ.store) where
  new_string : start + n ≤ length (bytes_of (object μ i)) → Copies 0 0 2 start n (string_made 0 n (with_stack (z ∷ y ∷ string i ∷ rest) μ))
  unfolding string_made with_stack with_store make made object bytes_of
  new_string h =
      let S = μ.store in
      let o = text (replicate n 0) in
      let here = ap (λ (p : Object). length (bytes_of p)) (get_or-append_seam S o [] (elements [])) ∙ length-replicate n 0 in
      let there = ap (λ (p : Object). length (bytes_of p)) (get_or-append S (o ∷ []) (elements []) i old) in (
        record { string = record { id = length S; item = refl }; inside = omega (arith, here) },
        record { string = record { id = i; item = refl }; inside = omega (arith, h, there) },
      )

  new_array_lem : (b : Bool) → start + n ≤ length (elements_of (object μ i)) → CopiesElements 0 0 2 start n (array_made 0 n (with_stack (z ∷ y ∷ array b i ∷ rest) μ))
  unfolding array_made with_stack with_store make made object elements_of
  new_array_lem b h =
      let S = μ.store in
      let o = elements (replicate n null) in
      let here = ap (λ (p : Object). length (elements_of p)) (get_or-append_seam S o [] (elements [])) ∙ length-replicate n null in
      let there = ap (λ (p : Object). length (elements_of p)) (get_or-append S (o ∷ []) (elements []) i old) in (
        record { array = record { executable = false; id = length S; item = refl }; inside = omega (arith, here) },
        record { array = record { executable = b; id = i; item = refl }; inside = omega (arith, h, there) },
      )

-- ---- on words

module _ {m m₁ : Machine} {s s₁ c c₁ : List ℕ} (deep : 3 ≤ m.depth) {start n k : ℕ} (I : Integers start n m s) (h : start + n ≤ k) (W : Somewhere m s c) where
  pub copies_new_string : ItemTag 2 m s 8 → StringSize 2 m s c k → MovesHeap (string_made 0 n) m m₁ s s₁ c c₁ → SomewhereThat (Copies 0 0 2 start n) m₁ s₁ c₁
  copies_new_string X K M =
      let μ = W.3 in
      let R = W.4 in
      let S = string_case deep I R X in
      let size = K.says W.0 W.1 W.2 μ R S.i (ap (λ (r : List Value). get_or r 2 null) S.split) in (
        W.0,
        W.1,
        W.2,
        string_made 0 n (with_stack (integer n ∷ integer start ∷ string S.i ∷ S.rest) μ),
        M.moves W.0 W.1 W.2 _ (subst (Rep m s W.0 W.1 c W.2) (sym (refit μ S.split)) R),
        new_string μ (integer n) (integer start) S.i start n S.rest S.old (omega (arith, h, size)),
      )

  pub copies_new_array : {t : ℕ} → 9 ≤ t → ItemTag 2 m s t → ArraySize 2 m s c k → MovesHeap (array_made 0 n) m m₁ s s₁ c c₁ → SomewhereThat (CopiesElements 0 0 2 start n) m₁ s₁ c₁
  copies_new_array high X K M =
      let μ = W.3 in
      let R = W.4 in
      let S = array_case deep I R high X in
      let size = K.says W.0 W.1 W.2 μ R S.b S.i (ap (λ (r : List Value). get_or r 2 null) S.split) in (
        W.0,
        W.1,
        W.2,
        array_made 0 n (with_stack (integer n ∷ integer start ∷ array S.b S.i ∷ S.rest) μ),
        M.moves W.0 W.1 W.2 _ (subst (Rep m s W.0 W.1 c W.2) (sym (refit μ S.split)) R),
        new_array_lem μ (integer n) (integer start) S.i start n S.rest S.old S.b (omega (arith, h, size)),
      )
