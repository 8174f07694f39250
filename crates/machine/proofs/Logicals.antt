-- Operands of and, or, xor and not by their words: two of one tag, 1 or 2, are two words or two truth values.
-- Assumes nothing.
use mathlib.Core.Path.{◌≡◌, refl, ap, ◌∙◌}
use mathlib.Core.Bool.{Bool}
use mathlib.Core.List.{List, ◌∷◌}
use Prim.Native.Nat.{ℕ, suc, ◌<◌}
use native.Mathlib.Omega.{arith}
use Rattle.semantics.specs.Values.{Value, boolean, fault, ◌>>=◌}
use Rattle.semantics.specs.Machine as Floo
use Rattle.semantics.specs.NumberOperators.{bits, truth, neither, logical, logical2, connective, negated, negation}
use Rattle.semantics.specs.declared.Error.TheVariants.{StackUnderflow, TypeCheck}
use Rattle.store.specs.Rep.{bit, Stands, a_null, an_integer, a_boolean, a_mark, an_operator, a_literal, an_executable, a_string, an_array, a_procedure}
use Rattle.store.proofs.Standing.{is_boolean}
use Rattle.machine.specs.Words.{item_tag, item_payload}
use Rattle.machine.specs.Rep.{Rep}
use Rattle.machine.specs.declared.Machine.{Machine}
use Rattle.machine.proofs.Operands.{top, pop1_some, pop2_some, upper, lower, both, pop1_under, pop2_under}
use Rattle.machine.proofs.Items.{items_length}

-- ---- what a tag says

module _ {keys : List (List ℕ)} {texts : List Bool} {ρ : ℕ → ℕ} where
  stands_neither : {v : Value} {t p : ℕ} → Stands keys texts ρ v t p → (t ≡ 1 → ⊥) → (t ≡ 2 → ⊥) → logical v ≡ neither
  unfolding logical
  stands_neither a_null n m = refl
  stands_neither an_integer n m = absurd (n refl)
  stands_neither a_boolean n m = absurd (m refl)
  stands_neither a_mark n m = refl
  stands_neither (an_operator q) n m = refl
  stands_neither (a_literal q) n m = refl
  stands_neither (an_executable q) n m = refl
  stands_neither (a_string q k) n m = refl
  stands_neither (an_array q k) n m = refl
  stands_neither (a_procedure q k) n m = refl

  -- Two tags that differ are not two of one kind.
  module _ (f : ℕ → ℕ → ℕ) (g : Bool → Bool → Bool) where
    beside_bits : {v : Value} {t p : ℕ} → Stands keys texts ρ v t p → (a : ℕ) → (t ≡ 1 → ⊥) → logical2 f g (bits a) (logical v) ≡ fault TypeCheck
    unfolding logical logical2
    beside_bits a_null a n = refl
    beside_bits an_integer a n = absurd (n refl)
    beside_bits a_boolean a n = refl
    beside_bits a_mark a n = refl
    beside_bits (an_operator q) a n = refl
    beside_bits (a_literal q) a n = refl
    beside_bits (an_executable q) a n = refl
    beside_bits (a_string q k) a n = refl
    beside_bits (an_array q k) a n = refl
    beside_bits (a_procedure q k) a n = refl

    beside_truth : {v : Value} {t p : ℕ} → Stands keys texts ρ v t p → (a : Bool) → (t ≡ 2 → ⊥) → logical2 f g (truth a) (logical v) ≡ fault TypeCheck
    unfolding logical logical2
    beside_truth a_null a n = refl
    beside_truth an_integer a n = refl
    beside_truth a_boolean a n = absurd (n refl)
    beside_truth a_mark a n = refl
    beside_truth (an_operator q) a n = refl
    beside_truth (a_literal q) a n = refl
    beside_truth (an_executable q) a n = refl
    beside_truth (a_string q k) a n = refl
    beside_truth (an_array q k) a n = refl
    beside_truth (a_procedure q k) a n = refl

    stands_apart : {v w : Value} {t u p q : ℕ}
        → Stands keys texts ρ v t p
        → Stands keys texts ρ w u q
        → (u ≡ t → ⊥)
        → logical2 f g (logical v) (logical w) ≡ fault TypeCheck
    unfolding logical logical2
    stands_apart a_null h n = refl
    stands_apart an_integer h n = beside_bits h _ n
    stands_apart a_boolean h n = beside_truth h _ n
    stands_apart a_mark h n = refl
    stands_apart (an_operator q) h n = refl
    stands_apart (a_literal q) h n = refl
    stands_apart (an_executable q) h n = refl
    stands_apart (a_string q k) h n = refl
    stands_apart (an_array q k) h n = refl
    stands_apart (a_procedure q k) h n = refl

-- ---- fetchers

module _ {m : Machine} {st e d c l : List ℕ} {μ : Floo.Machine} (R : Rep m st e d c l μ) where
  pub negation_under : m.depth < 1 → negation μ ≡ fault StackUnderflow
  unfolding negation ◌>>=◌
  negation_under h = rw (pop1_under μ (omega (arith, items_length R.items, h)))

  pub negation_neither : (k : ℕ) → m.depth ≡ suc k → (item_tag st k ≡ 1 → ⊥) → (item_tag st k ≡ 2 → ⊥) → negation μ ≡ fault TypeCheck
  unfolding negation negated ◌>>=◌
  negation_neither k h n o =
      let x = top R.items k h in
      rw (pop1_some μ x.split, stands_neither x.words.stands n o)

  pub one_truth : (k : ℕ)
      → m.depth ≡ suc k
      → item_tag st k ≡ 2
      → (a : Bool) × (rest : List Value) × (μ.stack ≡ boolean a ∷ rest) × (item_payload st k ≡ bit a)
  one_truth k h i =
      let x = top R.items k h in
      let b = is_boolean x.words.stands i in
      (b.0, x.rest, x.split ∙ ap (λ v. v ∷ x.rest) b.1, b.2)

  pub connective_under : m.depth < 2 → (f : ℕ → ℕ → ℕ) (g : Bool → Bool → Bool) → connective f g μ ≡ fault StackUnderflow
  unfolding connective ◌>>=◌
  connective_under h f g = rw (pop2_under μ (omega (arith, items_length R.items, h)))

  -- The upper operand is item u, the lower one item k.
  module _ (k u : ℕ) (h : m.depth ≡ suc u) (next : u ≡ suc k) where
    pub connective_apart : (item_tag st u ≡ item_tag st k → ⊥) → (f : ℕ → ℕ → ℕ) (g : Bool → Bool → Bool) → connective f g μ ≡ fault TypeCheck
    unfolding connective ◌>>=◌
    connective_apart n f g =
        rw (pop2_some μ (both R k u h next), stands_apart f g (lower R k u h next).words.stands (upper R k u h next).words.stands n)

    pub connective_neither : (item_tag st k ≡ 1 → ⊥)
        → (item_tag st k ≡ 2 → ⊥)
        → (f : ℕ → ℕ → ℕ) (g : Bool → Bool → Bool)
        → connective f g μ ≡ fault TypeCheck
    unfolding connective logical2 ◌>>=◌
    connective_neither n o f g = rw (pop2_some μ (both R k u h next), stands_neither (lower R k u h next).words.stands n o)

    pub two_truths : item_tag st k ≡ 2
        → item_tag st u ≡ 2
        → (a : Bool)
        × (b : Bool)
        × (rest : List Value)
        × (μ.stack ≡ boolean b ∷ boolean a ∷ rest)
        × (item_payload st k ≡ bit a)
        × (item_payload st u ≡ bit b)
    two_truths i j =
        let x = lower R k u h next in
        let y = upper R k u h next in
        let a = is_boolean x.words.stands i in
        let b = is_boolean y.words.stands j in
        (a.0, b.0, x.rest, both R k u h next ∙ ap (λ v. v ∷ x.value ∷ x.rest) b.1 ∙ ap (λ v. boolean b.0 ∷ v ∷ x.rest) a.1, a.2, b.2)
