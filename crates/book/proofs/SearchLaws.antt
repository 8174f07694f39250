-- The search of a record by its number: it finds the first place that has it, and that place is the only such one.
-- Assumes nothing.
use Rattle.std.specs.Prelude.{◌≡◌, Bool, true, false, List, eqb, ltb}
use Rattle.std.proofs.Math.Path.{refl}
use Rattle.std.proofs.Common.{ap, ◌∙◌, inl, inr, eq-or-lt_of_le, arith, eqb-true, ltb-true, ltb-false}
use Prim.Native.Nat.{ℕ, zero, suc, ◌+◌, ◌≤◌, ◌<◌}
use Rattle.std.proofs.lemmas.Bool.{eqb-false}
use Rattle.book.specs.Books.{found_from, place_of}
use Rattle.book.specs.declared.Record.{Record}
use Rattle.book.specs.SearchLaws.{number_at, Place}

-- The same of the n records from i on.
record Finds (b : List Record) (i n k p : ℕ) : Type 0 where
  from : i ≤ p
  within : p ≤ i + n
  here : p < i + n → number_at b p ≡ k
  before : (j : ℕ) → i ≤ j → j < p → number_at b j ≡ k → ⊥

module _ (b : List Record) (k : ℕ) where
  one_more : (i n p : ℕ) (t : Bool) → eqb (number_at b i) k ≡ t → Finds b (suc i) n k p → Finds b i (suc n) k (elim t [ true ↦ i | false ↦ p ])
  one_more i n p true e f = record { from = omega arith; within = omega arith; here = λ l. eqb-true (number_at b i) k e; before = λ j l m h. omega (arith, l, m) }
  one_more i n p false e f = record {
    from = omega (arith, f.from);
    within = omega (arith, f.within);
    here = λ l. f.here (omega (arith, l));
    before = λ j l m h. elim (eq-or-lt_of_le l) [ inl same ↦ eqb-false (number_at b i) k e (ap (number_at b) same ∙ h) | inr on ↦ f.before j (omega (arith, on)) m h ];
  }

  finds_from : (i n : ℕ) → Finds b i n k (found_from b i n k)
  unfolding found_from
  finds_from i zero = record { from = omega arith; within = omega arith; here = λ l. absurd (omega (arith, l)); before = λ j l m h. omega (arith, l, m) }
  finds_from i (suc n) = one_more i n (found_from b (suc i) n k) (eqb (number_at b i) k) refl (finds_from (suc i) n)

  pub place_finds : (n : ℕ) → Place b n k (place_of b n k)
  unfolding place_of
  place_finds n =
      let f = finds_from 0 n in
      record { within = omega (arith, f.within); here = λ l. f.here (omega (arith, l)); before = λ j l h. f.before j (omega arith) l h }

  not_before : {n p r : ℕ} → Place b n k p → Place b n k r → p < r → ⊥
  not_before {p = p} f g l = g.before p l (f.here (omega (arith, l, g.within)))

  place_one : {n p r : ℕ} → Place b n k p → Place b n k r → p ≡ r
  place_one {p = p} {r = r} f g = one (ltb p r) refl (ltb r p) refl
    where
      one : (s : Bool) → ltb p r ≡ s → (t : Bool) → ltb r p ≡ t → p ≡ r
      one true e t h = absurd (not_before f g (ltb-true p r e))
      one false e true h = absurd (not_before g f (ltb-true r p h))
      one false e false h = omega (arith, ltb-false p r e, ltb-false r p h)

  pub place_is : (n : ℕ) {p : ℕ} → Place b n k p → place_of b n k ≡ p
  place_is n f = place_one (place_finds n) f
