-- The shapes of the operators on integers: operands that are not there or of another kind, and a result in their place.
-- Assumes nothing.
use Rattle.std.specs.Prelude.{Ok, Err, Option, Some, None}
use mathlib.Core.Path.{◌≡◌, refl, sym, ap, ◌∙◌, subst}
use mathlib.Core.Bool.{Bool}
use mathlib.Core.List.{List, [], ◌∷◌}
use mathlib.Core.Option as maybe
use Prim.Native.Nat.{ℕ, ◌^◌, ◌<◌}
use native.Mathlib.Omega.{arith}
use lib.IntN.{ℤ}
use Rattle.semantics.specs.Words.{signed, word, shift}
use Rattle.semantics.specs.Values.{integer, boolean, Result, ok, fault, ◌>>=◌, given, int}
use Rattle.semantics.specs.Machine as Floo
use Rattle.semantics.specs.Machine.{with_stack, push}
use Rattle.semantics.specs.NumberOperators.{division}
use Rattle.semantics.specs.ListLaws.{nil, cons}
use Rattle.semantics.specs.declared.Error.{Error}
use Rattle.semantics.specs.declared.Error.TheVariants.{UndefinedResult}
use Rattle.store.specs.Rep.{bit}
use Rattle.word.specs.Answers.{quotient_of, place_of, divided_words}
use Rattle.machine.specs.Operands.{an_integer, a_boolean, OneIs, TwoIs, FetchesOne, FetchesTwo, Replaces, on_one, on_two}
use Rattle.machine.specs.Room.{lent, fitted, DoesStack}
use Rattle.machine.specs.Rep.{Rep, Answer}
use Rattle.machine.specs.declared.Machine.{Machine}
use Rattle.machine.specs.Answers.{Did, OneInt, TwoInts}
use Rattle.word.proofs.Words.{word_signed}
pub use Rattle.machine.proofs.Outcomes.{named}
use Rattle.machine.proofs.Outcomes.{one_fault, one_value, two_fault, two_values}
use Rattle.machine.proofs.Naming.{integer_nameless}
use Rattle.machine.proofs.Rooms.{fitted_fails}
use Rattle.machine.proofs.Results.{result_fits}
use Rattle.number_operators.specs.Steps.{Leads, StepsOne, StepsTwo}

-- ---- two integers

module _ {post : ℕ → ℕ → OneInt → Type 0} {t : ℕ} {m : Machine} {st : List ℕ} {r : TwoInts} (F : FetchesTwo m st r) where
  -- No two integers: the operator fails as its operands do.
  pub two_bad : {e : Error} → r ≡ Err e → StepsTwo post t m st st (Err e)
  unfolding ◌>>=◌
  two_bad q = record {
    does = λ k h. record {
      does = λ x d c l μ R. (fitted_fails (lent st x d c l) (on_two k) μ (two_fault k μ (subst (TwoIs μ) q (F.says x d c l μ R))), refl);
    };
  }

  module _ {a b : ℕ} (q : r ≡ Ok (a, b)) (la : a < 2 ^ 32) (lb : b < 2 ^ 32) where
    -- Two integers, and a result that needs no heap.
    pub two_good : {w : ℕ} {m' : Machine} {st' : List ℕ} → post a b (Ok w) → Replaces 2 t w m m' st st' → StepsTwo post t m st st' (Ok m')
    unfolding ◌>>=◌ int
    two_good {w} p P = record {
      does = λ k h. record {
        does = λ x d c l μ R.
            let s = subst (TwoIs μ) q (F.says x d c l μ R) in
            let leads = h a b (Ok w) la lb p in
            result_fits (on_two k) P leads.1 (integer b ∷ integer a ∷ []) s.0 refl (omega arith) (cons integer_nameless (cons integer_nameless nil)) x d c l μ s.1
            (two_values k μ s.1 ∙ leads.2 (with_stack s.0 μ))
            R;
      };
    }

    -- Two integers on which the operator fails.
    pub two_fails : {e : Error} → post a b (Err e) → StepsTwo post t m st st (Err e)
    unfolding ◌>>=◌ int
    two_fails {e} p = record {
      does = λ k h. record {
        does = λ x d c l μ R.
            let s = subst (TwoIs μ) q (F.says x d c l μ R) in
            (fitted_fails (lent st x d c l) (on_two k) μ (two_values k μ s.1 ∙ h a b (Err e) la lb p (with_stack s.0 μ)), refl);
      };
    }

-- ---- one integer

module _ {post : ℕ → OneInt → Type 0} {t : ℕ} {m : Machine} {st : List ℕ} {r : OneInt} (F : FetchesOne m st r) where
  pub one_bad : {e : Error} → r ≡ Err e → StepsOne post t m st st (Err e)
  unfolding ◌>>=◌
  one_bad q = record {
    does = λ k h. record {
      does = λ x d c l μ R. (fitted_fails (lent st x d c l) (on_one k) μ (one_fault k μ (subst (OneIs μ) q (F.says x d c l μ R))), refl);
    };
  }

  module _ {a : ℕ} (q : r ≡ Ok a) (la : a < 2 ^ 32) where
    pub one_good : {w : ℕ} {m' : Machine} {st' : List ℕ} → post a (Ok w) → Replaces 1 t w m m' st st' → StepsOne post t m st st' (Ok m')
    unfolding ◌>>=◌ int
    one_good {w} p P = record {
      does = λ k h. record {
        does = λ x d c l μ R.
            let s = subst (OneIs μ) q (F.says x d c l μ R) in
            let leads = h a (Ok w) la p in
            result_fits (on_one k) P leads.1 (integer a ∷ []) s.0 refl (omega arith) (cons integer_nameless nil) x d c l μ s.1
            (one_value k μ s.1 ∙ leads.2 (with_stack s.0 μ))
            R;
      };
    }

    pub one_fails : {e : Error} → post a (Err e) → StepsOne post t m st st (Err e)
    unfolding ◌>>=◌ int
    one_fails {e} p = record {
      does = λ k h. record {
        does = λ x d c l μ R.
            let s = subst (OneIs μ) q (F.says x d c l μ R) in
            (fitted_fails (lent st x d c l) (on_one k) μ (one_value k μ s.1 ∙ h a (Err e) la p (with_stack s.0 μ)), refl);
      };
    }

-- ---- what the results are

abbrev pub Binary : Type 0
Binary = ℤ → ℤ → Floo.Machine → Result Floo.Machine

abbrev pub Unary : Type 0
Unary = ℤ → Floo.Machine → Result Floo.Machine

abbrev pub computing : (ℤ → ℤ → Result ℤ) → Binary
computing f a b τ = f a b >>= λ c. ok (push (integer (word c)) τ)

abbrev pub shifting : Binary
shifting a b τ = ok (push (integer (shift (word a) b)) τ)

abbrev pub comparing : (ℤ → ℤ → Bool) → Binary
comparing f a b τ = ok (push (boolean (f a b)) τ)

abbrev pub computing1 : (ℤ → ℤ) → Unary
computing1 f a τ = ok (push (integer (word (f a))) τ)

abbrev pub pegging : (ℕ → maybe.Option ℕ) → Unary
pegging f a τ = given (f (word a)) UndefinedResult >>= λ k. ok (push (integer k) τ)

-- The word of the result is the word that is put.
pub computed : (f : ℤ → ℤ → ℤ) (a b : ℕ) {z : OneInt} → z ≡ Ok (word (f (signed a) (signed b))) → Leads (computing (λ x y. ok (f x y)) (signed a) (signed b)) 1 z
unfolding ◌>>=◌
computed f a b q = subst (Leads (computing (λ x y. ok (f x y)) (signed a) (signed b)) 1) (sym q) (integer _, an_integer, λ τ. refl)

pub computed1 : (f : ℤ → ℤ) (a : ℕ) {z : OneInt} → z ≡ Ok (word (f (signed a))) → Leads (computing1 f (signed a)) 1 z
computed1 f a q = subst (Leads (computing1 f (signed a)) 1) (sym q) (integer _, an_integer, λ τ. refl)

pub compared : (f : ℤ → ℤ → Bool) (a b : ℕ) {z : OneInt} → z ≡ Ok (bit (f (signed a) (signed b))) → Leads (comparing f (signed a) (signed b)) 2 z
compared f a b q = subst (Leads (comparing f (signed a) (signed b)) 2) (sym q) (boolean _, a_boolean, λ τ. refl)

pub shifted : (a b : ℕ) {z : OneInt} → a < 2 ^ 32 → z ≡ Ok (shift a (signed b)) → Leads (shifting (signed a) (signed b)) 1 z
shifted a b l q =
    subst (Leads (shifting (signed a) (signed b)) 1) (sym q) (integer _, an_integer, λ τ. ap (λ x. ok (push (integer (shift x (signed b))) τ)) (word_signed a l))

-- A number where there is one, else the error.
abbrev pub or_undefined : Option ℕ → OneInt
or_undefined (Some w) = Ok w
or_undefined None = Err UndefinedResult

-- The words' division is the definition's, with the word put where it belongs.
after : (r : Result ℤ) (τ : Floo.Machine) → (r >>= λ c. ok (push (integer (word c)) τ)) ≡ ((r >>= λ q. ok (word q)) >>= λ w. ok (push (integer w) τ))
unfolding ◌>>=◌
after (ok z) τ = refl
after (fault e) τ = refl

module _ (f : ℤ → ℤ → ℤ) (a b : ℕ) where
  through : (τ : Floo.Machine) → computing (division f) (signed a) (signed b) τ ≡ (divided_words f a b >>= λ w. ok (push (integer w) τ))
  unfolding divided_words ◌>>=◌
  through τ = after (division f (signed a) (signed b)) τ

  by_answer : (q : Option ℕ) → quotient_of q ≡ divided_words f a b → Leads (computing (division f) (signed a) (signed b)) 1 (or_undefined q)
  unfolding ◌>>=◌
  by_answer (Some w) h = (integer w, an_integer, λ τ. through τ ∙ ap (λ r. r >>= λ w. ok (push (integer w) τ)) (sym h))
  by_answer None h = λ τ. through τ ∙ ap (λ r. r >>= λ w. ok (push (integer w) τ)) (sym h)

pub divided : (f : ℤ → ℤ → ℤ) (a b : ℕ) {z : OneInt}
    → (q : Option ℕ) × (z ≡ or_undefined q) × (quotient_of q ≡ divided_words f a b)
    → Leads (computing (division f) (signed a) (signed b)) 1 z
divided f a b p = subst (Leads (computing (division f) (signed a) (signed b)) 1) (sym p.1) (by_answer f a b p.0 p.2)

-- The bits are those of the operand.
pub pegged : (f : ℕ → maybe.Option ℕ) (a : ℕ) {z : OneInt} → a < 2 ^ 32 → (q : Option ℕ) × (z ≡ or_undefined q) × (place_of q ≡ f a) → Leads (pegging f (signed a)) 1 z
unfolding ◌>>=◌ given
pegged f a l p = subst (Leads (pegging f (signed a)) 1) (sym p.1) (by p.0 p.2)
  where
    by : (q : Option ℕ) → place_of q ≡ f a → Leads (pegging f (signed a)) 1 (or_undefined q)
    by (Some k) q = (integer k, an_integer, λ τ. ap (λ o. given o UndefinedResult >>= λ k. ok (push (integer k) τ)) (ap f (word_signed a l) ∙ sym q))
    by None q = λ τ. ap (λ o. given o UndefinedResult >>= λ k. ok (push (integer k) τ)) (ap f (word_signed a l) ∙ sym q)

-- One of which there is always a number.
pub counted : (f : ℕ → ℕ) (a : ℕ) {z : OneInt} → a < 2 ^ 32 → z ≡ Ok (f a) → Leads (pegging (λ w. maybe.some (f w)) (signed a)) 1 z
unfolding ◌>>=◌ given
counted f a l q = pegged (λ w. maybe.some (f w)) a l (Some (f a), q, refl)
