-- The shapes of and, or, xor and not: operands that are neither words nor truth values, two of one kind, and a result in their place.
-- Assumes nothing.
use Rattle.std.specs.Prelude.{Ok, Err}
use mathlib.Core.Path.{◌≡◌, refl, sym, ap, ◌∙◌, subst}
use mathlib.Core.Bool.{Bool, true, false, not, ◌&&◌, ◌||◌, beq}
use mathlib.Core.List.{List, [], ◌∷◌}
use Prim.Native.Nat.{ℕ, ◌-◌, ◌^◌, ◌≤◌, ◌<◌}
use native.Mathlib.Omega.{arith}
use lib.Bits.{bit_and, bit_or, bit_xor}
use Rattle.semantics.specs.Values.{Value, integer, boolean, Result, ok, ◌>>=◌}
use Rattle.semantics.specs.Machine as Floo
use Rattle.semantics.specs.Machine.{with_stack, push}
use Rattle.semantics.specs.NumberOperators.{logical, logical2, connective, negated, negation}
use Rattle.semantics.specs.ListLaws.{nil, cons}
use Rattle.semantics.specs.declared.Error.{Error}
use Rattle.store.specs.Rep.{bit}
use Rattle.machine.specs.Operands.{Scalar, an_integer, a_boolean, OneLogicalIs, TwoLogicalIs, FetchesOneLogical, FetchesTwoLogical, Replaces}
use Rattle.machine.specs.Room.{lent, DoesStack}
use Rattle.machine.specs.declared.Machine.{Machine}
use Rattle.machine.specs.declared.Logical.TheVariants.{Words, Truths}
use Rattle.machine.specs.Answers.{OneLogical, TwoLogical}
use Rattle.number_operators.specs.Steps.{StepsLogical}
use Rattle.machine.proofs.Operands.{pop1_some, pop2_some}
use Rattle.machine.proofs.Rooms.{fitted_fails}
use Rattle.machine.proofs.Results.{result_fits}
use Rattle.machine.proofs.Naming.{boolean_nameless, integer_nameless}

-- How many operands a known answer has shown to be there.
pub low_of : {A : Type 0} (low : A → ℕ) {r x : A} {n : ℕ} → r ≡ x → low r ≤ n → low x ≤ n
low_of low {n = n} q h = subst (λ r. low r ≤ n) q h

-- ---- truth values as words

pub and_bits : (a b : Bool) → bit_and (bit a) (bit b) ≡ bit (a && b)
and_bits true true = refl
and_bits true false = refl
and_bits false true = refl
and_bits false false = refl

pub or_bits : (a b : Bool) → bit_or (bit a) (bit b) ≡ bit (a || b)
or_bits true true = refl
or_bits true false = refl
or_bits false true = refl
or_bits false false = refl

pub xor_bits : (a b : Bool) → bit_xor (bit a) (bit b) ≡ bit (not (beq a b))
xor_bits true true = refl
xor_bits true false = refl
xor_bits false true = refl
xor_bits false false = refl

not_bit : (a : Bool) → bit_xor (bit a) 1 ≡ bit (not a)
not_bit true = refl
not_bit false = refl

-- ---- and, or, xor: f on words, g on truth values

words_give : (f : ℕ → ℕ → ℕ) (g : Bool → Bool → Bool) (μ : Floo.Machine) {a b : ℕ} {rest : List Value}
    → μ.stack ≡ integer b ∷ integer a ∷ rest
    → connective f g μ ≡ ok (push (integer (f a b)) (with_stack rest μ))
unfolding connective logical logical2 ◌>>=◌
words_give f g μ s = rw (pop2_some μ s)

truths_give : (f : ℕ → ℕ → ℕ) (g : Bool → Bool → Bool) (μ : Floo.Machine) {a b : Bool} {rest : List Value}
    → μ.stack ≡ boolean b ∷ boolean a ∷ rest
    → connective f g μ ≡ ok (push (boolean (g a b)) (with_stack rest μ))
unfolding connective logical logical2 ◌>>=◌
truths_give f g μ s = rw (pop2_some μ s)

module _ {post : ℕ → ℕ → ℕ → Type 0} {m : Machine} {st : List ℕ} {r : TwoLogical} (F : FetchesTwoLogical m st r) where
  pub connective_bad : {e : Error} → r ≡ Err e → StepsLogical post m st st (Err e)
  connective_bad q = record {
    does = λ f g h agree. record {
      does = λ x d c l μ R. (fitted_fails (lent st x d c l) (connective f g) μ (subst (TwoLogicalIs μ) q (F.says x d c l μ R) f g), refl);
    };
  }

  module _ {a b w : ℕ} (la : a < 2 ^ 32) (lb : b < 2 ^ 32) (p : post a b w) {m' : Machine} {st' : List ℕ} where
    pub connective_words : r ≡ Ok (Words (a, b)) → Replaces 2 1 w m m' st st' → StepsLogical post m st st' (Ok m')
    connective_words q P = record {
      does = λ f g h agree. record {
        does = λ x d c l μ R.
            let s = subst (TwoLogicalIs μ) q (F.says x d c l μ R) in
            result_fits (connective f g) P an_integer (integer b ∷ integer a ∷ []) s.0 refl (omega arith) (cons integer_nameless (cons integer_nameless nil)) x d c l μ s.1
            (words_give f g μ s.1 ∙ ap (λ z. ok (push (integer z) (with_stack s.0 μ))) (sym (h a b w la lb p)))
            R;
      };
    }

    pub connective_truths : r ≡ Ok (Truths (a, b)) → Replaces 2 2 w m m' st st' → StepsLogical post m st st' (Ok m')
    connective_truths q P = record {
      does = λ f g h agree. record {
        does = λ x d c l μ R.
            let s = subst (TwoLogicalIs μ) q (F.says x d c l μ R) in
            let i = s.0 in
            let j = s.1 in
            let word : w ≡ bit (g i j) = h a b w la lb p ∙ ap (λ z. f z b) s.4 ∙ ap (f (bit i)) s.5 ∙ agree i j in
            result_fits (connective f g) P (subst (λ z. Scalar (boolean (g i j)) 2 z) (sym word) a_boolean) (boolean j ∷ boolean i ∷ []) s.2 refl (omega arith)
            (cons boolean_nameless (cons boolean_nameless nil)) x d c l μ s.3
            (truths_give f g μ s.3)
            R;
      };
    }

-- ---- not

word_gives : (μ : Floo.Machine) {a : ℕ} {rest : List Value} → μ.stack ≡ integer a ∷ rest → negation μ ≡ ok (push (integer ((2 ^ 32 - 1) - a)) (with_stack rest μ))
unfolding negation logical negated ◌>>=◌
word_gives μ s = rw (pop1_some μ s)

truth_gives : (μ : Floo.Machine) {a : Bool} {rest : List Value} → μ.stack ≡ boolean a ∷ rest → negation μ ≡ ok (push (boolean (not a)) (with_stack rest μ))
unfolding negation logical negated ◌>>=◌
truth_gives μ s = rw (pop1_some μ s)

module _ {m : Machine} {st : List ℕ} {r : OneLogical} (F : FetchesOneLogical m st r)
    (op : Floo.Machine → Result Floo.Machine) (is : (μ : Floo.Machine) → op μ ≡ negation μ) where
  pub negation_bad : {e : Error} → r ≡ Err e → DoesStack op m st st (Err e)
  negation_bad q = record {
    does = λ x d c l μ R. (fitted_fails (lent st x d c l) op μ (is μ ∙ subst (OneLogicalIs μ) q (F.says x d c l μ R)), refl);
  }

  module _ {a w : ℕ} {m' : Machine} {st' : List ℕ} where
    pub negation_word : w ≡ (2 ^ 32 - 1) - a → r ≡ Ok (Words a) → Replaces 1 1 w m m' st st' → DoesStack op m st st' (Ok m')
    negation_word e q P =
        record {
          does = λ x d c l μ R.
              let s = subst (OneLogicalIs μ) q (F.says x d c l μ R) in
              result_fits op P an_integer (integer a ∷ []) s.0 refl (omega arith) (cons integer_nameless nil) x d c l μ s.1
              (is μ ∙ word_gives μ s.1 ∙ ap (λ z. ok (push (integer z) (with_stack s.0 μ))) (sym e))
              R;
        }

    pub negation_truth : w ≡ bit_xor a 1 → r ≡ Ok (Truths a) → Replaces 1 2 w m m' st st' → DoesStack op m st st' (Ok m')
    negation_truth e q P =
        record {
          does = λ x d c l μ R.
              let s = subst (OneLogicalIs μ) q (F.says x d c l μ R) in
              let word : w ≡ bit (not s.0) = e ∙ ap (λ z. bit_xor z 1) s.3 ∙ not_bit s.0 in
              result_fits op P (subst (λ z. Scalar (boolean (not s.0)) 2 z) (sym word) a_boolean) (boolean s.0 ∷ []) s.1 refl (omega arith)
              (cons boolean_nameless nil) x d c l μ s.2
              (is μ ∙ truth_gives μ s.2)
              R;
        }
