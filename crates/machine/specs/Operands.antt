-- What the fetchers of operands answer, and what putting a result in their place does.
-- Assumes nothing.
use Rattle.std.specs.Prelude.{◌≡◌, Bool, List, ◌∷◌, ◌++◌, ℕ, ℤ, length, Ok, Err}
use Rattle.semantics.specs.Values.{Value, integer, boolean, null, mark, Result, ok, fault, ◌>>=◌, int}
use Rattle.semantics.specs.Machine as Floo
use Rattle.semantics.specs.Machine.{with_stack, push, pop1, pop2}
use Rattle.semantics.specs.NumberOperators.{connective, negation}
use Rattle.semantics.specs.ListLaws.{All}
use Rattle.store.specs.Rep.{bit}
use Rattle.machine.specs.Places.{Nameless}
use Rattle.machine.specs.Rep.{Rep}
use Rattle.machine.specs.declared.Machine.{Machine}
use Rattle.machine.specs.declared.Logical.TheVariants.{Words, Truths}
use Rattle.machine.specs.Answers.{OneInt, TwoInts, OneLogical, TwoLogical}

-- The words of a value that needs no dictionary and no heap.
pub data Scalar : Value → ℕ → ℕ → Type 0 where
  an_integer : {w : ℕ} → Scalar (integer w) 1 w
  a_boolean : {b : Bool} → Scalar (boolean b) 2 (bit b)
  a_mark : Scalar mark 3 0
  a_null : Scalar null 0 0

-- The operand of the definition's unary operators on integers.
unfoldable pub one_int : Floo.Machine → Result (ℤ × Floo.Machine)
one_int μ = do
  (x, τ) ← pop1 μ
  a ← int x
  ok (a, τ)

-- The operands of its binary ones.
unfoldable pub two_ints : Floo.Machine → Result (ℤ × ℤ × Floo.Machine)
two_ints μ = do
  (x, y, τ) ← pop2 μ
  a ← int x
  b ← int y
  ok (a, b, τ)

-- An operator that takes an integer, and one that takes two.
abbrev pub on_one : (ℤ → Floo.Machine → Result Floo.Machine) → Floo.Machine → Result Floo.Machine
on_one k μ = pop1 μ >>= λ p. int p.0 >>= λ a. k a p.1

abbrev pub on_two : (ℤ → ℤ → Floo.Machine → Result Floo.Machine) → Floo.Machine → Result Floo.Machine
on_two k μ = pop2 μ >>= λ p. int p.0 >>= λ a. int p.1 >>= λ b. k a b p.2

abbrev pub OneIs : Floo.Machine → OneInt → Type 0
OneIs μ (Err e) = one_int μ ≡ fault e
OneIs μ (Ok a) = (rest : List Value) × (μ.stack ≡ integer a ∷ rest)

abbrev pub TwoIs : Floo.Machine → TwoInts → Type 0
TwoIs μ (Err e) = two_ints μ ≡ fault e
TwoIs μ (Ok (a, b)) = (rest : List Value) × (μ.stack ≡ integer b ∷ integer a ∷ rest)

pub record FetchesOne (m : Machine) (st : List ℕ) (r : OneInt) : Type 0 where
  pub says : (e d c l : List ℕ) (μ : Floo.Machine) → Rep m st e d c l μ → OneIs μ r

pub record FetchesTwo (m : Machine) (st : List ℕ) (r : TwoInts) : Type 0 where
  pub says : (e d c l : List ℕ) (μ : Floo.Machine) → Rep m st e d c l μ → TwoIs μ r

-- How many operands an answer has shown to be there.
abbrev pub one_low : OneInt → ℕ
one_low (Err e) = 0
one_low (Ok a) = 1

abbrev pub two_low : TwoInts → ℕ
two_low (Err e) = 0
two_low (Ok (a, b)) = 2

-- ---- operands of and, or, xor and not

-- Where an operand is bad, the operator fails.
abbrev pub OneLogicalIs : Floo.Machine → OneLogical → Type 0
OneLogicalIs μ (Err e) = negation μ ≡ fault e
OneLogicalIs μ (Ok (Words a)) = (rest : List Value) × (μ.stack ≡ integer a ∷ rest)
OneLogicalIs μ (Ok (Truths p)) = (a : Bool) × (rest : List Value) × (μ.stack ≡ boolean a ∷ rest) × (p ≡ bit a)

-- Where they are bad, each connective fails.
abbrev pub TwoLogicalIs : Floo.Machine → TwoLogical → Type 0
TwoLogicalIs μ (Err e) = (f : ℕ → ℕ → ℕ) (g : Bool → Bool → Bool) → connective f g μ ≡ fault e
TwoLogicalIs μ (Ok (Words (a, b))) = (rest : List Value) × (μ.stack ≡ integer b ∷ integer a ∷ rest)
TwoLogicalIs μ (Ok (Truths (p, q))) =
    (a : Bool) × (b : Bool) × (rest : List Value) × (μ.stack ≡ boolean b ∷ boolean a ∷ rest) × (p ≡ bit a) × (q ≡ bit b)

pub record FetchesOneLogical (m : Machine) (st : List ℕ) (r : OneLogical) : Type 0 where
  pub says : (e d c l : List ℕ) (μ : Floo.Machine) → Rep m st e d c l μ → OneLogicalIs μ r

pub record FetchesTwoLogical (m : Machine) (st : List ℕ) (r : TwoLogical) : Type 0 where
  pub says : (e d c l : List ℕ) (μ : Floo.Machine) → Rep m st e d c l μ → TwoLogicalIs μ r

abbrev pub one_logical_low : OneLogical → ℕ
one_logical_low (Err e) = 0
one_logical_low (Ok (Words a)) = 1
one_logical_low (Ok (Truths a)) = 1

abbrev pub two_logical_low : TwoLogical → ℕ
two_logical_low (Err e) = 0
two_logical_low (Ok (Words (a, b))) = 2
two_logical_low (Ok (Truths (a, b))) = 2

-- ---- results

-- n operands that name no object give way to a result of these words.
pub record Replaces (n t p : ℕ) (m r : Machine) (st st' : List ℕ) : Type 0 where
  pub does : {v : Value}
      → Scalar v t p
      → (old rest : List Value)
      → length old ≡ n
      → All Nameless old
      → (e d c l : List ℕ) (μ : Floo.Machine)
      → μ.stack ≡ old ++ rest
      → Rep m st e d c l μ
      → Rep r st' e d c l (with_stack (v ∷ rest) μ)

-- A value of these words is pushed.
pub record Pushes (t p : ℕ) (m r : Machine) (st st' : List ℕ) : Type 0 where
  pub does : {v : Value} → Scalar v t p → (e d c l : List ℕ) (μ : Floo.Machine) → Rep m st e d c l μ → Rep r st' e d c l (push v μ)
