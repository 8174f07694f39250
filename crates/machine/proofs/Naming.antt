-- Objects that root places name, where the stack's front changes and names none before or after.
-- Assumes nothing.
use mathlib.Core.Path.{◌≡◌, sym, subst}
use mathlib.Core.Bool.{Bool}
use mathlib.Core.Logic.{◌↔◌}
use mathlib.Core.List.{List, [], ◌∷◌, ◌++◌}
use Prim.Native.Nat.{ℕ, zero, suc, ◌/◌, ◌%◌, ◌≤◌}
use native.Mathlib.Omega.{arith}
use lib.ListN.{length, length-append}
use lib.Dec.{T}
use Rattle.semantics.specs.Values.{Value, integer, boolean}
use Rattle.semantics.specs.Machine.{Machine, with_stack}
use Rattle.semantics.specs.ListLaws.{All, nil, cons}
use Rattle.heap.proofs.Upds.{at_upd}
use Rattle.store.specs.Rep.{Names, by_string, by_array}
use Rattle.machine.specs.Places.{is_object, Nameless, from_end, root_in, roots}

-- ---- values that name no object

names_object : {v : Value} {i : ℕ} → Names v i → T (is_object v)
names_object by_string = tt
names_object by_array = tt

pub nameless : {v : Value} → Nameless v → {i : ℕ} → Names v i → ⊥
nameless h n = h.none (names_object n)

pub integer_nameless : {w : ℕ} → Nameless (integer w)
integer_nameless = record { none = λ t. t }

pub boolean_nameless : {b : Bool} → Nameless (boolean b)
boolean_nameless = record { none = λ t. t }

-- ---- the stack's places

module _ {A : Type 0} (f : A → Value) where
  pub past_end : (l : List A) (j i : ℕ) → length l ≤ j → Names (from_end f l j) i → ⊥
  unfolding from_end
  past_end [] j i h = λ n. absurd (names_object n)
  past_end (a ∷ l) j i h =
      at_upd (λ v. Names v i → ⊥) (from_end f l) (length l) (f a) j (λ e. absurd (omega arith)) (λ e. past_end l j i (omega arith))

  -- A nameless front names nothing more, and hides nothing.
  front_to : (front l : List A) → All (λ a. Nameless (f a)) front → (j i : ℕ) → Names (from_end f (front ++ l) j) i → Names (from_end f l j) i
  unfolding from_end
  front_to [] l nil j i = λ n. n
  front_to (a ∷ front) l (cons p ps) j i =
      at_upd (λ v. Names v i → Names (from_end f l j) i) (from_end f (front ++ l)) (length (front ++ l)) (f a) j
      (λ e n. absurd (nameless p n))
      (λ e n. front_to front l ps j i n)

  front_from : (front l : List A) → (j i : ℕ) → Names (from_end f l j) i → Names (from_end f (front ++ l) j) i
  unfolding from_end
  front_from [] l j i n = n
  front_from (a ∷ front) l j i n =
      at_upd (λ v. Names v i) (from_end f (front ++ l)) (length (front ++ l)) (f a) j
      (λ e. absurd (past_end l j i (omega (arith, length-append front l)) n))
      (λ e. front_from front l j i n)

-- Two stacks with nameless items in front of the same rest name the same in every place.
pub front_alike : (μ : Machine) (old new rest : List Value)
    → μ.stack ≡ old ++ rest
    → All Nameless old
    → All Nameless new
    → (r i : ℕ)
    → Names (roots μ r) i ↔ Names (roots (with_stack (new ++ rest) μ) r) i
unfolding roots root_in with_stack
front_alike μ old new rest e p q r i = by (r % 4) (r / 4)
  where
    by : (k j : ℕ) → Names (root_in μ k j) i ↔ Names (root_in (with_stack (new ++ rest) μ) k j) i
    by zero j = (
      λ n. front_from (λ v. v) new rest j i (front_to (λ v. v) old rest p j i (subst (λ s. Names (from_end (λ v. v) s j) i) e n)),
      λ n. subst (λ s. Names (from_end (λ v. v) s j) i) (sym e) (front_from (λ v. v) old rest j i (front_to (λ v. v) new rest q j i n)),
    )
    by (suc zero) j = (λ n. n, λ n. n)
    by (suc (suc zero)) j = (λ n. n, λ n. n)
    by (suc (suc (suc zero))) j = (λ n. n, λ n. n)
    by (suc (suc (suc (suc k)))) j = (λ n. n, λ n. n)
