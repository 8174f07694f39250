-- What an operator's return shows: that the definition's operator fails, or that it gives what the primitives did to the machine and that there is room
-- or is none; and what primitives do one after another.
-- Assumes nothing.
use Rattle.std.specs.Prelude.{Ok, Err}
use mathlib.Core.Path.{◌≡◌, refl, sym, ap, ◌∙◌, subst}
use mathlib.Core.List.{List, [], ◌∷◌}
use Prim.Native.Nat.{ℕ, ◌/◌, ◌≤◌, ◌<◌}
use native.Mathlib.Omega.{arith}
use lib.IntN.{ℤ}
use lib.ListN.{length}
use Rattle.semantics.specs.Words.{signed}
use Rattle.semantics.specs.Values.{Value, integer, Result, ok, fault, ◌>>=◌, int}
use Rattle.semantics.specs.Machine as Floo
use Rattle.semantics.specs.Machine.{with_stack, pop1, pop2}
use Rattle.semantics.specs.Steps.{room_for}
use Rattle.semantics.specs.declared.Error.{Error}
use Rattle.semantics.specs.declared.Error.TheVariants.{StackOverflow}
use Rattle.machine.specs.Operands.{one_int, two_ints, one_low, two_low}
pub use Rattle.machine.specs.Operands.{on_one, on_two}
use Rattle.machine.specs.Rep.{Rep, Answer, Somewhere, MovesStack, MovesHeap}
use Rattle.machine.specs.Moves.{dropped, copied, copied_over, swapped}
use Rattle.machine.specs.Room.{lent, fitted, DoesStack, DoesHeap}
use Rattle.machine.specs.declared.Machine.{Machine}
use Rattle.machine.specs.Answers.{Did, OneInt, TwoInts}
use Rattle.machine.proofs.Items.{items_length}
use Rattle.machine.proofs.Operands.{pop1_some, pop2_some}
use Rattle.machine.proofs.Rooms.{dictionary_fits, exec_fits, room_stack, rep_passes}

-- As many items as the small state says.
pub stack_depth : {m : Machine} {s e d c l : List ℕ} {μ : Floo.Machine} → Rep m s e d c l μ → length μ.stack ≡ m.depth
stack_depth R = items_length R.items

-- ---- returns

-- What a primitive does leaves the number of objects.
abbrev pub KeepsStore : (Floo.Machine → Floo.Machine) → Type 0
KeepsStore g = (μ : Floo.Machine) → length (g μ).store ≡ length μ.store

pub dropped_store : KeepsStore dropped
unfolding dropped with_stack
dropped_store μ = refl

pub copied_store : (i : ℕ) → KeepsStore (copied i)
unfolding copied with_stack
copied_store i μ = refl

pub copied_over_store : (i j : ℕ) → KeepsStore (copied_over i j)
unfolding copied_over with_stack
copied_over_store i j μ = refl

pub swapped_store : (i j : ℕ) → KeepsStore (swapped i j)
unfolding swapped with_stack
swapped_store i j μ = refl

module _ {f : Floo.Machine → Result Floo.Machine} {m : Machine} {s : List ℕ} where
  pub fails_stack : {x : Error} → ((e d c l : List ℕ) (μ : Floo.Machine) → Rep m s e d c l μ → f μ ≡ fault x) → DoesStack f m s s (Err x)
  unfolding fitted ◌>>=◌
  fails_stack h = record { does = λ e d c l μ R. (ap (λ q. q >>= room_for (lent s e d c l) μ) (h e d c l μ R), refl) }

  pub moves_stack : {g : Floo.Machine → Floo.Machine} {m' : Machine} {s' : List ℕ}
      → MovesStack g m m' s s'
      → KeepsStore g
      → length s' ≡ length s
      → ((e d c l : List ℕ) (μ : Floo.Machine) → Rep m s e d c l μ → f μ ≡ ok (g μ))
      → DoesStack f m s s' (Ok m')
  unfolding fitted ◌>>=◌
  moves_stack {g} G store long h =
      record {
        does = λ e d c l μ R.
            let after = G.moves e d c l μ R in
            (g μ, ap (λ q. q >>= room_for (lent s e d c l) μ) (h e d c l μ R) ∙ rep_passes after μ s c long (store μ), after);
      }

  module _ {c : List ℕ} where
    pub fails_heap : {x : Error} → ((e d l : List ℕ) (μ : Floo.Machine) → Rep m s e d c l μ → f μ ≡ fault x) → DoesHeap f m s s c c (Err x)
    unfolding fitted ◌>>=◌
    fails_heap h = record { does = λ e d l μ R. (ap (λ q. q >>= room_for (lent s e d c l) μ) (h e d l μ R), (refl, refl)) }

    pub moves_heap : {g : Floo.Machine → Floo.Machine} {m' : Machine} {s' c' : List ℕ}
        → MovesHeap g m m' s s' c c'
        → KeepsStore g
        → length s' ≡ length s
        → ((e d l : List ℕ) (μ : Floo.Machine) → Rep m s e d c l μ → f μ ≡ ok (g μ))
        → DoesHeap f m s s' c c' (Ok m')
    unfolding fitted ◌>>=◌
    moves_heap {g} G store long h =
        record {
          does = λ e d l μ R.
              let after = G.moves e d l μ R in
              (g μ, ap (λ q. q >>= room_for (lent s e d c l) μ) (h e d l μ R) ∙ rep_passes after μ s c long (store μ), after);
        }

    -- The stack would be too deep.
    pub over_heap : ((e d l : List ℕ) (μ : Floo.Machine) → Rep m s e d c l μ → (t : List Value) × (f μ ≡ ok (with_stack t μ)) × (length s / 2 < length t))
        → DoesHeap f m s s c c (Err StackOverflow)
    unfolding fitted ◌>>=◌ lent with_stack
    over_heap h =
        record {
          does = λ e d l μ R.
              let t = h e d l μ R in
              (ap (λ q. q >>= room_for (lent s e d c l) μ) t.1 ∙ room_stack (lent s e d c l) μ (with_stack t.0 μ) (dictionary_fits R) (exec_fits R) t.2, (refl, refl));
        }

-- An operator of another name that does the same.
pub named : {f g : Floo.Machine → Result Floo.Machine} {m : Machine} {s s' : List ℕ} {r : Did}
    → ((μ : Floo.Machine) → f μ ≡ g μ)
    → DoesStack g m s s' r
    → DoesStack f m s s' r
unfolding fitted
named {s} {s'} {r} is D =
    record {
      does = λ e d c l μ R. subst (λ q. Answer (λ m'. Rep m' s' e d c l) (s' ≡ s) r (fitted (lent s e d c l) (λ τ. q) μ)) (sym (is μ)) (D.does e d c l μ R);
    }

-- ---- one primitive after another

module _ {f g : Floo.Machine → Floo.Machine} {m m' m'' : Machine} {s s' s'' : List ℕ} where
  pub then_stack : MovesStack f m m' s s' → MovesStack g m' m'' s' s'' → MovesStack (λ μ. g (f μ)) m m'' s s''
  then_stack F G = record { moves = λ e d c l μ R. G.moves e d c l (f μ) (F.moves e d c l μ R) }

  pub then_heap : {c c' c'' : List ℕ} → MovesHeap f m m' s s' c c' → MovesHeap g m' m'' s' s'' c' c'' → MovesHeap (λ μ. g (f μ)) m m'' s s'' c c''
  then_heap F G = record { moves = λ e d l μ R. G.moves e d l (f μ) (F.moves e d l μ R) }

module _ {f : Floo.Machine → Floo.Machine} {m m' : Machine} {s s' : List ℕ} where
  -- The same under another name.
  pub same_stack : {g : Floo.Machine → Floo.Machine}
      → MovesStack f m m' s s'
      → ((μ : Floo.Machine) → length μ.stack ≡ m.depth → f μ ≡ g μ)
      → MovesStack g m m' s s'
  same_stack F h = record { moves = λ e d c l μ R. subst (Rep m' s' e d c l) (h μ (stack_depth R)) (F.moves e d c l μ R) }

  pub same_heap : {g : Floo.Machine → Floo.Machine} {c c' : List ℕ}
      → MovesHeap f m m' s s' c c'
      → ((μ : Floo.Machine) → length μ.stack ≡ m.depth → f μ ≡ g μ)
      → MovesHeap g m m' s s' c c'
  same_heap {c' = c'} F h = record { moves = λ e d l μ R. subst (Rep m' s' e d c' l) (h μ (stack_depth R)) (F.moves e d l μ R) }

  -- What touches the stack's words alone leaves the cells.
  pub stack_heap : {c : List ℕ} → MovesStack f m m' s s' → MovesHeap f m m' s s' c c
  stack_heap {c} F = record { moves = λ e d l μ R. F.moves e d c l μ R }

  pub elsewhere : {c c' : List ℕ} → MovesHeap f m m' s s' c c' → Somewhere m s c → Somewhere m' s' c'
  elsewhere F w = (w.0, w.1, w.2, f w.3, F.moves w.0 w.1 w.2 w.3 w.4)

-- ---- operands by their number

module _ (l : List Value) where
  pub first_item : 1 ≤ length l → (x : Value) × (s : List Value) × (l ≡ x ∷ s)
  first_item = by l
    where
      by : (l : List Value) → 1 ≤ length l → (x : Value) × (s : List Value) × (l ≡ x ∷ s)
      by [] h = absurd (omega arith)
      by (x ∷ s) h = (x, s, refl)

  pub two_items : 2 ≤ length l → (y : Value) × (x : Value) × (s : List Value) × (l ≡ y ∷ x ∷ s)
  two_items = by l
    where
      by : (l : List Value) → 2 ≤ length l → (y : Value) × (x : Value) × (s : List Value) × (l ≡ y ∷ x ∷ s)
      by [] h = absurd (omega arith)
      by (y ∷ []) h = absurd (omega arith)
      by (y ∷ x ∷ s) h = (y, x, s, refl)

-- ---- integer operands

-- The fetchers' bound on the depth.
pub one_low_lem : {r : OneInt} {a n : ℕ} → r ≡ Ok a → one_low r ≤ n → 1 ≤ n
one_low_lem {n = n} q h = subst (λ r. one_low r ≤ n) q h

pub two_low_lem : {r : TwoInts} {a b n : ℕ} → r ≡ Ok (a, b) → two_low r ≤ n → 2 ≤ n
two_low_lem {n = n} q h = subst (λ r. two_low r ≤ n) q h

-- Where the steps after it fail with an error, so do others that fail with it there.
faults : {A B C : Type 0} (r : Result A) {g : A → Result B} {h : A → Result C} {e : Error}
    → (r >>= g) ≡ fault e
    → ((a : A) → g a ≡ fault e → h a ≡ fault e)
    → (r >>= h) ≡ fault e
unfolding ◌>>=◌
faults (ok a) q s = s a q
faults (fault x) {e = e} q s =
    let same : x ≡ e = cc in
    ap fault same

no_fault : {A B : Type 0} {a : A} {e : Error} {r : Result B} → ok a ≡ fault e → r ≡ fault e
no_fault q =
    let y : ◌≡◌ {A = ℕ} 0 1 = cc in
    absurd (omega arith)

module _ (k : ℤ → Floo.Machine → Result Floo.Machine) (μ : Floo.Machine) where
  pub one_fault : {e : Error} → one_int μ ≡ fault e → on_one k μ ≡ fault e
  unfolding one_int
  one_fault q = faults (pop1 μ) q (λ p q. faults (int p.0) q (λ a q. no_fault q))

  pub one_value : {a : ℕ} {s : List Value} → μ.stack ≡ integer a ∷ s → on_one k μ ≡ k (signed a) (with_stack s μ)
  unfolding ◌>>=◌ int
  one_value q = ap (λ r. r >>= λ p. int p.0 >>= λ a. k a p.1) (pop1_some μ q)

module _ (k : ℤ → ℤ → Floo.Machine → Result Floo.Machine) (μ : Floo.Machine) where
  pub two_fault : {e : Error} → two_ints μ ≡ fault e → on_two k μ ≡ fault e
  unfolding two_ints
  two_fault q = faults (pop2 μ) q (λ p q. faults (int p.0) q (λ a q. faults (int p.1) q (λ b q. no_fault q)))

  pub two_values : {a b : ℕ} {s : List Value} → μ.stack ≡ integer b ∷ integer a ∷ s → on_two k μ ≡ k (signed a) (signed b) (with_stack s μ)
  unfolding ◌>>=◌ int
  two_values q = ap (λ r. r >>= λ p. int p.0 >>= λ a. int p.1 >>= λ b. k a b p.2) (pop2_some μ q)
