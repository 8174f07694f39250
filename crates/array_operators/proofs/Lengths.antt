-- array and string: the length that they are given by its size, and the object that they make by its cells.
-- Assumes nothing.
use Rattle.std.specs.Prelude.{Ok, Err}
use mathlib.Core.Path.{◌≡◌, refl, sym, ap, ◌∙◌, subst}
use mathlib.Core.List.{List, [], ◌∷◌}
use Prim.Native.Nat.{ℕ, ◌+◌, ◌/◌, ◌^◌, ◌≤◌, ◌<◌}
use native.Mathlib.Omega.{arith}
use borrow.Author.Tests.{le-leb, lt-leb}
use lib.ListN.{length, set, replicate, length-replicate}
use lib.Dec.{leb}
use lib.IntN.{ℤ}
use Rattle.semantics.specs.Values.{Value, integer, null, Object, elements, text, Result, ok, fault, ◌>>=◌, check, int, count, cells}
use Rattle.semantics.specs.Machine as Floo
use Rattle.semantics.specs.Machine.{with_stack, with_store, push, pop1, make, made}
use Rattle.semantics.specs.Held.{sum_of}
use Rattle.semantics.specs.ObjectOperators.{new_length, push_new}
use Rattle.semantics.specs.declared.Error.{Error}
use Rattle.semantics.specs.declared.Error.TheVariants.{RangeCheck, LimitCheck, VmError}
use Rattle.word.proofs.Counts.{count_low, count_high}
use Rattle.machine.specs.Rep.{Rep, Somewhere, MovesHeap}
use Rattle.machine.specs.Room.{DoesHeap}
use Rattle.machine.specs.Operands.{OneIs, FetchesOne, one_int}
use Rattle.machine.specs.declared.Machine.{Machine}
use Rattle.machine.specs.Answers.{OneInt}
use Rattle.machine.proofs.Operands.{pop1_some}
use Rattle.machine.proofs.Outcomes.{stack_depth, fails_heap, one_fault}
use Rattle.elements.specs.Elements.{free_cells, HasPlain, SomewhereThat}
use Rattle.elements.proofs.Vacancy.{makes_heap, full_heap, push_makes}
use Rattle.array_operators.specs.Items.{on_length, LengthIs, FetchesLength, longest}

-- ---- the length

abbrev counted : ℤ → Result ℕ
counted z = count z >>= λ n. check (leb n 32767) LimitCheck >>= λ u. ok n

length_negative : (w : ℕ) → 2 ^ 31 ≤ w → w < 2 ^ 32 → new_length (integer w) ≡ fault RangeCheck
unfolding new_length int ◌>>=◌
length_negative w l h = ap (λ r. r >>= λ n. check (leb n 32767) LimitCheck >>= λ u. ok n) (count_high w l h)

module _ (w : ℕ) (low : w < 2 ^ 31) where
  length_checked : new_length (integer w) ≡ (check (leb w 32767) LimitCheck >>= λ u. ok w)
  unfolding new_length int ◌>>=◌
  length_checked = ap (λ r. r >>= λ n. check (leb n 32767) LimitCheck >>= λ u. ok n) (count_low w low)

  length_over : 32767 < w → new_length (integer w) ≡ fault LimitCheck
  unfolding check ◌>>=◌
  length_over h = length_checked ∙ ap (λ b. check b LimitCheck >>= λ u. ok w) (lt-leb _ _ h)

pub length_taken : (w : ℕ) → w ≤ 32767 → new_length (integer w) ≡ ok w
unfolding check ◌>>=◌
length_taken w h = length_checked w (omega arith) ∙ ap (λ b. check b LimitCheck >>= λ u. ok w) (le-leb _ _ h)

module _ (k : ℕ → Floo.Machine → Result Floo.Machine) (μ : Floo.Machine) where
  bind_bind : {A : Type 0} (r : Result A) (g : A → Result ℕ) (f : ℕ → Result Floo.Machine) → (r >>= g >>= f) ≡ (r >>= λ a. g a >>= f)
  unfolding ◌>>=◌
  bind_bind (ok a) g f = refl
  bind_bind (fault e) g f = refl

  on_length_is : on_length k μ ≡ (pop1 μ >>= λ p. int p.0 >>= λ z. counted z >>= λ n. k n p.1)
  unfolding on_length new_length ◌>>=◌
  on_length_is = same (pop1 μ)
    where
      same : (r : Result (Value × Floo.Machine))
          → (r >>= λ p. (int p.0 >>= λ z. counted z) >>= λ n. k n p.1) ≡ (r >>= λ p. int p.0 >>= λ z. counted z >>= λ n. k n p.1)
      same (ok p) = bind_bind (int p.0) (λ z. counted z) (λ n. k n p.1)
      same (fault e) = refl

  length_fault : {e : Error} → one_int μ ≡ fault e → on_length k μ ≡ fault e
  length_fault q = on_length_is ∙ one_fault (λ z τ. counted z >>= λ n. k n τ) μ q

  module _ {w : ℕ} {rest : List Value} (top : μ.stack ≡ integer w ∷ rest) where
    on_length_lem : on_length k μ ≡ (new_length (integer w) >>= λ n. k n (with_stack rest μ))
    unfolding on_length ◌>>=◌
    on_length_lem = ap (λ r. r >>= λ p. new_length p.0 >>= λ n. k n p.1) (pop1_some μ top)

    length_bad : {e : Error} → new_length (integer w) ≡ fault e → on_length k μ ≡ fault e
    unfolding ◌>>=◌
    length_bad q = on_length_lem ∙ ap (λ r. r >>= λ n. k n (with_stack rest μ)) q

    length_good : w ≤ 32767 → on_length k μ ≡ k w (with_stack rest μ)
    unfolding ◌>>=◌
    length_good h = on_length_lem ∙ ap (λ r. r >>= λ n. k n (with_stack rest μ)) (length_taken w h)

-- ---- what the fetcher answers

module _ {m : Machine} {s : List ℕ} {r : OneInt} (F : FetchesOne m s r) where
  pub length_no_integer : {x : Error} → r ≡ Err x → FetchesLength m s (Err x)
  length_no_integer q = record { says = λ e d c l μ R k. length_fault k μ (subst (OneIs μ) q (F.says e d c l μ R)) }

  module _ {w : ℕ} (q : r ≡ Ok w) where
    pub length_below : 2 ^ 31 ≤ w → w < 2 ^ 32 → FetchesLength m s (Err RangeCheck)
    length_below low high = record { says = λ e d c l μ R k. length_bad k μ (subst (OneIs μ) q (F.says e d c l μ R)).1 (length_negative w low high) }

    pub length_above : w < 2 ^ 31 → 32767 < w → FetchesLength m s (Err LimitCheck)
    length_above low h = record { says = λ e d c l μ R k. length_bad k μ (subst (OneIs μ) q (F.says e d c l μ R)).1 (length_over w low h) }

    pub length_got : FetchesLength m s (Ok w)
    length_got = record { says = λ e d c l μ R. subst (OneIs μ) q (F.says e d c l μ R) }

-- ---- the operators

-- An operator that makes object o n, named by the value v.
module _ (f : Floo.Machine → Result Floo.Machine) (v : ℕ → Value) (o : ℕ → Object) (named : (μ : Floo.Machine) → f μ ≡ on_length (λ n τ. ok (push_new v (o n) τ)) μ)
    {m : Machine} {s c : List ℕ} {r : OneInt} (F : FetchesLength m s r) where
  pub maker_bad : {x : Error} → r ≡ Err x → DoesHeap f m s s c c (Err x)
  maker_bad q = fails_heap (λ e d l μ R. named μ ∙ subst (LengthIs μ) q (F.says e d c l μ R) (λ n τ. ok (push_new v (o n) τ)))

  module _ {n : ℕ} (q : r ≡ Ok n) (few : n ≤ 32767) where
    operand : (e d l : List ℕ) (μ : Floo.Machine) → Rep m s e d c l μ → (rest : List Value) × (μ.stack ≡ integer n ∷ rest)
    operand e d l μ R = subst (LengthIs μ) q (F.says e d c l μ R)

    gives : (e d l : List ℕ) (μ : Floo.Machine) (R : Rep m s e d c l μ) → f μ ≡ ok (push_new v (o n) (with_stack (operand e d l μ R).0 μ))
    gives e d l μ R = named μ ∙ length_good (λ n τ. ok (push_new v (o n) τ)) μ (operand e d l μ R).1 few

    pub maker_full : free_cells m c < cells (o n) → DoesHeap f m s s c c (Err VmError)
    unfolding sum_of push_new push with_stack with_store make
    maker_full many =
        full_heap (λ e d l μ R.
        let t = operand e d l μ R in
        let deep : length t.0 + 1 ≤ length s / 2 = omega (arith, stack_depth R, ap length t.1, R.rooms.stack_fits) in
        (push_new v (o n) (with_stack t.0 μ), o n ∷ [], gives e d l μ R, push_makes v (o n) t.0 μ, short t.0 μ deep, omega (arith, many)))
      where
        short : (rest : List Value) (μ : Floo.Machine) → length rest + 1 ≤ length s / 2 → length (push_new v (o n) (with_stack rest μ)).stack ≤ length s / 2
        short rest μ h = omega arith

    pub maker_good : {g : Floo.Machine → Floo.Machine} {m' : Machine} {s' c' : List ℕ}
        → ((μ : Floo.Machine) → g μ ≡ with_stack (set μ.stack 0 (v (made μ))) (make (o n) μ))
        → MovesHeap g m m' s s' c c'
        → length s' ≡ length s
        → cells (o n) ≤ free_cells m c
        → DoesHeap f m s s' c c' (Ok m')
    unfolding sum_of push_new push with_stack with_store make made
    maker_good g-is G long room =
        makes_heap G long (λ e d l μ R.
        let t = operand e d l μ R in (
          o n ∷ [],
          gives e d l μ R ∙ sym (ap ok (g-is μ) ∙ ap (λ (z : List Value). ok (with_stack (set z 0 (v (made μ))) (make (o n) μ))) t.1),
          ap (λ (τ : Floo.Machine). τ.store) (g-is μ),
          omega (arith, room),
        ))

    -- The operand names no object.
    pub plain_operand : Somewhere m s c → SomewhereThat (HasPlain 0) m s c
    unfolding with_stack
    plain_operand (e, d, l, μ, R) = (e, d, l, μ, R, subst (λ (z : List Value). HasPlain 0 (with_stack z μ)) (sym (operand e d l μ R).1) (record { none = λ t. t }))

-- ---- their cells

pub array_size : (n : ℕ) → cells (elements (replicate n null)) ≡ n + 1
unfolding cells
array_size n = ap (λ k. k + 1) (length-replicate n null)

pub string_size : (n : ℕ) → cells (text (replicate n 0)) ≡ (n + 7) / 8 + 1
unfolding cells
string_size n =
    let long = ap (λ k. (k + 7) / 8) (length-replicate {A = ℕ} n 0) in
    omega (arith, long)

pub got_few : {r : OneInt} {n : ℕ} → r ≡ Ok n → longest r ≤ 32767 → n ≤ 32767
got_few q h = subst (λ r. longest r ≤ 32767) q h
