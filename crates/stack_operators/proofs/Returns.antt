-- What each return of the six operators shows, by the sizes that the code has compared and by what its primitives did.
-- Assumes nothing.
use Rattle.std.specs.Prelude.{Ok, Err}
use mathlib.Core.Path.{◌≡◌, refl, ap, ◌∙◌, subst}
use mathlib.Core.List.{List, ◌∷◌, ◌++◌}
use Prim.Native.Nat.{ℕ, ◌+◌, ◌-◌, ◌*◌, ◌/◌, ◌^◌, ◌≤◌, ◌<◌}
use native.Mathlib.Omega.{arith}
use lib.ListN.{length, take, get_or, length-append}
use lib.Seq.{length-take-le}
use Rattle.semantics.specs.Text.{bytes}
use Rattle.semantics.specs.Words.{signed}
use Rattle.semantics.specs.Values.{Value, integer, null}
use Rattle.semantics.specs.Machine as Floo
use Rattle.semantics.specs.Operators.{perform}
use Rattle.semantics.specs.StackOperators.{modulo}
use Rattle.semantics.specs.declared.Error.{Error}
use Rattle.semantics.specs.declared.Error.TheVariants.{StackUnderflow, StackOverflow, RangeCheck}
use Rattle.machine.specs.Rep.{Rep, MovesStack, MovesHeap}
use Rattle.machine.specs.Moves.{dropped, copied, copied_over, swapped}
use Rattle.machine.specs.Room.{DoesStack, DoesHeap}
use Rattle.machine.specs.Operands.{OneIs, TwoIs, FetchesOne, FetchesTwo}
use Rattle.machine.specs.declared.Machine.{Machine}
use Rattle.machine.specs.Answers.{OneInt}
use Rattle.machine.specs.Answers.{TwoInts}
use Rattle.machine.proofs.Outcomes.{stack_depth, dropped_store, copied_store, copied_over_store, swapped_store, fails_stack, moves_stack, fails_heap, moves_heap, over_heap, then_heap, stack_heap, one_fault, two_fault}
use Rattle.stack_operators.specs.Rearranged.{doubled, rolled}
use Rattle.stack_operators.proofs.Named.{picking, copying, rolling, index_is, copy_is, roll_is}
use Rattle.stack_operators.proofs.Tops.{dup_under, dup_done, exch_under, exch_done, pop_under, pop_done}
use Rattle.stack_operators.proofs.Counted.{index_negative, index_under, index_done, doubled_store, copy_negative, copy_under, copy_gives, copy_done, two_dropped_store, rolled_store, roll_negative, roll_under, roll_done, roll_none, roll_back}

-- ---- dup, exch, pop

module _ {m : Machine} {s : List ℕ} where
  pub exch_short : m.depth < 2 → DoesStack (perform (bytes "exch")) m s s (Err StackUnderflow)
  exch_short h = fails_stack (λ e d c l μ R. exch_under μ (omega (arith, stack_depth R)))

  pub exch_good : {m' : Machine} {s' : List ℕ} → 2 ≤ m.depth → MovesStack (swapped 0 1) m m' s s' → length s' ≡ length s → DoesStack (perform (bytes "exch")) m s s' (Ok m')
  exch_good h S long = moves_stack S (swapped_store 0 1) long (λ e d c l μ R. exch_done μ (omega (arith, stack_depth R)))

  module _ {c : List ℕ} where
    pub dup_short : m.depth < 1 → DoesHeap (perform (bytes "dup")) m s s c c (Err StackUnderflow)
    dup_short h = fails_heap (λ e d l μ R. dup_under μ (omega (arith, stack_depth R)))

    pub dup_over : 1 ≤ m.depth → length s < 2 * m.depth + 2 → DoesHeap (perform (bytes "dup")) m s s c c (Err StackOverflow)
    unfolding copied
    dup_over h o =
        over_heap (λ e d l μ R. (get_or μ.stack 0 null ∷ μ.stack, dup_done μ (omega (arith, stack_depth R)), omega (arith, stack_depth R)))

    pub dup_good : {m' : Machine} {s' c' : List ℕ} → 1 ≤ m.depth → MovesHeap (copied 0) m m' s s' c c' → length s' ≡ length s → DoesHeap (perform (bytes "dup")) m s s' c c' (Ok m')
    dup_good h P long = moves_heap P (copied_store 0) long (λ e d l μ R. dup_done μ (omega (arith, stack_depth R)))

    pub pop_short : m.depth < 1 → DoesHeap (perform (bytes "pop")) m s s c c (Err StackUnderflow)
    pop_short h = fails_heap (λ e d l μ R. pop_under μ (omega (arith, stack_depth R)))

    pub pop_good : {m' : Machine} {c' : List ℕ} → 1 ≤ m.depth → MovesHeap dropped m m' s s c c' → DoesHeap (perform (bytes "pop")) m s s c c' (Ok m')
    pop_good h D = moves_heap D dropped_store refl (λ e d l μ R. pop_done μ (omega (arith, stack_depth R)))

-- ---- index and copy

module _ {m : Machine} {s : List ℕ} {r : OneInt} (F : FetchesOne m s r) {c : List ℕ} where
  module _ {x : Error} (q : r ≡ Err x) where
    pub index_bad : DoesHeap (perform (bytes "index")) m s s c c (Err x)
    index_bad = fails_heap (λ e d l μ R. index_is μ ∙ one_fault picking μ (subst (OneIs μ) q (F.says e d c l μ R)))

    pub copy_bad : DoesHeap (perform (bytes "copy")) m s s c c (Err x)
    copy_bad = fails_heap (λ e d l μ R. copy_is μ ∙ one_fault copying μ (subst (OneIs μ) q (F.says e d c l μ R)))

  module _ {w : ℕ} (q : r ≡ Ok w) where
    operand : (e d l : List ℕ) (μ : Floo.Machine) → Rep m s e d c l μ → (rest : List Value) × (μ.stack ≡ integer w ∷ rest) × (length rest + 1 ≡ m.depth)
    operand e d l μ R =
        let t = subst (OneIs μ) q (F.says e d c l μ R) in
        (t.0, t.1, omega (arith, stack_depth R, ap length t.1))

    pub index_range : 2 ^ 31 ≤ w → w < 2 ^ 32 → DoesHeap (perform (bytes "index")) m s s c c (Err RangeCheck)
    index_range low high = fails_heap (λ e d l μ R. index_negative μ (operand e d l μ R).1 low high)

    pub copy_range : 2 ^ 31 ≤ w → w < 2 ^ 32 → DoesHeap (perform (bytes "copy")) m s s c c (Err RangeCheck)
    copy_range low high = fails_heap (λ e d l μ R. copy_negative μ (operand e d l μ R).1 low high)

    module _ (low : w < 2 ^ 31) where
      pub index_short : m.depth - 1 ≤ w → DoesHeap (perform (bytes "index")) m s s c c (Err StackUnderflow)
      index_short h = fails_heap (λ e d l μ R. let o = operand e d l μ R in index_under μ o.1 low (omega (arith, o.2)))

      pub index_good : {m' : Machine} {s' c' : List ℕ}
          → w < m.depth - 1
          → MovesHeap (copied_over 0 (w + 1)) m m' s s' c c'
          → length s' ≡ length s
          → DoesHeap (perform (bytes "index")) m s s' c c' (Ok m')
      index_good h P long =
          moves_heap P (copied_over_store 0 (w + 1)) long (λ e d l μ R. let o = operand e d l μ R in index_done μ o.1 low (omega (arith, o.2)))

      pub copy_short : m.depth - 1 < w → DoesHeap (perform (bytes "copy")) m s s c c (Err StackUnderflow)
      copy_short h = fails_heap (λ e d l μ R. let o = operand e d l μ R in copy_under μ o.1 low (omega (arith, o.2)))

      module _ (h : w ≤ m.depth - 1) where
        pub copy_over : length s / 2 < m.depth - 1 + w → DoesHeap (perform (bytes "copy")) m s s c c (Err StackOverflow)
        copy_over deep =
            over_heap (λ e d l μ R.
            let o = operand e d l μ R in
            let few : w ≤ length o.0 = omega (arith, o.2) in
            let long : length (take w o.0 ++ o.0) ≡ w + length o.0 = length-append (take w o.0) o.0 ∙ ap (λ n. n + length o.0) (length-take-le w o.0 few) in
            (take w o.0 ++ o.0, copy_gives μ o.1 low few, omega (arith, o.2)))

        pub copy_good : {m₁ m₂ : Machine} {s' c₁ c₂ : List ℕ}
            → MovesHeap dropped m m₁ s s c c₁
            → MovesHeap (doubled w) m₁ m₂ s s' c₁ c₂
            → length s' ≡ length s
            → DoesHeap (perform (bytes "copy")) m s s' c c₂ (Ok m₂)
        copy_good D P long =
            moves_heap (then_heap D P) (doubled_store w) long (λ e d l μ R. let o = operand e d l μ R in copy_done μ o.1 low (omega (arith, o.2)))

-- ---- roll

module _ {m : Machine} {s : List ℕ} {r : TwoInts} (F : FetchesTwo m s r) {c : List ℕ} where
  pub roll_bad : {x : Error} → r ≡ Err x → DoesHeap (perform (bytes "roll")) m s s c c (Err x)
  roll_bad q = fails_heap (λ e d l μ R. roll_is μ ∙ two_fault rolling μ (subst (TwoIs μ) q (F.says e d c l μ R)))

  module _ {w b : ℕ} (q : r ≡ Ok (w, b)) where
    operands : (e d l : List ℕ) (μ : Floo.Machine) → Rep m s e d c l μ → (rest : List Value) × (μ.stack ≡ integer b ∷ integer w ∷ rest) × (length rest + 2 ≡ m.depth)
    operands e d l μ R =
        let t = subst (TwoIs μ) q (F.says e d c l μ R) in
        (t.0, t.1, omega (arith, stack_depth R, ap length t.1))

    pub roll_range : 2 ^ 31 ≤ w → w < 2 ^ 32 → DoesHeap (perform (bytes "roll")) m s s c c (Err RangeCheck)
    roll_range low high = fails_heap (λ e d l μ R. roll_negative μ (operands e d l μ R).1 low high)

    module _ (low : w < 2 ^ 31) where
      pub roll_short : m.depth - 2 < w → DoesHeap (perform (bytes "roll")) m s s c c (Err StackUnderflow)
      roll_short h = fails_heap (λ e d l μ R. let o = operands e d l μ R in roll_under μ o.1 low (omega (arith, o.2)))

      module _ (h : w ≤ m.depth - 2) {m₁ m₂ : Machine} {c₁ c₂ : List ℕ} (A : MovesHeap dropped m m₁ s s c c₁) (B : MovesHeap dropped m₁ m₂ s s c₁ c₂) where
        -- No items, and a shift that comes to none.
        pub roll_no_items : w ≡ 0 → DoesHeap (perform (bytes "roll")) m s s c c₂ (Ok m₂)
        roll_no_items z =
            moves_heap (then_heap A B) two_dropped_store refl (λ e d l μ R. let o = operands e d l μ R in roll_none μ o.1 low (omega (arith, o.2)) z)

        module _ {k : ℕ} (is : k ≡ modulo (signed b) w) where
          pub roll_no_shift : k ≡ 0 → DoesHeap (perform (bytes "roll")) m s s c c₂ (Ok m₂)
          roll_no_shift z =
              moves_heap (then_heap A B) two_dropped_store refl (λ e d l μ R. let o = operands e d l μ R in roll_back μ o.1 low (omega (arith, o.2)) is z)

          pub roll_good : {m₃ : Machine} {s' : List ℕ}
              → k < w
              → MovesStack (rolled (k + (w - k)) k) m₂ m₃ s s'
              → length s' ≡ length s
              → DoesHeap (perform (bytes "roll")) m s s' c c₂ (Ok m₃)
          roll_good {m₃} {s'} less P long =
              let all : k + (w - k) ≡ w = omega arith in
              let whole = subst (λ n. MovesStack (rolled n k) m₂ m₃ s s') all P in
              moves_heap (then_heap (then_heap A B) (stack_heap whole)) (rolled_store w k) long
              (λ e d l μ R. let o = operands e d l μ R in roll_done μ o.1 low (omega (arith, o.2)) is)
