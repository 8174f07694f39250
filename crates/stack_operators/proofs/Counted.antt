-- index, copy and roll on their operands: a negative count, too few items for it, and what the primitives do else.
-- Assumes nothing.
use mathlib.Core.Path.{◌≡◌, refl, sym, ap, ◌∙◌}
use mathlib.Core.List.{List, [], ◌∷◌, ◌++◌, append-nil}
use Prim.Native.Nat.{ℕ, suc, ◌+◌, ◌-◌, ◌%◌, ◌^◌, ◌≤◌, ◌<◌}
use native.Mathlib.Omega.{arith}
use native.Mathlib.Numerals.{add-one}
use lib.ListN.{length, get_or, take, drop, set, take-append-drop}
use lib.Seq.{take-nil, drop-nil}
use lib.Dec.{leb}
use borrow.Author.Tests.{le-leb, lt-leb}
use Rattle.semantics.specs.Text.{bytes}
use Rattle.semantics.specs.Words.{signed}
use Rattle.semantics.specs.Values.{Value, integer, null, ok, fault, ◌>>=◌, check, given, count}
use Rattle.semantics.specs.Machine.{Machine, with_stack, push}
use Rattle.semantics.specs.Operators.{perform}
use Rattle.semantics.specs.StackOperators.{modulo}
use Rattle.semantics.specs.declared.Error.TheVariants.{StackUnderflow, RangeCheck}
use Rattle.semantics.specs.ListLaws.{no_element, an_element}
use Rattle.word.proofs.Words.{signed_low, signed_high}
use Rattle.machine.specs.Moves.{dropped, copied_over}
use Rattle.machine.proofs.Outcomes.{KeepsStore, one_value, two_values}
use Rattle.stack_operators.specs.Rearranged.{doubled, roll_at, rolled}
use Rattle.stack_operators.proofs.Named.{picking, copying, rolling, index_is, copy_is, roll_is}

-- ---- index

module _ (μ : Machine) {w : ℕ} {s : List Value} (top : μ.stack ≡ integer w ∷ s) where
  pub index_negative : 2 ^ 31 ≤ w → w < 2 ^ 32 → perform (bytes "index") μ ≡ fault RangeCheck
  unfolding ◌>>=◌ count
  index_negative l h = index_is μ ∙ one_value picking μ top ∙ ap (λ z. picking z (with_stack s μ)) (signed_high w l h)

  pub index_under : w < 2 ^ 31 → length s ≤ w → perform (bytes "index") μ ≡ fault StackUnderflow
  unfolding ◌>>=◌ count given with_stack
  index_under l h =
      index_is μ
      ∙ one_value picking μ top
      ∙ ap (λ z. picking z (with_stack s μ)) (signed_low w l)
      ∙ ap (λ o. given o StackUnderflow >>= λ v. ok (push v (with_stack s μ))) (no_element s w h)

  pub index_done : w < 2 ^ 31 → w < length s → perform (bytes "index") μ ≡ ok (copied_over 0 (w + 1) μ)
  unfolding ◌>>=◌ count given push with_stack copied_over
  index_done l h =
      index_is μ
      ∙ one_value picking μ top
      ∙ ap (λ z. picking z (with_stack s μ)) (signed_low w l)
      ∙ ap (λ o. given o StackUnderflow >>= λ v. ok (push v (with_stack s μ))) (an_element s w null h)
      ∙ sym (ap (λ (t : List Value). ok (with_stack (set t 0 (get_or t (w + 1) null)) μ)) top
      ∙ ap (λ n. ok (with_stack (set (integer w ∷ s) 0 (get_or (integer w ∷ s) n null)) μ)) (add-one w))

-- ---- copy

pub doubled_store : (n : ℕ) → KeepsStore (λ μ. doubled n (dropped μ))
unfolding doubled dropped with_stack
doubled_store n μ = refl

module _ (μ : Machine) {w : ℕ} {s : List Value} (top : μ.stack ≡ integer w ∷ s) where
  pub copy_negative : 2 ^ 31 ≤ w → w < 2 ^ 32 → perform (bytes "copy") μ ≡ fault RangeCheck
  unfolding ◌>>=◌ count
  copy_negative l h = copy_is μ ∙ one_value copying μ top ∙ ap (λ z. copying z (with_stack s μ)) (signed_high w l h)

  module _ (l : w < 2 ^ 31) where
    counted : perform (bytes "copy") μ ≡ (check (leb w (length s)) StackUnderflow >>= λ u. ok (with_stack (take w s ++ s) μ))
    unfolding ◌>>=◌ count with_stack
    counted = copy_is μ ∙ one_value copying μ top ∙ ap (λ z. copying z (with_stack s μ)) (signed_low w l)

    pub copy_under : length s < w → perform (bytes "copy") μ ≡ fault StackUnderflow
    unfolding ◌>>=◌ check
    copy_under h = counted ∙ ap (λ b. check b StackUnderflow >>= λ u. ok (with_stack (take w s ++ s) μ)) (lt-leb w (length s) h)

    pub copy_gives : w ≤ length s → perform (bytes "copy") μ ≡ ok (with_stack (take w s ++ s) μ)
    unfolding ◌>>=◌ check
    copy_gives h = counted ∙ ap (λ b. check b StackUnderflow >>= λ u. ok (with_stack (take w s ++ s) μ)) (le-leb w (length s) h)

    pub copy_done : w ≤ length s → perform (bytes "copy") μ ≡ ok (doubled w (dropped μ))
    unfolding doubled dropped with_stack
    copy_done h = copy_gives h ∙ sym (ap (λ (t : List Value). ok (with_stack (take w (drop 1 t) ++ drop 1 t) μ)) top)

-- ---- roll

pub two_dropped_store : KeepsStore (λ μ. dropped (dropped μ))
unfolding dropped with_stack
two_dropped_store μ = refl

pub rolled_store : (n k : ℕ) → KeepsStore (λ μ. rolled n k (dropped (dropped μ)))
unfolding rolled dropped with_stack
rolled_store n k μ = refl

-- No items, or a shift by none.
rolled_none : (k : ℕ) (τ : Machine) → rolled 0 k τ ≡ τ
unfolding rolled roll_at with_stack
rolled_none k τ = ap (λ (t : List Value). with_stack (t ++ τ.stack) τ) (ap (λ (t : List Value). t ++ take k []) (drop-nil k) ∙ take-nil k)

rolled_back : (n : ℕ) (τ : Machine) → rolled n 0 τ ≡ τ
unfolding rolled roll_at with_stack
rolled_back n τ =
    ap (λ (t : List Value). with_stack (t ++ drop n τ.stack) τ) (append-nil (take n τ.stack))
    ∙ ap (λ (t : List Value). with_stack t τ) (take-append-drop n τ.stack)

module _ (μ : Machine) {w b : ℕ} {s : List Value} (top : μ.stack ≡ integer b ∷ integer w ∷ s) where
  pub roll_negative : 2 ^ 31 ≤ w → w < 2 ^ 32 → perform (bytes "roll") μ ≡ fault RangeCheck
  unfolding ◌>>=◌ count
  roll_negative l h = roll_is μ ∙ two_values rolling μ top ∙ ap (λ z. rolling z (signed b) (with_stack s μ)) (signed_high w l h)

  module _ (l : w < 2 ^ 31) where
    turned : perform (bytes "roll") μ ≡ (check (leb w (length s)) StackUnderflow >>= λ u. ok (with_stack (roll_at w (modulo (signed b) w) s) μ))
    unfolding ◌>>=◌ count with_stack roll_at
    turned = roll_is μ ∙ two_values rolling μ top ∙ ap (λ z. rolling z (signed b) (with_stack s μ)) (signed_low w l)

    pub roll_under : length s < w → perform (bytes "roll") μ ≡ fault StackUnderflow
    unfolding ◌>>=◌ check
    roll_under h = turned ∙ ap (λ x. check x StackUnderflow >>= λ u. ok (with_stack (roll_at w (modulo (signed b) w) s) μ)) (lt-leb w (length s) h)

    pub roll_done : w ≤ length s → {k : ℕ} → k ≡ modulo (signed b) w → perform (bytes "roll") μ ≡ ok (rolled w k (dropped (dropped μ)))
    unfolding ◌>>=◌ check rolled dropped with_stack
    roll_done h {k} e =
        turned
        ∙ ap (λ x. check x StackUnderflow >>= λ u. ok (with_stack (roll_at w (modulo (signed b) w) s) μ)) (le-leb w (length s) h)
        ∙ ap (λ n. ok (with_stack (roll_at w n s) μ)) (sym e)
        ∙ sym (ap (λ (t : List Value). ok (with_stack (roll_at w k (drop 1 (drop 1 t))) μ)) top)

    pub roll_none : w ≤ length s → w ≡ 0 → perform (bytes "roll") μ ≡ ok (dropped (dropped μ))
    roll_none h z =
        roll_done h refl
        ∙ ap (λ n. ok (rolled n (modulo (signed b) w) (dropped (dropped μ)))) z
        ∙ ap ok (rolled_none (modulo (signed b) w) (dropped (dropped μ)))

    pub roll_back : w ≤ length s → {k : ℕ} → k ≡ modulo (signed b) w → k ≡ 0 → perform (bytes "roll") μ ≡ ok (dropped (dropped μ))
    roll_back h e z = roll_done h e ∙ ap (λ n. ok (rolled w n (dropped (dropped μ)))) z ∙ ap ok (rolled_back w (dropped (dropped μ)))

-- ---- the shift

pub modulo_low : (b n : ℕ) → b < 2 ^ 31 → b % n ≡ modulo (signed b) n
unfolding modulo
modulo_low b n l = sym (ap (λ z. modulo z n) (signed_low b l))

pub modulo_high : (b n : ℕ) → 2 ^ 31 ≤ b → b < 2 ^ 32 → n - 1 - (2 ^ 32 - 1 - b) % n ≡ modulo (signed b) n
unfolding modulo
modulo_high b n l h =
    let e : 2 ^ 32 - 1 - b ≡ 2 ^ 32 - suc b = omega arith in
    ap (λ k. n - 1 - k % n) e ∙ sym (ap (λ z. modulo z n) (signed_high b l h))
