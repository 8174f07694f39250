-- dup, exch and pop by the number of items: they fail where one is missing, and else do what one primitive does.
-- Assumes nothing.
use mathlib.Core.Path.{◌≡◌, sym, ap, ◌∙◌}
use mathlib.Core.List.{List, ◌∷◌}
use Prim.Native.Nat.{◌≤◌, ◌<◌}
use lib.ListN.{length, get_or, drop, set}
use Rattle.semantics.specs.Text.{bytes}
use Rattle.semantics.specs.Values.{Value, null, ok, fault, ◌>>=◌}
use Rattle.semantics.specs.Machine.{Machine, with_stack, push}
use Rattle.semantics.specs.Operators.{perform}
use Rattle.semantics.specs.declared.Error.TheVariants.{StackUnderflow}
use Rattle.machine.specs.Moves.{dropped, copied, swapped}
use Rattle.machine.proofs.Operands.{pop1_some, pop2_some, pop1_under, pop2_under}
use Rattle.machine.proofs.Outcomes.{first_item, two_items}
use Rattle.stack_operators.proofs.Named.{dup_is, exch_is, pop_is}

module _ (μ : Machine) where
  -- ---- dup

  pub dup_under : length μ.stack < 1 → perform (bytes "dup") μ ≡ fault StackUnderflow
  unfolding ◌>>=◌
  dup_under h = dup_is μ ∙ ap (λ r. r >>= λ p. ok (push p.0 (push p.0 p.1))) (pop1_under μ h)

  pub dup_done : 1 ≤ length μ.stack → perform (bytes "dup") μ ≡ ok (copied 0 μ)
  unfolding ◌>>=◌ push with_stack copied
  dup_done h =
      let f = first_item μ.stack h in
      dup_is μ
      ∙ ap (λ r. r >>= λ p. ok (push p.0 (push p.0 p.1))) (pop1_some μ f.2)
      ∙ sym (ap (λ (l : List Value). ok (with_stack (get_or l 0 null ∷ l) μ)) f.2)

  -- ---- exch

  pub exch_under : length μ.stack < 2 → perform (bytes "exch") μ ≡ fault StackUnderflow
  unfolding ◌>>=◌
  exch_under h = exch_is μ ∙ ap (λ r. r >>= λ p. ok (push p.0 (push p.1 p.2))) (pop2_under μ h)

  pub exch_done : 2 ≤ length μ.stack → perform (bytes "exch") μ ≡ ok (swapped 0 1 μ)
  unfolding ◌>>=◌ push with_stack swapped
  exch_done h =
      let f = two_items μ.stack h in
      exch_is μ
      ∙ ap (λ r. r >>= λ p. ok (push p.0 (push p.1 p.2))) (pop2_some μ f.3)
      ∙ sym (ap (λ (l : List Value). ok (with_stack (set (set l 0 (get_or l 1 null)) 1 (get_or l 0 null)) μ)) f.3)

  -- ---- pop

  pub pop_under : length μ.stack < 1 → perform (bytes "pop") μ ≡ fault StackUnderflow
  unfolding ◌>>=◌
  pop_under h = pop_is μ ∙ ap (λ r. r >>= λ p. ok p.1) (pop1_under μ h)

  pub pop_done : 1 ≤ length μ.stack → perform (bytes "pop") μ ≡ ok (dropped μ)
  unfolding ◌>>=◌ dropped
  pop_done h =
      let f = first_item μ.stack h in
      pop_is μ ∙ ap (λ r. r >>= λ p. ok p.1) (pop1_some μ f.2) ∙ sym (ap (λ (l : List Value). ok (with_stack (drop 1 l) μ)) f.2)
