-- mark, cvx and cvlit by the primitives that push a value without heap and change a tag.
-- Assumes nothing.
use Rattle.std.specs.Prelude.{Ok, Err}
use mathlib.Core.Path.{◌≡◌, refl, sym, ap, ◌∙◌}
use mathlib.Core.Bool.{Bool, true, false}
use mathlib.Core.List.{List, ◌∷◌}
use Prim.Native.Nat.{ℕ, suc, ◌-◌, ◌+◌, ◌*◌, ◌/◌, ◌≤◌, ◌<◌}
use native.Mathlib.Omega.{arith}
use lib.ListN.{length, get_or, set, length-set}
use Rattle.semantics.specs.Text.{bytes, textual}
use Rattle.semantics.specs.Values.{Value, mark, null, ok, ◌>>=◌}
use Rattle.semantics.specs.Machine as Floo
use Rattle.semantics.specs.Machine.{with_stack, push}
use Rattle.semantics.specs.Steps.{room_for}
use Rattle.semantics.specs.Operators.{perform, find, table, ◌is◌}
use Rattle.semantics.specs.ObjectOperators.{mark'}
use Rattle.semantics.specs.TextOperators.{as_executable, convert}
use Rattle.semantics.specs.declared.Error.TheVariants.{StackUnderflow, StackOverflow}
use Rattle.machine.specs.Operands.{a_mark, Pushes}
use Rattle.machine.specs.Moves.{retagged}
use Rattle.machine.specs.Rep.{MovesStack}
use Rattle.machine.specs.Room.{lent, fitted, DoesStack}
use Rattle.machine.specs.declared.Machine.{Machine}
use Rattle.machine.proofs.Items.{items_length}
use Rattle.machine.proofs.Operands.{top, no_items, pop1_none, pop1_some}
use Rattle.machine.proofs.Rooms.{room_stack, room_passes, stack_passes, fitted_fails, dictionary_fits, exec_fits, log_fits}

pub mark_is : (μ : Floo.Machine) → perform (bytes "mark") μ ≡ ok (push mark μ)
unfolding textual perform find table ◌is◌ mark'
mark_is μ = refl

pub cvx_is : (μ : Floo.Machine) → perform (bytes "cvx") μ ≡ convert true μ
unfolding textual perform find table ◌is◌
cvx_is μ = refl

pub cvlit_is : (μ : Floo.Machine) → perform (bytes "cvlit") μ ≡ convert false μ
unfolding textual perform find table ◌is◌
cvlit_is μ = refl

pub mark_over : {m : Machine} {st : List ℕ} → 2 * m.depth ≤ length st → length st - 2 * m.depth < 2 → DoesStack (perform (bytes "mark")) m st st (Err StackOverflow)
unfolding fitted lent push with_stack ◌>>=◌
mark_over {m} {st} fits over = record {
  does = λ e d c l μ R.
      let deep : length st / 2 < length (mark ∷ μ.stack) = omega (arith, items_length R.items) in
      (ap (λ q. q >>= room_for (lent st e d c l) μ) (mark_is μ) ∙ room_stack (lent st e d c l) μ (push mark μ) (dictionary_fits R) (exec_fits R) deep, refl);
}

pub mark_done : {m r : Machine} {st st' : List ℕ} → 2 * m.depth + 2 ≤ length st → Pushes 3 0 m r st st' → DoesStack (perform (bytes "mark")) m st st' (Ok r)
unfolding fitted lent push with_stack ◌>>=◌
mark_done {m} {st = st} fits P = record {
  does = λ e d c l μ R.
      let few : length (mark ∷ μ.stack) ≤ length st / 2 = omega (arith, items_length R.items) in
      (push mark μ, ap (λ q. q >>= room_for (lent st e d c l) μ) (mark_is μ) ∙ room_passes (lent st e d c l) μ (push mark μ) (dictionary_fits R) (exec_fits R) few refl (log_fits R), P.does a_mark e d c l μ R);
}

converted : (x : Bool) (μ : Floo.Machine) {v : Value} {rest : List Value} → μ.stack ≡ v ∷ rest → convert x μ ≡ ok (retagged x μ)
unfolding convert retagged push with_stack ◌>>=◌
converted x μ s =
    ap (λ r. r >>= λ p. ok (push (as_executable x p.0) p.1)) (pop1_some μ s)
    ∙ ap (λ t. ok (with_stack (set t 0 (as_executable x (get_or t 0 null))) μ)) (sym s)

module _ (x : Bool) {m : Machine} {st : List ℕ} where
  pub convert_under : m.depth < 1 → DoesStack (convert x) m st st (Err StackUnderflow)
  unfolding convert ◌>>=◌
  convert_under h = record {
    does = λ e d c l μ R. (fitted_fails (lent st e d c l) (convert x) μ (ap (λ r. r >>= λ p. ok (push (as_executable x p.0) p.1)) (pop1_none μ (no_items R.items h))), refl);
  }

  pub convert_done : {r : Machine} {st' : List ℕ} (k : ℕ) → m.depth ≡ suc k → MovesStack (retagged x) m r st st' → DoesStack (convert x) m st st' (Ok r)
  unfolding fitted retagged ◌>>=◌
  convert_done k h P = record {
    does = λ e d c l μ R.
        let t = top R.items k h in
        let new = as_executable x (get_or μ.stack 0 null) in
        let few : length (set μ.stack 0 new) ≤ length μ.stack = omega (arith, length-set μ.stack 0 new) in
        (retagged x μ, ap (λ q. q >>= room_for (lent st e d c l) μ) (converted x μ t.split) ∙ stack_passes R (set μ.stack 0 new) few, P.moves e d c l μ R);
  }
