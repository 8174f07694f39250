-- An item acts as the definition says.
-- Assumes nothing.
use mathlib.Core.Path.{◌≡◌, refl, sym, ap, subst, ◌∙◌}
use mathlib.Core.List.{List}
use Prim.Native.Nat.{ℕ, ◌+◌, ◌-◌}
use native.Mathlib.Nat.{add-sub_cancel_left}
use lib.ListN.{take, drop}
use Rattle.semantics.specs.Values.{◌>>=◌}
use Rattle.forf_semantics.specs.Errors.{Result}
use Rattle.forf_semantics.specs.Machine as Forf
use Rattle.forf_semantics.specs.Steps.{act, room_for}
use Rattle.forf_semantics.specs.BodyLaws.{Known}
use Rattle.forf_groups.specs.Reading.{Held}
use Rattle.forf_groups.specs.declared.Item.{Item}
use Rattle.forf_groups.specs.declared.Item.TheVariants.{Number, Word, Substack}
use Rattle.forf_machine.specs.Rep.{value_as, value_of, machine_of, limits_of}
use Rattle.forf_machine.specs.Does.{Acted, Answer, Does, Pushes}
use Rattle.forf_machine.specs.Titles.{titles, place_in, action_at}
use Rattle.forf_machine.specs.declared.Machine.{Machine}
use Rattle.forf_machine.proofs.Naming.{performs}
use Rattle.forf_steps.specs.Stepping.{Acts}

module _ {script : List ℕ} {m : Machine} {s : List ℕ} (e mem : List ℕ) where
  pub number_acts : {w : ℕ} {s' : List ℕ} {r : Acted} → Pushes m 0 w s s' r → Acts script (Number w) m s s' e e mem mem r
  unfolding act value_of value_as
  number_acts P = record { acts = λ R. P.pushes script e mem R (λ n. absurd (n refl)) }

  pub substack_acts : {body : ℕ} {s' : List ℕ} {r : Acted} → Known script body → Pushes m 1 body s s' r → Acts script (Substack body) m s s' e e mem mem r
  unfolding act value_of value_as
  substack_acts K P = record { acts = λ R. P.pushes script e mem R (λ n. K) }

  pub word_acts : {start size k : ℕ} {s' e' mem' : List ℕ} {r : Acted} → k ≡ place_in titles (take (start + size - start) (drop start script))
      → Does (action_at k) m s s' e e' mem mem' r → Acts script (Word start size) m s s' e e' mem mem' r
  unfolding act
  word_acts {start} {size} {k} {s'} {e'} {mem'} {r} q D =
      let n = take size (drop start script) in
      let same : k ≡ place_in titles n = q ∙ ap (λ (i : ℕ). place_in titles (take i (drop start script))) (add-sub_cancel_left start size) in
      record {
        acts = λ R.
            subst (λ (t : Result Forf.Machine). Answer script s s' e' mem mem' r (t >>= room_for (limits_of s e)))
            (sym (performs n (machine_of script m s e mem) ∙ ap (λ (i : ℕ). action_at i (machine_of script m s e mem)) (sym same)))
            (D.does script R);
      }

-- The item of a `match`.
pub acts_as : {script : List ℕ} {i j : Item} {m : Machine} {s s' e e' mem mem' : List ℕ} {r : Acted} → i ≡ j → Acts script j m s s' e e' mem mem' r → Acts script i m s s' e e' mem mem' r
acts_as {script} {m = m} {s} {s'} {e} {e'} {mem} {mem'} {r} q A = subst (λ (k : Item). Acts script k m s s' e e' mem mem' r) (sym q) A

pub held_as : (script : List ℕ) {i j : Item} → i ≡ j → Held script i → Held script j
held_as script q H = subst (Held script) q H
