-- Whether the run is finished, by the count of slots and the offset of the next token.
-- Assumes nothing.
use mathlib.Core.Path.{◌≡◌, refl, sym, ap, ◌∙◌}
use mathlib.Core.Bool.{true, false}
use mathlib.Core.List.{List, [], ◌∷◌}
use Prim.Native.Nat.{ℕ}
use native.Mathlib.Omega.{arith}
use lib.Dec.{eqb}
use lib.ListN.{length}
use Rattle.semantics.specs.Machine as Floo
use Rattle.semantics.specs.Steps.{is_empty, is_finished}
use Rattle.semantics.specs.Groups.{skip}
use Rattle.step.specs.Stepping.{Finished}
use Rattle.step.specs.declared.State.{State}

no_frames : (fs : List Floo.Frame) → length fs ≡ 0 → is_empty fs ≡ true
unfolding is_empty
no_frames [] q = refl
no_frames (f ∷ fs) q = absurd (omega arith)

some_frames : (fs : List Floo.Frame) → (length fs ≡ 0 → ⊥) → is_empty fs ≡ false
unfolding is_empty
some_frames [] q = absurd (q refl)
some_frames (f ∷ fs) q = refl

module _ {script : List ℕ} {st : State} where
  pub finished_by : st.machine.frames ≡ 0 → {n : ℕ} → n ≡ skip script st.next → Finished script st (eqb n (length script))
  unfolding is_finished
  finished_by z q = record { says = λ μ long. rw (is_finished, no_frames μ.exec (long ∙ z)) (ap (λ k. eqb k (length script)) q) }

  pub unfinished : (st.machine.frames ≡ 0 → ⊥) → Finished script st false
  unfolding is_finished
  unfinished some = record { says = λ μ long. rw (is_finished, some_frames μ.exec (λ z. some (sym long ∙ z))) refl }
