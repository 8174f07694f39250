-- What a run from the start of a script has for its first moment: nothing is used yet but the slots of the predefined names, so all else is as it was lent.
-- Assumes nothing.
use mathlib.Core.Path.{◌≡◌, subst}
use mathlib.Core.List.{List}
use Prim.Native.Nat.{ℕ, ◌*◌}
use lib.ListN.{drop}
use Rattle.semantics.specs.Sizes.{name_words}
use Rattle.semantics.specs.Steps.{initial}
use Rattle.semantics.specs.NameLaws.{name_count_lem}
use Rattle.runner.specs.Promise.{whole, RunIs}
use Rattle.runner.specs.declared.Report.{Report}

module _ {script : List ℕ} {fuel : ℕ} {s s' e e' d d' c c' l l' o o' : List ℕ} {r : Report} (R : RunIs script fuel initial 0 0 s s' e e' d d' c c' l l' o o' r) where
  pub first_lent : (R.recorded.first.stack ≡ whole 2 s) × (R.recorded.first.exec ≡ whole 8 e) × (R.recorded.first.cells ≡ whole 4 c) × (R.recorded.first.log ≡ l)
      × (drop name_words R.recorded.first.dict ≡ drop name_words (whole 12 d))
  unfolding initial
  first_lent =
      let L = R.recorded.lends in (
        L.stack,
        L.exec,
        L.cells,
        L.log,
        subst (λ n. drop (12 * n) R.recorded.first.dict ≡ drop (12 * n) (whole 12 d)) name_count_lem L.dict,
      )
