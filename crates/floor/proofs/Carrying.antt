-- The run with the label, and what it leaves for the book.
-- Assumes nothing.
use mathlib.Core.Path.{◌≡◌, refl, sym, ◌∙◌, subst}
use mathlib.Core.Bool.{Bool, true, false, not}
use mathlib.Core.List.{List}
use Prim.Native.Nat.{ℕ}
use lib.ListN.{length}
use borrow.Author.Tests.{not-true, not-false}
use Rattle.semantics.specs.Text.{bytes}
use Rattle.semantics.specs.Steps.{Run}
use Rattle.ending.specs.Endings.{ending_of}
use Rattle.ending.specs.declared.Ending.{Ending}
use Rattle.ending.specs.declared.Ending.TheVariants.{Finished, Stopped, OutOfFuel, Failed, Misread}
use Rattle.machine.specs.Places.{keys}
use Rattle.machine.specs.Rep.{Somewhere}
use Rattle.step.specs.Stepping.{state_of}
use Rattle.runner.specs.Promise.{CarriesOut}
use Rattle.runner.specs.declared.Proceeded.{Proceeded}
use Rattle.lending.specs.Lending.{Carries}
use Rattle.book.specs.declared.Record.{Record}
use Rattle.floor.specs.Floor.{labelled, run_of, is_final}
use Rattle.floor.specs.Promise.{asked, is_finished, ReadsEntry, Left, CarriesLabel}
use Rattle.floor.specs.declared.Answer.TheVariants.{NotFinished, BadStack}
use Rattle.floor.specs.declared.Ran.{Ran}
use Rattle.std.specs.Prelude.{None}
use Rattle.std.specs.Prelude as std

final_is : (script : List ℕ) (names : List (List ℕ)) (x : Ending) → is_final (ending_of script names x) ≡ is_finished x
unfolding is_final ending_of
final_is script names Finished = refl
final_is script names Stopped = refl
final_is script names OutOfFuel = refl
final_is script names (Failed e command) = refl
final_is script names (Misread f) = refl

module _ {script : List ℕ} {fuel : ℕ} {label s s' e e' d d' c c' l l' o o' : List ℕ} {done : Proceeded}
    (C : Carries script fuel (bytes "label") label s s' e e' d d' c c' l l' o o' done) where
  abbrev ended : Run
  ended = record { ending = ending_of script (keys C.ends.machine) done.ending; final = state_of done.state C.ends.machine }

  the_run_lem : run_of (asked script fuel label s e d c l o) ≡ ended
  unfolding run_of labelled
  the_run_lem = C.ends.runs

  so : {r : Ran} → r.report ≡ done.report → Left ended r → CarriesLabel script fuel label s s' e e' d d' c c' l l' o o' r
  unfolding labelled
  so {r} q L = record {
    run = subst (λ x. CarriesOut script fuel (labelled label) 2 (length c) s s' e e' d d' c c' l l' o o' x) (sym q) C.run;
    left = subst (λ (x : Run). Left x r) (sym the_run_lem) L;
  }

  pub stack_there : Somewhere done.state.machine s' c'
  stack_there = (e', d', l', C.ends.machine, C.ends.rep)

  pub not_final : {t : Bool} → t ≡ is_finished done.ending → not t ≡ true
      → CarriesLabel script fuel label s s' e e' d d' c c' l l' o o' (record { answer = NotFinished; report = done.report; entry = None })
  not_final {t} q n =
      let over : is_final ended.ending ≡ false = final_is script (keys C.ends.machine) done.ending ∙ sym q ∙ not-true t n in
      so refl (rw over (refl, refl))

  pub final : {t : Bool} → t ≡ is_finished done.ending → not t ≡ false → {read : std.Option Record} → ReadsEntry done.state.machine s' c' read
      → CarriesLabel script fuel label s s' e e' d d' c c' l l' o o' (record { answer = BadStack; report = done.report; entry = read })
  final {t} q n {read} R =
      let over : is_final ended.ending ≡ true = final_is script (keys C.ends.machine) done.ending ∙ sym q ∙ not-false t n in
      so refl (rw over (refl, R.says e' d' l' C.ends.machine C.ends.rep))
