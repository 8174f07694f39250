-- The outcome that is written from the machine's words is the definition's.
-- Assumes nothing.
use mathlib.Core.Path.{◌≡◌, refl, sym, ap, ◌∙◌}
use mathlib.Core.List.{List, [], ◌∷◌, ◌++◌, map, reverse, reverse-cons, append_assoc, append-nil}
use Prim.Native.Nat.{ℕ, zero, suc, ◌+◌, ◌*◌}
use native.Mathlib.Omega.{arith}
use lib.ListN.{length, get_or, length-map}
use Rattle.semantics.specs.Text.{bytes}
use Rattle.semantics.specs.Outcome.{line}
use Rattle.text.specs.Writing.{Written}
use Rattle.text.proofs.Pasting.{respelt}
use Rattle.forf_semantics.specs.Machine.{Value}
use Rattle.forf_semantics.specs.Outcome.{item, items, outcome}
use Rattle.forf_semantics.specs.Steps.{Run}
use Rattle.forf_machine.specs.Slots.{slots}
use Rattle.forf_machine.specs.Rep.{value_of, machine_from, machine_of}
use Rattle.forf_machine.proofs.Slotting.{length_slots}
use Rattle.forf_steps.specs.Stepping.{state_of}
use Rattle.forf_steps.specs.Running.{ending_of, Ends}
use Rattle.forf_steps.specs.declared.Ended.{Ended}
use Rattle.forf_outcome.specs.Reports.{line_at, item_lines, outcome_of, Writing}
use Rattle.forf_runner.specs.Promise.{Ready, CarriesOut}
use Rattle.forf_runner.specs.declared.Report.{Report}

items_append : (a b : List Value) → items (a ++ b) ≡ items a ++ items b
unfolding items
items_append [] b = refl
items_append (v ∷ a) b = ap (λ (t : List ℕ). line (bytes "item") (item v) ++ t) (items_append a b) ∙ sym (append_assoc (line (bytes "item") (item v)) (items a) (items b))

items_are : (script : List ℕ) (n : ℕ) (s : List ℕ) → items (reverse (map (value_of script) (slots 2 n s))) ≡ item_lines script n s
unfolding items item_lines line_at slots
items_are script zero s = refl
items_are script (suc n) s =
    let v = value_of script (get_or s (2 * n) 0, get_or s (2 * n + 1) 0) in
    let vs = map (value_of script) (slots 2 n s) in
    ap items (reverse-cons v vs)
    ∙ items_append (reverse vs) (v ∷ [])
    ∙ ap (λ (t : List ℕ). items (reverse vs) ++ t) (append-nil (line (bytes "item") (item v)))
    ∙ ap (λ (t : List ℕ). t ++ line (bytes "item") (item v)) (items_are script n s)

outcome_is : (script : List ℕ) (r : Ended) (s e mem : List ℕ) → outcome (record { ending = ending_of script r.ending; final = state_of script r.state s e mem }) ≡ outcome_of script r s
unfolding outcome outcome_of state_of machine_of machine_from
outcome_is script r s e mem =
    let d = r.state.machine.depth in
    let deep : length (map (value_of script) (slots 2 d s)) ≡ d = length-map (slots 2 d s) (value_of script) ∙ length_slots 2 d s in
    rw (deep, items_are script d s) refl

module _ {script : List ℕ} {fuel : ℕ} {s s' e mem mem' out : List ℕ} (R : Ready script fuel s e mem out) {r : Ended} (E : Ends script fuel s s' e mem mem' r) (same : length s' ≡ length s) where
  pub writing : Writing script r s' out
  writing =
      let f = E.stands.rep.stack_fits in
      let a = R.stack in
      let b = R.room in
      record {
        held = E.held;
        items = record { fits = f; values = E.stands.rep.values; short = R.short };
        within = E.stands.within;
        few = omega arith;
        room = omega arith;
      }

  pub carried_out : {out' : List ℕ} {report : Report} → report.steps ≡ r.state.steps → Written 0 (outcome_of script r s') out out' report.outcome → CarriesOut script fuel s e mem mem' out out' report
  unfolding state_of machine_of machine_from
  carried_out p W = record {
    steps = p ∙ sym (ap (λ (x : Run). x.final.steps) E.runs);
    fueled = let h = E.steps in omega arith;
    memory = sym (ap (λ (x : Run). x.final.machine.memory) E.runs);
    outcome = respelt (ap outcome E.runs ∙ outcome_is script r s' E.exec mem') W;
  }
