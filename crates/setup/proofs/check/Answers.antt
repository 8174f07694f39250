-- `check` meets its contract: where a test fails the later ones decide, and the first that holds gives its number.
-- Assumes nothing.
use borrow.Author.Rules.{rules}
use borrow.Author.Tests.{lt-ltb, le-ltb}
use native.Mathlib.Omega.{arith}
use mathlib.Core.Path.{◌≡◌, sym, ap, ◌∙◌}
use mathlib.Core.Bool.{Bool, true, false, not}
use mathlib.Core.List.{List}
use Prim.Native.Nat.{ℕ, ◌/◌, ◌≤◌}
use lib.ListN.{length, take}
use Rattle.semantics.specs.Sizes.{stack_width, exec_width, dictionary_width, cell_width, name_count, script_most, fuel_most, stack_least, stack_most, exec_least, exec_most, dictionary_most, cells_least, cells_most, log_most}
use Rattle.semantics.specs.Text.{bytes, same}
use Rattle.semantics.specs.Tokens.{within}
use Rattle.semantics.specs.Setup.{Lent}
use Rattle.setup.specs.Lending.{lent_of}
use Rattle.setup.proofs.Refusing.{Passed, untested, fails, holds, none_holds, from_to}
use Rattle.setup.proofs.check.Goals as goal

-- ---- each test fails, after those before it

record Upto (script : List ℕ) (fuel : ℕ) (l : Lent) (k : ℕ) : Type 0 where
  passed : Passed script fuel l k

module _ {script : List ℕ} {fuel : ℕ} {l : Lent} where
  past_1 : length script ≤ script_most → Upto script fuel l 1
  past_1 h = record { passed = fails (untested _ _ _) (le-ltb _ _ h) }

  past_2 : {b : Bool} → b ≡ same (take 5 script) (bytes "#FLOO") → b ≡ true → Upto script fuel l 1 → Upto script fuel l 2
  past_2 e h U = record { passed = fails U.passed (sym (ap not e) ∙ ap not h) }

  past_3 : fuel ≤ fuel_most → Upto script fuel l 2 → Upto script fuel l 3
  past_3 h U = record { passed = fails U.passed (le-ltb _ _ h) }

  past_4 : {b : Bool} → b ≡ not (within stack_least stack_most (l.stack_words / stack_width)) → b ≡ false → Upto script fuel l 3 → Upto script fuel l 4
  past_4 e h U = record { passed = fails U.passed (sym e ∙ h) }

  past_5 : {b : Bool} → b ≡ not (within exec_least exec_most (l.exec_words / exec_width)) → b ≡ false → Upto script fuel l 4 → Upto script fuel l 5
  past_5 e h U = record { passed = fails U.passed (sym e ∙ h) }

  past_6 : {b : Bool} → b ≡ not (within name_count dictionary_most (l.dictionary_words / dictionary_width)) → b ≡ false → Upto script fuel l 5 → Upto script fuel l 6
  past_6 e h U = record { passed = fails U.passed (sym e ∙ h) }

  past_7 : {b : Bool} → b ≡ not (within cells_least cells_most (l.cell_words / cell_width)) → b ≡ false → Upto script fuel l 6 → Upto script fuel l 7
  past_7 e h U = record { passed = fails U.passed (sym e ∙ h) }

  past_8 : l.log_bytes ≤ log_most → Upto script fuel l 7 → Upto script fuel l 8
  past_8 h U = record { passed = fails U.passed (le-ltb _ _ h) }

-- few enough slots for the product
few : (n : ℕ) {b : Bool} → b ≡ not (within stack_least stack_most n) → b ≡ false → n ≤ stack_most
few n e h = (from_to stack_least stack_most n (sym e ∙ h)).1

ruleset passing = (past_1, past_2, past_3, past_4, past_5, past_6, past_7, past_8)

-- ---- the test that holds

pub returns-then-script-gt-SCRIPT_MOST : goal.returns-then-script-gt-SCRIPT_MOST
returns-then-script-gt-SCRIPT_MOST c = holds (untested _ _ _) (lt-ltb _ _ c.if-script-gt-SCRIPT_MOST.true)

pub returns-then-not-begins : goal.returns-then-not-begins
returns-then-not-begins c =
    let U : Upto c.args.script.now c.args.fuel (lent_of c.args.lent) 1 = search (rules, passing) in
    holds U.passed (sym (ap not c.begins.ensures) ∙ ap not c.if-not-begins.true)

pub returns-then-fuel-gt-FUEL_MOST : goal.returns-then-fuel-gt-FUEL_MOST
returns-then-fuel-gt-FUEL_MOST c =
    let U : Upto c.args.script.now c.args.fuel (lent_of c.args.lent) 2 = search (rules, passing) in
    holds U.passed (lt-ltb _ _ c.if-fuel-gt-FUEL_MOST.true)

pub returns-then-outside : goal.returns-then-outside
returns-then-outside c =
    let U : Upto c.args.script.now c.args.fuel (lent_of c.args.lent) 3 = search (rules, passing) in
    holds U.passed (sym c.outside.ensures ∙ c.if-outside.true)

pub returns-then-outside-2 : goal.returns-then-outside-2
returns-then-outside-2 c =
    let U : Upto c.args.script.now c.args.fuel (lent_of c.args.lent) 4 = search (rules, passing) in
    holds U.passed (sym c.outside-2.ensures ∙ c.if-outside-2.true)

pub returns-then-outside-3 : goal.returns-then-outside-3
returns-then-outside-3 c =
    let U : Upto c.args.script.now c.args.fuel (lent_of c.args.lent) 5 = search (rules, passing) in
    holds U.passed (sym c.outside-3.ensures ∙ c.if-outside-3.true)

pub returns-then-outside-4 : goal.returns-then-outside-4
returns-then-outside-4 c =
    let U : Upto c.args.script.now c.args.fuel (lent_of c.args.lent) 6 = search (rules, passing) in
    holds U.passed (sym c.outside-4.ensures ∙ c.if-outside-4.true)

pub returns-then-lent-gt-LOG_MOST : goal.returns-then-lent-gt-LOG_MOST
returns-then-lent-gt-LOG_MOST c =
    let U : Upto c.args.script.now c.args.fuel (lent_of c.args.lent) 7 = search (rules, passing) in
    holds U.passed (lt-ltb _ _ c.if-lent-gt-LOG_MOST.true)

pub overflow_mul-slots : goal.overflow_mul-slots
overflow_mul-slots c = omega (arith, few (c.args.lent.stack / 2) c.outside.ensures c.if-outside.false)

pub overflow_add-slots : goal.overflow_add-slots
overflow_add-slots c = omega (arith, few (c.args.lent.stack / 2) c.outside.ensures c.if-outside.false)

pub returns-then-lent-slots : goal.returns-then-lent-slots
returns-then-lent-slots c =
    let U : Upto c.args.script.now c.args.fuel (lent_of c.args.lent) 8 = search (rules, passing) in
    holds U.passed (lt-ltb _ _ c.if-lent-slots.true)

pub returns : goal.returns
returns c =
    let U : Upto c.args.script.now c.args.fuel (lent_of c.args.lent) 8 = search (rules, passing) in
    none_holds (fails U.passed (le-ltb _ _ c.if-lent-slots.false))
