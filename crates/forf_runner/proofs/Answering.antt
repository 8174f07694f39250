-- Setup: the number by the lengths is the definition's verdict, and what is accepted has the bounds.
-- Assumes nothing.
use mathlib.Core.Path.{◌≡◌, refl, sym, ap, subst, ◌∙◌}
use mathlib.Core.Bool.{Bool, true, false, not, ◌&&◌, cond}
use mathlib.Core.List.{List, ◌++◌}
use Prim.Native.Nat.{ℕ, ◌+◌, ◌*◌, ◌/◌, ◌≤◌, ◌<◌}
use native.Mathlib.Omega.{arith}
use lib.ListN.{length, take, drop}
use lib.Seq.{length-take-le, drop-append_seam}
use lib.Dec.{ltb, leb, eqb}
use borrow.Author.Tests.{ltb-false, leb-true, eq-eqb, ne_eqb, not-false}
use Rattle.semantics.specs.Sizes.{script_most, fuel_most, stack_least, stack_most, exec_least, exec_most, head_room, item_room}
use Rattle.semantics.specs.Tokens.{within}
use Rattle.semantics.specs.Setup.{is_too_long}
use Rattle.text.specs.Writing.{Written}
use Rattle.forf_semantics.specs.Outcome.{outcome as outcome_text}
use Rattle.forf_semantics.specs.Steps.{Limits, run, initial}
use Rattle.forf_semantics.specs.Setup.{Verdict, limits, verdict, refused, memory_slots, runs}
use Rattle.forf_machine.specs.Rep.{limits_of}
use Rattle.forf_runner.specs.Promise.{number_of, verdict_of, lent_of, refusal_of, the_run, Runs, Ready, CarriesOut}
use Rattle.std.specs.Prelude.{Some, Ok, Err}
use Rattle.forf_runner.specs.declared.Refusal.{Refusal}
use Rattle.forf_runner.specs.declared.Refusal.TheVariants as refusal
use Rattle.forf_runner.specs.declared.Report.{Report}

-- ---- the tests in order

numbers : (a b c d f : Bool) → ℕ
numbers a b c d f = cond a 1 (cond b 3 (cond c 4 (cond d 5 (cond f 9 0))))

verdicts : (a b c d f g : Bool) → Verdict
verdicts a b c d f g = cond a (refused 1) (cond b (refused 3) (cond c (refused 4) (cond d (refused 5) (cond f (refused 9) (cond g memory_slots runs)))))

refused_by : (a b c d f g : Bool) {n : ℕ} → n ≡ numbers a b c d f → 0 < n → verdicts a b c d f g ≡ refused n
unfolding numbers verdicts
refused_by true b c d f g e h = ap refused (sym e)
refused_by false true c d f g e h = ap refused (sym e)
refused_by false false true d f g e h = ap refused (sym e)
refused_by false false false true f g e h = ap refused (sym e)
refused_by false false false false true g e h = ap refused (sym e)
refused_by false false false false false g e h = absurd (omega arith)

record Passed (a b c d f : Bool) : Type 0 where
  first : a ≡ false
  second : b ≡ false
  third : c ≡ false
  fourth : d ≡ false
  fifth : f ≡ false

passed_by : (a b c d f : Bool) → 0 ≡ numbers a b c d f → Passed a b c d f
unfolding numbers
passed_by true b c d f e = absurd (omega arith)
passed_by false true c d f e = absurd (omega arith)
passed_by false false true d f e = absurd (omega arith)
passed_by false false false true f e = absurd (omega arith)
passed_by false false false false true e = absurd (omega arith)
passed_by false false false false false e = record { first = refl; second = refl; third = refl; fourth = refl; fifth = refl }

-- What was carried out, by its limits.
record CarriesOut' (script : List ℕ) (fuel : ℕ) (l : Limits) (mem mem' out out' : List ℕ) (r : Report) : Type 0 where
  steps : r.steps ≡ (run l script fuel (initial mem)).final.steps
  memory : mem' ≡ (run l script fuel (initial mem)).final.machine.memory
  outcome : Written 0 (outcome_text (run l script fuel (initial mem))) out out' r.outcome

carried : {script : List ℕ} {fuel : ℕ} {s e mem mem' out out' : List ℕ} {r : Report} → CarriesOut script fuel s e mem mem' out out' r → CarriesOut' script fuel (limits_of s e) mem mem' out out' r
carried C = record { steps = C.steps; memory = C.memory; outcome = C.outcome }

module _ (script : List ℕ) (fuel : ℕ) (s e mem out : List ℕ) {n : ℕ} (q : n ≡ refusal_of (length script) fuel (length s) (length e) (length out)) where
  is_number : n ≡ numbers (ltb script_most (length script)) (ltb fuel_most fuel) (not (within stack_least stack_most (length s / 2))) (not (within exec_least exec_most (length e / 8))) (ltb (length out) (head_room + item_room * (length s / 2)))
  unfolding refusal_of numbers
  is_number = q

  is_verdict : verdict script fuel (lent_of s e out) mem
      ≡ verdicts (ltb script_most (length script)) (ltb fuel_most fuel) (not (within stack_least stack_most (length s / 2))) (not (within exec_least exec_most (length e / 8))) (ltb (length out) (head_room + item_room * (length s / 2)))
      (not (eqb (length mem) 32))
  unfolding verdict verdicts limits lent_of is_too_long
  is_verdict = refl

  pub refuses : 0 < n → {r : Refusal} → number_of r ≡ Some n → Runs script fuel s s e e mem mem out out (Err r)
  refuses h p = record { answers = (is_verdict ∙ refused_by _ _ _ _ _ _ is_number h ∙ ap verdict_of (sym p), record { stack = refl; exec = refl; memory = refl; outcome = refl }) }

  module _ (z : n ≡ 0) where
    passed : Passed (ltb script_most (length script)) (ltb fuel_most fuel) (not (within stack_least stack_most (length s / 2))) (not (within exec_least exec_most (length e / 8))) (ltb (length out) (head_room + item_room * (length s / 2)))
    passed = passed_by _ _ _ _ _ (sym z ∙ is_number)

    verdict_is : {t : Bool} → not (eqb (length mem) 32) ≡ t → verdict script fuel (lent_of s e out) mem ≡ cond t memory_slots runs
    unfolding verdicts
    verdict_is h = is_verdict ∙ rw (passed.first, passed.second, passed.third, passed.fourth, passed.fifth, h) refl

    pub wrong_memory : (length mem ≡ 32 → ⊥) → Runs script fuel s s e e mem mem out out (Err refusal.Memory)
    wrong_memory h = record { answers = (verdict_is (ap not (ne_eqb (length mem) 32 h)), record { stack = refl; exec = refl; memory = refl; outcome = refl }) }

    most : (low high k : ℕ) → within low high k ≡ true → k ≤ high
    most low high k h = leb-true k high (second_of (leb low k) (leb k high) h)
      where
        second_of : (a b : Bool) → (a && b) ≡ true → b ≡ true
        second_of true b e = e
        second_of false b e = let z : ◌≡◌ {A = ℕ} 0 1 = cc in absurd (omega arith)

    module _ (slots : length mem ≡ 32) where
      whole_stack : length (take (length s / 2 * 2) s) ≡ length s / 2 * 2
      whole_stack = length-take-le (length s / 2 * 2) s (omega arith)

      whole_exec : length (take (length e / 8 * 8) e) ≡ length e / 8 * 8
      whole_exec = length-take-le (length e / 8 * 8) e (omega arith)

      pub ready : Ready script fuel (take (length s / 2 * 2) s) (take (length e / 8 * 8) e) mem out
      ready =
          let same : length (take (length s / 2 * 2) s) / 2 ≡ length s / 2 = omega (arith, whole_stack) in
          record {
            short = ltb-false script_most (length script) passed.first;
            fueled = ltb-false fuel_most fuel passed.second;
            stack = rw same (most stack_least stack_most (length s / 2) (not-false _ passed.third));
            memory_slots_lem = slots;
            room = rw same (ltb-false (length out) (head_room + item_room * (length s / 2)) passed.fifth);
          }

      limits_same : limits_of (take (length s / 2 * 2) s) (take (length e / 8 * 8) e) ≡ limits (lent_of s e out)
      unfolding limits_of limits lent_of
      limits_same =
          let a : length (take (length s / 2 * 2) s) / 2 ≡ length s / 2 = omega (arith, whole_stack) in
          let b : length (take (length e / 8 * 8) e) / 8 ≡ length e / 8 = omega (arith, whole_exec) in
          rw (a, b) refl

      rest : (w : ℕ) (l ys : List ℕ) → length ys ≡ w → drop w (ys ++ drop w l) ≡ drop w l
      rest w l ys h = subst (λ (k : ℕ). drop k (ys ++ drop w l) ≡ drop w l) h (drop-append_seam ys (drop w l))

      pub answered : (ys ye : List ℕ) {mem' out' : List ℕ} {r : Report} → length ys ≡ length (take (length s / 2 * 2) s) → length ye ≡ length (take (length e / 8 * 8) e)
          → CarriesOut script fuel (take (length s / 2 * 2) s) (take (length e / 8 * 8) e) mem mem' out out' r
          → Runs script fuel s (ys ++ drop (length s / 2 * 2) s) e (ye ++ drop (length e / 8 * 8) e) mem mem' out out' (Ok r)
      unfolding the_run
      answered ys ye {mem'} {out'} {r} ks ke C =
          let D : CarriesOut' script fuel (limits (lent_of s e out)) mem mem' out out' r = subst (λ (l : Limits). CarriesOut' script fuel l mem mem' out out' r) limits_same (carried C) in
          record {
            answers = (
              verdict_is (ap not (eq-eqb (length mem) 32 slots)),
              record {
                steps = D.steps;
                fueled = C.fueled;
                memory = D.memory;
                outcome = D.outcome;
                stack_rest = rest (length s / 2 * 2) s ys (ks ∙ whole_stack);
                exec_rest = rest (length e / 8 * 8) e ye (ke ∙ whole_exec);
              },
            );
          }

pub few_slots : (k : ℕ) {t : Bool} → t ≡ not (within stack_least stack_most k) → t ≡ false → k ≤ 256
few_slots k q h = leb-true k 256 (by (leb 8 k) (leb k 256) (not-false _ (sym q ∙ h)))
  where
    by : (a b : Bool) → (a && b) ≡ true → b ≡ true
    by true b e = e
    by false b e = let z : ◌≡◌ {A = ℕ} 0 1 = cc in absurd (omega arith)
