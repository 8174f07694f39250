-- The public operation: a refusal by setup, or the run with the words of whole slots. What is past them comes back as it was.
-- Assumes nothing.
use mathlib.Core.Path.{◌≡◌, refl, sym, ap, ◌∙◌, subst}
use mathlib.Core.List.{List, ◌++◌}
use Prim.Native.Nat.{ℕ, ◌+◌, ◌*◌, ◌/◌, ◌≤◌}
use native.Mathlib.Omega.{arith}
use lib.ListN.{length, take, drop}
use lib.Seq.{length-take-le, length_front, take_at, drop_at}
use Rattle.semantics.specs.Steps as steps
use Rattle.semantics.specs.Steps.{Limits, Run, run, initial}
use Rattle.semantics.specs.Outcome.{outcome}
use Rattle.semantics.specs.AsciiLaws.{Ascii}
use Rattle.semantics.specs.Setup.{limits, refusal}
use Rattle.semantics.proofs.RunLaws.{run_steps}
use Rattle.text.specs.Writing.{Written}
use Rattle.std.specs.Prelude.{Result, Ok, Err, IsErrAnd}
use Rattle.setup.specs.declared.Refusal.{Refusal}
use Rattle.setup.specs.Lending.{number_of}
use Rattle.setup.proofs.Accepting.{accepted, number_some}
use Rattle.exactness.proofs.Lists.{along_length}
use Rattle.exactness.proofs.Tracing.{trace_length}
use Rattle.run_loop.specs.History.{limits_of}
use Rattle.runner.specs.Promise.{lent_of, the_run, whole, past, RunIs, Runs, Ready, CarriesOut}
use Rattle.runner.specs.declared.Report.{Report}

refused : {script : List ℕ} {fuel : ℕ} {s e d c l o : List ℕ} (x : Refusal) → number_of x ≡ refusal script fuel (lent_of s e d c l o) → Runs script fuel s s e e d d c c l l o o (Err x)
refused x q = record { answers = (sym q, number_some x, refl, refl, refl, refl, refl, refl) }

-- The refusal is passed on.
pub passed_on : {script : List ℕ} {fuel : ℕ} {s e d c l o : List ℕ} (r : Result Report Refusal) (x : Refusal)
    → number_of x ≡ refusal script fuel (lent_of s e d c l o) → IsErrAnd r (λ y. y ≡ x) → Runs script fuel s s e e d d c c l l o o r
passed_on (Ok k) x q h = absurd h
passed_on {script} {fuel} {s} {e} {d} {c} {l} {o} (Err y) x q h = subst (λ (z : Refusal). Runs script fuel s s e e d d c c l l o o (Err z)) (sym h) (refused x q)

-- ---- whole slots

-- A front of whole slots gives way to ys.
module _ (width : ℕ) (xs ys : List ℕ) (front : length ys ≡ length (whole width xs)) (low : length xs / width * width ≤ length xs) where
  long_front : length ys ≡ length xs / width * width
  long_front = front ∙ length-take-le (length xs / width * width) xs low

  same_size : length (ys ++ drop (length xs / width * width) xs) ≡ length xs
  same_size = length_front xs ys (length xs / width * width) front

  whole_is : whole width (ys ++ drop (length xs / width * width) xs) ≡ ys
  whole_is =
      ap (λ n. take (n / width * width) (ys ++ drop (length xs / width * width) xs)) same_size
      ∙ take_at ys (drop (length xs / width * width) xs) (length xs / width * width) long_front

  past_is : past width (ys ++ drop (length xs / width * width) xs) ≡ past width xs
  past_is =
      ap (λ n. drop (n / width * width) (ys ++ drop (length xs / width * width) xs)) same_size
      ∙ drop_at ys (drop (length xs / width * width) xs) (length xs / width * width) long_front

-- ---- what setup accepts

module _ (script : List ℕ) (fuel : ℕ) (s e d c l o : List ℕ) where
  long_s : length (whole 2 s) ≡ length s / 2 * 2
  long_s = length-take-le (length s / 2 * 2) s (omega arith)

  long_e : length (whole 8 e) ≡ length e / 8 * 8
  long_e = length-take-le (length e / 8 * 8) e (omega arith)

  long_d : length (whole 12 d) ≡ length d / 12 * 12
  long_d = length-take-le (length d / 12 * 12) d (omega arith)

  long_c : length (whole 4 c) ≡ length c / 4 * 4
  long_c = length-take-le (length c / 4 * 4) c (omega arith)

  pub ready : 0 ≡ refusal script fuel (lent_of s e d c l o) → Ready script fuel (whole 2 s) (whole 8 e) (whole 12 d) (whole 4 c) l o
  ready q =
      let A = accepted script fuel (lent_of s e d c l o) (sym q) in
      record {
        short = A.short;
        fueled = A.fueled;
        stack = omega (arith, long_s, A.stack_slots.1);
        exec = omega (arith, long_e, A.exec_slots.1);
        dict = (omega (arith, long_d, A.dictionary_slots.0), omega (arith, long_d, A.dictionary_slots.1));
        cells = omega (arith, long_c, A.cell_count.1);
        log = A.log_bytes;
        outcome = omega (arith, long_s, A.outcome_bytes);
      }

  -- The room is the same, for it goes by slots,
  pub room_same : limits (lent_of (whole 2 s) (whole 8 e) (whole 12 d) (whole 4 c) l o) ≡ limits (lent_of s e d c l o)
  unfolding limits
  room_same =
      let a : length (whole 2 s) / 2 ≡ length s / 2 = omega (arith, long_s) in
      let b : length (whole 8 e) / 8 ≡ length e / 8 = omega (arith, long_e) in
      let f : length (whole 12 d) / 12 ≡ length d / 12 = omega (arith, long_d) in
      let g : length (whole 4 c) / 4 ≡ length c / 4 = omega (arith, long_c) in
      rw (a, b, f, g) refl

  -- and so is the run, from every state.
  module _ (σ₀ : steps.State) (touched worked : ℕ) where
    run_same : the_run script fuel (lent_of (whole 2 s) (whole 8 e) (whole 12 d) (whole 4 c) l o) σ₀ ≡ the_run script fuel (lent_of s e d c l o) σ₀
    run_same = ap (λ (x : Limits). run x script fuel σ₀) room_same

    pub whole_run : {ys ye yd yc l' o' : List ℕ}
        → length ys ≡ length (whole 2 s)
        → length ye ≡ length (whole 8 e)
        → length yd ≡ length (whole 12 d)
        → length yc ≡ length (whole 4 c)
        → {r : Report}
        → CarriesOut script fuel σ₀ touched worked (whole 2 s) ys (whole 8 e) ye (whole 12 d) yd (whole 4 c) yc l l' o o' r
        → RunIs script fuel σ₀ touched worked s (ys ++ past 2 s) e (ye ++ past 8 e) d (yd ++ past 12 d) c (yc ++ past 4 c) l l' o o' r
    whole_run {ys} {ye} {yd} {yc} {l'} {o'} ks ke kd kc {r} C =
        let H = C.holds in
        let S = whole_is 2 s ys ks (omega arith) in
        let E = whole_is 8 e ye ke (omega arith) in
        let D = whole_is 12 d yd kd (omega arith) in
        let Z = whole_is 4 c yc kc (omega arith) in
        let steps : r.steps ≡ (the_run script fuel (lent_of s e d c l o) σ₀).final.steps = C.steps ∙ ap (λ (x : Run). x.final.steps) run_same in
        let room = C.room ∙ room_same in
        let many : length C.history.moments + σ₀.steps ≡ (run (limits_of C.first) script fuel σ₀).final.steps + 1 =
        omega (arith, along_length C.history.exact, trace_length (limits_of C.first) script fuel σ₀) in
        record {
          steps = steps;
          fueled = omega (arith, steps, run_steps (limits (lent_of s e d c l o)) script fuel σ₀);
          log = subst (λ (x : Run). Written 0 x.final.machine.log l l' r.log) run_same C.log;
          outcome = subst (λ (x : Run). Written 0 (outcome x) o o' r.outcome) run_same C.outcome;
          unused = (past_is 2 s ys ks (omega arith), past_is 8 e ye ke (omega arith), past_is 12 d yd kd (omega arith), past_is 4 c yc kc (omega arith));
          recorded = record {
            first = C.first;
            last = C.last;
            lends = C.lends;
            holds = (H.0 ∙ sym S, H.1 ∙ sym E, H.2 ∙ sym D, H.3 ∙ sym Z, H.4);
            history = C.history;
          };
          room = room;
          counted = many ∙ ap (λ (x : Limits). (run x script fuel σ₀).final.steps + 1) room ∙ ap (λ n. n + 1) (sym steps);
          ascii = λ b. subst (λ (x : Run). Ascii (outcome x)) run_same (C.ascii b);
          state = C.state;
        }

  pub answered : 0 ≡ refusal script fuel (lent_of s e d c l o)
      → {ys ye yd yc l' o' : List ℕ}
      → length ys ≡ length (whole 2 s)
      → length ye ≡ length (whole 8 e)
      → length yd ≡ length (whole 12 d)
      → length yc ≡ length (whole 4 c)
      → {r : Report}
      → CarriesOut script fuel initial 0 0 (whole 2 s) ys (whole 8 e) ye (whole 12 d) yd (whole 4 c) yc l l' o o' r
      → Runs script fuel s (ys ++ past 2 s) e (ye ++ past 8 e) d (yd ++ past 12 d) c (yc ++ past 4 c) l l' o o' (Ok r)
  answered q ks ke kd kc C = record { answers = (sym q, whole_run initial 0 0 ks ke kd kc C) }
