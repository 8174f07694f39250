-- The run with the label, with what is lent: nothing is changed where it is refused, and where it is made the words of whole slots are enough for it.
-- Assumes nothing.
use mathlib.Core.Path.{◌≡◌, refl, sym, ap, subst}
use mathlib.Core.Bool.{Bool, true, false, not, cond}
use mathlib.Core.List.{List, ◌++◌}
use mathlib.Core.Option.{Option, none, some}
use Prim.Native.Nat.{ℕ, ◌+◌, ◌*◌, ◌/◌, ◌≤◌}
use native.Mathlib.Omega.{arith}
use lib.ListN.{length}
use lib.Seq.{length-take-le}
use lib.Dec.{ltb}
use borrow.Author.Tests.{ltb-false, not-false}
use Rattle.semantics.specs.Sizes.{name_count}
use Rattle.semantics.specs.Text.{bytes, textual, same}
use Rattle.semantics.specs.Values.{cells}
use Rattle.semantics.specs.Operators.{table, ◌is◌}
use Rattle.semantics.specs.Steps.{Limits, Run, run, slot, predefined, initial}
use Rattle.semantics.specs.Setup.{limits, refusal}
use Rattle.setup.proofs.Accepting.{accepted}
use Rattle.dictionary.specs.Names.{slot_of}
use Rattle.runner.specs.Promise.{lent_of, whole, past}
use Rattle.runner.proofs.Answering.{ready, room_same, whole_run}
use Rattle.lending.specs.Lending as lending
use Rattle.floor.specs.Floor.{Asked, label_most, before, labelled, run_of}
use Rattle.floor.specs.Promise.{asked, Nothing, RunOrNone, Left, CarriesLabel, LeftOrNone, Labelled}
use Rattle.floor.specs.declared.Answer.{Answer}
use Rattle.std.specs.Prelude.{None}
use Rattle.floor.specs.declared.Ran.{Ran}

-- ---- refused

module _ (a : Asked) (sound : Bool) (s e d c l o : List ℕ) where
  pub stopped : {x : Answer} → some x ≡ before a sound → {r : Ran} → (r.answer ≡ x) × (r.entry ≡ None) × Nothing r.report → Labelled a sound s s e e d d c c l l o o r
  stopped q {r} (k, m, n) = record {
    left = subst (LeftOrNone a r) q (k, m);
    run = subst (RunOrNone a s s e e d d c c l l o o r.report) q (n, refl, refl, refl, refl, refl, refl);
  }

-- ---- not refused

abbrev IsNone : Option Answer → Type 0
IsNone none = Unit {0}
IsNone (some x) = ⊥

passes : (t : Bool) (x : Answer) (y : Option Answer) → none ≡ cond t (some x) y → (t ≡ false) × (none ≡ y)
passes true x y q = absurd (subst IsNone q tt)
passes false x y q = (refl, q)

-- Every test has passed.
pub record Passed (a : Asked) (sound : Bool) : Type 0 where
  pub setup : refusal a.script a.fuel a.lent ≡ 0
  pub book : sound ≡ true
  pub label : length a.label ≤ label_most
  pub slot : name_count + 1 ≤ a.lent.dictionary_words / 12
  pub cells : (length a.label + 7) / 8 + 1 ≤ a.lent.cell_words / 4

pub passed : (a : Asked) (sound : Bool) → none ≡ before a sound → Passed a sound
unfolding before limits cells
passed a sound q =
    let t₁ = passes (ltb 0 (refusal a.script a.fuel a.lent)) _ _ q in
    let t₂ = passes (not sound) _ _ t₁.1 in
    let t₃ = passes (ltb label_most (length a.label)) _ _ t₂.1 in
    let t₄ = passes (ltb (a.lent.dictionary_words / 12) (name_count + 1)) _ _ t₃.1 in
    let t₅ = passes (ltb (a.lent.cell_words / 4) (1 + (length a.label + 7) / 8)) _ _ t₄.1 in
    record {
      setup = omega (arith, ltb-false 0 (refusal a.script a.fuel a.lent) t₁.0);
      book = not-false sound t₂.0;
      label = ltb-false label_most (length a.label) t₃.0;
      slot = ltb-false (a.lent.dictionary_words / 12) (name_count + 1) t₄.0;
      cells = omega (arith, ltb-false (a.lent.cell_words / 4) (1 + (length a.label + 7) / 8) t₅.0);
    }

-- No predefined name is `label`.
label_unknown : slot_of (bytes "label") initial.machine.dictionary ≡ length initial.machine.dictionary
unfolding slot_of initial predefined table slot ◌is◌ same textual
label_unknown = refl

label_short : length (bytes "label") ≤ 31
unfolding textual
label_short = omega arith

module _ (script : List ℕ) (fuel : ℕ) (label : List ℕ) (sound : Bool) (s e d c l o : List ℕ) (q : none ≡ before (asked script fuel label s e d c l o) sound) where
  abbrev a : Asked
  a = asked script fuel label s e d c l o

  pub label_ready : lending.Ready script fuel (bytes "label") label (whole 2 s) (whole 8 e) (whole 12 d) (whole 4 c) l o
  label_ready =
      let P = passed a sound q in
      let A = accepted script fuel (lent_of s e d c l o) P.setup in
      record {
        setup = ready script fuel s e d c l o (sym P.setup);
        scratch = omega (arith, length-take-le (length s / 2 * 2) s (omega arith), A.stack_slots.0);
        short = label_short;
        unknown = label_unknown;
        slot = omega (arith, length-take-le (length d / 12 * 12) d (omega arith), P.slot);
        cells = omega (arith, length-take-le (length c / 4 * 4) c (omega arith), P.cells);
      }

  run_whole : run_of (asked script fuel label (whole 2 s) (whole 8 e) (whole 12 d) (whole 4 c) l o) ≡ run_of a
  unfolding run_of
  run_whole = ap (λ (x : Limits). run x script fuel (labelled label)) (room_same script fuel s e d c l o)

  pub went : {ys ye yd yc l' o' : List ℕ}
      → length ys ≡ length (whole 2 s)
      → length ye ≡ length (whole 8 e)
      → length yd ≡ length (whole 12 d)
      → length yc ≡ length (whole 4 c)
      → {r : Ran}
      → CarriesLabel script fuel label (whole 2 s) ys (whole 8 e) ye (whole 12 d) yd (whole 4 c) yc l l' o o' r
      → Labelled a sound s (ys ++ past 2 s) e (ye ++ past 8 e) d (yd ++ past 12 d) c (yc ++ past 4 c) l l' o o' r
  went {ys} {ye} {yd} {yc} {l'} {o'} ks ke kd kc {r} C = record {
    left = subst (LeftOrNone a r) q (subst (λ (x : Run). Left x r) run_whole C.left);
    run = subst (RunOrNone a s (ys ++ past 2 s) e (ye ++ past 8 e) d (yd ++ past 12 d) c (yc ++ past 4 c) l l' o o' r.report) q
        (whole_run script fuel s e d c l o (labelled label) 2 (length (whole 4 c)) ks ke kd kc C.run);
  }
