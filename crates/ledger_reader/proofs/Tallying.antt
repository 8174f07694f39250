-- The loop of `tally_lines`: the least rank so far and the rank of what is left give the rank of the whole.
-- Assumes nothing.
use mathlib.Core.Path.{◌≡◌, refl, sym, ap, subst, ◌∙◌}
use mathlib.Core.Bool.{Bool, true, false, true≢false}
use mathlib.Core.List.{List}
use mathlib.Core.Option.{Option, none, some}
use Prim.Native.Nat.{ℕ, ◌+◌, ◌-◌, ◌≤◌, ◌<◌}
use native.Mathlib.Omega.{arith}
use lib.ListN.{length, drop}
use lib.Dec.{ltb}
use Rattle.book.specs.declared.Record.{Record}
use Rattle.ledger.specs.Reading.{fresh, Lines, read_from}
use Rattle.ledger.specs.Pieces.{is_there}
use Rattle.ledger.specs.Stages.{Ranked, uneven, unnumbered, unplaced, good, Staged, counted, numbered, placed, passed, ranked_more, none_staged, lesser, lesser_assoc, lesser_least, lesser_most}
use Rattle.ledger_reader.specs.declared.Line.{Line}
use Rattle.ledger_reader.specs.Lines as lines
use Rattle.std.specs.Prelude.{Some, None, Result, Ok, Err}
use Rattle.std.specs.Prelude as std
use Rattle.ledger_reader.specs.declared.Flaw.{Flaw}
use Rattle.ledger_reader.specs.declared.Flaw.TheVariants.{FieldCount, BadNumber, BadPlace}
use Rattle.ledger_reader.specs.Lines.{rank_of, rank_told, rank_is, LineHas, LineAt, Tallied}

either : (P : ℕ → Type 0) (a b : ℕ) → P a → P b → P (lesser a b)
unfolding lesser
either P a b x y = by (ltb a b)
  where
    by : (t : Bool) → P (mathlib.Core.Bool.cond t a b)
    by true = x
    by false = y

ranked_most : {l : List (List ℕ)} {k : ℕ} {r : Record} → Ranked l k r → k ≤ 3
ranked_most (uneven e) = omega arith
ranked_most (unnumbered e f) = omega arith
ranked_most (unplaced e f g) = omega arith
ranked_most (good e f g h) = omega arith

staged_top : {ls : Lines} {m : ℕ} → Staged ls m → Staged ls (lesser 3 m)
unfolding lesser
staged_top (counted h) = counted h
staged_top (numbered h i) = numbered h i
staged_top (placed h i j) = placed h i j
staged_top (passed h i j) = passed h i j

-- What is told of the whole, if what is left is of rank m.
pub record Whole (text : List ℕ) (start rank count : ℕ) : Type 0 where
  pub lines : Lines
  pub reads : read_from fresh (drop start text) ≡ some lines
  pub staged : Staged lines rank
  pub counts : length lines ≡ count

pub record Tallying (text : List ℕ) (start at rank count : ℕ) : Type 0 where
  pub inside : at ≤ length text
  pub few : count + start ≤ at
  pub most : rank ≤ 3
  pub some_rank : rank ≡ 0 → ⊥
  pub left : Lines
  pub reads : read_from fresh (drop at text) ≡ some left
  pub then : (m : ℕ) → Staged left m → Whole text start (lesser rank m) (count + length left)

is_there_lem : (o : Option Lines) → is_there o ≡ true → (ls : Lines) × (o ≡ some ls)
unfolding is_there
is_there_lem none e = absurd (true≢false (sym e))
is_there_lem (some ls) e = (ls, refl)

pub tallying_starts : (text : List ℕ) (start : ℕ) → (start ≤ length text) × (is_there (read_from fresh (drop start text)) ≡ true) → Tallying text start start 3 0
tallying_starts text start h =
    let r = is_there_lem (read_from fresh (drop start text)) h.1 in
    record {
      inside = h.0;
      few = omega arith;
      most = omega arith;
      some_rank = λ e. omega (arith, e);
      left = r.0;
      reads = r.1;
      then = λ m s. record { lines = r.0; reads = r.1; staged = staged_top s; counts = omega arith };
    }

pub tallying_ends : {text : List ℕ} {start at count : ℕ} (worst : std.Option Flaw) → Tallying text start at (rank_told worst) count → LineAt text at None → Whole text start (rank_told worst) count
tallying_ends {text} {start} {at} {count} worst t is =
    let l = is.told t.left t.reads in
    let w = t.then 3 (subst (λ ls. Staged ls 3) (sym l) none_staged) in
    let k = ap (λ (ls : Lines). length ls) l in
    let n = w.counts in
    record { lines = w.lines; reads = w.reads; staged = subst (Staged w.lines) (lesser_most (rank_told worst) t.most) w.staged; counts = omega (arith, k, n) }

pub tallied_flaw : {text : List ℕ} {start count : ℕ} (worst : std.Option Flaw) {f : Flaw} → Whole text start (rank_told worst) count → worst ≡ Some f → Tallied text start (Err f)
tallied_flaw worst w e = record { lines = w.lines; reads = w.reads; staged = subst (Staged w.lines) (ap rank_told e) w.staged; counts = tt }

pub tallied_all : {text : List ℕ} {start count : ℕ} (worst : std.Option Flaw) → Whole text start (rank_told worst) count → worst ≡ None → Tallied text start (Ok count)
tallied_all worst w e = record { lines = w.lines; reads = w.reads; staged = subst (Staged w.lines) (ap rank_told e) w.staged; counts = w.counts }

module _ {text : List ℕ} {start at rank count : ℕ} (t : Tallying text start at rank count) {r : Line} (is : LineAt text at (Some r)) where
  here : LineHas text at t.left r
  here = is.told t.left t.reads

  pub tallying_uneven : r.entry ≡ Err FieldCount → Tallied text start (Err FieldCount)
  tallying_uneven z = by here
    where
      by : LineHas text at t.left r → Tallied text start (Err FieldCount)
      by (lines.uneven q l) =
          let w = t.then 0 (counted l) in
          record { lines = w.lines; reads = w.reads; staged = subst (Staged w.lines) (lesser_least rank) w.staged; counts = tt }
      by (lines.line l k q d m) = absurd (q (ap rank_is z))

  module _ (n : rank_is r.entry ≡ 0 → ⊥) where
    pub tallying_less : length text - r.next < length text - at
    tallying_less = by here
      where
        by : LineHas text at t.left r → length text - r.next < length text - at
        by (lines.uneven q l) = absurd (n q)
        by (lines.line l k q d m) = let i = is.inside in omega (arith, i, m)

    pub tallying_on : count + start < r.next
    tallying_on = by here
      where
        by : LineHas text at t.left r → count + start < r.next
        by (lines.uneven q l) = absurd (n q)
        by (lines.line l k q d m) = let i = t.few in omega (arith, i, m)

    pub tallying_next : {k : ℕ} → k ≡ lesser rank (rank_is r.entry) → Tallying text start r.next k (count + 1)
    tallying_next {k} g = by here
      where
        by : LineHas text at t.left r → Tallying text start r.next k (count + 1)
        by (lines.uneven q l) = absurd (n q)
        by (lines.line {l = x} {rest = rest} l ranked q d m) =
            let f = t.few in
            let c = ap (λ (ls : Lines). length ls) l in
            record {
              inside = is.inside;
              few = omega (arith, f, m);
              most = subst (λ y. y ≤ 3) (sym g) (either (λ y. y ≤ 3) rank (rank_is r.entry) t.most (ranked_most ranked));
              some_rank = subst (λ y. y ≡ 0 → ⊥) (sym g) (either (λ y. y ≡ 0 → ⊥) rank (rank_is r.entry) t.some_rank n);
              left = rest;
              reads = d;
              then = λ y s.
                  let w = t.then (lesser (rank_is r.entry) y) (subst (λ ls. Staged ls (lesser (rank_is r.entry) y)) (sym l) (ranked_more ranked s)) in
                  let v = w.counts in
                  record { lines = w.lines; reads = w.reads; staged = subst (Staged w.lines) (lesser_assoc rank (rank_is r.entry) y ∙ ap (λ z. lesser z y) (sym g)) w.staged; counts = omega (arith, v, c) };
            }

module _ {text : List ℕ} {start at count : ℕ} (worst : std.Option Flaw) (t : Tallying text start at (rank_told worst) count) {r : Line} (is : LineAt text at (Some r)) where
  pub tallying_good : {e : Record} → r.entry ≡ Ok e → Tallying text start r.next (rank_told worst) (count + 1)
  tallying_good e =
      let k = ap rank_is e in
      tallying_next t is (λ z. omega (arith, z, k)) (sym (lesser_most (rank_told worst) t.most) ∙ ap (lesser (rank_told worst)) (sym k))

  pub tallying_flawed : {f : Flaw} (w : Flaw) → r.entry ≡ Err f → (f ≡ FieldCount → ⊥) → rank_of w ≡ lesser (rank_told worst) (rank_of f) → Tallying text start r.next (rank_of w) (count + 1)
  tallying_flawed {f} w e n k = tallying_next t is (λ z. n (some_flaw f (sym (ap rank_is e) ∙ z))) (k ∙ ap (lesser (rank_told worst)) (sym (ap rank_is e)))
    where
      some_flaw : (f : Flaw) → rank_of f ≡ 0 → f ≡ FieldCount
      some_flaw FieldCount z = refl
      some_flaw BadNumber z = absurd (omega (arith, z))
      some_flaw BadPlace z = absurd (omega (arith, z))
