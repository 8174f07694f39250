-- The line at a place, field by field: what the first three fields close with tells how many there are, and they are the line's.
-- Assumes nothing.
use mathlib.Core.Path.{◌≡◌, refl, sym, ap, ap₂, subst, ◌∙◌}
use mathlib.Core.Bool.{Bool, true, false, true≢false}
use mathlib.Core.List.{List, [], ◌∷◌}
use mathlib.Core.Option.{none, some}
use Prim.Native.Nat.{ℕ, ◌≤◌, ◌<◌}
use native.Mathlib.Omega.{arith}
use lib.ListN.{length, drop}
use lib.Seq.{drop-drop}
use Rattle.book.specs.declared.Record.{Record}
use Rattle.ledger.specs.Reading.{fresh, begins, Lines, read_from, each, row_of}
use Rattle.ledger.specs.Pieces as pieces
use Rattle.ledger.specs.Pieces.{Close, piece_from, Moves, piece_moves}
use Rattle.ledger.specs.Fronts.{is_over, is_comma, Front, gone, goes, stops}
use Rattle.ledger.proofs.Fronts.{front}
use Rattle.ledger.specs.Stages.{Ranked, each_not}
use Rattle.ledger_fields.specs.declared.Mode.{Mode}
use Rattle.ledger_fields.specs.declared.Mode.TheVariants.{Fresh, Begins}
use Rattle.ledger_fields.specs.declared.Field.{Field}
use Rattle.ledger_fields.specs.Fields.{mode_is, close_is, unseen, seen_from, FieldAt}
use Rattle.ledger_reader.specs.declared.Line.{Line}
use Rattle.std.specs.Prelude.{Option, Some, None, Result, Err}
use Rattle.ledger_reader.specs.declared.Flaw.{Flaw}
use Rattle.ledger_reader.specs.declared.Flaw.TheVariants.{FieldCount}
use Rattle.ledger_reader.specs.Lines.{record_by, rank_is, entry_is, uneven, line, LineAt}
use Rattle.ledger_reader.proofs.Ranking.{ranked_three, rank_some}

not_both : (c : Close) → is_over c ≡ true → is_comma c ≡ true → ⊥
not_both pieces.comma e h = true≢false (sym e)
not_both pieces.line e h = true≢false (sym e)
not_both pieces.end e h = true≢false (sym e)
not_both pieces.over e h = true≢false (sym h)
not_both pieces.wrong e h = true≢false (sym e)

no_line : {A : Type 0} {x : A} {l : List A} → x ∷ l ≡ [] → ⊥
no_line e = let z : ◌≡◌ {A = ℕ} 0 1 = cc in omega arith

one_line : {A : Type 0} {x y : A} {l m : List A} → x ∷ l ≡ y ∷ m → (x ≡ y) × (l ≡ m)
one_line e = (cc, cc)

module _ (text : List ℕ) (at : ℕ) (m : Mode) {f : Field} (is : FieldAt text at m f) where
  -- The bytes of the field.
  abbrev bytes : List ℕ
  bytes = (piece_from (mode_is m) (drop at text)).contents

  left : drop (piece_from (mode_is m) (drop at text)).taken (drop at text) ≡ drop f.next text
  left = drop-drop (piece_from (mode_is m) (drop at text)).taken at text ∙ ap (λ k. drop k text) is.places

  -- It is followed by a comma: the line goes on.
  pub record Goes (ls : Lines) : Type 0 where
    pub fields : List (List ℕ)
    pub rest : Lines
    pub reads : read_from begins (drop f.next text) ≡ some (fields ∷ rest)
    pub lines : ls ≡ (bytes ∷ fields) ∷ rest

  -- It is the last of its line.
  pub record Stops (ls : Lines) : Type 0 where
    pub rest : Lines
    pub reads : read_from fresh (drop f.next text) ≡ some rest
    pub lines : ls ≡ (bytes ∷ []) ∷ rest

  module _ {ls : Lines} (e : read_from (mode_is m) (drop at text) ≡ some ls) where
    pub field_goes : is_comma (close_is f.close) ≡ true → Goes ls
    field_goes h = by (front (mode_is m) (drop at text) ls e)
      where
        by : Front (mode_is m) (drop at text) ls → Goes ls
        by (gone k l) = absurd (not_both (piece_from (mode_is m) (drop at text)).close k (ap is_comma is.closes ∙ h))
        by (goes {fs = fs} {rest = rest} k r l) = record { fields = fs; rest = rest; reads = ap (read_from begins) (sym left) ∙ r; lines = l }
        by (stops k q r l) = absurd (true≢false (sym h ∙ sym (ap is_comma is.closes) ∙ q))

    pub field_stops : is_comma (close_is f.close) ≡ false → (ls ≡ [] → ⊥) → Stops ls
    field_stops h n = by (front (mode_is m) (drop at text) ls e)
      where
        by : Front (mode_is m) (drop at text) ls → Stops ls
        by (gone k l) = absurd (n l)
        by (goes k r l) = absurd (true≢false (sym k ∙ ap is_comma is.closes ∙ h))
        by (stops {rest = rest} k q r l) = record { rest = rest; reads = ap (read_from fresh) (sym left) ∙ r; lines = l }

    pub field_over : is_over (close_is f.close) ≡ true → ls ≡ []
    field_over h = by (front (mode_is m) (drop at text) ls e)
      where
        by : Front (mode_is m) (drop at text) ls → ls ≡ []
        by (gone k l) = l
        by (goes k r l) = absurd (not_both (close_is f.close) h (sym (ap is_comma is.closes) ∙ k))
        by (stops k q r l) = absurd (true≢false (sym h ∙ sym (ap is_over is.closes) ∙ k))

    pub field_there : is_over (close_is f.close) ≡ false → ls ≡ [] → ⊥
    field_there h l = by (front (mode_is m) (drop at text) ls e)
      where
        by : Front (mode_is m) (drop at text) ls → ⊥
        by (gone k q) = true≢false (sym k ∙ ap is_over is.closes ∙ h)
        by (goes k r q) = no_line (sym q ∙ l)
        by (stops k z r q) = no_line (sym q ∙ l)

  -- A field that a comma follows takes a byte.
  pub field_moves : is_comma (close_is f.close) ≡ true → at < f.next
  field_moves h = by (piece_from (mode_is m) (drop at text)).close (ap is_comma is.closes ∙ h) (piece_moves (mode_is m) (drop at text))
    where
      by : (c : Close) → is_comma c ≡ true → Moves c (piece_from (mode_is m) (drop at text)).taken → at < f.next
      by pieces.comma k n = let p = is.places in omega (arith, p, n)
      by pieces.line k n = absurd (true≢false (sym k))
      by pieces.end k n = absurd (true≢false (sym k))
      by pieces.over k n = absurd (true≢false (sym k))
      by pieces.wrong k n = absurd (true≢false (sym k))

  pub field_on : at ≤ f.next
  field_on = let p = is.places in omega (arith, p)

-- After a comma there is a field.
a_field : (s : List ℕ) (l : List (List ℕ)) (rest : Lines) → read_from begins s ≡ some (l ∷ rest) → (f : List ℕ) × (fs : List (List ℕ)) × (l ≡ f ∷ fs)
a_field s l rest e = by (front begins s (l ∷ rest) e)
  where
    by : Front begins s (l ∷ rest) → (f : List ℕ) × (fs : List (List ℕ)) × (l ≡ f ∷ fs)
    by (gone k q) = absurd (no_line q)
    by (goes k r q) = (_, _, (one_line q).0)
    by (stops k z r q) = (_, _, (one_line q).0)

module _ (text : List ℕ) (at : ℕ) (inside : at ≤ length text) {a : Field} (first : FieldAt text at Fresh a) where
  -- There is no line.
  pub line_over : {t : Bool} → t ≡ is_over (close_is a.close) → t ≡ true → LineAt text at None
  line_over k e = record { inside = tt; told = λ ls h. field_over text at Fresh first h (sym k ∙ e) }

  module _ {t : Bool} (k : t ≡ is_over (close_is a.close)) (here : t ≡ false) where
    there : (ls : Lines) → read_from fresh (drop at text) ≡ some ls → ls ≡ [] → ⊥
    there ls h = field_there text at Fresh first h (sym k ∙ here)

    module _ {r : Option Line} (n : r ≡ Some (record { entry = Err FieldCount; next = at })) where
      short : ((ls : Lines) → read_from fresh (drop at text) ≡ some ls → each row_of ls ≡ none) → LineAt text at r
      short g = subst (LineAt text at) (sym n) (record { inside = inside; told = λ ls h. uneven refl (g ls h) })

      -- One field, two fields, and more than three.
      pub line_one : {u : Bool} → u ≡ is_comma (close_is a.close) → u ≡ false → LineAt text at r
      unfolding row_of
      line_one c e = short (λ ls h. let s = field_stops text at Fresh first h (sym c ∙ e) (there ls h) in ap (each row_of) s.lines ∙ each_not row_of _ _ refl)

      module _ {u : Bool} (c : u ≡ is_comma (close_is a.close)) (on : u ≡ true) {b : Field} (second : FieldAt text a.next Begins b) where
        pub line_two : {v : Bool} → v ≡ is_comma (close_is b.close) → v ≡ false → LineAt text at r
        unfolding row_of
        line_two d e = short (λ ls h.
            let g = field_goes text at Fresh first h (sym c ∙ on) in
            let s = field_stops text a.next Begins second g.reads (sym d ∙ e) no_line in
            ap (each row_of) (g.lines ∙ ap (λ l. (bytes text at Fresh first ∷ l) ∷ g.rest) (one_line s.lines).0) ∙ each_not row_of _ _ refl)

        module _ {v : Bool} (d : v ≡ is_comma (close_is b.close)) (on₂ : v ≡ true) {y : Field} (third : FieldAt text b.next Begins y) where
          pub line_four : {w : Bool} → w ≡ is_comma (close_is y.close) → w ≡ true → LineAt text at r
          unfolding row_of
          line_four x e = short (λ ls h.
              let g = field_goes text at Fresh first h (sym c ∙ on) in
              let g₂ = field_goes text a.next Begins second g.reads (sym d ∙ on₂) in
              let g₃ = field_goes text b.next Begins third g₂.reads (sym x ∙ e) in
              let f = a_field (drop y.next text) g₃.fields g₃.rest g₃.reads in
              ap (each row_of) (g.lines ∙ ap (λ l. (bytes text at Fresh first ∷ l) ∷ g.rest) ((one_line g₂.lines).0 ∙ ap (λ l. bytes text a.next Begins second ∷ l) ((one_line g₃.lines).0 ∙ ap (λ l. bytes text b.next Begins third ∷ l) f.2)))
              ∙ each_not row_of _ _ refl)

    -- Three fields.
    pub line_three : {u : Bool} → u ≡ is_comma (close_is a.close) → u ≡ true → {b : Field} (second : FieldAt text a.next Begins b)
        → {v : Bool} → v ≡ is_comma (close_is b.close) → v ≡ true → {y : Field} (third : FieldAt text b.next Begins y)
        → {w : Bool} → w ≡ is_comma (close_is y.close) → w ≡ false
        → {r : Result Record Flaw} → r ≡ record_by a.seen b.seen y.seen
        → LineAt text at (Some (record { entry = r; next = y.next }))
    line_three c on {b} second d on₂ {y} third x e {r} q = record {
      inside = third.inside;
      told = λ ls h.
          let g = field_goes text at Fresh first h (sym c ∙ on) in
          let g₂ = field_goes text a.next Begins second g.reads (sym d ∙ on₂) in
          let s = field_stops text b.next Begins third g₂.reads (sym x ∙ e) no_line in
          let A = bytes text at Fresh first in
          let B = bytes text a.next Begins second in
          let Y = bytes text b.next Begins third in
          let kept = ranked_three A B Y in
          let same = ap₂ (λ k l. record_by k l (seen_from unseen Y)) first.sees second.sees ∙ ap (record_by a.seen b.seen) third.sees ∙ sym q in
          let n = field_moves text at Fresh first (sym c ∙ on) in
          let n₂ = field_on text a.next Begins second in
          let n₃ = field_on text b.next Begins third in
          line {l = A ∷ B ∷ Y ∷ []} {rest = s.rest}
          (g.lines ∙ ap₂ (λ l z. (A ∷ l) ∷ z) ((one_line g₂.lines).0 ∙ ap (λ l. B ∷ l) (one_line s.lines).0) ((one_line g₂.lines).1 ∙ (one_line s.lines).1))
          (subst (λ (k : Result Record Flaw). Ranked (A ∷ B ∷ Y ∷ []) (rank_is k) (entry_is k)) same kept)
          (λ z. rank_some a.seen b.seen y.seen (ap rank_is (sym q) ∙ z))
          s.reads
          (omega (arith, n, n₂, n₃));
    }
