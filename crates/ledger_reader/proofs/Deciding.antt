-- The answers of `judge` are the definition's, stage by stage.
-- Assumes nothing.
use mathlib.Core.Path.{◌≡◌, refl, sym, ap, subst, ◌∙◌}
use mathlib.Core.Bool.{Bool, true, false}
use mathlib.Core.List.{List, [], ◌∷◌}
use mathlib.Core.Option.{Option, none, some}
use Prim.Native.Nat.{ℕ, suc, ◌≤◌, ◌<◌}
use native.Mathlib.Omega.{arith}
use lib.ListN.{length, drop}
use lib.Dec.{leb}
use borrow.Author.Tests.{le-leb, lt-leb}
use Rattle.semantics.specs.ListLaws.{some_one}
use Rattle.book.specs.Books.{Entry, once}
use Rattle.ledger.specs.Reading.{Refusal, accepted, refused, ◌>>=◌, check, bad_header, bad_quoting, field_count, bad_number, bad_place, socket_twice, too_many, after_header, fresh, Lines, read_from, each, Row, row_of, entry_in, places_fit, numbers_of, reading}
use Rattle.ledger.specs.AnswerLaws.{given_then, given_not, check_then, check_not}
use Rattle.ledger.specs.Pieces.{is_there}
use Rattle.ledger.specs.Stages.{Staged, counted, numbered, placed, passed}
use Rattle.std.specs.Prelude.{Result, Ok, Err, IsErrAnd}
use Rattle.book.specs.Books.{room_of}
use Rattle.book.specs.declared.Record.{Record}
use Rattle.book.proofs.SoundLaws.{room_within}
use Rattle.ledger.proofs.SoundLaws.{accepted_sound}
use Rattle.ledger_reader.specs.declared.Flaw.{Flaw}
use Rattle.ledger_reader.specs.declared.Flaw.TheVariants.{FieldCount, BadNumber, BadPlace}
use Rattle.ledger_reader.specs.declared.LedgerError.{LedgerError}
use Rattle.ledger_reader.specs.declared.LedgerError.TheVariants.{BadHeader, BadQuoting, SocketTwice, TooMany}
use Rattle.ledger_reader.specs.declared.Judged.{Judged}
use Rattle.ledger_reader.specs.Lines.{Tallied, RestAt, Rests, OnceIn, Fillable, Fills}
use Rattle.ledger_reader.specs.Judging.{answer_of, book_after, error_for, Judges, Reads}
use Rattle.ledger_reader.proofs.Resting.{each_back, rest_one}

-- ---- the stages, by their numbers

record AtNumbers (ls : Lines) : Type 0 where
  rows : List Row
  threes : each row_of ls ≡ some rows
  numbers : each entry_in rows ≡ none

record AtPlaces (ls : Lines) (t : Bool) : Type 0 where
  rows : List Row
  records : List Entry
  threes : each row_of ls ≡ some rows
  numbers : each entry_in rows ≡ some records
  places : places_fit records ≡ t

stage_none : {ls : Lines} {m : ℕ} → Staged ls m → m ≡ 0 → each row_of ls ≡ none
stage_none (counted h) e = h
stage_none (numbered h i) e = absurd (omega (arith, e))
stage_none (placed h i j) e = absurd (omega (arith, e))
stage_none (passed h i j) e = absurd (omega (arith, e))

stage_number : {ls : Lines} {m : ℕ} → Staged ls m → m ≡ 1 → AtNumbers ls
stage_number (counted h) e = absurd (omega (arith, e))
stage_number (numbered {rows = rows} h i) e = record { rows = rows; threes = h; numbers = i }
stage_number (placed h i j) e = absurd (omega (arith, e))
stage_number (passed h i j) e = absurd (omega (arith, e))

stage_place : {ls : Lines} {m : ℕ} → Staged ls m → m ≡ 2 → AtPlaces ls false
stage_place (counted h) e = absurd (omega (arith, e))
stage_place (numbered h i) e = absurd (omega (arith, e))
stage_place (placed {rows = rows} {es = es} h i j) e = record { rows = rows; records = es; threes = h; numbers = i; places = j }
stage_place (passed h i j) e = absurd (omega (arith, e))

stage_passed : {ls : Lines} {m : ℕ} → Staged ls m → (m ≡ 0 → ⊥) → (m ≡ 1 → ⊥) → (m ≡ 2 → ⊥) → AtPlaces ls true
stage_passed (counted h) a b c = absurd (a refl)
stage_passed (numbered h i) a b c = absurd (b refl)
stage_passed (placed h i j) a b c = absurd (c refl)
stage_passed (passed {rows = rows} {es = es} h i j) a b c = record { rows = rows; records = es; threes = h; numbers = i; places = j }

each_length : {A B : Type 0} (f : A → Option B) (l : List A) (bs : List B) → each f l ≡ some bs → length bs ≡ length l
unfolding each
each_length f [] bs e = ap length (sym (some_one e))
each_length f (a ∷ l) bs e =
    let h = each_back f a l e in
    ap length h.4 ∙ ap suc (each_length f l h.1 h.3)

-- ---- the answers

module _ (room : ℕ) (text : List ℕ) where
  -- A refusal is told.
  refusing : (why : Refusal) {e : LedgerError} → reading room text ≡ refused why → answer_of (refused why) ≡ Err e → Judges room text (Err e)
  refusing why e t = (why, e, t)

  pub header_bad : after_header text ≡ none → Judges room text (Err BadHeader)
  unfolding reading
  header_bad n = refusing bad_header (given_not bad_header _ n) refl

  module _ {start : ℕ} (h : (start ≤ length text) × (after_header text ≡ some (drop start text))) where
    not_there : (o : Option Lines) → is_there o ≡ false → o ≡ none
    unfolding is_there
    not_there none e = refl
    not_there (some ls) e = let z : ◌≡◌ {A = ℕ} 0 1 = cc in absurd (omega arith)

    module _ {t : Bool} (is : t ≡ is_there (read_from fresh (drop start text))) where
      pub quoting_bad : t ≡ false → Judges room text (Err BadQuoting)
      unfolding reading
      quoting_bad e = refusing bad_quoting (given_then bad_header _ h.1 ∙ given_not bad_quoting _ (not_there _ (sym is ∙ e))) refl

      -- The flaw that is told of the lines is told of the text.
      pub flaw_told : (f : Flaw) → Tallied text start (Err f) → Judges room text (Err (error_for f))
      unfolding reading
      flaw_told FieldCount a = refusing field_count (given_then bad_header _ h.1 ∙ given_then bad_quoting _ a.reads ∙ given_not field_count _ (stage_none a.staged refl)) refl
      flaw_told BadNumber a =
          let s = stage_number a.staged refl in
          refusing bad_number (given_then bad_header _ h.1 ∙ given_then bad_quoting _ a.reads ∙ given_then field_count _ s.threes ∙ given_not bad_number _ s.numbers) refl
      flaw_told BadPlace a =
          let s = stage_place a.staged refl in
          refusing bad_place (given_then bad_header _ h.1 ∙ given_then bad_quoting _ a.reads ∙ given_then field_count _ s.threes ∙ given_then bad_number _ s.numbers ∙ check_not bad_place _ s.places) refl

      pub flaw_passed : (r : Result Judged LedgerError) {f : Flaw} → Tallied text start (Err f) → IsErrAnd r (λ e. e ≡ error_for f) → Judges room text r
      flaw_passed r {f} a k = by r k
        where
          by : (r : Result Judged LedgerError) → IsErrAnd r (λ e. e ≡ error_for f) → Judges room text r
          by (Ok j) k = absurd k
          by (Err e) k = subst (λ (x : LedgerError). Judges room text (Err x)) (sym k) (flaw_told f a)

      module _ {count : ℕ} (a : Tallied text start (Ok count)) where
        s : AtPlaces a.lines true
        s = stage_passed a.staged (λ e. omega (arith, e)) (λ e. omega (arith, e)) (λ e. omega (arith, e))

        rest : RestAt text start s.records
        rest = record { inside = h.0; lines = a.lines; rows = s.rows; reads = a.reads; threes = s.threes; numbers = s.numbers; places = s.places }

        pub rests : Rests text start
        rests = (s.records, rest)

        -- What is left to be decided once every place is in range.
        placed_all : reading room text ≡ (check (once (numbers_of s.records)) socket_twice >>= λ _. check (leb (length s.records) room) too_many >>= λ _. accepted s.records)
        unfolding reading
        placed_all =
            given_then bad_header _ h.1
            ∙ given_then bad_quoting _ a.reads
            ∙ given_then field_count _ s.threes
            ∙ given_then bad_number _ s.numbers
            ∙ check_then bad_place _ s.places

        many : length s.records ≡ count
        many = each_length entry_in s.rows s.records s.numbers ∙ each_length row_of a.lines s.rows s.threes ∙ a.counts

        module _ {u : Bool} (o : OnceIn text start u) where
          alone : u ≡ once (numbers_of s.records)
          alone = o.alone ∙ ap (λ es. once (numbers_of es)) (rest_one o.rest rest)

          pub socket_twice_lem : u ≡ false → Judges room text (Err SocketTwice)
          socket_twice_lem e = refusing socket_twice (placed_all ∙ check_not socket_twice _ (sym alone ∙ e)) refl

          pub too_many_lem : u ≡ true → room < count → Judges room text (Err TooMany)
          too_many_lem e l =
              refusing too_many (placed_all ∙ check_then socket_twice _ (sym alone ∙ e) ∙ check_not too_many _ (lt-leb (length s.records) room (let m = many in omega (arith, l, m)))) refl

          pub all_read : u ≡ true → count ≤ room → Judges room text (Ok (record { start = start; count = count }))
          all_read e l = (
            s.records,
            placed_all ∙ check_then socket_twice _ (sym alone ∙ e) ∙ check_then too_many _ (le-leb (length s.records) room (let m = many in omega (arith, l, m))),
            sym many,
            rest,
          )

-- ---- the promise

module _ (text : List ℕ) (book : List Record) (room : ℕ) (q : room ≡ room_of (length book)) where
  pub read_fits : (j : Judged) → Judges room text (Ok j) → Fillable text j.start j.count book
  read_fits j (es, e, c, t) =
      let few = (accepted_sound room text es e).roomy in
      let w = (room_within (length book)).0 in
      record { records = es; rest = t; size = sym c; room = omega (arith, c, few, w, q) }

  pub read_records : (j : Judged) {book' : List Record} → Judges room text (Ok j) → Fills text j.start book book' → Reads text book book' (Ok j.count)
  read_records j (es, e, c, t) f =
      let is = ap (λ n. reading n text) (sym q) ∙ e in
      record { answer = ap (λ (n : ℕ). Ok n) c ∙ ap answer_of (sym is); records = f es t ∙ ap (λ w. book_after w book) (sym is) }

  read_refused : (e : LedgerError) → Judges room text (Err e) → Reads text book book (Err e)
  read_refused e (why, x, t) =
      let is = ap (λ n. reading n text) (sym q) ∙ x in
      record { answer = sym t ∙ ap answer_of (sym is); records = ap (λ w. book_after w book) (sym is) }

  pub read_passed : (r : Result ℕ LedgerError) (e : LedgerError) → Judges room text (Err e) → IsErrAnd r (λ x. x ≡ e) → Reads text book book r
  read_passed (Ok n) e j k = absurd k
  read_passed (Err x) e j k = subst (λ (y : LedgerError). Reads text book book (Err y)) (sym k) (read_refused e j)
