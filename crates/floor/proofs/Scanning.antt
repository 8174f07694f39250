-- The parts of a scan together: the book's judgement, the run with the label, and what became of its entry are the definition's scan.
-- Assumes nothing.
use mathlib.Core.Path.{◌≡◌, refl, sym, ap, ◌∙◌, subst}
use mathlib.Core.Bool.{Bool, true, false, cond}
use mathlib.Core.List.{List}
use mathlib.Core.Option.{Option, none, some}
use Prim.Native.Nat.{ℕ, ◌≤◌}
use lib.ListN.{length}
use Rattle.std.specs.Prelude.{Some, None}
use Rattle.std.specs.Prelude as std
use Rattle.std.proofs.lemmas.Option.{none-some}
use Rattle.book.specs.Books.{Entry, room_of, is_sound, record_of, place_of}
use Rattle.book.specs.Fates.{fate_in, book_after, count_after, Enters}
use Rattle.book.proofs.SoundLaws.{sound_count}
use Rattle.book.specs.declared.Record.{Record}
use Rattle.book.specs.declared.Entered.{Entered}
use Rattle.floor.specs.Floor.{Asked, Scan, before, run_of, entry_from, is_final, keeping, entering, after_run, ruled, scan_of}
use Rattle.floor.specs.Promise.{RunOrNone, read_of, Left, LeftOrNone, Labelled, scanned_of, Scans}
use Rattle.floor.specs.declared.Answer.{Answer}
use Rattle.floor.specs.declared.Answer.TheVariants.{NotFinished, BadStack}
use Rattle.floor.specs.declared.Ran.{Ran}
use Rattle.floor.specs.declared.Scanned.{Scanned}
use Rattle.floor.proofs.Labelling.{passed}

-- ---- before the book is asked

module _ {a : Asked} {sound : Bool} (b : List Record) (n : ℕ) {s s' e e' d d' c c' l l' o o' : List ℕ} {ran : Ran}
    (S : sound ≡ is_sound b n) (L : Labelled a sound s s' e e' d d' c c' l l' o o' ran) where
  -- An entry is there only where the book is sound.
  pub may_enter : (r : Record) → ran.entry ≡ Some r → n ≤ room_of (length b)
  may_enter r q = by (before a sound) refl L.left
    where
      by : (x : Option Answer) → before a sound ≡ x → LeftOrNone a ran x → n ≤ room_of (length b)
      by (some x) k (_, dead) = absurd (none-some r (sym dead ∙ q))
      by none k _ = sound_count b n (sym S ∙ (passed a sound (sym k)).book)

-- ---- after it

module _ (a : Asked) (b b' : List Record) (n : ℕ) (ran : Ran) (entered : std.Option Entered) (E : Enters ran.entry n b b' entered) where
  abbrev Told : Scan → Type 0
  Told x = ((scanned_of ran entered n).answer ≡ x.answer) × (b' ≡ x.book) × ((scanned_of ran entered n).count ≡ x.count)

  no_entry : (x : Answer) → ran.entry ≡ None → ran.answer ≡ x → Told (keeping b n x)
  unfolding keeping
  no_entry x q k =
      let F : (entered ≡ None) × (b' ≡ b) = subst (λ (e : std.Option Record). Enters e n b b' entered) q E in
      (ap (λ (e : std.Option Entered). (scanned_of ran e n).answer) F.0 ∙ k, F.1, ap (λ (e : std.Option Entered). (scanned_of ran e n).count) F.0)

  an_entry : (x : Entry) → ran.entry ≡ Some (record_of x) → Told (entering b n (some x))
  unfolding entering
  an_entry x q =
      let r = record_of x in
      let F : (entered ≡ Some (record { fate = fate_in b n r; at = place_of b n r.number; count = count_after b n r })) × (b' ≡ book_after b n r) =
      subst (λ (e : std.Option Record). Enters e n b b' entered) q E in
      (ap (λ (e : std.Option Entered). (scanned_of ran e n).answer) F.0, F.1, ap (λ (e : std.Option Entered). (scanned_of ran e n).count) F.0)

  by_entry : (x : Option Entry) → ran.answer ≡ BadStack → ran.entry ≡ read_of x → Told (entering b n x)
  unfolding entering
  by_entry none k p = no_entry BadStack p k
  by_entry (some x) k p = an_entry x p

  by_ending : (t : Bool) (x : Option Entry) → ran.answer ≡ cond t BadStack NotFinished → ran.entry ≡ cond t (read_of x) None
      → Told (cond t (entering b n x) (keeping b n NotFinished))
  by_ending true x k p = by_entry x k p
  by_ending false x k p = no_entry NotFinished p k

  by_run : Left (run_of a) ran → Told (after_run b n (run_of a))
  unfolding after_run
  by_run (k, p) = by_ending (is_final (run_of a).ending) (entry_from (run_of a).final.machine (run_of a).final.machine.stack) k p

  by_before : (x : Option Answer) → LeftOrNone a ran x → Told (ruled b n (run_of a) x)
  unfolding ruled
  by_before (some y) (k, q) = no_entry y q k
  by_before none L = by_run L

  told : LeftOrNone a ran (before a (is_sound b n)) → Told (scan_of a b n)
  unfolding scan_of
  told L = by_before (before a (is_sound b n)) L

-- What is reported is the run's, whatever becomes of the entry.
reported : (r : Ran) (x : std.Option Entered) (n : ℕ) → (scanned_of r x n).report ≡ r.report
reported r (Some t) n = refl
reported r None n = refl

pub scanned : {a : Asked} {sound : Bool} {b b' : List Record} {n : ℕ} {s s' e e' d d' c c' l l' o o' : List ℕ} {ran : Ran} (entered : std.Option Entered) {r : Scanned}
    → sound ≡ is_sound b n
    → Labelled a sound s s' e e' d d' c c' l l' o o' ran
    → Enters ran.entry n b b' entered
    → r ≡ scanned_of ran entered n
    → Scans a b b' n s s' e e' d d' c c' l l' o o' r
scanned {a} {sound} {b} {b'} {n} {s} {s'} {e} {e'} {d} {d'} {c} {c'} {l} {l'} {o} {o'} {ran} entered {r} S L E q =
    let T = told a b b' n ran entered E (subst (λ t. LeftOrNone a ran (before a t)) S L.left) in
    subst (Scans a b b' n s s' e e' d d' c c' l l' o o') (sym q)
    (record {
      answer = T.0;
      book = T.1;
      count = T.2;
      run = subst (λ y. RunOrNone a s s' e e' d d' c c' l l' o o' y (before a (is_sound b n))) (sym (reported ran entered n))
          (subst (λ t. RunOrNone a s s' e e' d d' c c' l l' o o' ran.report (before a t)) S L.run);
    })
