-- The round trip for books: a sound book that is written reads back as what it says, in the same order; a book that an accepted text
-- replaces is sound, and says what the text says. A text has at most 19 bytes and 88 for each record.
-- Assumes nothing.
use Rattle.std.specs.Prelude.{◌≡◌, refl, Bool, false, ◌&&◌, cond, List, [], ◌∷◌, ◌++◌, map, ℕ, suc, ◌+◌, ◌*◌, ◌≤◌, length, take, drop, eqb}
use Rattle.std.proofs.Common.{ap₂, subst, ◌∙◌, arith, length-append, length-drop, length-take-le}
use Rattle.std.proofs.Math.Path.{ap}
use Rattle.std.proofs.Math.Bool.{true, and-eq-true_iff}
use Rattle.std.proofs.lemmas.List.{length-map}
use Rattle.std.proofs.Math.Dec.{leb}
use borrow.Author.Tests.{leb-true, le-leb}
use Rattle.semantics.specs.Text.{textual, decimal}
use Rattle.semantics.specs.TextLaws.{decimal_length}
use Rattle.semantics.specs.ResultLaws.{choose_cond}
use Rattle.semantics.specs.ListLaws.{All, nil, cons, all_take}
use Rattle.book.specs.Books.{Entry, IsEntry, greatest, entry_of, record_of, room_of, is_place_length, are_in_range, in_range, all_in_range, once, is_sound}
use Rattle.book.proofs.SoundLaws.{room_within, sound_count}
use Rattle.book.proofs.BookLaws.{record_entry}
use Rattle.book.proofs.BookLaws.{entry_range}
use Rattle.book.specs.declared.Record.{Record}
use Rattle.ledger.specs.Ledger.{needs_quotes, doubled, in_quotes, field, line, lines, header, ledger_text, entries_of, Writing, malformed, too_short, written, written_in, writing}
use Rattle.ledger.specs.Reading.{accepted, numbers_of, reading, replaced}
use Rattle.ledger.specs.Sound.{Sound}
use Rattle.ledger.proofs.RoundTrip.{round}
use Rattle.ledger.proofs.SoundLaws.{place_range, accepted_sound}
use Rattle.ledger.specs.BookLaws.{Whole}

entry_is : (r : Record) → Whole r → in_range r ≡ true → IsEntry (entry_of r)
unfolding in_range are_in_range entry_of
entry_is r w e =
    let h = (and-eq-true_iff (leb r.number greatest && leb r.time greatest) (is_place_length r.length)).0 e in
    let k = (and-eq-true_iff (leb r.number greatest) (leb r.time greatest)).0 h.0 in
    let p = place_range r.length h.1 in
    let size : length (take r.length r.place) ≡ r.length = length-take-le r.length r.place (omega (arith, w, p.1)) in
    record {
      number = leb-true r.number greatest k.0;
      some_bytes = omega (arith, size, p.0);
      few_bytes = omega (arith, size, p.1);
      time = leb-true r.time greatest k.1;
    }

entries_are : (rs : List Record) → All Whole rs → all_in_range rs ≡ true → All IsEntry (map entry_of rs)
unfolding all_in_range
entries_are [] ws e = nil
entries_are (r ∷ rs) (cons w ws) e =
    let h = (and-eq-true_iff (in_range r) (all_in_range rs)).0 e in
    cons (entry_is r w h.0) (entries_are rs ws h.1)

same_numbers : (rs : List Record) → numbers_of (map entry_of rs) ≡ map (λ (r : Record). r.number) rs
unfolding numbers_of entry_of
same_numbers [] = refl
same_numbers (r ∷ rs) = ap (◌∷◌ r.number) (same_numbers rs)

pub sound_entries : (book : List Record) (count room : ℕ) → All Whole book → is_sound book count ≡ true → count ≤ room → Sound room (entries_of book count)
unfolding is_sound entries_of
sound_entries book count room ws e h =
    let fits = sound_count book count e in
    let k = (and-eq-true_iff (leb count (room_of (length book)) && all_in_range (take count book)) (once (map (λ (r : Record). r.number) (take count book)))).0 e in
    let m = (and-eq-true_iff (leb count (room_of (length book))) (all_in_range (take count book))).0 k.0 in
    let inside : count ≤ length book = omega (arith, fits, (room_within (length book)).0) in
    let size : length (map entry_of (take count book)) ≡ count = length-map (take count book) entry_of ∙ length-take-le count book inside in
    record {
      entries = entries_are (take count book) (all_take count ws) m.1;
      sockets = ap once (same_numbers (take count book)) ∙ k.1;
      roomy = omega (arith, size, h);
    }

-- ---- the round trip of a book

no_text : {A : Type 0} {t : List ℕ} → malformed ≡ written t → A
no_text e =
    let z : ◌≡◌ {A = ℕ} 0 1 = cc in
    absurd (omega arith)

short_text_lem : {A : Type 0} {t : List ℕ} → too_short ≡ written t → A
short_text_lem e =
    let z : ◌≡◌ {A = ℕ} 0 1 = cc in
    absurd (omega arith)

text_in : (b : Bool) (s t : List ℕ) → cond b (written s) too_short ≡ written t → s ≡ t
text_in true s t e = cc
text_in false s t e = short_text_lem e

text_of : (b : Bool) (w : Writing) (t : List ℕ) → cond b w malformed ≡ written t → (b ≡ true) × (w ≡ written t)
text_of true w t e = (refl, e)
text_of false w t e = no_text e

-- What is written is the text of a sound book.
pub written_text : (book : List Record) (count lent : ℕ) (t : List ℕ) → writing book count lent ≡ written t → (is_sound book count ≡ true) × (ledger_text (entries_of book count) ≡ t)
unfolding writing written_in
written_text book count lent t e =
    let h = text_of (is_sound book count) _ t e in
    (h.0, text_in (leb (length (ledger_text (entries_of book count))) lent) _ t h.1)

-- A written book reads back as the same records in the same order, wherever they fit.
pub round_book : (book : List Record) (count lent room : ℕ) (t : List ℕ)
    → All Whole book
    → writing book count lent ≡ written t
    → count ≤ room
    → reading room t ≡ accepted (entries_of book count)
round_book book count lent room t ws e h =
    let k = written_text book count lent t e in
    subst (λ s. reading room s ≡ accepted (entries_of book count)) k.1 (round room (entries_of book count) (sound_entries book count room ws k.0 h))

-- ---- the book that an accepted text leaves

records_in_range : (es : List Entry) → All IsEntry es → all_in_range (map record_of es) ≡ true
unfolding all_in_range
records_in_range [] hs = refl
records_in_range (e ∷ es) (cons h hs) = ap₂ ◌&&◌ (entry_range e h) (records_in_range es hs)

record_numbers : (es : List Entry) → map (λ (r : Record). r.number) (map record_of es) ≡ numbers_of es
unfolding numbers_of record_of
record_numbers [] = refl
record_numbers (e ∷ es) = ap (◌∷◌ e.number) (record_numbers es)

take_front : (es : List Entry) (rs : List Record) → take (length es) (map record_of es ++ rs) ≡ map record_of es
take_front [] rs = refl
take_front (e ∷ es) rs = ap (◌∷◌ (record_of e)) (take_front es rs)

back_again : (es : List Entry) → map entry_of (map record_of es) ≡ es
back_again [] = refl
back_again (e ∷ es) = ap₂ ◌∷◌ (record_entry e) (back_again es)

pub replaced_says : (es : List Entry) (book : List Record) → entries_of (replaced es book) (length es) ≡ es
unfolding entries_of replaced
replaced_says es book = ap (map entry_of) (take_front es (drop (length es) book)) ∙ back_again es

pub replaced_length : (es : List Entry) (book : List Record) → length es ≤ length book → length (replaced es book) ≡ length book
unfolding replaced
replaced_length es book h =
    let a = length-append (map record_of es) (drop (length es) book) in
    let b = length-map es record_of in
    let c = length-drop (length es) book in
    omega (arith, a, b, c, h)

drop_front : (es : List Entry) (rs : List Record) → drop (length es) (map record_of es ++ rs) ≡ rs
drop_front [] rs = refl
drop_front (e ∷ es) rs = drop_front es rs

-- Lent records past the count stay.
pub replaced_stays : (es : List Entry) (book : List Record) → drop (length es) (replaced es book) ≡ drop (length es) book
unfolding replaced
replaced_stays es book = drop_front es (drop (length es) book)

pub replaced_sound : (text : List ℕ) (book : List Record) (es : List Entry)
    → reading (room_of (length book)) text ≡ accepted es
    → is_sound (replaced es book) (length es) ≡ true
unfolding is_sound
replaced_sound text book es e =
    let s = accepted_sound (room_of (length book)) text es e in
    let inside : length es ≤ length book = omega (arith, s.roomy, (room_within (length book)).0) in
    let size : length (replaced es book) ≡ length book = replaced_length es book inside in
    let front : take (length es) (replaced es book) ≡ map record_of es = unfold replaced in take_front es (drop (length es) book) in
    let fits : leb (length es) (room_of (length (replaced es book))) ≡ true = ap (λ n. leb (length es) (room_of n)) size ∙ le-leb (length es) (room_of (length book)) s.roomy in
    let ranges : all_in_range (take (length es) (replaced es book)) ≡ true = ap all_in_range front ∙ records_in_range es s.entries in
    let numbers : once (map (λ (r : Record). r.number) (take (length es) (replaced es book))) ≡ true =
    ap (λ rs. once (map (λ (r : Record). r.number) rs)) front ∙ ap once (record_numbers es) ∙ s.sockets in
    ap (λ t. t && all_in_range (take (length es) (replaced es book)) && once (map (λ (r : Record). r.number) (take (length es) (replaced es book)))) fits
    ∙ ap (λ t. t && once (map (λ (r : Record). r.number) (take (length es) (replaced es book)))) ranges
    ∙ numbers

-- ---- how long a text is

doubled_length : (f : List ℕ) → length (doubled f) ≤ 2 * length f
unfolding doubled
doubled_length [] = omega arith
doubled_length (b ∷ f) =
    choose_cond (λ l. length l ≤ 2 * suc (length f)) (eqb b 34) (34 ∷ 34 ∷ doubled f) (b ∷ doubled f)
    (λ t. omega (arith, doubled_length f))
    (λ t. omega (arith, doubled_length f))

field_length : (f s : List ℕ) → length (field f s) ≤ 2 + 2 * length f + length s
unfolding field in_quotes
field_length f s =
    choose_cond (λ l. length l ≤ 2 + 2 * length f + length s) (needs_quotes f) (34 ∷ doubled f ++ 34 ∷ s) (f ++ s)
    (λ t. omega (arith, length-append (doubled f) (34 ∷ s), doubled_length f))
    (λ t. omega (arith, length-append f s))

pub line_length : (e : Entry) (s : List ℕ) → length e.place ≤ 31 → length (line e s) ≤ 88 + length s
unfolding line
line_length e s h =
    let n = decimal e.number in
    let t = decimal e.time in
    let third = 44 ∷ t ++ 13 ∷ 10 ∷ s in
    let a = length-append n (44 ∷ field e.place third) in
    let b = field_length e.place third in
    let c = length-append t (13 ∷ 10 ∷ s) in
    let d = decimal_length e.number in
    let k = decimal_length e.time in
    omega (arith, a, b, c, d, k, h)

lines_length : (es : List Entry) → All IsEntry es → length (lines es) ≤ 88 * length es
unfolding lines
lines_length [] hs = omega arith
lines_length (e ∷ es) (cons h hs) = omega (arith, line_length e (lines es) h.few_bytes, lines_length es hs)

pub text_length : (es : List Entry) → All IsEntry es → length (ledger_text es) ≤ 19 + 88 * length es
unfolding ledger_text header textual
text_length es hs = omega (arith, lines_length es hs)
