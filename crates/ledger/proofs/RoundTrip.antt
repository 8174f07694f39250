-- A written book reads back as the same records in the same order (02, W11).
-- Assumes nothing.
use Rattle.std.specs.Prelude.{◌≡◌, refl, true, ◌&&◌, List, [], ◌∷◌, map, ℕ, ◌≤◌, length}
use Rattle.std.proofs.Common.{ap, ◌∙◌, le-leb}
use Rattle.std.proofs.Math.Option.{some}
use Rattle.semantics.specs.Text.{textual, decimal}
use Rattle.semantics.specs.ListLaws.{All, cons}
use Rattle.book.specs.Books.{Entry, IsEntry, is_place_length}
use Rattle.ledger.specs.Ledger.{lines, header, ledger_text}
use Rattle.ledger.specs.Reading.{accepted, after_break, after_header, mapped, each, Row, row_of, number_in, with_numbers, entry_in, places_fit, reading}
use Rattle.ledger.specs.LineLaws.{fields_of}
use Rattle.ledger.proofs.LineLaws.{lines_read}
use Rattle.ledger.specs.AnswerLaws.{accepts}
use Rattle.ledger.specs.DecimalLaws.{number_reads}
use Rattle.ledger.specs.Sound.{Sound}

pub header_reads : (es : List Entry) → after_header (ledger_text es) ≡ some (lines es)
unfolding textual header ledger_text after_break after_header
header_reads es = refl

-- The fields that are written for a record, as a row.
row_for : Entry → Row
row_for e = record { number = decimal e.number; place = e.place; time = decimal e.time }

rows_read : (es : List Entry) → each row_of (map fields_of es) ≡ some (map row_for es)
unfolding each mapped row_of fields_of row_for
rows_read [] = refl
rows_read (e ∷ es) = ap (mapped (◌∷◌ (row_for e))) (rows_read es)

entry_reads : (e : Entry) → IsEntry e → entry_in (row_for e) ≡ some e
unfolding entry_in with_numbers row_for
entry_reads e h =
    ap (λ o. with_numbers e.place o (number_in (decimal e.time))) (number_reads e.number h.number)
    ∙ ap (with_numbers e.place (some e.number)) (number_reads e.time h.time)

entries_read : (es : List Entry) → All IsEntry es → each entry_in (map row_for es) ≡ some es
unfolding each mapped
entries_read [] hs = refl
entries_read (e ∷ es) (cons h hs) = rw (entry_reads e h, each) (ap (mapped (◌∷◌ e)) (entries_read es hs))

place_fits : (n : ℕ) → 1 ≤ n → n ≤ 31 → is_place_length n ≡ true
unfolding is_place_length
place_fits n h k = rw (le-leb 1 n h, le-leb n 31 k) refl

places_fit_lem : (es : List Entry) → All IsEntry es → places_fit es ≡ true
unfolding places_fit
places_fit_lem [] hs = refl
places_fit_lem (e ∷ es) (cons h hs) = ap (λ t. t && places_fit es) (place_fits (length e.place) h.some_bytes h.few_bytes) ∙ places_fit_lem es hs

pub round : (room : ℕ) (es : List Entry) → Sound room es → reading room (ledger_text es) ≡ accepted es
round room es h =
    accepts
    (record {
      body = lines es;
      found = map fields_of es;
      rows = map row_for es;
      headed = header_reads es;
      quotes = lines_read es;
      threes = rows_read es;
      numbers = entries_read es h.entries;
      places = places_fit_lem es h.entries;
      sockets = h.sockets;
      roomy = le-leb (length es) room h.roomy;
    })
