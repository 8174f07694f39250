-- The text record by record: the text of one record more is the text so far and that record's line. So a turn of `emit` goes on from the text so far.
-- Assumes nothing.
use mathlib.Core.Path.{◌≡◌, refl, sym, ap, subst, ◌∙◌}
use mathlib.Core.Bool.{Bool, true, ◌&&◌, and-eq-true_iff}
use mathlib.Core.List.{List, [], ◌∷◌, ◌++◌, map, map-append, append_assoc}
use Prim.Native.Nat.{ℕ, zero, suc, ◌+◌, ◌-◌, ◌*◌, ◌≤◌, ◌<◌, ◌^◌}
use native.Mathlib.Omega.{arith}
use lib.ListN.{length, get_or, take, length-append}
use lib.Seq.{take-suc}
use Rattle.std.proofs.lemmas.List.{get_or_default}
use lib.Dec.{leb}
use Rattle.semantics.specs.Text.{textual, decimal}
use Rattle.book.specs.Books.{Entry, entry_of, blank, greatest, is_place_length, are_in_range, in_range, is_sound}
use Rattle.book.proofs.SoundLaws.{room_within, sound_count, sound_each, at_sound}
use Rattle.book.specs.declared.Record.{Record}
use Rattle.ledger.specs.Ledger.{field, line, lines, header, ledger_text, entries_of}
use Rattle.ledger.proofs.SoundLaws.{place_range}
use Rattle.ledger.proofs.BookLaws.{line_length}
use Rattle.ledger_writer.specs.Emitting.{Emitted, Roomy, line_of}
use Rattle.ledger_writer.proofs.Emits.{room_of_lem, room_rest, emits_as, emits_then}
use Rattle.ledger_writer.proofs.Places.{field_rest}

-- ---- lines one after the other

line_rest : (e : Entry) (s : List ℕ) → line e s ≡ line e [] ++ s
unfolding line
line_rest e s =
    let n = decimal e.number in
    let t = decimal e.time in
    let f = field e.place [] in
    let end : List ℕ = 44 ∷ (t ++ (13 ∷ 10 ∷ [])) in
    ap (λ l. n ++ (44 ∷ l)) (field_rest e.place (44 ∷ (t ++ (13 ∷ 10 ∷ s))) ∙ ap (λ l. f ++ (44 ∷ l)) (sym (append_assoc t (13 ∷ 10 ∷ []) s)) ∙ sym (append_assoc f end s) ∙ ap (λ l. l ++ s) (sym (field_rest e.place end)))
    ∙ sym (append_assoc n (44 ∷ field e.place end) s)

lines_append : (a b : List Entry) → lines (a ++ b) ≡ lines a ++ lines b
unfolding lines
lines_append [] b = refl
lines_append (e ∷ a) b =
    ap (line e) (lines_append a b) ∙ line_rest e (lines a ++ lines b) ∙ sym (append_assoc (line e []) (lines a) (lines b)) ∙ ap (λ l. l ++ lines b) (sym (line_rest e (lines a)))

text_append : (a b : List Entry) → ledger_text (a ++ b) ≡ ledger_text a ++ lines b
unfolding ledger_text
text_append a b = ap (λ l. header ++ 13 ∷ 10 ∷ l) (lines_append a b) ∙ sym (append_assoc header (13 ∷ 10 ∷ lines a) (lines b))

take_short : {A : Type 0} (n : ℕ) (l : List A) → length (take n l) ≤ n
take_short zero l = omega arith
take_short (suc n) [] = omega arith
take_short (suc n) (x ∷ l) = let h = take_short n l in omega (arith, h)

line_short : (r : Record) → r.length ≤ 31 → length (line_of r) ≤ 88
unfolding line_of entry_of
line_short r h = let k = take_short r.length r.place in omega (arith, line_length (entry_of r) [] (omega (arith, h, k)))

-- The text of the first i records is emitted.
pub record Emitting (ys : List Record) (count : ℕ) (live : Bool) (old : List ℕ) (i at : ℕ) (new : List ℕ) : Type 0 where
  pub inside : i ≤ count
  pub emitted : Emitted live 0 (ledger_text (entries_of ys i)) old new at
  pub same : length new ≡ length old

module _ (ys : List Record) where
  -- The text of the first i records.
  abbrev upto : ℕ → List ℕ
  upto i = ledger_text (entries_of ys i)

  abbrev here : ℕ → List ℕ
  here i = line_of (get_or ys i blank)

  text_next : (i : ℕ) → i < length ys → upto (i + 1) ≡ upto i ++ here i
  unfolding entries_of line_of lines
  text_next i h =
      let k : i + 1 ≡ suc i = omega arith in
      ap upto k
      ∙ ap (λ l. ledger_text (map entry_of l)) (take-suc ys i blank h)
      ∙ ap ledger_text (map-append entry_of (take i ys) (get_or ys i blank ∷ []))
      ∙ text_append (map entry_of (take i ys)) (entry_of (get_or ys i blank) ∷ [])

  longer : (i : ℕ) → i < length ys → length (upto (i + 1)) ≡ length (upto i) + length (here i)
  longer i h = ap length (text_next i h) ∙ length-append (upto i) (here i)

  grows : (i d : ℕ) → i + d ≤ length ys → length (upto i) ≤ length (upto (i + d))
  grows i zero h = let e : i + 0 ≡ i = omega arith in let k = ap (λ n. length (upto n)) e in omega (arith, k)
  grows i (suc d) h =
      let e : i + suc d ≡ (i + d) + 1 = omega arith in
      let k = ap (λ n. length (upto n)) e in
      let m = grows i d (omega (arith, h)) in
      let l = longer (i + d) (omega (arith, h)) in
      omega (arith, k, m, l)

  module _ (count : ℕ) (sound : is_sound ys count ≡ true) where
    counted : count ≤ length ys
    counted = omega (arith, sound_count ys count sound, (room_within (length ys)).0)

    pub place_few : (i : ℕ) → i < count → (get_or ys i blank).length ≤ 31
    unfolding in_range are_in_range
    place_few i h =
        let r = get_or ys i blank in
        let e = (at_sound ys i (sound_each ys count sound i h)).0 in
        (place_range r.length ((and-eq-true_iff (leb r.number greatest && leb r.time greatest) (is_place_length r.length)).0 e).1).1

    short : (i : ℕ) → i ≤ count → length (upto i) ≤ 19 + 88 * i
    unfolding entries_of ledger_text lines header textual
    short zero h = omega arith
    short (suc i) h =
        let k : suc i ≡ i + 1 = omega arith in
        let l = longer i (omega (arith, h, counted)) in
        let m = ap (λ n. length (upto n)) k in
        let f = line_short (get_or ys i blank) (place_few i (omega (arith, h))) in
        let n = short i (omega (arith, h)) in
        omega (arith, l, m, f, n)

    small : (i : ℕ) → i ≤ count → length (upto i) < 2 ^ 64
    small i h = let k = short i h in let f = sound_count ys count sound in let g = (room_within (length ys)).1 in omega (arith, k, h, f, g)

    module _ (live : Bool) (old : List ℕ) (fits : live ≡ true → length (upto count) ≤ length old) where
      room_upto : (i : ℕ) → i ≤ count → Roomy live 0 (upto i) old
      room_upto i h =
          record {
            small = let k = small i h in omega (arith, k);
            fits = λ e. let f = fits e in let d : i + (count - i) ≡ count = omega (arith, h) in let g = grows i (count - i) (omega (arith, h, counted)) in let k = ap (λ n. length (upto n)) d in omega (arith, f, g, k);
          }

      pub begin_room : Roomy live 0 (ledger_text []) old
      unfolding entries_of
      begin_room = room_upto 0 (omega arith)

      pub emitting_starts : {new : List ℕ} {at : ℕ} → Emitted live 0 (ledger_text []) old new at → length new ≡ length old → Emitting ys count live old 0 at new
      unfolding entries_of
      emitting_starts e k = record { inside = omega arith; emitted = e; same = k }

      pub emitting_fits : (i at : ℕ) (new : List ℕ) → Emitting ys count live old i at new → at < 2 ^ 64
      emitting_fits i at new e = let k = small i e.inside in let h = e.emitted.end in omega (arith, k, h)

      module _ (i at : ℕ) (new : List ℕ) (e : Emitting ys count live old i at new) (less : i < count) where
        pub turn_inside : i < length ys
        turn_inside = omega (arith, less, counted)

        both : Roomy live 0 (upto i ++ here i) old
        both = room_of_lem (text_next i turn_inside) (room_upto (i + 1) (omega (arith, less)))

        -- the code's read has its own default
        read : (d : Record) → get_or ys i blank ≡ get_or ys i d
        read d = get_or_default ys i blank d turn_inside

        pub turn_room : (d : Record) → ((get_or ys i d).length ≤ 31) × Roomy live at (line_of (get_or ys i d)) new
        turn_room d =
            subst (λ (r : Record). (r.length ≤ 31) × Roomy live at (line_of r) new) (read d) (place_few i less, room_rest (upto i) (here i) both e.emitted e.same)

        pub turn_next : (d : Record) {last : List ℕ} {r : ℕ} → Emitted live at (line_of (get_or ys i d)) new last r → length last ≡ length new → Emitting ys count live old (i + 1) r last
        turn_next d {last} {r} y k =
            let x = subst (λ (s : Record). Emitted live at (line_of s) new last r) (sym (read d)) y in
            record { inside = omega (arith, less); emitted = emits_as (sym (text_next i turn_inside)) (emits_then (upto i) (here i) both e.emitted x); same = k ∙ e.same }

      pub emitting_ends : (i at : ℕ) (new : List ℕ) → Emitting ys count live old i at new → count ≤ i → Emitted live 0 (upto count) old new at
      emitting_ends i at new e h = let k : i ≡ count = omega (arith, h, e.inside) in emits_as (ap upto k) e.emitted
