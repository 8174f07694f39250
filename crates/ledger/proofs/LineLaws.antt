-- What the reader makes of a written line: its three fields. A field without quotes is read byte by byte up to the comma or CR after it, a
-- quoted one up to the quote that is not doubled.
-- Assumes nothing.
use Rattle.std.specs.Prelude.{◌≡◌, refl, Bool, true, false, ◌||◌, cond, List, [], ◌∷◌, ◌++◌, map, ℕ, zero, suc, ◌+◌, ◌/◌, ◌%◌, ◌<◌, eqb, ltb}
use Rattle.std.proofs.Common.{sym, ap, ◌∙◌, true≢false, arith, ne_eqb, eqb-true}
use Rattle.std.proofs.Math.Option.{some}
use Rattle.semantics.specs.Text.{decimal_onto, decimal}
use Rattle.semantics.specs.ResultLaws.{choose}
use Rattle.book.specs.Books.{Entry}
use Rattle.ledger.specs.Ledger.{is_special, needs_quotes, doubled, in_quotes, field, line, lines}
use Rattle.ledger.specs.Reading.{Mode, fresh, begins, plain, quoted, closing, returned, keep, pass, end_field, bad, closed_act, plain_act, first_act, act, Lines, ended, in_front, new_field, new_line, mapped, read_on, read_end, read_from}
use Rattle.ledger.specs.LineLaws.{with_bytes, fields_of}

-- They fill the first field.
pub bytes_fill : (f : List ℕ) (fs : List (List ℕ)) (ls : Lines) → with_bytes f (some (([] ∷ fs) ∷ ls)) ≡ some ((f ∷ fs) ∷ ls)
unfolding with_bytes mapped in_front
bytes_fill [] fs ls = refl
bytes_fill (b ∷ f) fs ls = ap (mapped (in_front b)) (bytes_fill f fs ls)

-- ---- fields without quotes

neither : (a b : Bool) → (a || b) ≡ false → (a ≡ false) × (b ≡ false)
neither true b h = absurd (true≢false h)
neither false b h = (refl, h)

plain_keeps : (b : ℕ) → is_special b ≡ false → plain_act b ≡ keep plain
unfolding is_special plain_act
plain_keeps b h = by (eqb b 44) (eqb b 34) (eqb b 13) (eqb b 10) h
  where
    by : (k q r l : Bool) → (k || q || r || l) ≡ false → cond k end_field (cond r (pass returned) (cond (q || l) bad (keep plain))) ≡ keep plain
    by true q r l h = absurd (true≢false h)
    by false true r l h = absurd (true≢false h)
    by false false true l h = absurd (true≢false h)
    by false false false true h = absurd (true≢false h)
    by false false false false h = refl

first_keeps : (b : ℕ) → is_special b ≡ false → first_act b ≡ keep plain
unfolding first_act is_special
first_keeps b h = by (eqb b 44) (eqb b 34) (eqb b 13) (eqb b 10) h ∙ plain_keeps b h
  where
    by : (k q r l : Bool) → (k || q || r || l) ≡ false → cond q (pass quoted) (plain_act b) ≡ plain_act b
    by true q r l h = absurd (true≢false h)
    by false true r l h = absurd (true≢false h)
    by false false r l h = refl

kept : (m : Mode) (b : ℕ) (s : List ℕ) {n : Mode} → act m b ≡ keep n → read_from m (b ∷ s) ≡ mapped (in_front b) (read_from n s)
unfolding read_from read_on
kept m b s e = ap (read_on (λ next. read_from next s) b) e

plain_bytes : (f s : List ℕ) → needs_quotes f ≡ false → read_from plain (f ++ s) ≡ with_bytes f (read_from plain s)
unfolding needs_quotes with_bytes act
plain_bytes [] s h = refl
plain_bytes (b ∷ f) s h =
    let hs = neither (is_special b) (needs_quotes f) h in
    kept plain b (f ++ s) (plain_keeps b hs.0) ∙ ap (mapped (in_front b)) (plain_bytes f s hs.1)

-- A mode in which a field begins.
abbrev Begins : Mode → Type 0
Begins m = (b : ℕ) → act m b ≡ first_act b

at_fresh : Begins fresh
unfolding act
at_fresh b = refl

at_begins : Begins begins
unfolding act
at_begins b = refl

first_bytes : (m : Mode) → Begins m → (f s : List ℕ) → needs_quotes f ≡ false → read_from m s ≡ read_from plain s → read_from m (f ++ s) ≡ with_bytes f (read_from plain s)
unfolding needs_quotes with_bytes
first_bytes m a [] s h e = e
first_bytes m a (b ∷ f) s h e =
    let hs = neither (is_special b) (needs_quotes f) h in
    kept m b (f ++ s) (a b ∙ first_keeps b hs.0) ∙ ap (mapped (in_front b)) (plain_bytes f s hs.1)

-- A comma, and CR, do the same at a field's start.
comma_first : (m : Mode) → Begins m → (s : List ℕ) → read_from m (44 ∷ s) ≡ mapped new_field (read_from begins s)
unfolding read_from read_on first_act plain_act
comma_first m a s = ap (read_on (λ next. read_from next s) 44) (a 44)

comma_plain : (s : List ℕ) → read_from plain (44 ∷ s) ≡ mapped new_field (read_from begins s)
unfolding read_from read_on act plain_act
comma_plain s = refl

break_first : (m : Mode) → Begins m → (s : List ℕ) → read_from m (13 ∷ 10 ∷ s) ≡ mapped new_line (read_from fresh s)
unfolding read_from read_on act first_act plain_act
break_first m a s = ap (read_on (λ next. read_from next (10 ∷ s)) 13) (a 13)

break_plain : (s : List ℕ) → read_from plain (13 ∷ 10 ∷ s) ≡ mapped new_line (read_from fresh s)
unfolding read_from read_on act plain_act
break_plain s = refl

pub plain_comma : (m : Mode) → Begins m → (f s : List ℕ) → needs_quotes f ≡ false → read_from m (f ++ 44 ∷ s) ≡ with_bytes f (mapped new_field (read_from begins s))
plain_comma m a f s h = first_bytes m a f (44 ∷ s) h (comma_first m a s ∙ sym (comma_plain s)) ∙ ap (with_bytes f) (comma_plain s)

pub plain_break : (m : Mode) → Begins m → (f s : List ℕ) → needs_quotes f ≡ false → read_from m (f ++ 13 ∷ 10 ∷ s) ≡ with_bytes f (mapped new_line (read_from fresh s))
plain_break m a f s h = first_bytes m a f (13 ∷ 10 ∷ s) h (break_first m a s ∙ sym (break_plain s)) ∙ ap (with_bytes f) (break_plain s)

-- ---- quoted fields

quoted_bytes : (f s : List ℕ) → read_from quoted (doubled f ++ 34 ∷ s) ≡ with_bytes f (read_from closing s)
unfolding doubled with_bytes read_from read_on act
quoted_bytes [] s = refl
quoted_bytes (b ∷ f) s = by (eqb b 34) refl (quoted_bytes f s)
  where
    by : (q : Bool)
        → eqb b 34 ≡ q
        → read_from quoted (doubled f ++ 34 ∷ s) ≡ with_bytes f (read_from closing s)
        → read_from quoted (cond q (34 ∷ 34 ∷ doubled f) (b ∷ doubled f) ++ 34 ∷ s) ≡ mapped (in_front b) (with_bytes f (read_from closing s))
    by true e ih = ap (λ c. mapped (in_front c) (read_from quoted (doubled f ++ 34 ∷ s))) (sym (eqb-true b 34 e)) ∙ ap (mapped (in_front b)) ih
    by false e ih = kept quoted b (doubled f ++ 34 ∷ s) (ap (λ q. cond q (pass closing) (keep quoted)) e) ∙ ap (mapped (in_front b)) ih

comma_closing : (s : List ℕ) → read_from closing (44 ∷ s) ≡ mapped new_field (read_from begins s)
unfolding read_from read_on act closed_act
comma_closing s = refl

quote_begins : (s : List ℕ) → read_from begins (34 ∷ s) ≡ read_from quoted s
unfolding read_from read_on act first_act
quote_begins s = refl

pub field_comma : (f s : List ℕ) → read_from begins (field f (44 ∷ s)) ≡ with_bytes f (mapped new_field (read_from begins s))
unfolding field in_quotes
field_comma f s = by (needs_quotes f) refl
  where
    by : (q : Bool) → needs_quotes f ≡ q → read_from begins (cond q (34 ∷ doubled f ++ 34 ∷ 44 ∷ s) (f ++ 44 ∷ s)) ≡ with_bytes f (mapped new_field (read_from begins s))
    by true e = quote_begins (doubled f ++ 34 ∷ 44 ∷ s) ∙ quoted_bytes f (44 ∷ s) ∙ ap (with_bytes f) (comma_closing s)
    by false e = plain_comma begins at_begins f s e

-- ---- numbers need no quotes

digit_plain : (d : ℕ) → d < 10 → is_special (48 + d) ≡ false
unfolding is_special
digit_plain d h = rw (ne_eqb (48 + d) 44 (λ e. omega arith), ne_eqb (48 + d) 34 (λ e. omega arith), ne_eqb (48 + d) 13 (λ e. omega arith), ne_eqb (48 + d) 10 (λ e. omega arith)) refl

digit_in_front : (n : ℕ) (s : List ℕ) → needs_quotes s ≡ false → needs_quotes ((48 + n % 10) ∷ s) ≡ false
unfolding needs_quotes
digit_in_front n s h = rw (digit_plain (n % 10) (omega arith)) h

onto_plain : (places n : ℕ) (s : List ℕ) → needs_quotes s ≡ false → needs_quotes (decimal_onto places n s) ≡ false
unfolding decimal_onto
onto_plain zero n s h = h
onto_plain (suc places) n s h =
    choose (λ l. needs_quotes l ≡ false) (ltb n 10) ((48 + n % 10) ∷ s) (decimal_onto places (n / 10) ((48 + n % 10) ∷ s))
    (λ t. digit_in_front n s h)
    (λ t. onto_plain places (n / 10) ((48 + n % 10) ∷ s) (digit_in_front n s h))

pub decimal_plain : (n : ℕ) → needs_quotes (decimal n) ≡ false
unfolding decimal needs_quotes
decimal_plain n = onto_plain 10 n [] refl

pub line_reads : (e : Entry) (s : List ℕ) (ls : Lines) → read_from fresh s ≡ some ls → read_from fresh (line e s) ≡ some (fields_of e ∷ ls)
unfolding line fields_of mapped new_field new_line ended
line_reads e s ls h =
    let n = decimal e.number in
    let t = decimal e.time in
    let third : read_from begins (t ++ 13 ∷ 10 ∷ s) ≡ some ((t ∷ []) ∷ ls) =
    plain_break begins at_begins t s (decimal_plain e.time) ∙ ap (λ o. with_bytes t (mapped new_line o)) h ∙ bytes_fill t [] ls in
    let second : read_from begins (field e.place (44 ∷ t ++ 13 ∷ 10 ∷ s)) ≡ some ((e.place ∷ t ∷ []) ∷ ls) =
    field_comma e.place (t ++ 13 ∷ 10 ∷ s) ∙ ap (λ o. with_bytes e.place (mapped new_field o)) third ∙ bytes_fill e.place (t ∷ []) ls in
    plain_comma fresh at_fresh n (field e.place (44 ∷ t ++ 13 ∷ 10 ∷ s)) (decimal_plain e.number)
    ∙ ap (λ o. with_bytes n (mapped new_field o)) second
    ∙ bytes_fill n (e.place ∷ t ∷ []) ls

pub lines_read : (es : List Entry) → read_from fresh (lines es) ≡ some (map fields_of es)
unfolding lines read_from read_end
lines_read [] = refl
lines_read (e ∷ es) = line_reads e (lines es) (map fields_of es) (lines_read es)
