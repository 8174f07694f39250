-- The loop of `field_at`: what is left of the field at i, in the mode there, is what is left of the field at `at`.
-- Assumes nothing.
use mathlib.Core.Path.{◌≡◌, refl, sym, ap, ◌∙◌}
use mathlib.Core.List.{List, [], ◌∷◌}
use Prim.Native.Nat.{ℕ, suc, ◌+◌, ◌≤◌, ◌<◌}
use native.Mathlib.Omega.{arith}
use lib.ListN.{length, drop, get_or, drop_of_length-le}
use lib.Seq.{drop-cons}
use Rattle.ledger.specs.Reading as reading
use Rattle.ledger.specs.Reading.{act}
use Rattle.ledger.specs.Pieces.{Piece, piece_on, close_at, piece_from}
use Rattle.ledger_fields.specs.declared.Mode.{Mode}
use Rattle.ledger_fields.specs.declared.Mode.TheVariants.{Plain, Quoted, Closing, Returned}
use Rattle.ledger_fields.specs.declared.Act.{Act}
use Rattle.ledger_fields.specs.declared.Act.TheVariants.{KeepPlain, KeepQuoted, Open, Shut, Return, EndField, EndLine, Bad}
use Rattle.ledger_fields.specs.declared.Close.{Close}
use Rattle.ledger_fields.specs.declared.Close.TheVariants.{Comma, Line, Wrong}
use Rattle.ledger_fields.specs.declared.Seen.{Seen}
use Rattle.ledger_fields.specs.Fields.{mode_is, act_is, close_is, taken_by, unseen, seen_from, FieldAt}

pub record Going (text : List ℕ) (at : ℕ) (start : Mode) (i : ℕ) (seen : Seen) (m : Mode) : Type 0 where
  pub inside : i ≤ length text
  pub sees : seen_from unseen (piece_from (mode_is start) (drop at text)).contents ≡ seen_from seen (piece_from (mode_is m) (drop i text)).contents
  pub places : at + (piece_from (mode_is start) (drop at text)).taken ≡ i + (piece_from (mode_is m) (drop i text)).taken
  pub closes : (piece_from (mode_is start) (drop at text)).close ≡ (piece_from (mode_is m) (drop i text)).close

pub going_starts : (text : List ℕ) (at : ℕ) (start : Mode) {seen : Seen} → at ≤ length text → seen ≡ unseen → Going text at start at seen start
going_starts text at start h e =
    record { inside = h; sees = ap (λ (s : Seen). seen_from s (piece_from (mode_is start) (drop at text)).contents) (sym e); places = refl; closes = refl }

module _ {text : List ℕ} {at : ℕ} {start : Mode} {i : ℕ} {seen : Seen} {m : Mode} (g : Going text at start i seen m) where
  -- Nothing is left of the field but what closes it.
  finishes : {k : ℕ} {c : Close} (n : ℕ) → piece_from (mode_is m) (drop i text) ≡ record { contents = []; taken = k; close = close_is c } → n ≡ i + k → n ≤ length text → FieldAt text at start (record { seen = seen; next = n; close = c })
  unfolding seen_from
  finishes {k} n q e l =
      let t : (piece_from (mode_is m) (drop i text)).taken ≡ k = ap (λ (p : Piece). p.taken) q in
      record {
        sees = g.sees ∙ ap (λ (p : Piece). seen_from seen p.contents) q;
        places = omega (arith, g.places, t, e);
        closes = g.closes ∙ ap (λ (p : Piece). p.close) q;
        inside = l;
      }

  module _ (h : i < length text) {a : Act} (is : act_is a ≡ act (mode_is m) (get_or text i 0)) where
    step : (c : Act) → a ≡ c → piece_from (mode_is m) (drop i text) ≡ piece_on (λ n. piece_from n (drop (i + 1) text)) (get_or text i 0) (act_is c)
    unfolding piece_from
    step c e =
        let one : suc i ≡ i + 1 = omega arith in
        ap (piece_from (mode_is m)) (drop-cons text i 0 h ∙ ap (λ k. get_or text i 0 ∷ drop k text) one)
        ∙ ap (piece_on (λ n. piece_from n (drop (i + 1) text)) (get_or text i 0)) (sym is ∙ ap act_is e)

    going_keep : (c : Act) (n : Mode) → act_is c ≡ reading.keep (mode_is n) → {more : Seen} → a ≡ c → more ≡ taken_by seen (get_or text i 0) → Going text at start (i + 1) more n
    unfolding piece_on seen_from
    going_keep c n f {more} e k =
        let q : piece_from (mode_is m) (drop i text) ≡ piece_on (λ n. piece_from n (drop (i + 1) text)) (get_or text i 0) (reading.keep (mode_is n)) = step c e ∙ ap (piece_on (λ n. piece_from n (drop (i + 1) text)) (get_or text i 0)) f in
        let t : (piece_from (mode_is m) (drop i text)).taken ≡ suc (piece_from (mode_is n) (drop (i + 1) text)).taken = ap (λ (p : Piece). p.taken) q in
        record {
          inside = omega arith;
          sees = g.sees ∙ ap (λ (p : Piece). seen_from seen p.contents) q ∙ ap (λ (s : Seen). seen_from s (piece_from (mode_is n) (drop (i + 1) text)).contents) (sym k);
          places = omega (arith, g.places, t);
          closes = g.closes ∙ ap (λ (p : Piece). p.close) q;
        }

    pub going_keep_plain : {more : Seen} → a ≡ KeepPlain → more ≡ taken_by seen (get_or text i 0) → Going text at start (i + 1) more Plain
    going_keep_plain = going_keep KeepPlain Plain refl

    pub going_keep_quoted : {more : Seen} → a ≡ KeepQuoted → more ≡ taken_by seen (get_or text i 0) → Going text at start (i + 1) more Quoted
    going_keep_quoted = going_keep KeepQuoted Quoted refl

    going_pass : (c : Act) (n : Mode) → act_is c ≡ reading.pass (mode_is n) → a ≡ c → Going text at start (i + 1) seen n
    unfolding piece_on seen_from
    going_pass c n f e =
        let q : piece_from (mode_is m) (drop i text) ≡ piece_on (λ n. piece_from n (drop (i + 1) text)) (get_or text i 0) (reading.pass (mode_is n)) = step c e ∙ ap (piece_on (λ n. piece_from n (drop (i + 1) text)) (get_or text i 0)) f in
        let t : (piece_from (mode_is m) (drop i text)).taken ≡ suc (piece_from (mode_is n) (drop (i + 1) text)).taken = ap (λ (p : Piece). p.taken) q in
        record {
          inside = omega arith;
          sees = g.sees ∙ ap (λ (p : Piece). seen_from seen p.contents) q;
          places = omega (arith, g.places, t);
          closes = g.closes ∙ ap (λ (p : Piece). p.close) q;
        }

    pub going_open : a ≡ Open → Going text at start (i + 1) seen Quoted
    going_open = going_pass Open Quoted refl

    pub going_shut : a ≡ Shut → Going text at start (i + 1) seen Closing
    going_shut = going_pass Shut Closing refl

    pub going_return : a ≡ Return → Going text at start (i + 1) seen Returned
    going_return = going_pass Return Returned refl

    pub going_comma : a ≡ EndField → FieldAt text at start (record { seen = seen; next = i + 1; close = Comma })
    unfolding piece_on
    going_comma e = finishes (i + 1) (step EndField e) refl (omega (arith, h))

    pub going_line : a ≡ EndLine → FieldAt text at start (record { seen = seen; next = i + 1; close = Line })
    unfolding piece_on
    going_line e = finishes (i + 1) (step EndLine e) refl (omega (arith, h))

    pub going_wrong : a ≡ Bad → FieldAt text at start (record { seen = seen; next = i; close = Wrong })
    unfolding piece_on
    going_wrong e = finishes i (step Bad e) (omega arith) g.inside

  pub going_ends : length text ≤ i → {c : Close} → close_is c ≡ close_at (mode_is m) → FieldAt text at start (record { seen = seen; next = length text; close = c })
  unfolding piece_from
  going_ends h is =
      finishes (length text) (ap (piece_from (mode_is m)) (drop_of_length-le text h) ∙ ap (λ d. record { contents = []; taken = 0; close = d }) (sym is)) (omega (arith, h, g.inside)) (omega arith)
