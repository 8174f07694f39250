-- What `write` tells is the definition's answer: a book that is not sound is not written, nor one whose text is longer than what is lent. By the two tests.
-- Assumes nothing.
use Rattle.std.specs.Prelude.{Result, Ok, Err}
use mathlib.Core.Path.{◌≡◌, refl, sym, ap, ◌∙◌}
use mathlib.Core.Bool.{Bool, true, false, cond}
use mathlib.Core.List.{List}
use Prim.Native.Nat.{ℕ, ◌≤◌, ◌<◌}
use native.Mathlib.Omega.{arith}
use lib.ListN.{length}
use lib.Dec.{leb}
use borrow.Author.Tests.{le-leb, lt-leb}
use Rattle.semantics.specs.ObjectOperators.{pasted}
use Rattle.book.specs.Books.{is_sound}
use Rattle.book.specs.declared.Record.{Record}
use Rattle.ledger.specs.Ledger.{ledger_text, entries_of, Writing, malformed, too_short, written, written_in, writing}
use Rattle.ledger_writer.specs.declared.WriteError.{WriteError}
use Rattle.ledger_writer.specs.declared.WriteError.TheVariants.{BookMalformed, TooShort}
use Rattle.ledger_writer.specs.Emitting.{Emitted, answer_of, text_after, Writes}

module _ (ys : List Record) (count : ℕ) (old : List ℕ) where
  abbrev T : List ℕ
  T = ledger_text (entries_of ys count)

  told_writes : {new : List ℕ} {r : Result ℕ WriteError} (w : Writing) → writing ys count (length old) ≡ w → r ≡ answer_of w → new ≡ text_after w old → Writes ys count old new r
  told_writes w e a t = record { answer = a ∙ ap answer_of (sym e); text = t ∙ ap (λ v. text_after v old) (sym e) }

  pub writes_malformed : is_sound ys count ≡ false → Writes ys count old old (Err BookMalformed)
  unfolding writing
  writes_malformed s = told_writes malformed (ap (λ t. cond t (written_in (length old) T) malformed) s) refl refl

  module _ (sound : is_sound ys count ≡ true) {mid : List ℕ} {bytes : ℕ} (x : Emitted false 0 T old mid bytes) where
    measured : (t : Bool) → leb (length T) (length old) ≡ t → writing ys count (length old) ≡ cond t (written T) too_short
    unfolding writing written_in
    measured t e = ap (λ s. cond s (written_in (length old) T) malformed) sound ∙ ap (λ l. cond l (written T) too_short) e

    pub writes_short : length mid < bytes → Writes ys count old mid (Err TooShort)
    writes_short l =
        told_writes too_short (measured false (lt-leb (length T) (length old) (omega (arith, l, x.end, ap length x.bytes)))) refl x.bytes

    pub fits : bytes ≤ length mid → length T ≤ length mid
    fits l = omega (arith, l, x.end)

    pub writes_all : {new : List ℕ} {end : ℕ} → bytes ≤ length mid → Emitted true 0 T mid new end → Writes ys count old new (Ok bytes)
    writes_all l z =
        let n : bytes ≡ length T = omega (arith, x.end) in
        told_writes (written T) (measured true (le-leb (length T) (length old) (omega (arith, l, n, ap length x.bytes)))) (ap (λ (k : ℕ). Ok k) n) (z.bytes ∙ ap (pasted 0 T) x.bytes)
