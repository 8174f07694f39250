-- The book filled line by line: what `fill` leaves is the accepted records, then the lent ones past them.
-- Assumes nothing.
use Rattle.std.proofs.Common.{◌≡◌, refl, sym, ap, ap₂, subst, ◌∙◌, Some, None, Ok, Err, List, [], ◌∷◌, ◌++◌, ℕ, suc, ◌+◌, ◌≤◌, ◌<◌, length, drop, set, get_or, map, append_assoc, append-nil, arith, length-append}
use lib.ListN.{length-map}
use mathlib.Core.List.{map-append}
use Rattle.std.proofs.Math.Seq.{set-append_seam, drop-cons}
use Rattle.book.specs.Books.{Entry, record_of, blank}
use Rattle.book.specs.declared.Record.{Record}
use Rattle.ledger.specs.Reading.{replaced}
use Rattle.ledger_reader.specs.declared.Line.{Line}
use Rattle.ledger_reader.specs.declared.Flaw.{Flaw}
use Rattle.ledger_reader.specs.Lines.{entry_is, LineAt, RestAt, Fillable, Fills}
use Rattle.ledger_reader.proofs.Resting.{rest_none, Next, rest_next, not_flawed, rest_one}

pub record Filling (text : List ℕ) (start count : ℕ) (book : List Record) (i at : ℕ) (now : List Record) : Type 0 where
  pub done : List Entry
  pub rest : List Entry
  pub whole : RestAt text start (done ++ rest)
  pub left : RestAt text at rest
  pub size : length done ≡ i
  pub sum : i + length rest ≡ count
  pub room : count ≤ length book
  pub stands : now ≡ map record_of done ++ drop i book

pub filling_starts : (text : List ℕ) (start count : ℕ) (book : List Record) → Fillable text start count book → Filling text start count book 0 start book
filling_starts text start count book f = record { done = []; rest = f.records; whole = f.rest; left = f.rest; size = refl; sum = omega (arith, f.size); room = f.room; stands = refl }

module _ {text : List ℕ} {start count : ℕ} {book : List Record} {i at : ℕ} {now : List Record} (f : Filling text start count book i at now) where
  -- There is a line, and it has no flaw.
  pub filling_none : i < count → LineAt text at None → ⊥
  filling_none h is = omega (arith, h, f.sum, ap length (rest_none is f.left))

  module _ {r : Line} (is : LineAt text at (Some r)) where
    pub filling_flaw : {w : Flaw} → r.entry ≡ Err w → ⊥
    filling_flaw e = not_flawed is f.left e

    module _ {e : Record} (has : r.entry ≡ Ok e) (h : i < count) where
      one : Next is f.left
      one = rest_next is f.left

      -- The record goes where the first of those past the others stood.
      put : set now i e ≡ map record_of (f.done ++ one.entry ∷ []) ++ drop (i + 1) book
      put =
          let l : length (map record_of f.done) ≡ i = omega (arith, length-map f.done record_of, f.size) in
          let k : suc i ≡ i + 1 = omega arith in
          ap₂ (λ (b : List Record) (j : ℕ). set b j e) (f.stands ∙ ap (λ b. map record_of f.done ++ b) (drop-cons book i blank (omega (arith, h, f.room)))) (sym l)
          ∙ set-append_seam (map record_of f.done) (get_or book i blank) (drop (suc i) book) e
          ∙ ap₂ (λ (x : Record) (j : ℕ). map record_of f.done ++ x ∷ drop j book) (ap entry_is (sym has ∙ one.same)) k
          ∙ sym (append_assoc (map record_of f.done) (record_of one.entry ∷ []) (drop (i + 1) book))
          ∙ ap (λ b. b ++ drop (i + 1) book) (sym (map-append record_of f.done (one.entry ∷ [])))

      pub filling_next : {after : List Record} → after ≡ set now i e → Filling text start count book (i + 1) r.next after
      filling_next k = record {
        done = f.done ++ one.entry ∷ [];
        rest = one.rest;
        whole = subst (RestAt text start) (ap (λ es. f.done ++ es) one.records ∙ sym (append_assoc f.done (one.entry ∷ []) one.rest)) f.whole;
        left = one.left;
        size = omega (arith, length-append f.done (one.entry ∷ []), f.size);
        sum = omega (arith, f.sum, ap length one.records);
        room = f.room;
        stands = k ∙ put;
      }

  pub filling_ends : count ≤ i → Fills text start book now
  unfolding replaced
  filling_ends h es t =
      let none : f.rest ≡ [] = no_more f.rest (omega (arith, h, f.sum)) in
      let all : f.done ≡ es = sym (append-nil f.done) ∙ ap (λ r. f.done ++ r) (sym none) ∙ rest_one f.whole t in
      f.stands ∙ ap₂ (λ (ds : List Entry) (j : ℕ). map record_of ds ++ drop j book) all (sym f.size ∙ ap length all)
    where
      no_more : (l : List Entry) → length l ≡ 0 → l ≡ []
      no_more [] z = refl
      no_more (x ∷ l) z = absurd (omega (arith, z))
