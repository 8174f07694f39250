-- The rank and the record of a line of three fields, from what is kept of them. By the tests that the code makes.
-- Assumes nothing.
use mathlib.Core.Path.{◌≡◌, refl, sym, ap, ap₂, ◌∙◌}
use mathlib.Core.Bool.{Bool, true, false, ◌&&◌, cond, and-false}
use mathlib.Core.List.{List, [], ◌∷◌}
use mathlib.Core.Option.{none, some}
use Prim.Native.Nat.{ℕ, ◌≤◌}
use native.Mathlib.Omega.{arith}
use lib.ListN.{length}
use lib.Dec.{leb}
use borrow.Author.Tests.{le-leb, leb-true, leb-false}
use Rattle.book.specs.Books.{Entry, blank, greatest, record_of, is_place_length}
use Rattle.ledger.specs.Reading.{Row, row_of, number_in, with_numbers, entry_in}
use Rattle.ledger.proofs.SoundLaws.{place_range}
use Rattle.ledger.specs.Stages.{Ranked, unnumbered, unplaced, good}
use Rattle.ledger_fields.specs.declared.Seen.{Seen}
use Rattle.ledger_fields.specs.Fields.{unseen, seen_from}
use Rattle.ledger_fields.specs.SeenLaws.{seen_few, seen_many, seen_place, numbered, no_number, seen_number}
use Rattle.std.specs.Prelude.{Result, Ok, Err}
use Rattle.ledger_reader.specs.declared.Flaw.{Flaw}
use Rattle.ledger_reader.specs.declared.Flaw.TheVariants.{BadNumber, BadPlace}
use Rattle.book.specs.declared.Record.{Record}
use Rattle.ledger_reader.specs.Lines.{is_number, record_by, entry_by, rank_is, entry_is}

-- ---- what is kept of a field tells its number and whether it is a place

some_bytes : (b : ℕ) (f : List ℕ) → 1 ≤ (seen_from unseen (b ∷ f)).size
some_bytes b f = by (leb (length (b ∷ f)) 31) refl
  where
    by : (t : Bool) → leb (length (b ∷ f)) 31 ≡ t → 1 ≤ (seen_from unseen (b ∷ f)).size
    by true e = let k = seen_few (b ∷ f) (leb-true (length (b ∷ f)) 31 e) in omega (arith, k)
    by false e = let k = seen_many (b ∷ f) (leb-false (length (b ∷ f)) 31 e) in omega (arith, k)

number_kept : (f : List ℕ) → number_in f ≡ cond (is_number (seen_from unseen f)) (some (seen_from unseen f).number) none
unfolding is_number seen_from
number_kept [] = no_number
number_kept (b ∷ f) = seen_number b f ∙ told (seen_from unseen (b ∷ f)) (some_bytes b f)
  where
    told : (s : Seen) → 1 ≤ s.size → numbered s ≡ cond (leb 1 s.size && (s.digits && leb s.number greatest)) (some s.number) none
    told s h = unfold numbered in ap (λ t. cond (t && (s.digits && leb s.number greatest)) (some s.number) none) (sym (le-leb 1 s.size h))

place_kept : (f : List ℕ) → is_place_length (seen_from unseen f).size ≡ is_place_length (length f)
unfolding is_place_length
place_kept f = by (leb (length f) 31) refl
  where
    by : (t : Bool) → leb (length f) 31 ≡ t → (leb 1 (seen_from unseen f).size && leb (seen_from unseen f).size 31) ≡ (leb 1 (length f) && leb (length f) 31)
    by true e = ap (λ n. leb 1 n && leb n 31) (seen_few f (leb-true (length f) 31 e))
    by false e = ap (λ n. leb 1 n && leb n 31) (seen_many f (leb-false (length f) 31 e)) ∙ sym (and-false (leb 1 (length f))) ∙ ap (λ t. leb 1 (length f) && t) (sym e)

module _ (f g h : List ℕ) where
  abbrev n : Seen
  n = seen_from unseen f

  abbrev p : Seen
  p = seen_from unseen g

  abbrev t : Seen
  t = seen_from unseen h

  abbrev row : Row
  row = record { number = f; place = g; time = h }

  abbrev entry : Entry
  entry = record { number = n.number; place = g; time = t.number }

  kept : (x y : Bool) → is_number n ≡ x → is_number t ≡ y → entry_in row ≡ with_numbers g (cond x (some n.number) none) (cond y (some t.number) none)
  unfolding entry_in
  kept x y e k =
      ap₂ (with_numbers g) (number_kept f ∙ ap (λ u. cond u (some n.number) none) e) (number_kept h ∙ ap (λ u. cond u (some t.number) none) k)

  same_record : length g ≤ 31 → entry_by n p t ≡ record_of entry
  unfolding record_of
  same_record few = λ i. record { number = n.number; place = seen_place g few i; length = seen_few g few i; time = t.number }

  abbrev by_tests : Bool → Bool → Bool → Result Record Flaw
  by_tests x y z = cond x (cond y (cond z (Ok (entry_by n p t)) (Err BadPlace)) (Err BadNumber)) (Err BadNumber)

  three_by : (x y z : Bool) → is_number n ≡ x → is_number t ≡ y → is_place_length p.size ≡ z → Ranked (f ∷ g ∷ h ∷ []) (rank_is (by_tests x y z)) (entry_is (by_tests x y z))
  unfolding with_numbers row_of
  three_by false y z e k m = by y k
    where
      by : (y : Bool) → is_number t ≡ y → Ranked (f ∷ g ∷ h ∷ []) 1 blank
      by y k = unnumbered refl (kept false y e k)
  three_by true false z e k m = unnumbered refl (kept true false e k)
  three_by true true false e k m = unplaced refl (kept true true e k) (sym (place_kept g) ∙ m)
  three_by true true true e k m = good refl (kept true true e k) (sym (place_kept g) ∙ m) (same_record (place_range (length g) (sym (place_kept g) ∙ m)).1)

  pub ranked_three : Ranked (f ∷ g ∷ h ∷ []) (rank_is (record_by n p t)) (entry_is (record_by n p t))
  unfolding record_by
  ranked_three = three_by (is_number n) (is_number t) (is_place_length p.size) refl refl refl

pub rank_some : (n p t : Seen) → rank_is (record_by n p t) ≡ 0 → ⊥
unfolding record_by
rank_some n p t = nonzero (is_number n) (is_number t) (is_place_length p.size)
  where
    nonzero : (x y z : Bool) → rank_is (cond x (cond y (cond z (Ok (entry_by n p t)) (Err BadPlace)) (Err BadNumber)) (Err BadNumber)) ≡ 0 → ⊥
    nonzero false y z e = omega (arith, e)
    nonzero true false z e = omega (arith, e)
    nonzero true true false e = omega (arith, e)
    nonzero true true true e = omega (arith, e)
