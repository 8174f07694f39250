-- What `enter` has at each of its ends: an entry that replaces, one that is added, and one that leaves the book as it was.
-- Assumes nothing.
use Rattle.std.proofs.Common.{◌≡◌, refl, sym, ap, ap₂, ◌∙◌, subst, cond, Option, Some, List, ℕ, ◌+◌, ◌≤◌, ◌<◌, length, set, arith}
use Rattle.book.specs.Books.{room_of, place_of}
use Rattle.book.specs.Fates.{fate_in, is_replacing, is_adding, book_with, count_after, book_after, Enters}
use Rattle.book.proofs.SoundLaws.{room_within}
use Rattle.book.proofs.BookLaws.{replaces_fate, adds_fate}
use Rattle.book.specs.declared.Record.{Record}
use Rattle.book.specs.declared.Entered.{Entered}
use Rattle.book.specs.declared.Fate.{Fate}
use Rattle.book.specs.declared.Fate.TheVariants.{Replaces, Adds, Late, Full}

-- what `judge` says
abbrev pub Judged : List Record → Record → ℕ → Entered → Type 0
Judged b e n r = (r.fate ≡ fate_in b n e) × (r.at ≡ place_of b n e.number) × (r.count ≡ n)

module _ (b : List Record) (e : Record) (n : ℕ) (o : Option Record) (r : Entered) (some : o ≡ Some e) (few : n ≤ room_of (length b)) (j : Judged b e n r) where
  -- at a known fate
  entered : (f : Fate) {b' : List Record} {m : ℕ} → r.fate ≡ f → m ≡ cond (is_adding f) (n + 1) n → b' ≡ book_with f r.at e b → Enters o n b b' (Some (record { fate = r.fate; at = r.at; count = m }))
  unfolding book_after count_after
  entered f {b'} {m} is c k =
      let same : f ≡ fate_in b n e = sym is ∙ j.0 in
      let q : m ≡ count_after b n e = c ∙ ap (λ (g : Fate). cond (is_adding g) (n + 1) n) same in
      subst (λ (x : Option Record). Enters x n b b' (Some (record { fate = r.fate; at = r.at; count = m }))) (sym some)
      ((λ i. Some (record { fate = j.0 i; at = j.1 i; count = q i })), k ∙ ap₂ (λ (g : Fate) (p : ℕ). book_with g p e b) same j.1)

  pub replaced_at : r.fate ≡ Replaces → r.at < length b
  replaced_at f = omega (arith, j.1, (replaces_fate b n e (ap is_replacing (sym j.0 ∙ f))).0, few, (room_within (length b)).0)

  pub replaced : {b' : List Record} → r.fate ≡ Replaces → b' ≡ set b r.at e → Enters o n b b' (Some r)
  unfolding book_with
  replaced f k = entered Replaces f j.2 k

  pub added_at : r.fate ≡ Adds → n < length b
  added_at f = omega (arith, (adds_fate b n e (ap is_adding (sym j.0 ∙ f))).1, (room_within (length b)).0)

  pub added : {b' : List Record} {m : ℕ} → r.fate ≡ Adds → (m ≡ n + 1) × (b' ≡ set b n e) → Enters o n b b' (Some (record { fate = r.fate; at = r.at; count = m }))
  unfolding book_with
  added f k = entered Adds f k.0 (k.1 ∙ ap (λ (p : ℕ). set b p e) (sym (adds_fate b n e (ap is_adding (sym j.0 ∙ f))).0 ∙ sym j.1))

  pub late : r.fate ≡ Late → Enters o n b b (Some r)
  unfolding book_with
  late f = entered Late f j.2 refl

  pub full : r.fate ≡ Full → Enters o n b b (Some r)
  unfolding book_with
  full f = entered Full f j.2 refl
