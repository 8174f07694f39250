-- The stages of a reading line by line: a line's rank is the first stage that it does not pass, and the least rank of the lines tells the stage that the text does not pass.
-- Assumes nothing.
use Rattle.std.proofs.Math.Path.{◌≡◌, refl, ap}
use Rattle.std.proofs.Common.{sym, ap₂, ◌∙◌, arith, lt-ltb, le-ltb, ltb-true, ltb-false}
use Rattle.std.specs.Prelude.{Bool, true, false, ◌&&◌, cond, List, [], ◌∷◌, ℕ, ◌≤◌, ◌<◌, length, ltb}
use Rattle.std.proofs.Math.Option.{Option, none, some}
use Rattle.book.specs.Books.{Entry, record_of, is_place_length}
use Rattle.book.specs.declared.Record.{Record}
use Rattle.ledger.specs.Reading.{Lines, mapped, each, Row, row_of, entry_in, places_fit}

-- 0: not three fields; 1: a number is bad; 2: the place is; 3: none of these, and the record is r.
pub data Ranked : List (List ℕ) → ℕ → Record → Type 0 where
  uneven : {l : List (List ℕ)} {r : Record} → row_of l ≡ none → Ranked l 0 r
  unnumbered : {l : List (List ℕ)} {row : Row} {r : Record} → row_of l ≡ some row → entry_in row ≡ none → Ranked l 1 r
  unplaced : {l : List (List ℕ)} {row : Row} {e : Entry} {r : Record} → row_of l ≡ some row → entry_in row ≡ some e → is_place_length (length e.place) ≡ false → Ranked l 2 r
  good : {l : List (List ℕ)} {row : Row} {e : Entry} {r : Record} → row_of l ≡ some row → entry_in row ≡ some e → is_place_length (length e.place) ≡ true → r ≡ record_of e → Ranked l 3 r

-- The stage that lines do not pass; 3 where they pass all three.
pub data Staged : Lines → ℕ → Type 0 where
  counted : {ls : Lines} → each row_of ls ≡ none → Staged ls 0
  numbered : {ls : Lines} {rows : List Row} → each row_of ls ≡ some rows → each entry_in rows ≡ none → Staged ls 1
  placed : {ls : Lines} {rows : List Row} {es : List Entry} → each row_of ls ≡ some rows → each entry_in rows ≡ some es → places_fit es ≡ false → Staged ls 2
  passed : {ls : Lines} {rows : List Row} {es : List Entry} → each row_of ls ≡ some rows → each entry_in rows ≡ some es → places_fit es ≡ true → Staged ls 3

-- ---- one more

module _ {A B : Type 0} (f : A → Option B) where
  pub each_more : (a : A) (l : List A) {b : B} {bs : List B} → f a ≡ some b → each f l ≡ some bs → each f (a ∷ l) ≡ some (b ∷ bs)
  unfolding each mapped
  each_more a l e h = rw (e, each) (ap (mapped (◌∷◌ _)) h)

  pub each_not : (a : A) (l : List A) → f a ≡ none → each f (a ∷ l) ≡ none
  unfolding each
  each_not a l e = rw (e, each) refl

  pub each_none : (a : A) (l : List A) → each f l ≡ none → each f (a ∷ l) ≡ none
  unfolding each mapped
  each_none a l h = by (f a)
    where
      by : (o : Option B) → ◌≡◌ {A = Option (List B)} (elim o [ none ↦ none | some b ↦ mapped (◌∷◌ b) (each f l) ]) none
      by none = refl
      by (some b) = ap (mapped (◌∷◌ b)) h

unfoldable pub lesser : ℕ → ℕ → ℕ
lesser a b = cond (ltb a b) a b

pub ranked_more : {l : List (List ℕ)} {k : ℕ} {r : Record} {ls : Lines} {m : ℕ} → Ranked l k r → Staged ls m → Staged (l ∷ ls) (lesser k m)
unfolding lesser places_fit
ranked_more (uneven e) (counted h) = counted (each_not row_of _ _ e)
ranked_more (uneven e) (numbered h i) = counted (each_not row_of _ _ e)
ranked_more (uneven e) (placed h i j) = counted (each_not row_of _ _ e)
ranked_more (uneven e) (passed h i j) = counted (each_not row_of _ _ e)
ranked_more {l} (unnumbered e f) (counted h) = counted (each_none row_of l _ h)
ranked_more (unnumbered e f) (numbered h i) = numbered (each_more row_of _ _ e h) (each_not entry_in _ _ f)
ranked_more (unnumbered e f) (placed h i j) = numbered (each_more row_of _ _ e h) (each_not entry_in _ _ f)
ranked_more (unnumbered e f) (passed h i j) = numbered (each_more row_of _ _ e h) (each_not entry_in _ _ f)
ranked_more {l} (unplaced e f g) (counted h) = counted (each_none row_of l _ h)
ranked_more (unplaced {row = row} e f g) (numbered h i) = numbered (each_more row_of _ _ e h) (each_none entry_in row _ i)
ranked_more (unplaced e f g) (placed {es = es} h i j) = placed (each_more row_of _ _ e h) (each_more entry_in _ _ f i) (ap (λ t. t && places_fit es) g)
ranked_more (unplaced e f g) (passed {es = es} h i j) = placed (each_more row_of _ _ e h) (each_more entry_in _ _ f i) (ap (λ t. t && places_fit es) g)
ranked_more {l} (good e f g k) (counted h) = counted (each_none row_of l _ h)
ranked_more (good {row = row} e f g k) (numbered h i) = numbered (each_more row_of _ _ e h) (each_none entry_in row _ i)
ranked_more (good {e = x} e f g k) (placed h i j) = placed (each_more row_of _ _ e h) (each_more entry_in _ _ f i) (ap₂ ◌&&◌ g j)
ranked_more (good e f g k) (passed h i j) = passed (each_more row_of _ _ e h) (each_more entry_in _ _ f i) (ap₂ ◌&&◌ g j)

pub none_staged : Staged [] 3
unfolding each places_fit
none_staged = passed refl refl refl

-- ---- the lesser of ranks

lesser_left : (a b : ℕ) → a < b → lesser a b ≡ a
unfolding lesser
lesser_left a b h = ap (λ t. cond t a b) (lt-ltb a b h)

lesser_right : (a b : ℕ) → b ≤ a → lesser a b ≡ b
unfolding lesser
lesser_right a b h = ap (λ t. cond t a b) (le-ltb a b h)

pub lesser_assoc : (a b c : ℕ) → lesser a (lesser b c) ≡ lesser (lesser a b) c
lesser_assoc a b c = by (ltb a b) refl (ltb b c) refl
  where
    by : (t : Bool) → ltb a b ≡ t → (u : Bool) → ltb b c ≡ u → lesser a (lesser b c) ≡ lesser (lesser a b) c
    by true e true h = let l = ltb-true a b e in let m = ltb-true b c h in ap (lesser a) (lesser_left b c m) ∙ lesser_left a b l ∙ sym (lesser_left a c (omega (arith, l, m))) ∙ ap (λ x. lesser x c) (sym (lesser_left a b l))
    by true e false h = let l = ltb-true a b e in let m = ltb-false b c h in ap (lesser a) (lesser_right b c m) ∙ ap (λ x. lesser x c) (sym (lesser_left a b l))
    by false e true h = let l = ltb-false a b e in let m = ltb-true b c h in ap (lesser a) (lesser_left b c m) ∙ lesser_right a b l ∙ sym (lesser_left b c m) ∙ ap (λ x. lesser x c) (sym (lesser_right a b l))
    by false e false h = let l = ltb-false a b e in let m = ltb-false b c h in ap (lesser a) (lesser_right b c m) ∙ lesser_right a c (omega (arith, l, m)) ∙ sym (lesser_right b c m) ∙ ap (λ x. lesser x c) (sym (lesser_right a b l))

pub lesser_least : (a : ℕ) → lesser a 0 ≡ 0
lesser_least a = lesser_right a 0 (omega arith)

pub lesser_most : (a : ℕ) → a ≤ 3 → lesser a 3 ≡ a
lesser_most a h = by (ltb a 3) refl
  where
    by : (t : Bool) → ltb a 3 ≡ t → lesser a 3 ≡ a
    by true e = lesser_left a 3 (ltb-true a 3 e)
    by false e = let l = ltb-false a 3 e in let k : 3 ≡ a = omega (arith, l, h) in lesser_right a 3 l ∙ k
