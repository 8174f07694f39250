-- The text of a place byte by byte, and the text of a line in its parts.
-- Assumes nothing.
use mathlib.Core.Path.{◌≡◌, refl, sym, ap, ap₂, ◌∙◌}
use mathlib.Core.Bool.{Bool, true, false, ◌||◌, cond, true≢false}
use mathlib.Core.List.{List, [], ◌∷◌, ◌++◌, append_assoc, append-nil}
use Prim.Native.Nat.{ℕ, suc, ◌+◌, ◌≤◌, ◌<◌}
use native.Mathlib.Omega.{arith}
use lib.ListN.{length, take, drop, get_or, take-append-drop}
use lib.Seq.{take-suc, take_all}
use lib.Dec.{eqb}
use borrow.Author.Tests.{eq-eqb, ne_eqb}
use Rattle.std.specs.List.{list_any}
use Rattle.semantics.specs.Text.{decimal}
use Rattle.book.specs.Books.{entry_of}
use Rattle.book.specs.declared.Record.{Record}
use Rattle.ledger.specs.Ledger.{is_special, needs_quotes, doubled, in_quotes, field, line}
use Rattle.ledger_writer.specs.Emitting.{Emitted, Roomy, line_of}
use Rattle.ledger_writer.proofs.Emits.{emits_nothing, room_first, room_rest, room_of_lem, emits_as, emits_then}

-- ---- whether a place is quoted

pub any_special : (place : List ℕ) → list_any is_special place ≡ needs_quotes place
unfolding needs_quotes
any_special [] = refl
any_special (b ∷ place) = ap (λ t. is_special b || t) (any_special place)

-- ---- the bytes of a place, each quote twice

pub doubled_quote : (b : ℕ) → b ≡ 34 → doubled (b ∷ []) ≡ (34 ∷ []) ++ (34 ∷ [])
unfolding doubled
doubled_quote b e = rw (eq-eqb b 34 e) refl

pub doubled_else : (b : ℕ) → (b ≡ 34 → ⊥) → doubled (b ∷ []) ≡ b ∷ []
unfolding doubled
doubled_else b h = rw (ne_eqb b 34 h) refl

cond_append : (t : Bool) (x y z : List ℕ) → cond t (x ++ z) (y ++ z) ≡ cond t x y ++ z
cond_append true x y z = refl
cond_append false x y z = refl

doubled_append : (a b : List ℕ) → doubled (a ++ b) ≡ doubled a ++ doubled b
unfolding doubled
doubled_append [] b = refl
doubled_append (x ∷ a) b =
    ap (λ s. cond (eqb x 34) (34 ∷ 34 ∷ s) (x ∷ s)) (doubled_append a b) ∙ cond_append (eqb x 34) (34 ∷ 34 ∷ doubled a) (x ∷ doubled a) (doubled b)

-- The first i bytes are emitted, and the text is as long as it was.
pub record Doubling (live : Bool) (at : ℕ) (place old new : List ℕ) (next i : ℕ) : Type 0 where
  pub inside : i ≤ length place
  pub emitted : Emitted live at (doubled (take i place)) old new next
  pub same : length new ≡ length old

module _ {live : Bool} {at : ℕ} {place old : List ℕ} where
  pub doubling_starts : Doubling live at place old old at 0
  unfolding doubled
  doubling_starts = record { inside = omega arith; emitted = emits_nothing live at old; same = refl }

  module _ (room : Roomy live at (doubled place) old) {i next : ℕ} {mid : List ℕ} (d : Doubling live at place old mid next i) where
    module _ (h : i < length place) where
      more : doubled (take (i + 1) place) ≡ doubled (take i place) ++ doubled (get_or place i 0 ∷ [])
      more = let k : i + 1 ≡ suc i = omega arith in ap (λ n. doubled (take n place)) k ∙ ap doubled (take-suc place i 0 h) ∙ doubled_append (take i place) (get_or place i 0 ∷ [])

      upto : Roomy live at (doubled (take i place) ++ doubled (get_or place i 0 ∷ [])) old
      upto = room_of_lem more (room_first (doubled (take (i + 1) place)) (doubled (drop (i + 1) place)) (room_of_lem (ap doubled (sym (take-append-drop (i + 1) place)) ∙ doubled_append (take (i + 1) place) (drop (i + 1) place)) room))

      pub doubling_room : Roomy live next (doubled (get_or place i 0 ∷ [])) mid
      doubling_room = room_rest (doubled (take i place)) (doubled (get_or place i 0 ∷ [])) upto d.emitted d.same

      pub doubling_next : {new : List ℕ} {r : ℕ} → length new ≡ length mid → Emitted live next (doubled (get_or place i 0 ∷ [])) mid new r → Doubling live at place old new r (i + 1)
      doubling_next k x = record { inside = omega (arith, h); emitted = emits_as (sym more) (emits_then (doubled (take i place)) (doubled (get_or place i 0 ∷ [])) upto d.emitted x); same = k ∙ d.same }

    pub doubling_ends : length place ≤ i → Emitted live at (doubled place) old mid next
    doubling_ends h = emits_as (ap doubled (take_all i place h)) d.emitted

-- ---- a place

pub field_quoted : (place : List ℕ) {t : Bool} → t ≡ needs_quotes place → t ≡ true → field place [] ≡ (34 ∷ []) ++ (doubled place ++ (34 ∷ []))
unfolding field in_quotes
field_quoted place is e = ap (λ t. cond t (in_quotes place []) (place ++ [])) (sym is ∙ e)

plain_doubled : (f : List ℕ) → needs_quotes f ≡ false → doubled f ≡ f
unfolding needs_quotes doubled is_special
plain_doubled [] h = refl
plain_doubled (b ∷ f) h = by (eqb b 44) (eqb b 34) (eqb b 13) (eqb b 10) (plain_doubled f) h
  where
    by : (k q r l : Bool) → (needs_quotes f ≡ false → doubled f ≡ f) → ((k || q || r || l) || needs_quotes f) ≡ false → cond q (34 ∷ 34 ∷ doubled f) (b ∷ doubled f) ≡ b ∷ f
    by true q r l ih e = absurd (true≢false e)
    by false true r l ih e = absurd (true≢false e)
    by false false true l ih e = absurd (true≢false e)
    by false false false true ih e = absurd (true≢false e)
    by false false false false ih e = ap (◌∷◌ b) (ih e)

pub field_plain : (place : List ℕ) {t : Bool} → t ≡ needs_quotes place → t ≡ false → field place [] ≡ doubled place
unfolding field
field_plain place is e = ap (λ t. cond t (in_quotes place []) (place ++ [])) (sym is ∙ e) ∙ append-nil place ∙ sym (plain_doubled place (sym is ∙ e))

-- ---- a line

pub field_rest : (f s : List ℕ) → field f s ≡ field f [] ++ s
unfolding field in_quotes
field_rest f s = ap₂ (cond (needs_quotes f)) (ap (◌∷◌ 34) (sym (append_assoc (doubled f) (34 ∷ []) s))) (ap (λ l. l ++ s) (sym (append-nil f))) ∙ cond_append (needs_quotes f) (34 ∷ doubled f ++ 34 ∷ []) (f ++ []) s

pub line_parts : (r : Record) → line_of r ≡ decimal r.number ++ ((44 ∷ []) ++ (field (take r.length r.place) [] ++ ((44 ∷ []) ++ (decimal r.time ++ (13 ∷ 10 ∷ [])))))
unfolding line_of line entry_of
line_parts r = ap (λ s. decimal r.number ++ 44 ∷ s) (field_rest (take r.length r.place) (44 ∷ decimal r.time ++ 13 ∷ 10 ∷ []))
