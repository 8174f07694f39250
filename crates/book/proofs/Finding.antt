-- The search of a record by its number, as `find` makes it among the records that count.
-- Assumes nothing.
use Rattle.std.proofs.Common.{◌≡◌, ap, sym, ◌∙◌, refl, Bool, true, false, cond, Option, Some, None, List, ℕ, ◌-◌, ◌≤◌, ◌<◌, length, get_or, take, is_some, unwrap_or, not, ◌&&◌, ap₂, ltb, eqb, arith, eq-eqb, ltb-true, ltb-false}
use Rattle.std.specs.List.{position, position_or_len}
use Rattle.std.proofs.lemmas.Option.{none-some}
use Rattle.std.proofs.lemmas.List.{length-take-le, get_or-take, get_or_default}
use Rattle.std.proofs.lemmas.List.Sums.{position_or_len_is}
use borrow.Author.Tests.{ne_eqb, lt-ltb, le-ltb}
use Rattle.book.specs.Books.{blank, room_of, in_range, found_from, place_of}
use Rattle.book.specs.Fates.{fate_of, fate_in}
use Rattle.book.specs.declared.Record.{Record}
use Rattle.book.specs.declared.Fate.{Fate}
use Rattle.book.specs.SearchLaws.{number_at}
use Rattle.book.proofs.SearchLaws.{place_finds}
use Rattle.book.proofs.SoundLaws.{room_within}

-- none is left
pub found_none : (book : List Record) (i count number : ℕ) → count ≤ i → found_from book i (count - i) number ≡ i
unfolding found_from
found_none book i count number l =
    let none : count - i ≡ 0 = omega (arith, l) in
    ap (λ n. found_from book i n number) none

module _ (b : List Record) (n k : ℕ) (few : n ≤ length b) where
  abbrev has : Record → Bool
  has r = eqb r.number k

  abbrev at : ℕ
  at = place_of b n k

  first : position_or_len has (take n b) ≡ at
  first =
      let f = place_finds b k n in
      let size = length-take-le n b few in
      position_or_len_is has (take n b) at blank (omega (arith, size, f.within))
      (λ j l. ap (λ (r : Record). eqb r.number k) (get_or-take n b j blank (omega (arith, l, f.within))) ∙ ne_eqb (number_at b j) k (f.before j l))
      (λ l. ap (λ (r : Record). eqb r.number k) (get_or-take n b at blank (omega (arith, l, size))) ∙ eq-eqb (number_at b at) k (f.here (omega (arith, l, size))))

  -- `position` gives the place, where a record has the number
  pub position_place : position has (take n b) ≡ cond (ltb at n) (Some at) None
  position_place =
      ap (λ (p : ℕ). cond (ltb p (length (take n b))) (Some p) None) first ∙ ap (λ (m : ℕ). cond (ltb at m) (Some at) None) (length-take-le n b few)

  -- the place that `find` promises, or n
  pub found_place : unwrap_or (position has (take n b)) n ≡ found_from b 0 n k
  unfolding place_of
  found_place = ap (λ o. unwrap_or o n) position_place ∙ by (ltb at n) refl
    where
      by : (t : Bool) → ltb at n ≡ t → unwrap_or (cond t (Some at) None) n ≡ at
      by true e = refl
      by false e = omega (arith, (place_finds b k n).within, ltb-false at n e)

  -- it is found, or not
  pub found_some : {p : ℕ} → position has (take n b) ≡ Some p → (at ≡ p) × (at < n)
  found_some {p = p} e = by (ltb at n) refl (sym position_place ∙ e)
    where
      by : (t : Bool) → ltb at n ≡ t → cond t (Some at) None ≡ Some p → (at ≡ p) × (at < n)
      by true h q = (ap (λ o. unwrap_or o 0) q, ltb-true at n h)
      by false h q = absurd (none-some p q)

  pub not_found : position has (take n b) ≡ None → at ≡ n
  not_found e = by (ltb at n) refl (sym position_place ∙ e)
    where
      by : (t : Bool) → ltb at n ≡ t → cond t (Some at) None ≡ None → at ≡ n
      by true h q = absurd (none-some at (sym q))
      by false h q = omega (arith, (place_finds b k n).within, ltb-false at n h)

  none_found : is_some (position has (take n b)) ≡ not (eqb at n)
  none_found = ap is_some position_place ∙ by (ltb at n) refl
    where
      by : (t : Bool) → ltb at n ≡ t → is_some (cond t (Some at) None) ≡ not (eqb at n)
      by true h = ap not (sym (ne_eqb at n (λ e. omega (arith, e, ltb-true at n h))))
      by false h = ap not (sym (eq-eqb at n (omega (arith, (place_finds b k n).within, ltb-false at n h))))

-- what is_sound_at tells of a record in range: whether none before has its number
pub alone_told : (b : List Record) (at : ℕ) (d : Record) (o : Option ℕ) (t : Bool) → at < length b → o ≡ position (λ (r : Record). eqb r.number (get_or b at d).number) (take at b)
    → is_some o ≡ not t → true ≡ in_range (get_or b at d) → t ≡ (in_range (get_or b at blank) && eqb (place_of b at (get_or b at blank).number) at)
alone_told b at d o t l e s i =
    let same = get_or_default b at d blank l in
    turned t (eqb (place_of b at (get_or b at d).number) at) (sym s ∙ ap is_some e ∙ none_found b at (get_or b at d).number (omega (arith, l)))
    ∙ ap₂ (λ x y. x && y) i refl ∙ ap (λ (r : Record). in_range r && eqb (place_of b at r.number) at) same
  where
    turned : (x y : Bool) → not x ≡ not y → x ≡ y
    turned true true h = refl
    turned true false h = sym h
    turned false true h = sym h
    turned false false h = refl

-- the fate by what was found
module _ (b : List Record) (n : ℕ) (r : Record) (few : n ≤ room_of (length b)) where
  abbrev its : ℕ
  its = place_of b n r.number

  all : n ≤ length b
  all = omega (arith, few, (room_within (length b)).0)

  pub judged_some : {p room : ℕ} {f : Fate} (d : Record) → position (λ (s : Record). eqb s.number r.number) (take n b) ≡ Some p → room ≡ room_of (length b) → f ≡ fate_of true (get_or b p d).time r.time n room
      → (f ≡ fate_in b n r) × (p ≡ its) × (n ≡ n)
  unfolding fate_in
  judged_some {p} {room} {f} d e m h =
      let at = found_some b n r.number all e in
      let l : p < length b = omega (arith, at.0, at.1, all) in (
        h ∙ ap (λ (s : Record). fate_of true s.time r.time n room) (get_or_default b p d blank l)
            ∙ ap₂ (λ (q k : ℕ). fate_of true (get_or b q blank).time r.time n k) (sym at.0) m
            ∙ ap (λ (t : Bool). fate_of t (get_or b its blank).time r.time n (room_of (length b))) (sym (lt-ltb its n at.1)),
        sym at.0,
        refl,
      )

  -- the same by the time at the place, as `time_at` promises it
  pub judged_at : {p room k : ℕ} {f : Fate} → position (λ (s : Record). eqb s.number r.number) (take n b) ≡ Some p → room ≡ room_of (length b)
      → k ≡ cond (ltb p n) (get_or b p blank).time 0 → f ≡ fate_of true k r.time n room
      → (f ≡ fate_in b n r) × (p ≡ its) × (n ≡ n)
  judged_at {p} {room} e m u h =
      let at = found_some b n r.number all e in
      let l : p < n = omega (arith, at.0, at.1) in
      judged_some blank e m (h ∙ ap (λ (q : ℕ). fate_of true q r.time n room) (u ∙ ap (λ (c : Bool). cond c (get_or b p blank).time 0) (lt-ltb p n l)))

  pub judged_none : {room : ℕ} {f : Fate} → position (λ (s : Record). eqb s.number r.number) (take n b) ≡ None → room ≡ room_of (length b) → f ≡ fate_of false 0 r.time n room
      → (f ≡ fate_in b n r) × (n ≡ its) × (n ≡ n)
  unfolding fate_in fate_of
  judged_none e m h =
      let none = not_found b n r.number all e in (
        h ∙ ap (λ (k : ℕ). fate_of false 0 r.time n k) m
            ∙ ap (λ (t : Bool). fate_of t (get_or b its blank).time r.time n (room_of (length b))) (sym (le-ltb its n (omega (arith, none)))),
        sym none,
        refl,
      )
