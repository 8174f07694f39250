-- What an entry does to a book (02, W3). After an accepted entry the book says it, says of every other socket what it said, and is sound; so two accepted entries of different sockets
-- leave the same in either order.
-- Assumes nothing.
use Rattle.std.specs.Prelude.{◌≡◌, Bool, true, false, ◌&&◌, ◌⊎◌, ℕ, ◌+◌, ◌-◌, ◌≤◌, ◌<◌, replicate, ltb, eqb}
use Rattle.std.proofs.Math.Path.{refl, ap}
use Rattle.std.proofs.Common.{sym, ap₂, subst, ◌∙◌, eq-or-lt_of_le, arith, length-append}
use Rattle.std.proofs.Math.Bool.{cond}
use Rattle.std.proofs.lemmas.Bool.{false≢true}
use Rattle.std.proofs.Math.Logic.{inl, inr}
use mathlib.Core.List.{List}
use Rattle.std.proofs.Math.Option.{Option, none, some}
use Rattle.std.proofs.Math.ListN.{length, get_or, length-set}
use Rattle.std.proofs.lemmas.List.{length-replicate}
use Rattle.std.proofs.Math.Seq.{get_or-set_same, get_or-set_other, take-append_seam}
use borrow.Author.Tests.{le-leb, lt-ltb, le-ltb, ltb-true, ltb-false, eqb-true, eqb-false}
use Rattle.book.specs.Books.{Entry, IsEntry, greatest, entry_of, record_of, blank, room_of, is_place_length, are_in_range, in_range, is_sound, place_of, said_at, said}
use Rattle.book.specs.Fates.{fate_of, fate_in, is_replacing, is_adding, book_with, book_after, count_after, Accepted, replaces, adds}
use Rattle.book.specs.SearchLaws.{number_at, Place}
use Rattle.book.proofs.SearchLaws.{place_finds, place_is}
use Rattle.book.proofs.SoundLaws.{room_within, sound_count, sound_each, each_sound, sound_at, sound_at_lem, at_sound}
use Rattle.book.specs.declared.Record.{Record}
use Rattle.book.specs.declared.Fate.{Fate}
use Rattle.book.specs.declared.Fate.TheVariants.{Replaces, Adds, Late, Full}
use Rattle.book.specs.BookLaws.{book_then, count_then, said_then}

-- ---- an entry and its record

pub record_entry : (e : Entry) → entry_of (record_of e) ≡ e
unfolding entry_of record_of
record_entry e = λ i. record { number = e.number; place = take-append_seam e.place (replicate (31 - length e.place) 0) i; time = e.time }

-- A place of at most 31 bytes is written in 31.
pub record_size : (e : Entry) → IsEntry e → length (record_of e).place ≡ 31
unfolding record_of
record_size e h = omega (arith, length-append e.place (replicate (31 - length e.place) 0), length-replicate {A = ℕ} (31 - length e.place) 0, h.few_bytes)

-- The record of an entry in range is in range.
pub entry_range : (e : Entry) → IsEntry e → in_range (record_of e) ≡ true
unfolding in_range are_in_range is_place_length record_of
entry_range e h =
    ap₂ ◌&&◌ (ap₂ ◌&&◌ (le-leb e.number greatest h.number) (le-leb e.time greatest h.time)) (ap₂ ◌&&◌ (le-leb 1 (length e.place) h.some_bytes) (le-leb (length e.place) 31 h.few_bytes))

-- ---- the fate

replaces_how : (found later roomy : Bool) → is_replacing (cond found (cond later Replaces Late) (cond roomy Adds Full)) ≡ true → (found ≡ true) × (later ≡ true)
replaces_how true true roomy e = (refl, refl)
replaces_how true false roomy e = absurd (false≢true e)
replaces_how false later true e = absurd (false≢true e)
replaces_how false later false e = absurd (false≢true e)

adds_how : (found later roomy : Bool) → is_adding (cond found (cond later Replaces Late) (cond roomy Adds Full)) ≡ true → (found ≡ false) × (roomy ≡ true)
adds_how true true roomy e = absurd (false≢true e)
adds_how true false roomy e = absurd (false≢true e)
adds_how false later true e = (refl, refl)
adds_how false later false e = absurd (false≢true e)

module _ (b : List Record) (n : ℕ) (r : Record) where
  abbrev at : ℕ
  at = place_of b n r.number

  abbrev stored : ℕ
  stored = (get_or b at blank).time

  -- An entry replaces where its socket is in the book with an earlier time.
  pub fate_replaces : at < n → stored < r.time → fate_in b n r ≡ Replaces
  unfolding fate_in fate_of
  fate_replaces l m = ap (λ t. cond t (cond (ltb stored r.time) Replaces Late) (cond (ltb n (room_of (length b))) Adds Full)) (lt-ltb at n l) ∙ ap (λ t. cond t Replaces Late) (lt-ltb stored r.time m)

  pub replaces_fate : is_replacing (fate_in b n r) ≡ true → (at < n) × (stored < r.time)
  unfolding fate_in fate_of
  replaces_fate e =
      let h = replaces_how (ltb at n) (ltb stored r.time) (ltb n (room_of (length b))) e in
      (ltb-true at n h.0, ltb-true stored r.time h.1)

  -- It is added where its socket is not in the book and there is room.
  pub fate_adds : n ≤ at → n < room_of (length b) → fate_in b n r ≡ Adds
  unfolding fate_in fate_of
  fate_adds l m = ap (λ t. cond t (cond (ltb stored r.time) Replaces Late) (cond (ltb n (room_of (length b))) Adds Full)) (le-ltb at n l) ∙ ap (λ t. cond t Adds Full) (lt-ltb n (room_of (length b)) m)

  pub adds_fate : is_adding (fate_in b n r) ≡ true → (at ≡ n) × (n < room_of (length b))
  unfolding fate_in fate_of
  adds_fate e =
      let h = adds_how (ltb at n) (ltb stored r.time) (ltb n (room_of (length b))) e in
      (omega (arith, ltb-false at n h.0, (place_finds b r.number n).within), ltb-true n (room_of (length b)) h.1)

  -- ---- the book after it

  -- The book is as long as it was.
  pub length_after : length (book_after b n r) ≡ length b
  unfolding book_after book_with
  length_after = by (fate_in b n r)
    where
      by : (f : Fate) → length (book_with f at r b) ≡ length b
      by Replaces = length-set b at r
      by Adds = length-set b at r
      by Late = refl
      by Full = refl

  -- Every record but the one at the entry's place is as it was.
  pub others_stay : (j : ℕ) → (j ≡ at → ⊥) → get_or (book_after b n r) j blank ≡ get_or b j blank
  unfolding book_after book_with
  others_stay j h = by (fate_in b n r)
    where
      by : (f : Fate) → get_or (book_with f at r b) j blank ≡ get_or b j blank
      by Replaces = get_or-set_other b at j r blank h
      by Adds = get_or-set_other b at j r blank h
      by Late = refl
      by Full = refl

  -- A late entry, and one that finds the book full, leave the book and the count as they were.
  pub late_stays : fate_in b n r ≡ Late → (book_after b n r ≡ b) × (count_after b n r ≡ n)
  unfolding book_after book_with count_after
  late_stays e = (ap (λ (f : Fate). book_with f at r b) e, ap (λ (f : Fate). cond (is_adding f) (n + 1) n) e)

  pub full_stays : fate_in b n r ≡ Full → (book_after b n r ≡ b) × (count_after b n r ≡ n)
  unfolding book_after book_with count_after
  full_stays e = (ap (λ (f : Fate). book_with f at r b) e, ap (λ (f : Fate). cond (is_adding f) (n + 1) n) e)

  -- What an accepted entry does, in either way: it stands at its place, which is one of those that count now; the others that count did so before.
  pub record Taken (b' : List Record) (n' : ℕ) : Type 0 where
    pub size : length b' ≡ length b
    pub here : get_or b' at blank ≡ r
    pub others : (j : ℕ) → (j ≡ at → ⊥) → get_or b' j blank ≡ get_or b j blank
    pub among : at < n'
    pub more : n ≤ n'
    pub rest : (j : ℕ) → j < n' → (j ≡ at → ⊥) → j < n
    pub room : n' ≤ room_of (length b)

  pub taken_replaces : n ≤ room_of (length b) → fate_in b n r ≡ Replaces → (count_after b n r ≡ n) × Taken (book_after b n r) (count_after b n r)
  unfolding book_after book_with count_after
  taken_replaces few e =
      let l = (replaces_fate (ap is_replacing e)).0 in
      let inside : at < length b = omega (arith, l, few, (room_within (length b)).0) in
      let same : count_after b n r ≡ n = ap (λ (f : Fate). cond (is_adding f) (n + 1) n) e in (
        same,
        record {
          size = length_after;
          here = ap (λ (f : Fate). get_or (book_with f at r b) at blank) e ∙ get_or-set_same b at r blank inside;
          others = others_stay;
          among = omega (arith, l, same);
          more = omega (arith, same);
          rest = λ j m h. omega (arith, m, same);
          room = omega (arith, same, few);
        },
      )

  pub taken_adds : fate_in b n r ≡ Adds → (count_after b n r ≡ n + 1) × Taken (book_after b n r) (count_after b n r)
  unfolding book_after book_with count_after
  taken_adds e =
      let h = adds_fate (ap is_adding e) in
      let inside : at < length b = omega (arith, h.0, h.1, (room_within (length b)).0) in
      let same : count_after b n r ≡ n + 1 = ap (λ (f : Fate). cond (is_adding f) (n + 1) n) e in (
        same,
        record {
          size = length_after;
          here = ap (λ (f : Fate). get_or (book_with f at r b) at blank) e ∙ get_or-set_same b at r blank inside;
          others = others_stay;
          among = omega (arith, h.0, same);
          more = omega (arith, same);
          rest = λ j m ne. elim (eq-or-lt_of_le {n = j} {m = n} (omega (arith, m, same))) [ inl q ↦ absurd (ne (omega (arith, q, h.0))) | inr less ↦ less ];
          room = omega (arith, same, h.1);
        },
      )

-- ---- where the sockets stand after it

module _ {b : List Record} {n : ℕ} {r : Record} {b' : List Record} {n' : ℕ} (t : Taken b n r b' n') where
  abbrev own : ℕ
  own = place_of b n r.number

  found : Place b n r.number own
  found = place_finds b r.number n

  place_own : place_of b' n' r.number ≡ own
  place_own = place_is b' r.number n' (record {
    within = omega (arith, t.among);
    here = λ l. ap (λ (s : Record). s.number) t.here;
    before = λ j l h. found.before j l (sym (ap (λ (s : Record). s.number) (t.others j (λ e. omega (arith, l, e)))) ∙ h);
  })

  module _ (k : ℕ) (other : k ≡ r.number → ⊥) where
    abbrev its : ℕ
    its = place_of b n k

    stands : Place b n k its
    stands = place_finds b k n

    kept : (j : ℕ) → number_at b' j ≡ k → (j ≡ own → ⊥) × (number_at b j ≡ k)
    kept j h =
        let ne : j ≡ own → ⊥ = λ e. other (sym h ∙ ap (number_at b') e ∙ ap (λ (s : Record). s.number) t.here) in
        (ne, sym (ap (λ (s : Record). s.number) (t.others j ne)) ∙ h)

    -- Another socket's record keeps its place.
    there : its < n → (place_of b' n' k ≡ its) × (get_or b' its blank ≡ get_or b its blank)
    there l =
        let ne : its ≡ own → ⊥ = λ e. other (sym (stands.here l) ∙ ap (number_at b) e ∙ found.here (omega (arith, l, e))) in
        let same = t.others its ne in (
          place_is b' k n' (record {
            within = omega (arith, l, t.more);
            here = λ m. ap (λ (s : Record). s.number) same ∙ stands.here l;
            before = λ j m h. stands.before j m (kept j h).1;
          }),
          same,
        )

    -- Another socket that is not in the book is not in it after.
    absent : n ≤ its → place_of b' n' k ≡ n'
    absent l = place_is b' k n' (record {
      within = omega arith;
      here = λ m. absurd (omega (arith, m));
      before = λ j m h. stands.before j (omega (arith, t.rest j m (kept j h).0, l)) (kept j h).1;
    })

  -- ---- what the book says after it

  said_taken : (k : ℕ) → said k b' n' ≡ cond (eqb k r.number) (some (entry_of r)) (said k b n)
  unfolding said said_at
  said_taken k = by (eqb k r.number) refl
    where
      in_book : (l : List Record) (m p : ℕ) → p < m → said_at l m p ≡ some (entry_of (get_or l p blank))
      in_book l m p h = ap (λ (s : Bool). cond s (some (entry_of (get_or l p blank))) none) (lt-ltb p m h)

      not_in_book : (l : List Record) (m p : ℕ) → m ≤ p → said_at l m p ≡ none
      not_in_book l m p h = ap (λ (s : Bool). cond s (some (entry_of (get_or l p blank))) none) (le-ltb p m h)

      another : (k ≡ r.number → ⊥) → (place_of b n k ≡ n) ⊎ (place_of b n k < n) → said_at b' n' (place_of b' n' k) ≡ said_at b n (place_of b n k)
      another ne (inl e) = not_in_book b' n' (place_of b' n' k) (omega (arith, absent k ne (omega (arith, e)))) ∙ sym (not_in_book b n (place_of b n k) (omega (arith, e)))
      another ne (inr l) =
          ap (said_at b' n') (there k ne l).0 ∙ in_book b' n' (place_of b n k) (omega (arith, l, t.more)) ∙ ap (λ (s : Record). some (entry_of s)) (there k ne l).1 ∙ sym (in_book b n (place_of b n k) l)

      by : (s : Bool) → eqb k r.number ≡ s → said_at b' n' (place_of b' n' k) ≡ cond s (some (entry_of r)) (said_at b n (place_of b n k))
      by true e = ap (λ (j : ℕ). said_at b' n' (place_of b' n' j)) (eqb-true k r.number e) ∙ ap (said_at b' n') place_own ∙ in_book b' n' own t.among ∙ ap (λ (s : Record). some (entry_of s)) t.here
      by false e = another (eqb-false k r.number e) (eq-or-lt_of_le (place_finds b k n).within)

  sound_taken : is_sound b n ≡ true → in_range r ≡ true → is_sound b' n' ≡ true
  sound_taken e h = each_sound b' n' (subst (λ (m : ℕ). n' ≤ room_of m) (sym t.size) t.room) (λ j l. by j l (eqb j own) refl)
    where
      own_sound : sound_at b' own ≡ true
      own_sound = sound_at_lem b' own (ap in_range t.here ∙ h)
          (λ i l q. found.before i l (sym (ap (λ (s : Record). s.number) (t.others i (λ m. omega (arith, l, m)))) ∙ q ∙ ap (λ (s : Record). s.number) t.here))

      other_sound : (j : ℕ) → j < n' → (j ≡ own → ⊥) → sound_at b' j ≡ true
      other_sound j l ne =
          let before = at_sound b j (sound_each b n e j (t.rest j l ne)) in
          let same = t.others j ne in
          sound_at_lem b' j (ap in_range same ∙ before.0) (λ i m q. earlier i m (q ∙ ap (λ (s : Record). s.number) same) before.1 (eqb i own) refl)
        where
          earlier : (i : ℕ) → i < j → number_at b' i ≡ number_at b j → ((k : ℕ) → k < j → number_at b k ≡ number_at b j → ⊥) → (s : Bool) → eqb i own ≡ s → ⊥
          earlier i m q none_before true p =
              let here = eqb-true i own p in
              let less = t.rest j l ne in
              none_before own (omega (arith, m, here)) (found.here (omega (arith, m, here, less)) ∙ sym (ap (λ (s : Record). s.number) t.here) ∙ sym (ap (number_at b') here) ∙ q)
          earlier i m q none_before false p = none_before i m (sym (ap (λ (s : Record). s.number) (t.others i (eqb-false i own p))) ∙ q)

      by : (j : ℕ) → j < n' → (s : Bool) → eqb j own ≡ s → sound_at b' j ≡ true
      by j l true q = ap (sound_at b') (eqb-true j own q) ∙ own_sound
      by j l false q = other_sound j l (eqb-false j own q)

-- ---- accepted entries

module _ (b : List Record) (n : ℕ) (e : Entry) where
  -- The book after an entry, and its count.
  taken : n ≤ room_of (length b) → Accepted b n e → Taken b n (record_of e) (book_then b n e) (count_then b n e)
  taken few (replaces h) = (taken_replaces b n (record_of e) few h).1
  taken few (adds h) = (taken_adds b n (record_of e) h).1

  -- After an accepted entry the book says it, and of every other socket what it said.
  pub said_after_lem : n ≤ room_of (length b) → Accepted b n e → (k : ℕ) → said k (book_then b n e) (count_then b n e) ≡ cond (eqb k e.number) (some e) (said k b n)
  unfolding record_of
  said_after_lem few h k = said_taken (taken few h) k ∙ ap (λ (x : Entry). cond (eqb k e.number) (some x) (said k b n)) (record_entry e)

  -- A sound book is sound after an accepted entry in range.
  pub sound_after : is_sound b n ≡ true → IsEntry e → Accepted b n e → is_sound (book_then b n e) (count_then b n e) ≡ true
  sound_after h is ok = sound_taken (taken (sound_count b n h) ok) h (entry_range e is)

-- ---- either order

module _ {b : List Record} {n : ℕ} {r : Record} {b' : List Record} {n' : ℕ} (t : Taken b n r b' n') (e : Entry) (other : (record_of e).number ≡ r.number → ⊥) where
  abbrev number : ℕ
  number = (record_of e).number

  same_room : room_of (length b') ≡ room_of (length b)
  same_room = ap room_of t.size

  same_time : (l : place_of b n number < n) → (get_or b' (place_of b' n' number) blank).time ≡ (get_or b (place_of b n number) blank).time
  same_time l = ap (λ (j : ℕ). (get_or b' j blank).time) (there t number other l).0 ∙ ap (λ (s : Record). s.time) (there t number other l).1

  -- What is accepted after an entry of another socket is accepted without it.
  accepted_before : Accepted b' n' e → Accepted b n e
  accepted_before h = by h (eq-or-lt_of_le (place_finds b number n).within)
    where
      by : Accepted b' n' e → (place_of b n number ≡ n) ⊎ (place_of b n number < n) → Accepted b n e
      by (replaces f) (inl q) = absurd (omega (arith, (replaces_fate b' n' (record_of e) (ap is_replacing f)).0, absent t number other (omega (arith, q))))
      by (adds f) (inl q) = adds (fate_adds b n (record_of e) (omega (arith, q)) (omega (arith, (adds_fate b' n' (record_of e) (ap is_adding f)).1, same_room, t.more)))
      by (replaces f) (inr l) = replaces (fate_replaces b n (record_of e) l (omega (arith, (replaces_fate b' n' (record_of e) (ap is_replacing f)).1, same_time l)))
      by (adds f) (inr l) = absurd (omega (arith, (adds_fate b' n' (record_of e) (ap is_adding f)).0, (there t number other l).0, l, t.more))

  -- What is accepted is accepted after an entry of another socket, if there is still room where it adds.
  accepted_after : (fate_in b n (record_of e) ≡ Adds → n' < room_of (length b)) → Accepted b n e → Accepted b' n' e
  accepted_after room (replaces f) =
      let h = replaces_fate b n (record_of e) (ap is_replacing f) in
      replaces (fate_replaces b' n' (record_of e) (omega (arith, h.0, (there t number other h.0).0, t.more)) (omega (arith, h.1, same_time h.0)))
  accepted_after room (adds f) =
      let h = adds_fate b n (record_of e) (ap is_adding f) in
      adds (fate_adds b' n' (record_of e) (omega (arith, absent t number other (omega (arith, h.0)))) (omega (arith, room f, same_room)))

  -- Where both add there is room for both.
  room_for_both : Accepted b' n' e → fate_in b n (record_of e) ≡ Adds → n' < room_of (length b)
  room_for_both (replaces g) f = absurd (omega (arith, (replaces_fate b' n' (record_of e) (ap is_replacing g)).0, absent t number other (omega (arith, (adds_fate b n (record_of e) (ap is_adding f)).0))))
  room_for_both (adds g) f = omega (arith, (adds_fate b' n' (record_of e) (ap is_adding g)).1, same_room)

-- Two entries of different sockets that are accepted in one order are accepted in the other, and the book says the same of every socket (02, W3).
pub order_free : (b : List Record) (n : ℕ) (x y : Entry)
    → is_sound b n ≡ true
    → (x.number ≡ y.number → ⊥)
    → Accepted b n x
    → Accepted (book_then b n x) (count_then b n x) y
    → Accepted b n y
    × Accepted (book_then b n y) (count_then b n y) x
    × ((k : ℕ) → said_then b n x y k ≡ said_then b n y x k)
unfolding record_of
order_free b n x y sound differ first second = (alone, swapped, λ k. says k (eqb k x.number) refl (eqb k y.number) refl)
  where
    few : n ≤ room_of (length b)
    few = sound_count b n sound

    tx : Taken b n (record_of x) (book_then b n x) (count_then b n x)
    tx = taken b n x few first

    alone : Accepted b n y
    alone = accepted_before tx y (λ e. differ (sym e)) second

    ty : Taken b n (record_of y) (book_then b n y) (count_then b n y)
    ty = taken b n y few alone

    room : Accepted b n y → fate_in b n (record_of x) ≡ Adds → count_then b n y < room_of (length b)
    room (replaces g) f = omega (arith, (taken_replaces b n (record_of y) few g).0, (adds_fate b n (record_of x) (ap is_adding f)).1)
    room (adds g) f =
        omega (arith, (taken_adds b n (record_of y) g).0, (taken_adds b n (record_of x) f).0, room_for_both tx y (λ e. differ (sym e)) second g)

    swapped : Accepted (book_then b n y) (count_then b n y) x
    swapped = accepted_after ty x differ (room alone) first

    within : {r : Record} {b' : List Record} {n' : ℕ} → Taken b n r b' n' → n' ≤ room_of (length b')
    within {n' = n'} t = subst (λ (m : ℕ). n' ≤ room_of m) (sym t.size) t.room

    says : (k : ℕ) (s : Bool) → eqb k x.number ≡ s → (u : Bool) → eqb k y.number ≡ u
        → said_then b n x y k ≡ said_then b n y x k
    says k s p u q =
        said_after_lem (book_then b n x) (count_then b n x) y (within tx) second k
        ∙ ap₂ (λ (v : Bool) (o : Option Entry). cond v (some y) o) q (said_after_lem b n x few first k ∙ ap (λ (v : Bool). cond v (some x) (said k b n)) p)
        ∙ swap s p u q
        ∙ sym (said_after_lem (book_then b n y) (count_then b n y) x (within ty) swapped k ∙ ap₂ (λ (v : Bool) (o : Option Entry). cond v (some x) o) p (said_after_lem b n y few alone k ∙ ap (λ (v : Bool). cond v (some y) (said k b n)) q))
      where
        swap : (s : Bool) → eqb k x.number ≡ s → (u : Bool) → eqb k y.number ≡ u → cond u (some y) (cond s (some x) (said k b n)) ≡ cond s (some x) (cond u (some y) (said k b n))
        swap true p true q = absurd (differ (sym (eqb-true k x.number p) ∙ eqb-true k y.number q))
        swap true p false q = refl
        swap false p u q = refl
