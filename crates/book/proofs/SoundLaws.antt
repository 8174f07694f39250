-- A book is sound where its count is within its room and each of its records is in range and the first with its number: what the code asks, place by place.
-- Assumes nothing.
use Rattle.std.specs.Prelude.{◌≡◌, Bool, true, false, not, ◌||◌, cond, ◌⊎◌, List, [], ◌∷◌, ◌++◌, map, length, get_or, take, T, leb, eqb}
use Rattle.std.proofs.Math.Path.{refl, ap₂}
use Rattle.std.proofs.Common.{sym, ap, ◌∙◌, true≢false, inl, inr, eq-or-lt_of_le, arith, take-suc, get_or-take, length-take-le, leb→le, leb-true, le-leb, eqb-true, eq-eqb, ne_eqb}
use Rattle.std.proofs.Math.Bool.{◌&&◌, and-eq-true_iff, and-true, and-false, and_assoc, or-true, or-false, or_assoc}
use Rattle.std.proofs.lemmas.List.{map-append, length-map}
use Prim.Native.Nat.{ℕ, zero, suc, ◌≤◌, ◌<◌}
use Rattle.std.proofs.Math.ListN.{get_or-map}
use Rattle.std.proofs.Math.Dec.{nleb→lt}
use Rattle.std.proofs.lemmas.Bool.{lt-leb, eqb-false}
use Rattle.book.specs.Books.{blank, room_of, in_range, all_in_range, is_in, once, is_sound, place_of}
use Rattle.book.specs.SearchLaws.{number_at, Place}
use Rattle.book.proofs.SearchLaws.{place_finds, place_is}
use Rattle.book.specs.declared.Record.{Record}

-- ---- the room

choose_cond : {A : Type 0} (P : A → Type 0) (b : Bool) (x y : A) → (T b → P x) → (T (not b) → P y) → P (cond b x y)
choose_cond P true x y f g = f tt
choose_cond P false x y f g = g tt

-- At most 64 records, and at most those that are lent.
pub room_within : (lent : ℕ) → (room_of lent ≤ lent) × (room_of lent ≤ 64)
unfolding room_of
room_within lent =
    choose_cond (λ n. (n ≤ lent) × (n ≤ 64)) (leb lent 64) lent 64
    (λ t. (omega arith, leb→le lent 64 t))
    (λ t. (omega (arith, nleb→lt lent 64 t), omega arith))

-- ---- one record more

range_snoc : (l : List Record) (r : Record) → all_in_range (l ++ r ∷ []) ≡ (all_in_range l && in_range r)
unfolding all_in_range
range_snoc [] r = and-true (in_range r)
range_snoc (x ∷ l) r = ap (λ t. in_range x && t) (range_snoc l r) ∙ sym (and_assoc (in_range x) (all_in_range l) (in_range r))

pub in_snoc : (n : ℕ) (ns : List ℕ) (k : ℕ) → is_in n (ns ++ k ∷ []) ≡ (is_in n ns || eqb n k)
unfolding is_in
in_snoc n [] k = or-false (eqb n k)
in_snoc n (m ∷ ns) k = ap (λ t. eqb n m || t) (in_snoc n ns k) ∙ sym (or_assoc (eqb n m) (is_in n ns) (eqb n k))

pub eqb_sym : (n k : ℕ) → eqb n k ≡ eqb k n
eqb_sym n k = by (eqb n k) refl
  where
    by : (t : Bool) → eqb n k ≡ t → eqb n k ≡ eqb k n
    by true e = e ∙ sym (eq-eqb k n (sym (eqb-true n k e)))
    by false e = e ∙ sym (ne_eqb k n (λ q. eqb-false n k e (sym q)))

once_snoc : (ns : List ℕ) (k : ℕ) → once (ns ++ k ∷ []) ≡ (once ns && not (is_in k ns))
unfolding once is_in
once_snoc [] k = refl
once_snoc (n ∷ ns) k =
    ap₂ (λ s t. not s && t) (in_snoc n ns k) (once_snoc ns k) ∙ shuffled (is_in n ns) (eqb n k) (once ns) (is_in k ns) ∙ ap (λ t. not (is_in n ns) && once ns && not (t || is_in k ns)) (eqb_sym n k)
  where
    shuffled : (a e o s : Bool) → (not (a || e) && (o && not s)) ≡ (not a && o && not (e || s))
    shuffled true e o s = refl
    shuffled false true true s = refl
    shuffled false true false s = refl
    shuffled false false o s = refl

-- ---- a number that stands nowhere before a place

not_in : (k : ℕ) (l : List ℕ) → ((j : ℕ) → j < length l → get_or l j 0 ≡ k → ⊥) → is_in k l ≡ false
unfolding is_in
not_in k [] h = refl
not_in k (n ∷ l) h =
    ap₂ ◌||◌ (ne_eqb k n (λ e. h 0 (omega arith) (sym e))) (not_in k l (λ j m. h (suc j) (omega (arith, m))))

is_in_lem : (k : ℕ) (l : List ℕ) (j : ℕ) → j < length l → get_or l j 0 ≡ k → is_in k l ≡ true
unfolding is_in
is_in_lem k [] j m e = absurd (omega (arith, m))
is_in_lem k (n ∷ l) zero m e = ap (λ t. t || is_in k l) (eq-eqb k n (sym e))
is_in_lem k (n ∷ l) (suc j) m e = ap (λ t. eqb k n || t) (is_in_lem k l j (omega (arith, m)) e) ∙ or-true (eqb k n)

module _ (b : List Record) where
  abbrev numbers : ℕ → List ℕ
  numbers i = map (λ (r : Record). r.number) (take i b)

  module _ (i : ℕ) (few : i ≤ length b) where
    numbers_length : length (numbers i) ≡ i
    numbers_length = length-map (take i b) (λ (r : Record). r.number) ∙ length-take-le i b few

    numbers_at : (j : ℕ) → j < i → get_or (numbers i) j 0 ≡ number_at b j
    numbers_at j l = get_or-map (λ (r : Record). r.number) (take i b) j blank ∙ ap (λ (r : Record). r.number) (get_or-take i b j blank l)

    alone : (k : ℕ) → not (is_in k (numbers i)) ≡ eqb (place_of b i k) i
    alone k = by (eq-or-lt_of_le f.within)
      where
        f : Place b i k (place_of b i k)
        f = place_finds b k i

        by : (place_of b i k ≡ i) ⊎ (place_of b i k < i) → not (is_in k (numbers i)) ≡ eqb (place_of b i k) i
        by (inl e) =
            ap not (not_in k (numbers i) (λ j l h. f.before j (omega (arith, l, e, numbers_length)) (sym (numbers_at j (omega (arith, l, numbers_length))) ∙ h)))
            ∙ sym (eq-eqb (place_of b i k) i e)
        by (inr l) =
            ap not (is_in_lem k (numbers i) (place_of b i k) (omega (arith, l, numbers_length)) (numbers_at (place_of b i k) l ∙ f.here l))
            ∙ sym (ne_eqb (place_of b i k) i (λ e. omega (arith, l, e)))

  -- The record at a place is in range, and none before it has its number.
  abbrev pub sound_at : ℕ → Bool
  sound_at j = in_range (get_or b j blank) && eqb (place_of b j (number_at b j)) j

  abbrev good : ℕ → Bool
  good i = all_in_range (take i b) && once (numbers i)

  good_next : (i : ℕ) → i < length b → good (suc i) ≡ (good i && sound_at i)
  good_next i l =
      ap (λ (rs : List Record). all_in_range rs && once (map (λ (r : Record). r.number) rs)) (take-suc b i blank l)
      ∙ ap₂ ◌&&◌ (range_snoc (take i b) (get_or b i blank)) (ap once (map-append (λ (r : Record). r.number) (take i b) (get_or b i blank ∷ [])) ∙ once_snoc (numbers i) (number_at b i) ∙ ap (λ t. once (numbers i) && t) (alone i (omega (arith, l)) (number_at b i)))
      ∙ shuffled (all_in_range (take i b)) (in_range (get_or b i blank)) (once (numbers i)) (eqb (place_of b i (number_at b i)) i)
    where
      shuffled : (p x o y : Bool) → (p && x && (o && y)) ≡ (p && o && (x && y))
      shuffled false x o y = refl
      shuffled true true o y = refl
      shuffled true false o y = sym (and-false o)

  all_good : (n : ℕ) → n ≤ length b → ((j : ℕ) → j < n → sound_at j ≡ true) → good n ≡ true
  unfolding all_in_range once
  all_good zero l h = refl
  all_good (suc n) l h = good_next n (omega (arith, l)) ∙ ap₂ ◌&&◌ (all_good n (omega (arith, l)) (λ j m. h j (omega (arith, m)))) (h n (omega arith))

  good_all : (n : ℕ) → n ≤ length b → good n ≡ true → (j : ℕ) → j < n → sound_at j ≡ true
  good_all zero l e j m = absurd (omega (arith, m))
  good_all (suc n) l e j m =
      let h = (and-eq-true_iff (good n) (sound_at n)).0 (sym (good_next n (omega (arith, l))) ∙ e) in
      let m' : j ≤ n = omega (arith, m) in
      elim (eq-or-lt_of_le m') [ inl same ↦ ap sound_at same ∙ h.1 | inr less ↦ good_all n (omega (arith, l)) h.0 j less ]

  -- ---- soundness, place by place

  module _ (n : ℕ) where
    abbrev fits : Bool
    fits = leb n (room_of (length b))

    split : is_sound b n ≡ (fits && good n)
    unfolding is_sound
    split = and_assoc fits (all_in_range (take n b)) (once (numbers n))

    inside : n ≤ room_of (length b) → n ≤ length b
    inside l = omega (arith, l, (room_within (length b)).0)

    -- A sound book's count is within its room.
    pub sound_count : is_sound b n ≡ true → n ≤ room_of (length b)
    sound_count e = leb-true n (room_of (length b)) ((and-eq-true_iff fits (good n)).0 (sym split ∙ e)).0

    pub sound_each : is_sound b n ≡ true → (j : ℕ) → j < n → sound_at j ≡ true
    sound_each e = good_all n (inside (sound_count e)) ((and-eq-true_iff fits (good n)).0 (sym split ∙ e)).1

    pub each_sound : n ≤ room_of (length b) → ((j : ℕ) → j < n → sound_at j ≡ true) → is_sound b n ≡ true
    each_sound l h = split ∙ ap₂ ◌&&◌ (le-leb n (room_of (length b)) l) (all_good n (inside l) h)

    pub past_room : room_of (length b) < n → is_sound b n ≡ false
    past_room l = split ∙ ap (λ t. t && good n) (lt-leb n (room_of (length b)) l)

    pub one_bad : (j : ℕ) → j < n → sound_at j ≡ false → is_sound b n ≡ false
    one_bad j l e = by (is_sound b n) refl
      where
        by : (t : Bool) → is_sound b n ≡ t → is_sound b n ≡ false
        by true h = absurd (true≢false (sym (sound_each h j l) ∙ e))
        by false h = h

  -- A sound place: in range, and no record before it has its number.
  pub sound_at_lem : (j : ℕ) → in_range (get_or b j blank) ≡ true → ((i : ℕ) → i < j → number_at b i ≡ number_at b j → ⊥) → sound_at j ≡ true
  sound_at_lem j e h =
      ap₂ ◌&&◌ e (eq-eqb (place_of b j (number_at b j)) j (place_is b (number_at b j) j (record { within = omega arith; here = λ l. absurd (omega (arith, l)); before = h })))

  pub at_sound : (j : ℕ) → sound_at j ≡ true → (in_range (get_or b j blank) ≡ true) × ((i : ℕ) → i < j → number_at b i ≡ number_at b j → ⊥)
  at_sound j e =
      let h = (and-eq-true_iff (in_range (get_or b j blank)) (eqb (place_of b j (number_at b j)) j)).0 e in
      let here = eqb-true (place_of b j (number_at b j)) j h.1 in
      (h.0, λ i l same. (place_finds b (number_at b j) j).before i (omega (arith, l, here)) same)
