-- The words by their keys: a key tells a word's bytes, so the place of the key among the keys is the word's number, by which the definition finds it.
-- Assumes nothing.
use mathlib.Core.Path.{◌≡◌, refl, sym, ap, subst, ◌∙◌}
use mathlib.Core.Bool.{Bool, true, false, cond}
use mathlib.Core.List.{List, [], ◌∷◌, ◌++◌, map, reverse, reverse-cons, reverse-reverse, append_assoc}
use Prim.Native.Nat.{ℕ, zero, suc, ◌+◌, ◌-◌, ◌*◌, ◌/◌, ◌%◌, ◌^◌, ◌≤◌, ◌<◌, min}
use native.Mathlib.Nat.{pow-suc, pow-le-pow_right, zero-min, suc-min-suc}
use native.Mathlib.Numerals.{add-one}
use native.Mathlib.Omega.{arith}
use lib.ListN.{length, get_or, drop, drop_of_length-le}
use lib.Seq.{drop-cons}
use lib.Dec.{eqb}
use borrow.Author.Tests.{ne_eqb, eqb-true, eqb-false}
use Rattle.semantics.specs.Text.{same, textual}
use Rattle.semantics.specs.SameLaws.{same_refl, same_equal}
use Rattle.semantics.specs.ListLaws.{All, nil, cons, ◌&◌, all_reverse}
use Rattle.forf_semantics.specs.Machine as Forf
use Rattle.forf_semantics.specs.Operators.{Operator, Entry, ◌is◌, table, find, perform}
use Rattle.forf_semantics.specs.declared.Error.TheVariants.{Undefined}
use Rattle.forf_machine.specs.Rep.{machine_of}
use Rattle.forf_machine.specs.Does.{Acted, Does}
use Rattle.forf_machine.specs.declared.Machine.{Machine}
use Rattle.std.specs.Prelude.{Err, Option, Some, None}
use Rattle.forf_machine.proofs.Answering.{failed}
use Rattle.forf_machine.specs.declared.titles.Word.{Word}
use Rattle.forf_machine.specs.Titles.{titles, number_of, place_of, place_in, undefined, action_at, key_from, key_of, keys, key_place}

-- ---- a key tells the bytes

-- The bytes of a key, the last first.
unfoldable pub told : ℕ → ℕ → List ℕ
told zero k = []
told (suc f) k = cond (eqb k 1) [] (k % 256 ∷ told f (k / 256))

told_one : (f : ℕ) → told f 1 ≡ []
unfolding told
told_one zero = refl
told_one (suc f) = refl

told_more : (f k b : ℕ) → 1 ≤ k → b < 256 → told (suc f) (k * 256 + b) ≡ b ∷ told f k
unfolding told
told_more f k b h l =
    let r : (k * 256 + b) % 256 ≡ b = omega arith in
    let q : (k * 256 + b) / 256 ≡ k = omega arith in
    rw (ne_eqb (k * 256 + b) 1 (λ e. omega arith), r, q) refl

told_key : (n : List ℕ) (f k : ℕ) → 1 ≤ k → All (λ (b : ℕ). b < 256) n → told (length n + f) (key_from k n) ≡ reverse n ++ told f k
unfolding key_from
told_key [] f k h A = ap (λ (i : ℕ). told i k) (omega arith)
told_key (b ∷ n) f k h (cons p ps) =
    let i : suc (length n) + f ≡ length n + suc f = omega arith in
    ap (λ (j : ℕ). told j (key_from (k * 256 + b) n)) i
    ∙ told_key n (suc f) (k * 256 + b) (omega arith) ps
    ∙ ap (λ (l : List ℕ). reverse n ++ l) (told_more f k b h p)
    ∙ sym (append_assoc (reverse n) (b ∷ []) (told f k))
    ∙ ap (λ (l : List ℕ). l ++ told f k) (sym (reverse-cons b n))

-- What six bytes suffice for: the bytes can be told from the key.
unfoldable pub Tellable : List ℕ → Type 0
Tellable n = told 6 (key_of n) ≡ reverse n

pub tellable : (n : List ℕ) → length n ≤ 6 → All (λ (b : ℕ). b < 256) n → Tellable n
unfolding Tellable key_of
tellable n h A =
    let i : 6 ≡ length n + (6 - length n) = omega arith in
    ap (λ (f : ℕ). told f (key_from 1 n)) i ∙ told_key n (6 - length n) 1 (omega arith) A ∙ rw (told_one (6 - length n)) (append_none (reverse n))
  where
    append_none : (l : List ℕ) → l ++ [] ≡ l
    append_none [] = refl
    append_none (x ∷ l) = ap (λ (t : List ℕ). x ∷ t) (append_none l)

one_key : (n t : List ℕ) → Tellable n → Tellable t → key_of n ≡ key_of t → n ≡ t
unfolding Tellable
one_key n t N T e =
    sym (reverse-reverse n) ∙ ap reverse (sym N ∙ ap (told 6) e ∙ T) ∙ reverse-reverse t

same_key : (n t : List ℕ) → Tellable n → Tellable t → same n t ≡ eqb (key_of n) (key_of t)
same_key n t N T = by (eqb (key_of n) (key_of t)) refl (same n t) refl
  where
    by : (u : Bool) → eqb (key_of n) (key_of t) ≡ u → (v : Bool) → same n t ≡ v → same n t ≡ u
    by true e v f = subst (λ (x : List ℕ). same n x ≡ true) (one_key n t N T (eqb-true (key_of n) (key_of t) e)) (same_refl n)
    by false e true f = absurd (eqb-false (key_of n) (key_of t) e (ap key_of (same_equal n t f)))
    by false e false f = f

key_places : (n : List ℕ) (ts : List (List ℕ)) → Tellable n → All Tellable ts → place_in ts n ≡ key_place (map key_of ts) (key_of n)
unfolding place_in key_place
key_places n [] N nil = refl
key_places n (t ∷ ts) N (cons p ps) = rw (same_key n t N p, key_places n ts N ps) refl

titles_tellable : All Tellable titles
unfolding titles table ◌is◌ Tellable told key_of key_from textual
titles_tellable =
    refl & refl & refl & refl & refl & refl & refl & refl & refl & refl & refl & refl & refl
    & refl & refl & refl & refl & refl & refl & refl & refl & refl & refl & refl & refl & refl & nil

-- The bytes of a slice.
pub all_bytes : (n : List ℕ) → ((i : ℕ) → get_or n i 0 < 256) → All (λ (b : ℕ). b < 256) n
all_bytes [] f = nil
all_bytes (b ∷ n) f = cons (f 0) (all_bytes n (λ i. f (suc i)))

pub short_place : (n : List ℕ) → length n ≤ 6 → ((i : ℕ) → get_or n i 0 < 256) → key_place keys (key_of n) ≡ place_in titles n
unfolding keys
short_place n h f = sym (key_places n titles (tellable n h (all_bytes n f)) titles_tellable)

-- ---- longer words

long_places : (n : List ℕ) (ts : List (List ℕ)) → 6 < length n → All (λ (t : List ℕ). length t ≤ 6) ts → place_in ts n ≡ length ts
unfolding place_in
long_places n [] h nil = refl
long_places n (t ∷ ts) h (cons p ps) = rw (differ (same n t) refl, long_places n ts h ps) refl
  where
    differ : (u : Bool) → same n t ≡ u → same n t ≡ false
    differ true e = absurd (let l : length n ≡ length t = ap length (same_equal n t e) in omega arith)
    differ false e = e

titles_short : All (λ (t : List ℕ). length t ≤ 6) titles
unfolding titles table ◌is◌ textual
titles_short =
    omega arith & omega arith & omega arith & omega arith & omega arith & omega arith & omega arith & omega arith & omega arith & omega arith & omega arith & omega arith & omega arith
    & omega arith & omega arith & omega arith & omega arith & omega arith & omega arith & omega arith & omega arith & omega arith & omega arith & omega arith & omega arith & omega arith & nil

pub long_place : (n : List ℕ) → 6 < length n → 26 ≡ place_in titles n
unfolding titles table ◌is◌
long_place n h = sym (long_places n titles h titles_short)

-- ---- the definition finds a word by its number

find_place : (n : List ℕ) (es : List Entry) (m : Forf.Machine)
    → find n es m ≡ get_or (map (λ (e : Entry). e.action) es) (place_in (map (λ (e : Entry). e.title) es) n) undefined m
unfolding find place_in undefined
find_place n [] m = refl
find_place n (e ∷ es) m = by (same n e.title) (find_place n es m)
  where
    by : (t : Bool) → find n es m ≡ get_or (map (λ (e : Entry). e.action) es) (place_in (map (λ (e : Entry). e.title) es) n) undefined m
        → elim t [ true ↦ e.action m | false ↦ find n es m ]
        ≡ get_or (e.action ∷ map (λ (e : Entry). e.action) es) (cond t zero (suc (place_in (map (λ (e : Entry). e.title) es) n))) undefined m
    by true q = refl
    by false q = q

pub performs : (n : List ℕ) (m : Forf.Machine) → perform n m ≡ action_at (place_in titles n) m
unfolding perform action_at titles
performs n m = find_place n table m

-- ---- the loop over a word's bytes

pub record Keyed (n : List ℕ) (key i : ℕ) : Type 0 where
  pub inside : i ≤ length n
  pub rest : key_from key (drop i n) ≡ key_of n
  pub few : key + 1 ≤ 2 * 256 ^ i

pub keyed_begin : (n : List ℕ) → Keyed n 1 0
unfolding key_of
keyed_begin n = record { inside = omega arith; rest = refl; few = omega arith }

module _ {n : List ℕ} {key i : ℕ} (K : Keyed n key i) (short : length n ≤ 6) (h : i < length n) where
  pub key_room : key * 256 + 255 < 2 ^ 64
  key_room =
      let l : i ≤ 5 = omega arith in
      let z : zero < 256 = omega arith in
      let p : 256 ^ i ≤ 256 ^ 5 = pow-le-pow_right z l in
      let f = K.few in
      omega arith

  pub keyed_again : get_or n i 0 < 256 → Keyed n (key * 256 + get_or n i 0) (i + 1)
  unfolding key_from
  keyed_again b =
      let f = K.few in
      let p : 256 ^ (i + 1) ≡ 256 ^ i * 256 = ap (λ (j : ℕ). 256 ^ j) (add-one i) ∙ pow-suc 256 i in
      record {
        inside = omega arith;
        rest = ap (λ (j : ℕ). key_from (key * 256 + get_or n i 0) (drop j n)) (add-one i) ∙ sym (ap (key_from key) (drop-cons n i 0 h)) ∙ K.rest;
        few = omega arith;
      }

pub keyed_end : {n : List ℕ} {key i : ℕ} → Keyed n key i → length n ≤ i → key ≡ key_of n
unfolding key_from
keyed_end {n} {key} {i} K h = sym (ap (key_from key) (drop_of_length-le n h)) ∙ K.rest

-- ---- the key of a `match`

pub key_at : {key k r : ℕ} → key ≡ k → r ≡ key_place keys k → r ≡ key_place keys key
key_at e h = h ∙ ap (key_place keys) (sym e)

-- A key that is none of these, as a `match` leaves it: the last test outermost.
abbrev pub Without : List ℕ → ℕ → Type 0
Without [] k = Unit {0}
Without (v ∷ vs) k = Without vs k × (k ≡ v → ⊥)

without_all : (vs : List ℕ) (k : ℕ) → Without vs k → All (λ (v : ℕ). k ≡ v → ⊥) vs
without_all [] k w = nil
without_all (v ∷ vs) k w = cons w.1 (without_all vs k w.0)

no_place : (vs : List ℕ) (k : ℕ) → All (λ (v : ℕ). k ≡ v → ⊥) vs → key_place vs k ≡ length vs
unfolding key_place
no_place [] k nil = refl
no_place (v ∷ vs) k (cons n ns) = rw (ne_eqb k v n, no_place vs k ns) refl

pub key_rest : (key : ℕ) → Without (reverse keys) key → 26 ≡ key_place keys key
unfolding keys titles table ◌is◌ key_of key_from textual
key_rest key w = sym (no_place keys key (subst (All (λ (v : ℕ). key ≡ v → ⊥)) (reverse-reverse keys) (all_reverse (without_all (reverse keys) key w))))

-- ---- a number past the table, as the table's length

clipped : (fs : List Operator) (k : ℕ) → get_or fs (min k (length fs)) undefined ≡ get_or fs k undefined
clipped [] k = refl
clipped (f ∷ fs) zero = rw (zero-min (suc (length fs))) refl
clipped (f ∷ fs) (suc k) = rw (suc-min-suc k (length fs)) (clipped fs k)

same_action : (k : ℕ) {p : ℕ} → p ≡ min k 26 → action_at p ≡ action_at k
unfolding action_at table ◌is◌
same_action k q = ap action_at q ∙ clipped (map (λ (e : Entry). e.action) table) k

-- ---- a word of a `match`

module _ (m : Machine) (s e mem : List ℕ) where
  pub at_word : {o : Option Word} {w v : Word} {f : Operator} {s' e' mem' : List ℕ} {r : Acted}
      → o ≡ Some w → w ≡ v → action_at (number_of v) ≡ f → Does f m s s' e e' mem mem' r → Does (action_at (place_of o)) m s s' e e' mem mem' r
  at_word {f = f} {s'} {e'} {mem'} {r} p q h D =
      subst (λ (g : Operator). Does g m s s' e e' mem mem' r) (sym (ap (λ o. action_at (place_of o)) p ∙ ap (λ v. action_at (number_of v)) q ∙ h)) D

  pub no_word : {o : Option Word} → o ≡ None → Does (action_at (place_of o)) m s s e e mem mem (Err Undefined)
  unfolding action_at table undefined
  no_word p = record { does = λ script R. (failed s e (ap (λ o. action_at (place_of o) (machine_of script m s e mem)) p), refl, refl) }

  -- The word of a number.
  pub by_number : (k : ℕ) (o : Option Word) {s' e' mem' : List ℕ} {r : Acted}
      → place_of o ≡ min k 26 → Does (action_at (place_of o)) m s s' e e' mem mem' r → Does (action_at k) m s s' e e' mem mem' r
  by_number k o {s'} {e'} {mem'} {r} q D = subst (λ (g : Operator). Does g m s s' e e' mem mem' r) (same_action k q) D
