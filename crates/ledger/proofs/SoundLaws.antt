-- The records of an accepted text are sound: numbers, times and places are in range, no number stands twice, and they fit. What is then
-- written for them is read as the same records again.
-- Assumes nothing.
use Rattle.std.specs.Prelude.{◌≡◌, refl, true, List, [], ◌∷◌, ℕ, ◌≤◌, length, leb}
use Rattle.std.proofs.Common.{subst, leb→le, leb-true}
use Rattle.std.proofs.Math.Bool.{and-eq-true_iff}
use Rattle.std.proofs.Math.Option.{Option, none, some}
use Rattle.semantics.specs.ResultLaws.{choose_cond}
use Rattle.semantics.specs.ListLaws.{All, nil, cons, Maybe, nothing, just, none_some, some_one}
use Rattle.book.specs.Books.{Entry, IsEntry, greatest, is_place_length}
use Rattle.ledger.specs.Ledger.{ledger_text}
use Rattle.ledger.specs.Reading.{accepted, mapped, each, Row, digits_on, limited, number_in, with_numbers, entry_in, places_fit, reading}
use Rattle.ledger.specs.AnswerLaws.{accepts_back}
use Rattle.ledger.specs.Sound.{Sound}
use Rattle.ledger.proofs.RoundTrip.{round}

-- ---- what is there has a property

is_there_lem : {A : Type 0} {P : A → Type 0} {o : Option A} {a : A} → Maybe P o → o ≡ some a → P a
is_there_lem nothing e = absurd (none_some e)
is_there_lem {P = P} (just p) e = subst P (some_one e) p

maybe_mapped : {A B : Type 0} {P : A → Type 0} {Q : B → Type 0} (f : A → B) → ((a : A) → P a → Q (f a)) → {o : Option A} → Maybe P o → Maybe Q (mapped f o)
unfolding mapped
maybe_mapped f g nothing = nothing
maybe_mapped f g (just {a = a} p) = just (g a p)

-- Each element that is there has the property.
each_has : {A B : Type 0} {Q : B → Type 0} (f : A → Option B) → ((a : A) → Maybe Q (f a)) → (l : List A) → Maybe (All Q) (each f l)
unfolding each
each_has f g [] = just nil
each_has {A} {B} {Q} f g (a ∷ t) = by (f a) (g a) (each_has f g t)
  where
    by : (o : Option B) → Maybe Q o → Maybe (All Q) (each f t) → Maybe (All Q) (elim o [ none ↦ none | some b ↦ mapped (◌∷◌ b) (each f t) ])
    by none m r = nothing
    by (some b) m r = maybe_mapped (◌∷◌ b) (λ k ks. cons (is_there_lem m refl) ks) r

-- ---- numbers and places

limited_fits : (o : Option ℕ) → Maybe (λ n. n ≤ greatest) (limited o)
unfolding limited
limited_fits none = nothing
limited_fits (some n) = choose_cond (Maybe (λ n. n ≤ greatest)) (leb n greatest) (some n) none (λ t. just (leb→le n greatest t)) (λ t. nothing)

number_fits : (f : List ℕ) → Maybe (λ n. n ≤ greatest) (number_in f)
unfolding number_in
number_fits [] = nothing
number_fits (b ∷ s) = limited_fits (digits_on 0 (b ∷ s))

-- What is known of a record before its place is measured.
abbrev Numbered : Entry → Type 0
Numbered e = (e.number ≤ greatest) × (e.time ≤ greatest)

numbers_fit : (p : List ℕ) {n t : Option ℕ} → Maybe (λ k. k ≤ greatest) n → Maybe (λ k. k ≤ greatest) t → Maybe Numbered (with_numbers p n t)
unfolding with_numbers
numbers_fit p nothing t = nothing
numbers_fit p (just a) nothing = nothing
numbers_fit p (just a) (just b) = just (a, b)

entry_numbered : (r : Row) → Maybe Numbered (entry_in r)
unfolding entry_in
entry_numbered r = numbers_fit r.place (number_fits r.number) (number_fits r.time)

pub place_range : (n : ℕ) → is_place_length n ≡ true → (1 ≤ n) × (n ≤ 31)
unfolding is_place_length
place_range n e =
    let h = (and-eq-true_iff (leb 1 n) (leb n 31)).0 e in
    (leb-true 1 n h.0, leb-true n 31 h.1)

all_entries : (es : List Entry) → All Numbered es → places_fit es ≡ true → All IsEntry es
unfolding places_fit
all_entries [] hs e = nil
all_entries (x ∷ es) (cons h hs) e =
    let k = (and-eq-true_iff (is_place_length (length x.place)) (places_fit es)).0 e in
    let r = place_range (length x.place) k.0 in
    cons (record { number = h.0; some_bytes = r.0; few_bytes = r.1; time = h.1 }) (all_entries es hs k.1)

-- ---- the theorems

pub accepted_sound : (room : ℕ) (text : List ℕ) (es : List Entry) → reading room text ≡ accepted es → Sound room es
accepted_sound room text es e =
    let a = accepts_back room text es e in
    let entries = is_there_lem (each_has entry_in entry_numbered a.rows) a.numbers in
    record { entries = all_entries es entries a.places; sockets = a.sockets; roomy = leb-true (length es) room a.roomy }

pub read_again : (room : ℕ) (text : List ℕ) (es : List Entry) → reading room text ≡ accepted es → reading room (ledger_text es) ≡ accepted es
read_again room text es e = round room es (accepted_sound room text es e)
