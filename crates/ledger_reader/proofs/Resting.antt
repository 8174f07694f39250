-- The records that are left from a place on, one by one: whether one of some numbers is among theirs, and whether no two have one number.
-- Assumes nothing.
use mathlib.Core.Path.{◌≡◌, refl, sym, ap, ap₂, ◌∙◌}
use mathlib.Core.Bool.{Bool, true, false, not, ◌&&◌, ◌||◌, true≢false, and-eq-true_iff}
use mathlib.Core.List.{List, [], ◌∷◌, ◌++◌}
use mathlib.Core.Option.{Option, none, some}
use Prim.Native.Nat.{ℕ, suc, ◌+◌, ◌-◌, ◌≤◌, ◌<◌}
use native.Mathlib.Omega.{arith}
use lib.ListN.{length, set, take, replicate, length-set}
use lib.Seq.{take_all, take-suc-set}
use lib.Dec.{eqb}
use Rattle.std.specs.List.{list_any}
use Rattle.semantics.specs.ListLaws.{none_some, some_one}
use Rattle.book.specs.Books.{Entry, record_of, is_place_length, is_in, once}
use Rattle.book.specs.declared.Record.{Record}
use Rattle.book.proofs.SoundLaws.{in_snoc, eqb_sym}
use Rattle.ledger.specs.Reading.{mapped, each, Row, row_of, entry_in, places_fit, numbers_of}
use Rattle.ledger.specs.Stages.{Ranked, uneven, unnumbered, unplaced, good}
use Rattle.std.specs.Prelude.{Some, None, Result, Ok, Err}
use Rattle.ledger_reader.specs.declared.Line.{Line}
use Rattle.ledger_reader.specs.declared.Flaw.{Flaw}
use Rattle.ledger_reader.specs.declared.Flaw.TheVariants.{FieldCount, BadNumber, BadPlace}
use Rattle.ledger_reader.specs.Lines as lines
use Rattle.ledger_reader.specs.Lines.{rank_of, rank_is, entry_is, LineHas, LineAt, RestAt, Rests, shares, MeetsIn, OnceIn}

-- ---- the next record

pub each_back : {A B : Type 0} (f : A → Option B) (a : A) (l : List A) {bs : List B} → each f (a ∷ l) ≡ some bs → (b : B) × (cs : List B) × (f a ≡ some b) × (each f l ≡ some cs) × (bs ≡ b ∷ cs)
unfolding each mapped
each_back {A} {B} f a l {bs} e = by (f a) refl (each f l) refl e
  where
    by : (o : Option B) → f a ≡ o → (p : Option (List B)) → each f l ≡ p → ◌≡◌ {A = Option (List B)} (elim o [ none ↦ none | some b ↦ mapped (◌∷◌ b) p ]) (some bs) → (b : B) × (cs : List B) × (f a ≡ some b) × (each f l ≡ some cs) × (bs ≡ b ∷ cs)
    by none g p h q = absurd (none_some q)
    by (some b) g none h q = absurd (none_some q)
    by (some b) g (some cs) h q = (b, cs, g, h, some_one (sym q))

is_good : {l : List (List ℕ)} {k : ℕ} {r : Record} {row : Row} {e : Entry} → Ranked l k r → row_of l ≡ some row → entry_in row ≡ some e → is_place_length (length e.place) ≡ true → (k ≡ 3) × (r ≡ record_of e)
is_good (uneven x) a b c = absurd (none_some (sym x ∙ a))
is_good (unnumbered x y) a b c = absurd (none_some (sym y ∙ ap entry_in (some_one (sym x ∙ a)) ∙ b))
is_good (unplaced x y z) a b c = absurd (true≢false (sym c ∙ ap (λ (e : Entry). is_place_length (length e.place)) (some_one (sym b ∙ sym (ap entry_in (some_one (sym x ∙ a))) ∙ y)) ∙ z))
is_good (good x y z h) a b c = (refl, h ∙ ap record_of (some_one (sym y ∙ ap entry_in (some_one (sym x ∙ a)) ∙ b)))

flawed : (f : Flaw) → rank_of f ≡ 3 → ⊥
flawed FieldCount e = omega (arith, e)
flawed BadNumber e = omega (arith, e)
flawed BadPlace e = omega (arith, e)

good_entry : (x : Result Record Flaw) {e : Record} → (rank_is x ≡ 3) × (entry_is x ≡ e) → x ≡ Ok e
good_entry (Ok r) h = ap (λ (s : Record). Ok s) h.1
good_entry (Err f) h = absurd (flawed f h.0)

pub rest_one : {text : List ℕ} {at : ℕ} {es fs : List Entry} → RestAt text at es → RestAt text at fs → es ≡ fs
rest_one s t =
    let l = some_one (sym s.reads ∙ t.reads) in
    let r = some_one (sym s.threes ∙ ap (each row_of) l ∙ t.threes) in
    some_one (sym s.numbers ∙ ap (each entry_in) r ∙ t.numbers)

pub rest_none : {text : List ℕ} {at : ℕ} → LineAt text at None → {es : List Entry} → RestAt text at es → es ≡ []
unfolding each
rest_none is t =
    let q : t.rows ≡ [] = some_one (sym t.threes ∙ ap (each row_of) (is.told t.lines t.reads)) in
    some_one (sym t.numbers ∙ ap (each entry_in) q)

module _ {text : List ℕ} {at : ℕ} {r : Line} (is : LineAt text at (Some r)) {es : List Entry} (t : RestAt text at es) where
  pub record Next : Type 0 where
    pub entry : Entry
    pub rest : List Entry
    pub records : es ≡ entry ∷ rest
    pub same : r.entry ≡ Ok (record_of entry)
    pub left : RestAt text r.next rest
    pub moves : at < r.next

  pub rest_next : Next
  unfolding each places_fit
  rest_next = by (is.told t.lines t.reads)
    where
      by : LineHas text at t.lines r → Next
      by (lines.uneven z l) = absurd (none_some (sym l ∙ t.threes))
      by (lines.line {l = x} {rest = rest} l ranked z d m) =
          let a = each_back row_of x rest (ap (each row_of) (sym l) ∙ t.threes) in
          let b = each_back entry_in a.0 a.1 (ap (each entry_in) (sym a.4) ∙ t.numbers) in
          let p = (and-eq-true_iff (is_place_length (length b.0.place)) (places_fit b.1)).0 (ap places_fit (sym b.4) ∙ t.places) in
          record {
            entry = b.0;
            rest = b.1;
            records = b.4;
            same = good_entry r.entry (is_good ranked a.2 b.2 p.0);
            left = record { inside = is.inside; lines = rest; rows = a.1; reads = d; threes = a.3; numbers = b.3; places = p.1 };
            moves = m;
          }

  -- No line of records has a flaw.
  pub not_flawed : {f : Flaw} → r.entry ≡ Err f → ⊥
  not_flawed {f} e = flawed f (ap rank_is (sym e ∙ rest_next.same))

-- ---- a number among others

pub among : (number : ℕ) (numbers : List ℕ) → list_any (λ x. eqb x number) numbers ≡ is_in number numbers
unfolding is_in
among number [] = refl
among number (k ∷ ks) = ap₂ ◌||◌ (eqb_sym k number) (among number ks)

-- ---- one of the records among others

pub record Meeting (text : List ℕ) (start : ℕ) (numbers : List ℕ) (at : ℕ) : Type 0 where
  pub records : List Entry
  pub whole : RestAt text start records
  pub rest : List Entry
  pub left : RestAt text at rest
  pub same : shares numbers (numbers_of records) ≡ shares numbers (numbers_of rest)

pub meeting_starts : {text : List ℕ} {start : ℕ} (numbers : List ℕ) → Rests text start → Meeting text start numbers start
meeting_starts numbers s = record { records = s.0; whole = s.1; rest = s.0; left = s.1; same = refl }

module _ {text : List ℕ} {start at : ℕ} {numbers : List ℕ} (s : Meeting text start numbers at) where
  pub meeting_none : LineAt text at None → MeetsIn text start numbers false
  unfolding shares numbers_of
  meeting_none is = record { records = s.records; rest = s.whole; found = sym (s.same ∙ ap (λ es. shares numbers (numbers_of es)) (rest_none is s.left)) }

  module _ {r : Line} (is : LineAt text at (Some r)) {e : Record} (has : r.entry ≡ Ok e) where
    one : Next is s.left
    one = rest_next is s.left

    its : e ≡ record_of one.entry
    its = ap entry_is (sym has ∙ one.same)

    module _ {t : Bool} (k : t ≡ is_in e.number numbers) where
      split : shares numbers (numbers_of s.rest) ≡ (t || shares numbers (numbers_of one.rest))
      unfolding shares numbers_of record_of
      split =
          ap (λ es. shares numbers (numbers_of es)) one.records
          ∙ ap (λ b. b || shares numbers (numbers_of one.rest)) (ap (λ (x : Record). is_in x.number numbers) (sym its) ∙ sym k)

      pub meeting_found : t ≡ true → MeetsIn text start numbers true
      meeting_found h = record { records = s.records; rest = s.whole; found = sym (s.same ∙ split ∙ ap (λ b. b || shares numbers (numbers_of one.rest)) h) }

      pub meeting_next : t ≡ false → Meeting text start numbers r.next
      meeting_next h = record { records = s.records; whole = s.whole; rest = one.rest; left = one.left; same = s.same ∙ split ∙ ap (λ b. b || shares numbers (numbers_of one.rest)) h }

    pub meeting_less : length text - r.next < length text - at
    meeting_less = let m = one.moves in let i = is.inside in omega (arith, m, i)

-- ---- none twice

or_cross : (a b c d : Bool) → ((a || b) || (c || d)) ≡ ((a || c) || (b || d))
or_cross true b c d = refl
or_cross false true true d = refl
or_cross false true false d = refl
or_cross false false true d = refl
or_cross false false false d = refl

shares_none : (ns : List ℕ) → shares [] ns ≡ false
unfolding shares is_in
shares_none [] = refl
shares_none (n ∷ ns) = shares_none ns

-- Kept is one number more.
shares_more : (ws : List ℕ) (n : ℕ) (ns : List ℕ) → shares (ws ++ (n ∷ [])) ns ≡ (shares ws ns || is_in n ns)
unfolding shares is_in
shares_more ws n [] = refl
shares_more ws n (m ∷ ns) =
    ap₂ ◌||◌ (in_snoc m ws n ∙ ap (λ b. is_in m ws || b) (eqb_sym m n)) (shares_more ws n ns)
    ∙ or_cross (is_in m ws) (eqb n m) (shares ws ns) (is_in n ns)

-- Whether no two have one number, and none has one of those that are kept.
unfoldable pub apart : List ℕ → List ℕ → Bool
apart ws ns = not (shares ws ns) && once ns

sorts : (a b c : Bool) → (not a && (not b && c)) ≡ (not (a || b) && c)
sorts true b c = refl
sorts false b c = refl

apart_met : (ws : List ℕ) (n : ℕ) (ns : List ℕ) → is_in n ws ≡ true → apart ws (n ∷ ns) ≡ false
unfolding apart shares
apart_met ws n ns e = ap (λ b. not (b || shares ws ns) && once (n ∷ ns)) e

apart_next : (ws : List ℕ) (n : ℕ) (ns : List ℕ) → is_in n ws ≡ false → apart ws (n ∷ ns) ≡ apart (ws ++ (n ∷ [])) ns
unfolding apart shares once
apart_next ws n ns e =
    ap (λ b. not (b || shares ws ns) && (not (is_in n ns) && once ns)) e
    ∙ sorts (shares ws ns) (is_in n ns) (once ns)
    ∙ ap (λ b. not b && once ns) (sym (shares_more ws n ns))

apart_none : (ns : List ℕ) → once ns ≡ apart [] ns
unfolding apart
apart_none ns = sym (ap (λ b. not b && once ns) (shares_none ns))

pub record Alone (text : List ℕ) (start at : ℕ) (kept : List ℕ) (n : ℕ) : Type 0 where
  pub few : n ≤ 64
  pub long : length kept ≡ 64
  pub records : List Entry
  pub whole : RestAt text start records
  pub rest : List Entry
  pub left : RestAt text at rest
  pub same : once (numbers_of records) ≡ apart (take n kept) (numbers_of rest)

pub alone_starts : {text : List ℕ} {start : ℕ} → Rests text start → Alone text start start (replicate 64 0) 0
alone_starts s = record { few = omega arith; long = refl; records = s.0; whole = s.1; rest = s.0; left = s.1; same = apart_none (numbers_of s.0) }

module _ {text : List ℕ} {start at : ℕ} {kept : List ℕ} {n : ℕ} (s : Alone text start at kept n) where
  pub alone_all : LineAt text at None → OnceIn text start true
  unfolding apart shares once numbers_of
  alone_all is = record { records = s.records; rest = s.whole; alone = sym (s.same ∙ ap (λ es. apart (take n kept) (numbers_of es)) (rest_none is s.left)) }

  module _ {r : Line} (is : LineAt text at (Some r)) {x : Record} (has : r.entry ≡ Ok x) where
    head : Next is s.left
    head = rest_next is s.left

    abbrev number : ℕ
    number = head.entry.number

    number_is_lem : x.number ≡ number
    unfolding record_of
    number_is_lem = ap (λ (y : Record). y.number) (ap entry_is (sym has ∙ head.same))

    parts : numbers_of s.rest ≡ number ∷ numbers_of head.rest
    unfolding numbers_of
    parts = ap numbers_of head.records

    pub alone_less : length text - r.next < length text - at
    alone_less = let m = head.moves in let i = is.inside in omega (arith, m, i)

    -- The number is kept as the last of k + 1.
    kept_more : (k : ℕ) → k < 64 → take (k + 1) (set kept k x.number) ≡ take k kept ++ (number ∷ [])
    kept_more k h =
        let l = s.long in
        let one : k + 1 ≡ suc k = omega arith in
        ap (λ m. take m (set kept k x.number)) one ∙ take-suc-set kept k x.number (omega (arith, l, h)) ∙ ap (λ m. take k kept ++ (m ∷ [])) number_is_lem

    moved : (k : ℕ) → k < 64 → once (numbers_of s.records) ≡ apart (take k kept ++ (number ∷ [])) (numbers_of head.rest) → Alone text start r.next (set kept k x.number) (k + 1)
    moved k h p =
        record {
          few = omega (arith, h);
          long = length-set kept k x.number ∙ s.long;
          records = s.records;
          whole = s.whole;
          rest = head.rest;
          left = head.left;
          same = p ∙ ap (λ ws. apart ws (numbers_of head.rest)) (sym (kept_more k h));
        }

    module _ {t : Bool} (k : t ≡ is_in x.number (take n kept)) where
      sought : t ≡ is_in number (take n kept)
      sought = k ∙ ap (λ m. is_in m (take n kept)) number_is_lem

      pub alone_not : t ≡ true → OnceIn text start false
      alone_not h = record { records = s.records; rest = s.whole; alone = sym (s.same ∙ ap (apart (take n kept)) parts ∙ apart_met (take n kept) number (numbers_of head.rest) (sym sought ∙ h)) }

      pub alone_next : t ≡ false → n < 64 → Alone text start r.next (set kept n x.number) (n + 1)
      alone_next h l = moved n l (s.same ∙ ap (apart (take n kept)) parts ∙ apart_next (take n kept) number (numbers_of head.rest) (sym sought ∙ h))

    -- All that are kept have been compared with all that are left.
    module _ (l : 64 ≤ n) {t : Bool} (k : MeetsIn text at kept t) where
      all_kept : take n kept ≡ kept
      all_kept = let f = s.few in let g = s.long in let m : length kept ≤ n = omega (arith, l, g) in take_all n kept m

      met : t ≡ shares (take n kept) (numbers_of s.rest)
      met = k.found ∙ ap₂ (λ ws es. shares ws (numbers_of es)) (sym all_kept) (rest_one k.rest s.left)

      pub alone_met : t ≡ true → OnceIn text start false
      unfolding apart
      alone_met h = record { records = s.records; rest = s.whole; alone = sym (s.same ∙ ap (λ b. not b && once (numbers_of s.rest)) (sym met ∙ h)) }

      pub alone_again : t ≡ false → Alone text start r.next (set kept 0 x.number) 1
      unfolding apart is_in
      alone_again h =
          moved 0 (omega arith)
          (s.same
          ∙ ap (λ b. not b && once (numbers_of s.rest)) (sym met ∙ h)
          ∙ ap once parts
          ∙ apart_none (number ∷ numbers_of head.rest)
          ∙ apart_next [] number (numbers_of head.rest) refl)
