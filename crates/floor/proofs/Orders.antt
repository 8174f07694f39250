-- Two scans of different sockets, both accepted and with room for both, leave the same place and time for each in either order (02, W3).
-- Assumes nothing.
use mathlib.Core.Path.{◌≡◌, refl, sym, ap, ◌∙◌, subst}
use mathlib.Core.Bool.{Bool, true, false, not, ◌&&◌, cond}
use mathlib.Core.List.{List, [], ◌∷◌}
use mathlib.Core.Option.{Option, none, some}
use Prim.Native.Nat.{ℕ, ◌+◌, ◌≤◌}
use lib.ListN.{length}
use lib.Dec.{T, leb, ltb, leb→le}
use Rattle.semantics.specs.ResultLaws.{choose_cond}
use Rattle.semantics.specs.Values.{Value, integer, boolean, null, mark, operator, name, string, array, text, current, cells}
use Rattle.semantics.specs.Machine.{Machine, object, bytes_of}
use Rattle.semantics.specs.Sizes.{name_count}
use Rattle.semantics.specs.Steps.{Run}
use Rattle.semantics.specs.Setup.{limits, refusal}
use Rattle.book.specs.Books.{Entry, IsEntry, greatest, is_place_length, is_sound, record_of, place_of, said}
use Rattle.book.specs.Fates.{fate_in, Accepted, replaces, adds}
use Rattle.book.specs.BookLaws.{book_then, count_then}
use Rattle.book.proofs.BookLaws.{sound_after, order_free}
use Rattle.book.specs.declared.Record.{Record}
use Rattle.book.specs.declared.Fate.{Fate}
use Rattle.book.specs.declared.Fate.TheVariants as fate
use Rattle.floor.specs.Floor.{Asked, Scan, label_most, before, run_of, number_in, place_in, entry_with, entry_from, is_final, keeping, answer_for, entering, after_run, ruled, scan_of}
use Rattle.floor.specs.declared.Answer.{Answer}
use Rattle.floor.specs.declared.Answer.TheVariants.{Refused, BookMalformed, LabelTooLong, NoSlot, NoCells, NotFinished, BadStack, Late, NoRoom, Replaced, Added}
use Rattle.floor.proofs.Labelling.{passed}

-- The scan is accepted.
abbrev pub IsAccepted : Answer → Type 0
IsAccepted (Refused n) = ⊥
IsAccepted BookMalformed = ⊥
IsAccepted LabelTooLong = ⊥
IsAccepted NoSlot = ⊥
IsAccepted NoCells = ⊥
IsAccepted NotFinished = ⊥
IsAccepted BadStack = ⊥
IsAccepted Late = ⊥
IsAccepted NoRoom = ⊥
IsAccepted (Replaced at) = Unit {0}
IsAccepted (Added at) = Unit {0}

-- The entry that a run leaves, whatever the book.
unfoldable pub left_by : Run → Option Entry
left_by r = cond (is_final r.ending) (entry_from r.final.machine r.final.machine.stack) none

-- What the book says of socket k after one scan and then another.
unfoldable pub said_after : Asked → Asked → List Record → ℕ → ℕ → Option Entry
said_after x y b n k =
    let first = scan_of x b n in
    let second = scan_of y first.book first.count in
    said k second.book second.count

-- ---- what a run leaves is in range

abbrev Holds : {A : Type 0} → (A → Type 0) → Option A → Type 0
Holds P none = Unit {0}
Holds P (some x) = P x

number_low : (v : Value) → Holds (λ w. w ≤ greatest) (number_in v)
unfolding number_in
number_low (integer w) = choose_cond (Holds (λ w. w ≤ greatest)) (leb w greatest) (some w) none (λ t. leb→le w greatest t) (λ t. tt)
number_low (boolean b) = tt
number_low null = tt
number_low mark = tt
number_low (operator o) = tt
number_low (name x n) = tt
number_low (string i) = tt
number_low (array x i) = tt

abbrev IsPlace : List ℕ → Type 0
IsPlace p = (1 ≤ length p) × (length p ≤ 31)

both : (s t : Bool) → T (s && t) → T s × T t
both true t h = (tt, h)
both false t h = absurd h

place_fits : (m : Machine) (v : Value) → Holds IsPlace (place_in m v)
unfolding place_in is_place_length
place_fits m (integer w) = tt
place_fits m (boolean b) = tt
place_fits m null = tt
place_fits m mark = tt
place_fits m (operator o) = tt
place_fits m (name x n) = tt
place_fits m (string i) =
    let p = current (bytes_of (object m i)) in
    choose_cond (Holds IsPlace) (leb 1 (length p) && leb (length p) 31) (some p) none
    (λ t. let h = both (leb 1 (length p)) (leb (length p) 31) t in (leb→le 1 (length p) h.0, leb→le (length p) 31 h.1))
    (λ t. tt)
place_fits m (array x i) = tt

with_range : (n : Option ℕ) (p : Option (List ℕ)) (t : Option ℕ) → Holds (λ w. w ≤ greatest) n → Holds IsPlace p → Holds (λ w. w ≤ greatest) t → Holds IsEntry (entry_with n p t)
unfolding entry_with
with_range (some n) (some p) (some t) a b c = record { number = a; some_bytes = b.0; few_bytes = b.1; time = c }
with_range (some n) (some p) none a b c = tt
with_range (some n) none t a b c = tt
with_range none p t a b c = tt

from_range : (m : Machine) (vs : List Value) → Holds IsEntry (entry_from m vs)
unfolding entry_from
from_range m [] = tt
from_range m (t ∷ []) = tt
from_range m (t ∷ p ∷ []) = tt
from_range m (t ∷ p ∷ n ∷ []) = with_range (number_in n) (place_in m p) (number_in t) (number_low n) (place_fits m p) (number_low t)
from_range m (t ∷ p ∷ n ∷ v ∷ s) = tt

left_range : (r : Run) → Holds IsEntry (left_by r)
unfolding left_by
left_range r = choose_cond (Holds IsEntry) (is_final r.ending) (entry_from r.final.machine r.final.machine.stack) none (λ t. from_range r.final.machine r.final.machine.stack) (λ t. tt)

abbrev IsNone : Option Entry → Type 0
IsNone none = Unit {0}
IsNone (some x) = ⊥

-- ---- an accepted scan

-- What is refused before the run is not accepted.
data Refuses : Option Answer → Type 0 where
  goes : Refuses none
  stops : (x : Answer) → (IsAccepted x → ⊥) → Refuses (some x)

refuses_cond : (t : Bool) {x y : Option Answer} → Refuses x → Refuses y → Refuses (cond t x y)
refuses_cond true r h = r
refuses_cond false r h = h

before_refuses : (a : Asked) (sound : Bool) → Refuses (before a sound)
unfolding before
before_refuses a sound =
    let number = refusal a.script a.fuel a.lent in
    let room = limits a.lent in
    refuses_cond (ltb 0 number) (stops (Refused number) (λ z. z))
    (refuses_cond (not sound) (stops BookMalformed (λ z. z))
    (refuses_cond (ltb label_most (length a.label)) (stops LabelTooLong (λ z. z))
    (refuses_cond (ltb room.dictionary_slots (name_count + 1)) (stops NoSlot (λ z. z))
    (refuses_cond (ltb room.cell_count (cells (text a.label))) (stops NoCells (λ z. z)) goes))))

-- Where it is accepted, what the run left is entered in a sound book.
pub record Entered (a : Asked) (b : List Record) (n : ℕ) : Type 0 where
  pub goes : before a true ≡ none
  pub sound : is_sound b n ≡ true
  pub entry : Entry
  pub leaves : left_by (run_of a) ≡ some entry
  pub accepted : Accepted b n entry

module _ (b : List Record) (n : ℕ) where
  by_fate : (e : Entry) (f : Fate) (at : ℕ) → fate_in b n (record_of e) ≡ f → IsAccepted (answer_for f at) → Accepted b n e
  by_fate e fate.Replaces at q h = replaces q
  by_fate e fate.Adds at q h = adds q
  by_fate e fate.Late at q h = absurd h
  by_fate e fate.Full at q h = absurd h

  by_entry : (x : Option Entry) → IsAccepted (entering b n x).answer → (e : Entry) × (x ≡ some e) × Accepted b n e
  unfolding entering keeping record_of
  by_entry none h = absurd h
  by_entry (some e) h = (e, refl, by_fate e (fate_in b n (record_of e)) (place_of b n e.number) refl h)

  by_ending : (t : Bool) (x : Option Entry) → IsAccepted (cond t (entering b n x) (keeping b n NotFinished)).answer → (e : Entry) × (cond t x none ≡ some e) × Accepted b n e
  unfolding keeping
  by_ending true x h = by_entry x h
  by_ending false x h = absurd h

  -- and the other way round
  enters : (e : Entry) → Accepted b n e → IsAccepted (entering b n (some e)).answer
  unfolding entering record_of
  enters e (replaces q) = subst (λ (f : Fate). IsAccepted (answer_for f (place_of b n e.number))) (sym q) tt
  enters e (adds q) = subst (λ (f : Fate). IsAccepted (answer_for f (place_of b n e.number))) (sym q) tt

  ends_so : (t : Bool) (x : Option Entry) (e : Entry) → cond t x none ≡ some e → cond t (entering b n x) (keeping b n NotFinished) ≡ entering b n (some e)
  ends_so true x e q = ap (entering b n) q
  ends_so false x e q = absurd (subst IsNone q tt)

  module _ (a : Asked) where
    after : IsAccepted (after_run b n (run_of a)).answer → (e : Entry) × (left_by (run_of a) ≡ some e) × Accepted b n e
    unfolding after_run left_by
    after h = by_ending (is_final (run_of a).ending) (entry_from (run_of a).final.machine (run_of a).final.machine.stack) h

    by_before : (x : Option Answer) → before a (is_sound b n) ≡ x → Refuses x → IsAccepted (ruled b n (run_of a) x).answer → Entered a b n
    unfolding keeping ruled
    by_before (some y) q (stops x r) h = absurd (r h)
    by_before none q goes h =
        let sound = (passed a (is_sound b n) (sym q)).book in
        let x = after h in
        record { goes = ap (before a) (sym sound) ∙ q; sound = sound; entry = x.0; leaves = x.1; accepted = x.2 }

    pub accepted_scan : IsAccepted (scan_of a b n).answer → Entered a b n
    unfolding scan_of
    accepted_scan h = by_before (before a (is_sound b n)) refl (before_refuses a (is_sound b n)) h

    -- The scan enters it.
    scan_is : (e : Entry) → before a true ≡ none → is_sound b n ≡ true → left_by (run_of a) ≡ some e → scan_of a b n ≡ entering b n (some e)
    unfolding scan_of ruled after_run left_by
    scan_is e g s q =
        ap (ruled b n (run_of a)) (ap (before a) s ∙ g)
        ∙ ends_so (is_final (run_of a).ending) (entry_from (run_of a).final.machine (run_of a).final.machine.stack) e q

-- ---- the theorem

module _ (x y : Asked) (b : List Record) (n : ℕ) where
  pub scans_free : IsAccepted (scan_of x b n).answer
      → IsAccepted (scan_of y (scan_of x b n).book (scan_of x b n).count).answer
      → ((e f : Entry) → left_by (run_of x) ≡ some e → left_by (run_of y) ≡ some f → e.number ≡ f.number → ⊥)
      → IsAccepted (scan_of y b n).answer
      × IsAccepted (scan_of x (scan_of y b n).book (scan_of y b n).count).answer
      × ((k : ℕ) → said_after x y b n k ≡ said_after y x b n k)
  unfolding said_after entering
  scans_free hx hy other =
      let X = accepted_scan b n x hx in
      let e = X.entry in
      let first = scan_is b n x e X.goes X.sound X.leaves in
      let Y = accepted_scan (book_then b n e) (count_then b n e) y (subst (λ (s : Scan). IsAccepted (scan_of y s.book s.count).answer) first hy) in
      let f = Y.entry in
      let O = order_free b n e f X.sound (other e f X.leaves Y.leaves) X.accepted Y.accepted in
      let in_range_lem = subst (Holds IsEntry) Y.leaves (left_range (run_of y)) in
      let late-sound = sound_after b n f X.sound in_range_lem O.0 in
      let first' = scan_is b n y f Y.goes X.sound Y.leaves in
      let second = scan_is (book_then b n e) (count_then b n e) y f Y.goes Y.sound Y.leaves in
      let second' = scan_is (book_then b n f) (count_then b n f) x e X.goes late-sound X.leaves in (
        subst (λ (s : Scan). IsAccepted s.answer) (sym first') (enters b n f O.0),
        subst (λ (s : Scan). IsAccepted (scan_of x s.book s.count).answer) (sym first') (subst (λ (s : Scan). IsAccepted s.answer) (sym second') (enters (book_then b n f) (count_then b n f) e O.1)),
        λ k.
            ap (λ (s : Scan). let t = scan_of y s.book s.count in said k t.book t.count) first
            ∙ ap (λ (t : Scan). said k t.book t.count) second
            ∙ O.2 k
            ∙ sym (ap (λ (t : Scan). said k t.book t.count) second')
            ∙ sym (ap (λ (s : Scan). let t = scan_of x s.book s.count in said k t.book t.count) first'),
      )
