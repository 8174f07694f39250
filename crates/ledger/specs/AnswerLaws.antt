-- A text is accepted exactly where each stage of the reading has an answer and each test holds.
-- Assumes nothing.
use Rattle.std.specs.Prelude.{◌≡◌, refl, Bool, true, false, List, ℕ, length, leb}
use Rattle.std.proofs.Common.{ap, subst, ◌∙◌, arith}
use Rattle.std.proofs.Math.Option.{Option, none, some}
use Rattle.book.specs.Books.{Entry, once}
use Rattle.ledger.specs.Reading.{Refusal, Read, accepted, refused, bad_header, bad_quoting, field_count, bad_number, bad_place, socket_twice, too_many, ◌>>=◌, given, check, after_header, fresh, Lines, read_from, each, Row, row_of, entry_in, places_fit, numbers_of, reading}

-- What an accepted text is at each stage.
pub record Accepts (room : ℕ) (text : List ℕ) (es : List Entry) : Type 0 where
  pub body : List ℕ
  pub found : Lines
  pub rows : List Row
  pub headed : after_header text ≡ some body
  pub quotes : read_from fresh body ≡ some found
  pub threes : each row_of found ≡ some rows
  pub numbers : each entry_in rows ≡ some es
  pub places : places_fit es ≡ true
  pub sockets : once (numbers_of es) ≡ true
  pub roomy : leb (length es) room ≡ true

-- ---- forwards

pub given_then : {A B : Type 0} {o : Option A} {a : A} (r : Refusal) (f : A → Read B) → o ≡ some a → (given o r >>= f) ≡ f a
unfolding given ◌>>=◌
given_then r f e = ap (λ o. given o r >>= f) e

pub check_then : {B : Type 0} {b : Bool} (r : Refusal) (f : Unit {0} → Read B) → b ≡ true → (check b r >>= f) ≡ f tt
unfolding check ◌>>=◌
check_then r f e = ap (λ b. check b r >>= f) e

pub given_not : {A B : Type 0} {o : Option A} (r : Refusal) (f : A → Read B) → o ≡ none → (given o r >>= f) ≡ refused r
unfolding given ◌>>=◌
given_not r f e = ap (λ o. given o r >>= f) e

pub check_not : {B : Type 0} {b : Bool} (r : Refusal) (f : Unit {0} → Read B) → b ≡ false → (check b r >>= f) ≡ refused r
unfolding check ◌>>=◌
check_not r f e = ap (λ b. check b r >>= f) e

pub accepts : {room : ℕ} {text : List ℕ} {es : List Entry} → Accepts room text es → reading room text ≡ accepted es
unfolding reading
accepts a =
    given_then bad_header _ a.headed
    ∙ given_then bad_quoting _ a.quotes
    ∙ given_then field_count _ a.threes
    ∙ given_then bad_number _ a.numbers
    ∙ check_then bad_place _ a.places
    ∙ check_then socket_twice _ a.sockets
    ∙ check_then too_many _ a.roomy

-- ---- backwards

pub no_answer : {A : Type 0} {r : Refusal} {a : A} → refused r ≡ accepted a → ⊥
no_answer e =
    let z : ◌≡◌ {A = ℕ} 0 1 = cc in
    absurd (omega arith)

one_answer : {A : Type 0} {a b : A} → accepted a ≡ accepted b → a ≡ b
one_answer e = cc

given_back : {A B : Type 0} (o : Option A) (r : Refusal) (f : A → Read B) {b : B} → (given o r >>= f) ≡ accepted b → (a : A) × (o ≡ some a) × (f a ≡ accepted b)
unfolding given ◌>>=◌
given_back none r f e = absurd (no_answer e)
given_back (some a) r f e = (a, refl, e)

check_back : {B : Type 0} (t : Bool) (r : Refusal) (f : Unit {0} → Read B) {b : B} → (check t r >>= f) ≡ accepted b → (t ≡ true) × (f tt ≡ accepted b)
unfolding check ◌>>=◌
check_back true r f e = (refl, e)
check_back false r f e = absurd (no_answer e)

pub accepts_back : (room : ℕ) (text : List ℕ) (es : List Entry) → reading room text ≡ accepted es → Accepts room text es
unfolding reading
accepts_back room text es e =
    let h = given_back _ bad_header _ e in
    let q = given_back _ bad_quoting _ h.2 in
    let t = given_back _ field_count _ q.2 in
    let n = given_back _ bad_number _ t.2 in
    let p = check_back _ bad_place _ n.2 in
    let s = check_back _ socket_twice _ p.1 in
    let m = check_back _ too_many _ s.1 in
    subst (Accepts room text) (one_answer m.1)
    (record { body = h.0; found = q.0; rows = t.0; headed = h.1; quotes = q.1; threes = t.1; numbers = n.1; places = p.0; sockets = s.0; roomy = m.0 })
