-- What the decimal writer writes for a number is read as that number. By induction on the digits, the last first.
-- Assumes nothing.
use Rattle.std.specs.Prelude.{◌≡◌, refl, cond, List, [], ◌∷◌, ℕ, zero, suc, ◌+◌, ◌-◌, ◌*◌, ◌/◌, ◌%◌, ◌^◌, ◌≤◌, ◌<◌, ltb}
use Rattle.std.proofs.Common.{ap, ◌∙◌, arith, pow-suc, ltb→lt, le-leb}
use Rattle.std.proofs.Math.Option.{some, none}
use Rattle.semantics.specs.Text.{decimal_onto, decimal}
use Rattle.semantics.specs.ResultLaws.{choose}
use Rattle.book.specs.Books.{greatest}
use Rattle.ledger.specs.Reading.{digits_on, limited, number_in}

-- A digit is read after a number.
one_digit : (n d : ℕ) (rest : List ℕ) → d < 10 → digits_on n ((48 + d) ∷ rest) ≡ digits_on (n * 10 + d) rest
unfolding digits_on
one_digit n d rest h =
    let e : 48 + d - 48 ≡ d = omega arith in
    rw (digits_on, le-leb 48 (48 + d) (omega arith), le-leb (48 + d) 57 (omega arith)) (ap (λ k. digits_on (n * 10 + k) rest) e)

-- Some bytes, which, read first, come to n.
record Front (l : List ℕ) (n : ℕ) (rest : List ℕ) : Type 0 where
  first : ℕ
  others : List ℕ
  are : l ≡ first ∷ others
  come : digits_on 0 (first ∷ others) ≡ digits_on n rest

last_digit : (n : ℕ) (rest : List ℕ) → n < 10 → Front ((48 + n % 10) ∷ rest) n rest
last_digit n rest h =
    let e : 0 * 10 + n % 10 ≡ n = omega arith in
    record { first = 48 + n % 10; others = rest; are = refl; come = one_digit 0 (n % 10) rest (omega arith) ∙ ap (λ k. digits_on k rest) e }

onto_front : (places n : ℕ) (rest : List ℕ) → n < 10 ^ suc places → Front (decimal_onto (suc places) n rest) n rest
unfolding decimal_onto
onto_front zero n rest h =
    choose (λ l. Front l n rest) (ltb n 10) ((48 + n % 10) ∷ rest) ((48 + n % 10) ∷ rest)
    (λ t. last_digit n rest h)
    (λ t. last_digit n rest h)
onto_front (suc places) n rest h =
    choose (λ l. Front l n rest) (ltb n 10) ((48 + n % 10) ∷ rest) (decimal_onto (suc places) (n / 10) ((48 + n % 10) ∷ rest))
    (λ t. last_digit n rest (ltb→lt n 10 t))
    (λ t.
    let e : n / 10 * 10 + n % 10 ≡ n = omega arith in
    let f = onto_front places (n / 10) ((48 + n % 10) ∷ rest) (omega (arith, pow-suc 10 (suc places))) in
    record { first = f.first; others = f.others; are = f.are; come = f.come ∙ one_digit (n / 10) (n % 10) rest (omega arith) ∙ ap (λ k. digits_on k rest) e })

pub number_reads : (n : ℕ) → n ≤ greatest → number_in (decimal n) ≡ some n
unfolding decimal digits_on limited number_in
number_reads n h =
    let f = onto_front 9 n [] (omega (arith, h)) in
    ap number_in f.are ∙ ap limited f.come ∙ ap (λ t. cond t (some n) none) (le-leb n greatest h)
