-- A number in decimal is its last digit after the rest of its digits, and has 1 to 10 digits. By induction on the digits that the definition allows for.
-- Assumes nothing.
use mathlib.Core.Path.{◌≡◌, refl, ap}
use mathlib.Core.Bool.{Bool, true, false}
use mathlib.Core.Logic.{◌⊎◌, inl, inr, ⊎_elim}
use mathlib.Core.List.{List, [], ◌∷◌, ◌++◌, append_assoc}
use Prim.Native.Nat.{ℕ, zero, suc, ◌+◌, ◌-◌, ◌*◌, max, ◌/◌, ◌%◌, ◌^◌, ◌≤◌, ◌<◌}
use native.Mathlib.Nat.{mod-eq_of_lt, pow-succ'}
use Rattle.std.proofs.Common.{pow-suc}
use native.Mathlib.Omega.{arith}
use lib.ListN.{length, set, length-append}
use lib.Dec.{ltb}
use mir.Syntax.{w32}
use mir.ValLaws.{to_z_pos, to_z-neg}
use borrow.Author.Tests.{lt-ltb, le-ltb, ltb-true, ltb-false}
use Rattle.semantics.specs.Text.{decimal_onto, decimal}
use Rattle.semantics.specs.Words.{signed, decimal_z}
use Rattle.semantics.specs.TextLaws.{decimal_length}
use Rattle.text.specs.Writing.{Written}
use Rattle.text.proofs.Pasting.{one, last, respelt}

lt_or_ge : (a b : ℕ) → (a < b) ⊎ (b ≤ a)
lt_or_ge a b = by (ltb a b) refl
  where
    by : (t : Bool) → ltb a b ≡ t → (a < b) ⊎ (b ≤ a)
    by true e = inl (ltb-true a b e)
    by false e = inr (ltb-false a b e)

onto_last : (p n : ℕ) (rest : List ℕ) → n < 10 → decimal_onto (suc p) n rest ≡ (48 + n % 10) ∷ rest
unfolding decimal_onto
onto_last p n rest h = rw (lt-ltb n 10 h, decimal_onto)

onto_next : (p n : ℕ) (rest : List ℕ) → 10 ≤ n → decimal_onto (suc p) n rest ≡ decimal_onto p (n / 10) ((48 + n % 10) ∷ rest)
unfolding decimal_onto
onto_next p n rest h = rw (le-ltb n 10 h, decimal_onto)

-- the digits stand before the rest
onto_append : (p n : ℕ) (rest : List ℕ) → decimal_onto p n rest ≡ decimal_onto p n [] ++ rest
unfolding decimal_onto
onto_append zero n rest = refl
onto_append (suc p) n rest =
    let d = 48 + n % 10 in
    ⊎_elim (λ l. rw (onto_last p n rest l, onto_last p n [] l))
    (λ g. rw (onto_next p n rest g, onto_next p n [] g, onto_append p (n / 10) (d ∷ rest), onto_append p (n / 10) (d ∷ []), append_assoc))
    (lt_or_ge n 10)

-- a place more than the number has digits changes nothing
onto_more : (p n : ℕ) (rest : List ℕ) → n < 10 ^ suc p → decimal_onto (suc p) n rest ≡ decimal_onto (suc (suc p)) n rest
onto_more zero n rest h = rw (onto_last 0 n rest h, onto_last 1 n rest h)
onto_more (suc p) n rest h =
    let less : n / 10 < 10 ^ suc p = omega (arith, pow-succ' 10 (suc p)) in
    ⊎_elim (λ l. rw (onto_last (suc p) n rest l, onto_last (suc (suc p)) n rest l))
    (λ g. rw (onto_next (suc p) n rest g, onto_next (suc (suc p)) n rest g) (onto_more p (n / 10) ((48 + n % 10) ∷ rest) less))
    (lt_or_ge n 10)

-- ---- numbers

pub decimal_digit : (n : ℕ) → n < 10 → decimal n ≡ (48 + n) ∷ []
unfolding decimal
decimal_digit n h = rw (onto_last 9 n [] h, mod-eq_of_lt h)

pub decimal_more : (n : ℕ) → 10 ≤ n → n < 2 ^ 32 → decimal n ≡ decimal (n / 10) ++ ((48 + n % 10) ∷ [])
unfolding decimal
decimal_more n g h =
    let less : n / 10 < 10 ^ suc 8 = omega arith in
    rw (onto_next 9 n [] g, onto_append 9 (n / 10) ((48 + n % 10) ∷ []), onto_more 8 (n / 10) [] less)

pub decimal_longer : (n : ℕ) → 10 ≤ n → n < 2 ^ 32 → length (decimal n) ≡ length (decimal (n / 10)) + 1
decimal_longer n g h = rw (decimal_more n g h, length-append)

pub decimal_some : (n : ℕ) → n < 2 ^ 32 → 1 ≤ length (decimal n)
decimal_some n h =
    ⊎_elim (λ l. omega (arith, ap length (decimal_digit n l))) (λ g. omega (arith, decimal_longer n g h)) (lt_or_ge n 10)

-- as many digits as the logarithm and one more; 0 has those of 1
digits_of : (r n : ℕ) → 10 ^ r ≤ n → n < 10 * 10 ^ r → n < 2 ^ 32 → length (decimal n) ≡ r + 1
digits_of zero n l h k = ap length (decimal_digit n h)
digits_of (suc r) n l h k =
    let g : 10 ≤ n = omega (arith, pow-suc 10 r) in
    omega (arith, decimal_longer n g k, digits_of r (n / 10) (omega (arith, pow-suc 10 r)) (omega (arith, pow-suc 10 r)) (omega arith))

pub digits_is : (n m r : ℕ) → m ≡ max n 1 → 10 ^ r ≤ m → m < 10 * 10 ^ r → n < 2 ^ 32 → r + 1 ≡ length (decimal n)
digits_is zero m r e l h k =
    omega (arith, digits_of r m l h (omega arith), ap (λ x. length (decimal x)) e, ap length (decimal_digit 0 (omega arith)), ap length (decimal_digit 1 (omega arith)))
digits_is (suc n) m r e l h k =
    let f : m ≡ suc n = omega arith in
    omega (arith, digits_of r m l h (omega arith), ap (λ x. length (decimal x)) f)

-- ---- the writer of digits

-- One digit is the whole number.
pub digit_written : (n : ℕ) {at : ℕ} {old : List ℕ} → n < 10 → at < length old → Written at (decimal n) old (set old at (48 + n)) (at + 1)
digit_written n l room = respelt (decimal_digit n l) (one room)

-- The last digit goes after the others.
pub digits_written : (n : ℕ) {at r : ℕ} {old mid : List ℕ}
    → 10 ≤ n
    → n < 2 ^ 32
    → at ≤ length old
    → r < length mid
    → Written at (decimal (n / 10)) old mid r
    → Written at (decimal n) old (set mid r (48 + n % 10)) (r + 1)
digits_written n g h low room W = respelt (decimal_more n g h) (last (48 + n % 10) low room W)

-- ---- integers

pub integer_low : (w : ℕ) → w < 2 ^ 31 → decimal_z (signed w) ≡ decimal w
unfolding decimal_z signed
integer_low w h = rw (to_z_pos w32 w h)

-- m is what the word lacks to 2 ^ 32
pub integer_high : (w m : ℕ) → 2 ^ 31 ≤ w → w < 2 ^ 32 → m + w ≡ 2 ^ 32 → decimal_z (signed w) ≡ 45 ∷ decimal m
unfolding decimal_z signed
integer_high w m h k e =
    let w_is : w ≡ 2 ^ 32 - suc (m - 1) = omega arith in
    let m_is : suc (m - 1) ≡ m = omega arith in
    rw (w_is, to_z-neg w32 (m - 1) (omega arith), m_is)

pub integer_short : (w : ℕ) → w < 2 ^ 32 → length (decimal_z (signed w)) ≤ 11
integer_short w h =
    let m = 2 ^ 32 - w in
    ⊎_elim (λ l. omega (arith, ap length (integer_low w l), decimal_length w))
    (λ g. omega (arith, ap length (integer_high w m g h (omega arith)), decimal_length m))
    (lt_or_ge w (2 ^ 31))
