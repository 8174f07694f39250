-- The machine's counts of ones, trailing and leading zeros are the definition's, over any width k: both go by halves.
-- Assumes nothing.
use Rattle.std.proofs.Common.{◌≡◌, ℕ, zero, suc, ◌+◌, ◌*◌, ◌/◌, ◌%◌, ◌^◌, ◌<◌, ◌≤◌, sym, refl, ap, ◌∙◌, ap₂, lt_of_lt_of_le, le_of_suc-le-suc, not-suc-le-zero, add_assoc, pow-suc, arith, pow_mono}
use mathlib.Core.Option.{some}
use native.Mathlib.Nat.{div-eq_of_lt, div-eq_of_lt-le}
use lib.Count.{ones, ones_step, under, count_trailing_zeros}
use Rattle.semantics.specs.NumberOperators.{bit_of, ones_in, lowest_in, highest_in}
use Rattle.semantics.specs.PegLaws.{Highest}
use Rattle.semantics.proofs.PegLaws.{bit_zero, bit_suc, lowest_exactly, highest_exactly}

half_lt : (k w : ℕ) → w < 2 ^ suc k → w / 2 < 2 ^ k
half_lt k w h = omega (arith, pow-suc 2 k)

-- The lowest bit apart from the others.
ones_low : (n w : ℕ) → ones_in (suc n) w ≡ w % 2 + ones_in n (w / 2)
unfolding ones_in
ones_low zero w = ap (λ (x : ℕ). 0 + x) (bit_zero w) ∙ omega arith
ones_low (suc n) w = ap₂ (λ (x y : ℕ). x + y) (ones_low n w) (bit_suc w n) ∙ add_assoc (w % 2) (ones_in n (w / 2)) (bit_of (w / 2) n)

pub ones_is : (k w : ℕ) → w < 2 ^ k → ones w ≡ ones_in k w
unfolding ones_in ones
ones_is zero w h = let e : w ≡ 0 = omega arith in ap ones e
ones_is (suc k) w h = ones_step w ∙ ap (λ (x : ℕ). w % 2 + x) (ones_is k (w / 2) (half_lt k w h)) ∙ sym (ones_low k w)

trailing_clear : (k w i : ℕ) → i < count_trailing_zeros k w → bit_of w i ≡ 0
unfolding count_trailing_zeros
trailing_clear zero w i l = absurd (not-suc-le-zero l)
trailing_clear (suc k) w i l = by (λ j. trailing_clear k (w / 2) j) (w % 2) refl i l
  where
    by : ((j : ℕ) → j < count_trailing_zeros k (w / 2) → bit_of (w / 2) j ≡ 0) → (b : ℕ) → w % 2 ≡ b → (i : ℕ) → i < under b (count_trailing_zeros k (w / 2)) → bit_of w i ≡ 0
    by rest zero e zero l = bit_zero w ∙ e
    by rest zero e (suc i) l = bit_suc w i ∙ rest i (le_of_suc-le-suc l)
    by rest (suc b) e i l = absurd (not-suc-le-zero l)

trailing_set : (k w : ℕ) → 0 < w → w < 2 ^ k → (count_trailing_zeros k w < k) × (bit_of w (count_trailing_zeros k w) ≡ 1)
unfolding count_trailing_zeros
trailing_set zero w p h = absurd (omega arith)
trailing_set (suc k) w p h = by (λ q. trailing_set k (w / 2) q (half_lt k w h)) (w % 2) refl
  where
    by : (0 < w / 2 → (count_trailing_zeros k (w / 2) < k) × (bit_of (w / 2) (count_trailing_zeros k (w / 2)) ≡ 1)) → (b : ℕ) → w % 2 ≡ b
        → (under b (count_trailing_zeros k (w / 2)) < suc k) × (bit_of w (under b (count_trailing_zeros k (w / 2))) ≡ 1)
    by rest zero e =
        let q : 0 < w / 2 = omega arith in
        (omega (arith, (rest q).0), bit_suc w (count_trailing_zeros k (w / 2)) ∙ (rest q).1)
    by rest (suc b) e = (omega arith, bit_zero w ∙ omega arith)

pub trailing_is : (k w : ℕ) → 0 < w → w < 2 ^ k → some (count_trailing_zeros k w) ≡ lowest_in k w
trailing_is k w p h =
    let t = trailing_set k w p h in
    sym ((lowest_exactly k w (count_trailing_zeros k w)).1 (record { inside = t.0; set = t.1; clear = λ i l h. trailing_clear k w i h }))

-- The highest bit of a number between 2 ^ j and 2 ^ (j + 1) is j.
top_highest : (k w j : ℕ) → j < k → 2 ^ j ≤ w → w < 2 ^ suc j → Highest k w j
unfolding bit_of
top_highest k w j i l h =
    record {
      inside = i;
      set = ap (λ (x : ℕ). x % 2) (div-eq_of_lt-le {k = 1} (2 ^ j) (omega arith) (omega (arith, pow-suc 2 j)));
      clear = λ m n g. ap (λ (x : ℕ). x % 2) (div-eq_of_lt (lt_of_lt_of_le h (pow_mono g)));
    }

pub highest_is : (k w j : ℕ) → j < k → 2 ^ j ≤ w → w < 2 * 2 ^ j → some j ≡ highest_in k w
highest_is k w j i l h = sym ((highest_exactly k w j).1 (top_highest k w j i l (omega (arith, pow-suc 2 j))))
