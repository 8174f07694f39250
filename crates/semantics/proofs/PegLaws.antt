-- What ones, lowpeg and highpeg say of the bits, over any width n (02, W5). ones_in is the number of the n lowest bits that are 1 (`ones_counts`). lowest_in is k exactly if bit
-- k is 1 and every lower one 0, highest_in if every higher one is (`lowest_exactly`, `highest_exactly`), and neither has a place exactly for 0 (`lowest_none`, `highest_none`).
-- Assumes nothing.
use Rattle.std.specs.Prelude.{◌≡◌, refl, ℕ, zero, suc, ◌+◌, ◌/◌, ◌%◌, ◌^◌, ◌≤◌, ◌<◌, length}
use Rattle.std.proofs.Common.{sym, ap, ◌∙◌, subst, ⊎_elim, div-one, pow-suc, le_of_suc-le-suc, eq-or-lt_of_le, not-suc-le-zero, arith}
use Rattle.std.proofs.Math.Logic.{ite}
use mathlib.Core.List.{List, ◌∷◌, filter}
use Rattle.std.proofs.Math.Option.{Option, none, some}
use Rattle.std.proofs.Math.Nat.{div-div-eq-div-mul, zero-div, pow-succ'}
use Rattle.std.proofs.Math.Decide.{ℕ_discrete}
use Rattle.semantics.specs.NumberOperators.{bit_of, ones_in, placed, or_else, lowest_in, highest_in}
use Rattle.semantics.specs.Held.{below}
use Rattle.semantics.specs.ListLaws.{Maybe, nothing, just}
use Rattle.semantics.specs.PegLaws.{Clear, First, Lower, Higher, Lowest, Highest, Finds, at, nowhere}

-- ---- bits

pub bit_zero : (w : ℕ) → bit_of w 0 ≡ w % 2
unfolding bit_of
bit_zero w = ap (λ (x : ℕ). x % 2) (div-one w)

pub bit_suc : (w i : ℕ) → bit_of w (suc i) ≡ bit_of (w / 2) i
unfolding bit_of
bit_suc w i = ap (λ (x : ℕ). x % 2) (ap (λ (x : ℕ). w / x) (pow-succ' 2 i) ∙ sym (div-div-eq-div-mul w 2 (2 ^ i)))

bit_below : (w i : ℕ) → bit_of w i < 2
unfolding bit_of
bit_below w i = omega arith

of_zero : (i : ℕ) → bit_of 0 i ≡ 0
unfolding bit_of
of_zero i = ap (λ (x : ℕ). x % 2) (zero-div (2 ^ i))

bits_differ : {b : ℕ} → b ≡ 1 → b ≡ 0 → ⊥
bits_differ e f = omega (arith, e, f)

-- ---- how many

-- As many as there are places below n whose bit is 1.
pub ones_counts : (n w : ℕ) → ones_in n w ≡ length (filter (λ k. ℕ_discrete (bit_of w k) 1) (below n))
unfolding ones_in below
ones_counts zero w = refl
ones_counts (suc n) w = by (ones_counts n w) (ℕ_discrete (bit_of w n) 1)
  where
    rest : List ℕ
    rest = filter (λ k. ℕ_discrete (bit_of w k) 1) (below n)

    by : ones_in n w ≡ length rest → (d : Dec (bit_of w n ≡ 1)) → ones_in n w + bit_of w n ≡ length (ite {C = List ℕ} d (n ∷ rest) rest)
    by h (yes e) = omega (arith, h, e)
    by h (no f) = omega (arith, h, f, bit_below w n)

pub ones_small : (n w : ℕ) → ones_in n w ≤ n
unfolding ones_in
ones_small zero w = omega arith
ones_small (suc n) w = omega (arith, ones_small n w, bit_below w n)

clear_none : (w : ℕ) → Clear 0 w
clear_none w = record { clear = λ i l. absurd (not-suc-le-zero l) }

-- The next bit is that one or one of the others.
by_next : (n w : ℕ) → bit_of w n ≡ 0 → (i : ℕ) → i < suc n → (i < n → bit_of w i ≡ 0) → bit_of w i ≡ 0
by_next n w e i l f = ⊎_elim (λ s. ap (bit_of w) s ∙ e) f (eq-or-lt_of_le (le_of_suc-le-suc l))

clear_more : (n w : ℕ) → Clear n w → bit_of w n ≡ 0 → Clear (suc n) w
clear_more n w c e = record { clear = λ i l. by_next n w e i l (c.clear i) }

pub lowest_finds : (n w : ℕ) → Finds Lower n w (lowest_in n w)
unfolding lowest_in or_else placed
lowest_finds zero w = nowhere (clear_none w)
lowest_finds (suc n) w = by (lowest_finds n w) (bit_of w n) refl
  where
    by : {o : Option ℕ} → Finds Lower n w o → (b : ℕ) → bit_of w n ≡ b → Finds Lower (suc n) w (or_else o (placed b n))
    by (at {k} f) b e = at {k = k} (record { inside = omega (arith, f.inside); set = f.set; clear = λ i l h. f.clear i (omega (arith, f.inside)) h })
    by (nowhere c) zero e = nowhere (clear_more n w c e)
    by (nowhere c) (suc b) e = at {k = n} (record { inside = omega arith; set = omega (arith, e, bit_below w n); clear = λ i l h. c.clear i h })

pub highest_finds : (n w : ℕ) → Finds Higher n w (highest_in n w)
unfolding highest_in or_else placed
highest_finds zero w = nowhere (clear_none w)
highest_finds (suc n) w = by (highest_finds n w) (bit_of w n) refl
  where
    by : {o : Option ℕ} → Finds Higher n w o → (b : ℕ) → bit_of w n ≡ b → Finds Higher (suc n) w (or_else (placed b n) o)
    by (at {k} f) zero e = at {k = k} (record { inside = omega (arith, f.inside); set = f.set; clear = λ i l h. by_next n w e i l (λ m. f.clear i m h) })
    by (nowhere c) zero e = nowhere (clear_more n w c e)
    by f (suc b) e = at {k = n} (record { inside = omega arith; set = omega (arith, e, bit_below w n); clear = λ i l h. absurd (omega arith) })

module _ {Before : ℕ → ℕ → Type 0} {n w : ℕ} where
  pub found_small : {o : Option ℕ} → Finds Before n w o → Maybe (λ k. k ≤ n) o
  found_small (at {k} f) = just {a = k} (omega (arith, f.inside))
  found_small (nowhere c) = nothing

  first_of : {k : ℕ} → Finds Before n w (some k) → First Before n w k
  first_of (at f) = f

  clear_of : Finds Before n w none → Clear n w
  clear_of (nowhere c) = c

  -- One of two places comes before the other, so there is one first place at most.
  the_first : ((i j : ℕ) → (Before i j → ⊥) → (Before j i → ⊥) → i ≡ j) → {k : ℕ} → First Before n w k → {o : Option ℕ} → Finds Before n w o → o ≡ some k
  the_first apart {k} f (at {k = j} g) =
      ap some (apart j k (λ b. bits_differ g.set (f.clear j g.inside b)) (λ b. bits_differ f.set (g.clear k f.inside b)))
  the_first apart {k} f (nowhere c) = absurd (bits_differ f.set (c.clear k f.inside))

  nothing_set : w ≡ 0 → {o : Option ℕ} → Finds Before n w o → o ≡ none
  nothing_set e (at {k} f) = absurd (bits_differ f.set (ap (λ x. bit_of x k) e ∙ of_zero k))
  nothing_set e (nowhere c) = refl

pub lowest_exactly : (n w k : ℕ) → (lowest_in n w ≡ some k → Lowest n w k) × (Lowest n w k → lowest_in n w ≡ some k)
lowest_exactly n w k =
    (λ e. first_of (subst (Finds Lower n w) e (lowest_finds n w)), λ f. the_first (λ i j a b. omega (arith, a, b)) f (lowest_finds n w))

pub highest_exactly : (n w k : ℕ) → (highest_in n w ≡ some k → Highest n w k) × (Highest n w k → highest_in n w ≡ some k)
highest_exactly n w k =
    (λ e. first_of (subst (Finds Higher n w) e (highest_finds n w)), λ f. the_first (λ i j a b. omega (arith, a, b)) f (highest_finds n w))

-- ---- 0 alone has no bit that is 1

clear_zero : (n w : ℕ) → w < 2 ^ n → Clear n w → w ≡ 0
clear_zero zero w h c = omega arith
clear_zero (suc n) w h c =
    let half : w / 2 ≡ 0 = clear_zero n (w / 2) (omega (arith, pow-suc 2 n)) (record { clear = λ i l. sym (bit_suc w i) ∙ c.clear (suc i) (omega arith) }) in
    let low : w % 2 ≡ 0 = sym (bit_zero w) ∙ c.clear 0 (omega arith) in
    omega (arith, half, low)

pub lowest_none : (n w : ℕ) → w < 2 ^ n → (lowest_in n w ≡ none → w ≡ 0) × (w ≡ 0 → lowest_in n w ≡ none)
lowest_none n w h =
    (λ e. clear_zero n w h (clear_of (subst (Finds Lower n w) e (lowest_finds n w))), λ e. nothing_set e (lowest_finds n w))

pub highest_none : (n w : ℕ) → w < 2 ^ n → (highest_in n w ≡ none → w ≡ 0) × (w ≡ 0 → highest_in n w ≡ none)
highest_none n w h =
    (λ e. clear_zero n w h (clear_of (subst (Finds Higher n w) e (highest_finds n w))), λ e. nothing_set e (highest_finds n w))
