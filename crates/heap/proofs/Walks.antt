-- How a body is walked: by next words one rank down, by skip words some ranks down; the skip word of a new first cell; and where each cell is if they stand
-- side by side.
-- Assumes nothing.
use Prim.Native.Nat.{ℕ, zero, suc, ◌+◌, ◌*◌, ◌-◌, ◌/◌, ◌%◌, ◌≤◌, ◌<◌}
use mathlib.Core.Path.{◌≡◌, refl, sym, ap, ◌∙◌}
use mathlib.Core.List.{List}
use native.Mathlib.Omega.{arith}
use Rattle.heap.specs.Word.{word}
use Rattle.heap.specs.Chain.{live, on}
use Rattle.heap.specs.Shape.{Ghost, Shape, Skip, rank_unit, header_mark, first_unit, scattered}
use Rattle.heap.proofs.Shapes.{inside, header_of, list_le}

module _ {g : Ghost} {e : ℕ} {m : List ℕ} (S : Shape g e m) where
  -- the first of n cells
  pub first_of : (s k : ℕ) {first n : ℕ} → g.size s ≡ n → g.top s ≡ first → n ≡ suc k → g.own first ≡ on s k
  first_of s k z t q = rw t at (S.chains.first s k (z ∙ q))

  -- the lower part of a live header's word 3 is its body's first cell
  pub first_is : (h : ℕ) → g.own h ≡ live → g.top (h + 2) ≡ word m h 3 % first_unit
  first_is h l = sym (header_of S h l refl).1

  pub first_cell : (h k : ℕ) → g.own h ≡ live → g.size (h + 2) ≡ suc k → g.own (word m h 3 % first_unit) ≡ on (h + 2) k
  first_cell h k l z = first_of (h + 2) k z (first_is h l) refl

  -- word 2 of a body cell is the next cell
  pub next_cell : (c s k : ℕ) → g.own c ≡ on s (suc k) → g.own (word m c 2) ≡ on s k
  next_cell = S.chains.link

  -- word 3 of a body cell of rank j is a skip word
  pub skip_of : (c s j : ℕ) → 2 ≤ s → 0 < j → g.own c ≡ on s j → Skip g.own s (j - 1) (word m c 3)
  skip_of c s j l p q = let z : j ≡ suc (j - 1) = omega arith in S.skips c s (j - 1) l (rw z at q)

  -- a skip word has no mark
  pub skip_plain : (s k w : ℕ) → Skip g.own s k w → w < header_mark
  skip_plain s k w K = omega (arith, S.chains.above (w % rank_unit) s (w / rank_unit) K.lands, list_le S s, S.few)

  -- to the first of n cells
  pub skip_first : (s k w : ℕ) {first n : ℕ} → g.size s ≡ n → g.top s ≡ first → n ≡ suc k → w ≡ first + rank_unit * k → Skip g.own s k w
  skip_first s k w {first} z t q d =
      let o = first_of s k z t q in
      let a : w % rank_unit ≡ first = omega (arith, (inside S first o refl).0, S.few) in
      let b : w / rank_unit ≡ k = omega (arith, (inside S first o refl).0, S.few) in
      record { lands = rw (a, b) o; lower = omega arith }

  -- past the cell that w leads to, by its skip word
  pub skip_over : (s j k w v : ℕ) → 2 ≤ s → Skip g.own s j w → 0 < w / rank_unit → j ≤ k → v ≡ word m (w % rank_unit) 3 → Skip g.own s k v
  skip_over s j k w v l K p i d =
      let L = skip_of (w % rank_unit) s (w / rank_unit) l p K.lands in
      rw d (record { lands = L.lands; lower = omega (arith, L.lower, K.lower) })

  -- each rank has its cell
  cell_of : (s i k : ℕ) → g.size s ≡ i + suc k → (c : ℕ) × (g.own c ≡ on s k)
  cell_of s zero k z = (g.top s, S.chains.first s k (omega arith))
  cell_of s (suc i) k z = let x = cell_of s i (suc k) (omega arith) in (word m x.0 2, S.chains.link x.0 s k x.1)

  -- of cells side by side, the one of rank k is i cells before the first
  pub side_cell : (h i k : ℕ) → g.own h ≡ live → word m h 1 / scattered % 2 ≡ 0 → g.size (h + 2) ≡ i + suc k → (i ≤ word m h 3 % first_unit) × (g.own (word m h 3 % first_unit - i) ≡ on (h + 2) k)
  side_cell h i k l b z =
      let x = cell_of (h + 2) i k z in
      let e : x.0 + i ≡ word m h 3 % first_unit = omega (arith, S.side h x.0 k l b x.1, first_is h l) in
      let q : word m h 3 % first_unit - i ≡ x.0 = omega arith in
      (omega arith, ap g.own q ∙ x.1)
