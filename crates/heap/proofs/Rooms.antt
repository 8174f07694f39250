-- The free cells are those that no live object has: sums over cells and over headers.
use Prim.Native.Nat.{ℕ, zero, suc, ◌+◌, ◌-◌, ◌≤◌, ◌<◌}
use mathlib.Core.Path.{◌≡◌, refl, sym, ap, ◌∙◌}
use mathlib.Core.Bool.{Bool, true}
use mathlib.Core.List.{List}
use mathlib.Core.Logic.{◌⊎◌, inl, inr, ⊎_elim}
use native.Mathlib.Omega.{arith}
use borrow.Author.Tests.{le-leb, lt-leb}
use lib.Dec.{leb, eqb}
use Rattle.heap.specs.Word.{word}
use Rattle.heap.specs.Upd.{pick, total}
use Rattle.heap.specs.Chain.{Owner, fresh, live, out, on}
use Rattle.heap.specs.Shape.{Ghost, Shape, Header, NoOut, cells, is_head, is_body, is_fresh, is_on}
use Rattle.heap.proofs.Upds.{pick_same, pick_other, same?, total_same, total_change}
use Rattle.heap.proofs.Bodies.{total_none}
use Rattle.heap.proofs.Shapes.{on_same, on_other}
use Rattle.heap.proofs.Falls.{true_false}
use Rattle.heap.proofs.Since.{lt_or_le}

abbrev one : Bool → ℕ
one b = pick b 1 0

total_add : (f h : ℕ → ℕ) (n : ℕ) → total (λ x. f x + h x) n ≡ total f n + total h n
unfolding total
total_add f h zero = refl
total_add f h (suc n) = omega (arith, total_add f h n)

-- the order of two sums does not matter
pub total_swap : (F : ℕ → ℕ → ℕ) (n k : ℕ) → total (λ c. total (λ h. F h c) n) k ≡ total (λ h. total (λ c. F h c) k) n
unfolding total
total_swap F n zero = sym (total_none (λ h. 0) n (λ x l. refl))
total_swap F n (suc k) = omega (arith, total_swap F n k, total_add (λ h. total (λ c. F h c) k) (λ h. F h k) n)

-- a sum with one term
total_one : (f : ℕ → ℕ) (n a : ℕ) → a < n → ((x : ℕ) → (x ≡ a → ⊥) → f x ≡ 0) → total f n ≡ f a
total_one f n a l h = omega (arith, total_change (λ _. 0) f n a l h, total_none (λ _. 0) n (λ x _. refl))

total_from : (e n : ℕ) → e ≤ n → total (λ c. one (leb e c)) n + e ≡ n
unfolding total
total_from e zero l = omega arith
total_from e (suc n) l = ⊎_elim
    (λ (q : n < e). let z : e ≡ suc n = omega arith in
    omega (arith, total_none (λ c. one (leb e c)) n (λ x y. ap one (lt-leb e x (omega arith))), ap one (lt-leb e n q)))
    (λ (q : e ≤ n). omega (arith, total_from e n q, ap one (le-leb e n q))) (lt_or_le n e)

total_all : (f : ℕ → ℕ) (n : ℕ) → ((x : ℕ) → x < n → f x ≡ 1) → total f n ≡ n
unfolding total
total_all f zero h = refl
total_all f (suc n) h = omega (arith, total_all f n (λ x l. h x (omega arith)), h n (omega arith))

module _ (g : Ghost) (e : ℕ) (m : List ℕ) (S : Shape g e m) (no : NoOut g) (z : g.size 1 ≡ 0) where
  -- each cell is one of four
  kinds : (o : Owner) → (o ≡ out → ⊥) → (one (is_fresh o) + is_on 0 o) + (one (is_head o) + one (is_body o)) ≡ 1
  kinds fresh n = refl
  kinds live n = refl
  kinds out n = absurd (n refl)
  kinds (on zero k) n = refl
  kinds (on (suc zero) k) n = refl
  kinds (on (suc (suc s)) k) n = omega (arith, ap one (le-leb 2 (suc (suc s)) (omega arith)), on_other (suc (suc s)) 0 (λ q. omega arith), on_other (suc (suc s)) 1 (λ q. omega arith))

  -- what has a body is a header among the cells
  header_in : (a k : ℕ) → k < g.size (a + 2) → a < cells m
  header_in a k l = ⊎_elim (λ (q : a < cells m). q)
      (λ (q : cells m ≤ a). absurd (omega (arith, none (g.own a) (S.low a ∙ le-leb e a (omega (arith, S.within))) (S.header a)))) (lt_or_le a (cells m))
    where
      none : (o : Owner) → is_fresh o ≡ true → Header (is_head o) (g.size (a + 2)) (g.top (a + 2)) (word m a 1) (word m a 3) → g.size (a + 2) ≡ 0
      none fresh q h = h
      none live q h = absurd (true_false (sym q))
      none out q h = h
      none (on s j) q h = absurd (true_false (sym q))

  -- a body cell is on the body of one header
  body_one : (c : ℕ) → total (λ h. is_on (h + 2) (g.own c)) (cells m) ≡ one (is_body (g.own c))
  body_one c = go (g.own c) refl
    where
      go : (o : Owner) → g.own c ≡ o → total (λ h. is_on (h + 2) o) (cells m) ≡ one (is_body o)
      go fresh q = total_none (λ h. 0) (cells m) (λ x l. refl)
      go live q = total_none (λ h. 0) (cells m) (λ x l. refl)
      go out q = total_none (λ h. 0) (cells m) (λ x l. refl)
      go (on s k) q = ⊎_elim
          (λ (l : s < 2). total_none (λ h. one (eqb s (h + 2))) (cells m) (λ x _. on_other s (x + 2) (λ r. omega arith)) ∙ sym (ap one (lt-leb 2 s l)))
          (λ (l : 2 ≤ s). let r : s - 2 + 2 ≡ s = omega arith in
          total_one (λ h. one (eqb s (h + 2))) (cells m) (s - 2) (header_in (s - 2) k (rw r (S.chains.above c s k q))) (λ x n. on_other s (x + 2) (λ w. n (omega arith)))
          ∙ on_same s (s - 2 + 2) (sym r) ∙ sym (ap one (le-leb 2 s l)))
          (lt_or_le s 2)

  -- the free cells and those of the objects are all cells
  pub free_cells_lem : g.size 0 + (cells m - e) + total (λ h. one (is_head (g.own h)) + g.size (h + 2)) (cells m) ≡ cells m
  free_cells_lem = let n = cells m in
      omega (
        arith,
        S.within,
        S.counted 0,
        total_all (λ c. (one (is_fresh (g.own c)) + is_on 0 (g.own c)) + (one (is_head (g.own c)) + one (is_body (g.own c)))) n (λ c _. kinds (g.own c) (no c)),
        total_add (λ c. one (is_fresh (g.own c)) + is_on 0 (g.own c)) (λ c. one (is_head (g.own c)) + one (is_body (g.own c))) n,
        total_add (λ c. one (is_fresh (g.own c))) (λ c. is_on 0 (g.own c)) n,
        total_add (λ c. one (is_head (g.own c))) (λ c. one (is_body (g.own c))) n,
        total_add (λ h. one (is_head (g.own h))) (λ h. g.size (h + 2)) n,
        total_same (λ c. one (leb e c)) (λ c. one (is_fresh (g.own c))) n (λ c _. ap one (S.low c)),
        total_from e n S.within,
        total_same (λ c. one (is_body (g.own c))) (λ c. total (λ h. is_on (h + 2) (g.own c)) n) n (λ c _. body_one c),
        total_swap (λ h c. is_on (h + 2) (g.own c)) n n,
        total_same (λ h. g.size (h + 2)) (λ h. total (λ c. is_on (h + 2) (g.own c)) n) n (λ h _. S.counted (h + 2)),
      )

-- a sum over headers is a sum over ids: each header's term goes to its id
unfoldable pub by_id : (ρ : ℕ → ℕ) (f : ℕ → ℕ) → ℕ → ℕ → ℕ
by_id ρ f n i = total (λ h. pick (eqb i (ρ h)) (f h) 0) n

pub total_by_id : (ρ : ℕ → ℕ) (f : ℕ → ℕ) (n k : ℕ) → ((h : ℕ) → h < n → (ρ h < k) ⊎ (f h ≡ 0)) → total (by_id ρ f n) k ≡ total f n
unfolding by_id
total_by_id ρ f n k r = total_swap (λ h i. pick (eqb i (ρ h)) (f h) 0) n k ∙ total_same f (λ h. total (λ i. pick (eqb i (ρ h)) (f h) 0) k) n (λ h l. term h (r h l))
  where
    term : (h : ℕ) → (ρ h < k) ⊎ (f h ≡ 0) → total (λ i. pick (eqb i (ρ h)) (f h) 0) k ≡ f h
    term h (inl l) = total_one (λ i. pick (eqb i (ρ h)) (f h) 0) k (ρ h) l (λ x n. pick_other x (ρ h) (f h) 0 n) ∙ pick_same (ρ h) (ρ h) (f h) 0 refl
    term h (inr q) = total_none (λ i. pick (eqb i (ρ h)) (f h) 0) k (λ i _. ⊎_elim (λ (y : i ≡ ρ h). pick_same i (ρ h) (f h) 0 y ∙ q) (λ y. pick_other i (ρ h) (f h) 0 y) (same? i (ρ h))) ∙ sym q
