-- The cells that are occupied and those that are free are all: no free cell is listed twice, so that there are as many free cells as cells on the list.
-- Assumes nothing.
use mathlib.Core.Path.{◌≡◌, refl, ap, ◌∙◌}
use mathlib.Core.Bool.{Bool, true, false, not, ◌||◌}
use mathlib.Core.List.{List, [], ◌∷◌}
use mathlib.Core.Logic.{⊎_elim}
use Prim.Native.Nat.{ℕ, zero, suc, ◌+◌, ◌<◌}
use native.Mathlib.Nat.{zero-add}
use native.Mathlib.Omega.{arith}
use borrow.Author.Tests.{eq-eqb, ne_eqb}
use lib.ListN.{length}
use lib.Dec.{eqb}
use Rattle.heap.specs.Upd.{pick, total}
use Rattle.heap.specs.Shape.{cells}
use Rattle.heap.specs.Reading.{member, ◌∈◌, only, from, sum_of, free_cells, occupied, Once, Exact}
use Rattle.heap.specs.declared.Lists.{Lists}
use Rattle.heap.proofs.Upds.{total_same, total_change}
use Rattle.heap.proofs.Bodies.{total_none}
use Rattle.heap.proofs.Since.{true_or_false}
use Rattle.heap.proofs.Listing.{here, there, sum_only, sum_from}

-- A list without repetition has as many members as it is long.
members : (l : List ℕ) (n : ℕ) → Once l → ((c : ℕ) → c ∈ l → c < n) → total (λ c. pick (member c l) 1 0) n ≡ length l
unfolding member Once
members [] n once low = total_none (λ c. 0) n (λ c b. refl)
members (d ∷ l) n once low = omega (
  arith,
  members l n once.1 (λ c i. low c (there c d l i)),
  total_change (λ c. pick (member c l) 1 0) (λ c. pick (eqb c d || member c l) 1 0) n d (low d (here d d l refl)) (λ c ne. rw (ne_eqb c d ne)),
  ap (λ b. pick {X = ℕ} b 1 0) (⊎_elim (λ (t : member d l ≡ true). absurd (once.0 (rw t tt))) (λ (f : member d l ≡ false). f) (true_or_false (member d l))),
  ap (λ b. pick {X = ℕ} (b || member d l) 1 0) (eq-eqb d d refl),
)

one_or_other : (b : Bool) → pick {X = ℕ} (not b) 1 0 + pick {X = ℕ} b 1 0 ≡ 1
one_or_other true = refl
one_or_other false = refl

all_or_other : (test : ℕ → Bool) (n : ℕ) → total (λ c. pick (not (test c)) 1 0) n + total (λ c. pick (test c) 1 0) n ≡ n
unfolding total
all_or_other test zero = refl
all_or_other test (suc n) = omega (arith, all_or_other test n, one_or_other (test n))

length_sum : (l : List ℕ) → length l ≡ sum_of (λ c. 1) l
unfolding sum_of
length_sum [] = refl
length_sum (c ∷ l) = omega (arith, length_sum l)

length_only : (test : ℕ → Bool) (n : ℕ) → length (only test (from 0 n)) ≡ total (λ c. pick (test c) 1 0) n
length_only test n =
    length_sum (only test (from 0 n))
    ∙ sum_only (λ c. 1) test (from 0 n)
    ∙ sum_from (λ c. pick (test c) 1 0) 0 n
    ∙ total_same (λ c. pick (test c) 1 0) (λ c. pick (test (0 + c)) 1 0) n (λ c b. ap (λ x. pick (test x) 1 0) (zero-add c))

pub occupied_free : {s : Lists} {m : List ℕ} → Exact s m → length (occupied s m) + length (free_cells s m) ≡ cells m
unfolding occupied
occupied_free {s} {m} E = omega (
  arith,
  length_only (λ c. not (member c (free_cells s m))) (cells m),
  all_or_other (λ c. member c (free_cells s m)) (cells m),
  members (free_cells s m) (cells m) E.free_once E.free,
)
