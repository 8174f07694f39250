-- Lists of cells: what is in one, that no cell stands twice, and sums over one, each by induction on the list.
-- Assumes nothing.
use mathlib.Core.Path.{◌≡◌, refl, ap}
use mathlib.Core.Bool.{Bool, true, false, ◌||◌}
use mathlib.Core.List.{List, [], ◌∷◌, ◌++◌}
use mathlib.Core.Logic.{◌⊎◌, inl, inr, ⊎_elim}
use Prim.Native.Nat.{ℕ, zero, suc, ◌+◌, ◌≤◌, ◌<◌}
use native.Mathlib.Nat.{add-zero}
use native.Mathlib.Omega.{arith}
use borrow.Author.Tests.{eq-eqb}
use lib.ListN.{length}
use lib.Dec.{T, eqb, eqb→eq}
use Rattle.heap.specs.Word.{word}
use Rattle.heap.specs.Upd.{pick, total}
use Rattle.heap.proofs.Upds.{same?, total_same}
use Rattle.heap.specs.Reading.{member, ◌∈◌, keep, only, from, walk, sum_of, Once}

-- ---- membership

or_cases : (a b : Bool) → T (a || b) → T a ⊎ T b
or_cases true b t = inl tt
or_cases false b t = inr t

or_left : (a b : Bool) → T a → T (a || b)
or_left true b t = tt
or_left false b t = absurd t

or_right : (a b : Bool) → T b → T (a || b)
or_right true b t = tt
or_right false b t = t

pub not_none : (c : ℕ) → c ∈ [] → ⊥
unfolding member
not_none c t = t

pub in_cons : (c d : ℕ) (l : List ℕ) → c ∈ d ∷ l → (c ≡ d) ⊎ (c ∈ l)
unfolding member
in_cons c d l t = ⊎_elim (λ u. inl (eqb→eq c d u)) (λ u. inr u) (or_cases (eqb c d) (member c l) t)

pub here : (c d : ℕ) (l : List ℕ) → c ≡ d → c ∈ d ∷ l
unfolding member
here c d l e = rw (eq-eqb c d e) tt

pub there : (c d : ℕ) (l : List ℕ) → c ∈ l → c ∈ d ∷ l
unfolding member
there c d l t = or_right (eqb c d) (member c l) t

pub in_append : (c : ℕ) (a b : List ℕ) → c ∈ a ++ b → (c ∈ a) ⊎ (c ∈ b)
in_append c [] b t = inr t
in_append c (d ∷ a) b t = ⊎_elim (λ e. inl (here c d a e)) (λ u. ⊎_elim (λ v. inl (there c d a v)) (λ v. inr v) (in_append c a b u)) (in_cons c d (a ++ b) t)

pub append_left : (c : ℕ) (a b : List ℕ) → c ∈ a → c ∈ a ++ b
append_left c [] b t = absurd (not_none c t)
append_left c (d ∷ a) b t = ⊎_elim (λ e. here c d (a ++ b) e) (λ u. there c d (a ++ b) (append_left c a b u)) (in_cons c d a t)

pub append_right : (c : ℕ) (a b : List ℕ) → c ∈ b → c ∈ a ++ b
append_right c [] b t = t
append_right c (d ∷ a) b t = there c d (a ++ b) (append_right c a b t)

-- ---- those that pass a test

in_keep : (c d : ℕ) (b : Bool) (l : List ℕ) → c ∈ keep b d l → ((c ≡ d) × T b) ⊎ (c ∈ l)
unfolding keep
in_keep c d true l t = ⊎_elim (λ e. inl (e, tt)) (λ u. inr u) (in_cons c d l t)
in_keep c d false l t = inr t

keep_here : (c d : ℕ) (b : Bool) (l : List ℕ) → c ≡ d → T b → c ∈ keep b d l
unfolding keep
keep_here c d true l e t = here c d l e
keep_here c d false l e t = absurd t

keep_there : (c d : ℕ) (b : Bool) (l : List ℕ) → c ∈ l → c ∈ keep b d l
unfolding keep
keep_there c d true l t = there c d l t
keep_there c d false l t = t

pub in_only : (p : ℕ → Bool) (c : ℕ) (l : List ℕ) → c ∈ only p l → (c ∈ l) × T (p c)
unfolding only
in_only p c [] t = absurd (not_none c t)
in_only p c (d ∷ l) t = ⊎_elim (λ (x : (c ≡ d) × T (p d)). (here c d l x.0, rw x.0 x.1))
    (λ (u : c ∈ only p l). let x = in_only p c l u in (there c d l x.0, x.1)) (in_keep c d (p d) (only p l) t)

pub only_in : (p : ℕ → Bool) (c : ℕ) (l : List ℕ) → c ∈ l → T (p c) → c ∈ only p l
unfolding only
only_in p c [] t h = absurd (not_none c t)
only_in p c (d ∷ l) t h = ⊎_elim (λ (e : c ≡ d). keep_here c d (p d) (only p l) e (rw e at h))
    (λ (u : c ∈ l). keep_there c d (p d) (only p l) (only_in p c l u h)) (in_cons c d l t)

-- ---- numbers in a row

pub in_from : (a n c : ℕ) → c ∈ from a n → (a ≤ c) × (c < a + n)
unfolding from
in_from a zero c t = absurd (not_none c t)
in_from a (suc n) c t = ⊎_elim (λ (e : c ≡ a). (omega arith, omega arith))
    (λ (u : c ∈ from (suc a) n). let x = in_from (suc a) n c u in (omega (arith, x.0), omega (arith, x.1))) (in_cons c a (from (suc a) n) t)

pub from_in : (a n c : ℕ) → a ≤ c → c < a + n → c ∈ from a n
unfolding from
from_in a zero c l u = absurd (omega arith)
from_in a (suc n) c l u = ⊎_elim (λ (e : c ≡ a). here c a (from (suc a) n) e) (λ (e : c ≡ a → ⊥). there c a (from (suc a) n) (from_in (suc a) n c (omega arith) (omega arith)))
    (same? c a)

pub length_from : (a n : ℕ) → length (from a n) ≡ n
unfolding from
length_from a zero = refl
length_from a (suc n) = ap suc (length_from (suc a) n)

pub length_walk : (m : List ℕ) (n c : ℕ) → length (walk m n c) ≡ n
unfolding walk
length_walk m zero c = refl
length_walk m (suc n) c = ap suc (length_walk m n (word m c 2))

-- ---- no cell twice

pub once_from : (a n : ℕ) → Once (from a n)
unfolding from Once
once_from a zero = tt
once_from a (suc n) = (λ t. omega (arith, (in_from (suc a) n a t).0), once_from (suc a) n)

once_keep : (b : Bool) (c : ℕ) (l : List ℕ) → (c ∈ l → ⊥) → Once l → Once (keep b c l)
unfolding keep Once
once_keep true c l n o = (n, o)
once_keep false c l n o = o

pub once_only : (p : ℕ → Bool) (l : List ℕ) → Once l → Once (only p l)
unfolding only Once
once_only p [] o = tt
once_only p (c ∷ l) o = once_keep (p c) c (only p l) (λ t. o.0 (in_only p c l t).0) (once_only p l o.1)

pub once_append : (a b : List ℕ) → Once a → Once b → ((c : ℕ) → c ∈ a → c ∈ b → ⊥) → Once (a ++ b)
unfolding Once
once_append [] b oa ob n = ob
once_append (c ∷ a) b oa ob n = (
  λ t. ⊎_elim oa.0 (n c (here c c a refl)) (in_append c a b t),
  once_append a b oa.1 ob (λ d i j. n d (there d c a i) j),
)

-- ---- sums

sum_keep : (f : ℕ → ℕ) (b : Bool) (c : ℕ) (l : List ℕ) → sum_of f (keep b c l) ≡ pick b (f c) 0 + sum_of f l
unfolding keep sum_of
sum_keep f true c l = refl
sum_keep f false c l = omega arith

pub sum_only : (f : ℕ → ℕ) (p : ℕ → Bool) (l : List ℕ) → sum_of f (only p l) ≡ sum_of (λ c. pick (p c) (f c) 0) l
unfolding only sum_of
sum_only f p [] = refl
sum_only f p (c ∷ l) = omega (arith, sum_keep f (p c) c (only p l), sum_only f p l)

pub total_front : (f : ℕ → ℕ) (n : ℕ) → total f (suc n) ≡ f 0 + total (λ x. f (suc x)) n
unfolding total
total_front f zero = omega arith
total_front f (suc n) = omega (arith, total_front f n)

-- a sum over the numbers below n
pub sum_from : (f : ℕ → ℕ) (a n : ℕ) → sum_of f (from a n) ≡ total (λ x. f (a + x)) n
unfolding from sum_of total
sum_from f a zero = refl
sum_from f a (suc n) = omega (
  arith,
  sum_from f (suc a) n,
  total_front (λ x. f (a + x)) n,
  total_same (λ x. f (a + suc x)) (λ x. f (suc a + x)) n (λ x l. let e : suc a + x ≡ a + suc x = omega arith in ap f e),
  ap f (add-zero a),
)
