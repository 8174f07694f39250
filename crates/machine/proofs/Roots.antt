-- Root places by region, and what they hold where one item of the stack changes.
-- Assumes nothing.
use mathlib.Core.Path.{◌≡◌, refl, sym, ap, ◌∙◌}
use mathlib.Core.List.{List, [], ◌∷◌, ◌++◌}
use mathlib.Core.Logic.{⊎_elim}
use Prim.Native.Nat.{ℕ, zero, suc, ◌+◌, ◌*◌, ◌/◌, ◌%◌, ◌≤◌, ◌<◌}
use native.Mathlib.Omega.{arith}
use lib.ListN.{length, get_or, set, length-append, length-set}
use lib.Seq.{get_or-set_same}
use Rattle.semantics.specs.Values.{Value, null}
use Rattle.semantics.specs.Machine.{Machine, with_stack}
use Rattle.heap.specs.Upd.{upd}
use Rattle.heap.proofs.Upds.{same?, upd_same, upd_at, upd_other}
use Rattle.machine.specs.Places.{from_end, frame_value, binding_at, root_in, roots}

-- ---- by region

module _ (μ : Machine) (j : ℕ) where
  region : (k : ℕ) → k < 4 → roots μ (4 * j + k) ≡ root_in μ k j
  unfolding roots
  region k l =
      let low : (4 * j + k) % 4 ≡ k = omega arith in
      let high : (4 * j + k) / 4 ≡ j = omega arith in
      ap (λ x. root_in μ x ((4 * j + k) / 4)) low ∙ ap (root_in μ k) high

  pub stack_root : roots μ (4 * j) ≡ from_end (λ v. v) μ.stack j
  unfolding root_in
  stack_root =
      let same : 4 * j ≡ 4 * j + 0 = omega arith in
      ap (roots μ) same ∙ region 0 (omega arith)

  pub exec_root : roots μ (4 * j + 1) ≡ from_end frame_value μ.exec j
  unfolding root_in
  exec_root = region 1 (omega arith)

  pub binding_root : roots μ (4 * j + 2) ≡ binding_at μ.dictionary j
  unfolding root_in
  binding_root = region 2 (omega arith)

  pub handler_root : roots μ (4 * j + 3) ≡ binding_at μ.handlers j
  unfolding root_in
  handler_root = region 3 (omega arith)

-- ---- other machines

-- Places of the same stacks, bindings and handlers hold the same.
pub roots_alike : (μ τ : Machine)
    → τ.stack ≡ μ.stack
    → τ.exec ≡ μ.exec
    → τ.dictionary ≡ μ.dictionary
    → τ.handlers ≡ μ.handlers
    → (r : ℕ)
    → roots τ r ≡ roots μ r
unfolding roots root_in
roots_alike μ τ stack exec dictionary handlers r = by (r % 4)
  where
    by : (k : ℕ) → root_in τ k (r / 4) ≡ root_in μ k (r / 4)
    by zero = ap (λ s. from_end (λ v. v) s (r / 4)) stack
    by (suc zero) = ap (λ s. from_end frame_value s (r / 4)) exec
    by (suc (suc zero)) = ap (λ d. binding_at d (r / 4)) dictionary
    by (suc (suc (suc zero))) = ap (λ d. binding_at d (r / 4)) handlers
    by (suc (suc (suc (suc k)))) = refl

-- One place of one region changes, and no other region.
pub region_changed : (μ τ : Machine) (q j : ℕ) (v : Value)
    → q < 4
    → ((i : ℕ) → root_in τ q i ≡ upd (root_in μ q) j v i)
    → ((k i : ℕ) → (k ≡ q → ⊥) → root_in τ k i ≡ root_in μ k i)
    → (r : ℕ)
    → roots τ r ≡ upd (roots μ) (4 * j + q) v r
unfolding roots
region_changed μ τ q j v low here other r = ⊎_elim inside outside (same? (r % 4) q)
  where
    inside : r % 4 ≡ q → root_in τ (r % 4) (r / 4) ≡ upd (roots μ) (4 * j + q) v r
    inside e =
        ap (λ k. root_in τ k (r / 4)) e
        ∙ here (r / 4)
        ∙ ⊎_elim
        (λ (z : r / 4 ≡ j). upd_at (root_in μ q) j v (r / 4) z ∙ sym (upd_at (roots μ) (4 * j + q) v r (omega arith)))
        (λ (z : r / 4 ≡ j → ⊥).
        upd_other (root_in μ q) j v (r / 4) z
        ∙ sym (upd_other (roots μ) (4 * j + q) v r (λ w. z (omega arith)) ∙ ap (λ k. root_in μ k (r / 4)) e))
        (same? (r / 4) j)

    outside : (r % 4 ≡ q → ⊥) → root_in τ (r % 4) (r / 4) ≡ upd (roots μ) (4 * j + q) v r
    outside n = other (r % 4) (r / 4) n ∙ sym (upd_other (roots μ) (4 * j + q) v r (λ w. n (omega arith)))

-- ---- the stack with one place changed

pub roots_at : (μ : Machine) (new : List Value) (k : ℕ) (v : Value)
    → ((j : ℕ) → (j ≡ k → ⊥) → from_end (λ x. x) new j ≡ from_end (λ x. x) μ.stack j)
    → from_end (λ x. x) new k ≡ v
    → (r : ℕ)
    → roots (with_stack new μ) r ≡ upd (roots μ) (4 * k) v r
unfolding with_stack roots root_in
roots_at μ new k v other here r = ⊎_elim yes no (same? r (4 * k))
  where
    yes : r ≡ 4 * k → roots (with_stack new μ) r ≡ upd (roots μ) (4 * k) v r
    yes e = ap (roots (with_stack new μ)) e ∙ stack_root (with_stack new μ) k ∙ here ∙ sym (upd_at (roots μ) (4 * k) v r e)

    by : (x : ℕ) → (r / 4 ≡ k → x ≡ 0 → ⊥) → root_in (with_stack new μ) x (r / 4) ≡ root_in μ x (r / 4)
    by zero h = other (r / 4) (λ e. h e refl)
    by (suc zero) h = refl
    by (suc (suc zero)) h = refl
    by (suc (suc (suc zero))) h = refl
    by (suc (suc (suc (suc x)))) h = refl

    no : (r ≡ 4 * k → ⊥) → roots (with_stack new μ) r ≡ upd (roots μ) (4 * k) v r
    no e = by (r % 4) (λ q z. e (omega arith)) ∙ sym (upd_other (roots μ) (4 * k) v r e)

-- ---- lists that grow at their front

module _ {A : Type 0} (f : A → Value) where
  pub at_end : (l : List A) → (j : ℕ) → length l ≤ j → from_end f l j ≡ null
  unfolding from_end
  at_end [] j h = refl
  at_end (a ∷ l) j h = upd_other (from_end f l) (length l) (f a) j (λ e. omega arith) ∙ at_end l j (omega arith)

  pub at_front : (a : A) (l : List A) → from_end f (a ∷ l) (length l) ≡ f a
  unfolding from_end
  at_front a l = upd_same (from_end f l) (length l) (f a)

  pub at_other : (a : A) (l : List A) (j : ℕ) → (j ≡ length l → ⊥) → from_end f (a ∷ l) j ≡ from_end f l j
  unfolding from_end
  at_other a l j n = upd_other (from_end f l) (length l) (f a) j n

  -- One element among others.
  pub at_middle : (front : List A) (a : A) (l : List A) → from_end f (front ++ a ∷ l) (length l) ≡ f a
  at_middle [] a l = at_front a l
  at_middle (b ∷ front) a l =
      at_other b (front ++ a ∷ l) (length l) (λ e. omega (arith, length-append front (a ∷ l))) ∙ at_middle front a l

  pub at_others : (front : List A) (a b : A) (l : List A) (j : ℕ) → (j ≡ length l → ⊥) → from_end f (front ++ a ∷ l) j ≡ from_end f (front ++ b ∷ l) j
  unfolding from_end
  at_others [] a b l j n = at_other a l j n ∙ sym (at_other b l j n)
  at_others (x ∷ front) a b l j n =
      let same : length (front ++ a ∷ l) ≡ length (front ++ b ∷ l) = length-append front (a ∷ l) ∙ sym (length-append front (b ∷ l)) in
      ⊎_elim
      (λ (e : j ≡ length (front ++ a ∷ l)). upd_at (from_end f (front ++ a ∷ l)) (length (front ++ a ∷ l)) (f x) j e ∙ sym (upd_at (from_end f (front ++ b ∷ l)) (length (front ++ b ∷ l)) (f x) j (e ∙ same)))
      (λ (e : j ≡ length (front ++ a ∷ l) → ⊥).
      at_other x (front ++ a ∷ l) j e ∙ at_others front a b l j n ∙ sym (at_other x (front ++ b ∷ l) j (λ q. e (q ∙ sym same))))
      (same? j (length (front ++ a ∷ l)))

-- ---- items counted from the top

-- Item i from the top, of k + 1 + i, is at place k.
pub from_top : (s : List Value) (i k : ℕ) → length s ≡ k + suc i → from_end (λ x. x) s k ≡ get_or s i null
from_top [] i k e = absurd (omega arith)
from_top (v ∷ s) zero k e =
    let q : k ≡ length s = omega arith in
    ap (from_end (λ x. x) (v ∷ s)) q ∙ at_front (λ x. x) v s
from_top (v ∷ s) (suc i) k e = at_other (λ x. x) v s k (λ q. omega arith) ∙ from_top s i k (omega arith)

pub set_here : (s : List Value) (i k : ℕ) (v : Value) → length s ≡ k + suc i → from_end (λ x. x) (set s i v) k ≡ v
set_here s i k v e = from_top (set s i v) i k (length-set s i v ∙ e) ∙ get_or-set_same s i v null (omega arith)

pub set_there : (s : List Value) (i k : ℕ) (v : Value) → length s ≡ k + suc i → (j : ℕ) → (j ≡ k → ⊥) → from_end (λ x. x) (set s i v) j ≡ from_end (λ x. x) s j
set_there [] i k v e j n = refl
set_there (u ∷ s) zero k v e j n =
    at_other (λ x. x) v s j (λ q. n (omega arith)) ∙ sym (at_other (λ x. x) u s j (λ q. n (omega arith)))
set_there (u ∷ s) (suc i) k v e j n =
    ⊎_elim
    (λ (q : j ≡ length s).
    ap (from_end (λ x. x) (u ∷ set s i v)) (q ∙ sym (length-set s i v)) ∙ at_front (λ x. x) u (set s i v)
    ∙ sym (ap (from_end (λ x. x) (u ∷ s)) q ∙ at_front (λ x. x) u s))
    (λ (q : j ≡ length s → ⊥).
    at_other (λ x. x) u (set s i v) j (λ z. q (z ∙ length-set s i v)) ∙ set_there s i k v (omega arith) j n ∙ sym (at_other (λ x. x) u s j q))
    (same? j (length s))
