-- What the small functions choose by the number of execution slots: none, or some.
-- Assumes nothing.
use mathlib.Core.Path.{◌≡◌, refl}
use mathlib.Core.Bool.{Bool, true, false, cond}
use Prim.Native.Nat.{ℕ, ◌≤◌, ◌<◌}
use native.Mathlib.Omega.{arith}
use lib.Dec.{eqb}
use borrow.Author.Tests.{eq-eqb, ne_eqb, eqb-true, eqb-false}

pub none : {A : Type 0} {n : ℕ} {x : A} (y : A) → n ≡ 0 → x ≡ cond (eqb n 0) x y
none {n = n} y z = rw (eq-eqb n 0 z) refl

pub some : {A : Type 0} {n : ℕ} {y : A} (x : A) → (n ≡ 0 → ⊥) → y ≡ cond (eqb n 0) x y
some {n = n} x z = rw (ne_eqb n 0 z) refl

-- By cases.
pub either : {A : Type 0} (n : ℕ) → (n ≡ 0 → A) → ((n ≡ 0 → ⊥) → A) → A
either {A} n f g = by (eqb n 0) refl
  where
    by : (t : Bool) → eqb n 0 ≡ t → A
    by true e = f (eqb-true n 0 e)
    by false e = g (eqb-false n 0 e)

pub above : {A : Type 0} {n : ℕ} {y : A} (x : A) → 0 < n → y ≡ cond (eqb n 0) x y
above {n = n} x h = some x (λ (z : n ≡ 0). omega arith)

pub below : {A : Type 0} {n : ℕ} {x : A} (y : A) → n ≤ 0 → x ≡ cond (eqb n 0) x y
below {n = n} y h = let z : n ≡ 0 = omega arith in none y z
