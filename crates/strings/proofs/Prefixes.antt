-- A string's current bytes are the first of its bytes.
-- Assumes nothing.
use mathlib.Core.Path.{◌≡◌, refl}
use mathlib.Core.Bool.{Bool, true, false}
use mathlib.Core.List.{List, [], ◌∷◌}
use Prim.Native.Nat.{ℕ, zero, suc, ◌≤◌, ◌<◌}
use native.Mathlib.Omega.{arith}
use lib.Dec.{eqb}
use lib.ListN.{length, get_or}
use Rattle.semantics.specs.Values.{current}

pub current_few : (l : List ℕ) → length (current l) ≤ length l
unfolding current
current_few [] = omega arith
current_few (b ∷ l) = by (eqb b 0) (current_few l)
  where
    by : (t : Bool) → length (current l) ≤ length l → length {A = ℕ} (elim t [ true ↦ [] | false ↦ b ∷ current l ]) ≤ suc (length l)
    by true r = omega arith
    by false r = omega arith

pub current_byte : (l : List ℕ) (q : ℕ) → q < length (current l) → get_or (current l) q 0 ≡ get_or l q 0
unfolding current
current_byte [] q h = refl
current_byte (b ∷ l) q h = by (eqb b 0) q h (λ p x. current_byte l p x)
  where
    by : (t : Bool) (q : ℕ)
        → q < length {A = ℕ} (elim t [ true ↦ [] | false ↦ b ∷ current l ])
        → ((p : ℕ) → p < length (current l) → get_or (current l) p 0 ≡ get_or l p 0)
        → get_or {A = ℕ} (elim t [ true ↦ [] | false ↦ b ∷ current l ]) q 0 ≡ get_or (b ∷ l) q 0
    by true q h r = absurd (omega arith)
    by false zero h r = refl
    by false (suc q) h r = r q (omega arith)
