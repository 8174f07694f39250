-- The byte after an element and the texts of truth values, by the tests that the code makes.
-- Assumes nothing.
use mathlib.Core.Path.{◌≡◌, refl}
use mathlib.Core.Bool.{Bool, true, false}
use mathlib.Core.List.{[], ◌∷◌}
use Prim.Native.Nat.{ℕ, zero, suc, ◌≤◌, ◌<◌}
use native.Mathlib.Omega.{arith}
use borrow.Author.Tests.{ne_eqb}
use Rattle.semantics.specs.Text.{bytes}
use Rattle.semantics.specs.Printing.{truth}
use Rattle.printing.specs.Shown.{byte_after, opening_of, short_text, truth_text}

pub after_some : (t left : ℕ) → 0 < left → 32 ≡ byte_after t left
unfolding byte_after
after_some t zero h = absurd (omega arith)
after_some t (suc k) h = refl

pub after_array : (t left : ℕ) → left ≤ 0 → t ≡ 9 → 93 ≡ byte_after t left
unfolding byte_after
after_array t zero h e = rw e refl
after_array t (suc k) h e = absurd (omega arith)

pub after_procedure : (t left : ℕ) → left ≤ 0 → (t ≡ 9 → ⊥) → 125 ≡ byte_after t left
unfolding byte_after
after_procedure t zero h e = rw (ne_eqb t 9 e) refl
after_procedure t (suc k) h e = absurd (omega arith)

pub truth_yes : (p : ℕ) → p ≡ 1 → truth_text p ≡ 116 ∷ 114 ∷ 117 ∷ 101 ∷ []
unfolding truth_text truth bytes
truth_yes p e = rw e refl

pub truth_no : (p : ℕ) → (p ≡ 1 → ⊥) → truth_text p ≡ 102 ∷ 97 ∷ 108 ∷ 115 ∷ 101 ∷ []
unfolding truth_text truth bytes
truth_no p e = rw (ne_eqb p 1 e) refl

pub opening_array : (t : ℕ) → t ≡ 9 → 91 ≡ opening_of t
unfolding opening_of
opening_array t e = rw e refl

pub opening_procedure : (t : ℕ) → (t ≡ 9 → ⊥) → 123 ≡ opening_of t
unfolding opening_of
opening_procedure t e = rw (ne_eqb t 9 e) refl

-- Texts by the bytes that the code has found.
pub short_deep : (t : ℕ) (deep : Bool) (a b : ℕ) → deep ≡ true → a ≡ opening_of t → b ≡ byte_after t 0 → short_text t deep ≡ a ∷ 46 ∷ 46 ∷ b ∷ []
unfolding short_text
short_deep t deep a b e f g = rw (e, f, g) refl

pub short_none : (t : ℕ) (deep : Bool) (a b : ℕ) → deep ≡ false → a ≡ opening_of t → b ≡ byte_after t 0 → short_text t deep ≡ a ∷ b ∷ []
unfolding short_text
short_none t deep a b e f g = rw (e, f, g) refl
