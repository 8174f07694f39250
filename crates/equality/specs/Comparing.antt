-- What a comparison of the two topmost items reads, and what its answer does to a machine of the definition.
-- Assumes nothing.
use Rattle.std.specs.Prelude.{◌≡◌, Bool, true, false, not, List, ◌∷◌, ℕ, get_or}
use Rattle.semantics.specs.Text.{bytes, same}
use Rattle.semantics.specs.Values.{Value, null, boolean, string, current}
use Rattle.semantics.specs.Machine as Floo
use Rattle.semantics.specs.Machine.{with_stack, push, object, bytes_of}
use Rattle.semantics.specs.NumberOperators.{key}
use Rattle.machine.specs.Rep.{Rep}
use Rattle.machine.specs.Moves.{dropped}
use Rattle.machine.specs.declared.Machine.{Machine}
use Rattle.elements.specs.Elements.{HasString}

-- Whether the two topmost items are equal.
pub record Compares (m : Machine) (s c : List ℕ) (r : Bool) : Type 0 where
  pub says : (e d l : List ℕ) (μ : Floo.Machine)
      → Rep m s e d c l μ
      → (x y : Value) (rest : List Value)
      → μ.stack ≡ y ∷ x ∷ rest
      → r ≡ same (key (with_stack rest μ) x) (key (with_stack rest μ) y)

-- Both are strings.
abbrev pub HasStrings : Floo.Machine → Type 0
HasStrings μ = HasString 1 μ × HasString 0 μ

-- Whether they have the same current bytes.
pub record SameBytes (m : Machine) (s c : List ℕ) (r : Bool) : Type 0 where
  pub says : (e d l : List ℕ) (μ : Floo.Machine)
      → Rep m s e d c l μ
      → (i j : ℕ)
      → get_or μ.stack 1 null ≡ string i
      → get_or μ.stack 0 null ≡ string j
      → r ≡ same (current (bytes_of (object μ i))) (current (bytes_of (object μ j)))

-- They give way to a truth value.
unfoldable pub answered : Bool → Floo.Machine → Floo.Machine
answered b μ = push (boolean b) (dropped (dropped μ))

-- ---- eq, or ne where the answer is negated

unfoldable pub name_of : Bool → List ℕ
name_of false = bytes "eq"
name_of true = bytes "ne"

unfoldable pub turned_by : Bool → Bool → Bool
turned_by false b = b
turned_by true b = not b
