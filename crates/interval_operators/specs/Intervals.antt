-- What the parts of getinterval and putinterval read, ask and do, in terms of a machine of the definition. Items are counted from the top, from 0.
-- Assumes nothing.
use Rattle.std.specs.Prelude.{◌≡◌, List, ◌∷◌, ℕ, zero, suc, ◌+◌, ◌≤◌, length, get_or, set}
use Rattle.semantics.specs.Values.{Value, null, integer, elements}
use Rattle.semantics.specs.Machine as Floo
use Rattle.semantics.specs.Machine.{with_stack, object, elements_of, change}
use Rattle.machine.specs.Rep.{Rep}
use Rattle.machine.specs.Moves.{dropped, swapped}
use Rattle.machine.specs.declared.Machine.{Machine}
use Rattle.elements.specs.Elements.{ItemTag, HasArray, item_id}
use Rattle.strings.specs.Strings.{pasted}

-- ---- what is read

-- Item i is an array or a procedure.
abbrev pub ArrayItem : ℕ → Machine → List ℕ → Type 0
ArrayItem i m s = (t : ℕ) × (9 ≤ t) × ItemTag i m s t

-- The two topmost items are integers, b on top.
pub record Integers (a b : ℕ) (m : Machine) (s : List ℕ) : Type 0 where
  pub says : (e d c l : List ℕ) (μ : Floo.Machine) → Rep m s e d c l μ → (rest : List Value) × (μ.stack ≡ integer b ∷ integer a ∷ rest)

-- Item i, where it is an integer.
pub record ItemInteger (i : ℕ) (m : Machine) (s : List ℕ) (r : ℕ) : Type 0 where
  pub says : (e d c l : List ℕ) (μ : Floo.Machine) → Rep m s e d c l μ → (w : ℕ) → get_or μ.stack i null ≡ integer w → r ≡ w

-- ---- what is asked

-- Item i is an array, and has n elements from element q on.
pub record HasElements (i q n : ℕ) (μ : Floo.Machine) : Type 0 where
  pub array : HasArray i μ
  pub inside : q + n ≤ length (elements_of (object μ array.id))

-- There are n elements to copy, and room for them.
abbrev pub CopiesElements : ℕ → ℕ → ℕ → ℕ → ℕ → Floo.Machine → Type 0
CopiesElements to at from start n μ = HasElements to at n μ × HasElements from start n μ

-- ---- what is done

-- What is in item 1 after n elements have gone by way of it: the last one.
unfoldable pub last_of : Value → List Value → ℕ → ℕ → Value
last_of v source start zero = v
last_of v source start (suc k) = get_or source (start + k) null

-- Elements of item `from` are copied to item `to`, all read before any is written; the last one is in item 1.
unfoldable pub elements_copied : ℕ → ℕ → ℕ → ℕ → ℕ → Floo.Machine → Floo.Machine
elements_copied to at from start n μ =
    let old = elements_of (object μ (item_id to μ)) in
    let source = elements_of (object μ (item_id from μ)) in
    change (item_id to μ) (elements (pasted old at source start n)) (with_stack (set μ.stack 1 (last_of (get_or μ.stack 1 null) source start n)) μ)

unfoldable pub three_dropped : Floo.Machine → Floo.Machine
three_dropped μ = dropped (dropped (dropped μ))

-- The topmost item takes the place of the third, and all above it go.
unfoldable pub result_left : Floo.Machine → Floo.Machine
result_left μ = dropped (dropped (swapped 0 2 μ))
