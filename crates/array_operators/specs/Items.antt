-- What the parts of the operators on arrays and strings read of items, and what they do to a machine of the definition. Items are counted from the top, from 0.
-- Assumes nothing.
use Rattle.std.specs.Prelude.{◌≡◌, false, List, ◌∷◌, ◌++◌, reverse, ℕ, ◌-◌, ◌≤◌, length, get_or, take, drop, Option, Some, None, Ok, Err}
use Rattle.semantics.specs.Values.{Value, integer, null, mark, elements, Result, ok, fault, ◌>>=◌, int, object_id}
use Rattle.semantics.specs.Machine as Floo
use Rattle.semantics.specs.Machine.{with_stack, pop1, object, elements_of, change}
use Rattle.semantics.specs.ObjectOperators.{new_length, is_mark, length_of}
use Rattle.semantics.specs.ListLaws.{All}
use Rattle.machine.specs.Rep.{Rep}
use Rattle.machine.specs.declared.Machine.{Machine}
use Rattle.machine.specs.Answers.{OneInt}
use Rattle.elements.specs.Elements.{item_id, HasArray, ItemTag}

-- ---- the operand of array and string

-- What array and string do: a length is taken, and then something done with it.
unfoldable pub on_length : (ℕ → Floo.Machine → Result Floo.Machine) → Floo.Machine → Result Floo.Machine
on_length k μ = do
  (x, τ) ← pop1 μ
  n ← new_length x
  k n τ

abbrev pub LengthIs : Floo.Machine → OneInt → Type 0
LengthIs μ (Err e) = (k : ℕ → Floo.Machine → Result Floo.Machine) → on_length k μ ≡ fault e
LengthIs μ (Ok n) = (rest : List Value) × (μ.stack ≡ integer n ∷ rest)

pub record FetchesLength (m : Machine) (s : List ℕ) (r : OneInt) : Type 0 where
  pub says : (e d c l : List ℕ) (μ : Floo.Machine) → Rep m s e d c l μ → LengthIs μ r

-- The length that an answer gives.
abbrev pub longest : OneInt → ℕ
longest (Err e) = 0
longest (Ok n) = n

-- ---- what items are

abbrev pub IntIs : Value → OneInt → Type 0
IntIs v (Err e) = int v ≡ fault e
IntIs v (Ok w) = v ≡ integer w

-- Item i as an integer, or what is wrong with it.
pub record ItemInt (i : ℕ) (m : Machine) (s : List ℕ) (r : OneInt) : Type 0 where
  pub says : (e d c l : List ℕ) (μ : Floo.Machine) → Rep m s e d c l μ → IntIs (get_or μ.stack i null) r

-- Item i is the integer n, an array, a string.
abbrev pub IntegerItem : ℕ → ℕ → Machine → List ℕ → Type 0
IntegerItem i n m s = ItemInt i m s (Ok n)

abbrev pub ArrayItem : ℕ → Machine → List ℕ → Type 0
ArrayItem i m s = (t : ℕ) × (9 ≤ t) × ItemTag i m s t

abbrev pub StringItem : ℕ → Machine → List ℕ → Type 0
StringItem i m s = ItemTag i m s 8

-- The length of item i.
pub record ItemLength (i : ℕ) (m : Machine) (s c : List ℕ) (r : ℕ) : Type 0 where
  pub says : (e d l : List ℕ) (μ : Floo.Machine)
      → Rep m s e d c l μ
      → (id : ℕ)
      → object_id (get_or μ.stack i null) ≡ ok id
      → r ≡ length_of (object μ id)

-- Item i is an array of at least n elements.
pub record HasFirst (i n : ℕ) (μ : Floo.Machine) : Type 0 where
  pub array : HasArray i μ
  pub inside : n ≤ length (elements_of (object μ array.id))

-- No item is a mark, or the first n are none and the next one is one.
abbrev pub MarkIs : Floo.Machine → Option ℕ → Type 0
MarkIs μ None = All (λ v. is_mark v ≡ false) μ.stack
MarkIs μ (Some n) = All (λ v. is_mark v ≡ false) (take n μ.stack) × (get_or μ.stack n null ≡ mark)

pub record MarkAbove (m : Machine) (s : List ℕ) (r : Option ℕ) : Type 0 where
  pub says : (e d c l : List ℕ) (μ : Floo.Machine) → Rep m s e d c l μ → MarkIs μ r

-- ---- what is done

-- The n topmost items go.
unfoldable pub popped : ℕ → Floo.Machine → Floo.Machine
popped n μ = with_stack (drop n μ.stack) μ

-- The first n elements of the array on top go below it, the first one lowest.
unfoldable pub spread_out : ℕ → Floo.Machine → Floo.Machine
spread_out n μ =
    with_stack (get_or μ.stack 0 null ∷ (reverse (take n (elements_of (object μ (item_id 0 μ)))) ++ drop 1 μ.stack)) μ

-- The first n elements of item i become copies of item from - 1 and the ones above it.
unfoldable pub items_put : ℕ → ℕ → ℕ → Floo.Machine → Floo.Machine
items_put i from n μ =
    change (item_id i μ)
    (elements (reverse (take n (drop (from - n) μ.stack)) ++ drop n (elements_of (object μ (item_id i μ)))))
    μ
