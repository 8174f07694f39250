-- The objects that the heap's words show, as its Reading has them, against those that the definition holds (01, Room): "The held objects match the
-- runner's one to one, in kind and in length or maximum; corresponding places name matched objects. Each has its cells as above".
-- Assumes nothing.
use Rattle.std.specs.Prelude.{◌≡◌, List, ◌↔◌, ℕ, suc, ◌+◌, ◌/◌, ◌≤◌, ◌<◌, length, get_or, eqb}
use Rattle.semantics.specs.Values.{Object, elements, text, cells}
use Rattle.semantics.specs.Machine.{Machine, object, member}
use Rattle.semantics.specs.Held.{held, named_by, sum_of}
use Rattle.semantics.specs.HeldLaws.{◌∈◌ as ◌∈held◌}
use Rattle.heap.specs.Word.{word}
use Rattle.heap.specs.Upd.{pick}
use Rattle.heap.specs.Shape.{first_object}
use Rattle.heap.specs.Reading.{◌∈◌, headers, cells_of, count_of, kind_of, body_size, is_sealed}
use Rattle.heap.specs.declared.Lists.{Lists}
use Rattle.store.specs.Rep.{Names, element}

-- How often i stands in a list.
abbrev pub times : ℕ → List ℕ → ℕ
times i l = sum_of (λ k. pick (eqb k i) 1 0) l

-- What a header says of its object: 0 of an array, 1 and the maximum of a string.
unfoldable pub kind : Object → ℕ
kind (elements vs) = 0
kind (text bs) = suc (length bs)

-- How many cells the object takes besides the header: one for each element, or for each eight bytes.
unfoldable pub body : Object → ℕ
body (elements vs) = length vs
body (text bs) = (length bs + 7) / 8

-- Cell q of the body of h.
unfoldable pub place : List ℕ → ℕ → ℕ → ℕ
place m h q = get_or (cells_of m h) (suc q) 0

-- ρ leads from a header to the number of the object that it stands for.
pub record Matches (ρ : ℕ → ℕ) (μ : Machine) (s : Lists) (m : List ℕ) : Type 0 where
  -- one to one
  pub holds : (h : ℕ) → h ∈ headers s m → ρ h ∈held held μ
  pub shown : (i : ℕ) → i ∈held held μ → (h : ℕ) × (h ∈ headers s m) × (ρ h ≡ i)
  pub one : (h i : ℕ) → h ∈ headers s m → i ∈ headers s m → ρ h ≡ ρ i → h ≡ i
  -- in kind, and in length or maximum
  pub kinds : (h : ℕ) → h ∈ headers s m → kind_of m h ≡ kind (object μ (ρ h))
  pub lengths : (h : ℕ) → h ∈ headers s m → body_size m h ≡ body (object μ (ρ h))
  -- the mark for read only is on the objects that carry it (02, W7)
  pub marks : (h : ℕ) → h ∈ headers s m → is_sealed m h ≡ member (ρ h) μ.read_only
  -- an array's cells name what its elements name
  pub places : (h q i : ℕ) → h ∈ headers s m → kind_of m h ≡ 0 → q < body_size m h → i ∈ headers s m
      → ((first_object ≤ word m (place m h q) 0) × (word m (place m h q) 1 ≡ i)) ↔ Names (element μ.store (ρ h) q) (ρ i)
  -- the cells of each, and the places that name it
  pub takes : (h : ℕ) → h ∈ headers s m → length (cells_of m h) ≡ cells (object μ (ρ h))
  pub counts : (h : ℕ) → h ∈ headers s m → count_of m h ≡ times (ρ h) (named_by μ (held μ))
