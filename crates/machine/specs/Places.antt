-- Root places: the stack's items, the execution slots, the dictionary's bindings and the handlers, and the value in each.
-- Assumes nothing.
use Rattle.std.specs.Prelude.{Bool, true, false, List, [], ◌∷◌, map, ℕ, zero, suc, ◌/◌, ◌%◌, length, T}
use Rattle.std.proofs.Math.Option.{Option, none, some}
use Rattle.semantics.specs.Values.{Value, integer, boolean, null, mark, operator, name, string, array}
use Rattle.semantics.specs.SlotLaws.{keys_of}
use Rattle.semantics.specs.Machine.{Machine, Frame, pending, running, looping, repeating, counting, Slot}
use Rattle.heap.specs.Upd.{upd}
use Rattle.store.specs.Rep.{is_text}

-- ---- values that name no object

abbrev pub is_object : Value → Bool
is_object (integer w) = false
is_object (boolean b) = false
is_object null = false
is_object mark = false
is_object (operator o) = false
is_object (name x n) = false
is_object (string i) = true
is_object (array x i) = true

pub record Nameless (v : Value) : Type 0 where
  pub none : T (is_object v) → ⊥

-- ---- the value in each place

-- What is in a list that grows at its front, by the place from its end; the value `none` past it.
unfoldable pub from_end : {A : Type 0} → (A → Value) → List A → ℕ → Value
from_end f [] = λ i. null
from_end f (a ∷ l) = upd (from_end f l) (length l) (f a)

-- The value that an execution slot names.
abbrev pub frame_value : Frame → Value
frame_value (pending v) = v
frame_value (running i k) = array true i
frame_value (looping b) = b
frame_value (repeating n b) = b
frame_value (counting n i f b) = b

abbrev pub bound : Option Value → Value
bound none = null
bound (some v) = v

unfoldable pub binding_at : List Slot → ℕ → Value
binding_at [] i = null
binding_at (s ∷ d) zero = bound s.binding
binding_at (s ∷ d) (suc i) = binding_at d i

-- Root place 4 i is stack item i from the bottom, 4 i + 1 execution slot i, 4 i + 2 the binding of dictionary slot i, 4 i + 3 the handler of error i.
unfoldable pub root_in : Machine → ℕ → ℕ → Value
root_in σ zero i = from_end (λ v. v) σ.stack i
root_in σ (suc zero) i = from_end frame_value σ.exec i
root_in σ (suc (suc zero)) i = binding_at σ.dictionary i
root_in σ (suc (suc (suc zero))) i = binding_at σ.handlers i
root_in σ (suc (suc (suc (suc k)))) i = null

unfoldable pub roots : Machine → ℕ → Value
roots σ r = root_in σ (r % 4) (r / 4)

-- Room for 512 of each.
abbrev pub root_count : ℕ
root_count = 2048

abbrev pub keys : Machine → List (List ℕ)
keys σ = keys_of σ.dictionary

abbrev pub texts : Machine → List Bool
texts σ = map is_text σ.store
