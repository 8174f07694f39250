-- An object gets the mark for read only.
use Rattle.std.specs.Prelude.{ℕ, ◌/◌, ◌%◌, ◌<◌, ◌≡◌, true, List, length}
use Rattle.heap.specs.Word.{word}
use Rattle.heap.specs.Shape.{size_unit, scattered}
use Rattle.heap.specs.Reading.{is_sealed}

-- the object of the header h has the mark, and its body's size, whether its cells are scattered, and every other word are as before
pub record Seals (m : List ℕ) (h : ℕ) (m' : List ℕ) : Type 0 where
  pub size : length m' ≡ length m
  pub marked : is_sealed m' h ≡ true
  pub lower : word m' h 1 % size_unit ≡ word m h 1 % size_unit
  pub upper : word m' h 1 / scattered ≡ word m h 1 / scattered
  pub there : (x u : ℕ) → u < 4 → (x ≡ h → u ≡ 1 → ⊥) → word m' x u ≡ word m x u
