-- What the runner's own state shows at one moment of a run, and when that is what the definition holds (01, Room): which cells are free, which cells each
-- object there has, and its stored count; "The held objects match the runner's one to one, in kind and in length or maximum; corresponding places name
-- matched objects. Each has its cells as above, none shared, together the occupied ones."
-- Assumes nothing.
use Rattle.std.specs.Prelude.{◌≡◌, List, map, reverse, ◌↔◌, ℕ, ◌+◌, ◌*◌, ◌≤◌, ◌<◌, length, get_or}
use Rattle.semantics.specs.Sizes.{error_count}
use Rattle.semantics.specs.Values.{Value, null}
use Rattle.semantics.specs.Machine as Floo
use Rattle.semantics.specs.Held.{held_cells}
use Rattle.heap.specs.Word.{word}
use Rattle.heap.specs.Shape.{first_object}
use Rattle.heap.specs.Reading.{◌∈◌, occupied, headers, kind_of, body_size, Exact}
use Rattle.store.specs.Rep.{Names}
use Rattle.store.specs.Matching.{place, Matches}
use Rattle.machine.specs.Places.{frame_value, bound}
use Rattle.machine.specs.declared.Machine.{Machine}

-- The runner's own state: the small state and the lent buffers.
pub record Snapshot : Type 0 where
  pub machine : Machine
  pub stack : List ℕ
  pub exec : List ℕ
  pub dict : List ℕ
  pub cells : List ℕ
  pub log : List ℕ

-- The objects that are there, by their headers.
abbrev pub objects : Snapshot → List ℕ
objects x = headers x.machine.lists x.cells

-- ---- places

-- Two words, tag and payload, name the object of header h.
abbrev pub WordsName : ℕ → ℕ → ℕ → Type 0
WordsName tag payload h = (first_object ≤ tag) × (payload ≡ h)

-- If they name anything, it is one of these objects.
abbrev pub NoOther : List ℕ → ℕ → ℕ → Type 0
NoOther hs tag payload = first_object ≤ tag → payload ∈ hs

-- n slots of `width` words, with the tag at word `first` of a slot and the payload at word `second`, and the values that the definition has in these places:
-- a slot names an object exactly where the value names the matched one.
pub record Corresponds (ρ : ℕ → ℕ) (hs : List ℕ) (words : List ℕ) (width first second n : ℕ) (values : List Value) : Type 0 where
  pub many : n ≡ length values
  pub named : (i h : ℕ) → i < n → h ∈ hs
      → WordsName (get_or words (width * i + first) 0) (get_or words (width * i + second) 0) h ↔ Names (get_or values i null) (ρ h)
  pub only : (i : ℕ) → i < n → NoOther hs (get_or words (width * i + first) 0) (get_or words (width * i + second) 0)

-- ---- what a snapshot shows

-- ρ leads from a header to the number of the object that it stands for.
pub record Shows (μ : Floo.Machine) (x : Snapshot) : Type 0 where
  pub ρ : ℕ → ℕ
  -- each object has its own cells, none shared, together the occupied ones
  pub exact : Exact x.machine.lists x.cells
  -- the objects are those held, one to one, in kind and in length or maximum, each with its cells and its stored count; an array's cells name what its
  -- elements name
  pub matches : Matches ρ μ x.machine.lists x.cells
  pub elements : (h q : ℕ) → h ∈ objects x → kind_of x.cells h ≡ 0 → q < body_size x.cells h
      → NoOther (objects x) (word x.cells (place x.cells h q) 0) (word x.cells (place x.cells h q) 1)
  -- so do stack items, execution slots and bindings, both stacks from the bottom, and handlers: "a handler is a place in the counts of demand 3 as a dictionary
  -- slot is" (02, W1). There is a row for each error, and its handler is in the last words of two dictionary slots.
  pub items : Corresponds ρ (objects x) x.stack 2 0 1 x.machine.depth (reverse μ.stack)
  pub frames : Corresponds ρ (objects x) x.exec 8 1 2 x.machine.frames (reverse (map frame_value μ.exec))
  pub bindings : Corresponds ρ (objects x) x.dict 12 9 10 x.machine.names (map (λ (s : Floo.Slot). bound s.binding) μ.dictionary)
  pub handlers : Corresponds ρ (objects x) x.dict 36 11 23 error_count (map (λ (s : Floo.Slot). bound s.binding) μ.handlers)
  -- how many cells are occupied
  pub taken : length (occupied x.machine.lists x.cells) ≡ held_cells μ
