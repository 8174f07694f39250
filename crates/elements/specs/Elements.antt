-- What the primitives on elements and bytes do to a machine of the definition, and what they ask of it. Items are counted from the top, from 0.
-- Assumes nothing.
use Rattle.std.specs.Prelude.{◌≡◌, Bool, true, false, List, ℕ, ◌+◌, ◌-◌, ◌*◌, ◌<◌, length, get_or, set, replicate}
use Rattle.semantics.specs.Values.{Value, integer, boolean, null, mark, operator, name, string, array, Object, elements, text, ok, object_id}
use Rattle.semantics.specs.Machine as Floo
use Rattle.semantics.specs.Machine.{with_stack, object, elements_of, bytes_of, make, made, change, member, protect}
use Rattle.heap.specs.Chain.{live}
use Rattle.heap.specs.Grow.{Made}
use Rattle.heap.specs.Shape.{Ghost, Shape, cells}
use Rattle.store.specs.Rep.{is_text, object_at}
use Rattle.machine.specs.Places.{Nameless}
use Rattle.machine.specs.Rep.{Rep, World}
use Rattle.machine.specs.declared.Machine.{Machine}

-- ---- what items are

-- The tag of a value.
unfoldable pub tag_of : Value → ℕ
tag_of null = 0
tag_of (integer w) = 1
tag_of (boolean b) = 2
tag_of mark = 3
tag_of (operator o) = 4
tag_of (name false n) = 5
tag_of (name true n) = 6
tag_of (string i) = 8
tag_of (array false i) = 9
tag_of (array true i) = 10

-- The object that a value names.
unfoldable pub named : Value → ℕ
named (integer w) = 0
named (boolean b) = 0
named null = 0
named mark = 0
named (operator o) = 0
named (name x n) = 0
named (string i) = i
named (array x i) = i

-- The object that item i names.
unfoldable pub item_id : ℕ → Floo.Machine → ℕ
item_id i μ = named (get_or μ.stack i null)

-- Item i is an array or a procedure.
pub record HasArray (i : ℕ) (μ : Floo.Machine) : Type 0 where
  pub executable : Bool
  pub id : ℕ
  pub item : get_or μ.stack i null ≡ array executable id

-- It has an element q.
pub record HasElement (i q : ℕ) (μ : Floo.Machine) : Type 0 where
  pub array : HasArray i μ
  pub inside : q < length (elements_of (object μ array.id))

-- Item i is a string.
pub record HasString (i : ℕ) (μ : Floo.Machine) : Type 0 where
  pub id : ℕ
  pub item : get_or μ.stack i null ≡ string id

-- It has a byte q.
pub record HasByte (i q : ℕ) (μ : Floo.Machine) : Type 0 where
  pub string : HasString i μ
  pub inside : q < length (bytes_of (object μ string.id))

-- Item i is an array or a string.
pub record HasObject (i : ℕ) (μ : Floo.Machine) : Type 0 where
  pub id : ℕ
  pub item : object_id (get_or μ.stack i null) ≡ ok id

-- Item i names no object.
abbrev pub HasPlain : ℕ → Floo.Machine → Type 0
HasPlain i μ = Nameless (get_or μ.stack i null)

-- How many cells are free.
abbrev pub free_cells : Machine → List ℕ → ℕ
free_cells m c = m.lists.listed + (cells c - m.lists.edge)

-- The words stand for some machine of which P holds.
abbrev pub SomewhereThat : (Floo.Machine → Type 0) → Machine → List ℕ → List ℕ → Type 0
SomewhereThat P m s c = (e : List ℕ) × (d : List ℕ) × (l : List ℕ) × (μ : Floo.Machine) × Rep m s e d c l μ × P μ

-- ---- what is read

-- The tag of item i.
pub record ItemTag (i : ℕ) (m : Machine) (s : List ℕ) (r : ℕ) : Type 0 where
  pub says : (e d c l : List ℕ) (μ : Floo.Machine) → Rep m s e d c l μ → r ≡ tag_of (get_or μ.stack i null)

-- How many elements item i has.
pub record ArraySize (i : ℕ) (m : Machine) (s c : List ℕ) (r : ℕ) : Type 0 where
  pub says : (e d l : List ℕ) (μ : Floo.Machine)
      → Rep m s e d c l μ
      → (x : Bool) (id : ℕ)
      → get_or μ.stack i null ≡ array x id
      → r ≡ length (elements_of (object μ id))

-- How many bytes item i has room for.
pub record StringSize (i : ℕ) (m : Machine) (s c : List ℕ) (r : ℕ) : Type 0 where
  pub says : (e d l : List ℕ) (μ : Floo.Machine)
      → Rep m s e d c l μ
      → (id : ℕ)
      → get_or μ.stack i null ≡ string id
      → r ≡ length (bytes_of (object μ id))

-- Byte q of item i.
pub record ByteOf (i q : ℕ) (m : Machine) (s c : List ℕ) (r : ℕ) : Type 0 where
  pub says : (e d l : List ℕ) (μ : Floo.Machine)
      → Rep m s e d c l μ
      → (id : ℕ)
      → get_or μ.stack i null ≡ string id
      → r ≡ get_or (bytes_of (object μ id)) q 0

-- Whether item i is read only.
pub record ItemSealed (i : ℕ) (m : Machine) (s c : List ℕ) (r : Bool) : Type 0 where
  pub says : (e d l : List ℕ) (μ : Floo.Machine)
      → Rep m s e d c l μ
      → (id : ℕ)
      → object_id (get_or μ.stack i null) ≡ ok id
      → r ≡ member id μ.read_only

-- ---- what is done

-- Item i is read only.
unfoldable pub item_sealed : ℕ → Floo.Machine → Floo.Machine
item_sealed i μ = protect (item_id i μ) μ

-- Item j gives way to a copy of element q of item i.
unfoldable pub element_copied : ℕ → ℕ → ℕ → Floo.Machine → Floo.Machine
element_copied i q j μ = with_stack (set μ.stack j (get_or (elements_of (object μ (item_id i μ))) q null)) μ

-- Element q of item i becomes a copy of item j.
unfoldable pub element_put : ℕ → ℕ → ℕ → Floo.Machine → Floo.Machine
element_put i q j μ =
    change (item_id i μ) (elements (set (elements_of (object μ (item_id i μ))) q (get_or μ.stack j null))) μ

-- Byte q of item i becomes b.
unfoldable pub byte_put : ℕ → ℕ → ℕ → Floo.Machine → Floo.Machine
byte_put i q b μ = change (item_id i μ) (text (set (bytes_of (object μ (item_id i μ))) q b)) μ

-- Item i gives way to a new array of n nulls.
unfoldable pub array_made : ℕ → ℕ → Floo.Machine → Floo.Machine
array_made i n μ = with_stack (set μ.stack i (array false (made μ))) (make (elements (replicate n null)) μ)

-- Item i gives way to a new string, of n zeros.
unfoldable pub string_made : ℕ → ℕ → Floo.Machine → Floo.Machine
string_made i n μ = with_stack (set μ.stack i (string (made μ))) (make (text (replicate n 0)) μ)

-- Item i is a new object of header `header`, of this kind and size, by the words: no place but the item names it.
pub record MakesObject (i kind size tag : ℕ) (m r : Machine) (s s' c c' : List ℕ) : Type 0 where
  pub header : ℕ
  pub made : Made kind size header m.lists c r.lists c'
  pub none_dead : r.lists.dead ≡ m.lists.dead
  pub used : r.lists.listed + m.lists.edge + size + 1 ≡ m.lists.listed + r.lists.edge
  pub words : s' ≡ set (set s (2 * (m.depth - 1 - i)) tag) (2 * (m.depth - 1 - i) + 1) header
  pub rest : r ≡ record { depth = m.depth; frames = m.frames; names = m.names; written = m.written; lists = r.lists; stopped = m.stopped }

-- ---- by header

-- Header h stands for the string id.
pub record IsString (w : World) (store : List Object) (h id : ℕ) : Type 0 where
  pub lives : w.ghost.own h ≡ live
  pub stands : w.ρ h ≡ id
  pub kind : is_text (object_at store id) ≡ true

-- Header h lives, and has a body cell q.
abbrev pub HasCell : List ℕ → ℕ → ℕ → Type 0
HasCell c h q = (g : Ghost) × (n : ℕ) × Shape g n c × (g.own h ≡ live) × (q < g.size (h + 2))

-- Byte q of the string id becomes b.
unfoldable pub byte_set : ℕ → ℕ → ℕ → Floo.Machine → Floo.Machine
byte_set id q b μ = change id (text (set (bytes_of (object μ id)) q b)) μ

-- Byte q of the string with header h becomes b, and each header stands for what it stood for.
pub record PutsByte (h q b : ℕ) (c c' : List ℕ) : Type 0 where
  pub puts : {m : Machine} {s e d l : List ℕ} {μ : Floo.Machine} (R : Rep m s e d c l μ) (id : ℕ)
      → IsString R.world μ.store h id
      → q < length (bytes_of (object μ id))
      → (R' : Rep m s e d c' l (byte_set id q b μ)) × (R'.world ≡ R.world)
