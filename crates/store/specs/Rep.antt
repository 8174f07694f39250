-- What cells and root slots stand for: values and objects of the definition. An object of the definition is named by its number, an object
-- of the heap by its header; ρ leads from a header to the number.
-- Assumes nothing.
use Rattle.std.specs.Prelude.{◌≡◌, Bool, true, false, List, [], map, ◌⊎◌, ℕ, suc, ◌+◌, ◌-◌, ◌*◌, ◌/◌, ◌%◌, ◌^◌, ◌<◌, length, get_or}
use Rattle.std.proofs.Math.Option.{some}
use Rattle.std.proofs.Math.ListN.{get_elem?}
use Rattle.semantics.specs.Values.{Value, integer, boolean, null, mark, operator, name, string, array, Object, elements, text}
use Rattle.semantics.specs.Machine.{elements_of, bytes_of, member}
use Rattle.semantics.specs.Operators.{Entry, table}
use Rattle.semantics.specs.MarkLaws.{Below}
use Rattle.heap.specs.Word.{word}
use Rattle.heap.specs.Chain.{live, on}
use Rattle.heap.specs.Shape.{Ghost, cells}
use Rattle.heap.specs.Reading.{is_sealed}

-- ---- values

-- The names of the operators, by their numbers.
unfoldable pub titles : List (List ℕ)
titles = map (λ (e : Entry). e.title) table

-- Which objects are strings.
abbrev pub is_text : Object → Bool
is_text (elements vs) = false
is_text (text bs) = true

abbrev pub bit : Bool → ℕ
bit true = 1
bit false = 0

-- The two words of a value, tag and payload: bits, a truth value, an operator's number, a name's slot, or an object's header. `keys` are the
-- names that have slots, `texts` says of each made object whether it is a string.
pub data Stands (keys : List (List ℕ)) (texts : List Bool) (ρ : ℕ → ℕ) : Value → ℕ → ℕ → Type 0 where
  a_null : {q : ℕ} → Stands keys texts ρ null 0 q
  an_integer : {w : ℕ} → Stands keys texts ρ (integer w) 1 w
  a_boolean : {b : Bool} → Stands keys texts ρ (boolean b) 2 (bit b)
  a_mark : {q : ℕ} → Stands keys texts ρ mark 3 q
  an_operator : {o : List ℕ} {q : ℕ} → get_elem? titles q ≡ some o → Stands keys texts ρ (operator o) 4 q
  a_literal : {n : List ℕ} {q : ℕ} → get_elem? keys q ≡ some n → Stands keys texts ρ (name false n) 5 q
  an_executable : {n : List ℕ} {q : ℕ} → get_elem? keys q ≡ some n → Stands keys texts ρ (name true n) 6 q
  a_string : {i q : ℕ} → ρ q ≡ i → get_elem? texts i ≡ some true → Stands keys texts ρ (string i) 8 q
  an_array : {i q : ℕ} → ρ q ≡ i → get_elem? texts i ≡ some false → Stands keys texts ρ (array false i) 9 q
  a_procedure : {i q : ℕ} → ρ q ≡ i → get_elem? texts i ≡ some false → Stands keys texts ρ (array true i) 10 q

-- The object that a value names.
pub data Names : Value → ℕ → Type 0 where
  by_string : {i : ℕ} → Names (string i) i
  by_array : {x : Bool} {i : ℕ} → Names (array x i) i

-- ---- objects

-- Object j; nothing where there is none.
abbrev pub object_at : List Object → ℕ → Object
object_at store j = get_or store j (elements [])

-- Element q of object j; null where there is none.
abbrev pub element : List Object → ℕ → ℕ → Value
element store j q = get_or (elements_of (object_at store j)) q null

-- Byte j of a word, four to a word, the lowest first.
abbrev pub byte_of : ℕ → ℕ → ℕ
byte_of w j = w / 2 ^ (8 * j) % 256

-- The word with b for its byte j.
abbrev pub with_byte : ℕ → ℕ → ℕ → ℕ
with_byte w j b = w - byte_of w j * 2 ^ (8 * j) + b * 2 ^ (8 * j)

-- ---- dead and alive

-- No root names i, and each object that names it is dead.
pub data Dead (store : List Object) (roots : ℕ → Value) : ℕ → Type 0 where
  dead : {i : ℕ}
      → ((r : ℕ) → Names (roots r) i → ⊥)
      → ((j q : ℕ) → Names (element store j q) i → Dead store roots j)
      → Dead store roots i

-- A set of numbers, each of which a root or an element of a member names.
abbrev pub Supported : List Object → (ℕ → Value) → (ℕ → Type 0) → Type 0
Supported store roots S =
    (i : ℕ) → S i → ((r : ℕ) × Names (roots r) i) ⊎ ((j : ℕ) × (q : ℕ) × S j × Names (element store j q) i)

-- A live header stands for object i.
abbrev pub Alive : (ℕ → ℕ) → Ghost → ℕ → Type 0
Alive ρ g i = (h : ℕ) × (g.own h ≡ live) × (ρ h ≡ i)

-- ---- the relation

-- The live headers stand for the objects that are not dead. `roots r` is the value in root place r, null where the place is empty; there are
-- n root places, and place r is number cells + r in the heap.
pub record Rep (keys : List (List ℕ)) (n : ℕ) (ρ : ℕ → ℕ) (g : Ghost) (m : List ℕ) (store : List Object) (roots : ℕ → Value) : Type 0 where
  pub id : (h : ℕ) → g.own h ≡ live → ρ h < length store
  pub one : (h i : ℕ) → g.own h ≡ live → g.own i ≡ live → ρ h ≡ ρ i → h ≡ i
  -- an array's word 0 is 0, and it has a body cell for each element
  pub array : (h : ℕ) → g.own h ≡ live → word m h 0 ≡ 0
      → (is_text (object_at store (ρ h)) ≡ false) × (length (elements_of (object_at store (ρ h))) ≡ g.size (h + 2))
  -- a string's word 0 is its maximum and 1, and it has a body cell for each eight bytes
  pub text : (h max : ℕ) → g.own h ≡ live → word m h 0 ≡ suc max
      → (is_text (object_at store (ρ h)) ≡ true) × (length (bytes_of (object_at store (ρ h))) ≡ max) × (g.size (h + 2) ≡ (max + 7) / 8)
  pub value : (c a k q : ℕ) → g.own c ≡ on (a + 2) k → g.own a ≡ live → word m a 0 ≡ 0 → g.size (a + 2) ≡ q + suc k
      → Stands keys (map is_text store) ρ (element store (ρ a) q) (word m c 0) (word m c 1)
  pub bytes : (c a k q max j : ℕ) → g.own c ≡ on (a + 2) k → g.own a ≡ live → word m a 0 ≡ suc max → g.size (a + 2) ≡ q + suc k
      → j < 8 → q * 8 + j < max
      → byte_of (word m c (j / 4)) (j % 4) ≡ get_or (bytes_of (object_at store (ρ a))) (q * 8 + j) 0
  pub root : (r h : ℕ) → g.aim (cells m + r) ≡ suc h → Names (roots r) (ρ h)
  pub rooted : (r i : ℕ) → Names (roots r) i → (r < n) × ((h : ℕ) × (g.aim (cells m + r) ≡ suc h) × (ρ h ≡ i))
  pub every : (i : ℕ) → i < length store → Alive ρ g i ⊎ Dead store roots i

-- The objects `ids` are read only (02, W7): the live headers that have the mark stand for them, and each has been made.
pub record Sealed (ρ : ℕ → ℕ) (g : Ghost) (m : List ℕ) (store : List Object) (ids : List ℕ) : Type 0 where
  pub marks : (h : ℕ) → g.own h ≡ live → is_sealed m h ≡ member (ρ h) ids
  pub made : Below (length store) ids
