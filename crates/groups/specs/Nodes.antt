-- A brace group taken apart, and what the definition makes of it: its elements' values, the objects and the names, all in reading order.
-- Assumes nothing.
use Rattle.std.specs.Prelude.{Bool, true, false, List, [], ◌∷◌, ◌++◌, ℕ, zero, suc, ◌+◌, length}
use Rattle.semantics.specs.Tokens.{Token}
use Rattle.semantics.specs.Values.{Value, integer, null, name, string, array, Object, elements, text, cells}
use Rattle.semantics.specs.Machine.{Machine, Slot, with_dictionary, with_store, with_read_only, made, change, slotted}
use Rattle.semantics.specs.Held.{sum_of}

-- The elements of a group.
pub data Nodes : Type 0 where
  end : Nodes
  leaf : Token → Nodes → Nodes  -- a number, a string or a name, and what follows it
  inner : Nodes → Nodes → Nodes  -- an inner group, and what follows it

-- ---- one token

abbrev pub is_leaf : Token → Bool
is_leaf (Token.integer w) = true
is_leaf (Token.string bs) = true
is_leaf (Token.name x n) = true
is_leaf Token.open_brace = false
is_leaf Token.close_brace = false
is_leaf Token.end = false

-- Its value, where k objects have been made before.
abbrev pub leaf_value : ℕ → Token → Value
leaf_value k (Token.integer w) = integer w
leaf_value k (Token.string bs) = string k
leaf_value k (Token.name x n) = name x n
leaf_value k Token.open_brace = null
leaf_value k Token.close_brace = null
leaf_value k Token.end = null

-- The object that it makes.
abbrev pub leaf_objects : Token → List Object
leaf_objects (Token.integer w) = []
leaf_objects (Token.string bs) = text bs ∷ []
leaf_objects (Token.name x n) = []
leaf_objects Token.open_brace = []
leaf_objects Token.close_brace = []
leaf_objects Token.end = []

-- The name that takes a slot.
abbrev pub leaf_names : Token → List (List ℕ)
leaf_names (Token.integer w) = []
leaf_names (Token.string bs) = []
leaf_names (Token.name x n) = n ∷ []
leaf_names Token.open_brace = []
leaf_names Token.close_brace = []
leaf_names Token.end = []

-- ---- a group

-- How many elements there are.
unfoldable pub count : Nodes → ℕ
count end = 0
count (leaf t ns) = suc (count ns)
count (inner ms ns) = suc (count ns)

-- How many objects are made, the group's own aside.
unfoldable pub objects : Nodes → ℕ
objects end = 0
objects (leaf t ns) = length (leaf_objects t) + objects ns
objects (inner ms ns) = suc (objects ms + objects ns)

-- The elements' values, where k objects have been made before.
unfoldable pub values : ℕ → Nodes → List Value
values k end = []
values k (leaf t ns) = leaf_value k t ∷ values (length (leaf_objects t) + k) ns
values k (inner ms ns) = array true k ∷ values (suc (objects ms + k)) ns

-- The objects that are made.
unfoldable pub news : ℕ → Nodes → List Object
news k end = []
news k (leaf t ns) = leaf_objects t ++ news (length (leaf_objects t) + k) ns
news k (inner ms ns) = elements (values (suc k) ms) ∷ (news (suc k) ms ++ news (suc (objects ms + k)) ns)

-- Their cells.
unfoldable pub wanted : Nodes → ℕ
wanted end = 0
wanted (leaf t ns) = sum_of cells (leaf_objects t) + wanted ns
wanted (inner ms ns) = (count ms + 1) + wanted ms + wanted ns

-- The names that take slots.
unfoldable pub names : Nodes → List (List ℕ)
names end = []
names (leaf t ns) = leaf_names t ++ names ns
names (inner ms ns) = names ms ++ names ns

unfoldable pub intern_all : List (List ℕ) → List Slot → List Slot
intern_all [] d = d
intern_all (n ∷ ns) d = intern_all ns (slotted n d)

-- k, k + 1, .. , n numbers
unfoldable pub up_from : ℕ → ℕ → List ℕ
up_from k zero = []
up_from k (suc n) = k ∷ up_from (suc k) n

-- The objects that are read only once the next n are too.
abbrev pub marked : ℕ → Machine → List ℕ
marked n m = m.read_only ++ up_from (made m) n

-- The machine with these names and objects, all of them read only.
unfoldable pub grown : Nodes → Machine → Machine
grown ns m = with_read_only (marked (objects ns) m) (with_dictionary (intern_all (names ns) m.dictionary) (with_store (m.store ++ news (made m) ns) m))

-- Object i is an array of these values.
unfoldable pub filled : ℕ → List Value → Machine → Machine
filled i vs m = change i (elements vs) m
