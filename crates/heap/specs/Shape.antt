-- The cells as the words have them: the lists, the headers, the cells never used.
use Rattle.std.specs.Prelude.{ℕ, suc, ◌+◌, ◌/◌, ◌%◌, ◌^◌, ◌≤◌, ◌<◌, ◌≡◌, Bool, true, false, List, ◌⊎◌, length, eqb, leb, ltb}
use Rattle.heap.specs.Word.{word}
use Rattle.heap.specs.Upd.{pick, upd, total}
use Rattle.heap.specs.Chain.{Owner, fresh, live, out, on, Chains}
use Rattle.heap.specs.declared.Lists.{Lists}

abbrev pub cells : List ℕ → ℕ
cells m = length m / 4

abbrev pub is_head : Owner → Bool
is_head fresh = false
is_head live = true
is_head out = false
is_head (on s k) = eqb s 1

abbrev pub is_body : Owner → Bool
is_body fresh = false
is_body live = false
is_body out = false
is_body (on s k) = ltb 1 s

-- a cell of an object in use or dead, but for a dead header
abbrev pub is_object : Owner → Bool
is_object fresh = false
is_object live = true
is_object out = false
is_object (on s k) = ltb 1 s

abbrev pub is_fresh : Owner → Bool
is_fresh fresh = true
is_fresh live = false
is_fresh out = false
is_fresh (on s k) = false

-- 1 if it is on list t
abbrev pub is_on : ℕ → Owner → ℕ
is_on t fresh = 0
is_on t live = 0
is_on t out = 0
is_on t (on s k) = pick (eqb s t) 1 0

-- what owns each cell; the first cell and the number of cells of each list; what each place names: 0 nothing, h + 1 the object
-- of header h. A place is a cell, or a number from the number of cells on.
pub record Ghost : Type 0 where
  pub own : ℕ → Owner
  pub top : ℕ → ℕ
  pub size : ℕ → ℕ
  pub aim : ℕ → ℕ

-- a header's word 3 has it, and no other cell's that is on a list of body cells or of free cells
abbrev pub header_mark : ℕ
header_mark = 2 ^ 31

-- a header's word 3 modulo it is its body's first cell, and a header's word 1 modulo the other its body's size; what is above has its own uses: a header's word 1
-- in units of it is odd where its object is read only
abbrev pub first_unit : ℕ
first_unit = 32768

abbrev pub size_unit : ℕ
size_unit = 65536

-- a header's word 1 in units of it is odd where the cells of its body do not stand side by side
abbrev pub scattered : ℕ
scattered = 131072

-- a header's words 1 and 3 have its body's size and first cell in their lower parts, and word 3 has the mark; what is no header has no body
abbrev pub Header : Bool → ℕ → ℕ → ℕ → ℕ → Type 0
Header true size top w1 w3 = (w1 % size_unit ≡ size) × (w3 % first_unit ≡ top) × (header_mark ≤ w3)
Header false size top w1 w3 = size ≡ 0

-- a skip word packs a cell and its rank
abbrev pub rank_unit : ℕ
rank_unit = 65536

-- the skip word w leads from a cell of list s to one that has at most k cells below it
pub record Skip (own : ℕ → Owner) (s k w : ℕ) : Type 0 where
  pub lands : own (w % rank_unit) ≡ on s (w / rank_unit)
  pub lower : w / rank_unit ≤ k

-- the lists, the headers, the skip words (word 3 of each body cell but the last), no mark in a cell on a list but for dead headers, and the cells
-- from e on, which were never used. Where a live header's word 1 does not say that they are scattered, the cells of its body stand side by side, the first
-- one last
pub record Shape (g : Ghost) (e : ℕ) (m : List ℕ) : Type 0 where
  pub chains : Chains g.own g.top g.size (λ c. word m c 2)
  pub few : cells m ≤ 32768
  pub within : e ≤ cells m
  pub low : (c : ℕ) → is_fresh (g.own c) ≡ leb e c
  pub header : (h : ℕ) → Header (is_head (g.own h)) (g.size (h + 2)) (g.top (h + 2)) (word m h 1) (word m h 3)
  pub counted : (t : ℕ) → total (λ c. is_on t (g.own c)) (cells m) ≡ g.size t
  pub skips : (c s k : ℕ) → 2 ≤ s → g.own c ≡ on s (suc k) → Skip g.own s k (word m c 3)
  pub plain : (c s k : ℕ) → (s ≡ 1 → ⊥) → g.own c ≡ on s k → word m c 3 < header_mark
  pub side : (h c k : ℕ) → g.own h ≡ live → word m h 1 / scattered % 2 ≡ 0 → g.own c ≡ on (h + 2) k → c + g.size (h + 2) ≡ g.top (h + 2) + suc k

-- the same, with the lists that s holds
pub record Heap (g : Ghost) (s : Lists) (m : List ℕ) : Type 0 where
  pub shape : Shape g s.edge m
  pub free : g.top 0 ≡ s.free
  pub listed : g.size 0 ≡ s.listed
  pub work : g.top 1 ≡ s.work
  pub dead : g.size 1 ≡ s.dead

-- is it h that t names?
abbrev pub is : ℕ → ℕ → ℕ
is h t = pick (eqb t (suc h)) 1 0

-- a tag from it on says that the payload is a header; below it are plain values
abbrev pub first_object : ℕ
first_object = 8

-- what a body cell names: an array's header has kind 0, and the payload of a tag from the first object's on is a header
unfoldable pub target : ℕ → ℕ → ℕ → ℕ
target kind tag pay = pick (eqb kind 0) (pick (leb first_object tag) (suc pay) 0) 0

-- the counts: of places below p that name h, with the one in hand
pub record Counts (g : Ghost) (p hand : ℕ) (m : List ℕ) : Type 0 where
  pub places : (cells m ≤ p) × (p ≤ 65536)
  pub aimed : (x h : ℕ) → x < p → g.aim x ≡ suc h → g.own h ≡ live
  pub held : (h : ℕ) → hand ≡ suc h → g.own h ≡ live
  pub count : (h : ℕ) → g.own h ≡ live → word m h 2 ≡ total (λ x. is h (g.aim x)) p + is h hand
  pub some : (h : ℕ) → g.own h ≡ live → 1 ≤ word m h 2
  pub body : (c a k : ℕ) → g.own c ≡ on (a + 2) k → g.aim c ≡ target (word m a 0) (word m c 0) (word m c 1)
  pub other : (c : ℕ) → c < cells m → is_body (g.own c) ≡ false → g.aim c ≡ 0

pub record Full (g : Ghost) (p hand : ℕ) (s : Lists) (m : List ℕ) : Type 0 where
  pub heap : Heap g s m
  pub counts : Counts g p hand m

-- the cell c goes on list t
abbrev pub pushed : Ghost → ℕ → ℕ → Ghost
pushed g t c = record { own = upd g.own c (on t (g.size t)); top = upd g.top t c; size = upd g.size t (suc (g.size t)); aim = g.aim }

-- the first cell of list t, which has n + 1, comes off; the next one is d
abbrev pub popped : Ghost → ℕ → ℕ → ℕ → Ghost
popped g t n d = record { own = upd g.own (g.top t) out; top = upd g.top t d; size = upd g.size t n; aim = g.aim }

-- the place x names nothing
abbrev pub emptied : Ghost → ℕ → Ghost
emptied g x = record { own = g.own; top = g.top; size = g.size; aim = upd g.aim x 0 }

-- no cell is out of the lists; none but c
abbrev pub NoOut : Ghost → Type 0
NoOut g = (x : ℕ) → g.own x ≡ out → ⊥

abbrev pub OnlyOut : Ghost → ℕ → Type 0
OnlyOut g c = (x : ℕ) → g.own x ≡ out → x ≡ c

-- no object: every cell fresh, and no place names anything
abbrev pub blank : Ghost
blank = record { own = λ _. fresh; top = λ _. 0; size = λ _. 0; aim = λ _. 0 }

-- with the lists s and any words, of at most 32768 cells, the heap has no object; p says how many places there are
abbrev pub Empty : Lists → Type 0
Empty s = (m : List ℕ) (p : ℕ) → cells m ≤ 32768 → cells m ≤ p → p ≤ 65536 → Full blank p 0 s m × NoOut blank

-- of the words, word 3 of headers may change above the first cell and below the mark, and word 3 of cells that are on no list
pub record Scratch (g : Ghost) (m m' : List ℕ) : Type 0 where
  pub size : length m' ≡ length m
  pub there : (x u : ℕ) → u < 4 → (u ≡ 3 → ⊥) → word m' x u ≡ word m x u
  pub aside : (x s k : ℕ) → (s ≡ 1 → ⊥) → g.own x ≡ on s k → word m' x 3 ≡ word m x 3
  pub first : (h : ℕ) → is_head (g.own h) ≡ true → (word m' h 3 % first_unit ≡ word m h 3 % first_unit) × (header_mark ≤ word m' h 3)

-- one step of a release, from g and m to g' and m': objects die when no place names them, and what lives stays as it is
pub record Step (p : ℕ) (g : Ghost) (m : List ℕ) (g' : Ghost) (m' : List ℕ) : Type 0 where
  pub alive : (h : ℕ) → g'.own h ≡ live → (g.own h ≡ live) × (g'.size (h + 2) ≡ g.size (h + 2)) × (word m' h 0 ≡ word m h 0) × (word m' h 1 ≡ word m h 1) × (word m' h 3 ≡ word m h 3)
  pub body : (c a k : ℕ) → g'.own c ≡ on (a + 2) k → (g.own c ≡ on (a + 2) k) × (g'.aim c ≡ g.aim c) × (word m' c 0 ≡ word m c 0) × (word m' c 1 ≡ word m c 1)
  pub kept : (c a k : ℕ) → g.own c ≡ on (a + 2) k → g.own a ≡ live → g'.own c ≡ on (a + 2) k
  pub roots : (x : ℕ) → cells m ≤ x → g'.aim x ≡ g.aim x
  pub dies : (h : ℕ) → g.own h ≡ live → (g'.own h ≡ live) ⊎ ((x : ℕ) → x < p → g'.aim x ≡ suc h → ⊥)
  pub long : length m' ≡ length m
