-- The elements of a brace group put into the cells of its array.
-- Assumes nothing.
use Rattle.std.specs.Prelude.{◌≡◌, Bool, true, false, List, ℕ, suc, ◌+◌, ◌-◌, ◌≤◌, ◌<◌, length, take, drop}
use Rattle.semantics.specs.Sizes.{name_most, script_most}
use Rattle.semantics.specs.Tokens.{Token}
use Rattle.semantics.specs.Values.{integer, null, name, cells}
use Rattle.semantics.specs.Machine as Floo
use Rattle.semantics.specs.Machine.{elements_of, made}
use Rattle.semantics.specs.Groups.{skip}
use Rattle.semantics.specs.Held.{sum_of}
use Rattle.semantics.specs.ListLaws.{All}
use Rattle.heap.specs.Chain.{live, on}
use Rattle.heap.specs.Shape.{Ghost, Shape}
use Rattle.store.specs.Rep.{object_at, element}
use Rattle.machine.specs.Rep.{Rep}
use Rattle.machine.specs.declared.Machine.{Machine}
use Rattle.elements.specs.Elements.{free_cells}
use Rattle.strings.specs.Strings.{string_filled}
use Rattle.dictionary.specs.Names.{slot_of}
use Rattle.token.specs.Lexing.{Lexes}
use Rattle.token.specs.Strings.{StringAt}
use Rattle.token.specs.declared.Token as scanned
use Rattle.token.specs.declared.Token.TheVariants as read
use Rattle.groups.specs.Nodes.{Nodes, end, leaf, inner, is_leaf, leaf_objects, leaf_names, count, wanted, names}
use Rattle.groups.specs.Parsing.{Parsed}
use Rattle.construction.specs.Growth.{Grown, IsArray, ElementAt, SameBut, element_set, array_set, string_set}
use Rattle.group_building.specs.declared.Piece.{Piece}
use Rattle.group_building.specs.declared.Piece.TheVariants as piece

-- ---- what is done

-- Element q of the array id becomes the value of a token; a string is made, and then filled.
unfoldable pub leaf_set : ℕ → ℕ → Token → Floo.Machine → Floo.Machine
leaf_set id q (Token.integer w) μ = element_set id q (integer w) μ
leaf_set id q (Token.string bs) μ = string_filled (made μ) bs (string_set id q (length bs) μ)
leaf_set id q (Token.name x n) μ = element_set id q (name x n) μ
leaf_set id q Token.open_brace μ = element_set id q null μ
leaf_set id q Token.close_brace μ = element_set id q null μ
leaf_set id q Token.end μ = element_set id q null μ

-- The elements of the array id from q on become these. An inner group's array is made before what is in it.
unfoldable pub planted : ℕ → ℕ → Nodes → Floo.Machine → Floo.Machine
planted id q end μ = μ
planted id q (leaf t ns) μ = planted id (suc q) ns (leaf_set id q t μ)
planted id q (inner ms ns) μ = planted id (suc q) ns (planted (made μ) 0 ms (array_set id q (count ms) μ))

-- ---- what is known

abbrev pub Known : Floo.Machine → List (List ℕ) → Type 0
Known μ ns = All (λ n. slot_of n μ.dictionary < length μ.dictionary) ns

-- The words stand for a machine in which the array id, with header h, has nulls from q on for the elements that the script has from `at` on; cell c is
-- the first of them. The names have slots, and the objects have room.
pub record At (s e d l script : List ℕ) (depth h id after : ℕ) (m : Machine) (cs : List ℕ) (at c : ℕ) (μ : Floo.Machine) (q : ℕ) (ns : Nodes) : Type 0 where
  pub rep : Rep m s e d cs l μ
  pub parsed : Parsed script depth at ns after
  pub inside : at ≤ length script
  pub short : length script ≤ script_most
  pub array : IsArray rep.world μ.store h id
  pub cell : (k : ℕ) → count ns ≡ suc k → ElementAt rep.world μ.store c h k id q
  pub long : length (elements_of (object_at μ.store id)) ≡ q + count ns
  pub nulls : (j : ℕ) → j < count ns → element μ.store id (q + j) ≡ null
  pub known : Known μ (names ns)
  pub room : wanted ns ≤ free_cells m cs

-- Some machine is so.
abbrev pub Ready : List ℕ → List ℕ → ℕ → Machine → List ℕ → ℕ → ℕ → Type 0
Ready d script depth m cs at c =
    (s : List ℕ) × (e : List ℕ) × (l : List ℕ) × (h : ℕ) × (id : ℕ) × (after : ℕ) × (μ : Floo.Machine) × (q : ℕ) × (ns : Nodes)
    × At s e d l script depth h id after m cs at c μ q ns

-- What building comes to, from each such machine: its elements are there, in a world that has only grown, and the offset is the one after the group.
pub record Builds (d script : List ℕ) (depth : ℕ) (m : Machine) (cs : List ℕ) (from first : ℕ) (r : Machine) (cs' : List ℕ) (next : ℕ) : Type 0 where
  pub builds : {s e l : List ℕ} {h id after : ℕ} {μ : Floo.Machine} {q : ℕ} {ns : Nodes}
      → (A : At s e d l script depth h id after m cs from first μ q ns)
      → (R : Rep r s e d cs' l (planted id q ns μ)) × Grown A.rep.world R.world × (free_cells r cs' + wanted ns ≡ free_cells m cs) × (next ≡ after)
  pub same : SameBut m r

-- ---- one token

-- From an offset on there is a group.
abbrev pub Readable : List ℕ → ℕ → Type 0
Readable script at = (depth : ℕ) × (ns : Nodes) × (after : ℕ) × Parsed script depth at ns after × (at ≤ length script) × (length script ≤ script_most)

-- The token that was read is this one of the definition, no brace.
abbrev pub LeafIs : List ℕ → scanned.Token → Token → Type 0
LeafIs script (read.Integer w) t = t ≡ Token.integer w
LeafIs script (read.String at size) t = (bs : List ℕ) × (next : ℕ) × (t ≡ Token.string bs) × StringAt script at bs next × (length bs ≡ size)
LeafIs script (read.ExecutableName at size) t = (t ≡ Token.name true (take size (drop at script))) × (at + size ≤ length script) × (size ≤ name_most)
LeafIs script (read.LiteralName at size) t = (t ≡ Token.name false (take size (drop at script))) × (at + size ≤ length script) × (size ≤ name_most)
LeafIs script read.OpenBrace t = ⊥
LeafIs script read.CloseBrace t = ⊥
LeafIs script read.End t = ⊥

abbrev pub PieceAt : List ℕ → ℕ → Piece → Type 0
PieceAt script at (piece.Leaf u next) = (t : Token) × Lexes script (skip script at) t next × (is_leaf t ≡ true) × LeafIs script u t
PieceAt script at (piece.Open next) = Lexes script (skip script at) Token.open_brace next
PieceAt script at (piece.Close next) = Lexes script (skip script at) Token.close_brace next

-- ---- elements

-- Cell c is an element that is null, and the token's name and object have what they need.
pub record LeafAt (s e d l : List ℕ) (m : Machine) (cs : List ℕ) (c h k id q : ℕ) (μ : Floo.Machine) (t : Token) : Type 0 where
  pub rep : Rep m s e d cs l μ
  pub cell : ElementAt rep.world μ.store c h k id q
  pub empty : element μ.store id q ≡ null
  pub known : Known μ (leaf_names t)
  pub room : sum_of cells (leaf_objects t) ≤ free_cells m cs

abbrev pub ReadyLeaf : List ℕ → List ℕ → scanned.Token → Machine → List ℕ → ℕ → Type 0
ReadyLeaf d script u m cs c =
    (s : List ℕ) × (e : List ℕ) × (l : List ℕ) × (h : ℕ) × (k : ℕ) × (id : ℕ) × (q : ℕ) × (μ : Floo.Machine) × (t : Token)
    × LeafAt s e d l m cs c h k id q μ t × LeafIs script u t

-- It becomes the token's value.
pub record PutsLeaf (d script : List ℕ) (u : scanned.Token) (m : Machine) (cs : List ℕ) (c : ℕ) (r : Machine) (cs' : List ℕ) : Type 0 where
  pub puts : {s e l : List ℕ} {h k id q : ℕ} {μ : Floo.Machine} {t : Token}
      → (A : LeafAt s e d l m cs c h k id q μ t)
      → LeafIs script u t
      → (R : Rep r s e d cs' l (leaf_set id q t μ)) × Grown A.rep.world R.world × (free_cells r cs' + sum_of cells (leaf_objects t) ≡ free_cells m cs)
  pub same : SameBut m r

-- A name's tag.
abbrev pub name_tag : Bool → ℕ
name_tag true = 6
name_tag false = 5

abbrev pub ReadyName : List ℕ → List ℕ → ℕ → Machine → List ℕ → ℕ → Type 0
ReadyName d n tag m cs c =
    (s : List ℕ) × (e : List ℕ) × (l : List ℕ) × (h : ℕ) × (k : ℕ) × (id : ℕ) × (q : ℕ) × (μ : Floo.Machine) × (x : Bool)
    × LeafAt s e d l m cs c h k id q μ (Token.name x n) × (tag ≡ name_tag x) × (length n ≤ name_most)

pub record PutsName (d n : List ℕ) (tag : ℕ) (m : Machine) (cs : List ℕ) (c : ℕ) (cs' : List ℕ) : Type 0 where
  pub puts : {s e l : List ℕ} {h k id q : ℕ} {μ : Floo.Machine} {x : Bool}
      → (A : LeafAt s e d l m cs c h k id q μ (Token.name x n))
      → tag ≡ name_tag x
      → (R : Rep m s e d cs' l (leaf_set id q (Token.name x n) μ)) × Grown A.rep.world R.world
  pub long : length cs' ≡ length cs

-- ---- inner groups

abbrev pub ReadyOpen : List ℕ → ℕ → Machine → List ℕ → ℕ → ℕ → Type 0
ReadyOpen script depth m cs next c =
    (d : List ℕ) × (at : ℕ) × Lexes script (skip script at) Token.open_brace next × Ready d script depth m cs at c

-- The first of the elements is an inner group: its array is there, and so are the elements after it.
pub record Opens (script : List ℕ) (depth : ℕ) (m : Machine) (cs : List ℕ) (next c : ℕ) (r : Machine) (cs' : List ℕ) (first : ℕ) : Type 0 where
  pub opens : {s e d l : List ℕ} {h id after at : ℕ} {μ : Floo.Machine} {q : ℕ} {ns : Nodes}
      → Lexes script (skip script at) Token.open_brace next
      → (A : At s e d l script depth h id after m cs at c μ q ns)
      → (ms : Nodes) × (ns' : Nodes) × (mid : ℕ) × (x : ℕ)
      × (ns ≡ inner ms ns')
      × Parsed script depth mid ns' after
      × (I : At s e d l script (depth - 1) x (made μ) mid r cs' next first (array_set id q (count ms) μ) 0 ms)
      × Grown A.rep.world I.rep.world
      × (free_cells r cs' + (count ms + 1) ≡ free_cells m cs)
  pub same : SameBut m r

-- Cell 0 of a body that has one.
abbrev pub FirstCell : List ℕ → ℕ → ℕ → ℕ → Type 0
FirstCell cs h size r =
    0 < size → (g : Ghost) (e : ℕ) → Shape g e cs → g.own h ≡ live → (k : ℕ) → g.size (h + 2) ≡ 0 + suc k → g.own r ≡ on (h + 2) k
