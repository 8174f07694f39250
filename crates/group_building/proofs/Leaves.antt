-- An element that is no group: a number or a name is two words, a string is made and then filled. Each kind of token by its own law.
-- Assumes nothing.
use Rattle.std.specs.Prelude.{Option, Some, None, IsSome, unwrap_or}
use mathlib.Core.Path.{◌≡◌, refl, sym, ap, ◌∙◌, subst}
use mathlib.Core.Bool.{Bool, true, false}
use mathlib.Core.List.{List, [], ◌∷◌}
use mathlib.Core.Option.{some}
use Prim.Native.Nat.{ℕ, ◌+◌, ◌-◌, ◌*◌, ◌/◌, ◌≤◌, ◌<◌}
use native.Mathlib.Omega.{arith}
use lib.ListN.{length, get_elem?, take, drop, replicate, length-replicate, length-take}
use Rattle.semantics.specs.Sizes.{name_most}
use Rattle.semantics.specs.Tokens.{Token}
use Rattle.semantics.specs.Values.{integer, name, string, text, Object, cells}
use Rattle.semantics.specs.Machine as Floo
use Rattle.semantics.specs.Machine.{with_read_only, object, bytes_of, made, protect}
use Rattle.semantics.specs.Held.{sum_of}
use Rattle.semantics.specs.ListLaws.{All, cons}
use Rattle.store.specs.Rep.{Stands, an_integer, a_literal, an_executable}
use Rattle.machine.specs.Places.{keys, texts}
use Rattle.machine.specs.Rep.{Rep}
use Rattle.machine.specs.declared.Machine.{Machine}
use Rattle.elements.specs.Elements.{free_cells}
use Rattle.elements.proofs.Making.{few_cells}
use Rattle.strings.specs.Strings.{FillsAt, FilledAt}
use Rattle.dictionary.specs.Names.{slot_of, Finds}
use Rattle.token.specs.declared.Token as scanned
use Rattle.token.specs.declared.Token.TheVariants as read
use Rattle.groups.specs.Nodes.{leaf_objects}
use Rattle.construction.specs.Growth.{Grown, SameBut, SetsPlain, SetsString, string_set}
use Rattle.construction.proofs.Holding.{array_low, element_inside, made_new, grown_same, grown_trans}
use Rattle.dictionary.proofs.Lookups.{found_key}
use Rattle.group_building.specs.Building.{leaf_set, LeafAt, LeafIs, PutsLeaf, name_tag, PutsName}

pub same_but : (m : Machine) → SameBut m m
same_but m = record { depth = refl; frames = refl; names = refl; written = refl }

-- ---- names

name_stands : {keys : List (List ℕ)} {texts : List Bool} {ρ : ℕ → ℕ} {n : List ℕ} {q : ℕ} (x : Bool)
    → get_elem? keys q ≡ some n
    → Stands keys texts ρ (name x n) (name_tag x) q
name_stands true e = an_executable e
name_stands false e = a_literal e

tag_low : (x : Bool) → name_tag x < 8
tag_low true = omega arith
tag_low false = omega arith

head : {A : Type 0} {P : A → Type 0} {a : A} {l : List A} → All P (a ∷ l) → P a
head (cons p ps) = p

pub name_low : {tag : ℕ} (x : Bool) → tag ≡ name_tag x → tag < 8
name_low x e = subst (λ t. t < 8) (sym e) (tag_low x)

-- Where the element is.
module _ {s e d l : List ℕ} {m : Machine} {cs : List ℕ} {c h k id q : ℕ} {μ : Floo.Machine} {t : Token} (A : LeafAt s e d l m cs c h k id q μ t) where
  pub leaf_cell : c * 4 + 4 ≤ length cs
  leaf_cell = element_inside A.rep A.cell

-- The name has a slot.
pub name_there : {s e d l n : List ℕ} {m : Machine} {cs : List ℕ} {c h k id q : ℕ} {μ : Floo.Machine} {x : Bool} (r : Option ℕ)
    → Finds m d n (unwrap_or r m.names)
    → LeafAt s e d l m cs c h k id q μ (Token.name x n)
    → IsSome r
name_there (Some j) F A = refl
name_there {s} {e} {l = l} {cs = cs} {μ = μ} None F A = absurd (omega (arith, F.says s e cs l μ A.rep, A.rep.naming.many, head A.known))

pub puts_name : {d n : List ℕ} {tag c r : ℕ} {m : Machine} {cs cs' : List ℕ} → Finds m d n r → SetsPlain c tag r cs cs' → length cs' ≡ length cs → PutsName d n tag m cs c cs'
unfolding leaf_set
puts_name {d} {n} {tag} {c} {r} {m} {cs} {cs'} F P size =
    record {
      puts = λ {s} {e} {l} {h} {k} {id} {q} {μ} {x} A is.
          let slot : r ≡ slot_of n μ.dictionary = F.says s e cs l μ A.rep in
          let there : get_elem? (keys μ) r ≡ some n =
          subst (λ j. get_elem? (keys μ) j ≡ some n) (sym slot) (found_key n μ.dictionary (head A.known)) in
          P.sets A.rep h k id q A.cell A.empty (name x n) (subst (λ t. Stands (keys μ) (texts μ) A.rep.world.ρ (name x n) t r) (sym is) (name_stands x there));
      long = size;
    }

-- ---- one token

-- What has become of the element.
abbrev Done : (s e d l : List ℕ) (m : Machine) (cs : List ℕ) (c h k id q : ℕ) (μ : Floo.Machine) (r : Machine) (cs' : List ℕ) → Token → Type 0
Done s e d l m cs c h k id q μ r cs' t =
    (A : LeafAt s e d l m cs c h k id q μ t)
    → (R : Rep r s e d cs' l (leaf_set id q t μ)) × Grown A.rep.world R.world × (free_cells r cs' + sum_of cells (leaf_objects t) ≡ free_cells m cs)

-- No object: the free cells stay.
none_used : (m : Machine) (cs cs' : List ℕ) → length cs' ≡ length cs → free_cells m cs' + sum_of cells [] ≡ free_cells m cs
unfolding sum_of
none_used m cs cs' size = rw size (omega arith)

-- The name's bytes as they are lent.
part_is : (script : List ℕ) (from size : ℕ) → take size (drop from script) ≡ take (from + size - from) (drop from script)
part_is script from size =
    let z : size ≡ from + size - from = omega arith in
    ap (λ n. take n (drop from script)) z

module _ {d script : List ℕ} {u : scanned.Token} {m : Machine} {cs : List ℕ} {c : ℕ} {cs' : List ℕ} where
  pub puts_integer : {w : ℕ} → u ≡ read.Integer w → SetsPlain c 1 w cs cs' → length cs' ≡ length cs → PutsLeaf d script u m cs c m cs'
  unfolding leaf_set
  puts_integer {w} g P size =
      record {
        puts = λ {s} {e} {l} {h} {k} {id} {q} {μ} {t} A L.
            let is : t ≡ Token.integer w = subst (λ u. LeafIs script u t) g L in
            subst (Done s e d l m cs c h k id q μ m cs') (sym is)
            (λ B. let X = P.sets B.rep h k id q B.cell B.empty (integer w) an_integer in (X.0, X.1, none_used m cs cs' size)) A;
        same = same_but m;
      }

  named : {n : List ℕ} {tag : ℕ} (x : Bool) → PutsName d n tag m cs c cs' → tag ≡ name_tag x → ((t : Token) → LeafIs script u t → t ≡ Token.name x n) → PutsLeaf d script u m cs c m cs'
  named {n} x P tagged is =
      record {
        puts = λ {s} {e} {l} {h} {k} {id} {q} {μ} {t} A L.
            subst (Done s e d l m cs c h k id q μ m cs') (sym (is t L))
            (λ B. let X = P.puts B tagged in (X.0, X.1, none_used m cs cs' P.long)) A;
        same = same_but m;
      }

  module _ {from size : ℕ} where
    pub puts_executable : u ≡ read.ExecutableName from size → PutsName d (take (from + size - from) (drop from script)) 6 m cs c cs' → PutsLeaf d script u m cs c m cs'
    puts_executable g P = named true P refl (λ t L. (subst (λ u. LeafIs script u t) g L).0 ∙ ap (λ n. Token.name true n) (part_is script from size))

    pub puts_literal : u ≡ read.LiteralName from size → PutsName d (take (from + size - from) (drop from script)) 5 m cs c cs' → PutsLeaf d script u m cs c m cs'
    puts_literal g P = named false P refl (λ t L. (subst (λ u. LeafIs script u t) g L).0 ∙ ap (λ n. Token.name false n) (part_is script from size))

short : (script : List ℕ) (from size : ℕ) → size ≤ name_most → length (take (from + size - from) (drop from script)) ≤ name_most
short script from size few = omega (arith, few, length-take (from + size - from) (drop from script))

-- What a name asks for.
module _ (script : List ℕ) (u : scanned.Token) {s e d l : List ℕ} {m : Machine} {cs : List ℕ} {c h k id q : ℕ} {μ : Floo.Machine} {t : Token} (A : LeafAt s e d l m cs c h k id q μ t)
    (L : LeafIs script u t) {from size : ℕ} where
  pub executable_inside : u ≡ read.ExecutableName from size → from + size ≤ length script
  executable_inside g = (subst (λ u. LeafIs script u t) g L).1

  pub literal_inside : u ≡ read.LiteralName from size → from + size ≤ length script
  literal_inside g = (subst (λ u. LeafIs script u t) g L).1

  pub executable_short : u ≡ read.ExecutableName from size → length (take (from + size - from) (drop from script)) ≤ name_most
  executable_short g = short script from size (subst (λ u. LeafIs script u t) g L).2

  pub literal_short : u ≡ read.LiteralName from size → length (take (from + size - from) (drop from script)) ≤ name_most
  literal_short g = short script from size (subst (λ u. LeafIs script u t) g L).2

  pub executable_at : u ≡ read.ExecutableName from size → LeafAt s e d l m cs c h k id q μ (Token.name true (take (from + size - from) (drop from script)))
  executable_at g =
      subst (LeafAt s e d l m cs c h k id q μ) ((subst (λ u. LeafIs script u t) g L).0 ∙ ap (λ n. Token.name true n) (part_is script from size)) A

  pub literal_at : u ≡ read.LiteralName from size → LeafAt s e d l m cs c h k id q μ (Token.name false (take (from + size - from) (drop from script)))
  literal_at g =
      subst (LeafAt s e d l m cs c h k id q μ) ((subst (λ u. LeafIs script u t) g L).0 ∙ ap (λ n. Token.name false n) (part_is script from size)) A

-- A token that is an element and no group is of four kinds.
pub leaf_kind : (script : List ℕ) (u : scanned.Token) (t : Token) → LeafIs script u t
    → ((w : ℕ) → u ≡ read.Integer w → ⊥)
    → ((from size : ℕ) → u ≡ read.String from size → ⊥)
    → ((from size : ℕ) → u ≡ read.ExecutableName from size → ⊥)
    → ((from size : ℕ) → u ≡ read.LiteralName from size → ⊥)
    → ⊥
leaf_kind script (read.Integer w) t L a b c d = a w refl
leaf_kind script (read.String from size) t L a b c d = b from size refl
leaf_kind script (read.ExecutableName from size) t L a b c d = c from size refl
leaf_kind script (read.LiteralName from size) t L a b c d = d from size refl
leaf_kind script read.OpenBrace t L a b c d = L
leaf_kind script read.CloseBrace t L a b c d = L
leaf_kind script read.End t L a b c d = L

-- ---- strings

string_cells : (bs : List ℕ) → sum_of cells (leaf_objects (Token.string bs)) ≡ (length bs + 7) / 8 + 1
unfolding sum_of cells
string_cells bs = omega arith

module _ (script : List ℕ) (u : scanned.Token) {s e d l : List ℕ} {m : Machine} {cs : List ℕ} {c h k id q : ℕ} {μ : Floo.Machine} {t : Token} (A : LeafAt s e d l m cs c h k id q μ t)
    (L : LeafIs script u t) {from size : ℕ} (g : u ≡ read.String from size) where
  here : LeafIs script (read.String from size) t
  here = subst (λ u. LeafIs script u t) g L

  pub string_room : (size + 7) / 8 + 1 ≤ free_cells m cs
  string_room =
      let bs = here.0 in
      let r : sum_of cells (leaf_objects (Token.string bs)) ≤ free_cells m cs = subst (λ t. sum_of cells (leaf_objects t) ≤ free_cells m cs) here.2 A.room in
      omega (arith, r, string_cells bs, here.4)

  pub string_few : size < 2000000
  string_few = omega (arith, string_room, few_cells A.rep)

  -- The new string has room for the token's bytes.
  pub string_fills : {x : ℕ} {r : Machine} {cs₁ : List ℕ} → SetsString c size m cs r x cs₁ → FillsAt x cs₁ script from
  unfolding string_set protect with_read_only object bytes_of
  string_fills S =
      let X = S.sets A.rep h k id q A.cell A.empty in
      let new = made_new id q (string (made μ)) (text (replicate size 0)) μ (array_low A.rep A.cell.array) in
      record {
        contents = here.0;
        next = here.1;
        reads = here.3;
        room = record {
          machine = _;
          stack = s;
          exec = e;
          dict = d;
          log = l;
          state = _;
          rep = X.0;
          id = made μ;
          string = X.2;
          inside = omega (arith, here.4, ap (λ (o : Object). length (bytes_of o)) new, length-replicate {A = ℕ} size 0);
        };
      }

pub puts_string : {d script : List ℕ} {u : scanned.Token} {m r : Machine} {cs cs₁ cs₂ : List ℕ} {c x from size : ℕ}
    → u ≡ read.String from size
    → SetsString c size m cs r x cs₁
    → SameBut m r
    → free_cells r cs₁ + ((size + 7) / 8 + 1) ≡ free_cells m cs
    → FilledAt x cs₁ cs₂ script from
    → length cs₂ ≡ length cs₁
    → PutsLeaf d script u m cs c r cs₂
unfolding leaf_set string_set protect with_read_only object bytes_of
puts_string {d} {script} {u} {m} {r} {cs} {cs₁} {cs₂} {c} {x} {from} {size} g S but free F same_size =
    record {
      puts = λ {s} {e} {l} {h} {k} {id} {q} {μ} {t} A L.
          let y : LeafIs script (read.String from size) t = subst (λ u. LeafIs script u t) g L in
          let bs = y.0 in
          let few : length bs ≡ size = y.4 in
          subst (Done s e d l m cs c h k id q μ r cs₂) (sym y.2)
          (λ B.
          let S' = subst (λ n. SetsString c n m cs r x cs₁) (sym few) S in
          let X = S'.sets B.rep h k id q B.cell B.empty in
          let new = made_new id q (string (made μ)) (text (replicate (length bs) 0)) μ (array_low B.rep B.cell.array) in
          let Y = (F.fills bs y.1 y.3).fills X.0 (made μ) X.2 (omega (arith, ap (λ (o : Object). length (bytes_of o)) new, length-replicate {A = ℕ} (length bs) 0)) in
          (Y.0, grown_trans X.1 (grown_same Y.1), omega (arith, free, few, same_size, string_cells bs))) A;
      same = but;
    }
