-- The loop that builds a group's array: each turn does to the machine what the first of its nodes says, and leaves what is known of the nodes after it, so that what is to
-- be planted stays the same. At the closing brace nothing is left to plant.
-- Assumes nothing.
use mathlib.Core.Path.{◌≡◌, refl, sym, ap, ◌∙◌, subst}
use mathlib.Core.Bool.{true, false}
use mathlib.Core.List.{List, ◌∷◌, ◌++◌}
use Prim.Native.Nat.{ℕ, suc, ◌+◌, ◌-◌, ◌*◌, ◌≤◌, ◌<◌}
use native.Mathlib.Omega.{arith}
use native.Mathlib.Numerals.{add-one}
use lib.ListN.{length, get_or, set}
use lib.Seq.{get_or-set_other}
use Rattle.semantics.specs.Tokens.{Token}
use Rattle.semantics.specs.Values.{Value, null, array, Object, elements, cells}
use Rattle.semantics.specs.Machine as Floo
use Rattle.semantics.specs.Machine.{with_store, with_read_only, object, elements_of, made, change}
use Rattle.semantics.specs.Groups.{skip}
use Rattle.semantics.proofs.TokenLaws.{skip_le}
use Rattle.semantics.specs.Held.{sum_of}
use Rattle.semantics.specs.ListLaws.{All}
use Rattle.heap.specs.Word.{word}
use Rattle.store.specs.Rep.{is_text, object_at, element}
use Rattle.machine.specs.Rep.{Rep, World}
use Rattle.machine.specs.declared.Machine.{Machine}
use Rattle.elements.specs.Elements.{free_cells}
use Rattle.dictionary.specs.Names.{slot_of}
use Rattle.token.specs.Lexing.{Lexes}
use Rattle.token.specs.declared.Token as scanned
use Rattle.groups.specs.Nodes.{Nodes, leaf, inner, is_leaf, leaf_value, leaf_objects, leaf_names, count, wanted, names, values, news}
use Rattle.groups.specs.Parsing.{Parsed}
use Rattle.groups.proofs.Trees.{parsed_inside}
use Rattle.construction.specs.Growth.{Grown, Extended, ElementAt, SameBut, element_set, array_set}
use Rattle.construction.proofs.Holding.{grown_refl, grown_trans, extended_trans, append_extended, grown_array, grown_element, array_low, next_element, element_extended}
use Rattle.group_building.specs.Building.{leaf_set, planted, Known, At, Ready, Builds, Readable, LeafIs, PieceAt, LeafAt, ReadyLeaf, PutsLeaf, ReadyOpen, Opens}
use Rattle.group_building.specs.declared.Piece.{Piece}
use Rattle.group_building.specs.declared.Piece.TheVariants as piece
use Rattle.group_building.proofs.Planting.{restored, held, restored_object, leaf_is_set, inner_set, planted_is}
use Rattle.group_building.proofs.Inverting.{leaf_first, close_first}
use Rattle.group_building.proofs.Leaves.{same_but}
use Rattle.group_building.proofs.Opening.{all_left, all_right, first_inside, first_null, some_depth, some_nodes}

-- ---- one element set, and objects made

module _ (id q : ℕ) (v : Value) (more : List Object) (μ : Floo.Machine) (low : id < length μ.store) where
  restored_extended : is_text (object_at μ.store id) ≡ false → Extended μ.store (restored id (set (held id μ) q v) more μ).store
  unfolding element_set change object with_read_only with_store
  restored_extended kind = extended_trans (element_extended id q v μ low kind) (append_extended (set μ.store id (elements (set (held id μ) q v))) more)

  restored_there : (r : ℕ) → (r ≡ q → ⊥) → element (restored id (set (held id μ) q v) more μ).store id r ≡ element μ.store id r
  unfolding elements_of
  restored_there r ne = ap (λ (o : Object). get_or (elements_of o) r null) (restored_object id (set (held id μ) q v) more μ low) ∙ get_or-set_other (held id μ) q r v null ne

  restored_dictionary : (restored id (set (held id μ) q v) more μ).dictionary ≡ μ.dictionary
  unfolding with_read_only with_store
  restored_dictionary = refl

-- What is known of the nodes after the first.
module _ {s e d l script : List ℕ} {depth h id after : ℕ} {m : Machine} {cs : List ℕ} {at c : ℕ} {μ : Floo.Machine} {q : ℕ} {ns : Nodes}
    (A : At s e d l script depth h id after m cs at c μ q ns) (v : Value) (more : List Object) {ν : Floo.Machine}
    (is : ν ≡ restored id (set (held id μ) q v) more μ) {r : Machine} {cs' : List ℕ} (R : Rep r s e d cs' l ν) (G : Grown A.rep.world R.world)
    (rest : Nodes) (some : count ns ≡ suc (count rest)) (known : Known μ (names rest)) (room : wanted rest ≤ free_cells r cs') {next : ℕ}
    (P : Parsed script depth next rest after) (inside : next ≤ length script) where
  low : id < length μ.store
  low = array_low A.rep A.array

  extended : Extended μ.store ν.store
  extended = subst (λ (ν : Floo.Machine). Extended μ.store ν.store) (sym is) (restored_extended id q v more μ low A.array.kind)

  rest_cell : (k : ℕ) → count rest ≡ suc k → ElementAt R.world ν.store (word cs' c 2) h k id (suc q)
  rest_cell k z =
      subst (λ n. ElementAt R.world ν.store (word cs' c 2) h k id n) (add-one q)
      (next_element R (grown_element G extended low (A.cell (suc k) (some ∙ ap suc z))))

  rest_null : (j : ℕ) → j < count rest → element ν.store id (suc q + j) ≡ null
  rest_null j z =
      let place : suc q + j ≡ q + suc j = omega arith in
      ap (λ (ν : Floo.Machine). element ν.store id (suc q + j)) is
      ∙ restored_there id q v more μ low (suc q + j) (λ w. omega (arith, w))
      ∙ ap (λ i. element μ.store id i) place
      ∙ A.nulls (suc j) (omega (arith, some, z))

  rest_at : At s e d l script depth h id after r cs' next (word cs' c 2) ν (suc q) rest
  rest_at =
      let dictionary : ν.dictionary ≡ μ.dictionary = ap (λ (ν : Floo.Machine). ν.dictionary) is ∙ restored_dictionary id q v more μ low in
      record {
        rep = R;
        parsed = P;
        inside = inside;
        short = A.short;
        array = grown_array G extended low A.array;
        cell = rest_cell;
        long = extended.lengths id low ∙ A.long ∙ omega (arith, some);
        nulls = rest_null;
        known = subst (λ (ds : List Floo.Slot). All (λ n. slot_of n ds < length ds) (names rest)) (sym dictionary) known;
        room = room;
      }

-- ---- turns

-- From what was known, at world w, with these nodes to plant: what is known at another place, and what is left to plant.
pub record Turned (s e d l script : List ℕ) (depth h id after : ℕ) (w : World) (m : Machine) (cs : List ℕ) (μ : Floo.Machine) (q : ℕ) (ns : Nodes) (r : Machine)
    (cs' : List ℕ) (at c : ℕ) : Type 0 where
  pub machine : Floo.Machine
  pub place : ℕ
  pub nodes : Nodes
  pub known : At s e d l script depth h id after r cs' at c machine place nodes
  pub grown : Grown w known.rep.world
  pub plants : planted id place nodes machine ≡ planted id q ns μ
  pub free : free_cells r cs' + wanted ns ≡ free_cells m cs + wanted nodes

-- Every such machine has made this turn.
pub record Turn (d script : List ℕ) (depth : ℕ) (m : Machine) (cs : List ℕ) (at c : ℕ) (r : Machine) (cs' : List ℕ) (at' c' : ℕ) : Type 0 where
  pub turns : {s e l : List ℕ} {h id after : ℕ} {μ : Floo.Machine} {q : ℕ} {ns : Nodes} (A : At s e d l script depth h id after m cs at c μ q ns)
      → Turned s e d l script depth h id after A.rep.world m cs μ q ns r cs' at' c'

-- A node that is no group.
module _ {script : List ℕ} {at next : ℕ} {t : Token} (L : Lexes script (skip script at) t next) (plain : is_leaf t ≡ true) where
  module _ {s e d l : List ℕ} {depth h id after : ℕ} {m : Machine} {cs : List ℕ} {c : ℕ} {μ : Floo.Machine} {q : ℕ} {ns : Nodes}
      (A : At s e d l script depth h id after m cs at c μ q ns) where
    abbrev others : Nodes
    others = (leaf_first A.parsed L plain).0

    first : ns ≡ leaf t others
    first = (leaf_first A.parsed L plain).1

    pub leaf_some : count ns ≡ suc (count others)
    unfolding count
    leaf_some = ap count first

    leaf_wanted : wanted ns ≡ sum_of cells (leaf_objects t) + wanted others
    unfolding wanted
    leaf_wanted = ap wanted first

    leaf_known : Known μ (leaf_names t ++ names others)
    unfolding names
    leaf_known = subst (λ ns. Known μ (names ns)) first A.known

    pub leaf_at : LeafAt s e d l m cs c h (count others) id q μ t
    leaf_at =
        record {
          rep = A.rep;
          cell = A.cell (count others) leaf_some;
          empty = first_null A (count others) leaf_some;
          known = all_left (leaf_names t) (names others) leaf_known;
          room = omega (arith, A.room, leaf_wanted);
        }

    leaf_plants : planted id (suc q) others (leaf_set id q t μ) ≡ planted id q ns μ
    unfolding planted
    leaf_plants = sym (ap (λ ns. planted id q ns μ) first)

  pub leaf_turn : {d : List ℕ} {depth : ℕ} {m : Machine} {cs : List ℕ} {c : ℕ} {r : Machine} {cs' : List ℕ} (u : scanned.Token)
      → LeafIs script u t
      → PutsLeaf d script u m cs c r cs'
      → Turn d script depth m cs at c r cs' next (word cs' c 2)
  unfolding leaf_at rest_at
  leaf_turn u is P =
      record {
        turns = λ {s} {e} {l} {h} {id} {after} {μ} {q} {ns} A.
            let X = P.puts (leaf_at A) is in
            record {
              machine = leaf_set id q t μ;
              place = suc q;
              nodes = others A;
              known = rest_at A (leaf_value (made μ) t) (leaf_objects t) (leaf_is_set id q t μ (array_low A.rep A.array)) X.0 X.1 (others A) (leaf_some A)
                  (all_right (leaf_names t) (names (others A)) (leaf_known A)) (omega (arith, X.2, A.room, leaf_wanted A)) (leaf_first A.parsed L plain).2 L.inside;
              grown = X.1;
              plants = leaf_plants A;
              free = omega (arith, X.2, leaf_wanted A);
            };
      }

-- An inner group.
module _ {script : List ℕ} {at next : ℕ} (L : Lexes script (skip script at) Token.open_brace next) {d : List ℕ} {depth : ℕ} {m m₁ r : Machine} {cs cs₁ cs' : List ℕ}
    {c first mid : ℕ} (O : Opens script depth m cs next c m₁ cs₁ first) (B : Builds d script (depth - 1) m₁ cs₁ next first r cs' mid) where
  pub inner_turn : Turn d script depth m cs at c r cs' mid (word cs' c 2)
  unfolding planted count wanted names rest_at
  inner_turn =
      record {
        turns = λ {s} {e} {l} {h} {id} {after} {μ} {q} {ns} A.
            let X = O.opens L A in
            let ms = X.0 in
            let rest = X.1 in
            let split : ns ≡ inner ms rest = X.4 in
            let Y = B.builds X.6 in
            let some : count ns ≡ suc (count rest) = ap count split in
            let all : wanted ns ≡ (count ms + 1) + wanted ms + wanted rest = ap wanted split in
            let both : Known μ (names ms ++ names rest) = subst (λ ns. Known μ (names ns)) split A.known in
            let P : Parsed script depth mid rest after = subst (λ n. Parsed script depth n rest after) (sym Y.3) X.5 in
            let within : mid ≤ length script = subst (λ n. n ≤ length script) (sym Y.3) (parsed_inside X.6.parsed L.inside).1 in
            let G = grown_trans X.7 Y.1 in
            record {
              machine = planted (made μ) 0 ms (array_set id q (count ms) μ);
              place = suc q;
              nodes = rest;
              known = rest_at A (array true (made μ)) (elements (values (suc (made μ)) ms) ∷ news (suc (made μ)) ms)
                  (inner_set id q ms (planted_is ms) μ (array_low A.rep A.array)) Y.0 G rest some (all_right (names ms) (names rest) both)
                  (omega (arith, A.room, X.8, Y.2, all)) P within;
              grown = G;
              plants = sym (ap (λ ns. planted id q ns μ) split);
              free = omega (arith, X.8, Y.2, all);
            };
      }

-- ---- the loop

-- What the loop keeps: from each machine at the start, what is known now; some machine is so.
pub record Going (d script : List ℕ) (depth : ℕ) (m₀ : Machine) (cs₀ : List ℕ) (from first : ℕ) (m : Machine) (cs : List ℕ) (at c : ℕ) : Type 0 where
  pub turned : Turn d script depth m₀ cs₀ from first m cs at c
  pub some : Ready d script depth m cs at c
  pub same : SameBut m₀ m
  pub long : length cs ≡ length cs₀

pub begin : {d script : List ℕ} {depth : ℕ} {m : Machine} {cs : List ℕ} {from first : ℕ} → Ready d script depth m cs from first → Going d script depth m cs from first m cs from first
begin {m = m} some =
    record {
      turned = record { turns = λ A. record { machine = _; place = _; nodes = _; known = A; grown = grown_refl A.rep.world; plants = refl; free = refl } };
      some = some;
      same = same_but m;
      long = refl;
    }

same_trans : {a b c : Machine} → SameBut a b → SameBut b c → SameBut a c
same_trans A B = record { depth = B.depth ∙ A.depth; frames = B.frames ∙ A.frames; names = B.names ∙ A.names; written = B.written ∙ A.written }

pub go_on_lem : {d script : List ℕ} {depth : ℕ} {m₀ : Machine} {cs₀ : List ℕ} {from first : ℕ} {m : Machine} {cs : List ℕ} {at c : ℕ} {r : Machine} {cs' : List ℕ} {at' c' : ℕ}
    → Going d script depth m₀ cs₀ from first m cs at c
    → Turn d script depth m cs at c r cs' at' c'
    → SameBut m r
    → length cs' ≡ length cs
    → Going d script depth m₀ cs₀ from first r cs' at' c'
go_on_lem G T same long =
    let S = G.some in
    let now = T.turns S.9 in
    record {
      turned = record {
        turns = λ A.
            let X = G.turned.turns A in
            let Y = T.turns X.known in
            record {
              machine = _;
              place = _;
              nodes = _;
              known = Y.known;
              grown = grown_trans X.grown Y.grown;
              plants = Y.plants ∙ X.plants;
              free = omega (arith, X.free, Y.free);
            };
      };
      some = (_, _, _, _, _, _, _, _, _, now.known);
      same = same_trans G.same same;
      long = long ∙ G.long;
    }

pub finish : {d script : List ℕ} {depth : ℕ} {m₀ : Machine} {cs₀ : List ℕ} {from first : ℕ} {m : Machine} {cs : List ℕ} {at c next : ℕ}
    → Going d script depth m₀ cs₀ from first m cs at c
    → Lexes script (skip script at) Token.close_brace next
    → Builds d script depth m₀ cs₀ from first m cs next
unfolding planted wanted
finish {d = d} {m = m} {cs = cs} G L =
    record {
      builds = λ {s} {e} {l} {h} {id} {after} {μ} {q} {ns} A.
          let X = G.turned.turns A in
          let Z = close_first X.known.parsed L in
          let none : wanted X.nodes ≡ 0 = ap wanted Z.0 in
          let is : X.machine ≡ planted id q ns μ = ap (λ ns. planted id X.place ns X.machine) (sym Z.0) ∙ X.plants in
          let Y = subst (λ (ν : Floo.Machine). (R : Rep m s e d cs l ν) × Grown A.rep.world R.world) is (X.known.rep, X.grown) in
          (Y.0, Y.1, omega (arith, X.free, none), Z.1);
      same = G.same;
    }

-- ---- what the calls ask for, and that the offset grows

module _ {d script : List ℕ} {depth : ℕ} {m₀ : Machine} {cs₀ : List ℕ} {from first : ℕ} {m : Machine} {cs : List ℕ} {at c : ℕ} (G : Going d script depth m₀ cs₀ from first m cs at c) where
  pub readable : Readable script at
  readable = (depth, G.some.8, G.some.5, G.some.9.parsed, G.some.9.inside, G.some.9.short)

  module _ {answer : Piece} (K : PieceAt script at answer) where
    module _ (u : scanned.Token) (next : ℕ) (g : answer ≡ piece.Leaf u next) where
      a_leaf : PieceAt script at (piece.Leaf u next)
      a_leaf = subst (PieceAt script at) g K

      pub leaf_ready : ReadyLeaf d script u m cs c
      leaf_ready = let K = a_leaf in (_, _, _, _, _, _, _, _, K.0, leaf_at K.1 K.2 G.some.9, K.3)

      pub leaf_inside : {n : ℕ} → n ≡ length cs → c * 4 + 4 ≤ n
      leaf_inside size = let K = a_leaf in rw size (first_inside G.some.9 _ (leaf_some K.1 K.2 G.some.9))

      pub leaf_nearer : length script - next < length script - at
      leaf_nearer = let K = a_leaf in omega (arith, K.1.past, K.1.inside, (skip_le script at G.some.9.inside).0)

      pub leaf_again : {r : Machine} {cs' : List ℕ} {c' : ℕ} → PutsLeaf d script u m cs c r cs' → length cs' ≡ length cs → c' ≡ word cs' c 2
          → Going d script depth m₀ cs₀ from first r cs' next c'
      leaf_again {r} {cs'} P size z =
          let K = a_leaf in
          subst (λ c'. Going d script depth m₀ cs₀ from first r cs' next c') (sym z) (go_on_lem G (leaf_turn K.1 K.2 u K.3 P) P.same size)

    module _ (next : ℕ) (g : answer ≡ piece.Open next) where
      an_open : Lexes script (skip script at) Token.open_brace next
      an_open = subst (PieceAt script at) g K

      pub open_ready : ReadyOpen script depth m cs next c
      open_ready = (d, at, an_open, G.some)

      pub deeper : 1 ≤ depth
      deeper = some_depth an_open G.some.9

      module _ {m₁ : Machine} {cs₁ : List ℕ} {inner_first : ℕ} (O : Opens script depth m cs next c m₁ cs₁ inner_first) where
        pub inner_ready : Ready d script (depth - 1) m₁ cs₁ next inner_first
        inner_ready = let X = O.opens an_open G.some.9 in (_, _, _, _, _, _, _, _, _, X.6)

        pub inner_inside : {n : ℕ} → n ≡ length cs → c * 4 + 4 ≤ n
        inner_inside size = rw size (first_inside G.some.9 _ (some_nodes an_open G.some.9))

        module _ {r : Machine} {cs' : List ℕ} {mid : ℕ} (B : Builds d script (depth - 1) m₁ cs₁ next inner_first r cs' mid) where
          pub inner_nearer : length script - mid < length script - at
          inner_nearer =
              let X = O.opens an_open G.some.9 in
              let Y = B.builds X.6 in
              let Z = parsed_inside X.6.parsed an_open.inside in
              omega (arith, an_open.past, an_open.inside, (skip_le script at G.some.9.inside).0, Z.0, Z.1, Y.3)

          pub inner_again : {c' : ℕ} → length cs' ≡ length cs → c' ≡ word cs' c 2 → Going d script depth m₀ cs₀ from first r cs' mid c'
          inner_again size z =
              subst (λ c'. Going d script depth m₀ cs₀ from first r cs' mid c') (sym z) (go_on_lem G (inner_turn an_open O B) (same_trans O.same B.same) size)

    pub closing : {next : ℕ} → answer ≡ piece.Close next → Builds d script depth m₀ cs₀ from first m cs next
    closing g = finish G (subst (PieceAt script at) g K)
