-- An inner group: judging it again gives what was known of it, and its new array has a null for each of its elements, the first of them in the cell that is found.
-- Assumes nothing.
use Rattle.std.specs.Prelude.{Result, Ok, Err, IsOk}
use mathlib.Core.Path.{◌≡◌, refl, sym, ap, ◌∙◌, subst}
use mathlib.Core.Bool.{true}
use mathlib.Core.List.{List, ◌++◌}
use Prim.Native.Nat.{ℕ, suc, ◌+◌, ◌-◌, ◌*◌, ◌≤◌, ◌<◌}
use native.Mathlib.Omega.{arith}
use lib.ListN.{length, get_or, replicate, length-replicate, get_or-replicate}
use lib.Seq.{take-append_seam, drop-append_seam}
use Rattle.semantics.specs.Tokens.{Token}
use Rattle.semantics.specs.Values.{null, array, Object, elements}
use Rattle.semantics.specs.Machine as Floo
use Rattle.semantics.specs.Machine.{with_store, with_read_only, elements_of, make, made, change, protect}
use Rattle.semantics.specs.Groups.{skip}
use Rattle.semantics.specs.ListLaws.{All, all_take, all_drop}
use Rattle.semantics.specs.Sizes.{script_most}
use Rattle.semantics.specs.declared.Fault.{Fault}
use Rattle.store.specs.Rep.{object_at, element}
use Rattle.machine.specs.Rep.{Rep}
use Rattle.machine.specs.declared.Machine.{Machine}
use Rattle.elements.specs.Elements.{HasCell, free_cells}
use Rattle.elements.proofs.Making.{few_cells}
use Rattle.dictionary.specs.Names.{slot_of}
use Rattle.token.specs.Lexing.{Lexes}
use Rattle.groups.specs.Nodes.{Nodes, inner, count, wanted, names}
use Rattle.groups.specs.Parsing.{Parsed, JudgedAs}
use Rattle.groups.specs.declared.Judged.{Judged}
use Rattle.construction.specs.Growth.{Grown, IsArray, SameBut, SetsArray, element_set, array_set}
use Rattle.construction.proofs.Holding.{array_low, element_inside, element_sought, element_found, made_new}
use Rattle.group_building.specs.Building.{At, Known, Opens, FirstCell}
use Rattle.group_building.proofs.Inverting.{open_first, parsed_one, no_faults}

module _ {A : Type 0} {P : A → Type 0} (l r : List A) (both : All P (l ++ r)) where
  pub all_left : All P l
  all_left = subst (All P) (take-append_seam l r) (all_take (length l) both)

  pub all_right : All P r
  all_right = subst (All P) (drop-append_seam l r) (all_drop (length l) both)

-- An array of as many nulls as the group has elements, the first of them in the cell that is found.
unfoldable pub array_at : {s e d l script : List ℕ} {depth h id after : ℕ} {m : Machine} {cs : List ℕ} {at first : ℕ} {μ : Floo.Machine} {ns : Nodes}
    → (R : Rep m s e d cs l μ)
    → IsArray R.world μ.store h id
    → object_at μ.store id ≡ elements (replicate (count ns) null)
    → FirstCell cs h (count ns) first
    → Parsed script depth at ns after
    → at ≤ length script
    → length script ≤ script_most
    → Known μ (names ns)
    → wanted ns ≤ free_cells m cs
    → At s e d l script depth h id after m cs at first μ 0 ns
unfolding elements_of
array_at {id = id} {first = first} {μ = μ} {ns = ns} R I is F P inside short known room =
    let all : length (elements_of (object_at μ.store id)) ≡ count ns = ap (λ (o : Object). length (elements_of o)) is ∙ length-replicate (count ns) null in
    record {
      rep = R;
      parsed = P;
      inside = inside;
      short = short;
      array = I;
      cell = λ k e.
          let rank : length (elements_of (object_at μ.store id)) ≡ 0 + suc k = all ∙ omega (arith, e) in
          element_found R 0 k first I rank (F (omega (arith, e)));
      long = all ∙ omega arith;
      nulls = λ j l. ap (λ (o : Object). get_or (elements_of o) (0 + j) null) is ∙ get_or-replicate (count ns) (0 + j) null null (omega (arith, l));
      known = known;
      room = room;
    }

-- Where the first of the elements is.
module _ {s e d l script : List ℕ} {depth h id after : ℕ} {m : Machine} {cs : List ℕ} {at c : ℕ} {μ : Floo.Machine} {q : ℕ} {ns : Nodes}
    (A : At s e d l script depth h id after m cs at c μ q ns) (k : ℕ) (some : count ns ≡ suc k) where
  pub first_inside : c * 4 + 4 ≤ length cs
  first_inside = element_inside A.rep (A.cell k some)

  pub first_null : element μ.store id q ≡ null
  first_null =
      let z : q ≡ q + 0 = omega arith in
      ap (λ j. element μ.store id j) z ∙ A.nulls 0 (omega (arith, some))

-- The new array's elements.
module _ (id q n : ℕ) (μ : Floo.Machine) (low : id < length μ.store) where
  new_array_lem : object_at (array_set id q n μ).store (made μ) ≡ elements (replicate n null)
  unfolding array_set protect with_read_only
  new_array_lem = made_new id q (array true (made μ)) (elements (replicate n null)) μ low

  new_long : length (elements_of (object_at (array_set id q n μ).store (made μ))) ≡ n
  unfolding elements_of
  new_long = ap (λ (o : Object). length (elements_of o)) new_array_lem ∙ length-replicate n null

same_dictionary : (id q n : ℕ) (μ : Floo.Machine) → (array_set id q n μ).dictionary ≡ μ.dictionary
unfolding array_set protect element_set make change with_read_only with_store
same_dictionary id q n μ = refl

module _ {s e d l script : List ℕ} {depth h id after : ℕ} {m : Machine} {cs : List ℕ} {at c : ℕ} {μ : Floo.Machine} {q : ℕ} {ns : Nodes} {next : ℕ}
    (L : Lexes script (skip script at) Token.open_brace next) (A : At s e d l script depth h id after m cs at c μ q ns) where
  pub some_depth : 1 ≤ depth
  some_depth = omega (arith, (open_first A.parsed L).4)

  abbrev pub inner_nodes : Nodes
  inner_nodes = (open_first A.parsed L).1

  abbrev pub later_nodes : Nodes
  later_nodes = (open_first A.parsed L).2

  pub split : ns ≡ inner inner_nodes later_nodes
  split = (open_first A.parsed L).5

  parsed_less : Parsed script (depth - 1) next inner_nodes (open_first A.parsed L).3
  parsed_less =
      let X = open_first A.parsed L in
      let z : X.0 ≡ depth - 1 = omega (arith, X.4) in
      subst (λ k. Parsed script k next X.1 X.3) z X.6

  pub some_nodes : count ns ≡ suc (count later_nodes)
  unfolding count
  some_nodes = ap count split

  inner_wanted : wanted ns ≡ (count inner_nodes + 1) + wanted inner_nodes + wanted later_nodes
  unfolding wanted
  inner_wanted = ap wanted split

  pub inner_room : count inner_nodes + 1 ≤ free_cells m cs
  inner_room = omega (arith, A.room, inner_wanted)

  -- Judging it finds no fault.
  pub never_bad : (answer : Result Judged Fault) → JudgedAs script (depth - 1) next answer → IsOk answer
  never_bad (Ok j) J = refl
  never_bad (Err x) J = absurd (no_faults parsed_less L.inside μ J)

  module _ {answer : Result Judged Fault} (J : JudgedAs script (depth - 1) next answer) where
    module _ {j : Judged} (u : answer ≡ Ok j) where
      abbrev size : ℕ
      size = j.size

      pub size_is : size ≡ count inner_nodes
      size_is =
          let w = subst (JudgedAs script (depth - 1) next) u J in
          w.2 ∙ ap count (parsed_one w.1 parsed_less).0

      pub size_room : size + 1 ≤ free_cells m cs
      size_room = omega (arith, size_is, inner_room)

      pub size_few : size < 2000000
      size_few = omega (arith, size_room, few_cells A.rep)

      pub first_there : {r : Machine} {x : ℕ} {cs₁ : List ℕ} → SetsArray c size m cs r x cs₁ → 0 < size → HasCell cs₁ x 0
      first_there S some =
          let X = S.sets A.rep h (count later_nodes) id q (A.cell (count later_nodes) some_nodes) (first_null A (count later_nodes) some_nodes) in
          element_sought X.0 0 X.2 (omega (arith, some, new_long id q size μ (array_low A.rep A.array)))

      -- What is known of the inner group.
      pub inner_at : {r : Machine} {x first : ℕ} {cs₁ : List ℕ}
          → SetsArray c size m cs r x cs₁
          → free_cells r cs₁ + (size + 1) ≡ free_cells m cs
          → FirstCell cs₁ x size first
          → (I : At s e d l script (depth - 1) x (made μ) (open_first A.parsed L).3 r cs₁ next first (array_set id q (count inner_nodes) μ) 0 inner_nodes)
          × Grown A.rep.world I.rep.world
      unfolding names array_at
      inner_at {r} {x} {first} {cs₁} S free F =
          let low = array_low A.rep A.array in
          let n = count inner_nodes in
          let S' = subst (λ n. SetsArray c n m cs r x cs₁) size_is S in
          let k = count later_nodes in
          let X = S'.sets A.rep h k id q (A.cell k some_nodes) (first_null A k some_nodes) in
          let both : Known μ (names inner_nodes ++ names later_nodes) = subst (λ ms. Known μ (names ms)) split A.known in
          let known : Known (array_set id q n μ) (names inner_nodes) =
          subst (λ (ds : List Floo.Slot). All (λ n. slot_of n ds < length ds) (names inner_nodes)) (sym (same_dictionary id q n μ))
          (all_left (names inner_nodes) (names later_nodes) both) in
          let F' = subst (λ n. FirstCell cs₁ x n first) size_is F in (
            array_at X.0 X.2 (new_array_lem id q n μ low) F' parsed_less L.inside A.short known (omega (arith, free, size_is, A.room, inner_wanted)),
            X.1,
          )

pub opens_group : {script : List ℕ} {depth : ℕ} {m : Machine} {cs : List ℕ} {next c : ℕ} {answer : Result Judged Fault}
    → JudgedAs script (depth - 1) next answer
    → {j : Judged}
    → answer ≡ Ok j
    → {r : Machine} {x first : ℕ} {cs₁ : List ℕ}
    → SetsArray c j.size m cs r x cs₁
    → SameBut m r
    → free_cells r cs₁ + (j.size + 1) ≡ free_cells m cs
    → FirstCell cs₁ x j.size first
    → Opens script depth m cs next c r cs₁ first
opens_group J u S but free F =
    record {
      opens = λ L A.
          let X = open_first A.parsed L in
          let Y = inner_at L A J u S free F in
          (X.1, X.2, X.3, _, X.5, X.7, Y.0, Y.1, omega (arith, free, size_is L A J u));
      same = but;
    }
