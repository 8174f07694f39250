-- The procedure of a group: null is pushed, gives way to a new array of nulls, which is marked as read only, becomes executable and is then filled.
-- Assumes nothing.
use mathlib.Core.Path.{◌≡◌, refl, sym, ap, ◌∙◌, subst}
use mathlib.Core.Bool.{true, false}
use mathlib.Core.List.{List, [], ◌∷◌}
use mathlib.Core.Logic.{⊎_elim}
use Prim.Native.Nat.{ℕ, ◌+◌, ◌*◌, ◌≤◌, ◌<◌}
use native.Mathlib.Omega.{arith}
use lib.ListN.{length, get_or, set, replicate, length-append, length-replicate}
use lib.Seq.{get_or-append_seam}
use Rattle.semantics.specs.Sizes.{script_most}
use Rattle.semantics.specs.Values.{Value, null, array, elements, object_id}
use Rattle.semantics.specs.Machine as Floo
use Rattle.semantics.specs.Machine.{with_stack, with_store, with_read_only, push, make, made, protect, elements_of}
use Rattle.semantics.specs.TextOperators.{as_executable}
use Rattle.store.specs.Rep.{object_at}
use Rattle.machine.specs.Words.{item_tag}
use Rattle.machine.specs.Rep.{Rep, MovesHeap}
use Rattle.machine.specs.Moves.{retagged, tag_as}
use Rattle.machine.specs.declared.Machine.{Machine}
use Rattle.machine.proofs.Copying.{word_of}
use Rattle.machine.proofs.Retagging.{retag_rep}
use Rattle.elements.specs.Elements.{named, item_id, HasCell, HasObject, SomewhereThat, free_cells, item_sealed, array_made}
use Rattle.elements.proofs.Arrays.{array_tags}
use Rattle.construction.specs.Growth.{IsArray}
use Rattle.construction.proofs.Holding.{item_array, element_sought}
use Rattle.taking.specs.Promises.{PushesWords}
use Rattle.taking.proofs.Pushing.{null_words}
use Rattle.taking.proofs.Texts.{words_free, words_depth}
use Rattle.groups.specs.Nodes.{Nodes, count}
use Rattle.group_building.specs.Building.{At, Ready, Builds, FirstCell, planted}
use Rattle.group_building.proofs.Inverting.{parsed_one}
use Rattle.group_building.proofs.Opening.{array_at}
use Rattle.group_building.proofs.Planting.{planted_whole}
use Rattle.group_taking.specs.Taking.{Roomy, ConstructsGroup}

-- ---- in the definition

-- The topmost item gives way to a new array of n nulls that is read only.
abbrev pub sealed_made : ℕ → Floo.Machine → Floo.Machine
sealed_made n μ = item_sealed 0 (array_made 0 n μ)

-- The new array, as the definition has it.
abbrev pub new_array : ℕ → Floo.Machine → Floo.Machine
new_array n μ = protect (made μ) (make (elements (replicate n null)) μ)

-- The procedure before it is filled.
abbrev pub blank : ℕ → Floo.Machine → Floo.Machine
blank n μ = retagged true (sealed_made n (push null μ))

blank_is : (n : ℕ) (μ : Floo.Machine) → blank n μ ≡ push (array true (made μ)) (new_array n μ)
unfolding retagged item_sealed item_id named array_made protect push made make with_read_only with_stack with_store as_executable
blank_is n μ = refl

new_object : (n : ℕ) (μ : Floo.Machine) → object_at (new_array n μ).store (made μ) ≡ elements (replicate n null)
unfolding protect make made with_read_only with_store
new_object n μ = get_or-append_seam μ.store (elements (replicate n null)) [] (elements [])

new_low : (n : ℕ) (μ : Floo.Machine) → made μ < length (new_array n μ).store
unfolding protect make made with_read_only with_store
new_low n μ = omega (arith, length-append μ.store (elements (replicate n null) ∷ []))

-- Filling an array leaves the stack.
planted_push : (v : Value) (id : ℕ) (ns : Nodes) (μ : Floo.Machine)
    → id < length μ.store
    → object_at μ.store id ≡ elements (replicate (count ns) null)
    → planted id 0 ns (push v μ) ≡ push v (planted id 0 ns μ)
unfolding push made with_read_only with_stack with_store
planted_push v id ns μ low is = planted_whole id ns (push v μ) low is ∙ ap (push v) (sym (planted_whole id ns μ low is))

planted_blank : (ns : Nodes) (μ : Floo.Machine)
    → planted (made μ) 0 ns (blank (count ns) μ) ≡ push (array true (made μ)) (planted (made μ) 0 ns (new_array (count ns) μ))
planted_blank ns μ =
    ap (planted (made μ) 0 ns) (blank_is (count ns) μ)
    ∙ planted_push (array true (made μ)) (made μ) ns (new_array (count ns) μ) (new_low (count ns) μ) (new_object (count ns) μ)

-- ---- in the words

-- The header of item k from the bottom, once it is executable.
abbrev pub header : List ℕ → ℕ → ℕ
header s k = get_or (set s (2 * k) 10) (2 * k + 1) 0

-- The array is there, and gets the mark.
pub array_there : {m p q : Machine} {s s₁ s₂ c c₂ : List ℕ} (n : ℕ) → 2 * m.depth + 2 ≤ length s → PushesWords 0 0 m p s s₁ → MovesHeap (array_made 0 n) p q s₁ s₂ c c₂
    → {e d l : List ℕ} {μ : Floo.Machine}
    → Rep m s e d c l μ
    → SomewhereThat (HasObject 0) q s₂ c₂
unfolding array_made push made make with_stack with_store object_id
array_there n room W A {e} {d} {l} {μ} R =
    (e, d, l, array_made 0 n (push null μ), A.moves e d l (push null μ) (null_words room W R), record { id = made μ; item = refl })

pub seals_made : {p q : Machine} {s₁ s₂ c c₂ c₃ : List ℕ} (n : ℕ) → MovesHeap (array_made 0 n) p q s₁ s₂ c c₂ → MovesHeap (item_sealed 0) q q s₂ s₂ c₂ c₃
    → MovesHeap (sealed_made n) p q s₁ s₂ c c₃
seals_made n A K = record { moves = λ e d l μ R. K.moves e d l (array_made 0 n μ) (A.moves e d l μ R) }

module _ {m : Machine} {s c : List ℕ} (room : 2 * m.depth + 2 ≤ length s) {p : Machine} {s₁ : List ℕ} (W : PushesWords 0 0 m p s s₁) (n : ℕ) {q : Machine} {s₂ c₂ : List ℕ}
    (A : MovesHeap (sealed_made n) p q s₁ s₂ c c₂) (deep : q.depth ≡ p.depth) where
  depth_is : q.depth ≡ m.depth + 1
  depth_is = deep ∙ words_depth W

  blank_rep : {e d l : List ℕ} {μ : Floo.Machine} → Rep m s e d c l μ → Rep q (set s₂ (2 * m.depth) 10) e d c₂ l (blank n μ)
  unfolding tag_as item_sealed array_made protect push made make with_read_only with_stack with_store
  blank_rep {e} {d} {l} {μ} R =
      let R₂ = A.moves e d l (push null μ) (null_words room W R) in
      let tag : 10 ≡ tag_as true (item_tag s₂ m.depth) =
      ⊎_elim (λ x. ap (tag_as true) (sym x)) (λ x. ap (tag_as true) (sym x)) (array_tags {x = false} {i = made μ} (word_of R₂ 0 m.depth depth_is).stands).1 in
      retag_rep R₂ true m.depth depth_is tag

  blank_array : {e d l : List ℕ} {μ : Floo.Machine} (R : Rep m s e d c l μ) → IsArray (blank_rep R).world (blank n μ).store (header s₂ m.depth) (made μ)
  unfolding retagged item_sealed array_made protect push made make with_read_only with_stack with_store as_executable
  blank_array R = item_array (blank_rep R) 0 m.depth depth_is refl

  blank_object : (μ : Floo.Machine) → object_at (blank n μ).store (made μ) ≡ elements (replicate n null)
  unfolding retagged item_sealed array_made protect push made make with_read_only with_stack with_store
  blank_object μ = get_or-append_seam μ.store (elements (replicate n null)) [] (elements [])

  module _ {script : List ℕ} {from : ℕ} {e d l : List ℕ} {μ : Floo.Machine} {ns : Nodes} {after : ℕ} (G : Roomy script from m s e d c l μ ns after) (size : n ≡ count ns) where
    pub first_there : 0 < n → HasCell c₂ (header s₂ m.depth) 0
    unfolding elements_of
    first_there some =
        let long : length (elements_of (object_at (blank n μ).store (made μ))) ≡ n = ap (λ o. length (elements_of o)) (blank_object μ) ∙ length-replicate n null in
        element_sought (blank_rep G.rep) 0 (blank_array G.rep) (omega (arith, long, some))

    module _ (inside : from ≤ length script) (short : length script ≤ script_most) (free : free_cells q c₂ + (n + 1) ≡ free_cells p c) {first : ℕ} (F : FirstCell c₂ (header s₂ m.depth) n first) where
      at_group : At (set s₂ (2 * m.depth) 10) e d l script 15 (header s₂ m.depth) (made μ) after q c₂ from first (blank n μ) 0 ns
      unfolding retagged item_sealed array_made protect push make with_read_only with_stack with_store
      at_group =
          array_at (blank_rep G.rep) (blank_array G.rep) (blank_object μ ∙ ap (λ k. elements (replicate k null)) size) (subst (λ k. FirstCell c₂ (header s₂ m.depth) k first) size F) G.parsed inside short
          G.known (omega (arith, free, words_free c W, G.cells, size))

      pub ready_group : Ready d script 15 q c₂ from first
      ready_group = (_, e, l, header s₂ m.depth, made μ, after, blank n μ, 0, ns, at_group)

      pub group_rep : {r : Machine} {c₃ : List ℕ} {next : ℕ}
          → Builds d script 15 q c₂ from first r c₃ next
          → Rep r (set s₂ (2 * m.depth) 10) e d c₃ l (push (array true (made μ)) (planted (made μ) 0 ns (new_array (count ns) μ)))
      group_rep {r} {c₃} B =
          subst (Rep r (set s₂ (2 * m.depth) 10) e d c₃ l) (ap (λ k. planted (made μ) 0 ns (blank k μ)) size ∙ planted_blank ns μ) (B.builds at_group).0

-- ---- what is returned

module _ {m : Machine} {s c : List ℕ} (room : 2 * m.depth + 2 ≤ length s) {p : Machine} {s₁ : List ℕ} (W : PushesWords 0 0 m p s s₁) (n : ℕ) {q : Machine} {s₂ c₂ : List ℕ}
    (A : MovesHeap (sealed_made n) p q s₁ s₂ c c₂) (deep : q.depth ≡ p.depth) (free : free_cells q c₂ + (n + 1) ≡ free_cells p c) {script : List ℕ} {from : ℕ} (inside : from ≤ length script) (short : length script ≤ script_most) where
  pub constructed : {e d l : List ℕ} {μ : Floo.Machine} {ns : Nodes} {after : ℕ}
      → Roomy script from m s e d c l μ ns after
      → n ≡ count ns
      → {first : ℕ}
      → FirstCell c₂ (header s₂ m.depth) n first
      → {r : Machine} {c₃ : List ℕ} {next : ℕ}
      → Builds d script 15 q c₂ from first r c₃ next
      → ConstructsGroup script from m r s (set s₂ (2 * m.depth) 10) d c c₃
  constructed G size F B =
      record {
        constructs = λ H. group_rep room W n A deep H (size ∙ ap count (parsed_one G.parsed H.parsed).0) inside short free F B;
      }
