-- The name in a slot, by its words: the slots' words stand for the dictionary one by one. And the operators' names have the first slots.
-- Assumes nothing.
use mathlib.Core.Path.{◌≡◌, sym, ap, ◌∙◌, subst}
use mathlib.Core.List.{List, ◌++◌, map}
use mathlib.Core.Option.{some}
use Prim.Native.Nat.{ℕ, zero, suc, ◌+◌, ◌*◌, ◌/◌, ◌%◌, ◌≤◌, ◌<◌}
use native.Mathlib.Omega.{arith}
use lib.ListN.{length, get_or, get_elem?, drop, take-append-drop, length-map}
use Rattle.semantics.specs.Sizes.{operator_count, name_most}
use Rattle.semantics.specs.Values.{Value}
use Rattle.semantics.specs.Machine as Floo
use Rattle.semantics.specs.Machine.{Slot}
use Rattle.semantics.specs.ListLaws.{inside_list}
use Rattle.store.specs.Rep.{titles, byte_of}
use Rattle.store.proofs.Standing.{getElem?-append}
use Rattle.machine.specs.Places.{keys}
use Rattle.machine.specs.Rep.{Rep, IsIn, SlotIs, Slots, end, slot}
use Rattle.machine.specs.declared.Machine.{Machine}
use Rattle.names.specs.Names.{Named, NameSize, NameByte}

-- Slot k, whose name is n.
pub record Keyed (Is : Value → ℕ → ℕ → Type 0) (words : List ℕ) (k : ℕ) (n : List ℕ) : Type 0 where
  pub slot : Slot
  pub words_are : SlotIs Is words k slot
  pub key : slot.key ≡ n

module _ {Is : Value → ℕ → ℕ → Type 0} {words : List ℕ} where
  keyed : {d : ℕ} {ss : List Slot} → Slots Is words d ss → (k : ℕ) (n : List ℕ) → get_elem? (map (λ (s : Slot). s.key) ss) k ≡ some n → Keyed Is words (d + k) n
  keyed end k n e = let z : ◌≡◌ {A = ℕ} 0 1 = cc in absurd (omega arith)
  keyed {d} (slot {s = s} h r) zero n e =
      let same : d ≡ d + 0 = omega arith in
      let key : s.key ≡ n = cc in
      subst (λ k. Keyed Is words k n) same (record { slot = s; words_are = h; key = key })
  keyed {d} (slot h r) (suc k) n e =
      let same : suc d + k ≡ d + suc k = omega arith in
      subst (λ k. Keyed Is words k n) same (keyed r k n e)

module _ {m : Machine} {s e d c l : List ℕ} {μ : Floo.Machine} (R : Rep m s e d c l μ) where
  -- The operators' names have the first slots.
  pub title_slot : (k : ℕ) (o : List ℕ) → get_elem? titles k ≡ some o → get_elem? (keys μ) k ≡ some o
  title_slot k o q =
      let parts : titles ++ drop operator_count (keys μ) ≡ keys μ = ap (λ (t : List (List ℕ)). t ++ drop operator_count (keys μ)) (sym R.naming.titled) ∙ take-append-drop operator_count (keys μ) in
      subst (λ t. get_elem? t k ≡ some o) parts (getElem?-append titles (drop operator_count (keys μ)) k o q)

  module _ (k : ℕ) (n : List ℕ) (q : get_elem? (keys μ) k ≡ some n) where
    -- A name's slot lies within the words.
    pub slot_inside : 12 * k + 12 ≤ length d
    slot_inside = omega (arith, inside_list (keys μ) k q, length-map μ.dictionary (λ (s : Slot). s.key), R.naming.many, R.rooms.dict_fits)

    here : Keyed (IsIn R.world μ) d k n
    here =
        let same : 0 + k ≡ k = omega arith in
        subst (λ k. Keyed (IsIn R.world μ) d k n) same (keyed R.slots k n q)

    pub size_is : (get_or d (12 * k) 0 ≡ length n) × (get_or d (12 * k) 0 ≤ name_most)
    size_is =
        let K = here in
        let long = ap length K.key in
        (K.words_are.size ∙ long, omega (arith, K.words_are.size, K.words_are.short))

    pub byte_is : (j : ℕ) → j < 32 → byte_of (get_or d (12 * k + 1 + j / 4) 0) (j % 4) ≡ get_or n j 0
    byte_is j h =
        let K = here in
        K.words_are.spelt j h ∙ ap (λ (t : List ℕ). get_or t j 0) K.key

pub named_inside : {k : ℕ} {d : List ℕ} → Named k d → 12 * k + 12 ≤ length d
named_inside N = slot_inside N.rep _ N.name N.slot

pub size_says : (k : ℕ) (d : List ℕ) → NameSize k d (get_or d (12 * k) 0)
size_says k d = record { says = λ m s e c l μ R n q. size_is R k n q }

pub byte_says : (k j : ℕ) (d : List ℕ) → j < 32 → {w b : ℕ} → w ≡ get_or d (12 * k + 1 + j / 4) 0 → b ≡ byte_of w (j % 4) → NameByte k j d b
byte_says k j d h x y = record { says = λ m s e c l μ R n q. y ∙ ap (λ v. byte_of v (j % 4)) x ∙ byte_is R k n q j h }
