-- A name that is met: where it has a slot nothing changes, where it has none it takes the slot after the last one.
-- Assumes nothing.
use mathlib.Core.Path.{◌≡◌, sym, ap, ◌∙◌, subst}
use mathlib.Core.List.{List}
use mathlib.Core.Option.{some}
use Prim.Native.Nat.{ℕ, ◌+◌, ◌*◌, ◌≤◌, ◌<◌}
use native.Mathlib.Omega.{arith}
use lib.ListN.{length, get_elem?}
use Rattle.semantics.specs.Machine as Floo
use Rattle.semantics.specs.Machine.{with_dictionary, slotted, intern}
use Rattle.machine.specs.Places.{keys}
use Rattle.machine.specs.Rep.{Rep}
use Rattle.machine.specs.Room.{lent}
use Rattle.machine.specs.declared.Machine.{Machine}
use Rattle.dictionary.specs.Names.{slot_of, Finds}
use Rattle.semantics.specs.SlotLaws.{keys_of}
use Rattle.dictionary.proofs.Lookups.{found_key as found-slot, slotted_found, slotted_missing, slotted_slot, slotted_has}

-- ---- by what `find` finds

module _ {m : Machine} {s e d c l : List ℕ} {μ : Floo.Machine} (R : Rep m s e d c l μ) (n : List ℕ) {k : ℕ} (F : Finds m d n k) where
  at_slot : k ≡ slot_of n μ.dictionary
  at_slot = F.says s e c l μ R

  module _ (low : k < m.names) where
    here : (get_elem? (keys μ) (slot_of n μ.dictionary) ≡ some n) × (slotted n μ.dictionary ≡ μ.dictionary)
    here =
        let low : slot_of n μ.dictionary < length μ.dictionary = omega (arith, at_slot, R.naming.many) in
        (found-slot n μ.dictionary low, slotted_found n μ.dictionary low)

    pub found_key : get_elem? (keys μ) k ≡ some n
    found_key = ap (λ x. get_elem? (keys μ) x) at_slot ∙ here.0

    pub found_same : intern n μ ≡ μ
    unfolding intern with_dictionary
    found_same = ap (λ x. with_dictionary x μ) here.1

  module _ (low : k ≤ m.names) (high : m.names ≤ k) where
    pub new_slot : slot_of n μ.dictionary ≡ m.names
    new_slot = omega (arith, at_slot)

    pub new_key : get_elem? (keys (intern n μ)) k ≡ some n
    unfolding intern with_dictionary
    new_key =
        let place : slot_of n (slotted n μ.dictionary) ≡ k = slotted_slot n μ.dictionary ∙ sym at_slot in
        subst (λ i. get_elem? (keys_of (slotted n μ.dictionary)) i ≡ some n) place (found-slot n (slotted n μ.dictionary) (slotted_has n μ.dictionary))

    new_count : length (intern n μ).dictionary ≡ m.names + 1
    unfolding intern with_dictionary
    new_count = omega (arith, slotted_missing n μ.dictionary (new_slot ∙ R.naming.many), R.naming.many)

    pub new_slot_lacks : length d < 12 * m.names + 12 → (lent s e d c l).dictionary_slots < length (intern n μ).dictionary
    unfolding lent
    new_slot_lacks h = omega (arith, new_count)
