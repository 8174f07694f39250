-- What a name's slot number says: below the number of slots the name is there, and to give it a slot changes nothing; else it has no slot, nothing is looked
-- up, and one slot more is made, where there is room. A name keeps its slot where others get theirs.
-- Assumes nothing.
use Rattle.std.specs.Prelude.{Option, Some, None, IfSome, unwrap_or}
use mathlib.Core.Path.{◌≡◌, refl, sym, ap, ◌∙◌, subst}
use mathlib.Core.List.{List, [], ◌∷◌}
use mathlib.Core.Logic.{⊎_elim}
use mathlib.Core.Option.{some, none}
use Prim.Native.Nat.{ℕ, suc, ◌+◌, ◌≤◌, ◌<◌}
use native.Mathlib.Omega.{arith}
use borrow.Author.Tests.{lt-leb}
use lib.ListN.{length, get_elem?, length-append}
use Rattle.semantics.specs.Text.{same}
use Rattle.semantics.specs.Values.{fault, ◌>>=◌, check}
use Rattle.semantics.specs.Machine as Floo
use Rattle.semantics.specs.Machine.{Slot, lookup, slotted}
use Rattle.semantics.specs.Steps.{Limits, room_for}
use Rattle.semantics.specs.declared.Error.TheVariants.{LimitCheck}
use Rattle.heap.proofs.Since.{lt_or_le}
use Rattle.machine.specs.Places.{keys}
use Rattle.machine.specs.Rep.{Rep}
use Rattle.machine.specs.declared.Machine.{Machine}
use Rattle.dictionary.specs.Names.{slot_of, Finds}
use Rattle.semantics.specs.SlotLaws.{keys_of, Compared, yes, no, compare, Sits, here, there, element_sits, slotted_absent, key_sits, slotted_sits, lookup_absent}
use Rattle.dictionary.proofs.Dictionaries.{slot_sits, absent}

module _ (n : List ℕ) where
  -- ---- a name that has a slot

  pub found : (d : List Slot) → slot_of n d < length d → (s : Slot) × Sits n d (slot_of n d) s
  unfolding slot_of
  found [] l = absurd (omega arith)
  found (t ∷ d) l = step (compare n t.key) (found d) l
    where
      step : Compared n t.key (same n t.key)
          → (slot_of n d < length d → (s : Slot) × Sits n d (slot_of n d) s)
          → slot_of n (t ∷ d) < suc (length d)
          → (s : Slot) × Sits n (t ∷ d) (slot_of n (t ∷ d)) s
      step (yes q e) r l =
          let is : 0 ≡ slot_of n (t ∷ d) = rw (q, slot_of) refl in
          (t, subst (λ i. Sits n (t ∷ d) i t) is (here q (sym e)))
      step (no q e) r l =
          let is : suc (slot_of n d) ≡ slot_of n (t ∷ d) = rw (q, slot_of) refl in
          let x = r (omega arith) in
          (x.0, subst (λ i. Sits n (t ∷ d) i x.0) is (there q x.1))

  pub found_key : (d : List Slot) → slot_of n d < length d → get_elem? (keys_of d) (slot_of n d) ≡ some n
  found_key d l = key_sits n (found d l).1

  pub slotted_found : (d : List Slot) → slot_of n d < length d → slotted n d ≡ d
  slotted_found d l = slotted_sits n (found d l).1

  -- ---- a name that has none

  pub slot_limit : (d : List Slot) → slot_of n d ≤ length d
  unfolding slot_of
  slot_limit [] = omega arith
  slot_limit (t ∷ d) = step (compare n t.key) (slot_limit d)
    where
      step : Compared n t.key (same n t.key) → slot_of n d ≤ length d → slot_of n (t ∷ d) ≤ suc (length d)
      step (yes q e) r =
          let is : 0 ≡ slot_of n (t ∷ d) = rw (q, slot_of) refl in
          omega arith
      step (no q e) r =
          let is : suc (slot_of n d) ≡ slot_of n (t ∷ d) = rw (q, slot_of) refl in
          omega arith

  pub lookup_missing : (d : List Slot) → slot_of n d ≡ length d → lookup n d ≡ none
  lookup_missing d q = lookup_absent n (absent n d q)

  pub slotted_missing : (d : List Slot) → slot_of n d ≡ length d → length (slotted n d) ≡ length d + 1
  slotted_missing d q = ap length (slotted_absent n (absent n d q)) ∙ length-append d (record { key = n; binding = none } ∷ [])

  -- ---- the slot after it has been given one

  pub slotted_slot : (d : List Slot) → slot_of n (slotted n d) ≡ slot_of n d
  unfolding slot_of slotted
  slotted_slot [] = step (compare n n)
    where
      step : Compared n n (same n n) → slot_of n (slotted n []) ≡ slot_of n []
      step (yes q e) = rw (q, slot_of) refl
      step (no q e) = absurd (e refl)
  slotted_slot (t ∷ d) = step (compare n t.key) (slotted_slot d)
    where
      step : Compared n t.key (same n t.key) → slot_of n (slotted n d) ≡ slot_of n d → slot_of n (slotted n (t ∷ d)) ≡ slot_of n (t ∷ d)
      step (yes q e) r =
          let is : slotted n (t ∷ d) ≡ t ∷ d = rw (q, slotted) refl in
          ap (slot_of n) is
      step (no q e) r =
          let is : slotted n (t ∷ d) ≡ t ∷ slotted n d = rw (q, slotted) refl in
          let next : slot_of n (t ∷ slotted n d) ≡ slot_of n (t ∷ d) = rw (q, slot_of) (ap suc r) in
          ap (slot_of n) is ∙ next

  pub slotted_grows : (d : List Slot) → length d ≤ length (slotted n d)
  unfolding slotted
  slotted_grows [] = omega arith
  slotted_grows (t ∷ d) = step (compare n t.key) (slotted_grows d)
    where
      step : Compared n t.key (same n t.key) → length d ≤ length (slotted n d) → suc (length d) ≤ length (slotted n (t ∷ d))
      step (yes q e) r =
          let is : length (t ∷ d) ≡ length (slotted n (t ∷ d)) = rw (q, slotted) refl in
          omega arith
      step (no q e) r =
          let is : length (t ∷ slotted n d) ≡ length (slotted n (t ∷ d)) = rw (q, slotted) refl in
          omega arith

  pub slotted_has : (d : List Slot) → slot_of n (slotted n d) < length (slotted n d)
  slotted_has d =
      ⊎_elim
      (λ (l : slot_of n d < length d). omega (arith, slotted_slot d, slotted_grows d, l))
      (λ (l : length d ≤ slot_of n d). omega (arith, slotted_slot d, slot_limit d, slotted_missing d (omega (arith, slot_limit d, l))))
      (lt_or_le (slot_of n d) (length d))

  -- ---- the slot after another name has been given one

  stays : (k : List ℕ) {d : List Slot} {i : ℕ} {s : Slot} → Sits n d i s → Sits n (slotted k d) i s
  unfolding slotted
  stays k (here {s = s} {d = d} q e) = step (compare k s.key)
    where
      step : Compared k s.key (same k s.key) → Sits n (slotted k (s ∷ d)) 0 s
      step (yes p z) = rw (p, slotted) (here q e)
      step (no p z) = rw (p, slotted) (here q e)
  stays k (there {t = t} {d = d} {i = i} {s = s} q r) = step (compare k t.key) (stays k r)
    where
      step : Compared k t.key (same k t.key) → Sits n (slotted k d) i s → Sits n (slotted k (t ∷ d)) (suc i) s
      step (yes p z) x = rw (p, slotted) (there q r)
      step (no p z) x = rw (p, slotted) (there q x)

  pub still_has : (k : List ℕ) (d : List Slot) → slot_of n d < length d → slot_of n (slotted k d) < length (slotted k d)
  still_has k d l = (element_sits n (subst (λ i. Sits n (slotted k d) i (found d l).0) (sym (slot_sits n (stays k (found d l).1))) (stays k (found d l).1))).2

-- ---- by what `find` finds

module _ {m : Machine} {s e d c l : List ℕ} {μ : Floo.Machine} (R : Rep m s e d c l μ) {n : List ℕ} {k : ℕ} (F : Finds m d n k) where
  pub find_has : k < m.names → slot_of n μ.dictionary < length μ.dictionary
  find_has low = omega (arith, F.says s e c l μ R, R.naming.many, low)

  pub find_key : k < m.names → get_elem? (keys μ) k ≡ some n
  find_key low = subst (λ i. get_elem? (keys μ) i ≡ some n) (sym (F.says s e c l μ R)) (found_key n μ.dictionary (find_has low))

  pub find_none : m.names ≤ k → k ≤ m.names → slot_of n μ.dictionary ≡ length μ.dictionary
  find_none high low = omega (arith, F.says s e c l μ R, R.naming.many, high, low)

-- ---- the test of room

-- Where there are more names than slots, it fails with limitcheck, whatever else there is no room for.
pub room_slots : (limits : Limits) (before after : Floo.Machine) → limits.dictionary_slots < length after.dictionary → room_for limits before after ≡ fault LimitCheck
unfolding room_for check ◌>>=◌
room_slots limits before after many = rw (lt-leb _ _ many) refl

-- ---- what `find` answers

module _ {m : Machine} {d n : List ℕ} {r : Option ℕ} (F : Finds m d n (unwrap_or r m.names)) where
  pub find_some : {k : ℕ} → IfSome r (λ j. j < m.names) → r ≡ Some k → Finds m d n k × (k < m.names)
  find_some low q = (subst (λ x. Finds m d n (unwrap_or x m.names)) q F, subst (λ x. IfSome x (λ j. j < m.names)) q low)

  pub find_nothing : r ≡ None → Finds m d n m.names
  find_nothing q = subst (λ x. Finds m d n (unwrap_or x m.names)) q F
