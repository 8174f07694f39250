-- The words of dictionary slots: what stores past them leave, the words of one of them, one slot more, and a binding that changes.
-- Assumes nothing.
use mathlib.Core.Path.{◌≡◌, refl, ap, ◌∙◌, subst}
use mathlib.Core.List.{List, [], ◌∷◌, ◌++◌}
use mathlib.Core.Option.{some}
use Prim.Native.Nat.{ℕ, zero, suc, ◌+◌, ◌*◌, ◌/◌, ◌%◌, ◌≤◌, ◌<◌}
use native.Mathlib.Omega.{arith}
use lib.ListN.{length, get_or, set, get_elem?}
use Rattle.semantics.specs.Values.{Value}
use Rattle.semantics.specs.Machine.{Slot}
use Rattle.semantics.specs.ListLaws.{some_one, none_some}
use Rattle.store.specs.Rep.{byte_of}
use Rattle.machine.specs.Words.{binding_tag, binding_payload}
use Rattle.machine.specs.Rep.{Bound, SlotIs, Slots, end, slot}

module _ {Is : Value → ℕ → ℕ → Type 0} where
  -- The words of a slot where they are the same.
  pub slot_same : {words other : List ℕ} {k : ℕ} {s : Slot}
      → ((j : ℕ) → 12 * k ≤ j → j < 12 * k + 11 → get_or other j 0 ≡ get_or words j 0)
      → SlotIs Is words k s
      → SlotIs Is other k s
  slot_same {words} {other} {k} {s} f S =
      let tag = f (12 * k + 9) (omega arith) (omega arith) in
      let pay = f (12 * k + 10) (omega arith) (omega arith) in
      let words_are : Bound Is s.binding (binding_tag other k) (binding_payload other k) = rw (tag, pay) S.binding in
      record {
        size = f (12 * k) (omega arith) (omega arith) ∙ S.size;
        short = S.short;
        spelt = λ j l. ap (λ w. byte_of w (j % 4)) (f (12 * k + 1 + j / 4) (omega arith) (omega arith)) ∙ S.spelt j l;
        binding = words_are;
      }

  -- Words from the end of the slots on are not looked at.
  pub slots_frame : {words other : List ℕ} {k : ℕ} {d : List Slot}
      → ((j : ℕ) → j < 12 * (k + length d) → get_or other j 0 ≡ get_or words j 0)
      → Slots Is words k d
      → Slots Is other k d
  slots_frame f end = end
  slots_frame f (slot S r) = slot (slot_same (λ j a b. f j (omega arith)) S) (slots_frame (λ j l. f j (omega arith)) r)

  -- Nor are the words after the bindings.
  pub slots_words : {words other : List ℕ} {k : ℕ} {d : List Slot}
      → ((j : ℕ) → (j % 12 ≡ 11 → ⊥) → get_or other j 0 ≡ get_or words j 0)
      → Slots Is words k d
      → Slots Is other k d
  slots_words f end = end
  slots_words f (slot S r) = slot (slot_same (λ j a b. f j (λ q. omega arith)) S) (slots_words f r)

  pub slot_at : {words : List ℕ} {k : ℕ} {d : List Slot} (i : ℕ) {s : Slot} → get_elem? d i ≡ some s → Slots Is words k d → SlotIs Is words (k + i) s
  slot_at i e end = absurd (none_some e)
  slot_at {words} {k} zero {s} e (slot {s = t} S r) =
      let place : k ≡ k + 0 = omega arith in
      subst (λ x. SlotIs Is words x s) place (subst (SlotIs Is words k) (some_one e) S)
  slot_at {words} {k} (suc i) {s} e (slot S r) =
      let place : suc k + i ≡ k + suc i = omega arith in
      subst (λ x. SlotIs Is words x s) place (slot_at i e r)

  -- All of them, from each.
  pub slots_from : {words : List ℕ} (k : ℕ) (d : List Slot) → ((i : ℕ) (s : Slot) → get_elem? d i ≡ some s → SlotIs Is words (k + i) s) → Slots Is words k d
  slots_from k [] f = end
  slots_from {words} k (s ∷ d) f =
      let here : k + 0 ≡ k = omega arith in
      slot (subst (λ x. SlotIs Is words x s) here (f 0 s refl))
      (slots_from (suc k) d
      (λ i t e.
      let there : k + suc i ≡ suc k + i = omega arith in
      subst (λ x. SlotIs Is words x t) there (f (suc i) t e)))

  -- One slot more.
  pub slots_more : {words : List ℕ} {k : ℕ} {d : List Slot} {s : Slot} → Slots Is words k d → SlotIs Is words (k + length d) s → Slots Is words k (d ++ (s ∷ []))
  slots_more {words} {k} {s = s} end S =
      let place : k + 0 ≡ k = omega arith in
      slot (subst (λ x. SlotIs Is words x s) place S) end
  slots_more {words} {k} {s = s} (slot {ss = d} T r) S =
      let place : k + suc (length d) ≡ suc k + length d = omega arith in
      slot T (slots_more r (subst (λ x. SlotIs Is words x s) place S))

  -- Slot i takes other words, and all other words are the same.
  pub slots_set : {words other : List ℕ} {k : ℕ} {d : List Slot} (i : ℕ) {s : Slot}
      → i < length d
      → ((j : ℕ) → (12 * (k + i) ≤ j → 12 * (k + i) + 12 ≤ j) → get_or other j 0 ≡ get_or words j 0)
      → Slots Is words k d
      → SlotIs Is other (k + i) s
      → Slots Is other k (set d i s)
  slots_set i l f end S = absurd (omega arith)
  slots_set {other = other} {k = k} zero {s} l f (slot T r) S =
      let place : k + 0 ≡ k = omega arith in
      slot (subst (λ x. SlotIs Is other x s) place S) (above r (λ j x. f j (λ y. omega arith)))
    where
      above : {words : List ℕ} {k : ℕ} {d : List Slot} → Slots Is words k d → ((j : ℕ) → 12 * k ≤ j → get_or other j 0 ≡ get_or words j 0) → Slots Is other k d
      above end g = end
      above (slot T r) g = slot (slot_same (λ j a b. g j a) T) (above r (λ j x. g j (omega arith)))
  slots_set {other = other} {k = k} (suc i) {s} l f (slot T r) S =
      let place : k + suc i ≡ suc k + i = omega arith in
      slot (slot_same (λ j a b. f j (λ y. omega arith)) T)
      (slots_set i (omega arith) (λ j x. f j (λ y. omega (arith, x (omega arith)))) r (subst (λ x. SlotIs Is other x s) place S))
