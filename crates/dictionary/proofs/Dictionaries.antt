-- The definition's dictionary by slots: a name's slot, or that it has none.
-- Assumes nothing.
use mathlib.Core.Path.{◌≡◌, refl, ap}
use mathlib.Core.List.{List, [], ◌∷◌}
use Prim.Native.Nat.{ℕ, suc}
use native.Mathlib.Omega.{arith}
use lib.ListN.{length}
use Rattle.semantics.specs.Text.{same}
use Rattle.semantics.specs.Machine.{Slot}
use Rattle.semantics.specs.SlotLaws.{Compared, yes, no, compare, Sits, here, there, Absent, nil, cons}
use Rattle.dictionary.specs.Names.{slot_of}

module _ (n : List ℕ) where
  pub slot_sits : {d : List Slot} {i : ℕ} {s : Slot} → Sits n d i s → slot_of n d ≡ i
  unfolding slot_of
  slot_sits (here q e) = rw (q, slot_of) refl
  slot_sits (there q r) = rw (q, slot_of) (ap suc (slot_sits r))

  pub absent : (d : List Slot) → slot_of n d ≡ length d → Absent n d
  unfolding slot_of
  absent [] e = nil
  absent (s ∷ d) e = step (compare n s.key) (absent d) e
    where
      step : Compared n s.key (same n s.key) → (slot_of n d ≡ length d → Absent n d) → slot_of n (s ∷ d) ≡ suc (length d) → Absent n (s ∷ d)
      step (yes q same_name) r e =
          let z : 0 ≡ slot_of n (s ∷ d) = rw (q, slot_of) refl in
          absurd (omega arith)
      step (no q other) r e =
          let z : suc (slot_of n d) ≡ slot_of n (s ∷ d) = rw (q, slot_of) refl in
          cons q other (r (omega arith))
