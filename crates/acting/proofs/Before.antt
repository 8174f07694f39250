-- The test of room looks at the machine before a step only for its objects and for what its places name. So it comes to the same before and after a slot that
-- names no object is dropped, and before and after a running procedure moves on.
-- Assumes nothing.
use mathlib.Core.Path.{◌≡◌, refl, ap, ◌∙◌}
use mathlib.Core.Bool.{true, false}
use mathlib.Core.List.{List, [], ◌++◌}
use Prim.Native.Nat.{ℕ, zero, suc, ◌-◌}
use lib.ListN.{length, drop, get_or}
use lib.Dec.{leb, eqb}
use Rattle.semantics.specs.Values.{Object, elements, Result, ok, ◌>>=◌, check, cells}
use Rattle.semantics.specs.Machine.{Machine, object}
use Rattle.semantics.specs.Held.{of_object, gather, roots, named_by, among, prune, pruned, below, held, sum_of, held_cells}
use Rattle.semantics.specs.Steps.{Limits, new_cells, cells_for, room_for}
use Rattle.semantics.specs.declared.Error.TheVariants.{LimitCheck, ExecStackOverflow, StackOverflow, VmError, IoError}

-- The test, given the answer on cells.
abbrev tested : Limits → Machine → Result (Unit {0}) → Result Machine
tested l after room = do
  _ ← check (leb (length after.dictionary) l.dictionary_slots) LimitCheck
  _ ← check (leb (length after.exec) l.exec_slots) ExecStackOverflow
  _ ← check (leb (length after.stack) l.stack_slots) StackOverflow
  _ ← room
  _ ← check (leb (length after.log) l.log_bytes) IoError
  ok after

module _ (a b : Machine) (store : a.store ≡ b.store) (named : roots a ≡ roots b) where
  named_same : (ids : List ℕ) → named_by a ids ≡ named_by b ids
  unfolding named_by object
  named_same ids =
      ap (λ r. r ++ gather (λ i. of_object (get_or a.store i (elements []))) ids) named
      ∙ ap (λ st. roots b ++ gather (λ i. of_object (get_or st i (elements []))) ids) store

  pruned_same : (k : ℕ) (ids : List ℕ) → pruned a k ids ≡ pruned b k ids
  unfolding pruned prune
  pruned_same zero ids = refl
  pruned_same (suc k) ids =
      ap {B = List ℕ} (λ (f : List ℕ). elim (eqb (length f) (length ids)) [ true ↦ ids | false ↦ pruned a k f ]) (ap (λ n. among n ids) (named_same ids))
      ∙ ap {B = List ℕ} (λ (p : List ℕ). elim (eqb (length (prune b ids)) (length ids)) [ true ↦ ids | false ↦ p ]) (pruned_same k (prune b ids))

  held_same : held a ≡ held b
  unfolding held
  held_same = pruned_same _ _ ∙ ap (λ (st : List Object). pruned b (length st) (below (length st))) store

  cells_same : held_cells a ≡ held_cells b
  unfolding held_cells object
  cells_same =
      ap (λ h. sum_of (λ i. cells (get_or a.store i (elements []))) h) held_same
      ∙ ap (λ st. sum_of (λ i. cells (get_or st i (elements []))) (held b)) store

  cells_for_same : (l : Limits) (n : ℕ) → cells_for l a n ≡ cells_for l b n
  unfolding cells_for
  cells_for_same l zero = refl
  cells_for_same l (suc n) = ap (λ x. check (leb (suc n) (l.cell_count - x)) VmError) cells_same

  pub room_same : (l : Limits) (after : Machine) → room_for l a after ≡ room_for l b after
  unfolding room_for new_cells
  room_same l after =
      ap (tested l after)
      (cells_for_same l (sum_of cells (drop (length a.store) after.store))
      ∙ ap (λ (st : List Object). cells_for l b (sum_of cells (drop (length st) after.store))) store)
