-- What is refused before the run, test by test in the paper's order.
-- Assumes nothing.
use mathlib.Core.Path.{◌≡◌, refl, ap, ◌∙◌}
use mathlib.Core.Bool.{Bool, true, false, not}
use mathlib.Core.Option.{none, some}
use Prim.Native.Nat.{ℕ, ◌+◌, ◌/◌, ◌≤◌, ◌<◌}
use lib.Dec.{ltb}
use native.Mathlib.Omega.{arith}
use lib.ListN.{length}
use borrow.Author.Tests.{lt-ltb, le-ltb}
use Rattle.semantics.specs.Sizes.{name_count}
use Rattle.semantics.specs.Values.{cells}
use Rattle.semantics.specs.Setup.{limits, refusal}
use Rattle.std.specs.Prelude.{Result, Ok, Err, IsErrAnd}
use Rattle.setup.specs.declared.Refusal.{Refusal}
use Rattle.setup.specs.Lending.{number_of}
use Rattle.setup.proofs.Accepting.{number_some}
use Rattle.floor.specs.Floor.{Asked, label_most, before}
use Rattle.floor.specs.Promise.{before_of}
use Rattle.floor.specs.declared.Answer.{Answer}
use Rattle.floor.specs.declared.Answer.TheVariants.{Refused, BookMalformed, LabelTooLong, NoSlot, NoCells}

module _ (a : Asked) (sound : Bool) {n : ℕ} (q : n ≡ refusal a.script a.fuel a.lent) where
  pub is_refused : 0 < n → some (Refused n) ≡ before a sound
  unfolding before
  is_refused h =
      let some_number : ltb 0 (refusal a.script a.fuel a.lent) ≡ true = lt-ltb 0 (refusal a.script a.fuel a.lent) (omega (arith, q, h)) in
      ap (λ k. some (Refused k)) q ∙ rw (before, some_number) refl

  module _ (low : n ≤ 0) where
    accepted : ltb 0 (refusal a.script a.fuel a.lent) ≡ false
    accepted = le-ltb 0 (refusal a.script a.fuel a.lent) (omega (arith, q, low))

    pub is_malformed : not sound ≡ true → some BookMalformed ≡ before a sound
    unfolding before
    is_malformed t = rw (before, accepted, t) refl

    module _ (t : not sound ≡ false) where
      pub is_long : label_most < length a.label → some LabelTooLong ≡ before a sound
      unfolding before
      is_long h = rw (before, accepted, t, lt-ltb _ _ h) refl

      module _ (short : length a.label ≤ label_most) where
        pub has_no_slot : a.lent.dictionary_words / 12 < name_count + 1 → some NoSlot ≡ before a sound
        unfolding before limits
        has_no_slot h = rw (before, accepted, t, le-ltb _ _ short, lt-ltb _ _ h) refl

        module _ (slot : name_count + 1 ≤ a.lent.dictionary_words / 12) where
          pub has_no_cells : a.lent.cell_words / 4 < (length a.label + 7) / 8 + 1 → some NoCells ≡ before a sound
          unfolding before limits cells
          has_no_cells h = rw (before, accepted, t, le-ltb _ _ short, le-ltb _ _ slot, lt-ltb (a.lent.cell_words / 4) (1 + (length a.label + 7) / 8) (omega (arith, h))) refl

          pub goes_on_lem : (length a.label + 7) / 8 + 1 ≤ a.lent.cell_words / 4 → none ≡ before a sound
          unfolding before limits cells
          goes_on_lem h = rw (before, accepted, t, le-ltb _ _ short, le-ltb _ _ slot, le-ltb (a.lent.cell_words / 4) (1 + (length a.label + 7) / 8) (omega (arith, h))) refl

-- Setup's refusal is passed on by its number.
pub refusal_passed : (a : Asked) (sound : Bool) (r : Result (Unit {0}) Answer) (x : Refusal)
    → number_of x ≡ refusal a.script a.fuel a.lent → IsErrAnd r (λ y. y ≡ Refused (number_of x)) → before_of r ≡ before a sound
refusal_passed a sound (Ok k) x q h = absurd h
refusal_passed a sound (Err y) x q h = ap (λ (z : Answer). some z) h ∙ is_refused a sound q (number_some x)
