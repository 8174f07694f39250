-- A literal name by its slot: where it has none, the dictionary's room is tested before the stack's, and the new slot is its own.
-- Assumes nothing.
use Rattle.std.specs.Prelude.{Ok, Err}
use mathlib.Core.Path.{◌≡◌, refl, sym, ap, subst}
use mathlib.Core.Bool.{false}
use mathlib.Core.List.{List, ◌∷◌}
use mathlib.Core.Option.{some}
use Prim.Native.Nat.{ℕ, ◌+◌, ◌*◌, ◌/◌, ◌≤◌, ◌<◌}
use native.Mathlib.Omega.{arith}
use lib.ListN.{length, get_elem?}
use Rattle.semantics.specs.Sizes.{stack_words_most, dictionary_words_most}
use Rattle.semantics.specs.Values.{name, ◌>>=◌}
use Rattle.semantics.specs.Machine as Floo
use Rattle.semantics.specs.Machine.{with_stack, with_dictionary, push, intern, slotted}
use Rattle.semantics.specs.declared.Error.TheVariants.{LimitCheck, StackOverflow}
use Rattle.machine.specs.Places.{keys}
use Rattle.machine.specs.Rep.{Rep}
use Rattle.machine.specs.Room.{lent, fitted}
use Rattle.machine.specs.declared.Machine.{Machine}
use Rattle.machine.proofs.Items.{items_length}
use Rattle.machine.proofs.Rooms.{room_passes, room_stack, stack_fits, exec_fits, dictionary_fits, log_fits}
use Rattle.dictionary.specs.Names.{slot_of, Finds, Adds}
use Rattle.dictionary.proofs.Lookups.{found_key, slotted_found, slotted_missing, slotted_slot, slotted_has, find_has, find_key, find_none, room_slots}
use Rattle.taking.specs.Effects.{literal_taken}
use Rattle.taking.specs.Promises.{Names, DoesNames, PushesName}

pub names_room : {m : Machine} {s d : List ℕ} → Names m s d → (2 * m.depth ≤ length s) × (length s ≤ stack_words_most) × (12 * m.names ≤ length d) × (length d ≤ dictionary_words_most)
names_room (e, c, l, μ, R) = (R.rooms.stack_fits, R.rooms.stack_few, R.rooms.dict_fits, R.rooms.dict_few)

module _ {n : List ℕ} {k : ℕ} {m : Machine} {s d : List ℕ} (F : Finds m d n k) where
  -- ---- the name has a slot

  module _ (low : k < m.names) where
    unchanged : {e c l : List ℕ} {μ : Floo.Machine} → Rep m s e d c l μ → slotted n μ.dictionary ≡ μ.dictionary
    unchanged {μ = μ} R = slotted_found n μ.dictionary (find_has R F low)

    pub known_over : length s < 2 * m.depth + 2 → DoesNames (literal_taken n) m s s d d (Err StackOverflow)
    unfolding literal_taken fitted lent push intern with_stack with_dictionary ◌>>=◌
    known_over over = record {
      does = λ e c l μ R.
          let deep : length s / 2 < length (name false n ∷ μ.stack) = omega (arith, items_length R.items) in
          let few : length (slotted n μ.dictionary) ≤ length d / 12 = omega (arith, ap length (unchanged R), dictionary_fits R) in
          (room_stack (lent s e d c l) μ (push (name false n) (intern n μ)) few (exec_fits R) deep, (refl, refl));
    }

    pub known_done : {r : Machine} {s' : List ℕ} → PushesName k m r s s' → length s' ≡ length s → DoesNames (literal_taken n) m s s' d d (Ok r)
    unfolding literal_taken fitted lent push intern with_stack with_dictionary ◌>>=◌
    known_done {r} {s'} P long = record {
      does = λ e c l μ R.
          let after = subst (λ x. Rep r s' e d c l (push (name false n) (with_dictionary x μ))) (sym (unchanged R)) (P.moves e d c l μ R n (find_key R F low)) in
          let stack : length (name false n ∷ μ.stack) ≤ length s / 2 = omega (arith, stack_fits after) in
          (push (name false n) (intern n μ), room_passes (lent s e d c l) μ (push (name false n) (intern n μ)) (dictionary_fits after) (exec_fits R) stack refl (log_fits R), after);
    }

-- ---- it takes the next one

module _ {n : List ℕ} {m : Machine} {s d : List ℕ} (F : Finds m d n m.names) where
  missing : {e c l : List ℕ} {μ : Floo.Machine} → Rep m s e d c l μ → length (slotted n μ.dictionary) ≡ m.names + 1
  missing {μ = μ} R = omega (arith, slotted_missing n μ.dictionary (find_none R F (omega arith) (omega arith)), R.naming.many)

  pub new_full : length d < 12 * m.names + 12 → DoesNames (literal_taken n) m s s d d (Err LimitCheck)
  unfolding literal_taken fitted lent push intern with_stack with_dictionary ◌>>=◌
  new_full full = record {
    does = λ e c l μ R.
        let many : length d / 12 < length (slotted n μ.dictionary) = omega (arith, missing R) in
        (room_slots (lent s e d c l) μ (push (name false n) (intern n μ)) many, (refl, refl));
  }

  module _ (room : 12 * m.names + 12 ≤ length d) where
    few_names : {e c l : List ℕ} {μ : Floo.Machine} → Rep m s e d c l μ → length (slotted n μ.dictionary) ≤ length d / 12
    few_names R = omega (arith, missing R)

    pub new_over : length s < 2 * m.depth + 2 → DoesNames (literal_taken n) m s s d d (Err StackOverflow)
    unfolding literal_taken fitted lent push intern with_stack with_dictionary ◌>>=◌
    new_over over = record {
      does = λ e c l μ R.
          let deep : length s / 2 < length (name false n ∷ μ.stack) = omega (arith, items_length R.items) in
          (room_stack (lent s e d c l) μ (push (name false n) (intern n μ)) (few_names R) (exec_fits R) deep, (refl, refl));
    }

    pub new_done : {a r : Machine} {s' d' : List ℕ}
        → Adds m a d d' n
        → PushesName m.names a r s s'
        → length s' ≡ length s
        → DoesNames (literal_taken n) m s s' d d' (Ok r)
    unfolding literal_taken fitted lent push intern with_stack with_dictionary ◌>>=◌
    new_done A P long = record {
      does = λ e c l μ R.
          let is : slot_of n μ.dictionary ≡ m.names = omega (arith, find_none R F (omega arith) (omega arith), R.naming.many) in
          let at : slot_of n (slotted n μ.dictionary) ≡ m.names = omega (arith, slotted_slot n μ.dictionary, F.says s e c l μ R) in
          let key : get_elem? (keys (intern n μ)) m.names ≡ some n = subst (λ i. get_elem? (keys (intern n μ)) i ≡ some n) at (found_key n (slotted n μ.dictionary) (slotted_has n μ.dictionary)) in
          let after = P.moves e _ c l (intern n μ) (A.moves s e c l μ R is) n key in
          let stack : length (name false n ∷ μ.stack) ≤ length s / 2 = omega (arith, stack_fits after) in
          (push (name false n) (intern n μ), room_passes (lent s e d c l) μ (push (name false n) (intern n μ)) (few_names R) (exec_fits R) stack refl (log_fits R), after);
    }
