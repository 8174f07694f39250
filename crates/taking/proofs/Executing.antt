-- An executable name by its slot: it is undefined where the slot's binding has the tag of none, or where no slot has the name; else its binding is pending,
-- where the execution stack has room.
-- Assumes nothing.
use Rattle.std.specs.Prelude.{Ok, Err}
use mathlib.Core.Path.{◌≡◌, refl, ap, ◌∙◌}
use mathlib.Core.List.{List}
use mathlib.Core.Option.{none, some}
use Prim.Native.Nat.{ℕ, ◌+◌, ◌*◌, ◌/◌, ◌≤◌, ◌<◌}
use native.Mathlib.Omega.{arith}
use lib.ListN.{length}
use Rattle.semantics.specs.Sizes.{exec_words_most, dictionary_words_most}
use Rattle.semantics.specs.Values.{Value, ok, fault, ◌>>=◌, given}
use Rattle.semantics.specs.Machine as Floo
use Rattle.semantics.specs.Machine.{pending, with_exec, enter, lookup}
use Rattle.semantics.specs.Steps.{room_for}
use Rattle.semantics.specs.declared.Error.TheVariants.{Undefined, ExecStackOverflow}
use Rattle.machine.specs.Words.{binding_tag}
use Rattle.machine.specs.Room.{lent, fitted}
use Rattle.machine.specs.declared.Machine.{Machine}
use Rattle.machine.specs.Answers.{Did}
use Rattle.machine.proofs.Rooms.{fitted_fails, room_exec, rep_fits, dictionary_fits, frames_length}
use Rattle.dictionary.specs.Names.{Finds}
use Rattle.dictionary.specs.Bindings.{BoundFrames, PendsBinding}
use Rattle.dictionary.proofs.Lookups.{lookup_missing, find_key, find_none}
use Rattle.dictionary.proofs.Rebinding.{slot_room, binding_at_lem, bound_none, bound_some}
use Rattle.taking.specs.Effects.{executable_taken}
use Rattle.taking.specs.Promises.{Bindings, NamedBindings, DoesBinding, DoesNamed}

-- ---- what the definition makes of it

module _ (n : List ℕ) (μ : Floo.Machine) where
  undefined : lookup n μ.dictionary ≡ none → executable_taken n μ ≡ fault Undefined
  unfolding executable_taken given ◌>>=◌
  undefined q = ap (λ o. given o Undefined >>= λ v. ok (enter (pending v) μ)) q

  defined : {v : Value} → lookup n μ.dictionary ≡ some v → executable_taken n μ ≡ ok (enter (pending v) μ)
  unfolding executable_taken given ◌>>=◌
  defined q = ap (λ o. given o Undefined >>= λ v. ok (enter (pending v) μ)) q

-- ---- a name by its slot

module _ {k : ℕ} {m : Machine} {e d c : List ℕ} where
  pub name_room : NamedBindings k m e d c → (12 * k + 12 ≤ length d) × (length d ≤ dictionary_words_most) × (8 * m.frames ≤ length e) × (length e ≤ exec_words_most)
  name_room (s, l, μ, n, key, R) = (slot_room R k n key, R.rooms.dict_few, R.rooms.exec_fits, R.rooms.exec_few)

  pub name_unbound : binding_tag d k ≡ 7 → DoesNamed k m e e d c c (Err Undefined)
  name_unbound tag = record {
    does = λ s l μ R n key. (fitted_fails (lent s e d c l) (executable_taken n) μ (undefined n μ (bound_none (binding_at_lem R k n key).0 tag)), (refl, refl));
  }

  module _ (tag : binding_tag d k ≡ 7 → ⊥) where
    pub name_full : length e < 8 * m.frames + 8 → DoesNamed k m e e d c c (Err ExecStackOverflow)
    unfolding fitted lent enter with_exec ◌>>=◌
    name_full full = record {
      does = λ s l μ R n key.
          let x = bound_some (binding_at_lem R k n key).0 tag in
          let over : length e / 8 < length (enter (pending x.0) μ).exec = omega (arith, frames_length R.frames) in
          (ap (λ q. q >>= room_for (lent s e d c l) μ) (defined n μ x.1) ∙ room_exec (lent s e d c l) μ (enter (pending x.0) μ) (dictionary_fits R) over, (refl, refl));
    }

    pub name_bound : NamedBindings k m e d c → BoundFrames k m e d c
    name_bound (s, l, μ, n, key, R) =
        let x = bound_some (binding_at_lem R k n key).0 tag in
        (s, l, μ, n, x.0, record { slot = key; value = x.1 }, R)

    pub name_done : {r : Machine} {e' c' : List ℕ} → PendsBinding k m r e e' d c c' → length e' ≡ length e → DoesNamed k m e e' d c c' (Ok r)
    unfolding fitted enter with_exec ◌>>=◌
    name_done P long = record {
      does = λ s l μ R n key.
          let x = bound_some (binding_at_lem R k n key).0 tag in
          let after = P.moves s l μ R n x.0 key x.1 in
          (enter (pending x.0) μ, ap (λ q. q >>= room_for (lent s e d c l) μ) (defined n μ x.1) ∙ rep_fits after μ s e c refl long refl, after);
    }

-- ---- a name by its bytes

module _ {n : List ℕ} {k : ℕ} {m : Machine} {e d c : List ℕ} (F : Finds m d n k) (low : k < m.names) where
  pub name_there : Bindings m e d c → NamedBindings k m e d c
  name_there (s, l, μ, R) = (s, l, μ, n, find_key R F low, R)

  pub name_taken : {e' c' : List ℕ} {r : Did} → DoesNamed k m e e' d c c' r → DoesBinding (executable_taken n) m e e' d c c' r
  name_taken D = record { does = λ s l μ R. D.does s l μ R n (find_key R F low) }

pub name_missing : {n : List ℕ} {m : Machine} {e d c : List ℕ} → Finds m d n m.names → DoesBinding (executable_taken n) m e e d c c (Err Undefined)
name_missing {n} {m} {e} {d} {c} F = record {
  does = λ s l μ R.
      (fitted_fails (lent s e d c l) (executable_taken n) μ (undefined n μ (lookup_missing n μ.dictionary (find_none R F (omega arith) (omega arith)))), (refl, refl));
}
