-- From what an operator does to every machine that the words stand for, its promise with the test of room.
-- Assumes nothing.
use Rattle.std.specs.Prelude.{Ok, Err}
use mathlib.Core.Path.{◌≡◌, refl, ap, ◌∙◌}
use mathlib.Core.List.{List}
use Prim.Native.Nat.{ℕ, ◌+◌, ◌*◌, ◌/◌, ◌<◌}
use native.Mathlib.Omega.{arith}
use lib.ListN.{length}
use Rattle.semantics.specs.Values.{Value, Result, ok, fault, ◌>>=◌}
use Rattle.semantics.specs.Machine as Floo
use Rattle.semantics.specs.Machine.{Frame, with_stack, with_exec, enter}
use Rattle.semantics.specs.Steps.{room_for}
use Rattle.semantics.specs.declared.Error.TheVariants.{ExecStackOverflow}
use Rattle.machine.specs.Rep.{Rep}
use Rattle.machine.specs.Room.{lent, fitted}
use Rattle.machine.specs.declared.Machine.{Machine}
use Rattle.machine.specs.Answers.{Did}
use Rattle.machine.proofs.Rooms.{rep_fits, room_exec, dictionary_fits, frames_length}
use Rattle.control_operators.specs.Promises.{DoesState, DoesSlots, DoesCells, DoesFrames}

module _ (f : Floo.Machine → Result Floo.Machine) (s e d c l : List ℕ) (μ : Floo.Machine) where
  pub fit_full : {m : Machine}
      → Rep m s e d c l μ
      → length e < 8 * m.frames + 8
      → (g : Frame) (stack : List Value)
      → f μ ≡ ok (enter g (with_stack stack μ))
      → fitted (lent s e d c l) f μ ≡ fault ExecStackOverflow
  unfolding fitted ◌>>=◌ enter with_exec with_stack lent
  fit_full R full g stack q =
      let over : length e / 8 < length (enter g (with_stack stack μ)).exec = omega (arith, frames_length R.frames) in
      ap (λ t. t >>= room_for (lent s e d c l) μ) q ∙ room_exec (lent s e d c l) μ (enter g (with_stack stack μ)) (dictionary_fits R) over

  pub fit_ok : {m' : Machine} {s' e' c' : List ℕ} {after : Floo.Machine}
      → Rep m' s' e' d c' l after
      → f μ ≡ ok after
      → length s' ≡ length s
      → length e' ≡ length e
      → length after.store ≡ length μ.store
      → fitted (lent s e d c l) f μ ≡ ok after
  unfolding fitted ◌>>=◌
  fit_ok R q stack exec store = ap (λ t. t >>= room_for (lent s e d c l) μ) q ∙ rep_fits R μ s e c stack exec store

-- A promise that leaves words out is one for all such words.
pub state_frames : {f : Floo.Machine → Result Floo.Machine} {m : Machine} (r : Did) → DoesState f m r → (s e c : List ℕ) → DoesFrames f m s s e e c c r
state_frames (Err x) D s e c = record { does = λ d l μ R. ((D.does s e d c l μ R).0, (refl, refl, refl)) }
state_frames (Ok m') D s e c = record { does = λ d l μ R. D.does s e d c l μ R }

pub cells_frames : {f : Floo.Machine → Result Floo.Machine} {m : Machine} {e c c' : List ℕ} (r : Did) → DoesCells f m e c c' r → (s : List ℕ) → DoesFrames f m s s e e c c' r
cells_frames (Err x) D s = record { does = λ d l μ R. let a = D.does s d l μ R in (a.0, (refl, refl, a.1)) }
cells_frames (Ok m') D s = record { does = λ d l μ R. D.does s d l μ R }

pub slots_frames : {f : Floo.Machine → Result Floo.Machine} {m : Machine} {s e e' : List ℕ} (r : Did) → DoesSlots f m s e e' r → (c : List ℕ) → DoesFrames f m s s e e' c c r
slots_frames (Err x) D c = record { does = λ d l μ R. let a = D.does d c l μ R in (a.0, (refl, a.1, refl)) }
slots_frames (Ok m') D c = record { does = λ d l μ R. D.does d c l μ R }
