-- The test of room after a step on the topmost slot, and a promise from what the step does to each machine that the words stand for.
-- Assumes nothing.
use Rattle.std.specs.Prelude.{Ok, Err}
use mathlib.Core.Path.{◌≡◌, refl, sym, ap, ◌∙◌, subst}
use mathlib.Core.List.{List}
use Prim.Native.Nat.{ℕ, suc, ◌+◌, ◌*◌, ◌/◌, ◌≤◌, ◌<◌}
use native.Mathlib.Omega.{arith}
use lib.ListN.{length}
use Rattle.semantics.specs.Values.{ok, fault, ◌>>=◌}
use Rattle.semantics.specs.Machine as Floo
use Rattle.semantics.specs.Steps.{room_for}
use Rattle.semantics.specs.declared.Error.{Error}
use Rattle.semantics.specs.declared.Error.TheVariants.{ExecStackOverflow, StackOverflow}
use Rattle.machine.specs.Rep.{Rep}
use Rattle.machine.specs.Room.{lent, fitted}
use Rattle.machine.specs.declared.Machine.{Machine}
use Rattle.machine.specs.Answers.{Did}
use Rattle.machine.proofs.Items.{items_length}
use Rattle.machine.proofs.Rooms.{frames_length, room_exec, room_stack, dictionary_fits}
use Rattle.control_operators.specs.Promises.{DoesFrames}
use Rattle.control_operators.proofs.Promising.{fit_ok}
use Rattle.turns.specs.Turns.{resumed, DoesTurn, DoesItems}

-- ---- no room

module _ {m : Machine} {s e d c l : List ℕ} {μ after : Floo.Machine} (R : Rep m s e d c l μ) (gives : resumed μ ≡ ok after) (names : after.dictionary ≡ μ.dictionary) where
  known : length after.dictionary ≤ length d / 12
  known = subst (λ x. length x ≤ length d / 12) (sym names) (dictionary_fits R)

  -- One slot more than there are.
  pub slots_over : length e < 8 * m.frames + 8 → length after.exec ≡ suc (length μ.exec) → fitted (lent s e d c l) resumed μ ≡ fault ExecStackOverflow
  unfolding fitted ◌>>=◌ lent
  slots_over full more =
      let over : length e / 8 < length after.exec = omega (arith, more, frames_length R.frames) in
      ap (λ r. r >>= room_for (lent s e d c l) μ) gives ∙ room_exec (lent s e d c l) μ after known over

  -- One item more than there is room for.
  pub items_over : length s < 2 * m.depth + 2
      → length after.stack ≡ suc (length μ.stack)
      → length after.exec ≤ length e / 8
      → fitted (lent s e d c l) resumed μ ≡ fault StackOverflow
  unfolding fitted ◌>>=◌ lent
  items_over full more slots =
      let over : length s / 2 < length after.stack = omega (arith, more, items_length R.items) in
      ap (λ r. r >>= room_for (lent s e d c l) μ) gives ∙ room_stack (lent s e d c l) μ after known slots over

-- ---- promises

-- What a step comes to where there is room.
pub record Done (r : Machine) (s e d c l : List ℕ) (μ : Floo.Machine) : Type 0 where
  pub after : Floo.Machine
  pub gives : resumed μ ≡ ok after
  pub made : length after.store ≡ length μ.store
  pub stands : Rep r s e d c l after

pub turn_fails : {m : Machine} {e c : List ℕ} {x : Error}
    → ((s d l : List ℕ) (μ : Floo.Machine) → Rep m s e d c l μ → fitted (lent s e d c l) resumed μ ≡ fault x)
    → DoesTurn resumed m e e c c (Err x)
turn_fails g = record { does = λ s d l μ R. (g s d l μ R, (refl, refl)) }

pub turn_does : {m r : Machine} {e e' c c' : List ℕ}
    → length e' ≡ length e
    → ((s d l : List ℕ) (μ : Floo.Machine) → Rep m s e d c l μ → Done r s e' d c' l μ)
    → DoesTurn resumed m e e' c c' (Ok r)
turn_does {e = e} {c = c} long g =
    record {
      does = λ s d l μ R.
          let x = g s d l μ R in
          (x.after, fit_ok resumed s e d c l μ x.stands x.gives refl long x.made, x.stands);
    }

pub items_fails : {m : Machine} {s e : List ℕ} {x : Error}
    → ((d c l : List ℕ) (μ : Floo.Machine) → Rep m s e d c l μ → fitted (lent s e d c l) resumed μ ≡ fault x)
    → DoesItems resumed m s s e (Err x)
items_fails g = record { does = λ d c l μ R. (g d c l μ R, refl) }

pub items_does : {m r : Machine} {s s' e : List ℕ}
    → length s' ≡ length s
    → ((d c l : List ℕ) (μ : Floo.Machine) → Rep m s e d c l μ → Done r s' e d c l μ)
    → DoesItems resumed m s s' e (Ok r)
items_does {s = s} {e = e} long g =
    record {
      does = λ d c l μ R.
          let x = g d c l μ R in
          (x.after, fit_ok resumed s e d c l μ x.stands x.gives long refl x.made, x.stands);
    }

pub frames_fails : {m : Machine} {s e c : List ℕ} {x : Error}
    → ((d l : List ℕ) (μ : Floo.Machine) → Rep m s e d c l μ → fitted (lent s e d c l) resumed μ ≡ fault x)
    → DoesFrames resumed m s s e e c c (Err x)
frames_fails g = record { does = λ d l μ R. (g d l μ R, (refl, refl, refl)) }

pub frames_does : {m r : Machine} {s s' e e' c c' : List ℕ}
    → length s' ≡ length s
    → length e' ≡ length e
    → ((d l : List ℕ) (μ : Floo.Machine) → Rep m s e d c l μ → Done r s' e' d c' l μ)
    → DoesFrames resumed m s s' e e' c c' (Ok r)
frames_does {s = s} {e = e} {c = c} stack exec g =
    record {
      does = λ d l μ R.
          let x = g d l μ R in
          (x.after, fit_ok resumed s e d c l μ x.stands x.gives stack exec x.made, x.stands);
    }

-- A promise that leaves words out is one for all such words.
pub turn_frames : {m : Machine} {e e' c c' : List ℕ} (r : Did) → DoesTurn resumed m e e' c c' r → (s : List ℕ) → DoesFrames resumed m s s e e' c c' r
turn_frames (Err x) D s = record { does = λ d l μ R. let a = D.does s d l μ R in (a.0, (refl, a.1.0, a.1.1)) }
turn_frames (Ok m') D s = record { does = λ d l μ R. D.does s d l μ R }

pub items_frames : {m : Machine} {s s' e : List ℕ} (r : Did) → DoesItems resumed m s s' e r → (c : List ℕ) → DoesFrames resumed m s s' e e c c r
items_frames (Err x) D c = record { does = λ d l μ R. let a = D.does d c l μ R in (a.0, (a.1, refl, refl)) }
items_frames (Ok m') D c = record { does = λ d l μ R. D.does d c l μ R }
