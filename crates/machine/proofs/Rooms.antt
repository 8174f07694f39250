-- The test of room: it passes where the words stand for the machine after the step and no object was made, and fails with stackoverflow where only
-- the stack is too deep, with execstackoverflow where the execution stack is.
-- Assumes nothing.
use Rattle.std.specs.Prelude.{Ok, Err}
use mathlib.Core.Path.{◌≡◌, refl, sym, ap, ◌∙◌}
use mathlib.Core.List.{List}
use Prim.Native.Nat.{ℕ, suc, ◌/◌, ◌≤◌, ◌<◌}
use native.Mathlib.Omega.{arith}
use lib.ListN.{length, drop_of_length-le, length-take, length-map}
use lib.Seq.{length-take-le}
use borrow.Author.Tests.{le-leb, lt-leb}
use Rattle.semantics.specs.Sizes.{operator_count}
use Rattle.semantics.specs.Values.{Value, Result, ok, fault, ◌>>=◌, check, Object}
use Rattle.semantics.specs.Machine as Floo
use Rattle.semantics.specs.Machine.{with_stack}
use Rattle.semantics.specs.Held.{sum_of}
use Rattle.semantics.specs.Steps.{Limits, room_for, new_cells, cells_for}
use Rattle.semantics.specs.declared.Error.{Error}
use Rattle.semantics.specs.declared.Error.TheVariants.{ExecStackOverflow, StackOverflow}
use Rattle.store.proofs.Standing.{titles_count}
use Rattle.machine.specs.Places.{keys}
use Rattle.machine.specs.Rep.{Rep, OnStack, OnHeap, Frames, frame}
use Rattle.machine.specs.Room.{lent, fitted, DoesStack, DoesHeap}
use Rattle.machine.specs.declared.Machine.{Machine}
use Rattle.machine.specs.Answers.{Did}
use Rattle.machine.proofs.Items.{items_length}

pub frames_length : {A : _} {g : _} {store : List Object} {words : List ℕ} {n : ℕ} {fs : List Floo.Frame} → Frames A g store words n fs → length fs ≡ n
frames_length Frames.bottom = refl
frames_length (frame h i) = ap suc (frames_length i)

-- ---- the sizes of a machine that the words stand for

module _ {m : Machine} {s e d c l : List ℕ} {μ : Floo.Machine} (R : Rep m s e d c l μ) where
  pub stack_fits : length μ.stack ≤ length s / 2
  stack_fits = omega (arith, items_length R.items, R.rooms.stack_fits)

  pub exec_fits : length μ.exec ≤ length e / 8
  exec_fits = omega (arith, frames_length R.frames, R.rooms.exec_fits)

  pub dictionary_fits : length μ.dictionary ≤ length d / 12
  dictionary_fits = omega (arith, R.naming.many, R.rooms.dict_fits)

  pub keys_enough : operator_count ≤ length (keys μ)
  keys_enough = omega (arith, ap length R.naming.titled, titles_count, length-take operator_count (keys μ))

  pub names_enough : operator_count ≤ m.names
  names_enough = omega (arith, keys_enough, R.naming.many, length-map μ.dictionary (λ (s : Floo.Slot). s.key))

  pub logged_length : length μ.log ≡ m.written
  logged_length = ap length (sym R.logging.logged) ∙ length-take-le m.written l R.logging.fits

  pub log_fits : length μ.log ≤ length l
  log_fits = omega (arith, logged_length, R.logging.fits)

-- ---- the test

pub no_new_cells : (before after : Floo.Machine) → length after.store ≡ length before.store → new_cells before after ≡ 0
unfolding new_cells sum_of
no_new_cells before after h = rw (drop_of_length-le after.store {i = length before.store} (omega arith)) refl

module _ (limits : Limits) (before after : Floo.Machine) (dictionary : length after.dictionary ≤ limits.dictionary_slots) (exec : length after.exec ≤ limits.exec_slots) where
  pub room_passes : length after.stack ≤ limits.stack_slots
      → length after.store ≡ length before.store
      → length after.log ≤ limits.log_bytes
      → room_for limits before after ≡ ok after
  unfolding room_for check ◌>>=◌ cells_for
  room_passes stack store log =
      rw (le-leb _ _ dictionary, le-leb _ _ exec, le-leb _ _ stack, no_new_cells before after store, le-leb _ _ log) refl

  pub room_stack : limits.stack_slots < length after.stack → room_for limits before after ≡ fault StackOverflow
  unfolding room_for check ◌>>=◌
  room_stack stack = rw (le-leb _ _ dictionary, le-leb _ _ exec, lt-leb _ _ stack) refl

pub room_exec : (limits : Limits) (before after : Floo.Machine)
    → length after.dictionary ≤ limits.dictionary_slots
    → limits.exec_slots < length after.exec
    → room_for limits before after ≡ fault ExecStackOverflow
unfolding room_for check ◌>>=◌
room_exec limits before after dictionary exec = rw (le-leb _ _ dictionary, lt-leb _ _ exec) refl

-- Where the words stand for the machine after, all fits. The words that are lent have the lengths of those before.
pub rep_fits : {m : Machine} {s e d c l : List ℕ} {after : Floo.Machine}
    → Rep m s e d c l after
    → (before : Floo.Machine) (s₀ e₀ c₀ : List ℕ)
    → length s ≡ length s₀
    → length e ≡ length e₀
    → length after.store ≡ length before.store
    → room_for (lent s₀ e₀ d c₀ l) before after ≡ ok after
unfolding lent
rep_fits {d = d} {l = l} {after = after} R before s₀ e₀ c₀ long slots store =
    let stack : length after.stack ≤ length s₀ / 2 = omega (arith, stack_fits R) in
    let exec : length after.exec ≤ length e₀ / 8 = omega (arith, exec_fits R) in
    room_passes (lent s₀ e₀ d c₀ l) before after (dictionary_fits R) exec stack store (log_fits R)

pub rep_passes : {m : Machine} {s e d c l : List ℕ} {after : Floo.Machine}
    → Rep m s e d c l after
    → (before : Floo.Machine) (s₀ : List ℕ) (c₀ : List ℕ)
    → length s ≡ length s₀
    → length after.store ≡ length before.store
    → room_for (lent s₀ e d c₀ l) before after ≡ ok after
rep_passes {e = e} R before s₀ c₀ long store = rep_fits R before s₀ e c₀ long refl store

-- Where the stack has not grown, and nothing else has changed, all fits.
pub stack_passes : {m : Machine} {s e d c l : List ℕ} {μ : Floo.Machine}
    → Rep m s e d c l μ
    → (new : List Value)
    → length new ≤ length μ.stack
    → room_for (lent s e d c l) μ (with_stack new μ) ≡ ok (with_stack new μ)
unfolding lent with_stack
stack_passes {s = s} {e = e} {d = d} {c = c} {l = l} {μ = μ} R new few =
    let stack : length new ≤ length s / 2 = omega (arith, stack_fits R) in
    room_passes (lent s e d c l) μ (with_stack new μ) (dictionary_fits R) (exec_fits R) stack refl (log_fits R)

-- What fails, fails with the test of room after it.
pub fitted_fails : (limits : Limits) (f : Floo.Machine → Result Floo.Machine) (μ : Floo.Machine) {x : Error} → f μ ≡ fault x → fitted limits f μ ≡ fault x
unfolding fitted ◌>>=◌
fitted_fails limits f μ e = ap (λ q. q >>= room_for limits μ) e

-- ---- operators that make no object

-- An operator whose results have as many objects as before.
abbrev pub MakesNone : (Floo.Machine → Result Floo.Machine) → Type 0
MakesNone f = (before after : Floo.Machine) → f before ≡ ok after → length after.store ≡ length before.store

pub lift_stack : {f : Floo.Machine → Result Floo.Machine} {m : Machine} {s s' : List ℕ} (r : Did)
    → MakesNone f
    → length s' ≡ length s
    → OnStack f m s s' r
    → DoesStack f m s s' r
unfolding fitted ◌>>=◌
lift_stack {s = s} (Err x) none long O =
    record { does = λ e d c l μ R. let a = O.does e d c l μ R in (ap (λ q. q >>= room_for (lent s e d c l) μ) a.0, a.1) }
lift_stack {s = s} (Ok m') none long O =
    record {
      does = λ e d c l μ R.
          let a = O.does e d c l μ R in
          (a.0, ap (λ q. q >>= room_for (lent s e d c l) μ) a.1 ∙ rep_passes a.2 μ s c long (none μ a.0 a.1), a.2);
    }

pub lift_heap : {f : Floo.Machine → Result Floo.Machine} {m : Machine} {s s' c c' : List ℕ} (r : Did)
    → MakesNone f
    → length s' ≡ length s
    → OnHeap f m s s' c c' r
    → DoesHeap f m s s' c c' r
unfolding fitted ◌>>=◌
lift_heap {s = s} {c = c} (Err x) none long O =
    record { does = λ e d l μ R. let a = O.does e d l μ R in (ap (λ q. q >>= room_for (lent s e d c l) μ) a.0, a.1) }
lift_heap {s = s} {c = c} (Ok m') none long O =
    record {
      does = λ e d l μ R.
          let a = O.does e d l μ R in
          (a.0, ap (λ q. q >>= room_for (lent s e d c l) μ) a.1 ∙ rep_passes a.2 μ s c long (none μ a.0 a.1), a.2);
    }
