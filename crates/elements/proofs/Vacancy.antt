-- The test of room for new objects: it passes where their cells are at most the free ones and all else fits, and fails with VMerror where they are more;
-- the free cells are those that no held object takes. So an operator that makes objects needs only to compare two numbers.
-- Assumes nothing.
use Rattle.std.specs.Prelude.{Ok, Err}
use mathlib.Core.Path.{◌≡◌, refl, ap, ◌∙◌}
use mathlib.Core.List.{List, [], ◌∷◌, ◌++◌}
use Prim.Native.Nat.{ℕ, ◌/◌, ◌≤◌, ◌<◌}
use native.Mathlib.Omega.{arith}
use borrow.Author.Tests.{le-leb, lt-leb}
use lib.ListN.{length, drop}
use lib.Dec.{leb}
use lib.Seq.{drop-append_seam}
use Rattle.semantics.specs.Values.{Value, Object, Result, ok, fault, ◌>>=◌, check, cells}
use Rattle.semantics.specs.Machine as Floo
use Rattle.semantics.specs.Machine.{with_stack, with_store, push, make, made}
use Rattle.semantics.specs.Held.{sum_of}
use Rattle.semantics.specs.Steps.{room_for, new_cells, cells_for}
use Rattle.semantics.specs.ObjectOperators.{push_new}
use Rattle.semantics.specs.declared.Error.TheVariants.{VmError, IoError}
use Rattle.store.proofs.Rooming.{lists_for}
use Rattle.machine.specs.Rep.{Rep, MovesHeap}
use Rattle.machine.specs.Room.{lent, fitted, DoesHeap}
use Rattle.machine.specs.declared.Machine.{Machine}
use Rattle.machine.proofs.Rooms.{stack_fits, exec_fits, dictionary_fits, log_fits}
use Rattle.machine.proofs.Rooted.{rooted}
use Rattle.elements.specs.Elements.{free_cells}

-- ---- the test

new_cells_lem : (before after : Floo.Machine) (new : List Object) → after.store ≡ before.store ++ new → new_cells before after ≡ sum_of cells new
unfolding new_cells
new_cells_lem before after new e =
    ap (λ l. sum_of cells (drop (length before.store) l)) e ∙ ap (sum_of cells) (drop-append_seam before.store new)

module _ {m : Machine} {s e d c l : List ℕ} {μ : Floo.Machine} (R : Rep m s e d c l μ) where
  -- VMerror goes by the free cells.
  pub cells_for_lem : (need : ℕ) → cells_for (lent s e d c l) μ need ≡ check (leb need (free_cells m c)) VmError
  unfolding lent
  cells_for_lem need =
      let H = R.stored in
      lists_for μ H.full H.none_dead H.none_out H.objects (rooted μ) (lent s e d c l) refl need

  module _ (after : Floo.Machine) (new : List Object) (store : after.store ≡ μ.store ++ new)
      (dictionary : length after.dictionary ≤ length d / 12) (exec : length after.exec ≤ length e / 8) (stack : length after.stack ≤ length s / 2) where
    room_cells : room_for (lent s e d c l) μ after
        ≡ (check (leb (sum_of cells new) (free_cells m c)) VmError >>= λ _. check (leb (length after.log) (length l)) IoError >>= λ _. ok after)
    unfolding room_for check ◌>>=◌ lent
    room_cells =
        rw (le-leb _ _ dictionary, le-leb _ _ exec, le-leb _ _ stack, new_cells_lem μ after new store, cells_for_lem (sum_of cells new)) refl

    pub room_made : sum_of cells new ≤ free_cells m c → length after.log ≤ length l → room_for (lent s e d c l) μ after ≡ ok after
    unfolding check ◌>>=◌
    room_made few log = room_cells ∙ rw (le-leb _ _ few, le-leb _ _ log) refl

    pub room_none : free_cells m c < sum_of cells new → room_for (lent s e d c l) μ after ≡ fault VmError
    unfolding check ◌>>=◌
    room_none many = room_cells ∙ rw (lt-leb _ _ many) refl

-- ---- returns

-- New objects are made, and else the stack alone changes.
pub record Makes (new : List Object) (before after : Floo.Machine) : Type 0 where
  pub dictionary : after.dictionary ≡ before.dictionary
  pub exec : after.exec ≡ before.exec
  pub store : after.store ≡ before.store ++ new

pub push_makes : (v : ℕ → Value) (o : Object) (rest : List Value) (μ : Floo.Machine) → Makes (o ∷ []) μ (push_new v o (with_stack rest μ))
unfolding push_new push make with_stack with_store
push_makes v o rest μ = record { dictionary = refl; exec = refl; store = refl }

module _ {f : Floo.Machine → Result Floo.Machine} {m : Machine} {s c : List ℕ} where
  -- The objects that the primitives made have cells that were free.
  pub makes_heap : {g : Floo.Machine → Floo.Machine} {m' : Machine} {s' c' : List ℕ}
      → MovesHeap g m m' s s' c c'
      → length s' ≡ length s
      → ((e d l : List ℕ) (μ : Floo.Machine) → Rep m s e d c l μ
      → (new : List Object) × (f μ ≡ ok (g μ)) × ((g μ).store ≡ μ.store ++ new) × (sum_of cells new ≤ free_cells m c))
      → DoesHeap f m s s' c c' (Ok m')
  unfolding fitted ◌>>=◌
  makes_heap {g} G long h =
      record {
        does = λ e d l μ R.
            let after = G.moves e d l μ R in
            let t = h e d l μ R in
            let stack : length (g μ).stack ≤ length s / 2 = omega (arith, stack_fits after) in
            (g μ, ap (λ q. q >>= room_for (lent s e d c l) μ) t.1 ∙ room_made R (g μ) t.0 t.2 (dictionary_fits after) (exec_fits after) stack t.3 (log_fits after), after);
      }

  -- The objects that it would make want more cells than are free.
  pub full_heap : ((e d l : List ℕ) (μ : Floo.Machine) → Rep m s e d c l μ
      → (after : Floo.Machine) × (new : List Object) × (f μ ≡ ok after) × Makes new μ after × (length after.stack ≤ length s / 2) × (free_cells m c < sum_of cells new))
      → DoesHeap f m s s c c (Err VmError)
  unfolding fitted ◌>>=◌
  full_heap h =
      record {
        does = λ e d l μ R.
            let t = h e d l μ R in
            let M = t.3 in
            let dictionary : length t.0.dictionary ≤ length d / 12 = omega (arith, dictionary_fits R, ap length M.dictionary) in
            let exec : length t.0.exec ≤ length e / 8 = omega (arith, exec_fits R, ap length M.exec) in
            (ap (λ q. q >>= room_for (lent s e d c l) μ) t.2 ∙ room_none R t.0 t.1 M.store dictionary exec t.4 t.5, (refl, refl));
      }
