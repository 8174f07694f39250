-- The stack's front changes, from items that name no object to others that name none: `Rep` holds of the machine with the new stack.
-- Assumes nothing.
use mathlib.Core.Path.{◌≡◌}
use mathlib.Core.List.{List, ◌++◌}
use Prim.Native.Nat.{ℕ, ◌*◌, ◌≤◌}
use native.Mathlib.Omega.{arith}
use lib.ListN.{length}
use Rattle.semantics.specs.Values.{Value}
use Rattle.semantics.specs.Machine as Floo
use Rattle.semantics.specs.Machine.{with_stack}
use Rattle.semantics.specs.ListLaws.{All}
use Rattle.store.proofs.Rooting.{rep_alike}
use Rattle.machine.specs.Places.{Nameless}
use Rattle.machine.specs.Rep.{Rep, IsIn, Items}
use Rattle.machine.specs.declared.Machine.{Machine}
use Rattle.machine.proofs.Naming.{front_alike}

-- The small state with another depth.
abbrev pub at_depth : ℕ → Machine → Machine
at_depth n m = record { depth = n; frames = m.frames; names = m.names; written = m.written; lists = m.lists; stopped = m.stopped }

module _ {m : Machine} {st e d c l : List ℕ} {μ : Floo.Machine} (R : Rep m st e d c l μ) where
  pub restack : (st' : List ℕ) (n : ℕ) (old new rest : List Value)
      → μ.stack ≡ old ++ rest
      → All Nameless old
      → All Nameless new
      → length st' ≡ length st
      → 2 * n ≤ length st
      → Items (IsIn R.world μ) st' n (new ++ rest)
      → Rep (at_depth n m) st' e d c l (with_stack (new ++ rest) μ)
  unfolding with_stack
  restack st' n old new rest s p q long fits items =
      record {
        world = R.world;
        stored = record {
          full = R.stored.full;
          none_dead = R.stored.none_dead;
          none_out = R.stored.none_out;
          objects = rep_alike R.stored.objects (front_alike μ old new rest s p q);
        };
        items = items;
        frames = R.frames;
        slots = R.slots;
        handled = R.handled;
        sealed = R.sealed;
        naming = R.naming;
        logging = R.logging;
        stopped = R.stopped;
        rooms = record {
          stack_fits = omega arith;
          exec_fits = R.rooms.exec_fits;
          dict_fits = R.rooms.dict_fits;
          stack_few = omega (arith, R.rooms.stack_few);
          exec_few = R.rooms.exec_few;
          dict_few = R.rooms.dict_few;
        };
      }
