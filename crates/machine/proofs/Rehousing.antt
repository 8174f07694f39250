-- The objects, the heap and the stack change at once: `Rep` holds of the new machine where the heap stands for the new objects, what places still reach is
-- carried over, a running procedure keeps its length and its cells, and the mark for read only is on the same objects.
-- Assumes nothing.
use mathlib.Core.Path.{◌≡◌, refl, sym, subst}
use mathlib.Core.Bool.{true}
use mathlib.Core.List.{List, map}
use Prim.Native.Nat.{ℕ, ◌+◌, ◌*◌, ◌≤◌}
use native.Mathlib.Omega.{arith}
use lib.ListN.{length}
use Rattle.semantics.specs.Values.{Value, array, Object}
use Rattle.semantics.specs.Machine as Floo
use Rattle.semantics.specs.Machine.{Slot, elements_of, with_stack, with_store}
use Rattle.semantics.specs.ListLaws.{All}
use Rattle.heap.specs.Chain.{on}
use Rattle.heap.specs.declared.Lists.{Lists}
use Rattle.store.specs.Rep.{is_text, Names, Alive, Sealed, object_at}
use Rattle.store.proofs.Deaths.{root_alive}
use Rattle.machine.specs.Places.{frame_value, bound, roots, keys}
use Rattle.machine.specs.Rep.{Rep, World, Stored, Is, IsIn, Items}
use Rattle.machine.specs.declared.Machine.{Machine}
use Rattle.machine.proofs.Carrying.{Reached, all_from_end, all_bindings, items_map, slots_map, handled_map, frames_map}
use Rattle.machine.proofs.Roots.{roots_alike, stack_root, exec_root, binding_root, handler_root}
use Rattle.machine.proofs.Restacking.{with_depth}

-- The objects are no root places.
pub roots_store : (μ : Floo.Machine) (store : List Object) (r : ℕ) → roots (with_store store μ) r ≡ roots μ r
unfolding with_store
roots_store μ store r = roots_alike μ (with_store store μ) refl refl refl refl r

module _ {m : Machine} {st e d c l : List ℕ} {μ : Floo.Machine} (R : Rep m st e d c l μ) (w : World) (stack : List Value) (store : List Object)
    {s : Lists} {c' : List ℕ} (H : Stored w s c' (keys μ) store (roots (with_stack stack (with_store store μ))))
    (carry : (v : Value) (t p : ℕ) → Reached (Alive w.ρ w.ghost) v → IsIn R.world μ v t p → Is w (keys μ) (map is_text store) v t p)
    (long : (i t p : ℕ) → IsIn R.world μ (array true i) t p → length (elements_of (object_at store i)) ≡ length (elements_of (object_at μ.store i)))
    (stays : (i t p a r : ℕ)
    → Reached (Alive w.ρ w.ghost) (array true i)
    → IsIn R.world μ (array true i) t p
    → R.world.ghost.own a ≡ on (p + 2) r
    → w.ghost.own a ≡ on (p + 2) r)
    (M : Sealed w.ρ w.ghost c' store μ.read_only) where
  abbrev after : Floo.Machine
  after = with_stack stack (with_store store μ)

  -- What a root names lives.
  reached : (r i : ℕ) → Names (roots after r) i → Alive w.ρ w.ghost i
  reached r i a = root_alive H.full.heap.shape H.full.counts H.objects refl r i a

  pub items_reached : All (Reached (Alive w.ρ w.ghost)) stack
  unfolding with_stack with_store
  items_reached = all_from_end (λ x. x) stack (λ j i a. reached (4 * j) i (subst (λ x. Names x i) (sym (stack_root after j)) a))

  frames_reached : All (λ f. Reached (Alive w.ρ w.ghost) (frame_value f)) μ.exec
  unfolding with_stack with_store
  frames_reached = all_from_end frame_value μ.exec (λ j i a. reached (4 * j + 1) i (subst (λ x. Names x i) (sym (exec_root after j)) a))

  slots_reached : All (λ (s : Slot). Reached (Alive w.ρ w.ghost) (bound s.binding)) μ.dictionary
  unfolding with_stack with_store
  slots_reached = all_bindings μ.dictionary (λ j i a. reached (4 * j + 2) i (subst (λ x. Names x i) (sym (binding_root after j)) a))

  handlers_reached : All (λ (s : Slot). Reached (Alive w.ρ w.ghost) (bound s.binding)) μ.handlers
  unfolding with_stack with_store
  handlers_reached = all_bindings μ.handlers (λ j i a. reached (4 * j + 3) i (subst (λ x. Names x i) (sym (handler_root after j)) a))

  -- The new machine, in the world w.
  pub rehoused_in : (st' : List ℕ) (n : ℕ)
      → length st' ≡ length st
      → 2 * n ≤ length st
      → Items (Is w (keys μ) (map is_text store)) st' n stack
      → (R' : Rep (with_depth n s m) st' e d c' l (with_stack stack (with_store store μ))) × (R'.world ≡ w)
  unfolding with_stack with_store
  rehoused_in st' n same fits items = (
    record {
      world = w;
      stored = H;
      items = items;
      frames = frames_map carry long stays frames_reached R.frames;
      slots = slots_map carry slots_reached R.slots;
      handled = handled_map carry handlers_reached R.handled;
      sealed = M;
      naming = R.naming;
      logging = R.logging;
      stopped = R.stopped;
      rooms = record {
        stack_fits = omega arith;
        exec_fits = R.rooms.exec_fits;
        dict_fits = R.rooms.dict_fits;
        stack_few = omega (arith, R.rooms.stack_few);
        exec_few = R.rooms.exec_few;
        dict_few = R.rooms.dict_few;
      };
    },
    refl,
  )

  pub rehoused : (st' : List ℕ) (n : ℕ)
      → length st' ≡ length st
      → 2 * n ≤ length st
      → Items (Is w (keys μ) (map is_text store)) st' n stack
      → Rep (with_depth n s m) st' e d c' l (with_stack stack (with_store store μ))
  rehoused st' n same fits items = (rehoused_in st' n same fits items).0

-- The stack stays.
module _ {m : Machine} {st e d c l : List ℕ} {μ : Floo.Machine} (R : Rep m st e d c l μ) (w : World) (store : List Object)
    {s : Lists} {c' : List ℕ} (H : Stored w s c' (keys μ) store (roots (with_store store μ)))
    (carry : (v : Value) (t p : ℕ) → Reached (Alive w.ρ w.ghost) v → IsIn R.world μ v t p → Is w (keys μ) (map is_text store) v t p)
    (long : (i t p : ℕ) → IsIn R.world μ (array true i) t p → length (elements_of (object_at store i)) ≡ length (elements_of (object_at μ.store i)))
    (stays : (i t p a r : ℕ)
    → Reached (Alive w.ρ w.ghost) (array true i)
    → IsIn R.world μ (array true i) t p
    → R.world.ghost.own a ≡ on (p + 2) r
    → w.ghost.own a ≡ on (p + 2) r)
    (M : Sealed w.ρ w.ghost c' store μ.read_only) where
  pub restored_in : (R' : Rep (with_depth m.depth s m) st e d c' l (with_store store μ)) × (R'.world ≡ w)
  unfolding with_stack with_store
  restored_in =
      rehoused_in R w μ.stack store H carry long stays M st m.depth refl R.rooms.stack_fits
      (items_map carry (items_reached R w μ.stack store H carry long stays M) R.items)

  pub restored : Rep (with_depth m.depth s m) st e d c' l (with_store store μ)
  restored = restored_in.0
