-- Two root places change what they hold: no count changes, only which place names what. `Rep` holds of the machine with the stacks that have it so.
-- Assumes nothing.
use mathlib.Core.Path.{◌≡◌, refl, sym, ap, subst}
use mathlib.Core.List.{List, [], ◌∷◌}
use Prim.Native.Nat.{ℕ, ◌+◌, ◌*◌, ◌≤◌, ◌<◌}
use native.Mathlib.Omega.{arith}
use lib.ListN.{length}
use lib.Dec.{eqb}
use Rattle.semantics.specs.Values.{Value}
use Rattle.semantics.specs.Machine as Floo
use Rattle.semantics.specs.Machine.{Frame, Slot, with_stack, with_exec}
use Rattle.semantics.specs.ListLaws.{All, nil, cons}
use Rattle.heap.specs.Shape.{cells}
use Rattle.heap.specs.Upd.{upd, pick}
use Rattle.store.specs.Rep.{Names}
use Rattle.store.proofs.Rooting.{rep_alike, rep_exchange, exchange_full, exchanged}
use Rattle.machine.specs.Places.{frame_value, bound, roots, root_count}
use Rattle.machine.specs.Rep.{Rep, World, IsIn, Items, Frames}
use Rattle.machine.specs.declared.Machine.{Machine}
use Rattle.machine.proofs.Carrying.{Reached, items_map, frames_map, slots_map, handled_map}
use Rattle.machine.proofs.Rerooting.{with_depths}

all_reached : {A : Type 0} (f : A → Value) (l : List A) → All (λ a. Reached (λ i. Unit {0}) (f a)) l
all_reached f [] = nil
all_reached f (a ∷ l) = cons (record { reach = λ i n. tt }) (all_reached f l)

pub upd_alike : (f g : ℕ → Value) (a : ℕ) (v : Value) (c : ℕ) → f c ≡ g c → upd f a v c ≡ upd g a v c
unfolding upd
upd_alike f g a v c e = ap (pick (eqb c a) v) e

module _ {m : Machine} {st e d c l : List ℕ} {μ : Floo.Machine} (R : Rep m st e d c l μ) (x y : ℕ) (x-inside : x < root_count) (y-inside : y < root_count)
    (stack : List Value) (exec : List Frame)
    (changed : (r : ℕ) → roots (with_exec exec (with_stack stack μ)) r ≡ upd (upd (roots μ) x (roots μ y)) y (roots μ x) r) where
  abbrev world : World
  world = record { ρ = R.world.ρ; ghost = exchanged R.world.ghost (cells c + x) (cells c + y) }

  carry : (v : Value) (t p : ℕ) → Reached (λ i. Unit {0}) v → IsIn R.world μ v t p → IsIn world μ v t p
  carry v t p q w = record { stands = w.stands; alive = w.alive }

  pub exchange_rep : {st' e' : List ℕ} {n k : ℕ}
      → length st' ≡ length st
      → length e' ≡ length e
      → 2 * n ≤ length st
      → 8 * k ≤ length e
      → Items (IsIn R.world μ) st' n stack
      → Frames (IsIn R.world μ) R.world.ghost μ.store e' k exec
      → Rep (with_depths n k m.lists m) st' e' d c l (with_exec exec (with_stack stack μ))
  unfolding with_exec with_stack
  exchange_rep stack_long exec-long stack_fits exec_fits items frames =
      record {
        world = world;
        stored = record {
          full = exchange_full (cells c + x) (cells c + y) R.stored.full (omega arith) (omega arith) (omega arith) (omega arith);
          none_dead = R.stored.none_dead;
          none_out = R.stored.none_out;
          objects = rep_alike (rep_exchange x y R.stored.objects x-inside y-inside)
              (λ r i. (λ a. subst (λ z. Names z i) (sym (changed r)) a, λ a. subst (λ z. Names z i) (changed r) a));
        };
        items = items_map carry (all_reached (λ v. v) stack) items;
        frames = frames_map carry (λ i t p w. refl) (λ i t p a r q w s. s) (all_reached frame_value exec) frames;
        slots = slots_map carry (all_reached (λ (s : Slot). bound s.binding) μ.dictionary) R.slots;
        handled = handled_map carry (all_reached (λ (s : Slot). bound s.binding) μ.handlers) R.handled;
        sealed = record { marks = R.sealed.marks; made = R.sealed.made };
        naming = R.naming;
        logging = R.logging;
        stopped = R.stopped;
        rooms = record {
          stack_fits = omega arith;
          exec_fits = omega arith;
          dict_fits = R.rooms.dict_fits;
          stack_few = omega (arith, R.rooms.stack_few);
          exec_few = omega (arith, R.rooms.exec_few);
          dict_few = R.rooms.dict_few;
        };
      }
