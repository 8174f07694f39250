-- One root place takes another value, also one that names an object: `Rep` holds of the machine with the stacks, the dictionary or the handlers that have it there. The heap is as
-- `recount` leaves it, and all other places are carried over.
-- Assumes nothing.
use mathlib.Core.Path.{◌≡◌, refl, sym, ap, ◌∙◌, subst}
use mathlib.Core.List.{List, map}
use Prim.Native.Nat.{ℕ, ◌+◌, ◌*◌, ◌≤◌, ◌<◌}
use native.Mathlib.Omega.{arith}
use lib.ListN.{length, take, length-map}
use Rattle.semantics.specs.Sizes.{operator_count}
use Rattle.semantics.specs.Values.{Value}
use Rattle.semantics.specs.Machine as Floo
use Rattle.semantics.specs.Machine.{Frame, Slot, with_stack, with_exec, with_dictionary, with_handlers}
use Rattle.semantics.specs.ListLaws.{All}
use Rattle.heap.specs.Shape.{cells}
use Rattle.heap.specs.Upd.{upd}
use Rattle.heap.specs.declared.Lists.{Lists}
use Rattle.store.specs.Rep.{Names, Alive}
use Rattle.store.proofs.Rooting.{rep_alike}
use Rattle.semantics.specs.NameLaws.{Distinct}
use Rattle.machine.specs.Places.{frame_value, bound, roots, root_count, keys, texts}
use Rattle.machine.specs.Rep.{Rep, World, Stored, Is, IsIn, Items, Frames, Slots, Handled}
use Rattle.machine.specs.Recount.{Placed, Recounts}
use Rattle.machine.specs.declared.Machine.{Machine}
use Rattle.machine.proofs.Carrying.{Reached, all_from_end, all_bindings, items_map, slots_map, handled_map, frames_map}
use Rattle.machine.proofs.Worlds as Worlds
use Rattle.machine.proofs.Roots.{stack_root, exec_root, binding_root, handler_root}

-- The small state with other depths and other lists.
abbrev pub with_depths : ℕ → ℕ → Lists → Machine → Machine
with_depths n k s m = record { depth = n; frames = k; names = m.names; written = m.written; lists = s; stopped = m.stopped }

-- As many slots as names.
same_count : (a b : List Slot) → map (λ (s : Slot). s.key) a ≡ map (λ (s : Slot). s.key) b → length a ≡ length b
same_count a b q = sym (length-map a (λ (s : Slot). s.key)) ∙ ap length q ∙ length-map b (λ (s : Slot). s.key)

module _ {m : Machine} {st e d c l : List ℕ} {μ : Floo.Machine} (R : Rep m st e d c l μ) (r : ℕ) (inside : r < root_count)
    {t p : ℕ} (old : IsIn R.world μ (roots μ r) t p)
    {v : Value} {t' p' : ℕ} (new : IsIn R.world μ v t' p') where
  -- What `recount` asks.
  pub placed : Placed m.lists c t p t' p'
  placed = (cells c + root_count, R.world.ghost, cells c + r, Worlds.place R.stored r inside old new)

  -- Other stacks, another dictionary with the same names, and other handlers.
  module _ {s' : Lists} {c' : List ℕ} (K : Recounts m.lists c t p t' p' s' c') (stack : List Value) (exec : List Frame) (dictionary handlers : List Slot)
      (named : map (λ (s : Slot). s.key) dictionary ≡ keys μ)
      (changed : (x : ℕ) → roots (with_handlers handlers (with_dictionary dictionary (with_exec exec (with_stack stack μ)))) x ≡ upd (roots μ) r v x) where
    abbrev world : World
    world = Worlds.next R.stored r inside old new K

    abbrev after : Floo.Machine
    after = with_handlers handlers (with_dictionary dictionary (with_exec exec (with_stack stack μ)))

    reached : (x i : ℕ) → Names (roots after x) i → Alive R.world.ρ world.ghost i
    reached x i a = Worlds.reached R.stored r inside old new K x i (subst (λ y. Names y i) (changed x) a)

    items_reached : All (Reached (Alive R.world.ρ world.ghost)) stack
    unfolding with_handlers with_dictionary with_exec with_stack
    items_reached = all_from_end (λ x. x) stack (λ j i a. reached (4 * j) i (subst (λ x. Names x i) (sym (stack_root after j)) a))

    frames_reached : All (λ f. Reached (Alive R.world.ρ world.ghost) (frame_value f)) exec
    unfolding with_handlers with_dictionary with_exec with_stack
    frames_reached = all_from_end frame_value exec (λ j i a. reached (4 * j + 1) i (subst (λ x. Names x i) (sym (exec_root after j)) a))

    slots_reached : All (λ (s : Slot). Reached (Alive R.world.ρ world.ghost) (bound s.binding)) dictionary
    unfolding with_handlers with_dictionary with_exec with_stack
    slots_reached = all_bindings dictionary (λ j i a. reached (4 * j + 2) i (subst (λ x. Names x i) (sym (binding_root after j)) a))

    handlers_reached : All (λ (s : Slot). Reached (Alive R.world.ρ world.ghost) (bound s.binding)) handlers
    unfolding with_handlers with_dictionary with_exec with_stack
    handlers_reached = all_bindings handlers (λ j i a. reached (4 * j + 3) i (subst (λ x. Names x i) (sym (handler_root after j)) a))

    stored_after : Stored world s' c' (keys μ) μ.store (roots after)
    stored_after =
        let H = Worlds.stored R.stored r inside old new K in
        record {
          full = H.full;
          none_dead = H.none_dead;
          none_out = H.none_out;
          objects = rep_alike H.objects (λ x i. (λ a. subst (λ y. Names y i) (sym (changed x)) a, λ a. subst (λ y. Names y i) (changed x) a));
        }

    pub rerooted_all : {st' e' d' : List ℕ} {n k : ℕ}
        → length st' ≡ length st
        → length e' ≡ length e
        → length d' ≡ length d
        → 2 * n ≤ length st
        → 8 * k ≤ length e
        → Items (IsIn R.world μ) st' n stack
        → Frames (IsIn R.world μ) R.world.ghost μ.store e' k exec
        → Slots (IsIn R.world μ) d' 0 dictionary
        → Handled (IsIn R.world μ) (keys μ) d' handlers μ.latest
        → Rep (with_depths n k s' m) st' e' d' c' l after
    unfolding with_handlers with_dictionary with_exec with_stack
    rerooted_all {st'} {e'} {d'} {n} {k} stack_long exec-long dict_long stack_fits exec_fits items frames slots handled =
        let carry = Worlds.carry R.stored r inside old new K in
        let back = sym named in
        let Now : List (List ℕ) → Value → ℕ → ℕ → Type 0 = λ ks. Is world ks (texts μ) in
        record {
          world = world;
          stored = subst (λ ks. Stored world s' c' ks μ.store (roots after)) back stored_after;
          items = subst (λ ks. Items (Now ks) st' n stack) back (items_map carry items_reached items);
          frames = subst (λ ks. Frames (Now ks) world.ghost μ.store e' k exec) back
              (frames_map carry (λ i t p w. refl) (Worlds.stays R.stored r inside old new K) frames_reached frames);
          slots = subst (λ ks. Slots (Now ks) d' 0 dictionary) back (slots_map carry slots_reached slots);
          handled = subst (λ ks. Handled (Now ks) ks d' handlers μ.latest) back (handled_map carry handlers_reached handled);
          sealed = Worlds.marked R.stored r inside old new K R.sealed;
          naming = record {
            many = R.naming.many ∙ same_count μ.dictionary dictionary (sym named);
            titled = ap (take operator_count) named ∙ R.naming.titled;
            distinct = subst Distinct back R.naming.distinct;
          };
          logging = R.logging;
          stopped = R.stopped;
          rooms = record {
            stack_fits = omega arith;
            exec_fits = omega arith;
            dict_fits = omega (arith, R.rooms.dict_fits);
            stack_few = omega (arith, R.rooms.stack_few);
            exec_few = omega (arith, R.rooms.exec_few);
            dict_few = omega (arith, R.rooms.dict_few);
          };
        }

  -- Other stacks.
  module _ {s' : Lists} {c' : List ℕ} (K : Recounts m.lists c t p t' p' s' c') (stack : List Value) (exec : List Frame)
      (changed : (x : ℕ) → roots (with_exec exec (with_stack stack μ)) x ≡ upd (roots μ) r v x) where
    pub rerooted : {st' e' : List ℕ} {n k : ℕ}
        → length st' ≡ length st
        → length e' ≡ length e
        → 2 * n ≤ length st
        → 8 * k ≤ length e
        → Items (IsIn R.world μ) st' n stack
        → Frames (IsIn R.world μ) R.world.ghost μ.store e' k exec
        → Rep (with_depths n k s' m) st' e' d c' l (with_exec exec (with_stack stack μ))
    unfolding with_handlers with_dictionary with_exec with_stack
    rerooted stack_long exec-long stack_fits exec_fits items frames =
        rerooted_all K stack exec μ.dictionary μ.handlers refl changed stack_long exec-long refl stack_fits exec_fits items frames R.slots R.handled
