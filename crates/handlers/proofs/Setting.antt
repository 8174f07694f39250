-- A row's handler is read, or takes the value of an item; and the names of the latest error are stored. A handler's place is a root place, as a binding's is.
-- Assumes nothing.
use mathlib.Core.Path.{◌≡◌, refl, sym, ap, ◌∙◌, subst}
use mathlib.Core.List.{List}
use mathlib.Core.Option.{Option, some}
use Prim.Native.Nat.{ℕ, zero, suc, ◌+◌, ◌*◌, ◌≤◌, ◌<◌}
use native.Mathlib.Omega.{arith}
use lib.ListN.{length, get_or, set, get_elem?, length-set}
use lib.Seq.{get_or-set_same, get_or-set_other}
use Rattle.semantics.specs.Sizes.{operator_count, error_count, dictionary_words_most}
use Rattle.semantics.specs.Values.{Value}
use Rattle.semantics.specs.Errors.{error_names}
use Rattle.semantics.specs.Machine as Floo
use Rattle.semantics.specs.Machine.{Slot, Latest, with_stack, with_exec, with_dictionary, with_handlers, with_latest, lookup, assign}
use Rattle.semantics.specs.NameLaws.{Distinct, errors_distinct}
use Rattle.semantics.specs.SlotLaws.{keys_of, Sits, sits, lookup_sits, assign_sits, element_sits, keys_set}
use Rattle.heap.specs.Upd.{upd}
use Rattle.heap.specs.declared.Lists.{Lists}
use Rattle.store.specs.Rep.{Names}
use Rattle.store.proofs.Rooting.{rep_alike}
use Rattle.machine.specs.Words.{handler_tag, handler_payload, handler_name}
use Rattle.machine.specs.Places as Places
use Rattle.machine.specs.Places.{binding_at, root_in, roots, root_count, keys}
use Rattle.machine.specs.Rep.{Rep, IsIn, Bound, bound, RowIs, Noted, Handled}
use Rattle.machine.specs.Recount.{Placed, Recounts}
use Rattle.machine.specs.declared.Machine.{Machine}
use Rattle.machine.proofs.Dropping.{nothing}
use Rattle.machine.proofs.Carrying.{handlers_many}
use Rattle.machine.proofs.Rooms.{names_enough}
use Rattle.machine.proofs.Rerooting.{with_depths, placed, rerooted_all}
use Rattle.machine.proofs.Roots.{handler_root, region_changed, roots_alike}
use Rattle.dictionary.proofs.Rebinding.{binding_set, binding_here, placed_alike, recounts_alike, Valued, valued, bound_is}
use Rattle.dictionary.proofs.Slots.{slots_words}
use Rattle.handlers.proofs.Rows.{row_at, rows_same, rows_set}

-- The words of the rows are there.
module _ {m : Machine} {st e d c l : List ℕ} {μ : Floo.Machine} (R : Rep m st e d c l μ) where
  pub rows_room : 12 * operator_count ≤ length d
  rows_room = omega (arith, names_enough R, R.rooms.dict_fits)

  pub rows_few : length d ≤ dictionary_words_most
  rows_few = R.rooms.dict_few

-- ---- one handler changes

handler_changed : (μ : Floo.Machine) (h : List Slot) (j : ℕ) (v : Value)
    → ((i : ℕ) → binding_at h i ≡ upd (binding_at μ.handlers) j v i)
    → (r : ℕ)
    → roots (with_handlers h μ) r ≡ upd (roots μ) (4 * j + 3) v r
unfolding root_in with_handlers
handler_changed μ h j v changed r = region_changed μ (with_handlers h μ) 3 j v (omega arith) changed other r
  where
    other : (x i : ℕ) → (x ≡ 3 → ⊥) → root_in (with_handlers h μ) x i ≡ root_in μ x i
    other zero i n = refl
    other (suc zero) i n = refl
    other (suc (suc zero)) i n = refl
    other (suc (suc (suc zero))) i n = absurd (n refl)
    other (suc (suc (suc (suc x)))) i n = refl

module _ {m : Machine} {st e d c l : List ℕ} {μ : Floo.Machine} (R : Rep m st e d c l μ) (j : ℕ) (n : List ℕ) (row : get_elem? error_names j ≡ some n) where
  key : get_elem? (keys_of μ.handlers) j ≡ some n
  key = ap (λ (ks : List (List ℕ)). get_elem? ks j) R.handled.errors ∙ row

  at : (s : Slot) × Sits n μ.handlers j s
  at = sits n μ.handlers j (subst Distinct (sym R.handled.errors) errors_distinct) key

  pub low_row : j < error_count
  low_row = omega (arith, (element_sits n at.1).2, handlers_many R.handled)

  words : RowIs (IsIn R.world μ) (keys μ) d j at.0
  words =
      let place : 0 + j ≡ j = omega arith in
      subst (λ x. RowIs (IsIn R.world μ) (keys μ) d x at.0) place (row_at j (element_sits n at.1).0 R.handled.rows)

  -- The words of the row stand for what handles the error.
  pub handler_at : Bound (IsIn R.world μ) (lookup n μ.handlers) (handler_tag d j) (handler_payload d j)
  handler_at = subst (λ o. Bound (IsIn R.world μ) o (handler_tag d j) (handler_payload d j)) (sym (lookup_sits n at.1)) words.handler

  pub handler_value : {v : Value} → lookup n μ.handlers ≡ some v → IsIn R.world μ v (handler_tag d j) (handler_payload d j)
  handler_value q = bound_is handler_at q

  -- The same, by the words that were read.
  pub handler_words : {v : Value} {t p : ℕ} → lookup n μ.handlers ≡ some v → t ≡ handler_tag d j → p ≡ handler_payload d j → IsIn R.world μ v t p
  handler_words q x y = rw (x, y) (handler_value q)

  -- The error's name has the slot that the row has.
  pub handler_named : {v : Value} → lookup n μ.handlers ≡ some v → get_elem? (keys μ) (handler_name d j) ≡ some n
  handler_named {v} q = words.named v (sym (lookup_sits n at.1) ∙ q) ∙ ap some (element_sits n at.1).1

  -- ---- the handler becomes another value

  abbrev old : Valued (IsIn R.world μ) (Places.bound at.0.binding) (handler_tag d j) (handler_payload d j)
  old = valued nothing words.handler

  held : IsIn R.world μ (roots μ (4 * j + 3)) old.tag old.pay
  held =
      subst (λ v. IsIn R.world μ v old.tag old.pay)
      (sym (handler_root μ j ∙ binding_here μ.handlers j (element_sits n at.1).0))
      old.is

  low : 4 * j + 3 < root_count
  low = omega (arith, low_row)

  module _ {v : Value} {t p : ℕ} (new : IsIn R.world μ v t p) where
    pub set_placed : Placed m.lists c (handler_tag d j) (handler_payload d j) t p
    set_placed = placed_alike old.alike (placed R (4 * j + 3) low held new)

    module _ (k : ℕ) (slot : get_elem? (keys μ) k ≡ some n) where
      abbrev tagged : List ℕ
      tagged = set d (36 * j + 11) t

      abbrev paid : List ℕ
      paid = set tagged (36 * j + 23) p

      abbrev words_after : List ℕ
      words_after = set paid (36 * j + 35) k

      paid_long : length paid ≡ length d
      paid_long = length-set tagged (36 * j + 23) p ∙ length-set d (36 * j + 11) t

      after_long : length words_after ≡ length d
      after_long = length-set paid (36 * j + 35) k ∙ paid_long

      elsewhere : (i : ℕ) → (i ≡ 36 * j + 11 → ⊥) → (i ≡ 36 * j + 23 → ⊥) → (i ≡ 36 * j + 35 → ⊥) → get_or words_after i 0 ≡ get_or d i 0
      elsewhere i x y z =
          get_or-set_other paid (36 * j + 35) i k 0 z ∙ get_or-set_other tagged (36 * j + 23) i p 0 y ∙ get_or-set_other d (36 * j + 11) i t 0 x

      tag_after : handler_tag words_after j ≡ t
      tag_after =
          get_or-set_other paid (36 * j + 35) (36 * j + 11) k 0 (λ q. omega arith)
          ∙ get_or-set_other tagged (36 * j + 23) (36 * j + 11) p 0 (λ q. omega arith)
          ∙ get_or-set_same d (36 * j + 11) t 0 (omega (arith, rows_room R, low_row))

      pay_after : handler_payload words_after j ≡ p
      pay_after =
          get_or-set_other paid (36 * j + 35) (36 * j + 23) k 0 (λ q. omega arith)
          ∙ get_or-set_same tagged (36 * j + 23) p 0 (omega (arith, rows_room R, low_row, length-set d (36 * j + 11) t))

      name_after : handler_name words_after j ≡ k
      name_after = get_or-set_same paid (36 * j + 35) k 0 (omega (arith, rows_room R, low_row, paid_long))

      abbrev slot_after : Slot
      slot_after = record { key = n; binding = some v }

      row_is : RowIs (IsIn R.world μ) (keys μ) words_after (0 + j) slot_after
      row_is =
          let place : j ≡ 0 + j = omega arith in
          let both : Bound (IsIn R.world μ) (some v) (handler_tag words_after j) (handler_payload words_after j) = rw (tag_after, pay_after) (bound new) in
          subst (λ x. RowIs (IsIn R.world μ) (keys μ) words_after x slot_after) place
          (record { handler = both; named = λ u q. ap (get_elem? (keys μ)) name_after ∙ slot })

      handled_after : Handled (IsIn R.world μ) (keys μ) words_after (set μ.handlers j slot_after) μ.latest
      handled_after =
          record {
            rows = rows_set d words_after j (element_sits n at.1).2
                (λ i x. elsewhere i (λ q. omega (arith, x (omega arith))) (λ q. omega (arith, x (omega arith))) (λ q. omega (arith, x (omega arith))))
                R.handled.rows row_is;
            errors = keys_set n (some v) at.1 ∙ R.handled.errors;
            errorname = rw (elsewhere 623 (λ q. omega (arith, low_row)) (λ q. omega (arith, low_row)) (λ q. omega (arith, low_row))) R.handled.errorname;
            command = rw (elsewhere 635 (λ q. omega (arith, low_row)) (λ q. omega (arith, low_row)) (λ q. omega (arith, low_row))) R.handled.command;
          }

      pub set_rep : {s' : Lists} {c' : List ℕ}
          → Recounts m.lists c (handler_tag d j) (handler_payload d j) t p s' c'
          → Rep (with_depths m.depth m.frames s' m) st e words_after c' l (with_handlers (assign n v μ.handlers) μ)
      unfolding with_exec with_stack with_dictionary with_handlers
      set_rep {s'} {c'} K =
          subst (λ x. Rep (with_depths m.depth m.frames s' m) st e words_after c' l (with_handlers x μ)) (sym (assign_sits n v at.1))
          (rerooted_all R (4 * j + 3) low held new (recounts_alike old.alike K) μ.stack μ.exec μ.dictionary (set μ.handlers j slot_after)
          refl
          (handler_changed μ (set μ.handlers j slot_after) j v (binding_set μ.handlers j slot_after (element_sits n at.1).2))
          refl refl after_long R.rooms.stack_fits R.rooms.exec_fits R.items R.frames
          (slots_words (λ i x. elsewhere i (λ q. x (omega arith)) (λ q. x (omega arith)) (λ q. x (omega arith))) R.slots)
          handled_after)

-- ---- the names of the latest error

module _ {m : Machine} {st e d c l : List ℕ} {μ : Floo.Machine} (R : Rep m st e d c l μ) (a b : ℕ) where
  abbrev noted : List ℕ
  noted = set (set d 623 a) 635 b

  noted_long : length noted ≡ length d
  noted_long = length-set (set d 623 a) 635 b ∙ length-set d 623 a

  beside : (i : ℕ) → (i ≡ 623 → ⊥) → (i ≡ 635 → ⊥) → get_or noted i 0 ≡ get_or d i 0
  beside i x y = get_or-set_other (set d 623 a) 635 i b 0 y ∙ get_or-set_other d 623 i a 0 x

  pub note_rep : {x y : Option (List ℕ)}
      → Noted (keys μ) x a
      → Noted (keys μ) y b
      → Rep m st e noted c l (with_latest (record { errorname = x; command = y }) μ)
  unfolding with_latest
  note_rep {x} {y} first second =
      let latest : Latest = record { errorname = x; command = y } in
      let same = roots_alike μ (with_latest latest μ) refl refl refl refl in
      record {
        world = R.world;
        stored = record {
          full = R.stored.full;
          none_dead = R.stored.none_dead;
          none_out = R.stored.none_out;
          objects = rep_alike R.stored.objects (λ r i. (λ u. subst (λ v. Names v i) (sym (same r)) u, λ u. subst (λ v. Names v i) (same r) u));
        };
        items = R.items;
        frames = R.frames;
        slots = slots_words (λ i z. beside i (λ q. z (omega arith)) (λ q. z (omega arith))) R.slots;
        handled = record {
          rows = rows_same d noted (λ i y z. beside i (λ q. omega (arith, z, handlers_many R.handled)) (λ q. omega (arith, z, handlers_many R.handled))) R.handled.rows;
          errors = R.handled.errors;
          errorname = rw (get_or-set_other (set d 623 a) 635 623 b 0 (λ q. omega arith), get_or-set_same d 623 a 0 (omega (arith, rows_room R))) first;
          command = rw (get_or-set_same (set d 623 a) 635 b 0 (omega (arith, rows_room R, length-set d 623 a))) second;
        };
        sealed = R.sealed;
        naming = R.naming;
        logging = R.logging;
        stopped = R.stopped;
        rooms = record {
          stack_fits = R.rooms.stack_fits;
          exec_fits = R.rooms.exec_fits;
          dict_fits = omega (arith, R.rooms.dict_fits, noted_long);
          stack_few = R.rooms.stack_few;
          exec_few = R.rooms.exec_few;
          dict_few = omega (arith, R.rooms.dict_few, noted_long);
        };
      }
