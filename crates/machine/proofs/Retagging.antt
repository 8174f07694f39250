-- The topmost item becomes executable or literal: its payload stays, and its place names the same object, so nothing else changes.
-- Assumes nothing.
use mathlib.Core.Path.{◌≡◌, sym, ap, ◌∙◌, subst}
use mathlib.Core.Bool.{Bool, true, false}
use mathlib.Core.List.{List}
use mathlib.Core.Logic.{◌↔◌, ⊎_elim}
use Prim.Native.Nat.{ℕ, ◌+◌, ◌*◌}
use native.Mathlib.Omega.{arith}
use lib.ListN.{length, get_or, set, length-set}
use lib.Seq.{get_or-set_same, get_or-set_other}
use Rattle.semantics.specs.Values.{Value, null, integer, boolean, mark, operator, name, string, array}
use Rattle.semantics.specs.Machine as Floo
use Rattle.semantics.specs.Machine.{with_stack}
use Rattle.semantics.specs.TextOperators.{as_executable}
use Rattle.heap.specs.Assign.{Alives}
use Rattle.heap.proofs.Upds.{same?, upd_at, upd_other}
use Rattle.store.specs.Rep.{Stands, a_null, an_integer, a_boolean, a_mark, an_operator, a_literal, an_executable, a_string, an_array, a_procedure, Names, by_string, by_array}
use Rattle.store.proofs.Rooting.{rep_alike}
use Rattle.machine.specs.Words.{item_tag, item_payload}
use Rattle.machine.specs.Places.{roots}
use Rattle.machine.specs.Rep.{Rep, World, Is, IsIn}
use Rattle.machine.specs.Moves.{retagged, tag_as}
use Rattle.machine.specs.declared.Machine.{Machine}
use Rattle.machine.proofs.Naming.{nameless}
use Rattle.machine.proofs.Items.{items_length, items_set, item_at}
use Rattle.machine.proofs.Roots.{stack_root, from_top, roots_at, set_here, set_there}

-- ---- the value

module _ {w : World} {names : List (List ℕ)} {strings : List Bool} where
  is_retagged : (x : Bool) {v : Value} {t p : ℕ}
      → Stands names strings w.ρ v t p
      → Alives w.ghost t p
      → Is w names strings (as_executable x v) (tag_as x t) p
  unfolding as_executable tag_as
  is_retagged true a_null a = record { stands = a_null; alive = a }
  is_retagged true an_integer a = record { stands = an_integer; alive = a }
  is_retagged true a_boolean a = record { stands = a_boolean; alive = a }
  is_retagged true a_mark a = record { stands = a_mark; alive = a }
  is_retagged true (an_operator q) a = record { stands = an_operator q; alive = a }
  is_retagged true (a_literal q) a = record { stands = an_executable q; alive = λ l. absurd (omega arith) }
  is_retagged true (an_executable q) a = record { stands = an_executable q; alive = λ l. absurd (omega arith) }
  is_retagged true (a_string q k) a = record { stands = a_string q k; alive = a }
  is_retagged true (an_array q k) a = record { stands = a_procedure q k; alive = λ l. a (omega arith) }
  is_retagged true (a_procedure q k) a = record { stands = a_procedure q k; alive = λ l. a (omega arith) }
  is_retagged false a_null a = record { stands = a_null; alive = a }
  is_retagged false an_integer a = record { stands = an_integer; alive = a }
  is_retagged false a_boolean a = record { stands = a_boolean; alive = a }
  is_retagged false a_mark a = record { stands = a_mark; alive = a }
  is_retagged false (an_operator q) a = record { stands = an_operator q; alive = a }
  is_retagged false (a_literal q) a = record { stands = a_literal q; alive = λ l. absurd (omega arith) }
  is_retagged false (an_executable q) a = record { stands = a_literal q; alive = λ l. absurd (omega arith) }
  is_retagged false (a_string q k) a = record { stands = a_string q k; alive = a }
  is_retagged false (an_array q k) a = record { stands = an_array q k; alive = λ l. a (omega arith) }
  is_retagged false (a_procedure q k) a = record { stands = an_array q k; alive = λ l. a (omega arith) }

-- It names the same object.
renames : (x : Bool) {v : Value} {i : ℕ} → Names v i → Names (as_executable x v) i
unfolding as_executable
renames x by_string = by_string
renames x by_array = by_array

renamed : (x : Bool) (v : Value) {i : ℕ} → Names (as_executable x v) i → Names v i
unfolding as_executable
renamed x (integer w) n = n
renamed x (boolean b) n = n
renamed x null n = n
renamed x mark n = n
renamed x (operator o) n = n
renamed x (name y s) n = absurd (nameless (record { none = λ t. t }) n)
renamed x (string j) n = n
renamed x (array y j) by_array = by_array

-- ---- the stack

module _ {m : Machine} {st e d c l : List ℕ} {μ : Floo.Machine} (R : Rep m st e d c l μ) (x : Bool) (k : ℕ) (h : m.depth ≡ k + 1) where
  abbrev old : Value
  old = get_or μ.stack 0 null

  depth : length μ.stack ≡ k + 1
  depth = items_length R.items ∙ h

  alike : (r i : ℕ) → Names (roots μ r) i ↔ Names (roots (retagged x μ) r) i
  unfolding retagged
  alike r i =
      let new = as_executable x old in
      let changed = roots_at μ (set μ.stack 0 new) k new (set_there μ.stack 0 k new depth) (set_here μ.stack 0 k new depth) r in
      ⊎_elim
      (λ (q : r ≡ 4 * k).
      let was : roots μ r ≡ old = ap (roots μ) q ∙ stack_root μ k ∙ from_top μ.stack 0 k depth in
      let is = changed ∙ upd_at (roots μ) (4 * k) new r q in (
        λ n. subst (λ v. Names v i) (sym is) (renames x (subst (λ v. Names v i) was n)),
        λ n. subst (λ v. Names v i) (sym was) (renamed x old (subst (λ v. Names v i) is n)),
      ))
      (λ (q : r ≡ 4 * k → ⊥).
      let is = changed ∙ upd_other (roots μ) (4 * k) new r q in
      (λ n. subst (λ v. Names v i) (sym is) n, λ n. subst (λ v. Names v i) is n))
      (same? r (4 * k))

  pub retag_rep : {t : ℕ} → t ≡ tag_as x (item_tag st k) → Rep m (set st (2 * k) t) e d c l (retagged x μ)
  unfolding retagged with_stack
  retag_rep {t} tag =
      let st' = set st (2 * k) t in
      let long : length st' ≡ length st = length-set st (2 * k) t in
      let word = item_at R.items 0 k h in
      let words : IsIn R.world μ (as_executable x old) (item_tag st' k) (item_payload st' k) =
      rw (get_or-set_same st (2 * k) t 0 (omega (arith, R.rooms.stack_fits)), get_or-set_other st (2 * k) (2 * k + 1) t 0 (λ q. omega arith), tag)
      (is_retagged x word.stands word.alive) in
      record {
        world = R.world;
        stored = record {
          full = R.stored.full;
          none_dead = R.stored.none_dead;
          none_out = R.stored.none_out;
          objects = rep_alike R.stored.objects alike;
        };
        items = items_set R.items 0 k h words (λ j a b. get_or-set_other st (2 * k) j t 0 a);
        frames = R.frames;
        slots = R.slots;
        handled = R.handled;
        sealed = R.sealed;
        naming = R.naming;
        logging = R.logging;
        stopped = R.stopped;
        rooms = record {
          stack_fits = omega (arith, R.rooms.stack_fits);
          exec_fits = R.rooms.exec_fits;
          dict_fits = R.rooms.dict_fits;
          stack_few = omega (arith, R.rooms.stack_few);
          exec_few = R.rooms.exec_few;
          dict_few = R.rooms.dict_few;
        };
      }
