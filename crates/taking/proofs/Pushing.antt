-- An integer, a name by its slot, and null are pushed; the test of room fails where the stack is full.
-- Assumes nothing.
use Rattle.std.specs.Prelude.{Ok, Err}
use mathlib.Core.Path.{◌≡◌, refl, sym, subst}
use mathlib.Core.Bool.{false}
use mathlib.Core.List.{List, [], ◌∷◌}
use Prim.Native.Nat.{ℕ, ◌+◌, ◌*◌, ◌/◌, ◌≤◌, ◌<◌}
use native.Mathlib.Omega.{arith}
use native.Mathlib.Numerals.{add-one}
use lib.ListN.{length, set}
use Rattle.semantics.specs.Values.{integer, null, name, ◌>>=◌}
use Rattle.semantics.specs.Machine as Floo
use Rattle.semantics.specs.Machine.{with_stack, push}
use Rattle.semantics.specs.ListLaws.{nil, cons}
use Rattle.semantics.specs.declared.Error.TheVariants.{StackOverflow}
use Rattle.store.specs.Rep.{a_literal}
use Rattle.machine.specs.Words.{item_tag, item_payload}
use Rattle.machine.specs.Operands.{an_integer, a_null, Pushes}
use Rattle.machine.specs.Rep.{Rep, IsIn, Items, item}
use Rattle.machine.specs.Room.{lent, fitted, DoesStack}
use Rattle.machine.specs.declared.Machine.{Machine}
use Rattle.machine.proofs.Items.{items_length, items_frame}
use Rattle.machine.proofs.Operands.{two_first, two_second, two_below, two_length, pushed}
use Rattle.machine.proofs.Outcomes.{moves_stack}
use Rattle.machine.proofs.Rooms.{room_stack, dictionary_fits, exec_fits}
use Rattle.machine.proofs.Stacking.{restack}
use Rattle.taking.specs.Effects.{integer_taken}
use Rattle.taking.specs.Promises.{deeper, PushesWords, PushesName}

-- ---- an integer

module _ {m : Machine} {s : List ℕ} (w : ℕ) where
  pub integer_over : length s < 2 * m.depth + 2 → DoesStack (integer_taken w) m s s (Err StackOverflow)
  unfolding integer_taken fitted lent push with_stack ◌>>=◌
  integer_over over = record {
    does = λ e d c l μ R.
        let deep : length s / 2 < length (integer w ∷ μ.stack) = omega (arith, items_length R.items) in
        (room_stack (lent s e d c l) μ (push (integer w) μ) (dictionary_fits R) (exec_fits R) deep, refl);
  }

  pub integer_done : {r : Machine} {s' : List ℕ} → Pushes 1 w m r s s' → length s' ≡ length s → DoesStack (integer_taken w) m s s' (Ok r)
  unfolding integer_taken push with_stack
  integer_done P long =
      moves_stack {g = push (integer w)} (record { moves = λ e d c l μ R. P.does an_integer e d c l μ R }) (λ μ. refl) long (λ e d c l μ R. refl)

-- ---- two words

module _ {m r : Machine} {t p : ℕ} {s s' : List ℕ} (W : PushesWords t p m r s s') where
  pub words_long : 2 * m.depth + 2 ≤ length s → length s' ≡ length s
  words_long room = subst (λ x. length x ≡ length s) (sym W.words) (two_length s m.depth t p room)

  carried : {e d c l : List ℕ} {μ : Floo.Machine} → Rep (deeper m) (set (set s (2 * m.depth) t) (2 * m.depth + 1) p) e d c l μ → Rep r s' e d c l μ
  carried {e} {d} {c} {l} {μ} R = subst (λ x. Rep x s' e d c l μ) (sym W.state) (subst (λ x. Rep (deeper m) x e d c l μ) (sym W.words) R)

module _ {m r : Machine} {s s' : List ℕ} (room : 2 * m.depth + 2 ≤ length s) where
  pub null_words : PushesWords 0 0 m r s s' → {e d c l : List ℕ} {μ : Floo.Machine} → Rep m s e d c l μ → Rep r s' e d c l (push null μ)
  null_words W R = carried W (pushed R 0 0 room a_null)

  pub name_words_lem : {k : ℕ} → PushesWords 5 k m r s s' → PushesName k m r s s'
  unfolding push
  name_words_lem {k} W = record {
    moves = λ e d c l μ R n key.
        let v = name false n in
        let depth = m.depth in
        let st = set (set s (2 * depth) 5) (2 * depth + 1) k in
        let is : IsIn R.world μ v 5 k = record { stands = a_literal key; alive = λ x. absurd (omega arith) } in
        let words : IsIn R.world μ v (item_tag st depth) (item_payload st depth) = rw (two_first s depth 5 k room, two_second s depth 5 k room) is in
        let items = subst (λ x. Items (IsIn R.world μ) st x (v ∷ μ.stack)) (sym (add-one depth)) (item words (items_frame (two_below s depth 5 k room) R.items)) in
        carried W (restack R st (depth + 1) [] (v ∷ []) μ.stack refl nil (cons (record { none = λ x. x }) nil) (two_length s depth 5 k room) (omega arith) items);
  }
