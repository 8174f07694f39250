-- The topmost execution slot: it goes, or its value goes to the stack.
-- Assumes nothing.
use mathlib.Core.Path.{◌≡◌, refl, sym, ap, ◌∙◌, subst}
use mathlib.Core.List.{List, ◌∷◌}
use Prim.Native.Nat.{ℕ, suc, ◌+◌, ◌*◌, ◌≤◌, ◌<◌}
use native.Mathlib.Omega.{arith}
use native.Mathlib.Numerals.{add-one}
use lib.ListN.{length, get_or, set, drop}
use Rattle.semantics.specs.Values.{Value, null, Object}
use Rattle.semantics.specs.Machine as Floo
use Rattle.semantics.specs.Machine.{Frame, pending, with_stack, with_exec, push}
use Rattle.heap.specs.Shape.{Ghost}
use Rattle.heap.specs.Upd.{upd}
use Rattle.heap.specs.declared.Lists.{Lists}
use Rattle.machine.specs.Words.{item_tag, item_payload, frame_kind, frame_tag, frame_payload, frame_cell, frame_left, frame_final}
use Rattle.machine.specs.Places.{from_end, frame_value, roots}
use Rattle.machine.specs.Rep.{Rep, IsIn, Items, item, FrameIs, a_pending, a_running, a_looping, a_repeating, a_counting, a_past, Frames, frame}
use Rattle.machine.specs.Recount.{Placed, Recounts}
use Rattle.machine.specs.declared.Machine.{Machine}
use Rattle.machine.proofs.Dropping.{nothing}
use Rattle.machine.proofs.Exchanging.{upd_alike, exchange_rep}
use Rattle.machine.proofs.Items.{items_length, items_frame}
use Rattle.machine.proofs.Operands.{two_first, two_second, two_below, two_length}
use Rattle.machine.proofs.Rerooting.{with_depths, placed, rerooted}
use Rattle.machine.proofs.Rooms.{frames_length}
use Rattle.machine.proofs.Roots.{stack_root, exec_root, roots_at, at_front, at_other, at_end}
use Rattle.machine.specs.FrameMoves.{top_value, frame_dropped, returned}
use Rattle.machine.proofs.Regions.{rest_at, exec_at}

-- The topmost of k + 1 slots, its words and what lies below it.
pub record TopFrame (A : Value → ℕ → ℕ → Type 0) (g : Ghost) (store : List Object) (e : List ℕ) (k : ℕ) (fs : List Frame) : Type 0 where
  pub top : Frame
  pub rest : List Frame
  pub split : fs ≡ top ∷ rest
  pub words : FrameIs A g store top (frame_kind e k) (frame_tag e k) (frame_payload e k) (frame_cell e k) (frame_left e k) (frame_final e k)
  pub below : Frames A g store e k rest

module _ {A : Value → ℕ → ℕ → Type 0} {g : Ghost} {store : List Object} where
  top_frame_lem : {e : List ℕ} {n : ℕ} {fs : List Frame} → Frames A g store e n fs → (k : ℕ) → n ≡ suc k → TopFrame A g store e k fs
  top_frame_lem Frames.bottom k q = absurd (omega arith)
  top_frame_lem {e} (frame {n = n} {f = f} {fs = fs} h i) k q =
      let same : n ≡ k = omega arith in
      subst (λ x. TopFrame A g store e x (f ∷ fs)) same (record { top = f; rest = fs; split = refl; words = h; below = i })

  -- A slot's value by its two words.
  pub frame_value_lem : {f : Frame} {kind t p a b c : ℕ} → FrameIs A g store f kind t p a b c → A (frame_value f) t p
  frame_value_lem (a_pending h) = h
  frame_value_lem (a_running h s l) = h
  frame_value_lem (a_looping h) = h
  frame_value_lem (a_repeating h) = h
  frame_value_lem (a_counting h e) = h
  frame_value_lem (a_past h e o b) = h

module _ {m : Machine} {st e d c l : List ℕ} {μ : Floo.Machine} (R : Rep m st e d c l μ) (k : ℕ) (h : m.frames ≡ suc k) where
  pub slot : TopFrame (IsIn R.world μ) R.world.ghost μ.store e k μ.exec
  slot = top_frame_lem R.frames k h

  abbrev value : Value
  value = frame_value slot.top

  below : length slot.rest ≡ k
  below = frames_length slot.below

  inside : 4 * k + 1 < 2048
  inside = omega (arith, R.rooms.exec_fits, R.rooms.exec_few)

  pub words : IsIn R.world μ value (frame_tag e k) (frame_payload e k)
  words = frame_value_lem slot.words

  -- The slot's root place holds its value.
  held : roots μ (4 * k + 1) ≡ value
  held =
      exec_root μ k
      ∙ ap (λ fs. from_end frame_value fs k) slot.split
      ∙ ap (from_end frame_value (slot.top ∷ slot.rest)) (sym below)
      ∙ at_front frame_value slot.top slot.rest

  old : IsIn R.world μ (roots μ (4 * k + 1)) (frame_tag e k) (frame_payload e k)
  old = subst (λ v. IsIn R.world μ v (frame_tag e k) (frame_payload e k)) (sym held) words

  without : (y : ℕ) → from_end frame_value slot.rest y ≡ upd (from_end frame_value μ.exec) k null y
  without y = rest_at frame_value slot.top slot.rest k below y ∙ ap (λ fs. upd (from_end frame_value fs) k null y) (sym slot.split)

  pub top_value_lem : top_value μ ≡ value
  unfolding top_value
  top_value_lem = ap (λ fs. frame_value (get_or fs 0 (pending null))) slot.split

  -- ---- the slot goes

  pub drop_placed : Placed m.lists c (frame_tag e k) (frame_payload e k) 0 0
  drop_placed = placed R (4 * k + 1) inside old nothing

  pub drop_rep : {s' : Lists} {c' : List ℕ}
      → Recounts m.lists c (frame_tag e k) (frame_payload e k) 0 0 s' c'
      → Rep (with_depths m.depth k s' m) st e d c' l (frame_dropped μ)
  unfolding frame_dropped with_exec with_stack
  drop_rep {s'} {c'} K =
      subst (λ fs. Rep (with_depths m.depth k s' m) st e d c' l (with_exec (drop 1 fs) μ)) (sym slot.split)
      (rerooted R (4 * k + 1) inside old nothing K μ.stack slot.rest
      (exec_at μ (with_exec slot.rest μ) refl refl k null refl without)
      refl refl R.rooms.stack_fits (omega (arith, R.rooms.exec_fits)) R.items slot.below)

  -- ---- its value goes to the stack

  module _ (room : 2 * m.depth + 2 ≤ length st) where
    depth : length μ.stack ≡ m.depth
    depth = items_length R.items

    changed : (r : ℕ) → roots (with_exec slot.rest (with_stack (value ∷ μ.stack) μ)) r ≡ upd (upd (roots μ) (4 * m.depth) (roots μ (4 * k + 1))) (4 * k + 1) (roots μ (4 * m.depth)) r
    unfolding with_exec with_stack
    changed r =
        let first = with_stack (value ∷ μ.stack) μ in
        let free : roots μ (4 * m.depth) ≡ null = stack_root μ m.depth ∙ at_end (λ x. x) μ.stack m.depth (omega (arith, depth)) in
        exec_at first (with_exec slot.rest first) refl refl k null refl without r
        ∙ upd_alike (roots first) (upd (roots μ) (4 * m.depth) value) (4 * k + 1) null r
        (roots_at μ (value ∷ μ.stack) m.depth value
        (λ j q. at_other (λ x. x) value μ.stack j (λ z. q (z ∙ depth)))
        (ap (from_end (λ x. x) (value ∷ μ.stack)) (sym depth) ∙ at_front (λ x. x) value μ.stack) r)
        ∙ rw (free, held) refl

    pub return_rep : Rep (with_depths (m.depth + 1) k m.lists m)
        (set (set st (2 * m.depth) (frame_tag e k)) (2 * m.depth + 1) (frame_payload e k)) e d c l (returned μ)
    unfolding returned frame_dropped push with_exec with_stack
    return_rep =
        let n = m.depth in
        let t = frame_tag e k in
        let p = frame_payload e k in
        let st' = set (set st (2 * n) t) (2 * n + 1) p in
        let at_top : IsIn R.world μ value (item_tag st' n) (item_payload st' n) = rw (two_first st n t p room, two_second st n t p room) words in
        let items = subst (λ x. Items (IsIn R.world μ) st' x (value ∷ μ.stack)) (sym (add-one n)) (item at_top (items_frame (two_below st n t p room) R.items)) in
        let base = exchange_rep R (4 * n) (4 * k + 1) (omega (arith, R.rooms.stack_few)) inside (value ∷ μ.stack) slot.rest changed
        (two_length st n t p room) refl (omega arith) (omega (arith, R.rooms.exec_fits)) items slot.below in
        subst (λ v. Rep (with_depths (n + 1) k m.lists m) st' e d c l (push v (with_exec (drop 1 μ.exec) μ))) (sym top_value_lem)
        (subst (λ fs. Rep (with_depths (n + 1) k m.lists m) st' e d c l (push value (with_exec (drop 1 fs) μ))) (sym slot.split) base)
