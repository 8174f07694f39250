-- A slot that executes a value comes to what that value does, on the machine without the slot, or with the running procedure moved on, and the test of room
-- comes to the same.
-- Assumes nothing.
use mathlib.Core.Path.{◌≡◌, refl, sym, ap, ◌∙◌}
use mathlib.Core.List.{List, [], ◌∷◌, ◌++◌}
use Prim.Native.Nat.{ℕ, suc}
use lib.ListN.{drop}
use Rattle.semantics.specs.Values.{Value, Result, ok, fault, ◌>>=◌}
use Rattle.semantics.specs.Machine.{Machine, Frame, Slot, pending, running, with_exec}
use Rattle.semantics.specs.Held.{of_value, of_frame, gather, roots, of_binding}
use Rattle.semantics.specs.Steps.{Limits, room_for}
use Rattle.machine.specs.Room.{fitted}
use Rattle.machine.specs.FrameMoves.{frame_dropped}
use Rattle.frames.specs.Moves.{reset_top}
use Rattle.acting.proofs.Before.{room_same}

then_alike : {A B : Type 0} (r : Result A) {h k : A → Result B} → ((a : A) → h a ≡ k a) → (r >>= h) ≡ (r >>= k)
unfolding ◌>>=◌
then_alike (ok a) e = e a
then_alike (fault x) e = refl

pub via : (lim : Limits) (μ μ₁ : Machine) (f g : Machine → Result Machine)
    → f μ ≡ g μ₁
    → μ.store ≡ μ₁.store
    → roots μ ≡ roots μ₁
    → fitted lim f μ ≡ fitted lim g μ₁
unfolding fitted
via lim μ μ₁ f g q store named =
    ap (λ r. r >>= room_for lim μ) q ∙ then_alike (g μ₁) (λ after. room_same μ μ₁ store named lim after)

-- What the places name, by the slots.
abbrev by : Machine → List ℕ → List ℕ
by μ named =
    gather of_value μ.stack
    ++ gather (λ (s : Slot). of_binding s.binding) μ.dictionary
    ++ named
    ++ gather (λ (s : Slot). of_binding s.binding) μ.handlers

module _ (μ : Machine) {fs : List Frame} where
  -- A pending value that names no object is dropped.
  pub roots_dropped : {v : Value} → of_value v ≡ [] → μ.exec ≡ pending v ∷ fs → roots μ ≡ roots (frame_dropped μ)
  unfolding roots frame_dropped with_exec gather of_frame
  roots_dropped none q =
      ap (λ (x : List Frame). by μ (gather of_frame x)) q
      ∙ ap (λ (o : List ℕ). by μ (o ++ gather of_frame fs)) none
      ∙ ap (λ (x : List Frame). by μ (gather of_frame (drop 1 x))) (sym q)

  -- A running procedure moves on.
  pub roots_moved : {i j : ℕ} → μ.exec ≡ running i j ∷ fs → roots μ ≡ roots (reset_top (running i (suc j)) μ)
  unfolding roots reset_top with_exec gather of_frame
  roots_moved {i} {j} q =
      ap (λ (x : List Frame). by μ (gather of_frame x)) q ∙ ap (λ (x : List Frame). by μ (gather of_frame (running i (suc j) ∷ drop 1 x))) (sym q)
