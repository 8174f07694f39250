-- The topmost execution slot changes its kind and its numbers, and names what it named.
-- Assumes nothing.
use mathlib.Core.Path.{◌≡◌, refl, sym, ap, ◌∙◌, subst}
use mathlib.Core.List.{List, ◌∷◌}
use Prim.Native.Nat.{ℕ, zero, suc, ◌/◌, ◌%◌}
use native.Mathlib.Omega.{arith}
use lib.ListN.{length, drop}
use Rattle.semantics.specs.Machine as Floo
use Rattle.semantics.specs.Machine.{Frame, with_exec}
use Rattle.store.specs.Rep.{Names}
use Rattle.store.proofs.Rooting.{rep_alike}
use Rattle.heap.specs.Upd.{upd}
use Rattle.machine.specs.Words.{frame_kind, frame_tag, frame_payload, frame_cell, frame_left, frame_final}
use Rattle.machine.specs.Places.{from_end, frame_value, root_in, roots}
use Rattle.machine.specs.Rep.{Rep, IsIn, FrameIs, Frames, frame}
use Rattle.machine.specs.declared.Machine.{Machine}
use Rattle.machine.specs.FrameMoves.{top_value}
use Rattle.frames.specs.Moves.{reset_top}
use Rattle.frames.proofs.Entering.{Put}
use Rattle.frames.proofs.Frames.{frames_frame}
use Rattle.machine.proofs.Tops.{slot, top_value_lem}

-- Places that hold the same values, slot by slot.
exec_alike : (μ : Floo.Machine) (exec : List Frame) → ((i : ℕ) → from_end frame_value exec i ≡ from_end frame_value μ.exec i) → (r : ℕ) → roots (with_exec exec μ) r ≡ roots μ r
unfolding with_exec roots root_in
exec_alike μ exec same r = by (r % 4)
  where
    by : (k : ℕ) → root_in (with_exec exec μ) k (r / 4) ≡ root_in μ k (r / 4)
    by zero = refl
    by (suc zero) = same (r / 4)
    by (suc (suc zero)) = refl
    by (suc (suc (suc zero))) = refl
    by (suc (suc (suc (suc k)))) = refl

module _ {m : Machine} {st e d c l : List ℕ} {μ : Floo.Machine} (R : Rep m st e d c l μ) (k : ℕ) (h : m.frames ≡ suc k) (f : Frame) (keeps : frame_value f ≡ top_value μ) where
  same : (i : ℕ) → from_end frame_value (f ∷ (slot R k h).rest) i ≡ from_end frame_value μ.exec i
  unfolding from_end
  same i =
      ap (λ v. upd (from_end frame_value (slot R k h).rest) (length (slot R k h).rest) v i) (keeps ∙ top_value_lem R k h)
      ∙ ap (λ fs. from_end frame_value fs i) (sym (slot R k h).split)

  pub reset_rep : {e' : List ℕ} {kind a b : ℕ}
      → Put e e' k kind (frame_tag e k) (frame_payload e k) a b (frame_final e k)
      → FrameIs (IsIn R.world μ) R.world.ghost μ.store f kind (frame_tag e k) (frame_payload e k) a b (frame_final e k)
      → Rep m st e' d c l (reset_top f μ)
  unfolding reset_top with_exec
  reset_rep {e'} put words =
      let top : FrameIs (IsIn R.world μ) R.world.ghost μ.store f (frame_kind e' k) (frame_tag e' k) (frame_payload e' k) (frame_cell e' k) (frame_left e' k) (frame_final e' k) =
      rw (put.kind_is, put.tag_is, put.pay_is, put.a_is, put.b_is, put.c_is) words in
      let changed = exec_alike μ (f ∷ (slot R k h).rest) same in
      let base : Rep m st e' d c l (with_exec (f ∷ (slot R k h).rest) μ) = record {
        world = R.world;
        stored = record {
          full = R.stored.full;
          none_dead = R.stored.none_dead;
          none_out = R.stored.none_out;
          objects = rep_alike R.stored.objects (λ r i. (λ x. subst (λ v. Names v i) (sym (changed r)) x, λ x. subst (λ v. Names v i) (changed r) x));
        };
        items = R.items;
        frames = subst (λ n. Frames (IsIn R.world μ) R.world.ghost μ.store e' n (f ∷ (slot R k h).rest)) (sym h)
            (frame top (frames_frame put.below (slot R k h).below));
        slots = R.slots;
        handled = R.handled;
        sealed = R.sealed;
        naming = R.naming;
        logging = R.logging;
        stopped = R.stopped;
        rooms = record {
          stack_fits = R.rooms.stack_fits;
          exec_fits = omega (arith, R.rooms.exec_fits, put.long);
          dict_fits = R.rooms.dict_fits;
          stack_few = R.rooms.stack_few;
          exec_few = omega (arith, R.rooms.exec_few, put.long);
          dict_few = R.rooms.dict_few;
        };
      } in
      subst (λ fs. Rep m st e' d c l (with_exec (f ∷ drop 1 fs) μ)) (sym (slot R k h).split) base
