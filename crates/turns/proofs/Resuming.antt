-- What the topmost execution slot does when it acts, by the kind in its words.
-- Assumes nothing.
use mathlib.Core.Path.{◌≡◌, refl, sym, ap, ◌∙◌}
use mathlib.Core.Bool.{true, false}
use mathlib.Core.List.{List, ◌∷◌}
use Prim.Native.Nat.{ℕ, suc, ◌-◌, ◌^◌, ◌≤◌, ◌<◌}
use native.Mathlib.Omega.{arith}
use lib.IntN.{ℤ}
use lib.ListN.{get_or, drop}
use Rattle.semantics.specs.Words.{signed, word}
use Rattle.semantics.specs.Values.{Value, integer, null, Object, ok}
use Rattle.semantics.specs.Machine as Floo
use Rattle.semantics.specs.Machine.{Frame, pending, looping, repeating, counting, with_stack, with_exec, push, enter}
use Rattle.semantics.specs.Steps.{resume, silent, beyond, following}
use Rattle.word.proofs.Words.{word_signed}
use Rattle.heap.specs.Shape.{Ghost}
use Rattle.machine.specs.Words.{frame_kind, frame_next, frame_increment, frame_final}
use Rattle.machine.specs.Places.{frame_value}
use Rattle.machine.specs.Rep.{Rep, FrameIs, a_pending, a_running, a_looping, a_repeating, a_counting, a_past}
use Rattle.machine.specs.declared.Machine.{Machine}
use Rattle.machine.specs.FrameMoves.{top_frame, top_value, frame_dropped}
use Rattle.frames.specs.Moves.{body_pended, reset_top}
use Rattle.machine.proofs.Tops.{slot}
use Rattle.turns.specs.Turns.{resumed}

-- ---- the frame of each kind

module _ {A : Value → ℕ → ℕ → Type 0} {g : Ghost} {store : List Object} where
  pub is_loop : {f : Frame} {kind t p a b c : ℕ} → FrameIs A g store f kind t p a b c → kind ≡ 2 → (v : Value) × (f ≡ looping v)
  is_loop (a_pending h) q = absurd (omega arith)
  is_loop (a_running h x y) q = absurd (omega arith)
  is_loop (a_looping {v = v} h) q = (v, refl)
  is_loop (a_repeating h) q = absurd (omega arith)
  is_loop (a_counting h e) q = absurd (omega arith)
  is_loop (a_past h e o b) q = absurd (omega arith)

  pub is_repeat : {f : Frame} {kind t p a b c : ℕ} → FrameIs A g store f kind t p a b c → kind ≡ 3 → (v : Value) × (f ≡ repeating a v)
  is_repeat (a_pending h) q = absurd (omega arith)
  is_repeat (a_running h x y) q = absurd (omega arith)
  is_repeat (a_looping h) q = absurd (omega arith)
  is_repeat (a_repeating {v = v} h) q = (v, refl)
  is_repeat (a_counting h e) q = absurd (omega arith)
  is_repeat (a_past h e o b) q = absurd (omega arith)

  pub is_for : {f : Frame} {kind t p a b c : ℕ} → FrameIs A g store f kind t p a b c → kind ≡ 4 → (v : Value) × (f ≡ counting (signed a) b c v)
  is_for (a_pending h) q = absurd (omega arith)
  is_for (a_running h x y) q = absurd (omega arith)
  is_for (a_looping h) q = absurd (omega arith)
  is_for (a_repeating h) q = absurd (omega arith)
  is_for (a_counting {v = v} {i = i} {f = f} h e) q = (v, ap (λ z. counting z i f v) e)
  is_for (a_past h e o b) q = absurd (omega arith)

  -- A loop of no other kind counts, or is past its end.
  is_counting : {f : Frame} {kind t p a b c : ℕ} → FrameIs A g store f kind t p a b c → 4 ≤ kind → (kind ≡ 5 → ⊥) → kind ≡ 4
  is_counting (a_pending h) q n = absurd (omega (arith, q))
  is_counting (a_running h x y) q n = absurd (omega (arith, q))
  is_counting (a_looping h) q n = absurd (omega (arith, q))
  is_counting (a_repeating h) q n = absurd (omega (arith, q))
  is_counting (a_counting h e) q n = refl
  is_counting (a_past h e o b) q n = absurd (n refl)

  pub is_past : {f : Frame} {kind t p a b c : ℕ} → FrameIs A g store f kind t p a b c → kind ≡ 5 → (v : Value) × (z : ℤ) × (f ≡ counting z b c v) × (beyond z (signed b) (signed c) ≡ true)
  is_past (a_pending h) q = absurd (omega arith)
  is_past (a_running h x y) q = absurd (omega arith)
  is_past (a_looping h) q = absurd (omega arith)
  is_past (a_repeating h) q = absurd (omega arith)
  is_past (a_counting h e) q = absurd (omega arith)
  is_past (a_past {v = v} {z = z} h e o b) q = (v, z, refl, b)

-- ---- the machine with its topmost frame

-- With its own slots a machine is itself.
pub own_exec : (μ : Floo.Machine) {fs : List Frame} → μ.exec ≡ fs → with_exec fs μ ≡ μ
unfolding with_exec
own_exec μ q = ap (λ x. with_exec x μ) (sym q)

module _ (μ : Floo.Machine) {f : Frame} {fs : List Frame} (split : μ.exec ≡ f ∷ fs) where
  pub top_is : top_frame μ ≡ f
  top_is = ap (λ x. get_or x 0 (pending null)) split

  pub dropped_is : frame_dropped μ ≡ with_exec fs μ
  unfolding frame_dropped
  dropped_is = ap (λ x. with_exec (drop 1 x) μ) split

  pub resumed_is : resumed μ ≡ (resume f (with_exec fs μ)).result
  unfolding resumed
  resumed_is = ap (λ x. (resume x (frame_dropped μ)).result) top_is ∙ ap (λ x. (resume f x).result) dropped_is

  pub top_value_is : top_value μ ≡ frame_value f
  unfolding top_value
  top_value_is = ap frame_value top_is

  -- The frame that has been dropped is entered again.
  entered_again : enter f (with_exec fs μ) ≡ μ
  unfolding enter with_exec
  entered_again = own_exec μ split

  -- Another takes its place.
  pub reset_is : (f' : Frame) → enter f' (with_exec fs μ) ≡ reset_top f' μ
  unfolding enter with_exec reset_top
  reset_is f' = ap (λ x. with_exec (f' ∷ drop 1 x) μ) (sym split)

  pended_is : enter (pending (frame_value f)) μ ≡ body_pended μ
  unfolding body_pended
  pended_is = ap (λ v. enter (pending v) μ) (sym top_value_is)

-- The body of a frame that has been put in place of the topmost one becomes pending.
pended_reset : (μ : Floo.Machine) (f : Frame) → enter (pending (frame_value f)) (reset_top f μ) ≡ body_pended (reset_top f μ)
unfolding reset_top with_exec
pended_reset μ f = pended_is (reset_top f μ) {f = f} {fs = drop 1 μ.exec} refl

-- ---- what it does

module _ {m : Machine} {s e d c l : List ℕ} {μ : Floo.Machine} (R : Rep m s e d c l μ) (k : ℕ) (h : m.frames ≡ suc k) where
  abbrev rest : List Frame
  rest = (slot R k h).rest

  pub loop_resumed : frame_kind e k ≡ 2 → resumed μ ≡ ok (body_pended μ)
  unfolding resume silent
  loop_resumed q =
      let w = is_loop (slot R k h).words q in
      let split : μ.exec ≡ looping w.0 ∷ rest = (slot R k h).split ∙ ap (λ f. f ∷ rest) w.1 in
      resumed_is μ split ∙ ap ok (ap (enter (pending w.0)) (entered_again μ split) ∙ pended_is μ split)

  pub repeat_ended : frame_kind e k ≡ 3 → frame_next e k ≡ 0 → resumed μ ≡ ok (frame_dropped μ)
  unfolding resume silent
  repeat_ended q z =
      let w = is_repeat (slot R k h).words q in
      let split : μ.exec ≡ repeating 0 w.0 ∷ rest = (slot R k h).split ∙ ap (λ f. f ∷ rest) (w.1 ∙ ap (λ n. repeating n w.0) z) in
      resumed_is μ split ∙ ap ok (sym (dropped_is μ split))

  pub repeat_resumed : (q : frame_kind e k ≡ 3)
      → (frame_next e k ≡ 0 → ⊥)
      → resumed μ ≡ ok (body_pended (reset_top (repeating (frame_next e k - 1) (top_value μ)) μ))
  unfolding resume silent
  repeat_resumed q z =
      let w = is_repeat (slot R k h).words q in
      let n = frame_next e k - 1 in
      let more : frame_next e k ≡ suc n = omega (arith, z) in
      let split : μ.exec ≡ repeating (suc n) w.0 ∷ rest = (slot R k h).split ∙ ap (λ f. f ∷ rest) (w.1 ∙ ap (λ n. repeating n w.0) more) in
      resumed_is μ split
      ∙ ap ok (ap (enter (pending w.0)) (reset_is μ split (repeating n w.0)) ∙ pended_reset μ (repeating n w.0))
      ∙ ap (λ v. ok (body_pended (reset_top (repeating n v) μ))) (sym (top_value_is μ split))

  pub counts : 4 ≤ frame_kind e k → (frame_kind e k ≡ 5 → ⊥) → frame_kind e k ≡ 4
  counts q n = is_counting (slot R k h).words q n

  -- A `for` that is past its end goes.
  pub past_ended : frame_kind e k ≡ 5 → resumed μ ≡ ok (frame_dropped μ)
  unfolding resume silent
  past_ended q =
      let w = is_past (slot R k h).words q in
      let split : μ.exec ≡ counting w.1 (frame_increment e k) (frame_final e k) w.0 ∷ rest = (slot R k h).split ∙ ap (λ f. f ∷ rest) w.2 in
      resumed_is μ split ∙ rw w.3 (ap ok (sym (dropped_is μ split)))

  module _ (q : frame_kind e k ≡ 4) where
    abbrev next : ℕ
    next = frame_next e k

    abbrev increment : ℕ
    increment = frame_increment e k

    abbrev final : ℕ
    final = frame_final e k

    body : (v : Value) × ((slot R k h).top ≡ counting (signed next) increment final v)
    body = is_for (slot R k h).words q

    split : μ.exec ≡ counting (signed next) increment final body.0 ∷ rest
    split = (slot R k h).split ∙ ap (λ f. f ∷ rest) body.1

    pub for_ended : beyond (signed next) (signed increment) (signed final) ≡ true → resumed μ ≡ ok (frame_dropped μ)
    unfolding resume silent
    for_ended b = resumed_is μ split ∙ rw b (ap ok (sym (dropped_is μ split)))

    pub for_resumed : next < 2 ^ 32
        → beyond (signed next) (signed increment) (signed final) ≡ false
        → resumed μ ≡ ok (body_pended (reset_top (counting (following (signed next) increment) increment final (top_value μ)) (push (integer next) μ)))
    unfolding resume silent push with_stack with_exec
    for_resumed l b =
        let v = body.0 in
        let f = counting (following (signed next) increment) increment final v in
        let same : integer (word (signed next)) ≡ integer next = ap integer (word_signed next l) in
        resumed_is μ split
        ∙ rw (b, same) (ap ok (ap (enter (pending v)) (reset_is (push (integer next) μ) split f) ∙ pended_reset (push (integer next) μ) f))
        ∙ ap (λ v. ok (body_pended (reset_top (counting (following (signed next) increment) increment final v) (push (integer next) μ)))) (sym (top_value_is μ split))
