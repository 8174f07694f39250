-- The turns of `loop`, `repeat` and `for`: what each comes to, by the words of the topmost slot.
-- Assumes nothing.
use Rattle.std.specs.Prelude.{Ok, Err}
use mathlib.Core.Path.{◌≡◌, refl, sym, ap, ◌∙◌, subst}
use mathlib.Core.Bool.{Bool, true, false, ◌||◌, cond}
use mathlib.Core.List.{List}
use Prim.Native.Nat.{ℕ, suc, ◌+◌, ◌-◌, ◌*◌, ◌/◌, ◌^◌, ◌≤◌, ◌<◌}
use native.Mathlib.Omega.{arith}
use lib.IntN.{ℤ, pos, negsuc, sub_ℕ, ◌+ℤ◌}
use lib.Dec.{T, eqb, ltb}
use borrow.Author.Tests.{lt-ltb, ltb-false, eqb-true, eqb-false}
use lib.Signed.{lt_z}
use lib.ListN.{length, get_or, drop}
use mir.Syntax.{w32}
use mir.Val.{Fits}
use Rattle.semantics.specs.Words.{signed, word, in_range}
use Rattle.semantics.specs.Values.{Value, integer, Object, ok}
use Rattle.semantics.specs.Machine as Floo
use Rattle.semantics.specs.Machine.{repeating, counting, with_stack, with_exec, push, enter}
use Rattle.semantics.specs.Steps.{beyond, following}
use Rattle.semantics.specs.declared.Error.TheVariants.{ExecStackOverflow, StackOverflow}
use Rattle.word.proofs.Words.{Sign, low, high, sign, signed_low, signed_high, signed_word}
use Rattle.heap.specs.Shape.{Ghost}
use Rattle.machine.specs.Words.{frame_kind, frame_tag, frame_payload, frame_next, frame_increment, frame_final}
use Rattle.machine.specs.Operands.{Pushes, an_integer}
use Rattle.machine.specs.Rep.{Rep, IsIn, FrameIs, a_repeating, a_counting, a_past}
use Rattle.machine.specs.declared.Machine.{Machine}
use Rattle.machine.proofs.Rooms.{frames_length}
use Rattle.machine.specs.FrameMoves.{top_value, frame_dropped, MovesFrames, Somewhere}
use Rattle.frames.specs.Moves.{body_pended, reset_top, Resets, SomewhereAll}
use Rattle.machine.proofs.Tops.{slot, words, top_value_lem}
use Rattle.control_operators.specs.Promises.{DoesFrames}
use Rattle.turns.specs.Turns.{resumed, DoesTurn}
use Rattle.turns.proofs.Resuming.{loop_resumed, repeat_ended, repeat_resumed, counts, past_ended, for_ended, for_resumed}
use Rattle.turns.proofs.Fitting.{slots_over, items_over, turn_fails, turn_does, frames_fails, frames_does}

-- ---- the topmost slot's value by its words, and how many slots there are

module _ {m : Machine} {s e d c l : List ℕ} {μ : Floo.Machine} (R : Rep m s e d c l μ) (some : 1 ≤ m.frames) where
  abbrev k : ℕ
  k = m.frames - 1

  h : m.frames ≡ suc k
  h = omega (arith, some)

  value_words : IsIn R.world μ (top_value μ) (frame_tag e k) (frame_payload e k)
  value_words = subst (λ v. IsIn R.world μ v (frame_tag e k) (frame_payload e k)) (sym (top_value_lem R k h)) (words R k h)

  pub reset_length : suc (length (drop 1 μ.exec)) ≡ length μ.exec
  reset_length = ap (λ fs. suc (length (drop 1 fs))) (slot R k h).split ∙ ap length (sym (slot R k h).split)

-- ---- loop

module _ {m : Machine} {e c : List ℕ} (some : 1 ≤ m.frames) (kind : frame_kind e (m.frames - 1) ≡ 2) where
  pub loop_full : length e < 8 * m.frames + 8 → DoesTurn resumed m e e c c (Err ExecStackOverflow)
  unfolding body_pended enter with_exec
  loop_full full = turn_fails (λ s d l μ R. slots_over R (loop_resumed R (m.frames - 1) (omega (arith, some)) kind) refl full refl)

  pub loop_goes : {r : Machine} {e' c' : List ℕ} → MovesFrames body_pended m r e e' c c' → length e' ≡ length e → DoesTurn resumed m e e' c c' (Ok r)
  unfolding body_pended enter with_exec
  loop_goes M long =
      turn_does long (λ s d l μ R. record { after = body_pended μ; gives = loop_resumed R (m.frames - 1) (omega (arith, some)) kind; made = refl; stands = M.moves s d l μ R })

-- ---- repeat

-- The words of a slot that has been reset.
pub repeat_reset : {m : Machine} {e e' : List ℕ} {n b : ℕ} → 1 ≤ m.frames → Resets 3 n b m e e'
    → (s d c l : List ℕ) (μ : Floo.Machine) → Rep m s e d c l μ → Rep m s e' d c l (reset_top (repeating n (top_value μ)) μ)
repeat_reset {n = n} some E s d c l μ R = E.moves s d c l μ R (repeating n (top_value μ)) refl (a_repeating (value_words R some))

module _ {m : Machine} {e c : List ℕ} (some : 1 ≤ m.frames) (kind : frame_kind e (m.frames - 1) ≡ 3) where
  pub repeat_ends : {r : Machine} {c' : List ℕ}
      → frame_next e (m.frames - 1) ≡ 0
      → MovesFrames frame_dropped m r e e c c'
      → DoesTurn resumed m e e c c' (Ok r)
  unfolding frame_dropped with_exec
  repeat_ends none M =
      turn_does refl (λ s d l μ R. record { after = frame_dropped μ; gives = repeat_ended R (m.frames - 1) (omega (arith, some)) kind none; made = refl; stands = M.moves s d l μ R })

  pub repeat_stands : {e' : List ℕ} {n b : ℕ} → Resets 3 n b m e e' → Somewhere m e c → Somewhere m e' c
  repeat_stands E w = (w.0, w.1, w.2, _, repeat_reset some E w.0 w.1 c w.2 w.3 w.4)

  module _ (left : frame_next e (m.frames - 1) ≡ 0 → ⊥) where
    pub repeat_full : length e < 8 * m.frames + 8 → DoesTurn resumed m e e c c (Err ExecStackOverflow)
    unfolding body_pended reset_top enter with_exec
    repeat_full full =
        turn_fails (λ s d l μ R. slots_over R (repeat_resumed R (m.frames - 1) (omega (arith, some)) kind left) refl full (ap suc (reset_length R some)))

    pub repeat_goes : {r : Machine} {e' e'' c' : List ℕ} {b : ℕ}
        → Resets 3 (frame_next e (m.frames - 1) - 1) b m e e'
        → MovesFrames body_pended m r e' e'' c c'
        → length e'' ≡ length e
        → DoesTurn resumed m e e'' c c' (Ok r)
    unfolding body_pended reset_top enter with_exec
    repeat_goes E M long =
        turn_does long (λ s d l μ R. record {
          after = body_pended (reset_top (repeating (frame_next e (m.frames - 1) - 1) (top_value μ)) μ);
          gives = repeat_resumed R (m.frames - 1) (omega (arith, some)) kind left;
          made = refl;
          stands = M.moves s d l _ (repeat_reset some E s d c l μ R);
        })

-- ---- for

-- What a slot holds of the sum z: its word, and the kind that goes with it; a sum that has left 32 bits is beyond the final number.
pub record Counted (k a i f : ℕ) (z : ℤ) : Type 0 where
  pub kind : k ≡ cond (in_range z) 4 5
  pub sum : a ≡ word z
  pub ends : in_range z ≡ false → beyond z (signed i) (signed f) ≡ true

count_frame : {A : Value → ℕ → ℕ → Type 0} {g : Ghost} {store : List Object} {v : Value} {t p k a i f : ℕ} {z : ℤ} → A v t p → Counted k a i f z → FrameIs A g store (counting z i f v) k t p a i f
count_frame {A} {g} {store} {v} {t} {p} {k} {a} {i} {f} {z} h C = by (in_range z) refl
  where
    by : (b : Bool) → in_range z ≡ b → FrameIs A g store (counting z i f v) k t p a i f
    by true q = subst (λ x. FrameIs A g store (counting z i f v) x t p a i f) (sym (C.kind ∙ ap (λ b. cond b 4 5) q)) (a_counting h (sym (signed_word z q) ∙ ap signed (sym C.sum)))
    by false q = subst (λ x. FrameIs A g store (counting z i f v) x t p a i f) (sym (C.kind ∙ ap (λ b. cond b 4 5) q)) (a_past h (sym C.sum) q (C.ends q))

pub for_reset : {m : Machine} {e e' : List ℕ} {k a i : ℕ} {z : ℤ} → 1 ≤ m.frames → Counted k a i (frame_final e (m.frames - 1)) z → Resets k a i m e e'
    → (s d c l : List ℕ) (μ : Floo.Machine) → Rep m s e d c l μ
    → Rep m s e' d c l (reset_top (counting z i (frame_final e (m.frames - 1)) (top_value μ)) μ)
for_reset {m} {e} {i = i} {z = z} some C E s d c l μ R =
    E.moves s d c l μ R (counting z i (frame_final e (m.frames - 1)) (top_value μ)) refl (count_frame (value_words R some) C)

abbrev next : Machine → List ℕ → ℕ
next m e = frame_next e (m.frames - 1)

abbrev increment : Machine → List ℕ → ℕ
increment m e = frame_increment e (m.frames - 1)

abbrev final : Machine → List ℕ → ℕ
final m e = frame_final e (m.frames - 1)

-- Whether it goes: it is past its end, or its number is beyond the final one.
abbrev pub Over : Machine → List ℕ → Bool → Type 0
Over m e t = (eqb (frame_kind e (m.frames - 1)) 5 || beyond (signed (next m e)) (signed (increment m e)) (signed (final m e))) ≡ t

neither : (t b : Bool) → (t || b) ≡ false → (t ≡ false) × (b ≡ false)
neither true b q = absurd (subst T q tt)
neither false b q = (refl, q)

still_within : (m : Machine) (e : List ℕ) → Over m e false → beyond (signed (next m e)) (signed (increment m e)) (signed (final m e)) ≡ false
still_within m e on = (neither (eqb (frame_kind e (m.frames - 1)) 5) (beyond (signed (next m e)) (signed (increment m e)) (signed (final m e))) on).1

still_counts : {m : Machine} {s e d c l : List ℕ} {μ : Floo.Machine} → Rep m s e d c l μ → 1 ≤ m.frames → 4 ≤ frame_kind e (m.frames - 1) → Over m e false → frame_kind e (m.frames - 1) ≡ 4
still_counts {m} {e = e} R some loops on =
    counts R (m.frames - 1) (omega (arith, some)) loops
    (eqb-false (frame_kind e (m.frames - 1)) 5 (neither (eqb (frame_kind e (m.frames - 1)) 5) (beyond (signed (next m e)) (signed (increment m e)) (signed (final m e))) on).0)

-- The machine after a turn.
turned : Machine → List ℕ → Floo.Machine → Floo.Machine
turned m e μ =
    body_pended (reset_top (counting (following (signed (next m e)) (increment m e)) (increment m e) (final m e) (top_value μ)) (push (integer (next m e)) μ))

module _ {m : Machine} {s e c : List ℕ} where
  -- A push leaves the slots.
  pub pushed_slots : {r : Machine} {s' : List ℕ} {n : ℕ} → Pushes 1 n m r s s' → SomewhereAll m s e c → r.frames ≡ m.frames
  unfolding push with_stack
  pushed_slots P w = sym (frames_length (P.does an_integer e w.0 c w.1 w.2 w.3).frames) ∙ frames_length w.3.frames

  module _ (some : 1 ≤ m.frames) where
    -- The slot is reset after the push.
    pub for_stands : {r : Machine} {s' e' : List ℕ} {n k a i : ℕ} {z : ℤ}
        → Pushes 1 n m r s s'
        → Counted k a i (final m e) z
        → Resets k a i r e e'
        → SomewhereAll m s e c
        → Somewhere r e' c
    for_stands {r} {s'} {k = k} {a = a} {i = i} {z = z} P C E w =
        let same = pushed_slots P w in
        (s', w.0, w.1, _, for_reset (omega (arith, same, some)) (subst (λ n. Counted k a i (frame_final e (n - 1)) z) (sym same) C) E s' w.0 c w.1 _ (P.does an_integer e w.0 c w.1 w.2 w.3))

    module _ (loops : 4 ≤ frame_kind e (m.frames - 1)) where
      over_resumed : Over m e true → {d l : List ℕ} {μ : Floo.Machine} → Rep m s e d c l μ → resumed μ ≡ ok (frame_dropped μ)
      over_resumed over {μ = μ} R = by (eqb (frame_kind e (m.frames - 1)) 5) refl over
        where
          by : (t : Bool) → eqb (frame_kind e (m.frames - 1)) 5 ≡ t → (t || beyond (signed (next m e)) (signed (increment m e)) (signed (final m e))) ≡ true → resumed μ ≡ ok (frame_dropped μ)
          by true q h = past_ended R (m.frames - 1) (omega (arith, some)) (eqb-true (frame_kind e (m.frames - 1)) 5 q)
          by false q h = for_ended R (m.frames - 1) (omega (arith, some)) (counts R (m.frames - 1) (omega (arith, some)) loops (eqb-false (frame_kind e (m.frames - 1)) 5 q)) h

      pub for_ends : {r : Machine} {c' : List ℕ}
          → Over m e true
          → MovesFrames frame_dropped m r e e c c'
          → DoesFrames resumed m s s e e c c' (Ok r)
      unfolding frame_dropped with_exec
      for_ends over M =
          frames_does refl refl (λ d l μ R. record {
            after = frame_dropped μ;
            gives = over_resumed over R;
            made = refl;
            stands = M.moves s d l μ R;
          })

      module _ (few : next m e < 2 ^ 32) (on : Over m e false) where
        pub for_full : length e < 8 * m.frames + 8 → DoesFrames resumed m s s e e c c (Err ExecStackOverflow)
        unfolding turned body_pended reset_top push enter with_exec with_stack
        for_full full =
            frames_fails (λ d l μ R. slots_over R (for_resumed R (m.frames - 1) (omega (arith, some)) (still_counts R some loops on) few (still_within m e on)) refl full (ap suc (reset_length R some)))

        pub for_over : 8 * m.frames + 8 ≤ length e → length s < 2 * m.depth + 2 → DoesFrames resumed m s s e e c c (Err StackOverflow)
        unfolding turned body_pended reset_top push enter with_exec with_stack
        for_over room full =
            frames_fails (λ d l μ R.
            let slots : suc (suc (length (drop 1 μ.exec))) ≤ length e / 8 = omega (arith, room, reset_length R some, frames_length R.frames) in
            items_over R (for_resumed R (m.frames - 1) (omega (arith, some)) (still_counts R some loops on) few (still_within m e on)) refl full refl slots)

        pub for_goes : {r r' : Machine} {s' e' e'' c' : List ℕ} {k a : ℕ}
            → Pushes 1 (next m e) m r s s'
            → Counted k a (increment m e) (final m e) (signed (next m e) +ℤ signed (increment m e))
            → Resets k a (increment m e) r e e'
            → MovesFrames body_pended r r' e' e'' c c'
            → length s' ≡ length s
            → length e'' ≡ length e
            → DoesFrames resumed m s s' e e'' c c' (Ok r')
        unfolding turned body_pended reset_top top_value push enter with_exec with_stack following
        for_goes {r} {s' = s'} {e' = e'} {k = k} {a = a} P C E M stack exec =
            frames_does stack exec (λ d l μ R.
            let same : r.frames ≡ m.frames = pushed_slots P (d, l, μ, R) in
            let z = signed (next m e) +ℤ signed (increment m e) in
            let there = subst (λ n. Counted k a (increment m e) (frame_final e (n - 1)) z) (sym same) C in
            let back = for_reset (omega (arith, same, some)) there E s' d c l (push (integer (next m e)) μ) (P.does an_integer e d c l μ R) in
            record {
              after = turned m e μ;
              gives = for_resumed R (m.frames - 1) (omega (arith, some)) (still_counts R some loops on) few (still_within m e on);
              made = refl;
              stands = M.moves s' d l _ (subst (λ n. Rep r s' e' d c l (reset_top (counting z (increment m e) (frame_final e (n - 1)) (top_value μ)) (push (integer (next m e)) μ))) same back);
            })

-- ---- whether it ends

module _ (n i f : ℕ) where
  pub beyond_up : i < 2 ^ 31 → lt_z (signed f) (signed n) ≡ beyond (signed n) (signed i) (signed f)
  unfolding beyond
  beyond_up l = rw (signed_low i l) refl

  pub beyond_down : 2 ^ 31 ≤ i → i < 2 ^ 32 → lt_z (signed n) (signed f) ≡ beyond (signed n) (signed i) (signed f)
  unfolding beyond
  beyond_down l h = rw (signed_high i l h) refl

-- A sum that has left 32 bits is beyond every number of 32 bits.
module _ (n i f : ℕ) (n-fits : n < 2 ^ 32) (i_fits : i < 2 ^ 32) (f-fits : f < 2 ^ 32) where
  difference_stays : (a b : ℕ) → a < 2 ^ 31 → b < 2 ^ 31 → in_range (sub_ℕ a (suc b)) ≡ true
  unfolding in_range
  difference_stays a b g h = by (ltb a (suc b))
    where
      by : (t : Bool) → in_range (cond t (negsuc (suc b - suc a)) (pos (a - suc b))) ≡ true
      by true = lt-ltb (suc b - suc a) (2 ^ 31) (omega (arith, h))
      by false = lt-ltb (a - suc b) (2 ^ 31) (omega (arith, g))

  pub past_beyond : in_range (signed n +ℤ signed i) ≡ false → beyond (signed n +ℤ signed i) (signed i) (signed f) ≡ true
  unfolding beyond in_range
  past_beyond = by (sign n n-fits) (sign i i_fits) (sign f f-fits)
    where
      by : Sign n → Sign i → Sign f → in_range (signed n +ℤ signed i) ≡ false → beyond (signed n +ℤ signed i) (signed i) (signed f) ≡ true
      by (low a p) (low b q) (low c r) out = rw (p, q, r) (lt-ltb f (n + i) (omega (arith, c, ltb-false (n + i) (2 ^ 31) (rw (p, q) at out))))
      by (low a p) (low b q) (high u c s r) out = rw (p, q, r) refl
      by (high j a o p) (low b q) x out = absurd (subst T (sym (difference_stays i j b a) ∙ (rw (p, q) at out)) tt)
      by (low a p) (high u b s q) x out = absurd (subst T (sym (difference_stays n u a b) ∙ (rw (p, q) at out)) tt)
      by (high j a o p) (high u b s q) (low c r) out = rw (p, q, r) refl
      by (high j a o p) (high u b s q) (high v c t r) out = rw (p, q, r) (lt-ltb v (suc (j + u)) (omega (arith, c, ltb-false (suc (j + u)) (2 ^ 31) (rw (p, q) at out))))

-- So a slot of 32-bit words is as `Counted` has it.
pub counted : (e : List ℕ) (k : ℕ) {kind a : ℕ} → ((i : ℕ) → Fits w32 (get_or e i 0))
    → kind ≡ cond (in_range (signed (frame_next e k) +ℤ signed (frame_increment e k))) 4 5
    → a ≡ word (signed (frame_next e k) +ℤ signed (frame_increment e k))
    → Counted kind a (frame_increment e k) (frame_final e k) (signed (frame_next e k) +ℤ signed (frame_increment e k))
counted e k fit q r = record {
  kind = q;
  sum = r;
  ends = past_beyond (frame_next e k) (frame_increment e k) (frame_final e k) (fit (8 * k + 3)).fits (fit (8 * k + 4)).fits (fit (8 * k + 5)).fits;
}
