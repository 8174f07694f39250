-- The command of the topmost execution slot, by the kind in its words: a pending value's, the next element's of a procedure, or none.
-- Assumes nothing.
use mathlib.Core.Path.{◌≡◌, refl, sym, ap, ◌∙◌}
use mathlib.Core.Bool.{Bool, true, false}
use mathlib.Core.List.{List, []}
use Prim.Native.Nat.{ℕ, zero, suc, ◌-◌, ◌≤◌}
use native.Mathlib.Omega.{arith}
use lib.IntN.{ℤ}
use Rattle.semantics.specs.Words.{signed}
use Rattle.semantics.specs.Values.{Value, Object, null}
use Rattle.semantics.specs.Machine as Floo
use Rattle.semantics.specs.Machine.{Frame, pending, running, repeating, counting, with_exec, elements_of, object}
use Rattle.semantics.specs.Steps.{resume, silent, beyond, command_of}
use Rattle.semantics.specs.ListLaws.{no_element, an_element}
use Rattle.heap.specs.Word.{word}
use Rattle.heap.specs.Shape.{Ghost}
use Rattle.store.specs.Rep.{object_at, element, Stands}
use Rattle.machine.specs.Words.{frame_kind, frame_tag, frame_payload, frame_cell, frame_left}
use Rattle.machine.specs.Places.{keys, texts}
use Rattle.machine.specs.Rep.{Rep, IsIn, FrameIs, a_pending, a_running, a_looping, a_repeating, a_counting, a_past}
use Rattle.machine.specs.declared.Machine.{Machine}
use Rattle.machine.specs.FrameMoves.{top_frame, frame_dropped}
use Rattle.machine.proofs.Tops.{slot}
use Rattle.frames.proofs.Running.{run_at, top_runs, element_words}
use Rattle.turns.proofs.Resuming.{top_is}
use Rattle.turns.proofs.Procedures.{is_pending_lem}
use Rattle.ending.specs.Endings.{command_text, IsCommand}
use Rattle.ending.specs.declared.Command.{Command}
use Rattle.ending.specs.declared.Command.TheVariants.{Nothing}
use Rattle.commands.specs.Commands.{CommandIs, Commands}

-- ---- loops

repeat_silent : (n : ℕ) (v : Value) (μ : Floo.Machine) → (resume (repeating n v) μ).command ≡ []
unfolding resume silent
repeat_silent zero v μ = refl
repeat_silent (suc n) v μ = refl

for_silent : (z : ℤ) (i f : ℕ) (v : Value) (μ : Floo.Machine) (b : Bool) → beyond z (signed i) (signed f) ≡ b → (resume (counting z i f v) μ).command ≡ []
unfolding resume silent
for_silent z i f v μ true q = rw (q, resume) refl
for_silent z i f v μ false q = rw (q, resume) refl

loop_silent : {A : Value → ℕ → ℕ → Type 0} {g : Ghost} {store : List Object} {f : Frame} {kind t p a b c : ℕ} (μ : Floo.Machine)
    → FrameIs A g store f kind t p a b c
    → (kind ≡ 0 → ⊥)
    → (kind ≡ 1 → ⊥)
    → (resume f μ).command ≡ []
unfolding resume silent
loop_silent μ (a_pending h) x y = absurd (x refl)
loop_silent μ (a_running h s n) x y = absurd (y refl)
loop_silent μ (a_looping h) x y = refl
loop_silent μ (a_repeating {v = v} {n = n} h) x y = repeat_silent n v μ
loop_silent μ (a_counting {v = v} {z = z} {i = i} {f = f} h e) x y = for_silent z i f v μ (beyond z (signed i) (signed f)) refl
loop_silent μ (a_past {v = v} {z = z} {i = i} {f = f} h e o b) x y = for_silent z i f v μ true b

-- ---- the topmost slot

abbrev handed : Floo.Machine → List ℕ
handed μ = (resume (top_frame μ) (frame_dropped μ)).command

module _ {m : Machine} {s e d c l : List ℕ} {μ : Floo.Machine} (R : Rep m s e d c l μ) (k : ℕ) (h : m.frames ≡ suc k) where
  loop_handed : (frame_kind e k ≡ 0 → ⊥) → (frame_kind e k ≡ 1 → ⊥) → handed μ ≡ []
  loop_handed x y = ap (λ f. (resume f (frame_dropped μ)).command) (top_is μ (slot R k h).split) ∙ loop_silent (frame_dropped μ) (slot R k h).words x y

  module _ (kind : frame_kind e k ≡ 0) where
    waits : (v : Value) × ((slot R k h).top ≡ pending v) × IsIn R.world μ v (frame_tag e k) (frame_payload e k)
    waits = is_pending_lem (slot R k h).words kind

    waiting_handed : handed μ ≡ command_of waits.0
    unfolding resume
    waiting_handed = ap (λ f. (resume f (frame_dropped μ)).command) (top_is μ (slot R k h).split ∙ waits.1)

  module _ (i j : ℕ) (is : top_frame μ ≡ running i j) where
    ended_handed : frame_left e k ≡ 0 → handed μ ≡ []
    unfolding resume silent object frame_dropped with_exec
    ended_handed z =
        ap (λ f. (resume f (frame_dropped μ)).command) is
        ∙ rw (no_element (elements_of (object_at μ.store i)) j (omega (arith, (top_runs R k h i j is).left, z)), resume) refl

    element_handed : 1 ≤ frame_left e k → handed μ ≡ command_of (element μ.store i j)
    unfolding resume object frame_dropped with_exec
    element_handed left =
        ap (λ f. (resume f (frame_dropped μ)).command) is
        ∙ rw (an_element (elements_of (object_at μ.store i)) j null (omega (arith, (top_runs R k h i j is).left, left)), resume) refl

-- ---- what is promised

-- Two words of a value that the slot executes.
of_value_lem : {t p : ℕ} {r : Command} {names : List (List ℕ)} {texts : List Bool} {ρ : ℕ → ℕ} {v : Value} (script : List ℕ) {text : List ℕ}
    → CommandIs t p r
    → text ≡ command_of v
    → Stands names texts ρ v t p
    → (command_text script names r ≡ text) × IsCommand script names r
of_value_lem {names = names} {texts = texts} {ρ = ρ} {v = v} script C q s = let w = C.says script names texts ρ v s in (w.0 ∙ sym q, w.1)

module _ {m : Machine} {e c : List ℕ} {r : Command} (some : 1 ≤ m.frames) where
  pub pending_says : frame_kind e (m.frames - 1) ≡ 0
      → CommandIs (frame_tag e (m.frames - 1)) (frame_payload e (m.frames - 1)) r
      → Commands m e c r
  pending_says kind C =
      record {
        says = λ script s d l μ R.
            let h : m.frames ≡ suc (m.frames - 1) = omega (arith, some) in
            of_value_lem script C (waiting_handed R (m.frames - 1) h kind) (waits R (m.frames - 1) h kind).2.stands;
        stays = C.stays;
      }

  pub element_says : {t p : ℕ}
      → frame_kind e (m.frames - 1) ≡ 1
      → (frame_left e (m.frames - 1) ≡ 0 → ⊥)
      → t ≡ word c (frame_cell e (m.frames - 1)) 0
      → p ≡ word c (frame_cell e (m.frames - 1)) 1
      → CommandIs t p r
      → Commands m e c r
  element_says {t} {p} kind more t-is p-is C =
      record {
        says = λ script s d l μ R.
            let h : m.frames ≡ suc (m.frames - 1) = omega (arith, some) in
            let x = run_at R (m.frames - 1) h kind in
            let left : 1 ≤ frame_left e (m.frames - 1) = omega (arith, more) in
            let stands : Stands (keys μ) (texts μ) R.world.ρ (element μ.store x.0 x.1) t p =
            rw (t-is, p-is) (element_words R (m.frames - 1) h x.0 x.1 x.2 left).stands in
            of_value_lem script C (element_handed R (m.frames - 1) h x.0 x.1 x.2 left) stands;
        stays = C.stays;
      }

module _ {m : Machine} {e c : List ℕ} (some : 1 ≤ m.frames) where
  pub ended_says : frame_kind e (m.frames - 1) ≡ 1 → frame_left e (m.frames - 1) ≡ 0 → Commands m e c Nothing
  unfolding command_text
  ended_says kind none_left =
      record {
        says = λ script s d l μ R.
            let h : m.frames ≡ suc (m.frames - 1) = omega (arith, some) in
            let x = run_at R (m.frames - 1) h kind in
            (sym (ended_handed R (m.frames - 1) h x.0 x.1 x.2 none_left), tt);
        stays = λ n. refl;
      }

  pub loop_says : (frame_kind e (m.frames - 1) ≡ 0 → ⊥) → (frame_kind e (m.frames - 1) ≡ 1 → ⊥) → Commands m e c Nothing
  unfolding command_text
  loop_says x y =
      record {
        says = λ script s d l μ R. (sym (loop_handed R (m.frames - 1) (omega (arith, some)) x y), tt);
        stays = λ n. refl;
      }
