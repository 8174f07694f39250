-- Steps on the topmost execution slot, and every step's promise.
-- Assumes nothing.
use Rattle.std.specs.Prelude.{Ok, Err}
use mathlib.Core.Path.{◌≡◌, refl, sym, subst}
use mathlib.Core.List.{List}
use Prim.Native.Nat.{ℕ, ◌≤◌}
use native.Mathlib.Omega.{arith}
use lib.ListN.{length}
use Rattle.semantics.specs.Machine as Floo
use Rattle.semantics.specs.Steps as steps
use Rattle.semantics.specs.Steps.{resume}
use Rattle.semantics.specs.declared.Error.{Error}
use Rattle.ending.specs.declared.Command.{Command}
use Rattle.ending.specs.declared.Command.TheVariants as command
use Rattle.machine.specs.Rep.{Rep}
use Rattle.machine.specs.Room.{lent, fitted}
use Rattle.machine.specs.declared.Machine.{Machine}
use Rattle.machine.specs.Answers.{Did}
use Rattle.machine.specs.FrameMoves.{top_frame, frame_dropped, Somewhere}
use Rattle.machine.proofs.Rooms.{frames_length}
use Rattle.operators.specs.Titles.{DoesAll}
use Rattle.turns.specs.Turns.{resumed}
use Rattle.commands.specs.Commands.{Commands}
use Rattle.handover.specs.Handover.{left_of, Passable}
use Rattle.handover.proofs.Passing.{passable}
use Rattle.step.specs.Stepping.{state_of, LogLeft, Tries, TriesToken, ended_by}
use Rattle.step.specs.declared.State.{State}
use Rattle.step.specs.declared.Stepped.{Stepped}
use Rattle.step.specs.declared.Stepped.TheVariants.{Goes, Fails, Misreads}
use Rattle.step.proofs.Moving.{never, tries_step, frame_step}

-- ---- a token

same_left : (l : List ℕ) (r : Stepped) → LogLeft l l r
same_left l (Goes τ) = refl
same_left l (Fails τ x command) = refl
same_left l (Misreads τ command f) = refl

-- Taking a token leaves the log.
pub token_tries : {script : List ℕ} {σ : State} {s s' e e' d d' c c' : List ℕ} (l : List ℕ) (r : Stepped)
    → TriesToken script σ s s' e e' d d' c c' r
    → Tries script σ s s' e e' d d' c c' l l r
token_tries l r T = record { tries = λ μ R. T.tries l μ R; left = same_left l r }

-- ---- the topmost slot

module _ {m : Machine} {s s' e e' d d' c c' l l' : List ℕ} where
  -- Where it failed, no word has changed.
  same_rep : {x : Error} → DoesAll resumed m s s' e e' d d' c c' l l' (Err x) → {μ : Floo.Machine} → Rep m s e d c l μ → Rep m s' e' d' c' l' μ
  same_rep D {μ} R = stays (D.does μ R).1
    where
      stays : (s' ≡ s) × (e' ≡ e) × (d' ≡ d) × (c' ≡ c) × (l' ≡ l) → Rep m s' e' d' c' l' μ
      stays (a, b, f, g, h) =
          subst (λ x. Rep m x e' d' c' l' μ) (sym a)
          (subst (λ x. Rep m s x d' c' l' μ) (sym b)
          (subst (λ x. Rep m s e x c' l' μ) (sym f)
          (subst (λ x. Rep m s e d x l' μ) (sym g)
          (subst (λ x. Rep m s e d c x μ) (sym h) R))))

  pub command_there : {x : Error} {did : Did} → did ≡ Err x → DoesAll resumed m s s' e e' d d' c c' l l' did → (μ : Floo.Machine) → Rep m s e d c l μ → Somewhere m e' c'
  command_there q D μ R = (s', d', l', μ, same_rep (subst (DoesAll resumed m s s' e e' d d' c c' l l') q D) R)

acts : (script : List ℕ) (σ : State) {s e d c l : List ℕ} {μ : Floo.Machine}
    → 1 ≤ σ.machine.frames
    → (R : Rep σ.machine s e d c l μ)
    → steps.step (lent s e d c l) script (state_of σ μ) ≡ steps.moved (lent s e d c l) (state_of σ μ) σ.at σ.next (left_of μ.exec) (resume (top_frame μ) (frame_dropped μ))
acts script σ {s} {e} {d} {c} {l} {μ} some R = frame_step (lent s e d c l) script (state_of σ μ) μ.exec refl (omega (arith, some, frames_length R.frames))

module _ {script : List ℕ} {σ : State} {s s' e e' d d' c c' l l' : List ℕ} (some : 1 ≤ σ.machine.frames) (inside : σ.next ≤ length script) (within : σ.at ≤ length script) {did : Did}
    (D : DoesAll resumed σ.machine s s' e e' d d' c c' l l' did) where
  pub acted : {q : Machine} → did ≡ Ok q → {r : Stepped} → r ≡ ended_by σ σ.at σ.next command.Nothing (Ok q) → Tries script σ s s' e e' d d' c c' l l' r
  unfolding fitted resumed
  acted {q} g is =
      let D' = subst (DoesAll resumed σ.machine s s' e e' d d' c c' l l') g D in
      subst (Tries script σ s s' e e' d d' c c' l l') (sym is)
      (record {
        tries = λ μ R. tries_step {σ = σ} {command = command.Nothing} (Ok q) (λ x u. never u) (record {
          move = resume (top_frame μ) (frame_dropped μ);
          is = acts script σ some R;
          inside = inside;
          within = within;
          named = λ x u. never u;
          answer = D'.does μ R;
        });
        left = D'.rest;
      })

  pub failing : {x : Error} → did ≡ Err x → (μ : Floo.Machine) → Rep σ.machine s e d c l μ → {name : Command} → Commands σ.machine e' c' name → {r : Stepped}
      → r ≡ ended_by σ σ.at σ.next name (Err x)
      → Tries script σ s s' e e' d d' c c' l l' r
  unfolding fitted resumed
  failing {x} g μ₀ R₀ {name} C is =
      let D' = subst (DoesAll resumed σ.machine s s' e e' d d' c c' l l') g D in
      subst (Tries script σ s s' e e' d d' c c' l l') (sym is)
      (record {
        tries = λ μ R.
            let there = same_rep D' R in
            let N = C.says script s' d' l' μ there in
            tries_step (Err x) (λ y u. (C.stays σ.next, subst (Passable σ.machine) (sym (D'.does μ R).1.1) (passable R (D'.does μ R).0))) (record {
              move = resume (top_frame μ) (frame_dropped μ);
              is = acts script σ some R;
              inside = inside;
              within = within;
              named = λ y u. (sym N.0, N.1);
              answer = ((D'.does μ R).0, there);
            });
        left = (D'.does μ₀ R₀).1.4;
      })
