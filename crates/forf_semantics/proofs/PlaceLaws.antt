-- The offset of what is left of a script, and that of the token last taken, never pass the script's length.
-- Assumes nothing.
use mathlib.Core.List.{List, [], ◌∷◌}
use Prim.Native.Nat.{ℕ, zero, suc, ◌+◌, ◌-◌, ◌≤◌}
use native.Mathlib.Omega.{arith}
use Rattle.std.specs.Prelude.{length}
use Rattle.semantics.specs.ResultLaws.{choose}
use Rattle.semantics.specs.Values.{ok, fault}
use Rattle.forf_semantics.specs.Errors.{Result}
use Rattle.forf_semantics.specs.Tokens.{Token}
use Rattle.forf_semantics.specs.Items.{Item, Taken, skip, group_at, taken, token_item, take_token}
use Rattle.forf_semantics.specs.Machine.{Machine, Frame}
use Rattle.forf_semantics.specs.Steps.{Limits, State, Step, goes, fails, ended, moved, offset_after, step_on, step, Run, out_of_fuel, is_finished, finish, go_on, run, initial}
use Rattle.semantics.specs.ResultLaws.{Gives, gives, gives_then}
use Rattle.semantics.specs.ResultLaws
use Rattle.forf_semantics.specs.TokenLaws.{Fits}
use Rattle.forf_semantics.proofs.TokenLaws.{skip_le, token_fits}
use Rattle.forf_semantics.proofs.GroupLaws.{group_takes}
use Rattle.forf_semantics.specs.declared.Error.{Error}
use Rattle.forf_semantics.specs.PlaceLaws.{Beyond, Placed}

taken_beyond : {size offset after : ℕ} (x : Item) → Beyond size offset after → Gives (λ (k : Taken). Beyond size offset k.after) (taken x after)
unfolding taken
taken_beyond x h = gives h

token_item_beyond : (script : List ℕ) (start size : ℕ) (t : Token)
    → start ≤ length script
    → Fits (length script - start) t size
    → Gives (λ (k : Taken). Beyond (length script) start k.after) (token_item script (start + size) t)
unfolding token_item group_at
token_item_beyond script start size (Token.integer w) h f = taken_beyond _ (record { later = omega arith; inside = omega arith })
token_item_beyond script start size (Token.word n) h f = taken_beyond _ (record { later = omega arith; inside = omega arith })
token_item_beyond script start size Token.open_brace h f =
    gives_then (group_takes script 15 (start + size) (omega arith)) (λ g i. taken_beyond _ (record { later = omega arith; inside = i.1 }))
token_item_beyond script start size Token.close_brace h f = ResultLaws.fails
token_item_beyond script start size Token.end h f = ResultLaws.fails

pub take_token_beyond : (script : List ℕ) (start : ℕ) → start ≤ length script → Gives (λ (k : Taken). Beyond (length script) start k.after) (take_token script start)
unfolding take_token
take_token_beyond script start h = gives_then (token_fits script start) (λ l f. token_item_beyond script start l.size l.token h f)

data PlacedStep (script : List ℕ) : Step → Type 0 where
  went : {τ : State} → Placed script τ → PlacedStep script (goes τ)
  stuck : {e : Error} {c : List ℕ} {τ : State} → Placed script τ → PlacedStep script (fails e c τ)

module _ (script : List ℕ) where
  ended_placed : (σ : State) (at next : ℕ) (c : List ℕ) (r : Result Machine)
      → Placed script σ
      → at ≤ length script
      → next ≤ length script
      → PlacedStep script (ended σ at next c r)
  unfolding ended
  ended_placed σ at next c (ok m) h k n = went (record { next = n; at = k })
  ended_placed σ at next c (fault e) h k n = stuck (record { next = h.next; at = k })

  after_placed : (start : ℕ) {r : Result Taken} → start ≤ length script → Gives (λ (k : Taken). Beyond (length script) start k.after) r → offset_after start r ≤ length script
  unfolding offset_after
  after_placed start h (gives b) = b.inside
  after_placed start h ResultLaws.fails = h

  step_on_placed : (l : Limits) (σ : State) (fs : List Frame) → Placed script σ → PlacedStep script (step_on l script σ fs)
  unfolding step_on moved
  step_on_placed l σ (f ∷ fs) h = ended_placed σ _ _ _ _ h h.at h.next
  step_on_placed l σ [] h =
      let s = skip_le script σ.next h.next in
      ended_placed σ _ _ _ _ h s.1 (after_placed (skip script σ.next) s.1 (take_token_beyond script (skip script σ.next) s.1))

  finish_placed : (σ : State) → Placed script σ → Placed script (finish script σ).final
  unfolding finish
  finish_placed σ h = record { next = h.next; at = omega arith }

  go_on_placed : (rest : State → Run) → ((τ : State) → Placed script τ → Placed script (rest τ).final) → {s : Step} → PlacedStep script s → Placed script (go_on rest s).final
  unfolding go_on
  go_on_placed rest f (went {τ = τ} h) = f τ h
  go_on_placed rest f (stuck h) = h

  pub run_placed : (l : Limits) (fuel : ℕ) (σ : State) → Placed script σ → Placed script (run l script fuel σ).final
  unfolding run step
  run_placed l zero σ h =
      choose (λ (r : Run). Placed script r.final) (is_finished script σ) (finish script σ) (record { ending = out_of_fuel; final = σ })
      (λ t. finish_placed σ h)
      (λ t. h)
  run_placed l (suc fuel) σ h =
      choose (λ (r : Run). Placed script r.final) (is_finished script σ) (finish script σ) (go_on (run l script fuel) (step l script σ))
      (λ t. finish_placed σ h)
      (λ t. go_on_placed (run l script fuel) (run_placed l fuel) (step_on_placed l σ σ.machine.exec h))

  pub initial_placed : (memory : List ℕ) → Placed script (initial memory)
  unfolding initial
  initial_placed memory = record { next = omega arith; at = omega arith }
