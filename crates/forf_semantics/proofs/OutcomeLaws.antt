-- The outcome of a run is never longer than 256 + 136 × stack slots bytes (01, Setup 9): its head has at most 219, and an item 25. And a run
-- leaves as many memory slots as it was lent, each an integer of 32 bits.
-- Assumes nothing.
use Rattle.std.specs.Prelude.{◌≡◌, true, List, [], ◌∷◌, reverse, length}
use Rattle.std.proofs.Math.Path.{refl}
use Prim.Native.Nat.{ℕ, zero, suc, ◌+◌, ◌*◌, ◌^◌, ◌≤◌, ◌<◌}
use native.Mathlib.Omega.{arith}
use Rattle.std.proofs.Common.{length-append}
use Rattle.std.proofs.lemmas.List.{length-reverse}
use Rattle.std.proofs.Math.Dec.{leb→le}
use Rattle.semantics.specs.Text.{bytes, decimal}
use Rattle.semantics.specs.Words.{signed}
use Rattle.semantics.specs.Outcome.{line}
use Rattle.semantics.specs.ResultLaws.{choose}
use Rattle.semantics.specs.ListLaws.{All, nil, cons}
use Rattle.semantics.specs.TextLaws.{decimal_length}
use Rattle.semantics.specs.OutcomeLaws.{name_text_length, decimal_z_length, line_length}
use Rattle.forf_semantics.specs.Errors.{Result}
use Rattle.forf_semantics.specs.Items.{Item, number, word, group, count, Taken}
use Rattle.forf_semantics.specs.Machine.{Value, integer, substack, Frame, Machine}
use Rattle.forf_semantics.specs.Steps.{Limits, State, Move, command_of, act, treat, silent, resume, room_for, Step, goes, fails, ended, moved, token_move, step_on, step, Ending, finished, out_of_fuel, failed, Run, is_finished, finish, go_on, run, initial}
use Rattle.forf_semantics.specs.Errors.{error_text}
use Rattle.forf_semantics.specs.Outcome.{ending_lines, item, items, outcome}
use Rattle.semantics.specs.ResultLaws.{Gives, gives, gives_then, gives_any, gives_check}
use Rattle.semantics.specs.ResultLaws
use Rattle.forf_semantics.specs.ShortLaws.{Closed}
use Rattle.forf_semantics.proofs.ShortLaws.{closed_any, closed_below, ShortItem, a_number, a_word, a_group, no_item, an_item, take_token_short, an_integer, a_substack, ShortFrame, a_pending, a_running, Tame, with_exec_lem, pushed, entered, perform_keeps}
use Rattle.forf_semantics.specs.declared.Error.{Error}
use Rattle.forf_semantics.specs.declared.Error.TheVariants.{SyntaxError, Undefined, StackUnderflow, TypeCheck, RangeCheck, UndefinedResult, ExecStackOverflow, StackOverflow}
use Rattle.forf_semantics.specs.OutcomeLaws.{command_in}

-- ---- moves

command_length : (Q : ℕ → Type 0) (x : Item) → ShortItem Q x → length (command_of x) ≤ 125
unfolding command_of
command_length Q (number w) h = omega arith
command_length Q (word n) (a_word h) = omega (arith, name_text_length true n)
command_length Q (group xs) h = omega arith

module _ (Q : ℕ → Type 0) (closed : Closed Q) where
  module _ (slots : ℕ) where
    -- A short command, and a tame machine.
    record ShortMove (v : Move) : Type 0 where
      command : length v.command ≤ 125
      result : Gives (Tame Q slots) v.result

    act_short : (x : Item) (m : Machine) → ShortItem Q x → Tame Q slots m → Gives (Tame Q slots) (act x m)
    unfolding act
    act_short (number w) m (a_number s) h = gives (pushed Q h (an_integer s))
    act_short (word n) m s h = perform_keeps Q closed slots n m h
    act_short (group xs) m (a_group s) h = gives (pushed Q h (a_substack s))

    treat_short : (x : Item) (m : Machine) → ShortItem Q x → Tame Q slots m → ShortMove (treat x m)
    unfolding treat
    treat_short x m s h = record { command = command_length Q x s; result = act_short x m s h }

    silent_short : {r : Result Machine} → Gives (Tame Q slots) r → ShortMove (silent r)
    unfolding silent
    silent_short g = record { command = omega arith; result = g }

    resume_short : {f : Frame} (m : Machine) → ShortFrame Q f → Tame Q slots m → ShortMove (resume f m)
    unfolding resume
    resume_short m (a_pending s) h = silent_short (gives (entered Q h (a_running s)))
    resume_short m (a_running no_item) h = silent_short (gives h)
    resume_short m (a_running (an_item {x = x} s r)) h = treat_short x _ s (entered Q h (a_running r))

    token_move_short : {r : Result Taken} (m : Machine) → Gives (λ (k : Taken). ShortItem Q k.item) r → Tame Q slots m → ShortMove (token_move r m)
    unfolding token_move
    token_move_short m (gives {a = t} s) h = treat_short t.item m s h
    token_move_short m ResultLaws.fails h = silent_short ResultLaws.fails

  -- ---- steps and runs

  -- Only short words, so many memory slots, and no more items than the stack has slots.
  pub record Sound (l : Limits) (slots : ℕ) (m : Machine) : Type 0 where
    pub tame : Tame Q slots m
    pub fits : length m.stack ≤ l.stack_slots

  pub record SoundRun (l : Limits) (slots : ℕ) (r : Run) : Type 0 where
    pub command : length (command_in r.ending) ≤ 125
    pub final : Sound l slots r.final.machine

  module _ (l : Limits) (slots : ℕ) where
    room_for_sound : (m : Machine) → Tame Q slots m → Gives (Sound l slots) (room_for l m)
    unfolding room_for
    room_for_sound m h =
        gives_then (gives_any _) (λ a b. gives_then (gives_check _ _) (λ c t. gives (record { tame = h; fits = leb→le _ _ t })))

    -- A step leaves a sound machine, and a short command where it fails.
    data SoundStep : Step → Type 0 where
      went : {τ : State} → Sound l slots τ.machine → SoundStep (goes τ)
      stuck : {e : Error} {c : List ℕ} {τ : State} → length c ≤ 125 → Sound l slots τ.machine → SoundStep (fails e c τ)

    ended_sound : (σ : State) (at next : ℕ) (c : List ℕ) {r : Result Machine}
        → Sound l slots σ.machine
        → length c ≤ 125
        → Gives (Sound l slots) r
        → SoundStep (ended σ at next c r)
    unfolding ended
    ended_sound σ at next c h k (gives g) = went g
    ended_sound σ at next c h k ResultLaws.fails = stuck k h

    moved_sound : (σ : State) (at next : ℕ) {v : Move} → Sound l slots σ.machine → ShortMove slots v → SoundStep (moved l σ at next v)
    unfolding moved
    moved_sound σ at next h k = ended_sound σ at next _ h k.command (gives_then k.result (λ m t. room_for_sound m t))

    step_on_sound : (script : List ℕ) (σ : State) {fs : List Frame} → All (ShortFrame Q) fs → Sound l slots σ.machine → SoundStep (step_on l script σ fs)
    unfolding step_on
    step_on_sound script σ (cons p ps) h = moved_sound σ _ _ h (resume_short slots _ p (with_exec_lem Q h.tame ps))
    step_on_sound script σ nil h = moved_sound σ _ _ h (token_move_short slots σ.machine (take_token_short Q closed script _) h.tame)

    quiet_run : {r : Run} → command_in r.ending ≡ [] → Sound l slots r.final.machine → SoundRun l slots r
    quiet_run {r = r} e h = record { command = rw e (omega arith); final = h }

    finish_sound : (script : List ℕ) (σ : State) → Sound l slots σ.machine → SoundRun l slots (finish script σ)
    unfolding finish
    finish_sound script σ h = quiet_run refl h

    go_on_sound : (rest : State → Run)
        → ((τ : State) → Sound l slots τ.machine → SoundRun l slots (rest τ))
        → {s : Step}
        → SoundStep s
        → SoundRun l slots (go_on rest s)
    unfolding go_on
    go_on_sound rest f (went {τ = τ} h) = f τ h
    go_on_sound rest f (stuck k h) = record { command = k; final = h }

    pub run_sound : (script : List ℕ) (fuel : ℕ) (σ : State) → Sound l slots σ.machine → SoundRun l slots (run l script fuel σ)
    unfolding run step
    run_sound script zero σ h =
        choose (SoundRun l slots) (is_finished script σ) (finish script σ) (record { ending = out_of_fuel; final = σ })
        (λ t. finish_sound script σ h)
        (λ t. quiet_run refl h)
    run_sound script (suc fuel) σ h =
        choose (SoundRun l slots) (is_finished script σ) (finish script σ) (go_on (run l script fuel) (step l script σ))
        (λ t. finish_sound script σ h)
        (λ t. go_on_sound (run l script fuel) (run_sound script fuel) (step_on_sound script σ h.tame.exec h))

  pub initial_sound : (l : Limits) (memory : List ℕ) → All Q memory → Sound l (length memory) (initial memory).machine
  unfolding initial
  initial_sound l memory h = record { tame = record { stack = nil; exec = nil; memory = refl; stored = h }; fits = omega arith }

all_any : {A : Type 0} (l : List A) → All (λ a. Unit {0}) l
all_any [] = nil
all_any (a ∷ l) = cons tt (all_any l)

-- ---- lengths

pub item_length : (v : Value) → length (item v) ≤ 19
unfolding item bytes
item_length (integer w) = omega (arith, decimal_z_length (signed w))
item_length (substack xs) = omega (arith, decimal_length (count xs))

items_length : (vs : List Value) → length (items vs) ≤ 25 * length vs
unfolding items bytes
items_length [] = omega arith
items_length (v ∷ vs) =
    omega (arith, length-append (line (bytes "item") (item v)) (items vs), line_length (bytes "item") (item v), item_length v, items_length vs)

pub error_length : (e : Error) → length (error_text e) ≤ 17
unfolding error_text bytes
error_length SyntaxError = omega arith
error_length Undefined = omega arith
error_length StackUnderflow = omega arith
error_length TypeCheck = omega arith
error_length RangeCheck = omega arith
error_length UndefinedResult = omega arith
error_length ExecStackOverflow = omega arith
error_length StackOverflow = omega arith

pub ending_length : (e : Ending) → length (ending_lines e) ≤ 46 + length (command_in e)
unfolding ending_lines bytes
ending_length finished = omega arith
ending_length out_of_fuel = omega arith
ending_length (failed e c) =
    simp length-append (omega (arith, line_length (bytes "error") (error_text e), line_length (bytes "command") c, error_length e))

outcome_length : (l : Limits) (slots : ℕ) (r : Run) → SoundRun (λ w. Unit {0}) closed_any l slots r → length (outcome r) ≤ 256 + 136 * l.stack_slots
unfolding outcome bytes
outcome_length l slots r h =
    let σ = r.final in
    let s = σ.machine.stack in
    simp (outcome, length-append)
    (omega (
      arith,
      ending_length r.ending,
      h.command,
      line_length (bytes "at") (decimal σ.at),
      decimal_length σ.at,
      line_length (bytes "steps") (decimal σ.steps),
      decimal_length σ.steps,
      line_length (bytes "depth") (decimal (length s)),
      decimal_length (length s),
      items_length (reverse s),
      length-reverse s,
      h.final.fits,
    ))

-- ---- the theorems

module _ (l : Limits) (script : List ℕ) (fuel : ℕ) (memory : List ℕ) where
  pub sound_run : (Q : ℕ → Type 0) (closed : Closed Q) → All Q memory → SoundRun Q closed l (length memory) (run l script fuel (initial memory))
  sound_run Q closed h = run_sound Q closed l (length memory) script fuel (initial memory) (initial_sound Q closed l memory h)

  pub outcome_fits : length (outcome (run l script fuel (initial memory))) ≤ 256 + 136 * l.stack_slots
  outcome_fits = outcome_length l (length memory) (run l script fuel (initial memory)) (sound_run (λ w. Unit {0}) closed_any (all_any memory))

  pub memory_kept : length (run l script fuel (initial memory)).final.machine.memory ≡ length memory
  memory_kept = (sound_run (λ w. Unit {0}) closed_any (all_any memory)).final.tame.memory

  -- Integers of 32 bits stay such, in the memory and on the stack.
  pub integers_kept : All (λ w. w < 2 ^ 32) memory → Tame (λ w. w < 2 ^ 32) (length memory) (run l script fuel (initial memory)).final.machine
  integers_kept h = (sound_run (λ w. w < 2 ^ 32) closed_below h).final.tame
