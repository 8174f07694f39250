-- The definition's step, by what the runner did: from the promise of a token's function or of the topmost slot to the step's end.
-- Assumes nothing.
use Rattle.std.specs.Prelude.{Result as Answered, Some, None, Ok, Err}
use mathlib.Core.Path.{◌≡◌, refl, sym, ap, ◌∙◌, subst}
use mathlib.Core.Bool.{Bool, true, false}
use mathlib.Core.List.{List, [], ◌∷◌}
use mathlib.Core.Option.{Option, none, some}
use Prim.Native.Nat.{ℕ, suc, ◌+◌, ◌-◌, ◌/◌, ◌≤◌}
use native.Mathlib.Omega.{arith}
use native.Mathlib.Numerals.{add-one}
use borrow.Author.Tests.{leb-true, leb-false}
use lib.Dec.{leb}
use lib.ListN.{length, get_or, drop}
use Rattle.semantics.specs.Values.{Value, null, Result, ok, fault, ◌>>=◌}
use Rattle.semantics.specs.Tokens.{Lexing, Token, Lexeme, lex, lexeme}
use Rattle.semantics.specs.Machine as Floo
use Rattle.semantics.specs.Machine.{Frame, pending, with_exec, lookup}
use Rattle.semantics.specs.Errors.{error_text}
use Rattle.semantics.specs.ErrorLaws.{failing_none, failing_full, failing_goes}
use Rattle.semantics.specs.ListLaws.{some_one, none_some}
use Rattle.semantics.specs.Groups.{skip, token_value, take_token}
use Rattle.semantics.specs.Steps as steps
use Rattle.semantics.specs.Steps.{Limits, Move, room_for, unmoved, handling, failing, ended, moved, token_step, step_on, resume}
use Rattle.semantics.specs.declared.Error.{Error}
use Rattle.semantics.specs.declared.Fault.{Fault}
use Rattle.semantics.specs.declared.Fault.TheVariants.{BadBrace}
use Rattle.ending.specs.Endings.{command_text, IsCommand, after_of}
use Rattle.ending.specs.declared.Command.{Command}
use Rattle.machine.specs.Places.{keys}
use Rattle.machine.specs.Rep.{Rep, Answer}
use Rattle.machine.specs.Room.{lent}
use Rattle.machine.specs.declared.Machine.{Machine}
use Rattle.machine.specs.Answers.{Did}
use Rattle.machine.specs.FrameMoves.{top_frame, frame_dropped}
use Rattle.token.specs.Lexing.{Lexes}
use Rattle.handover.specs.Handover.{left_of, Passable, handed_over, Handed, HandedAs, MayHand, HandsOver}
use Rattle.step.specs.Stepping.{state_of, SteppedAs, TriedAs, LogLeft, Steps, Tries, ended_by, handed_by}
use Rattle.step.specs.declared.Stepped.TheVariants.{Goes, Fails, Misreads}
use Rattle.step.specs.declared.State.{State}
use Rattle.step.specs.declared.Stepped.{Stepped}

-- What is left of a token that could not be read.
pub unmoved_is : (σ : steps.State) (at : ℕ) → unmoved σ at ≡ record { machine = σ.machine; next = σ.next; at = at; steps = σ.steps + 1 }
unfolding unmoved
unmoved_is σ at = ap (λ n. record { machine = σ.machine; next = σ.next; at = at; steps = n }) (sym (add-one σ.steps))

-- ---- the end of the definition's step

module _ (l : Limits) (σ : steps.State) (at next : ℕ) (left : List Frame) (command : List ℕ) where
  pub ended_ok : {r : Result Floo.Machine} {ν : Floo.Machine}
      → r ≡ ok ν
      → ended l σ at next left command r ≡ steps.goes (record { machine = ν; next = next; at = at; steps = σ.steps + 1 })
  unfolding ended
  ended_ok {ν = ν} q =
      ap (ended l σ at next left command) q ∙ ap (λ n. steps.goes (record { machine = ν; next = next; at = at; steps = n })) (sym (add-one σ.steps))

  ended_fault : {r : Result Floo.Machine} {x : Error}
      → r ≡ fault x
      → ended l σ at next left command r ≡ failing l σ at next left x command (lookup (error_text x) σ.machine.handlers)
  unfolding ended
  ended_fault q = ap (ended l σ at next left command) q

-- A failing step is what the hand-over comes to.
module _ (l : Limits) (σ : steps.State) (at next : ℕ) (x : Error) (command : List ℕ) where
  abbrev left : List Frame
  left = left_of σ.machine.exec

  abbrev over : Option Value → Option Floo.Machine
  over o =
      elim o [
        | none ↦ none
        | some h ↦ elim (leb (suc (length left)) l.exec_slots) [ true ↦ some (handling l h x command left σ.machine) | false ↦ none ]
      ]

  pub handed_goes : {ν : Floo.Machine}
      → handed_over l x command σ.machine ≡ some ν
      → failing l σ at next left x command (lookup (error_text x) σ.machine.handlers) ≡ steps.goes (record { machine = ν; next = next; at = at; steps = σ.steps + 1 })
  unfolding handed_over
  handed_goes {ν} q = by (lookup (error_text x) σ.machine.handlers) q
    where
      by : (o : Option Value) → over o ≡ some ν → failing l σ at next left x command o ≡ steps.goes (record { machine = ν; next = next; at = at; steps = σ.steps + 1 })
      by none q = absurd (none_some q)
      by (some h) q = on (leb (suc (length left)) l.exec_slots) refl q
        where
          on : (t : Bool)
              → leb (suc (length left)) l.exec_slots ≡ t
              → ◌≡◌ {A = Option Floo.Machine} (elim t [ true ↦ some (handling l h x command left σ.machine) | false ↦ none ]) (some ν)
              → failing l σ at next left x command (some h) ≡ steps.goes (record { machine = ν; next = next; at = at; steps = σ.steps + 1 })
          on true e q =
              failing_goes l σ at next left x command h (leb-true _ _ e)
              ∙ ap (λ m. steps.goes (record { machine = m; next = next; at = at; steps = suc σ.steps })) (some_one q)
              ∙ ap (λ n. steps.goes (record { machine = ν; next = next; at = at; steps = n })) (sym (add-one σ.steps))
          on false e q = absurd (none_some q)

  pub handed_fails : handed_over l x command σ.machine ≡ none
      → failing l σ at next left x command (lookup (error_text x) σ.machine.handlers)
      ≡ steps.fails x command (record { machine = σ.machine; next = σ.next; at = at; steps = σ.steps + 1 })
  unfolding handed_over
  handed_fails q = by (lookup (error_text x) σ.machine.handlers) q ∙ ap (steps.fails x command) (unmoved_is σ at)
    where
      by : (o : Option Value) → over o ≡ none → failing l σ at next left x command o ≡ steps.fails x command (unmoved σ at)
      by none q = failing_none l σ at next left x command
      by (some h) q = on (leb (suc (length left)) l.exec_slots) refl q
        where
          on : (t : Bool)
              → leb (suc (length left)) l.exec_slots ≡ t
              → ◌≡◌ {A = Option Floo.Machine} (elim t [ true ↦ some (handling l h x command left σ.machine) | false ↦ none ]) none
              → failing l σ at next left x command (some h) ≡ steps.fails x command (unmoved σ at)
          on true e q = absurd (none_some (sym q))
          on false e q =
              let full : l.exec_slots ≤ length left = omega (arith, leb-false (suc (length left)) l.exec_slots e) in
              failing_full l σ at next left x command (some h) full

-- What was done answers as a move and its test of room do, and where it failed the words stand for what they stood for.
pub record Ends (script : List ℕ) (σ : State) (s s' e e' d d' c c' l l' : List ℕ) (μ : Floo.Machine) (at next : ℕ) (command : Command) (did : Did) : Type 0 where
  pub move : Move
  pub is : steps.step (lent s e d c l) script (state_of σ μ) ≡ moved (lent s e d c l) (state_of σ μ) at next (left_of μ.exec) move
  pub inside : next ≤ length script
  pub within : at ≤ length script
  pub named : (x : Error) → did ≡ Err x → (move.command ≡ command_text script (keys μ) command) × IsCommand script (keys μ) command
  pub answer : Answer (λ r. Rep r s' e' d' c' l') (Rep σ.machine s' e' d' c' l' μ) did (move.result >>= room_for (lent s e d c l) μ)

-- So what was tried is the definition's step, up to the error that is still to be handed over.
pub tries_step : {script : List ℕ} {σ : State} {s s' e e' d d' c c' l l' : List ℕ} {μ : Floo.Machine} {at next : ℕ} {command : Command} (did : Did)
    → ((x : Error) → did ≡ Err x → (after_of σ.next command ≡ next) × Passable σ.machine e')
    → Ends script σ s s' e e' d d' c c' l l' μ at next command did
    → TriedAs script σ s s' e e' d d' c c' l l' μ (ended_by σ at next command did)
unfolding moved
tries_step {σ = σ} {s = s} {e = e} {d = d} {c = c} {l = l} {μ = μ} {at = at} {next = next} (Ok r) P E =
    let A = E.answer in
    (A.0, E.is ∙ ended_ok (lent s e d c l) (state_of σ μ) at next (left_of μ.exec) E.move.command A.1, A.2, E.inside, E.within)
tries_step {script} {σ} {s} {e = e} {d = d} {c = c} {l = l} {μ = μ} {at = at} {next = next} {command = command} (Err x) P E =
    let A = E.answer in
    let after = (P x refl).0 in (
      E.is
          ∙ ended_fault (lent s e d c l) (state_of σ μ) at next (left_of μ.exec) E.move.command A.0
          ∙ ap (λ t. failing (lent s e d c l) (state_of σ μ) at next (left_of μ.exec) x t (lookup (error_text x) μ.handlers)) (E.named x refl).0
          ∙ ap (λ n. failing (lent s e d c l) (state_of σ μ) at n (left_of μ.exec) x (command_text script (keys μ) command) (lookup (error_text x) μ.handlers)) (sym after),
      A.1,
      (E.named x refl).1,
      (P x refl).1,
      subst (λ n. n ≤ length script) (sym after) E.inside,
      E.within,
      refl,
    )

-- The error is handed over, or is not: then the step is the definition's.
module _ {script : List ℕ} {σ τ : State} {s s' e e' d d' c c' l l' : List ℕ} {x : Error} {command : Command}
    (T : Tries script σ s s' e e' d d' c c' l l' (Fails τ x command)) (exec-long : length e' ≡ length e) (dict_long : length d' ≡ length d) where
  module _ {μ : Floo.Machine} (A : TriedAs script σ s s' e e' d d' c c' l l' μ (Fails τ x command)) where
    abbrev text : List ℕ
    text = command_text script (keys μ) command

    same_machine : τ.machine ≡ σ.machine
    same_machine = ap (λ (t : State). t.machine) A.6

    same_next : τ.next ≡ σ.next
    same_next = ap (λ (t : State). t.next) A.6

    same_steps : τ.steps ≡ σ.steps + 1
    same_steps = ap (λ (t : State). t.steps) A.6

    settled_as : (e'' d'' c'' : List ℕ) (h : Handed)
        → HandedAs (λ m. Rep m s' e'' d'' c'' l') ((e'' ≡ e') × (d'' ≡ d') × (c'' ≡ c')) h (handed_over (lent s e d c l) x text μ)
        → SteppedAs script σ s s' e e'' d d'' c c'' l l' μ (handed_by τ x command h)
    settled_as e'' d'' c'' (Some q) H = (
      H.0,
      A.0 ∙ handed_goes (lent s e d c l) (state_of σ μ) τ.at (after_of σ.next command) x text H.1
          ∙ ap (λ n. steps.goes (record { machine = H.0; next = after_of σ.next command; at = τ.at; steps = n })) (sym same_steps)
          ∙ ap (λ n. steps.goes (record { machine = H.0; next = after_of n command; at = τ.at; steps = τ.steps })) (sym same_next),
      H.2,
      subst (λ n. after_of n command ≤ length script) (sym same_next) A.4,
      A.5,
    )
    settled_as e'' d'' c'' None H = (
      A.0 ∙ handed_fails (lent s e d c l) (state_of σ μ) τ.at (after_of σ.next command) x text H.0
          ∙ ap (λ n. steps.fails x text (record { machine = μ; next = σ.next; at = τ.at; steps = n })) (sym same_steps)
          ∙ ap (λ n. steps.fails x text (record { machine = μ; next = n; at = τ.at; steps = τ.steps })) (sym same_next),
      subst (λ m. Rep m s' e'' d'' c'' l' μ) (sym same_machine)
          (subst (λ y. Rep σ.machine s' y d'' c'' l' μ) (sym H.1.0) (subst (λ y. Rep σ.machine s' e' y c'' l' μ) (sym H.1.1) (subst (λ y. Rep σ.machine s' e' d' y l' μ) (sym H.1.2) A.1))),
      A.2,
      A.5,
    )

  log_left : (h : Handed) → LogLeft l l' (handed_by τ x command h)
  log_left (Some r) = ap (drop r.written) T.left
  log_left None = T.left

  pub settled : {e'' d'' c'' : List ℕ} (h : Handed)
      → HandsOver script x command τ.machine e' e'' d' d'' c' c'' h
      → Steps script σ s s' e e'' d d'' c c'' l l' (handed_by τ x command h)
  unfolding lent
  settled h H =
      record {
        steps = λ μ R.
            let A = T.tries μ R in
            settled_as A _ _ _ h (H.hands s' l' μ (lent s e d c l) (subst (λ m. Rep m s' e' d' c' l' μ) (sym (same_machine A)) A.1) A.2 (ap (λ n. n / 8) (sym exec-long)) (ap (λ n. n / 12) (sym dict_long)));
        left = log_left h;
      }

  -- What the hand-over asks.
  pub may_hand : (μ : Floo.Machine) → Rep σ.machine s e d c l μ → MayHand script command τ.machine e' d' c'
  may_hand μ R =
      let A = T.tries μ R in
      record {
        passable = subst (λ m. Passable m e') (sym (same_machine A)) A.3;
        stack = s';
        log = l';
        machine = μ;
        stands = subst (λ m. Rep m s' e' d' c' l' μ) (sym (same_machine A)) A.1;
        is = A.2;
      }

pub never : {q : Machine} {x : Error} {A : Type 0} → ◌≡◌ {A = Did} (Ok q) (Err x) → A
never u = absurd (cc)

-- The answer of what kept the words where it failed.
pub kept_answer : (R : Machine → Floo.Machine → Type 0) (S T : Type 0) (did : Did) (q : Result Floo.Machine) → (S → T) → Answer R S did q → Answer R T did q
kept_answer R S T (Ok r) q f A = A
kept_answer R S T (Err x) q f A = (A.0, f A.1)

-- ---- which step it is

module _ (limits : Limits) (script : List ℕ) (σ : steps.State) (empty : σ.machine.exec ≡ []) where
  abbrev start : ℕ
  start = skip script σ.next

  taking_step : steps.step limits script σ ≡ token_step limits σ start (take_token script start σ.machine)
  unfolding steps.step step_on
  taking_step = ap (step_on limits script σ) empty

  -- What the reading of the token comes to, the step comes to.
  read_step : {r : Lexing Lexeme} → lex start (drop start script) ≡ r
      → steps.step limits script σ ≡ token_step limits σ start (r >>= λ x. token_value script σ.machine start (start + x.size) x.token)
  unfolding take_token
  read_step q =
      taking_step ∙ ap (λ (l : Lexing Lexeme). token_step limits σ start (l >>= λ x. token_value script σ.machine start (start + x.size) x.token)) q

  -- A token is there.
  pub token_step_lem : {next : ℕ} {t : Token}
      → Lexes script start t next
      → steps.step limits script σ ≡ token_step limits σ start (token_value script σ.machine start next t)
  unfolding lexeme ◌>>=◌
  token_step_lem {next} {t} L =
      let there : start + (next - start) ≡ next = omega (arith, L.past) in
      read_step L.lexes ∙ ap (λ n. token_step limits σ start (token_value script σ.machine start n t)) there

  -- The end is there, which is no token.
  pub end_step : lex start (drop start script) ≡ lexeme Token.end 0 → steps.step limits script σ ≡ steps.misreads (BadBrace start) (unmoved σ start)
  unfolding token_value token_step lexeme ◌>>=◌
  end_step q = read_step q

  -- A fault.
  pub fault_step : {f : Fault} → lex start (drop start script) ≡ fault f → steps.step limits script σ ≡ steps.misreads f (unmoved σ start)
  unfolding token_step ◌>>=◌
  fault_step q = read_step q

-- The topmost slot acts.
pub frame_step : (limits : Limits) (script : List ℕ) (σ : steps.State) (fs : List Frame)
    → σ.machine.exec ≡ fs
    → 1 ≤ length fs
    → steps.step limits script σ ≡ moved limits σ σ.at σ.next (left_of σ.machine.exec) (resume (top_frame σ.machine) (frame_dropped σ.machine))
unfolding steps.step step_on frame_dropped
frame_step limits script σ [] q there = absurd (omega arith)
frame_step limits script σ (f ∷ fs) q there =
    ap (step_on limits script σ) q
    ∙ ap (λ (x : List Frame). moved limits σ σ.at σ.next (left_of x) (resume (get_or x 0 (pending null)) (with_exec (drop 1 x) σ.machine))) (sym q)
