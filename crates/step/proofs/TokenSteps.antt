-- Steps that take a token: what the token's function promises is the definition's step.
-- Assumes nothing.
use Rattle.std.specs.Prelude.{Ok, Err}
use mathlib.Core.Path.{◌≡◌, refl, sym, ap, ◌∙◌, subst}
use mathlib.Core.Bool.{true, false}
use mathlib.Core.List.{List, []}
use Prim.Native.Nat.{ℕ, ◌+◌, ◌-◌, ◌≤◌}
use native.Mathlib.Omega.{arith}
use lib.ListN.{length, take, drop}
use Rattle.semantics.specs.Values.{Result, ok, fault, ◌>>=◌, array}
use Rattle.semantics.specs.Tokens.{Lexing, Token, lex, lexeme}
use Rattle.semantics.specs.Machine as Floo
use Rattle.semantics.specs.Machine.{Frame, push, made}
use Rattle.semantics.specs.Groups.{Taken, taken, skip, opened, group, token_value}
use Rattle.semantics.specs.Steps as steps
use Rattle.semantics.specs.Steps.{room_for, unmoved, moved, command_of, is_procedure, treat, token_move, token_step}
use Rattle.semantics.specs.declared.Fault.{Fault}
use Rattle.semantics.specs.declared.Fault.TheVariants.{BadBrace}
use Rattle.ending.specs.Endings.{command_text, IsCommand, after_of}
use Rattle.ending.specs.declared.Command.{Command}
use Rattle.ending.specs.declared.Command.TheVariants as command
use Rattle.machine.specs.Places.{keys}
use Rattle.machine.specs.Rep.{Rep, Answer}
use Rattle.machine.specs.Room.{lent, fitted, DoesStack}
use Rattle.machine.specs.Answers.{Did}
use Rattle.token.specs.declared.Token as scanned
use Rattle.token.specs.Lexing.{TokenAt, Lexes, NameToken, StringToken, BraceToken, EndToken, LexedAt}
use Rattle.taking.specs.Effects.{integer_taken, string_taken, literal_taken, executable_taken}
use Rattle.taking.specs.Promises.{DoesBinding, DoesNames, DoesString}
use Rattle.taking.proofs.Moves.{taken_of, integer_move, string_move, literal_move, executable_move}
use Rattle.group_taking.specs.Taking.{group_read, Grouped, GroupedAs, TakesGroup}
use Rattle.group_taking.specs.declared.GroupError.TheVariants as group
use Rattle.handover.specs.Handover.{left_of}
use Rattle.handover.proofs.Passing.{exec_empty, no_slot}
use Rattle.step.specs.Stepping.{state_of, TriedAs, TriesToken, ended_by, grouped_by, misread_by}
use Rattle.step.specs.declared.State.{State}
use Rattle.step.specs.declared.Stepped.{Stepped}
use Rattle.step.proofs.Moving.{Ends, tries_step, kept_answer, token_step_lem, end_step, fault_step, unmoved_is}

-- ---- the token that was read

pub token_is : (script : List ℕ) (start next : ℕ) {t u : scanned.Token} → TokenAt script start next t → t ≡ u → TokenAt script start next u
token_is script start next k h = subst (TokenAt script start next) h k

-- ---- from a promise to the step

module _ {script : List ℕ} {σ : State} (none : σ.machine.frames ≡ 0) {start : ℕ} (begins : start ≡ skip script σ.next) (low : start ≤ length script) where
  -- What is done is what the definition makes of the token.
  module _ {next : ℕ} (t : Token) (L : Lexes script start t next) (f : Floo.Machine → Result Floo.Machine) (command : Command)
      (value : (μ : Floo.Machine) → token_value script μ start next t ≡ ok (taken_of t μ next))
      (result : (μ : Floo.Machine) → (token_move (taken_of t μ next)).result ≡ f μ)
      (name : (μ : Floo.Machine) → ((token_move (taken_of t μ next)).command ≡ command_text script (keys μ) command) × IsCommand script (keys μ) command)
      (taken-after : after_of σ.next command ≡ next)
      {s s' e e' d d' c c' : List ℕ} (did : Did)
      (does : (l : List ℕ) (μ : Floo.Machine) → Rep σ.machine s e d c l μ
      → Answer (λ r. Rep r s' e' d' c' l) (Rep σ.machine s' e' d' c' l μ) did (fitted (lent s e d c l) f μ)) where
    token_ends : (l : List ℕ) (μ : Floo.Machine) → Rep σ.machine s e d c l μ → Ends script σ s s' e e' d d' c c' l l μ start next command did
    unfolding fitted token_step
    token_ends l μ R =
        let limits = lent s e d c l in
        record {
          move = token_move (taken_of t μ next);
          is = subst (λ n. steps.step limits script (state_of σ μ) ≡ token_step limits (state_of σ μ) n (token_value script μ n next t)) (sym begins)
              (token_step_lem limits script (state_of σ μ) (exec_empty R none) (subst (λ n. Lexes script n t next) begins L))
              ∙ ap (token_step limits (state_of σ μ) start) (value μ)
              ∙ ap (λ fs. moved limits (state_of σ μ) start next (left_of fs) (token_move (taken_of t μ next))) (sym (exec_empty R none));
          inside = L.inside;
          within = low;
          named = λ x q. name μ;
          answer = subst (λ q. Answer (λ r. Rep r s' e' d' c' l) (Rep σ.machine s' e' d' c' l μ) did (q >>= room_for limits μ)) (sym (result μ)) (does l μ R);
        }

    token_does : {r : Stepped} → r ≡ ended_by σ start next command did → TriesToken script σ s s' e e' d d' c c' r
    token_does q = subst (TriesToken script σ s s' e e' d d' c c') (sym q) (record { tries = λ l μ R. tries_step did (λ x q. (taken-after, no_slot none)) (token_ends l μ R) })

  -- A fault.
  module _ {s e d c : List ℕ} where
    misread_ends : {f : Fault}
        → ((l : List ℕ) (μ : Floo.Machine) → Rep σ.machine s e d c l μ → steps.step (lent s e d c l) script (state_of σ μ) ≡ steps.misreads f (unmoved (state_of σ μ) start))
        → {r : Stepped}
        → r ≡ misread_by σ start f
        → TriesToken script σ s s e e d d c c r
    misread_ends {f} h q =
        subst (TriesToken script σ s s e e d d c c) (sym q)
        (record { tries = λ l μ R. (h l μ R ∙ ap (steps.misreads f) (unmoved_is (state_of σ μ) start), R, low) })

    pub lex_fault : {x : Fault} → LexedAt script start (Err x) → {r : Stepped} → r ≡ misread_by σ start x → TriesToken script σ s s e e d d c c r
    lex_fault {x} v =
        misread_ends (λ l μ R.
        subst (λ n. steps.step (lent s e d c l) script (state_of σ μ) ≡ steps.misreads x (unmoved (state_of σ μ) n)) (sym begins)
        (fault_step (lent s e d c l) script (state_of σ μ) (exec_empty R none) (subst (λ n. lex n (drop n script) ≡ fault x) begins v)))

    pub close_fault : {next : ℕ} → BraceToken script start Token.close_brace next → {r : Stepped} → r ≡ misread_by σ start (BadBrace start) → TriesToken script σ s s e e d d c c r
    unfolding token_value token_step
    close_fault {next} B =
        misread_ends (λ l μ R.
        subst (λ n. steps.step (lent s e d c l) script (state_of σ μ) ≡ steps.misreads (BadBrace n) (unmoved (state_of σ μ) n)) (sym begins)
        (token_step_lem (lent s e d c l) script (state_of σ μ) (exec_empty R none) (subst (λ n. Lexes script n Token.close_brace next) begins B.token)))

    pub end_fault : {next : ℕ} → EndToken script start next → {r : Stepped} → r ≡ misread_by σ start (BadBrace start) → TriesToken script σ s s e e d d c c r
    end_fault {next} E =
        misread_ends (λ l μ R.
        subst (λ n. steps.step (lent s e d c l) script (state_of σ μ) ≡ steps.misreads (BadBrace n) (unmoved (state_of σ μ) n)) (sym begins)
        (end_step (lent s e d c l) script (state_of σ μ) (exec_empty R none) (subst (λ n. lex n (drop n script) ≡ lexeme Token.end 0) begins E.lexes)))

  -- ---- tokens that are taken

  pub integer_does : {next w : ℕ} → Lexes script start (Token.integer w) next → {s s' e d c : List ℕ} (did : Did) → DoesStack (integer_taken w) σ.machine s s' did → {r : Stepped}
      → r ≡ ended_by σ start next (command.Taken next) did
      → TriesToken script σ s s' e e d d c c r
  unfolding token_move token_value taken command_of command_text
  integer_does {next} {w} L {s} {s'} {e} {d} {c} did D =
      token_does (Token.integer w) L (integer_taken w) (command.Taken next) (λ μ. refl) (λ μ. integer_move μ next w) (λ μ. (refl, L.inside)) refl did
      (λ l μ R. kept_answer (λ r. Rep r s' e d c l) (s' ≡ s) (Rep σ.machine s' e d c l μ) did (fitted (lent s e d c l) (integer_taken w) μ)
      (λ q. subst (λ x. Rep σ.machine x e d c l μ) (sym q) R) (D.does e d c l μ R))

  pub string_does : {next at size : ℕ} → StringToken script start at size next → {s s' e d c c' : List ℕ} (did : Did) → DoesString script at σ.machine s s' c c' did → {r : Stepped}
      → r ≡ ended_by σ start next (command.Taken next) did
      → TriesToken script σ s s' e e d d c c' r
  unfolding token_move token_value taken command_of command_text
  string_does {next} T {s} {s'} {e} {d} {c} {c'} did D =
      let bs = T.bytes in
      token_does (Token.string bs) T.token (string_taken bs) (command.Taken next) (λ μ. refl) (λ μ. string_move μ next bs) (λ μ. (refl, T.token.inside)) refl did
      (λ l μ R. kept_answer (λ r. Rep r s' e d c' l) ((s' ≡ s) × (c' ≡ c)) (Rep σ.machine s' e d c' l μ) did (fitted (lent s e d c l) (string_taken bs) μ)
      (λ q. subst (λ x. Rep σ.machine x e d c' l μ) (sym q.0) (subst (λ x. Rep σ.machine s e d x l μ) (sym q.1) R))
      ((D.does bs next T.own).does e d l μ R))

  pub literal_does : {next at size : ℕ} → NameToken script start false 1 at size next → {s s' e d d' c : List ℕ} (did : Did)
      → DoesNames (literal_taken (take (at + size - at) (drop at script))) σ.machine s s' d d' did
      → {r : Stepped}
      → r ≡ ended_by σ start next (command.Taken next) did
      → TriesToken script σ s s' e e d d' c c r
  unfolding token_move token_value taken command_of command_text
  literal_does {next} {at} {size} T {s} {s'} {e} {d} {d'} {c} did D =
      let n = take size (drop at script) in
      let part : at + size - at ≡ size = omega arith in
      token_does (Token.name false n) T.token (literal_taken n) (command.Taken next) (λ μ. refl) (λ μ. literal_move μ next n) (λ μ. (refl, T.token.inside)) refl did
      (λ l μ R. kept_answer (λ r. Rep r s' e d' c l) ((s' ≡ s) × (d' ≡ d)) (Rep σ.machine s' e d' c l μ) did (fitted (lent s e d c l) (literal_taken n) μ)
      (λ q. subst (λ x. Rep σ.machine x e d' c l μ) (sym q.0) (subst (λ x. Rep σ.machine s e x c l μ) (sym q.1) R))
      ((subst (λ k. DoesNames (literal_taken (take k (drop at script))) σ.machine s s' d d' did) part D).does e c l μ R))

  pub executable_does : {next at size : ℕ} → NameToken script start true 0 at size next → {s e e' d c c' : List ℕ} (did : Did)
      → DoesBinding (executable_taken (take (at + size - at) (drop at script))) σ.machine e e' d c c' did
      → {r : Stepped}
      → r ≡ ended_by σ start next (command.Token at size) did
      → TriesToken script σ s s e e' d d c c' r
  unfolding token_move token_value taken command_of command_text
  executable_does {next} {at} {size} T {s} {e} {e'} {d} {c} {c'} did D =
      let n = take size (drop at script) in
      let part : at + size - at ≡ size = omega arith in
      token_does (Token.name true n) T.token (executable_taken n) (command.Token at size) (λ μ. refl) (λ μ. executable_move μ next n)
      (λ μ. (refl, (omega (arith, T.ends, T.token.inside), T.few))) (omega (arith, T.ends)) did
      (λ l μ R. kept_answer (λ r. Rep r s e' d c' l) ((e' ≡ e) × (c' ≡ c)) (Rep σ.machine s e' d c' l μ) did (fitted (lent s e d c l) (executable_taken n) μ)
      (λ q. subst (λ x. Rep σ.machine s x d c' l μ) (sym q.0) (subst (λ x. Rep σ.machine s e d x l μ) (sym q.1) R))
      ((subst (λ k. DoesBinding (executable_taken (take k (drop at script))) σ.machine e e' d c c' did) part D).does s l μ R))

-- ---- a brace group

module _ (script : List ℕ) (σ : State) (none : σ.machine.frames ≡ 0) (start : ℕ) (begins : start ≡ skip script σ.next) (low : start ≤ length script) (next : ℕ) (B : BraceToken script start Token.open_brace next)
    (s s' e d d' c c' : List ℕ) where
  opens_step : {l : List ℕ} {μ : Floo.Machine} → Rep σ.machine s e d c l μ
      → {r : Lexing Taken} → group_read script next μ ≡ r
      → steps.step (lent s e d c l) script (state_of σ μ) ≡ token_step (lent s e d c l) (state_of σ μ) start r
  unfolding token_value group_read
  opens_step {l} {μ} R q =
      let limits = lent s e d c l in
      let brace : start ≡ next - 1 = omega (arith, B.ends) in
      subst (λ n. steps.step limits script (state_of σ μ) ≡ token_step limits (state_of σ μ) n (token_value script μ n next Token.open_brace)) (sym begins)
      (token_step_lem limits script (state_of σ μ) (exec_empty R none) (subst (λ n. Lexes script n Token.open_brace next) begins B.token))
      ∙ ap (λ n. token_step limits (state_of σ μ) start (group script (length script) (made μ) n 15 next [] (opened μ))) brace
      ∙ ap (token_step limits (state_of σ μ) start) q

  -- A group that is taken, or that finds no room.
  group_ends : {outcome : Did} {after : ℕ} (l : List ℕ) (μ : Floo.Machine) (ν : Floo.Machine)
      → Rep σ.machine s e d c l μ
      → group_read script next μ ≡ taken (array true (made μ)) ν after
      → after ≤ length script
      → Answer (λ r. Rep r s' e d' c' l) (Rep σ.machine s' e d' c' l μ) outcome (room_for (lent s e d c l) μ (push (array true (made μ)) ν))
      → Ends script σ s s' e e d d' c c' l l μ start after (command.Taken after) outcome
  unfolding token_step token_move treat is_procedure taken command_text command_of ◌>>=◌
  group_ends {outcome} {after} l μ ν R read inside answer =
      record {
        move = record { command = []; result = ok (push (array true (made μ)) ν) };
        is = opens_step R read
            ∙ ap (λ fs. moved (lent s e d c l) (state_of σ μ) start after (left_of fs) (record { command = []; result = ok (push (array true (made μ)) ν) })) (sym (exec_empty R none));
        inside = inside;
        within = low;
        named = λ x q. (refl, inside);
        answer = answer;
      }

  kept_words : {l : List ℕ} {μ : Floo.Machine} → s' ≡ s → c' ≡ c → Rep σ.machine s e d' c l μ → Rep σ.machine s' e d' c' l μ
  kept_words {l} {μ} p q R = subst (λ y. Rep σ.machine y e d' c' l μ) (sym p) (subst (λ y. Rep σ.machine s e d' y l μ) (sym q) R)

  group_tries : (answer : Grouped) (l : List ℕ) (μ : Floo.Machine)
      → Rep σ.machine s e d c l μ
      → GroupedAs script next σ.machine s s' e d d' c c' l μ answer
      → TriedAs script σ s s' e e d d' c c' l l μ (grouped_by σ start answer)
  unfolding token_step
  group_tries (Ok (q, after)) l μ R G =
      tries_step (Ok q) (λ x u. (refl, no_slot none)) (group_ends {outcome = Ok q} l μ G.0 R G.1 G.4 (push (array true (made μ)) G.0, G.2, G.3))
  group_tries (Err (group.Failed x after)) l μ R G =
      tries_step (Err x) (λ y u. (refl, no_slot none)) (group_ends {outcome = Err x} l μ G.0 R G.1 G.6 (G.2, kept_words G.3 G.4 G.5))
  group_tries (Err (group.Misread f)) l μ R G =
      (opens_step R G.0 ∙ ap (steps.misreads f) (unmoved_is (state_of σ μ) start), kept_words G.1 G.2 G.3, low)

pub group_does : {script : List ℕ} {σ : State} → σ.machine.frames ≡ 0
    → {start : ℕ} → start ≡ skip script σ.next
    → start ≤ length script
    → {next : ℕ} → BraceToken script start Token.open_brace next
    → {s s' e d d' c c' : List ℕ} (answer : Grouped)
    → TakesGroup script next σ.machine s s' d d' c c' answer
    → {r : Stepped}
    → r ≡ grouped_by σ start answer
    → TriesToken script σ s s' e e d d' c c' r
group_does {script} {σ} none {start} begins low {next} B {s} {s'} {e} {d} {d'} {c} {c'} answer T q =
    subst (TriesToken script σ s s' e e d d' c c') (sym q)
    (record { tries = λ l μ R. group_tries script σ none start begins low next B s s' e d d' c c' answer l μ R (T.takes e l μ R) })
