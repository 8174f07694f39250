-- The outcome is how the run ended, two offsets, four counts and the items: each part is written where the one before it ended.
-- Assumes nothing.
use mathlib.Core.Path.{◌≡◌, sym, ◌∙◌}
use mathlib.Core.List.{List, ◌++◌, append_assoc, reverse}
use Prim.Native.Nat.{ℕ, ◌+◌, ◌≤◌}
use native.Mathlib.Omega.{arith}
use lib.ListN.{length, length-append, length-map}
use Rattle.semantics.specs.Text.{bytes, decimal}
use Rattle.semantics.specs.Machine as Floo
use Rattle.semantics.specs.Machine.{Slot}
use Rattle.semantics.specs.Held.{held_cells}
use Rattle.semantics.specs.Outcome.{line, ending_lines, where_of, items, outcome}
use Rattle.semantics.specs.OutcomeLaws.{line_length}
use Rattle.semantics.specs.Steps as Steps
use Rattle.text.specs.Writing.{Written}
use Rattle.text.proofs.Pasting.{then, respelt}
use Rattle.ending.specs.Endings.{IsCommand, ending_of, IsEnding}
use Rattle.ending.specs.declared.Command.{Command}
use Rattle.ending.specs.declared.Command.TheVariants.{Nothing, Operator, Name, Token, Taken}
use Rattle.ending.specs.declared.Ending.{Ending}
use Rattle.ending.specs.declared.Ending.TheVariants.{Finished, Stopped, OutOfFuel, Failed, Misread}
use Rattle.machine.specs.Places.{keys}
use Rattle.machine.specs.Rep.{Rep}
use Rattle.machine.specs.declared.Machine.{Machine}
use Rattle.outcome.specs.Reports.{Ready, WritesOutcome, EndingRoom, WritesEnding, WritesWhere, CountsRoom, WritesCounts, count_lines, ItemsRoom, WritesItems}
use Rattle.text.proofs.NumberLines.{count_length}
use Rattle.outcome.proofs.Commands.{ending_few}

-- ---- the ending is one in every machine that the words stand for: as many names have slots in each

names_count : {m : Machine} {s e d c l : List ℕ} {μ : Floo.Machine} → Rep m s e d c l μ → length (keys μ) ≡ m.names
names_count {μ = μ} R = length-map μ.dictionary (λ (s : Slot). s.key) ∙ sym R.naming.many

command_moves : (script : List ℕ) (a b : List (List ℕ)) (command : Command) → length b ≡ length a → IsCommand script a command → IsCommand script b command
command_moves script a b Nothing q h = tt
command_moves script a b (Operator k) q h = h
command_moves script a b (Name k) q h = omega (arith, q, h)
command_moves script a b (Token start size) q h = h
command_moves script a b (Taken after) q h = h

ending_moves : (script : List ℕ) (a b : List (List ℕ)) (ending : Ending) → length b ≡ length a → IsEnding script a ending → IsEnding script b ending
ending_moves script a b Finished q h = tt
ending_moves script a b Stopped q h = tt
ending_moves script a b OutOfFuel q h = tt
ending_moves script a b (Failed e command) q h = command_moves script a b command q h
ending_moves script a b (Misread f) q h = tt

-- ---- the parts

counts_length : (steps depth held log : ℕ) → length (count_lines steps depth held log) ≤ 65
unfolding count_lines bytes
counts_length steps depth held log =
    simp length-append
    (omega (arith, count_length (bytes "steps") steps, count_length (bytes "depth") depth, count_length (bytes "held") held, count_length (bytes "log") log))

seams : (a b w c d e f g : List ℕ) → a ++ b ++ w ++ c ++ d ++ e ++ f ++ g ≡ a ++ b ++ w ++ (c ++ d ++ e ++ f) ++ g
seams a b w c d e f g = simp append_assoc

outcome_parts : (ending : Steps.Ending) (σ : Steps.State)
    → outcome (record { ending = ending; final = σ })
    ≡ ending_lines ending
    ++ line (bytes "at") (decimal σ.at)
    ++ line (bytes "where") (where_of ending)
    ++ count_lines σ.steps (length σ.machine.stack) (held_cells σ.machine) (length σ.machine.log)
    ++ items σ.machine (reverse σ.machine.stack)
unfolding outcome count_lines
outcome_parts ending σ =
    let μ = σ.machine in
    seams (ending_lines ending) (line (bytes "at") (decimal σ.at)) (line (bytes "where") (where_of ending)) (line (bytes "steps") (decimal σ.steps))
    (line (bytes "depth") (decimal (length μ.stack))) (line (bytes "held") (decimal (held_cells μ))) (line (bytes "log") (decimal (length μ.log)))
    (items μ (reverse μ.stack))

module _ {script : List ℕ} {m : Machine} {ending : Ending} {at : ℕ} {s d c out : List ℕ} (N : Ready script m ending at s d c out) where
  pub ending_room : EndingRoom script d c ending out
  ending_room =
      record {
        known = record { small = m; stack = s; exec = N.exec; log = N.log; machine = N.machine; rep = N.rep; holds = N.ends };
        fits = omega (arith, N.fits);
      }

  module _ {o₁ : List ℕ} {head : ℕ} (E : WritesEnding script d c ending out o₁ head) (k₁ : length o₁ ≡ length out) where
    -- Head and place together.
    head_few : head + length (where_of (ending_of script (keys N.machine) ending)) ≤ 170
    head_few = omega (arith, (E.says m s N.exec N.log N.machine N.rep N.ends).end, ending_few script ending N.rep N.ends)

    pub at_room : head + length (bytes "at") + 12 ≤ length o₁
    unfolding bytes
    at_room = omega (arith, N.fits, head_few, k₁)

    module _ {o₂ : List ℕ} {token : ℕ} (A : Written head (line (bytes "at") (decimal at)) o₁ o₂ token) (k₂ : length o₂ ≡ length o₁) where
      token_few : token ≤ head + 14
      unfolding bytes
      token_few = omega (arith, A.end, count_length (bytes "at") at)

      pub where_room : token + 17 ≤ length o₂
      where_room = omega (arith, N.fits, head_few, token_few, k₁, k₂)

      module _ {o₃ : List ℕ} {place : ℕ} (W : WritesWhere ending token o₂ o₃ place) (k₃ : length o₃ ≡ length o₂) where
        -- The head's 256 bytes less those of the counts.
        place_few : place ≤ 191
        unfolding bytes
        place_few =
            let μ = N.machine in
            omega (
              arith,
              head_few,
              token_few,
              (W.says script (keys μ)).end,
              line_length (bytes "where") (where_of (ending_of script (keys μ) ending)),
            )

        pub counts_room : CountsRoom m c place o₃
        counts_room =
            record {
              log_few = N.log_few;
              fits = omega (arith, N.fits, place_few, k₁, k₂, k₃);
              stack = s;
              exec = N.exec;
              dict = d;
              log = N.log;
              machine = N.machine;
              rep = N.rep;
            }

        module _ (steps : ℕ) {o₄ : List ℕ} {next : ℕ} (C : WritesCounts m steps c place o₃ o₄ next) (k₄ : length o₄ ≡ length o₃) where
          pub items_room : ItemsRoom m s d c next o₄
          items_room =
              let μ = N.machine in
              record {
                exec = N.exec;
                log = N.log;
                machine = μ;
                rep = N.rep;
                fits = omega (
                  arith,
                  N.fits,
                  place_few,
                  k₁,
                  k₂,
                  k₃,
                  k₄,
                  (C.says s N.exec d N.log μ N.rep).end,
                  counts_length steps (length μ.stack) (held_cells μ) (length μ.log),
                  N.rep.rooms.stack_fits,
                );
              }

          pub outcome_written : {new : List ℕ} {r : ℕ} → WritesItems m s d c next o₄ new r → WritesOutcome script m ending at steps s d c out new r
          outcome_written I =
              record {
                says = λ e l μ left R.
                    let low : 0 ≤ length out = omega arith in
                    let ends = ending_moves script (keys N.machine) (keys μ) ending (names_count R ∙ sym (names_count N.rep)) N.ends in
                    respelt (outcome_parts (ending_of script (keys μ) ending) (record { machine = μ; next = left; at = at; steps = steps }))
                    (then low (then low (then low (then low (E.says m s e l μ R ends) A) (W.says script (keys μ))) (C.says s e d l μ R)) (I.says e l μ R));
              }
