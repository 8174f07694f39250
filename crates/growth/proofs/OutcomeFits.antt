-- Every name that a run holds has at most 31 bytes: tokens and cvn give no longer one, and the operators only move names about. So its outcome is never longer
-- than 256 + 136 × stack slots bytes (01, Setup 9; R12).
-- Assumes nothing.
use mathlib.Core.List.{List}
use Prim.Native.Nat.{ℕ, ◌+◌, ◌*◌, ◌≤◌}
use native.Mathlib.Omega.{arith}
use lib.ListN.{length}
use Rattle.semantics.specs.Sizes.{name_most, head_room, item_room}
use Rattle.semantics.specs.Values.{Value, Object}
use Rattle.semantics.specs.Machine.{Machine}
use Rattle.semantics.specs.Steps.{Limits, run, initial}
use Rattle.semantics.specs.Outcome.{outcome}
use Rattle.semantics.specs.OutcomeLaws.{Short, plain, outcome_length}
use Rattle.semantics.specs.ListLaws.{all_weaker, all_any}
use Rattle.walk.specs.Parts.{Parts, Good, a_word, a_truth, a_null, a_mark, an_operator, a_name, a_string, an_array, any_references}
use Rattle.walk.proofs.RunsKeep.{run_keeps, initial_keeps}

unfoldable names : Parts
unfolding any_references
names =
    record {
      numbers = record {
        Word = λ w. Unit {0};
        Byte = λ b. Unit {0};
        Size = λ n. Unit {0};
        Spelling = λ n. length n ≤ name_most;
        word = λ w l. tt;
        bitwise = λ f e a b h k. tt;
        byte_word = λ b h. tt;
        size_word = λ n h. tt;
        byte = λ b l. tt;
        size = λ n l. tt;
        smaller = λ k n l h. tt;
        spelling = λ n h l. l;
        spelt = λ n h. all_any n;
      };
      references = any_references;
    }

short : {s : List Object} (v : Value) → Good names s v → Short v
unfolding names
short v (a_word h) = plain tt
short v a_truth = plain tt
short v a_null = plain tt
short v a_mark = plain tt
short v (an_operator h) = record { brief = h }
short v (a_name h) = record { brief = h }
short v (a_string h) = plain tt
short v (an_array h) = plain tt

pub outcome_fits : (l : Limits) (script : List ℕ) (fuel : ℕ) → length (outcome (run l script fuel initial)) ≤ head_room + item_room * l.stack_slots
unfolding names initial
outcome_fits l script fuel =
    let r = run_keeps names (λ (m : Machine). length m.stack ≤ l.stack_slots) l script (all_any script) tt (λ a b w. w.stack) (λ m h. tt) fuel initial (initial_keeps names) (omega arith) in
    outcome_length l.stack_slots (run l script fuel initial) r.command (all_weaker short r.parts.stack) r.room
