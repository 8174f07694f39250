-- States that a run may begin with: the start, and the start with a string lent before step 1.
-- Assumes nothing.
use mathlib.Core.List.{List, [], ◌∷◌}
use Prim.Native.Nat.{ℕ, suc, ◌≤◌, ◌<◌}
use native.Mathlib.Omega.{arith}
use lib.ListN.{length}
use Rattle.semantics.specs.Sizes.{name_count}
use Rattle.semantics.specs.Text.{same}
use Rattle.semantics.specs.Values.{Value, string}
use Rattle.semantics.specs.Machine.{Machine, Slot, with_dictionary, with_store, make, made, assign}
use Rattle.semantics.specs.Steps.{Limits, initial, lending}
use Rattle.semantics.specs.NameLaws.{name_count_lem}
use Rattle.semantics.specs.ResultLaws.{choose}
use Rattle.semantics.specs.AsciiLaws.{Bytes}
use Rattle.walk.proofs.RunsKeep.{initial_keeps, lending_keeps}
use Rattle.echo_laws.specs.Ranges.{most, ranged}
use Rattle.echo_laws.proofs.Soundness.{Sound}

pub initial_sound : (l : Limits) → name_count ≤ l.dictionary_slots → Sound l initial.machine
unfolding initial
initial_sound l h =
    record { parts = initial_keeps ranged; room = record { dictionary = omega (arith, name_count_lem); exec = omega arith; stack = omega arith; log = omega arith } }

assign_length : (n : List ℕ) (v : Value) (d : List Slot) → length (assign n v d) ≤ suc (length d)
unfolding assign
assign_length n v [] = omega arith
assign_length n v (s ∷ d) =
    choose (λ (t : List Slot). length t ≤ suc (suc (length d))) (same n s.key) _ (s ∷ assign n v d) (λ t. omega arith) (λ t. omega (arith, assign_length n v d))

-- As a scan lends its label: a slot is free for the name.
pub lending_sound : (l : Limits) (n contents : List ℕ) (m : Machine)
    → Sound l m
    → Bytes contents
    → length contents ≤ most
    → length m.dictionary < l.dictionary_slots
    → Sound l (lending n contents m)
unfolding lending with_dictionary make with_store ranged
lending_sound l n contents m h b k free =
    record {
      parts = lending_keeps ranged n contents m b k h.parts;
      room = record { dictionary = omega (arith, assign_length n (string (made m)) m.dictionary, free); exec = h.room.exec; stack = h.room.stack; log = h.room.log };
    }
