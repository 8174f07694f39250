-- In every state of a run numbers and bytes are in range, and all is within what is lent: an instance of the walk over operators and steps.
-- Assumes nothing.
use mathlib.Core.Path.{◌≡◌, subst}
use mathlib.Core.List.{List, ◌∷◌}
use Prim.Native.Nat.{ℕ, ◌^◌, ◌<◌}
use native.Mathlib.Omega.{arith}
use Rattle.semantics.specs.Values.{Value, integer, Object}
use Rattle.semantics.specs.Machine.{Machine}
use Rattle.semantics.specs.Steps.{Limits}
use Rattle.semantics.specs.ListLaws.{All, cons}
use Rattle.semantics.specs.AsciiLaws.{Bytes}
use Rattle.walk.specs.Parts.{Good, a_word, Within, Stays}
use Rattle.walk.proofs.Property.{parts_alone, object_good}
use Rattle.walk.proofs.Operands.{current_bytes}
use Rattle.walk.proofs.RunsKeep.{run_keeps}
use Rattle.echo_laws.specs.Ranges.{ranged}
use Rattle.echo_laws.proofs.Soundness.{Sound}
use Rattle.echo_laws.specs.Runs.{current_at}
use Rattle.echo_laws.proofs.Runs.{Trial, machine_of}

stays_within : {l : Limits} {a b : Machine} → Stays l a b → Within l a → Within l b
stays_within s w = record { dictionary = s.dictionary w.dictionary; exec = s.exec; stack = s.stack w.stack; log = s.log w.log }

pub run_sound : (r : Trial) → Sound r.lent (machine_of r)
unfolding ranged
run_sound r =
    let l = r.lent in
    let a = r.admitted in
    let k = run_keeps ranged (Within l) l r.script a.bytes a.short (λ a b w h. stays_within w h) (λ m w. omega (arith, w.stack, a.items)) r.fuel r.start r.sound.parts r.sound.room in
    record { parts = k.parts; room = k.room }

pub string_bytes : (r : Trial) (i : ℕ) → Bytes (current_at (machine_of r) i)
unfolding ranged parts_alone
string_bytes r i = current_bytes (object_good {K = parts_alone ranged} (record { parts = (run_sound r).parts; whole = tt }) i).stored

pub top_bits : (r : Trial) (w : ℕ) (s : List Value) → (machine_of r).stack ≡ integer w ∷ s → w < 2 ^ 32
unfolding ranged
top_bits r w s e = first (subst (All (Good ranged (machine_of r).store)) e (run_sound r).parts.stack)
  where
    first : {o : List Object} → All (Good ranged o) (integer w ∷ s) → w < 2 ^ 32
    first (cons (a_word h) ps) = h
