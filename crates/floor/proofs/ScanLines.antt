-- The run of a scan is one that the theorems on echo lines speak of (02, W14): it begins with the label lent, whose bytes are bytes.
-- Assumes nothing.
use mathlib.Core.Path.{◌≡◌}
use mathlib.Core.Bool.{Bool}
use mathlib.Core.List.{List}
use mathlib.Core.Option.{none}
use Prim.Native.Nat.{ℕ}
use native.Mathlib.Omega.{arith}
use Rattle.semantics.specs.Text.{bytes}
use Rattle.semantics.specs.Steps.{initial}
use Rattle.semantics.specs.Setup.{limits}
use Rattle.semantics.specs.AsciiLaws.{Bytes}
use Rattle.semantics.specs.NameLaws.{name_count_lem}
use Rattle.echo_laws.proofs.Beginnings.{initial_sound, lending_sound}
use Rattle.setup.proofs.Accepting.{accepted}
use Rattle.runner.specs.Promise.{lent_of}
use Rattle.runner.specs.declared.Report.{Report}
use Rattle.runner.proofs.EchoLines.{Call, promised}
use Rattle.floor.specs.Floor.{before, labelled}
use Rattle.floor.specs.Promise.{asked, RunOrNone}
use Rattle.floor.proofs.Labelling.{passed}

pub scanned : {script label : List ℕ} {fuel : ℕ} (sound : Bool) {s s' e e' d d' c c' l l' o o' : List ℕ} {r : Report}
    → none ≡ before (asked script fuel label s e d c l o) sound
    → RunOrNone (asked script fuel label s e d c l o) s s' e e' d d' c c' l l' o o' r none
    → Bytes script
    → Bytes label
    → Call
unfolding limits labelled initial
scanned {script} {label} {fuel} sound {s} {e = e} {d = d} {c = c} {l = l} {o = o} q R b k =
    let P = passed (asked script fuel label s e d c l o) sound q in
    let A = accepted script fuel (lent_of s e d c l o) P.setup in
    let room = limits (lent_of s e d c l o) in
    promised (record { bytes = b; short = A.short; items = omega (arith, A.stack_slots.1) })
    (lending_sound room (bytes "label") label initial.machine (initial_sound room A.dictionary_slots.0) k (omega (arith, P.label))
    (omega (arith, name_count_lem, P.slot)))
    R
