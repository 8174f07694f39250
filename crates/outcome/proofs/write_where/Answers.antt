-- `write_where` meets its contract: only a token's fault has a place.
-- Assumes nothing.
use mathlib.Core.List.{List, []}
use mathlib.Core.Path.{◌≡◌, refl}
use Prim.Native.Nat.{ℕ}
use native.Mathlib.Omega.{arith}
use Rattle.semantics.specs.Outcome.{where_of}
use Rattle.semantics.specs.Text.{bytes}
use Rattle.semantics.specs.declared.Fault.{Fault}
use Rattle.ending.specs.Endings.{ending_of}
use Rattle.ending.specs.declared.Ending.TheVariants.{Finished, Stopped, OutOfFuel, Failed, Misread}
use Rattle.ending.specs.declared.Ending.{Ending}
use Rattle.outcome.proofs.Commands.{place_written, nowhere_written}
use Rattle.outcome.proofs.write_where.Goals as goal

nowhere : (ending : Ending) → ((f : Fault) → ending ≡ Misread f → ⊥) → (script : List ℕ) (names : List (List ℕ)) → where_of (ending_of script names ending) ≡ []
unfolding where_of ending_of
nowhere Finished h script names = refl
nowhere Stopped h script names = refl
nowhere OutOfFuel h script names = refl
nowhere (Failed error command) h script names = refl
nowhere (Misread f) h script names = absurd (h f refl)

pub write_place-requires : goal.write_place-requires
write_place-requires c = c.requires

pub copy-requires : goal.copy-requires
copy-requires c = omega (arith, c.requires)

pub shape_of-out-in-Misread : goal.shape_of-out-in-Misread
shape_of-out-in-Misread c = c.write_place.auto.out

pub returns-in-Misread : goal.returns-in-Misread
returns-in-Misread c = place_written c.in-Misread.is c.write_place.ensures

pub shape_of-out-in_default : goal.shape_of-out-in_default
shape_of-out-in_default c = c.copy.auto.out

pub returns-in_default : goal.returns-in_default
unfolding bytes
returns-in_default c = nowhere_written (nowhere c.args.ending c.in_default.not-Misread) c.copy.ensures
