-- `write_place` meets its contract: a place is written as any number, and a limit has none.
-- Assumes nothing.
use mathlib.Core.Logic.{◌⊎◌, ⊎_elim}
use mathlib.Core.Path.{◌≡◌, ap}
use Prim.Native.Nat.{ℕ}
use native.Mathlib.Omega.{arith}
use Rattle.semantics.specs.Errors.{where_text}
use Rattle.semantics.specs.Outcome.{line}
use Rattle.semantics.specs.Text.{bytes, decimal}
use Rattle.semantics.specs.declared.Fault.{Fault}
use Rattle.semantics.specs.declared.Fault.TheVariants.{BadNumber, BadEscape, OpenString, BadBrace, BadByte}
use Rattle.text.proofs.Pasting.{respelt}
use Rattle.outcome.proofs.write_place.Goals as goal

placed : {f : Fault} {n : ℕ}
    → ((f ≡ BadNumber n) ⊎ (f ≡ BadEscape n) ⊎ (f ≡ OpenString n) ⊎ (f ≡ BadBrace n) ⊎ (f ≡ BadByte n))
    → where_text f ≡ decimal n
unfolding where_text
placed told =
    ⊎_elim (ap where_text) (⊎_elim (ap where_text) (⊎_elim (ap where_text) (⊎_elim (ap where_text) (ap where_text)))) told

pub write_number-requires : goal.write_number-requires
write_number-requires c = omega (arith, c.requires)

pub copy-requires : goal.copy-requires
copy-requires c = omega (arith, c.requires)

pub returns-in-BadNumber : goal.returns-in-BadNumber
unfolding bytes
returns-in-BadNumber c = respelt (ap (line (bytes "where")) (placed c.in-BadNumber.is)) c.write_number.ensures

pub returns-in-OverLimit : goal.returns-in-OverLimit
unfolding where_text line bytes
returns-in-OverLimit c = respelt (ap (λ f. line (bytes "where") (where_text f)) c.in-OverLimit.is) c.copy.ensures
