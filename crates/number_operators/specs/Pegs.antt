-- lowpeg and highpeg, by whether it is the highest that is asked for.
-- Assumes nothing.
use Rattle.std.specs.Prelude.{Bool, true, false, List, ℕ}
use Rattle.semantics.specs.Text.{bytes}

abbrev pub peg_name : Bool → List ℕ
peg_name true = bytes "highpeg"
peg_name false = bytes "lowpeg"
