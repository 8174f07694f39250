-- The outcome's text (02, W10; 01, Outcome): no held, log or where line.
-- Assumes nothing.
use Rattle.std.specs.Prelude.{List, [], ◌∷◌, ◌++◌, reverse, ℕ, length}
use Rattle.semantics.specs.Text.{bytes, decimal}
use Rattle.semantics.specs.Words.{signed, decimal_z}
use Rattle.semantics.specs.Outcome.{line}
use Rattle.forf_semantics.specs.Errors.{error_text}
use Rattle.forf_semantics.specs.Items.{count}
use Rattle.forf_semantics.specs.Machine.{Value, integer, substack}
use Rattle.forf_semantics.specs.Steps.{Ending, finished, out_of_fuel, failed, Run}

unfoldable pub ending_lines : Ending → List ℕ
ending_lines finished = bytes "ending=finished\nerror=none\ncommand=\n"
ending_lines out_of_fuel = bytes "ending=fuel\nerror=none\ncommand=\n"
ending_lines (failed e c) = bytes "ending=error\n" ++ line (bytes "error") (error_text e) ++ line (bytes "command") c

-- A substack of N items shows as substack:N.
unfoldable pub item : Value → List ℕ
item (integer w) = bytes "integer:" ++ decimal_z (signed w)
item (substack xs) = bytes "substack:" ++ decimal (count xs)

unfoldable pub items : List Value → List ℕ
items [] = []
items (v ∷ vs) = line (bytes "item") (item v) ++ items vs

unfoldable pub outcome : Run → List ℕ
outcome r =
    let σ = r.final in
    let s = σ.machine.stack in
    ending_lines r.ending
    ++ line (bytes "at") (decimal σ.at)
    ++ line (bytes "steps") (decimal σ.steps)
    ++ line (bytes "depth") (decimal (length s))
    ++ items (reverse s)

-- Opens every definition of this file.
unfoldable pub outcomes : Unit {0}
unfolding ending_lines item items outcome
outcomes = tt
