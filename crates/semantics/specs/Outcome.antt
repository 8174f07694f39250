-- The outcome's text (01, Outcome).
-- Assumes nothing.
use Rattle.std.specs.Prelude.{true, List, [], ◌∷◌, ◌++◌, reverse, ℕ, length}
use Rattle.semantics.specs.Text.{bytes, decimal}
use Rattle.semantics.specs.Values.{Value}
use Rattle.semantics.specs.Machine.{Machine}
use Rattle.semantics.specs.Printing.{name_text, item}
use Rattle.semantics.specs.Errors.{error_text, fault_text, where_text}
use Rattle.semantics.specs.Held.{held_cells}
use Rattle.semantics.specs.Steps.{Ending, finished, stopped, out_of_fuel, failed, misread, Run}

unfoldable pub line : List ℕ → List ℕ → List ℕ
line key value = key ++ bytes "=" ++ value ++ bytes "\n"

-- Only an error has a name and a command (R45).
unfoldable pub ending_lines : Ending → List ℕ
ending_lines finished = bytes "ending=finished\nerror=none\ncommand=\n"
ending_lines stopped = bytes "ending=stopped\nerror=none\ncommand=\n"
ending_lines out_of_fuel = bytes "ending=fuel\nerror=none\ncommand=\n"
ending_lines (failed e c) = bytes "ending=error\n" ++ line (bytes "error") (error_text e) ++ line (bytes "command") (name_text true c)
ending_lines (misread f) = bytes "ending=error\n" ++ line (bytes "error") (fault_text f) ++ bytes "command=\n"

-- Where a token is wrong (02, W4).
unfoldable pub where_of : Ending → List ℕ
where_of finished = []
where_of stopped = []
where_of out_of_fuel = []
where_of (failed e c) = []
where_of (misread f) = where_text f

unfoldable pub items : Machine → List Value → List ℕ
items m [] = []
items m (v ∷ vs) = line (bytes "item") (item m v) ++ items m vs

-- Held is after the last step (R95).
unfoldable pub outcome : Run → List ℕ
outcome r =
    let σ = r.final in
    let m = σ.machine in
    ending_lines r.ending
    ++ line (bytes "at") (decimal σ.at)
    ++ line (bytes "where") (where_of r.ending)
    ++ line (bytes "steps") (decimal σ.steps)
    ++ line (bytes "depth") (decimal (length m.stack))
    ++ line (bytes "held") (decimal (held_cells m))
    ++ line (bytes "log") (decimal (length m.log))
    ++ items m (reverse m.stack)

-- Opens every definition of this file.
unfoldable pub outcomes : Unit {0}
unfolding line ending_lines where_of items outcome
outcomes = tt
