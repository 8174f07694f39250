-- The outcome of a run is never longer than 256 + 136 × stack slots bytes (01, Setup 9): its head has at most 219, and an item 25. And a run
-- leaves as many memory slots as it was lent, each an integer of 32 bits.
-- Assumes nothing.
use Rattle.std.specs.Prelude.{List, []}
use Prim.Native.Nat.{ℕ}
use Rattle.forf_semantics.specs.Steps.{Ending, finished, out_of_fuel, failed}

-- The command of an ending.
abbrev pub command_in : Ending → List ℕ
command_in finished = []
command_in out_of_fuel = []
command_in (failed e c) = c
