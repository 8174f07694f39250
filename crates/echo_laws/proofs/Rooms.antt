-- A move goes on where there is room for what it leaves: each test of room passes.
-- Assumes nothing.
use mathlib.Core.Path.{◌≡◌, refl, ap, ◌∙◌}
use mathlib.Core.List.{List}
use Prim.Native.Nat.{ℕ, zero, suc, ◌-◌, ◌≤◌}
use native.Mathlib.Omega.{arith}
use lib.ListN.{length, drop, drop_of_length-le}
use borrow.Author.Tests.{le-leb}
use Rattle.semantics.specs.Values.{Result, ok, ◌>>=◌, check, Object, cells}
use Rattle.semantics.specs.Machine.{Machine, Frame}
use Rattle.semantics.specs.Held.{sum_of, held_cells}
use Rattle.semantics.specs.Steps.{Limits, State, Move, new_cells, cells_for, room_for, goes, ended, moved}
use Rattle.walk.specs.Parts.{Within}

cells_there : (l : Limits) (before : Machine) (n : ℕ) → n ≤ l.cell_count - held_cells before → cells_for l before n ≡ ok tt
unfolding cells_for check
cells_there l before zero h = refl
cells_there l before (suc n) h = rw (le-leb (suc n) (l.cell_count - held_cells before) h) refl

pub room_there : (l : Limits) (before after : Machine) → Within l after → new_cells before after ≤ l.cell_count - held_cells before → room_for l before after ≡ ok after
unfolding room_for check ◌>>=◌
room_there l before after f h =
    rw (
      le-leb (length after.dictionary) l.dictionary_slots f.dictionary,
      le-leb (length after.exec) l.exec_slots f.exec,
      le-leb (length after.stack) l.stack_slots f.stack,
      cells_there l before (new_cells before after) h,
      le-leb (length after.log) l.log_bytes f.log,
    )
    refl

-- No object is made.
pub same_cells : (before after : Machine) → after.store ≡ before.store → new_cells before after ≡ 0
unfolding new_cells sum_of
same_cells before after e =
    ap (λ (s : List Object). sum_of cells (drop (length before.store) s)) e ∙ ap (sum_of cells) (drop_of_length-le before.store {i = length before.store} (omega arith))

pub moved_goes : (l : Limits) (σ : State) (at next : ℕ) (left : List Frame) (v : Move) (after : Machine)
    → v.result ≡ ok after
    → room_for l σ.machine after ≡ ok after
    → moved l σ at next left v ≡ goes (record { machine = after; next = next; at = at; steps = suc σ.steps })
unfolding moved ended ◌>>=◌
moved_goes l σ at next left v after e r =
    ap (λ (u : Result Machine). ended l σ at next left v.command (u >>= room_for l σ.machine)) e ∙ ap (ended l σ at next left v.command) r
