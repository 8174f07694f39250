-- The machine that the lent words stand for. A substack is the offset after its brace in the script, and a running one the offset of its next item: what stands
-- there is read again, so the words hold no items.
-- Assumes nothing.
use Rattle.std.specs.Prelude.{◌≡◌, Bool, true, false, List, map, ℕ, ◌*◌, ◌/◌, ◌≤◌, length, eqb}
use Rattle.semantics.specs.Sizes.{stack_width, exec_width}
use Rattle.semantics.specs.ListLaws.{All}
use Rattle.forf_semantics.specs.Machine.{Value, integer, substack, Frame, pending, running}
use Rattle.forf_semantics.specs.Machine as Forf
use Rattle.forf_semantics.specs.Steps.{Limits}
use Rattle.forf_semantics.specs.BodyLaws.{body_at, Known}
use Rattle.forf_machine.specs.Slots.{Slot, slots}
use Rattle.forf_machine.specs.declared.Machine.{Machine}

-- ---- what a slot stands for

unfoldable pub value_as : List ℕ → Bool → ℕ → Value
value_as script true p = integer p
value_as script false p = substack (body_at script p)

-- A stack slot: TAG_INTEGER is 0.
unfoldable pub value_of : List ℕ → Slot → Value
value_of script x = value_as script (eqb x.0 0) x.1

unfoldable pub frame_as : List ℕ → Bool → ℕ → Frame
frame_as script true p = pending (body_at script p)
frame_as script false p = running (body_at script p)

-- An execution slot: PENDING is 0.
unfoldable pub frame_of : List ℕ → Slot → Frame
frame_of script x = frame_as script (eqb x.0 0) x.1

-- What an offset in a slot is read from can be read.
abbrev pub SoundValue : List ℕ → Slot → Type 0
SoundValue script x = (x.0 ≡ 0 → ⊥) → Known script x.1

abbrev pub SoundFrame : List ℕ → Slot → Type 0
SoundFrame script x = Known script x.1

-- ---- what all words stand for

unfoldable pub machine_from : List ℕ → List Slot → List Slot → List ℕ → Forf.Machine
machine_from script vs fs memory = record { stack = map (value_of script) vs; exec = map (frame_of script) fs; memory = memory }

unfoldable pub machine_of : List ℕ → Machine → List ℕ → List ℕ → List ℕ → Forf.Machine
machine_of script m s e memory = machine_from script (slots stack_width m.depth s) (slots exec_width m.frames e) memory

-- The words stand for a machine: the slots in use are lent, their substacks can be read, and the memory has 32 slots.
pub record Rep (script : List ℕ) (m : Machine) (s e memory : List ℕ) : Type 0 where
  pub stack_fits : stack_width * m.depth ≤ length s
  pub exec_fits : exec_width * m.frames ≤ length e
  pub values : All (SoundValue script) (slots stack_width m.depth s)
  pub frames : All (SoundFrame script) (slots exec_width m.frames e)
  pub memory_slots_lem : length memory ≡ 32

-- What is lent, in whole slots.
unfoldable pub limits_of : List ℕ → List ℕ → Limits
limits_of s e = record { stack_slots = length s / stack_width; exec_slots = length e / exec_width }
