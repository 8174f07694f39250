-- What an operator that writes to the log does.
-- Assumes nothing.
use Rattle.std.specs.Prelude.{◌≡◌, Bool, List, ◌++◌, map, reverse, ℕ, zero, suc, ◌+◌, ◌≤◌, length, get_or, drop, leb, Ok, Err}
use Rattle.semantics.specs.Text.{bytes}
use Rattle.semantics.specs.Printing.{joined, echoed}
use Rattle.semantics.specs.Values.{Result, null, string, current}
use Rattle.semantics.specs.Machine as Floo
use Rattle.semantics.specs.Machine.{object, bytes_of}
use Rattle.text.specs.Writing.{Written}
use Rattle.machine.specs.Rep.{Rep, Answer}
use Rattle.machine.specs.Room.{lent, fitted}
use Rattle.machine.specs.declared.Machine.{Machine}
use Rattle.machine.specs.Answers.{Did}

-- The words stand for some machine.
abbrev pub SomewhereLog : Machine → List ℕ → List ℕ → List ℕ → List ℕ → Type 0
SomewhereLog m s d c l = (e : List ℕ) × (μ : Floo.Machine) × Rep m s e d c l μ

-- The log past what is written is as before.
abbrev pub LogRest : List ℕ → List ℕ → Did → Type 0
LogRest l l' (Ok r) = drop r.written l' ≡ drop r.written l
LogRest l l' (Err e) = Unit {0}

-- An operator that reads the words of stack and dictionary, and touches the cells' words and the log's bytes, does f where there is room, or fails as f and
-- the test of room do.
pub record DoesLog (f : Floo.Machine → Result Floo.Machine) (m : Machine) (s d c c' l l' : List ℕ) (r : Did) : Type 0 where
  pub does : (e : List ℕ) (μ : Floo.Machine)
      → Rep m s e d c l μ
      → Answer (λ m'. Rep m' s e d c' l') ((c' ≡ c) × (l' ≡ l)) r (fitted (lent s e d c l) f μ)
  pub rest : LogRest l l' r

-- The current bytes of item 0, n of them, are written after what the log holds.
pub record CopiesCurrent (m : Machine) (s c l l' : List ℕ) (n : ℕ) : Type 0 where
  pub says : (e d k : List ℕ) (μ : Floo.Machine)
      → Rep m s e d c k μ
      → (id : ℕ)
      → get_or μ.stack 0 null ≡ string id
      → Written m.written (current (bytes_of (object μ id))) l l' (m.written + n)

-- ---- all items

-- What echostack writes.
unfoldable pub line_of : Floo.Machine → List ℕ
line_of μ = joined (bytes " ") (map (echoed μ) (reverse μ.stack)) ++ bytes "\n"

-- The byte after an item, where so many are left.
unfoldable pub feed_of : ℕ → ℕ
feed_of zero = 10
feed_of (suc k) = 32

-- Whether there is room for it.
pub record FitsLine (m : Machine) (s d c : List ℕ) (room : ℕ) (r : Bool) : Type 0 where
  pub says : (e l : List ℕ) (μ : Floo.Machine) → Rep m s e d c l μ → r ≡ leb (length (line_of μ)) room

pub record LineRoom (m : Machine) (s d c l : List ℕ) : Type 0 where
  pub somewhere : SomewhereLog m s d c l
  pub fits : m.written + length (line_of somewhere.1) ≤ length l

pub record WritesLine (m : Machine) (s d c l l' : List ℕ) (r : ℕ) : Type 0 where
  pub says : (e : List ℕ) (μ : Floo.Machine) → Rep m s e d c l μ → Written m.written (line_of μ) l l' r
