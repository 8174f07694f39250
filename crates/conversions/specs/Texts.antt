-- What cvs promises, and what it does in its parts: the text of a value is written, goes to the front of the string, and is ended.
-- Assumes nothing.
use Rattle.std.specs.Prelude.{◌≡◌, List, ℕ, ◌≤◌, length, take, leb}
use Rattle.std.proofs.Math.Option.{some}
use Rattle.std.proofs.Math.ListN.{get_elem?}
use Rattle.semantics.specs.Values.{Value, text, Result, ok, ◌>>=◌, check, string_id}
use Rattle.semantics.specs.Machine as Floo
use Rattle.semantics.specs.Machine.{push, pop2, object, bytes_of, change}
use Rattle.semantics.specs.Printing.{stringval}
use Rattle.semantics.specs.TextOperators.{overwrite}
use Rattle.semantics.specs.declared.Error.TheVariants.{RangeCheck}
use Rattle.machine.specs.Places.{keys}
use Rattle.machine.specs.Rep.{Rep, IsIn, Answer}
use Rattle.machine.specs.Room.{lent, fitted}
use Rattle.machine.specs.Moves.{dropped, swapped}
use Rattle.machine.specs.declared.Machine.{Machine}
use Rattle.machine.specs.Answers.{Did}
use Rattle.elements.specs.Elements.{byte_put}

-- The words of stack, dictionary and cells stand for some machine.
abbrev pub SomewhereNamed : Machine → List ℕ → List ℕ → List ℕ → Type 0
SomewhereNamed m s d c = (e : List ℕ) × (l : List ℕ) × (μ : Floo.Machine) × Rep m s e d c l μ

-- An operator that touches the words of stack and cells, and reads the dictionary's, does f where there is room, or fails as f and the test of room do.
pub record DoesNamedHeap (f : Floo.Machine → Result Floo.Machine) (m : Machine) (s s' d c c' : List ℕ) (r : Did) : Type 0 where
  pub does : (e l : List ℕ) (μ : Floo.Machine)
      → Rep m s e d c l μ
      → Answer (λ m'. Rep m' s' e d c' l) ((s' ≡ s) × (c' ≡ c)) r (fitted (lent s e d c l) f μ)

-- cvs of a value whose text is t.
unfoldable pub converted : List ℕ → Floo.Machine → Result Floo.Machine
converted t μ = do
  (x, y, τ) ← pop2 μ
  i ← string_id y
  let bs = bytes_of (object τ i)
  _ ← check (leb (length t) (length bs)) RangeCheck
  ok (push y (change i (text (overwrite t bs)) τ))

-- A zero goes after n bytes of the string that is item 0, if room remains, and the string alone is left of the two operands.
unfoldable pub ended : ℕ → Floo.Machine → Floo.Machine
ended n μ = dropped (swapped 0 1 (byte_put 0 n 0 μ))

-- ---- texts of values

-- The two words are a value, in some machine.
pub record Known (d : List ℕ) (t p : ℕ) : Type 0 where
  pub small : Machine
  pub stack : List ℕ
  pub exec : List ℕ
  pub heap : List ℕ
  pub log : List ℕ
  pub machine : Floo.Machine
  pub rep : Rep small stack exec d heap log machine
  pub value : Value
  pub words : IsIn rep.world machine value t p

-- The first r bytes of `out` are the text of the value with these words.
pub record TextOf (d : List ℕ) (t p : ℕ) (out : List ℕ) (r : ℕ) : Type 0 where
  pub inside : r ≤ length out
  pub says : (m : Machine) (s e c l : List ℕ) (μ : Floo.Machine) (R : Rep m s e d c l μ) (v : Value) → IsIn R.world μ v t p → take r out ≡ stringval μ v

-- The first r bytes of `out` are the name in slot k.
pub record NameRead (k : ℕ) (d out : List ℕ) (r : ℕ) : Type 0 where
  pub inside : r ≤ length out
  pub says : (m : Machine) (s e c l : List ℕ) (μ : Floo.Machine) → Rep m s e d c l μ → (n : List ℕ) → get_elem? (keys μ) k ≡ some n → take r out ≡ n
