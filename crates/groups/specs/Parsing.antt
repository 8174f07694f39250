-- What a brace group's bytes hold, and what judging them answers.
-- Assumes nothing.
use Rattle.std.specs.Prelude.{◌≡◌, true, List, ℕ, suc, ◌+◌, ◌-◌, ◌≤◌, ◌<◌, length, drop, Result, Ok, Err}
use Rattle.semantics.specs.Tokens.{Token, lex, lexeme}
use Rattle.semantics.specs.Values.{Value, fault}
use Rattle.semantics.specs.Machine.{Machine}
use Rattle.semantics.specs.Groups.{skip, group}
use Rattle.semantics.specs.declared.Fault.{Fault}
use Rattle.token.specs.Lexing.{Lexes, BraceToken}
use Rattle.groups.specs.Nodes.{Nodes, end, leaf, inner, is_leaf, count, wanted}
use Rattle.groups.specs.declared.Judged.{Judged}
use Rattle.groups.specs.declared.Weight.{Weight}
use Rattle.groups.specs.declared.Weight.TheVariants.{Element, Open, Close, End}

-- From an offset on, with so many levels of inner groups left, the script has these elements and a closing brace, up to the offset after it.
pub data Parsed (script : List ℕ) : ℕ → ℕ → Nodes → ℕ → Type 0 where
  closes : {d o next : ℕ} → Lexes script (skip script o) Token.close_brace next → Parsed script d o end next
  token : {d o next after : ℕ} {t : Token} {ns : Nodes}
      → Lexes script (skip script o) t next
      → is_leaf t ≡ true
      → Parsed script d next ns after
      → Parsed script d o (leaf t ns) after
  opens : {d o next mid after : ℕ} {ms ns : Nodes}
      → Lexes script (skip script o) Token.open_brace next
      → Parsed script d next ms mid
      → Parsed script (suc d) mid ns after
      → Parsed script (suc d) o (inner ms ns) after

-- The definition's reading of a group, whose opening brace is at `brace`, gives this fault from an offset on.
pub record Faults (script : List ℕ) (brace depth offset : ℕ) (f : Fault) : Type 0 where
  pub says : (fuel i : ℕ) (vs : List Value) (m : Machine) → length script < offset + fuel → group script fuel i brace depth offset vs m ≡ fault f

-- What judging a group's rest answers: its fault, or how many elements it has, the cells of the objects in it, and the offset after it.
abbrev pub JudgedAs : List ℕ → ℕ → ℕ → Result Judged Fault → Type 0
JudgedAs script depth offset (Err f) = Faults script (offset - 1) depth offset f
JudgedAs script depth offset (Ok j) =
    (ns : Nodes) × Parsed script depth offset ns j.next × (j.size ≡ count ns) × (j.wants ≡ wanted ns) × (offset + j.size + j.wants < j.next) × (j.next ≤ length script)

-- What weighing one token of a group answers: a fault, whatever the group's brace and depth; an element, the cells of the object that it makes, and the
-- offset after it; a brace; or the script's end.
abbrev pub WeightAs : List ℕ → ℕ → ℕ → Weight → Type 0
WeightAs script offset next (Element wants) =
    (t : Token) × Lexes script (skip script offset) t next × (is_leaf t ≡ true) × (wants ≡ wanted (leaf t end)) × (wants + 1 + offset ≤ next)
WeightAs script offset next Open = BraceToken script (skip script offset) Token.open_brace next
WeightAs script offset next Close = Lexes script (skip script offset) Token.close_brace next
WeightAs script offset next End = lex (skip script offset) (drop (skip script offset) script) ≡ lexeme Token.end 0

abbrev pub WeighedAs : List ℕ → ℕ → Result (Weight × ℕ) Fault → Type 0
WeighedAs script offset (Err f) = (brace depth : ℕ) → Faults script brace depth offset f
WeighedAs script offset (Ok (w, next)) = WeightAs script offset next w
