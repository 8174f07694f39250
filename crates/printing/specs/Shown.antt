-- What is asked of the words whose text is measured or written, and what the text is: the definition's, in every machine that the words stand for.
-- Assumes nothing.
use Rattle.std.specs.Prelude.{◌≡◌, Bool, true, false, cond, List, [], ◌∷◌, ◌++◌, ℕ, zero, suc, ◌+◌, ◌-◌, ◌≤◌, eqb, length, get_or}
use Rattle.std.proofs.Math.Option.{some}
use Rattle.std.proofs.Math.ListN.{get_elem?}
use Rattle.semantics.specs.Text.{bytes}
use Rattle.semantics.specs.Values.{Value, string, current}
use Rattle.semantics.specs.Machine as Floo
use Rattle.semantics.specs.Machine.{object, bytes_of}
use Rattle.semantics.specs.Printing.{escaped, name_byte, shown, echoed_to, truth}
use Rattle.text.specs.Writing.{Written, quoted}
use Rattle.machine.specs.Places.{keys}
use Rattle.machine.specs.Rep.{Rep, IsIn}
use Rattle.machine.specs.declared.Machine.{Machine}
use Rattle.names.specs.Names.{Named}

-- n, or the limit where n is more.
abbrev pub cut : ℕ → ℕ → ℕ
cut n limit = n - (n - limit)

-- ---- values

-- The two words are a value, in some machine that the words of dictionary and cells stand for.
pub record Known (d c : List ℕ) (t p : ℕ) : Type 0 where
  pub small : Machine
  pub stack : List ℕ
  pub exec : List ℕ
  pub log : List ℕ
  pub machine : Floo.Machine
  pub rep : Rep small stack exec d c log machine
  pub value : Value
  pub words : IsIn rep.world machine value t p

-- There is room for its text.
pub record WithRoom (d c : List ℕ) (t p depth at : ℕ) (out : List ℕ) : Type 0 where
  pub known : Known d c t p
  pub fits : at + length (echoed_to depth known.machine known.value) ≤ length out

-- The length of its text, cut off at the limit.
pub record Measures (d c : List ℕ) (t p depth limit r : ℕ) : Type 0 where
  pub says : (m : Machine) (s e l : List ℕ) (μ : Floo.Machine) (R : Rep m s e d c l μ) (v : Value)
      → IsIn R.world μ v t p
      → r ≡ cut (length (echoed_to depth μ v)) limit

-- Its text is written.
pub record Writes (d c : List ℕ) (t p depth at : ℕ) (old new : List ℕ) (r : ℕ) : Type 0 where
  pub says : (m : Machine) (s e l : List ℕ) (μ : Floo.Machine) (R : Rep m s e d c l μ) (v : Value)
      → IsIn R.world μ v t p
      → Written at (echoed_to depth μ v) old new r

-- ---- values that are no arrays: their text is the same, whatever is inside of arrays

pub record PlainRoom (d c : List ℕ) (t p at : ℕ) (out : List ℕ) : Type 0 where
  pub known : Known d c t p
  pub inside : List Value → List ℕ
  pub fits : at + length (shown inside known.machine known.value) ≤ length out

pub record PlainSize (d c : List ℕ) (t p r : ℕ) : Type 0 where
  pub says : (m : Machine) (s e l : List ℕ) (μ : Floo.Machine) (R : Rep m s e d c l μ) (v : Value)
      → IsIn R.world μ v t p
      → (inside : List Value → List ℕ)
      → r ≡ length (shown inside μ v)

pub record PlainWrites (d c : List ℕ) (t p at : ℕ) (old new : List ℕ) (r : ℕ) : Type 0 where
  pub says : (m : Machine) (s e l : List ℕ) (μ : Floo.Machine) (R : Rep m s e d c l μ) (v : Value)
      → IsIn R.world μ v t p
      → (inside : List Value → List ℕ)
      → Written at (shown inside μ v) old new r

-- A truth value, by its payload.
unfoldable pub truth_text : ℕ → List ℕ
truth_text p = truth (eqb p 1)

-- The byte after an element of an array with this tag, where so many elements are left.
unfoldable pub byte_after : ℕ → ℕ → ℕ
byte_after t (suc k) = 32
byte_after t zero = cond (eqb t 9) 93 125

-- The opening bracket.
unfoldable pub opening_of : ℕ → ℕ
opening_of t = cond (eqb t 9) 91 123

-- An array with its elements left out, or with none.
unfoldable pub short_text : ℕ → Bool → List ℕ
short_text t true = opening_of t ∷ 46 ∷ 46 ∷ byte_after t 0 ∷ []
short_text t false = opening_of t ∷ byte_after t 0 ∷ []

-- ---- strings, by their headers

pub record KnownString (c : List ℕ) (h : ℕ) : Type 0 where
  pub small : Machine
  pub stack : List ℕ
  pub exec : List ℕ
  pub dict : List ℕ
  pub log : List ℕ
  pub machine : Floo.Machine
  pub rep : Rep small stack exec dict c log machine
  pub id : ℕ
  pub tag : ℕ
  pub words : IsIn rep.world machine (string id) tag h

pub record StringRoom (c : List ℕ) (h at : ℕ) (out : List ℕ) : Type 0 where
  pub known : KnownString c h
  pub fits : at + length (quoted (current (bytes_of (object known.machine known.id)))) ≤ length out

pub record StringByte (c : List ℕ) (h q r : ℕ) : Type 0 where
  pub says : (m : Machine) (s e d l : List ℕ) (μ : Floo.Machine) (R : Rep m s e d c l μ) (id t : ℕ)
      → IsIn R.world μ (string id) t h
      → r ≡ get_or (bytes_of (object μ id)) q 0

pub record CurrentSize (c : List ℕ) (h r : ℕ) : Type 0 where
  pub says : (m : Machine) (s e d l : List ℕ) (μ : Floo.Machine) (R : Rep m s e d c l μ) (id t : ℕ)
      → IsIn R.world μ (string id) t h
      → r ≡ length (current (bytes_of (object μ id)))

pub record StringSize (c : List ℕ) (h r : ℕ) : Type 0 where
  pub says : (m : Machine) (s e d l : List ℕ) (μ : Floo.Machine) (R : Rep m s e d c l μ) (id t : ℕ)
      → IsIn R.world μ (string id) t h
      → r ≡ length (quoted (current (bytes_of (object μ id))))

pub record StringWrites (c : List ℕ) (h at : ℕ) (old new : List ℕ) (r : ℕ) : Type 0 where
  pub says : (m : Machine) (s e d l : List ℕ) (μ : Floo.Machine) (R : Rep m s e d c l μ) (id t : ℕ)
      → IsIn R.world μ (string id) t h
      → Written at (quoted (current (bytes_of (object μ id)))) old new r

-- ---- names, by their slots

pub record NameRoom (k : ℕ) (d : List ℕ) (at : ℕ) (out : List ℕ) : Type 0 where
  pub named : Named k d
  pub fits : at + length (escaped name_byte named.name) ≤ length out

pub record NameLength (k : ℕ) (d : List ℕ) (r : ℕ) : Type 0 where
  pub says : (m : Machine) (s e c l : List ℕ) (μ : Floo.Machine)
      → Rep m s e d c l μ
      → (n : List ℕ)
      → get_elem? (keys μ) k ≡ some n
      → r ≡ length (escaped name_byte n)

pub record NameWrites (k : ℕ) (d : List ℕ) (at : ℕ) (old new : List ℕ) (r : ℕ) : Type 0 where
  pub says : (m : Machine) (s e c l : List ℕ) (μ : Floo.Machine)
      → Rep m s e d c l μ
      → (n : List ℕ)
      → get_elem? (keys μ) k ≡ some n
      → Written at (escaped name_byte n) old new r

-- An operator of this name.
abbrev pub operator_text : List ℕ → List ℕ
operator_text o = bytes "<operator:" ++ o ++ bytes ">"

pub record TitleRoom (k : ℕ) (d : List ℕ) (at : ℕ) (out : List ℕ) : Type 0 where
  pub named : Named k d
  pub fits : at + length (operator_text named.name) ≤ length out

pub record TitleWrites (k : ℕ) (d : List ℕ) (at : ℕ) (old new : List ℕ) (r : ℕ) : Type 0 where
  pub says : (m : Machine) (s e c l : List ℕ) (μ : Floo.Machine)
      → Rep m s e d c l μ
      → (n : List ℕ)
      → get_elem? (keys μ) k ≡ some n
      → Written at (operator_text n) old new r
