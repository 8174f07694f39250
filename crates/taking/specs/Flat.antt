-- The names of a brace group, token by token, and the slots that they take.
-- Assumes nothing.
use Rattle.std.specs.Prelude.{◌≡◌, List, [], ◌∷◌, ◌++◌, ℕ, ◌+◌, ◌*◌, ◌/◌, ◌≤◌, ◌<◌, length, take, drop, Option, Some, None, Ok, Err}
use Rattle.semantics.specs.Sizes.{name_most}
use Rattle.semantics.specs.Tokens.{Token}
use Rattle.semantics.specs.Groups.{skip}
use Rattle.semantics.specs.Machine as Floo
use Rattle.semantics.specs.Machine.{with_dictionary}
use Rattle.semantics.specs.ListLaws.{All}
use Rattle.semantics.specs.declared.Error.TheVariants.{LimitCheck}
use Rattle.token.specs.Lexing.{Lexes}
use Rattle.groups.specs.Nodes.{leaf_names, intern_all}
use Rattle.machine.specs.Rep.{Rep}
use Rattle.machine.specs.declared.Machine.{Machine}
use Rattle.machine.specs.Answers.{Did}
use Rattle.dictionary.specs.Names.{slot_of, Kept}

-- The tokens from an offset on, braces among them, up to another, with the names in them.
pub data Flat (script : List ℕ) : ℕ → List (List ℕ) → ℕ → Type 0 where
  none : {o : ℕ} → Flat script o [] o
  token : {o next end : ℕ} {t : Token} {ns : List (List ℕ)}
      → Lexes script (skip script o) t next
      → Flat script next ns end
      → Flat script o (leaf_names t ++ ns) end

-- A group's tokens are from one offset to another.
abbrev pub Group : List ℕ → ℕ → ℕ → Type 0
Group script from end = (ns : List (List ℕ)) × Flat script from ns end

-- The dictionary's words stand for some machine's.
abbrev pub Dictionary : Machine → List ℕ → Type 0
Dictionary m d = (s : List ℕ) × (e : List ℕ) × (c : List ℕ) × (l : List ℕ) × (μ : Floo.Machine) × Rep m s e d c l μ

-- The names have slots.
abbrev pub HaveSlots : List (List ℕ) → List Floo.Slot → Type 0
HaveSlots ns d = All (λ n. slot_of n d < length d) ns

-- The small state as before, names aside.
pub record SameBut (m r : Machine) : Type 0 where
  pub depth : r.depth ≡ m.depth
  pub frames : r.frames ≡ m.frames
  pub lists : r.lists ≡ m.lists

-- The machine where these names have slots.
abbrev pub with_names : List (List ℕ) → Floo.Machine → Floo.Machine
with_names ns μ = with_dictionary (intern_all ns μ.dictionary) μ

-- What giving slots to the names comes to: limitcheck, for there is no room for all, or all have one.
abbrev pub NamedAs : List (List ℕ) → Machine → List ℕ → List ℕ → List ℕ → List ℕ → List ℕ → List ℕ → Floo.Machine → Did → Type 0
NamedAs ns m s e d d' c l μ (Err x) = (x ≡ LimitCheck) × (length d / 12 < length (intern_all ns μ.dictionary))
NamedAs ns m s e d d' c l μ (Ok r) = Rep r s e d' c l (with_names ns μ) × HaveSlots ns (intern_all ns μ.dictionary) × SameBut m r

-- The names from `from` to `end` take slots. Words past the names that there were may change.
pub record AddsNames (script : List ℕ) (from end : ℕ) (m : Machine) (d d' : List ℕ) (r : Did) : Type 0 where
  pub adds : (ns : List (List ℕ))
      → Flat script from ns end
      → (s e c l : List ℕ) (μ : Floo.Machine)
      → Rep m s e d c l μ
      → NamedAs ns m s e d d' c l μ r
  pub kept : Kept (12 * m.names) d d'

-- One name takes a slot, if it has none.
pub record AddsName (n : List ℕ) (m : Machine) (d d' : List ℕ) (r : Did) : Type 0 where
  pub adds : (s e c l : List ℕ) (μ : Floo.Machine) → Rep m s e d c l μ → NamedAs (n ∷ []) m s e d d' c l μ r
  pub kept : Kept (12 * m.names) d d'

-- ---- the tokens one by one

-- The group goes on at `at`.
abbrev pub Ahead : List ℕ → ℕ → Type 0
Ahead script at = (ns : List (List ℕ)) × (end : ℕ) × Flat script at ns end × (at < end)

-- What is left of a group that goes on at `at`: its first name and what is after it, or the same names. No fault is met.
abbrev pub FoundAt : List ℕ → ℕ → ℕ → Option (ℕ × ℕ) → Type 0
FoundAt script at next (Some (start, size)) =
    (size ≤ name_most) × (start + size ≤ length script) × (at < next)
    × ((ns : List (List ℕ)) (end : ℕ) → Flat script at ns end → at < end → (rest : List (List ℕ)) × (ns ≡ take size (drop start script) ∷ rest) × Flat script next rest end)
FoundAt script at next None = (at < next) × ((ns : List (List ℕ)) (end : ℕ) → Flat script at ns end → at < end → Flat script next ns end)

abbrev pub MetAt : List ℕ → ℕ → Option (ℕ × ℕ) × ℕ → Type 0
MetAt script at (found, next) = FoundAt script at next found
