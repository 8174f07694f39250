-- What an item begins with, by its tag, and what is left of it.
-- Assumes nothing.
use mathlib.Core.Path.{◌≡◌, refl}
use mathlib.Core.Bool.{Bool, true, false}
use mathlib.Core.List.{List, [], ◌∷◌, ◌++◌, map, append_assoc}
use mathlib.Core.Option.{some}
use Prim.Native.Nat.{ℕ, zero, suc, ◌<◌}
use native.Mathlib.Omega.{arith}
use lib.ListN.{length, get_elem?}
use Rattle.semantics.specs.Text.{bytes, decimal}
use Rattle.semantics.specs.Values.{Value, integer, boolean, null, mark, operator, name, string, array}
use Rattle.semantics.specs.Machine as Floo
use Rattle.semantics.specs.Machine.{object, elements_of}
use Rattle.semantics.specs.Printing.{item, shown, echoed_to, name_text, escaped, name_byte}
use Rattle.semantics.specs.Operators.{table, ◌is◌}
use Rattle.store.specs.Rep.{titles}
use Rattle.elements.specs.Elements.{tag_of}
use Rattle.outcome.specs.Reports.{kind_text, sizes_text}

-- ---- the operators' names have no byte to escape

fixed : (f : List ℕ → List ℕ) (l : List (List ℕ)) → map f l ≡ l → (q : ℕ) (o : List ℕ) → get_elem? l q ≡ some o → f o ≡ o
fixed f [] e q o h = let z : ◌≡◌ {A = ℕ} 0 1 = cc in absurd (omega arith)
fixed f (a ∷ l) e zero o h = cc
fixed f (a ∷ l) e (suc q) o h = let rest : map f l ≡ l = cc in fixed f l rest q o h

titles_plain : map (name_text true) titles ≡ titles
unfolding titles table ◌is◌ name_text escaped name_byte bytes
titles_plain = refl

pub title_plain : (q : ℕ) (o : List ℕ) → get_elem? titles q ≡ some o → name_text true o ≡ o
title_plain q o h = fixed (name_text true) titles titles_plain q o h

-- ---- items in two parts

module _ (μ : Floo.Machine) where
  pub item_mark : {v : Value} → v ≡ mark → item μ v ≡ kind_text (tag_of v)
  unfolding item kind_text tag_of
  item_mark e = rw e refl

  pub item_string : {v : Value} {id : ℕ} → v ≡ string id → item μ v ≡ kind_text (tag_of v) ++ sizes_text μ id
  unfolding item kind_text tag_of sizes_text
  item_string e = rw e (simp append_assoc)

  pub item_array : {v : Value} (x : Bool) {id : ℕ} → v ≡ array x id → item μ v ≡ kind_text (tag_of v) ++ decimal (length (elements_of (object μ id)))
  unfolding item kind_text tag_of
  item_array true e = rw e refl
  item_array false e = rw e refl

  pub item_operator : {v : Value} (q : ℕ) {o : List ℕ} → v ≡ operator o → get_elem? titles q ≡ some o → item μ v ≡ kind_text (tag_of v) ++ echoed_to 0 μ (name true o)
  unfolding item kind_text tag_of echoed_to shown
  item_operator q {o} e h = rw (e, title_plain q o h) refl

  -- Of all others echo writes the same.
  pub item_plain : (v : Value) → tag_of v < 8 → (tag_of v ≡ 3 → ⊥) → (tag_of v ≡ 4 → ⊥) → item μ v ≡ kind_text (tag_of v) ++ echoed_to 0 μ v
  unfolding item kind_text tag_of echoed_to shown
  item_plain null l m o = refl
  item_plain (integer w) l m o = refl
  item_plain (boolean b) l m o = refl
  item_plain mark l m o = absurd (m refl)
  item_plain (operator n) l m o = absurd (o refl)
  item_plain (name false n) l m o = refl
  item_plain (name true n) l m o = refl
  item_plain (string i) l m o = absurd (omega arith)
  item_plain (array false i) l m o = absurd (omega arith)
  item_plain (array true i) l m o = absurd (omega arith)
