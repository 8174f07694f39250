-- The number of the first test that holds, test after test, and the tests by what the code compares.
-- Assumes nothing.
use mathlib.Core.Path.{◌≡◌, refl, sym, ◌∙◌}
use mathlib.Core.Bool.{Bool, true, false, not, true≢false}
use mathlib.Core.List.{List, [], ◌∷◌}
use Prim.Native.Nat.{ℕ, suc, ◌+◌, ◌*◌, ◌/◌, ◌<◌, ◌≤◌}
use lib.ListN.{length, take, drop}
use lib.Dec.{leb, ltb}
use borrow.Author.Tests.{le-leb, lt-leb, lt-ltb, le-ltb, leb-true, leb-false, ltb-false}
use Rattle.semantics.specs.Sizes.{name_count, stack_width, exec_width, dictionary_width, cell_width, script_most, fuel_most, stack_least, stack_most, exec_least, exec_most, dictionary_most, cells_least, cells_most, log_most, head_room, item_room}
use Rattle.semantics.specs.Text.{bytes, same}
use Rattle.semantics.specs.Tokens.{within}
use Rattle.semantics.specs.Setup.{Lent, limits, first_from, is_too_long, refusal}

-- ---- the first test that holds

-- The answer r is the number of the first of these tests that holds, counted from n.
pub record Decides (r n : ℕ) (ts : List Bool) : Type 0 where
  pub first : r ≡ first_from n ts

module _ {r n : ℕ} {t : Bool} {ts : List Bool} (D : Decides r n (t ∷ ts)) where
  pub holds : t ≡ true → n ≡ r
  unfolding first_from
  holds h = sym (D.first ∙ rw (h, first_from))

  pub fails : t ≡ false → Decides r (suc n) ts
  unfolding first_from
  fails h = record { first = D.first ∙ rw (h, first_from) }

pub none_holds : {r n : ℕ} → Decides r n [] → 0 ≡ r
unfolding first_from
none_holds D = sym D.first

-- ---- the nine tests

abbrev pub tests : List ℕ → ℕ → Lent → List Bool
tests script fuel l =
    ltb script_most (length script)
    ∷ not (same (take 5 script) (bytes "#FLOO"))
    ∷ ltb fuel_most fuel
    ∷ not (within stack_least stack_most (l.stack_words / stack_width))
    ∷ not (within exec_least exec_most (l.exec_words / exec_width))
    ∷ not (within name_count dictionary_most (l.dictionary_words / dictionary_width))
    ∷ not (within cells_least cells_most (l.cell_words / cell_width))
    ∷ ltb log_most l.log_bytes
    ∷ ltb l.outcome_bytes (head_room + item_room * (l.stack_words / stack_width))
    ∷ []

-- The first k tests fail: the rest decides.
abbrev pub Passed : List ℕ → ℕ → Lent → ℕ → Type 0
Passed script fuel l k = Decides (refusal script fuel l) (suc k) (drop k (tests script fuel l))

pub untested : (script : List ℕ) (fuel : ℕ) (l : Lent) → Passed script fuel l 0
unfolding refusal limits is_too_long
untested script fuel l = record { first = refl }

-- ---- a number between two others

not_leb : (a b : ℕ) → not (leb a b) ≡ ltb b a
not_leb a b = by (leb a b) refl
  where
    by : (t : Bool) → leb a b ≡ t → not t ≡ ltb b a
    by true e = sym (le-ltb b a (leb-true a b e))
    by false e = sym (lt-ltb b a (leb-false a b e))

module _ (low high n : ℕ) where
  pub not_below : n < low → not (within low high n) ≡ true
  not_below h = rw (lt-leb low n h)

  pub not_above : low ≤ n → not (within low high n) ≡ ltb high n
  not_above h = rw (le-leb low n h) (not_leb n high)

  pub from_to : not (within low high n) ≡ false → (low ≤ n) × (n ≤ high)
  from_to e = let least = by (leb low n) refl in (least, ltb-false high n (sym (not_above least) ∙ e))
    where
      by : (t : Bool) → leb low n ≡ t → low ≤ n
      by true q = leb-true low n q
      by false q = absurd (true≢false (sym (not_below (leb-false low n q)) ∙ e))
