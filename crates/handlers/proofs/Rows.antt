-- The rows of handlers by their places: the words of one, and one that changes while all others stay.
-- Assumes nothing.
use mathlib.Core.Path.{◌≡◌, subst}
use mathlib.Core.List.{List}
use mathlib.Core.Option.{some}
use Prim.Native.Nat.{ℕ, zero, suc, ◌+◌, ◌*◌, ◌≤◌, ◌<◌}
use native.Mathlib.Omega.{arith}
use lib.ListN.{length, get_or, set, get_elem?}
use Rattle.semantics.specs.Values.{Value}
use Rattle.semantics.specs.Machine.{Slot}
use Rattle.semantics.specs.ListLaws.{some_one, none_some}
use Rattle.machine.specs.Words.{handler_tag, handler_payload, handler_name}
use Rattle.machine.specs.Rep.{RowIs, Rows, row}

module _ {Is : Value → ℕ → ℕ → Type 0} {names : List (List ℕ)} where
  pub row_at : {words : List ℕ} {k : ℕ} {d : List Slot} (i : ℕ) {s : Slot} → get_elem? d i ≡ some s → Rows Is names words k d → RowIs Is names words (k + i) s
  row_at i e Rows.end = absurd (none_some e)
  row_at {words} {k} zero {s} e (row {s = t} S r) =
      let place : k ≡ k + 0 = omega arith in
      subst (λ x. RowIs Is names words x s) place (subst (RowIs Is names words k) (some_one e) S)
  row_at {words} {k} (suc i) {s} e (row S r) =
      let place : suc k + i ≡ k + suc i = omega arith in
      subst (λ x. RowIs Is names words x s) place (row_at i e r)

  -- The words of a row where they are the same.
  row_same : (words other : List ℕ) (k : ℕ) {s : Slot}
      → handler_tag other k ≡ handler_tag words k
      → handler_payload other k ≡ handler_payload words k
      → handler_name other k ≡ handler_name words k
      → RowIs Is names words k s
      → RowIs Is names other k s
  row_same words other k tag pay name S = record { handler = rw (tag, pay) S.handler; named = λ v e. rw name (S.named v e) }

  module _ (words other : List ℕ) where
    pub rows_same : {k : ℕ} {d : List Slot}
        → ((j : ℕ) → 36 * k ≤ j → j < 36 * (k + length d) → get_or other j 0 ≡ get_or words j 0)
        → Rows Is names words k d
        → Rows Is names other k d
    rows_same g Rows.end = Rows.end
    rows_same {k} g (row {s = s} T r) =
        row {j = k} {s = s}
        (row_same words other k (g (36 * k + 11) (omega arith) (omega arith)) (g (36 * k + 23) (omega arith) (omega arith)) (g (36 * k + 35) (omega arith) (omega arith)) T)
        (rows_same (λ j x y. g j (omega arith) (omega arith)) r)

    -- Row i takes other words, and those of all other rows are the same.
    pub rows_set : {k : ℕ} {d : List Slot} (i : ℕ) {s : Slot}
        → i < length d
        → ((j : ℕ) → (36 * (k + i) ≤ j → 36 * (k + i) + 36 ≤ j) → get_or other j 0 ≡ get_or words j 0)
        → Rows Is names words k d
        → RowIs Is names other (k + i) s
        → Rows Is names other k (set d i s)
    rows_set i l f Rows.end S = absurd (omega arith)
    rows_set {k} zero {s} l f (row T r) S =
        let place : k + 0 ≡ k = omega arith in
        row {j = k} {s = s} (subst (λ x. RowIs Is names other x s) place S) (rows_same (λ j x y. f j (λ z. omega arith)) r)
    rows_set {k} (suc i) {s} l f (row {s = t} T r) S =
        let place : k + suc i ≡ suc k + i = omega arith in
        row {j = k} {s = t}
        (row_same words other k (f (36 * k + 11) (λ y. omega arith)) (f (36 * k + 23) (λ y. omega arith)) (f (36 * k + 35) (λ y. omega arith)) T)
        (rows_set i (omega arith) (λ j x. f j (λ y. omega (arith, x (omega arith)))) r (subst (λ x. RowIs Is names other x s) place S))
