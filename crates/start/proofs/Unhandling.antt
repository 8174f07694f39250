-- No error has a handler at the start: the loop over the rows, and what the words then stand for.
-- Assumes nothing.
use mathlib.Core.Path.{◌≡◌, refl, ◌∙◌}
use mathlib.Core.List.{List, [], ◌∷◌, map}
use mathlib.Core.Logic.{⊎_elim}
use mathlib.Core.Option.{none}
use Prim.Native.Nat.{ℕ, zero, suc, ◌+◌, ◌*◌, ◌%◌, ◌≤◌, ◌<◌}
use native.Mathlib.Omega.{arith}
use lib.ListN.{length, get_or, set, length-set}
use lib.Seq.{get_or-set_same, get_or-set_other}
use Rattle.semantics.specs.Sizes.{error_count, name_words}
use Rattle.semantics.specs.Values.{Value, null}
use Rattle.semantics.specs.Errors.{error_names}
use Rattle.semantics.specs.Steps.{unhandled}
use Rattle.semantics.specs.ListLaws.{none_some}
use Rattle.heap.proofs.Upds.{same?}
use Rattle.machine.specs.Words.{handler_tag}
use Rattle.machine.specs.Places.{binding_at}
use Rattle.machine.specs.Rep as Words
use Rattle.machine.specs.Rep.{Rows, row, Handled, nothing}
use Rattle.start.specs.Predefined.{Unhandled}

-- ---- the loop

pub record Clearing (d d' : List ℕ) (j : ℕ) : Type 0 where
  pub few : j ≤ error_count
  pub long : length d' ≡ length d
  pub none : (i : ℕ) → i < j → handler_tag d' i ≡ 7
  pub kept : (i : ℕ) → (i % 12 ≡ 11 → i < name_words → ⊥) → get_or d' i 0 ≡ get_or d i 0

pub clear_begin : {d : List ℕ} → Clearing d d 0
clear_begin = record { few = omega arith; long = refl; none = λ i l. absurd (omega arith); kept = λ i f. refl }

pub clear_again : {d d' : List ℕ} {j : ℕ} → name_words ≤ length d → Clearing d d' j → j < error_count → Clearing d (set d' (36 * j + 11) 7) (j + 1)
clear_again {d} {d'} {j} large C l =
    record {
      few = omega arith;
      long = length-set d' (36 * j + 11) 7 ∙ C.long;
      none = λ i x.
          ⊎_elim
          (λ (e : 36 * i + 11 ≡ 36 * j + 11). rw e (get_or-set_same d' (36 * j + 11) 7 0 (omega (arith, C.long))))
          (λ (e : 36 * i + 11 ≡ 36 * j + 11 → ⊥). get_or-set_other d' (36 * j + 11) (36 * i + 11) 7 0 e ∙ C.none i (before i x e))
          (same? (36 * i + 11) (36 * j + 11));
      kept = λ i f. get_or-set_other d' (36 * j + 11) i 7 0 (λ e. f (omega arith) (omega arith)) ∙ C.kept i f;
    }
  where
    before : (i : ℕ) → i < j + 1 → (36 * i + 11 ≡ 36 * j + 11 → ⊥) → i < j
    before i x e = ⊎_elim (λ (z : i ≡ j). absurd (e (omega arith))) (λ (z : i ≡ j → ⊥). omega (arith, z)) (same? i j)

pub clear_end : {d d' : List ℕ} {j : ℕ} → name_words ≤ length d → Clearing d d' j → error_count ≤ j → Unhandled d (set (set d' 623 0) 635 0)
clear_end {d} {d'} {j} large C l =
    record {
      none = λ i x. apart (36 * i + 11) (λ e. omega arith) (λ e. omega arith) ∙ C.none i (omega arith);
      error = get_or-set_other (set d' 623 0) 635 623 0 0 (λ e. omega arith) ∙ get_or-set_same d' 623 0 0 (omega (arith, C.long));
      command = get_or-set_same (set d' 623 0) 635 0 0 (omega (arith, C.long, length-set d' 623 0));
      kept = λ i f. apart i (λ e. f (omega arith) (omega arith)) (λ e. f (omega arith) (omega arith)) ∙ C.kept i f;
    }
  where
    apart : (i : ℕ) → (i ≡ 623 → ⊥) → (i ≡ 635 → ⊥) → get_or (set (set d' 623 0) 635 0) i 0 ≡ get_or d' i 0
    apart i a b = get_or-set_other (set d' 623 0) 635 i 0 0 b ∙ get_or-set_other d' 623 i 0 0 a

-- ---- what the words stand for

rows_none : {A : Value → ℕ → ℕ → Type 0} {names : List (List ℕ)} {d : List ℕ} (j : ℕ) (ns : List (List ℕ))
    → ((i : ℕ) → i < j + length ns → handler_tag d i ≡ 7)
    → Rows A names d j (map (λ n. record { key = n; binding = none }) ns)
rows_none j [] f = Rows.end
rows_none {d = d} j (n ∷ ns) f =
    row {j = j} {s = record { key = n; binding = none }}
    (record { handler = rw (f j (omega arith)) Words.unbound; named = λ v e. absurd (none_some e) })
    (rows_none (suc j) ns (λ i l. f i (omega arith)))

pub handled_none : {A : Value → ℕ → ℕ → Type 0} {names : List (List ℕ)} {d d' : List ℕ}
    → Unhandled d d'
    → Handled A names d' unhandled (record { errorname = none; command = none })
unfolding unhandled error_names
handled_none U =
    record {
      rows = rows_none 0 error_names (λ i l. U.none i l);
      errors = refl;
      errorname = rw U.error nothing;
      command = rw U.command nothing;
    }

-- No handler names an object.
bindings_none : (ns : List (List ℕ)) (j : ℕ) → binding_at (map (λ n. record { key = n; binding = none }) ns) j ≡ null
unfolding binding_at
bindings_none [] j = refl
bindings_none (n ∷ ns) zero = refl
bindings_none (n ∷ ns) (suc j) = bindings_none ns j

pub none_handled : (j : ℕ) → binding_at unhandled j ≡ null
unfolding unhandled
none_handled j = bindings_none error_names j
