-- The header: bytes compared one by one, then CRLF or the end.
-- Assumes nothing.
use mathlib.Core.Path.{◌≡◌, refl, sym, ap, ap₂, ◌∙◌}
use mathlib.Core.Bool.{Bool, true, false, ◌&&◌, cond, true≢false, and-false, and-true}
use mathlib.Core.List.{List, [], ◌∷◌}
use mathlib.Core.Option.{none, some}
use Prim.Native.Nat.{ℕ, ◌+◌, ◌≤◌}
use native.Mathlib.Omega.{arith}
use lib.ListN.{length, take, drop}
use lib.Seq.{drop-drop}
use lib.Dec.{eqb}
use lib.Pointwise.{pointwise}
use Rattle.semantics.specs.Text.{same}
use Rattle.book.proofs.SoundLaws.{eqb_sym}
use Rattle.ledger.specs.Ledger.{header}
use Rattle.ledger.specs.Reading.{after_break, after_header}

-- ---- the same bytes

alike : (s t : List ℕ) → pointwise eqb s t ≡ same s t
unfolding same
alike [] [] = refl
alike [] (b ∷ t) = refl
alike (a ∷ s) [] = refl
alike (a ∷ s) (b ∷ t) = by (eqb a b) (alike s t)
  where
    by : (u : Bool) → pointwise eqb s t ≡ same s t → (u && pointwise eqb s t) ≡ elim u [ true ↦ same s t | false ↦ false ]
    by true e = e
    by false e = refl

-- ---- the header

-- What follows the header begins with CRLF, or is no line.
break : (s : List ℕ) → (length s ≡ 0 → ⊥) → after_break s ≡ cond (pointwise eqb (13 ∷ 10 ∷ []) (take 2 s)) (some (drop 2 s)) none
unfolding after_break
break [] h = absurd (h refl)
break (x ∷ []) h = ap (λ t. cond t (some []) none) (sym (and-false (eqb 13 x)))
break (x ∷ y ∷ s) h = ap₂ (λ t u. cond (t && u) (some s) none) (eqb_sym x 13) (eqb_sym y 10 ∙ sym (and-true (eqb 10 y)))

module _ (text : List ℕ) where
  not_same : same (take 17 text) header ≡ false → after_header text ≡ none
  unfolding after_header
  not_same e = ap (λ t. cond t (after_break (drop 17 text)) none) e

  pub header_none : pointwise eqb (take 17 text) header ≡ false → after_header text ≡ none
  header_none e = not_same (sym (alike (take 17 text) header) ∙ e)

  -- What follows the header.
  module _ {rest : List ℕ} (r : (pointwise eqb (take 17 text) header ≡ true) × (rest ≡ drop 17 text) × (length rest + 17 ≡ length text)) where
    headed : after_header text ≡ after_break rest
    unfolding after_header
    headed = ap (λ u. cond u (after_break (drop 17 text)) none) (sym (alike (take 17 text) header) ∙ r.0) ∙ ap after_break (sym r.1)

    pub header_alone : length rest ≡ 0 → (17 ≤ length text) × (after_header text ≡ some (drop 17 text))
    unfolding after_break
    header_alone l =
        let k : rest ≡ [] = nothing rest l in
        (omega (arith, r.2), headed ∙ ap after_break k ∙ ap some (sym k ∙ r.1))
      where
        nothing : (s : List ℕ) → length s ≡ 0 → s ≡ []
        nothing [] h = refl
        nothing (x ∷ s) h = absurd (omega (arith, h))

    module _ (l : length rest ≡ 0 → ⊥) {t : Bool} (is : t ≡ pointwise eqb (13 ∷ 10 ∷ []) (take 2 rest)) where
      broken : after_header text ≡ cond t (some (drop 2 rest)) none
      broken = headed ∙ break rest l ∙ ap (λ u. cond u (some (drop 2 rest)) none) (sym is)

      pub header_line : t ≡ true → (19 ≤ length text) × (after_header text ≡ some (drop 19 text))
      header_line e = (
        omega (arith, r.2, two rest (sym is ∙ e)),
        broken ∙ ap (λ u. cond u (some (drop 2 rest)) none) e ∙ ap (λ s. some (drop 2 s)) r.1 ∙ ap some (drop-drop 2 17 text),
      )
        where
          two : (s : List ℕ) → pointwise eqb (13 ∷ 10 ∷ []) (take 2 s) ≡ true → 2 ≤ length s
          two [] h = absurd (true≢false (sym h))
          two (x ∷ []) h = absurd (true≢false (sym h ∙ and-false (eqb 13 x)))
          two (x ∷ y ∷ s) h = omega arith

      pub header_other : t ≡ false → after_header text ≡ none
      header_other e = broken ∙ ap (λ u. cond u (some (drop 2 rest)) none) e
