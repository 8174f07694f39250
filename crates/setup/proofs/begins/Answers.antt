-- `begins` meets its contract: `starts_with` compares byte by byte, as the definition does.
-- Assumes nothing.
use Rattle.std.proofs.Common.{◌≡◌, ◌∙◌, sym, ap, refl, Bool, true, false, List, [], ◌∷◌, ℕ, take, eqb, ◌&&◌, eq-eqb, eqb-true}
use borrow.Author.Tests.{ne_eqb, eqb-false}
use lib.Pointwise.{pointwise}
use Rattle.semantics.specs.Text.{bytes, same}
use Rattle.setup.proofs.begins.Goals as goal

alike : (p s : List ℕ) → pointwise eqb p s ≡ same s p
unfolding same
alike [] [] = refl
alike [] (b ∷ s) = refl
alike (a ∷ p) [] = refl
alike (a ∷ p) (b ∷ s) = by (alike p s) (eqb a b) refl
  where
    by : pointwise eqb p s ≡ same s p → (t : Bool) → eqb a b ≡ t → (t && pointwise eqb p s) ≡ same (b ∷ s) (a ∷ p)
    by r true e = r ∙ ap (λ t. elim t [ true ↦ same s p | false ↦ false ]) (sym (eq-eqb b a (sym (eqb-true a b e))))
    by r false e = ap (λ t. elim t [ true ↦ same s p | false ↦ false ]) (sym (ne_eqb b a (λ q. eqb-false a b e (sym q))))

pub returns : goal.returns
unfolding same bytes
returns c = c.starts_with.ensures.value ∙ alike (bytes "#FLOO") (take 5 c.args.script.now)
