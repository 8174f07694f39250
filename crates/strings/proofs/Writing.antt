-- The loop of `write_at`: the first q bytes stand in front.
-- Assumes nothing.
use mathlib.Core.Path.{◌≡◌, refl, sym, ap, ◌∙◌, subst}
use mathlib.Core.List.{List}
use Prim.Native.Nat.{ℕ, suc, ◌+◌, ◌≤◌, ◌<◌}
use native.Mathlib.Omega.{arith}
use lib.ListN.{length, get_or, take}
use lib.Seq.{length-take-le, take_all, take-suc}
use Rattle.elements.specs.Elements.{PutsByte}
use Rattle.strings.specs.Strings.{FillsString}
use Rattle.strings.proofs.Filling.{front_puts, fills_none}

pub record Writing (h : ℕ) (bs c₀ c : List ℕ) (q : ℕ) : Type 0 where
  pub low : q ≤ length bs
  pub long : length c ≡ length c₀
  pub fills : FillsString h (take q bs) c₀ c

pub begin : (h : ℕ) (bs c : List ℕ) → Writing h bs c c 0
begin h bs c = record { low = omega arith; long = refl; fills = fills_none h c }

pub again : {h q : ℕ} {bs c₀ c c' : List ℕ}
    → Writing h bs c₀ c q
    → q < length bs
    → PutsByte h q (get_or bs q 0) c c'
    → length c' ≡ length c
    → Writing h bs c₀ c' (q + 1)
again {h} {q} {bs} {c₀} {c} {c'} W less B same =
    let next : suc q ≡ q + 1 = omega arith in
    record {
      low = omega (arith, less);
      long = same ∙ W.long;
      fills = subst (λ (t : List ℕ). FillsString h t c₀ c') (sym (take-suc bs q 0 less) ∙ ap (λ k. take k bs) next) (front_puts (length-take-le q bs W.low) W.fills B);
    }

pub finish : {h q : ℕ} {bs c₀ c : List ℕ} → length bs ≤ q → Writing h bs c₀ c q → FillsString h bs c₀ c
finish {h} {q} {bs} {c₀} {c} all W = subst (λ (t : List ℕ). FillsString h t c₀ c) (take_all q bs all) W.fills
