-- Logs that grow: at their end, by any text, and the bytes past what is written.
-- Assumes nothing.
use mathlib.Core.Path.{◌≡◌, sym, ap, ◌∙◌}
use mathlib.Core.List.{List, [], ◌++◌, append-nil, append_assoc}
use Prim.Native.Nat.{ℕ, ◌+◌, ◌-◌, ◌≤◌}
use native.Mathlib.Omega.{arith}
use lib.ListN.{length, drop, length-append}
use lib.Seq.{drop-drop}
use Rattle.growth.specs.Growth.{Extends}

pub extends_itself : (l : List ℕ) → Extends l l
extends_itself l = record { added = []; whole = sym (append-nil l) }

pub extends_more : {before after : List ℕ} → Extends before after → (t : List ℕ) → Extends before (after ++ t)
extends_more {before} h t =
    record { added = h.added ++ t; whole = ap (λ (l : List ℕ). l ++ t) h.whole ∙ append_assoc before h.added t }

pub extends_then : {a b c : List ℕ} → Extends a b → Extends b c → Extends a c
extends_then {a} f g =
    record { added = f.added ++ g.added; whole = g.whole ∙ ap (λ (l : List ℕ). l ++ g.added) f.whole ∙ append_assoc a f.added g.added }

pub extends_length : {before after : List ℕ} → Extends before after → length before ≤ length after
extends_length {before} h = omega (arith, ap length h.whole ∙ length-append before h.added)

-- Bytes past w stay, and from w' on they stay once more: from w' on they are as at first.
pub rest_on : {w w' : ℕ} (l l₁ l₂ : List ℕ) → drop w l₁ ≡ drop w l → w ≤ w' → drop w' l₂ ≡ drop w' l₁ → drop w' l₂ ≡ drop w' l
rest_on {w} {w'} l l₁ l₂ first h second = second ∙ sym (past l₁) ∙ ap (drop (w' - w)) first ∙ past l
  where
    past : (k : List ℕ) → drop (w' - w) (drop w k) ≡ drop w' k
    past k =
        let e : w + (w' - w) ≡ w' = omega (arith, h) in
        drop-drop (w' - w) w k ∙ ap (λ (n : ℕ). drop n k) e
