-- Loops over bytes that are measured or written one by one: by the text of the first bytes, a byte more each turn.
-- Assumes nothing.
use mathlib.Core.Path.{◌≡◌, ap, ◌∙◌, subst}
use mathlib.Core.Bool.{true, false}
use mathlib.Core.List.{List}
use Prim.Native.Nat.{ℕ, ◌+◌, ◌≤◌, ◌<◌}
use native.Mathlib.Omega.{arith}
use lib.ListN.{length, get_or, take}
use lib.Seq.{take_all}
use Rattle.semantics.specs.Printing.{escaped, string_byte, name_byte}
use Rattle.text.specs.Writing.{Written, byte_text}
use Rattle.text.proofs.Escapes.{byte_short, escaped_longer, escaped_part, escaped_next}

pub string_short : (b : ℕ) → length (string_byte b) ≤ 4
unfolding byte_text
string_short b = byte_short true b

pub name_short : (b : ℕ) → length (name_byte b) ≤ 4
unfolding byte_text
name_short b = byte_short false b

-- ---- a byte more

module _ (f : ℕ → List ℕ) (s : List ℕ) (j : ℕ) (inside : j < length s) {b : ℕ} (byte : b ≡ get_or s j 0) where
  same : f b ≡ f (get_or s j 0)
  same = ap f byte

  pub sum_more : {sum k : ℕ} → sum ≡ length (escaped f (take j s)) → k ≡ length (f b) → sum + k ≡ length (escaped f (take (j + 1) s))
  sum_more h g = omega (arith, h, g, ap length same, escaped_longer f s j inside)

  -- There is room for a byte's text.
  pub byte_fits : {at r n : ℕ} {old new : List ℕ} → Written at (escaped f (take j s)) old new r → at + length (escaped f s) ≤ n → r + length (f b) ≤ n
  byte_fits w h = omega (arith, h, w.end, ap length same, escaped_longer f s j inside, escaped_part f s (j + 1))

  pub text_more : {at r q : ℕ} {old mid new : List ℕ}
      → at ≤ length old
      → Written at (escaped f (take j s)) old mid r
      → Written r (f b) mid new q
      → Written at (escaped f (take (j + 1) s)) old new q
  text_more {r = r} {q = q} {mid = mid} {new = new} room x y = escaped_next f s j inside room x (subst (λ t. Written r t mid new q) same y)

module _ (f : ℕ → List ℕ) (s : List ℕ) (j : ℕ) (past : length s ≤ j) where
  pub sum_all : {sum : ℕ} → sum ≡ length (escaped f (take j s)) → sum ≡ length (escaped f s)
  sum_all h = h ∙ ap (λ (t : List ℕ). length (escaped f t)) (take_all j s past)

  pub text_all : {at r : ℕ} {old new : List ℕ} → Written at (escaped f (take j s)) old new r → Written at (escaped f s) old new r
  text_all {at} {r} {old} {new} w = subst (λ (t : List ℕ). Written at (escaped f t) old new r) (take_all j s past) w
