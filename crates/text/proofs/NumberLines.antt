-- A line of a key and a number, which has 10 digits at most: the room that its parts want, and what is left after it.
-- Assumes nothing.
use mathlib.Core.Path.{◌≡◌}
use mathlib.Core.List.{List}
use Prim.Native.Nat.{ℕ, ◌+◌, ◌≤◌, ◌<◌}
use native.Mathlib.Omega.{arith}
use lib.ListN.{length, set, length-set}
use Rattle.semantics.specs.Text.{bytes, decimal}
use Rattle.semantics.specs.TextLaws.{decimal_length}
use Rattle.semantics.specs.Outcome.{line}
use Rattle.semantics.specs.OutcomeLaws.{line_length}
use Rattle.text.specs.Writing.{Written}
use Rattle.text.proofs.Pasting.{then, last}

module _ {at next : ℕ} {key out mid : List ℕ} (n : ℕ) (room : at + length key + 12 ≤ length out) (K : Written at key out mid next) (same : length mid ≡ length out) where
  pub sign_room : next < length mid
  sign_room = omega (arith, room, K.end, same)

  pub digits_room : next + 1 + length (decimal n) ≤ length (set mid next 61)
  digits_room = omega (arith, room, K.end, same, length-set mid next 61, decimal_length n)

  module _ {new : List ℕ} {after : ℕ} (D : Written (next + 1) (decimal n) (set mid next 61) new after) (kept : length new ≡ length (set mid next 61)) where
    pub feed_room : after < length new
    feed_room = omega (arith, room, K.end, D.end, same, kept, length-set mid next 61, decimal_length n)

    pub number_line : Written at (line key (decimal n)) out (set new after 10) (after + 1)
    unfolding line bytes
    number_line = let low : at ≤ length out = omega (arith, room) in last 10 low feed_room (then low (last 61 low sign_room K) D)

-- A line of a number is short.
pub count_length : (key : List ℕ) (n : ℕ) → length (line key (decimal n)) ≤ length key + 12
count_length key n = omega (arith, line_length key (decimal n), decimal_length n)

-- What is left after one.
pub after_line : {at r : ℕ} {out mid : List ℕ} (key : List ℕ) (n left : ℕ)
    → at + (length key + 12 + left) ≤ length out
    → Written at (line key (decimal n)) out mid r
    → length mid ≡ length out
    → r + left ≤ length mid
after_line key n left h W same = omega (arith, h, W.end, same, count_length key n)
