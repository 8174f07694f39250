-- One store to the slice is one store to a word, and no other: four words to a cell, so no two share a place.
-- Assumes nothing.
use Prim.Native.Nat.{ℕ, ◌+◌, ◌*◌, ◌≤◌, ◌<◌}
use mathlib.Core.List.{List}
use native.Mathlib.Omega.{arith}
use lib.ListN.{length, set, length-set}
use lib.Seq.{get_or-set_same, get_or-set_other}
use Rattle.heap.specs.Word.{word, Put}

pub put_set : (m : List ℕ) (c w v : ℕ) → w < 4 → c * 4 + 4 ≤ length m → Put m c w v (set m (c * 4 + w) v)
unfolding word
put_set m c w v hw hc = record {
  size = length-set m (c * 4 + w) v;
  here = get_or-set_same m (c * 4 + w) v 0 (omega arith);
  there = λ d u hu ne. get_or-set_other m (c * 4 + w) (d * 4 + u) v 0 (λ e. ne (omega arith) (omega arith));
}
