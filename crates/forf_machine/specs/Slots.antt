-- Slots of lent words: the first two words of each are in use.
-- Assumes nothing.
use Rattle.std.specs.Prelude.{List, [], ◌∷◌, ℕ, zero, suc, ◌+◌, ◌*◌, get_or, set}

-- What a slot says of its payload, and the payload.
abbrev pub Slot : Type 0
Slot = ℕ × ℕ

-- The first n slots of w words each, the topmost first.
unfoldable pub slots : ℕ → ℕ → List ℕ → List Slot
slots w zero s = []
slots w (suc n) s = (get_or s (w * n) 0, get_or s (w * n + 1) 0) ∷ slots w n s

-- Slot i is given its two words.
unfoldable pub put_slot : ℕ → ℕ → ℕ → ℕ → List ℕ → List ℕ
put_slot w i tag payload s = set (set s (w * i) tag) (w * i + 1) payload
