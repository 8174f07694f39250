-- A name packed into eight words, four bytes to a word, the lowest first, and zeros after them.
-- Assumes nothing.
use Rattle.std.specs.Prelude.{◌≡◌, Bool, true, false, List, ℕ, ◌+◌, ◌*◌, ◌/◌, ◌%◌, ◌≤◌, ◌<◌, length, get_or}
use Rattle.store.specs.Rep.{byte_of}

-- The first 4 i bytes are in the i words from `at` on, and all other words are as they were.
pub record Packs (i : ℕ) (n : List ℕ) (at : ℕ) (d d' : List ℕ) : Type 0 where
  pub spelt : (j : ℕ) → j < 4 * i → byte_of (get_or d' (at + j / 4) 0) (j % 4) ≡ get_or n j 0
  pub below : (k : ℕ) → k < at → get_or d' k 0 ≡ get_or d k 0
  pub above : (k : ℕ) → at + i ≤ k → get_or d' k 0 ≡ get_or d k 0

-- Slot k has the name n, and all words but those of its length and bytes are as they were.
pub record Spells (k : ℕ) (n d d' : List ℕ) : Type 0 where
  pub size : get_or d' (12 * k) 0 ≡ length n
  pub spelt : (j : ℕ) → j < 32 → byte_of (get_or d' (12 * k + 1 + j / 4) 0) (j % 4) ≡ get_or n j 0
  pub others : (i : ℕ) → (12 * k ≤ i → 12 * k + 9 ≤ i) → get_or d' i 0 ≡ get_or d i 0

-- The words at `at` are this size, and the bytes of the eight after it those of w.
pub record Agrees (d : List ℕ) (at size : ℕ) (w : List ℕ) : Type 0 where
  pub size_is : get_or d at 0 ≡ size
  pub bytes_are : (j : ℕ) → j < 32 → byte_of (get_or d (at + 1 + j / 4) 0) (j % 4) ≡ byte_of (get_or w (j / 4) 0) (j % 4)

-- Whether A holds.
abbrev pub Tells : Type 0 → Bool → Type 0
Tells A true = A
Tells A false = A → ⊥

-- Of the first n slots, r is the first that agrees; n where none does.
pub record First (d : List ℕ) (n size : ℕ) (w : List ℕ) (r : ℕ) : Type 0 where
  pub before : (k : ℕ) → k < r → Agrees d (12 * k) size w → ⊥
  pub here : r < n → Agrees d (12 * r) size w

-- Four bytes of the name, from `start` on, are those of the word.
pub record Bytes (n : List ℕ) (start w : ℕ) : Type 0 where
  pub are : (j : ℕ) → j < 4 → byte_of w j ≡ get_or n (start + j) 0
