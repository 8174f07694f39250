-- The items of a group can be read again, one by one, each from the offset after the one before: so a substack is known by the offset of
-- its brace, and a running one by the offset of its next item. A group that stands inside another is read again as an outermost one.
-- Assumes nothing.
use Rattle.std.specs.Prelude.{◌≡◌, List, ℕ, ◌+◌, ◌≤◌, ◌<◌, length, drop}
use Rattle.semantics.specs.Values.{ok}
use Rattle.forf_semantics.specs.Tokens.{Token, lexeme, lex}
use Rattle.forf_semantics.specs.Items.{Item, number, word, group, Items, none, ◌then◌, skip, group_at}

-- What is left of a group from an offset on, its brace being passed: these items, up to the offset after the closing brace.
pub record Rest (script : List ℕ) (offset : ℕ) (xs : Items) (end : ℕ) : Type 0 where
  pub passed : 1 ≤ offset
  pub inside : offset ≤ length script
  pub reads : group_at script offset ≡ ok (record { items = xs; after = end })

-- The next token from an offset on, and how many bytes it takes.
pub record TokenAt (script : List ℕ) (offset : ℕ) (t : Token) (size : ℕ) : Type 0 where
  pub lexes : lex (drop (skip script offset) script) ≡ lexeme t size

-- The next item from an offset on, and the offset after it.
pub data ItemAt (script : List ℕ) (offset : ℕ) : Item → ℕ → Type 0 where
  number_at : {w size : ℕ} → TokenAt script offset (Token.integer w) size → ItemAt script offset (number w) (skip script offset + size)
  word_at : {n : List ℕ} {size : ℕ}
      → TokenAt script offset (Token.word n) size
      → length n ≤ 31
      → ItemAt script offset (word n) (skip script offset + size)
  group_at_lem : {xs : Items} {end : ℕ}
      → TokenAt script offset Token.open_brace 1
      → Rest script (skip script offset + 1) xs end
      → ItemAt script offset (group xs) end

-- What is next in a group: an item and the rest, or the closing brace.
pub data Next (script : List ℕ) (offset : ℕ) : Items → ℕ → Type 0 where
  an_item : {x : Item} {xs : Items} {after end : ℕ}
      → ItemAt script offset x after
      → offset < after
      → Rest script after xs end
      → Next script offset (x then xs) end
  no_item : TokenAt script offset Token.close_brace 1 → Next script offset none (skip script offset + 1)
