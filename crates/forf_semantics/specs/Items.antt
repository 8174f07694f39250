-- Items read from the script: tokens, and substacks read whole in one step (02, W10; 01, Tokens and Steps).
-- Assumes nothing.
use Rattle.std.specs.Prelude.{List, ℕ, zero, suc, ◌+◌, length, drop}
use Rattle.semantics.specs.Values.{ok, fault, ◌>>=◌}
use Rattle.forf_semantics.specs.Errors.{Result}
use Rattle.forf_semantics.specs.Tokens.{Token, lex, blanks}
use Rattle.forf_semantics.specs.declared.Error.TheVariants.{SyntaxError}

-- An item of a substack or of the script, and a substack's items in order.
infixr 5 ◌then◌
mutual
  pub data Item : Type 0 where
    number : ℕ → Item  -- its 32 bits
    word : List ℕ → Item
    group : Items → Item

  pub data Items : Type 0 where
    none : Items
    ◌then◌ : Item → Items → Items

-- How many items a substack has; an inner substack is one.
unfoldable pub count : Items → ℕ
count none = 0
count (x then xs) = suc (count xs)

-- The offset of the first byte from `offset` on that is neither space nor comment, or the script's length.
unfoldable pub skip : List ℕ → ℕ → ℕ
skip script offset = offset + blanks (drop offset script)

-- ---- substacks

-- The items up to a closing brace, and the offset after that.
pub record Group : Type 0 where
  pub items : Items
  pub after : ℕ

-- What reads a group from an offset on: given how many groups may still be opened inside.
abbrev pub Reader : Type 0
Reader = ℕ → ℕ → Result Group

-- An item, and then those of the rest.
unfoldable pub onto : Item → Group → Result Group
onto x g = ok (record { items = x then g.items; after = g.after })

-- A token of a group, which ends at `after`: one item more, an inner group and what follows it, or the group's end.
unfoldable pub element : Reader → ℕ → ℕ → Token → Result Group
element rest depth after (Token.integer w) = rest depth after >>= onto (number w)
element rest depth after (Token.word n) = rest depth after >>= onto (word n)
element rest zero after Token.open_brace = fault SyntaxError
element rest (suc d) after Token.open_brace = do
  inner ← rest d after
  g ← rest (suc d) inner.after
  onto (group inner.items) g
element rest depth after Token.close_brace = ok (record { items = none; after = after })
element rest depth after Token.end = fault SyntaxError

-- The rest of a group. `fuel` bounds the tokens read; `GroupLaws` proves that it is never spent.
unfoldable pub read_group : List ℕ → ℕ → Reader
read_group script zero depth offset = fault SyntaxError
read_group script (suc fuel) depth offset = do
  let start = skip script offset
  l ← lex (drop start script)
  element (read_group script fuel) depth (start + l.size) l.token

-- A group whose open brace has been passed. Substacks nest at most 16 deep.
unfoldable pub group_at : List ℕ → ℕ → Result Group
group_at script offset = read_group script (length script) 15 offset

-- ---- the script

-- An item read from the script, and the offset after it.
pub record Taken : Type 0 where
  pub item : Item
  pub after : ℕ

unfoldable pub taken : Item → ℕ → Result Taken
taken x after = ok (record { item = x; after = after })

-- A token of the script outside braces, which ends at `after`.
unfoldable pub token_item : List ℕ → ℕ → Token → Result Taken
token_item script after (Token.integer w) = taken (number w) after
token_item script after (Token.word n) = taken (word n) after
token_item script after Token.open_brace = do
  g ← group_at script after
  taken (group g.items) g.after
token_item script after Token.close_brace = fault SyntaxError
token_item script after Token.end = fault SyntaxError

-- The item of the token at `start`, which is neither space nor comment.
unfoldable pub take_token : List ℕ → ℕ → Result Taken
take_token script start = do
  l ← lex (drop start script)
  token_item script (start + l.size) l.token

-- Opens every definition of this file.
unfoldable pub itemizing : Unit {0}
unfolding count skip onto element read_group group_at taken token_item take_token
itemizing = tt
