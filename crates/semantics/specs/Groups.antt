-- Values read from the script: tokens, and brace groups read whole in one step (01, Tokens and Steps).
-- Assumes nothing.
use Rattle.std.specs.Prelude.{true, false, List, [], ◌∷◌, reverse, ℕ, zero, suc, ◌+◌, length, drop}
use Rattle.semantics.specs.Tokens.{Lexing, Token, lex, blanks}
use Rattle.semantics.specs.Values.{ok, fault, ◌>>=◌, Value, integer, name, string, array, elements, text}
use Rattle.semantics.specs.Machine.{Machine, make, made, change, protect, intern}
use Rattle.semantics.specs.declared.Fault.TheVariants.{BadBrace, OverLimit}

-- A value read from the script, the machine with the objects and names that it needs, and the offset after it.
pub record Taken : Type 0 where
  pub value : Value
  pub machine : Machine
  pub after : ℕ

unfoldable pub taken : Value → Machine → ℕ → Lexing Taken
taken v m n = ok (record { value = v; machine = m; after = n })

-- The offset of the first byte from `offset` on that is neither space nor comment, or the script's length.
unfoldable pub skip : List ℕ → ℕ → ℕ
skip script offset = offset + blanks (drop offset script)

-- What reads on in a brace group: given the group's object, the offset of its opening brace, how many groups may still be opened inside, the
-- offset, the elements read so far, the last first, and the machine.
abbrev pub Reader : Type 0
Reader = ℕ → ℕ → ℕ → ℕ → List Value → Machine → Lexing Taken

-- What a group makes has the mark for read only from the start (02, W7): the group's own object, which is made at its opening brace, so that objects are
-- numbered in the order of their first bytes,
unfoldable pub opened : Machine → Machine
opened m = protect (made m) (make (elements []) m)

-- and a string in it. Its strings and inner groups are made once, with it (R36).
unfoldable pub enclosed : List ℕ → Machine → Machine
enclosed bs m = protect (made m) (make (text bs) m)

-- It has its elements at the closing brace.
unfoldable pub closed : ℕ → List Value → Machine → ℕ → Lexing Taken
closed i vs m after = taken (array true i) (change i (elements (reverse vs)) m) after

-- A token of a brace group, from `start` to `after`: one element more, an inner group and what follows it, or the group's end. Every name takes a slot (R34)
-- and none is executed (R35); the first fault from the left wins (R31). An unclosed brace is the innermost one that is open (02, W4).
unfoldable pub element : Reader → ℕ → ℕ → ℕ → ℕ → ℕ → List Value → Machine → Token → Lexing Taken
element rest i brace depth start after vs m (Token.integer w) = rest i brace depth after (integer w ∷ vs) m
element rest i brace depth start after vs m (Token.string bs) = rest i brace depth after (string (made m) ∷ vs) (enclosed bs m)
element rest i brace depth start after vs m (Token.name x n) = rest i brace depth after (name x n ∷ vs) (intern n m)
element rest i brace zero start after vs m Token.open_brace = fault OverLimit
element rest i brace (suc d) start after vs m Token.open_brace = do
  t ← rest (made m) start d after [] (opened m)
  rest i brace (suc d) t.after (t.value ∷ vs) t.machine
element rest i brace depth start after vs m Token.close_brace = closed i vs m after
element rest i brace depth start after vs m Token.end = fault (BadBrace brace)

-- The rest of a brace group. `fuel` bounds the tokens read; `GroupLaws` proves that it is never spent.
unfoldable pub group : List ℕ → ℕ → Reader
group script zero i brace depth offset vs m = fault (BadBrace brace)
group script (suc fuel) i brace depth offset vs m = do
  let start = skip script offset
  l ← lex start (drop start script)
  element (group script fuel) i brace depth start (start + l.size) vs m l.token

-- A token of the script outside braces, from `start` to `after`. Braces nest at most 16 deep (R31). The clause of the end is never met: a run is finished there.
unfoldable pub token_value : List ℕ → Machine → ℕ → ℕ → Token → Lexing Taken
token_value script m start after (Token.integer w) = taken (integer w) m after
token_value script m start after (Token.string bs) = taken (string (made m)) (make (text bs) m) after
token_value script m start after (Token.name true n) = taken (name true n) m after
token_value script m start after (Token.name false n) = taken (name false n) (intern n m) after
token_value script m start after Token.open_brace = group script (length script) (made m) start 15 after [] (opened m)
token_value script m start after Token.close_brace = fault (BadBrace start)
token_value script m start after Token.end = fault (BadBrace start)

-- The value of the token at `start`, which is neither space nor comment.
unfoldable pub take_token : List ℕ → ℕ → Machine → Lexing Taken
take_token script start m = do
  l ← lex start (drop start script)
  token_value script m start (start + l.size) l.token

-- Opens every definition of this file.
unfoldable pub grouping : Unit {0}
unfolding taken skip opened enclosed closed element group token_value take_token
grouping = tt
