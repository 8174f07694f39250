-- The first field of a readable text: the text is over, or the field and the rest of its line stand in front, or it is the last of its line.
-- Assumes nothing.
use Rattle.std.specs.Prelude.{◌≡◌, Bool, true, false, ℕ, drop}
use mathlib.Core.List.{List, [], ◌∷◌}
use Rattle.std.proofs.Math.Option.{some}
use Rattle.ledger.specs.Reading.{Mode, fresh, begins, Lines, read_from}
use Rattle.ledger.specs.Pieces.{Close, comma, line, end, over, wrong, piece_from}

abbrev pub is_over : Close → Bool
is_over comma = false
is_over line = false
is_over end = false
is_over over = true
is_over wrong = false

abbrev pub is_comma : Close → Bool
is_comma comma = true
is_comma line = false
is_comma end = false
is_comma over = false
is_comma wrong = false

pub data Front (m : Mode) (s : List ℕ) (ls : Lines) : Type 0 where
  gone : is_over (piece_from m s).close ≡ true → ls ≡ [] → Front m s ls
  goes : {fs : List (List ℕ)} {rest : Lines}
      → is_comma (piece_from m s).close ≡ true
      → read_from begins (drop (piece_from m s).taken s) ≡ some (fs ∷ rest)
      → ls ≡ ((piece_from m s).contents ∷ fs) ∷ rest
      → Front m s ls
  stops : {rest : Lines}
      → is_over (piece_from m s).close ≡ false
      → is_comma (piece_from m s).close ≡ false
      → read_from fresh (drop (piece_from m s).taken s) ≡ some rest
      → ls ≡ ((piece_from m s).contents ∷ []) ∷ rest
      → Front m s ls
