-- The words by their numbers, which are their places in the definition's table.
-- Assumes nothing.
use Rattle.std.specs.Prelude.{cond, List, [], ◌∷◌, map, ℕ, zero, suc, ◌+◌, ◌*◌, get_or, eqb}
use Rattle.semantics.specs.Text.{same}
use Rattle.semantics.specs.Values.{fault}
use Rattle.forf_semantics.specs.Operators.{Operator, Entry, table}
use Rattle.forf_semantics.specs.declared.Error.TheVariants.{Undefined}
use Rattle.forf_machine.specs.declared.titles.Word.{Word}
use Rattle.forf_machine.specs.declared.titles.Word.TheVariants as word
use Rattle.std.specs.Prelude.{Option, Some, None}

unfoldable pub titles : List (List ℕ)
titles = map (λ (e : Entry). e.title) table

-- The place of a word in a list of titles, or the list's length.
unfoldable pub place_in : List (List ℕ) → List ℕ → ℕ
place_in [] n = zero
place_in (t ∷ ts) n = cond (same n t) zero (suc (place_in ts n))

-- The number of a word, and the table's length where there is none.
abbrev pub number_of : Word → ℕ
number_of word.Not = 0
number_of word.IsZero = 1
number_of word.Abs = 2
number_of word.Add = 3
number_of word.Sub = 4
number_of word.Mul = 5
number_of word.Div = 6
number_of word.Rem = 7
number_of word.And = 8
number_of word.Or = 9
number_of word.Xor = 10
number_of word.Left = 11
number_of word.Right = 12
number_of word.Gt = 13
number_of word.Ge = 14
number_of word.Lt = 15
number_of word.Le = 16
number_of word.Eq = 17
number_of word.Ne = 18
number_of word.If = 19
number_of word.Ifelse = 20
number_of word.Pop = 21
number_of word.Dup = 22
number_of word.Exch = 23
number_of word.Mset = 24
number_of word.Mget = 25

abbrev pub place_of : Option Word → ℕ
place_of (Some w) = number_of w
place_of None = 26

unfoldable pub undefined : Operator
undefined m = fault Undefined

-- What the word of a number does.
unfoldable pub action_at : ℕ → Operator
action_at k = get_or (map (λ (e : Entry). e.action) table) k undefined

-- ---- keys: the bytes of a word one after another, after a 1

unfoldable pub key_from : ℕ → List ℕ → ℕ
key_from k [] = k
key_from k (b ∷ n) = key_from (k * 256 + b) n

unfoldable pub key_of : List ℕ → ℕ
key_of n = key_from 1 n

unfoldable pub keys : List ℕ
keys = map key_of titles

unfoldable pub key_place : List ℕ → ℕ → ℕ
key_place [] k = zero
key_place (t ∷ ts) k = cond (eqb k t) zero (suc (key_place ts k))
