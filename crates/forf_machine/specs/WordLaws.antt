-- The words are all that the definition's table has: whatever number is asked for, an argument of `perform_word` does what the number does.
-- Assumes nothing.
use Rattle.std.specs.Prelude.{◌≡◌, refl, List, [], ◌∷◌, map, ℕ, zero, suc, get_or, Option, Some, None}
use Rattle.forf_semantics.specs.Operators.{◌is◌, table}
use Rattle.forf_machine.specs.declared.titles.Word.{Word}
use Rattle.forf_machine.specs.declared.titles.Word.TheVariants as word
use Rattle.forf_machine.specs.Titles.{number_of, place_of, undefined, action_at}

words : List Word
words =
    word.Not ∷ word.IsZero ∷ word.Abs ∷ word.Add ∷ word.Sub ∷ word.Mul ∷ word.Div ∷ word.Rem ∷ word.And ∷ word.Or ∷ word.Xor ∷ word.Left ∷ word.Right
    ∷ word.Gt ∷ word.Ge ∷ word.Lt ∷ word.Le ∷ word.Eq ∷ word.Ne ∷ word.If ∷ word.Ifelse ∷ word.Pop ∷ word.Dup ∷ word.Exch ∷ word.Mset ∷ word.Mget ∷ []

among : (ws : List Word) (k : ℕ) → (o : Option Word) × (get_or (map (λ w. action_at (number_of w)) ws) k undefined ≡ action_at (place_of o))
unfolding action_at table
among [] k = (None, refl)
among (w ∷ ws) zero = (Some w, refl)
among (w ∷ ws) (suc k) = among ws k

pub every_number : (k : ℕ) → (o : Option Word) × (action_at k ≡ action_at (place_of o))
unfolding action_at table ◌is◌ words
every_number k = among words k
