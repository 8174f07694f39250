-- A token takes at least one byte, unless it is the end, a brace just one, and none more bytes than there are. A word has at most 31.
-- Assumes nothing.
use Rattle.std.specs.Prelude.{refl, Bool, true, false, not, cond, List, [], ◌∷◌, ℕ, suc, ◌-◌, ◌^◌, ◌≤◌, ◌<◌, ℤ, pos, negsuc, neg_ℤ, length, take, drop, T, eqb}
use Rattle.std.proofs.Common.{mod-lt, arith, length-drop, length-take-le, leb→le}
use Rattle.semantics.specs.Words as words
use Rattle.semantics.specs.Tokens.{starts_number}
use Rattle.semantics.specs.ResultLaws.{choose}
use Rattle.semantics.specs.Values.{ok, ◌>>=◌}
use Rattle.forf_semantics.specs.Tokens.{is_end, Class, run_byte, open_brace, close_brace, other, class_of, is_blank, comment_after, blanks_in, blanks, run, magnitude, up_to, is_negative, number, Token, Lexeme, lexeme, word_of, run_token, lex_as, lex}
use Rattle.forf_semantics.specs.Items.{skip}
use Rattle.semantics.specs.ResultLaws.{Gives, gives, fails, gives_then, gives_any, gives_check}
use Rattle.forf_semantics.specs.TokenLaws.{Within, OneOf, Fits}

-- ---- space, comments and runs

blanks_in_le : (inComment : Bool) (s : List ℕ) → blanks_in inComment s ≤ length s
unfolding blanks_in
blanks_in_le inComment [] = omega arith
blanks_in_le inComment (b ∷ s) =
    choose (λ n. n ≤ suc (length s)) (is_blank inComment b s) (suc (blanks_in (comment_after inComment b) s)) 0
    (λ t. omega (arith, blanks_in_le (comment_after inComment b) s))
    (λ t. omega arith)

pub skip_le : (script : List ℕ) (offset : ℕ) → offset ≤ length script → (offset ≤ skip script offset) × (skip script offset ≤ length script)
unfolding skip blanks
skip_le script offset h = (omega arith, omega (arith, blanks_in_le false (drop offset script), length-drop offset script))

pub run_le : (s : List ℕ) → run s ≤ length s
unfolding run
run_le [] = omega arith
run_le (b ∷ s) = choose (λ n. n ≤ suc (length s)) (is_end b) 0 (suc (run s)) (λ t. omega arith) (λ t. omega (arith, run_le s))

run_length : (s : List ℕ) → length (take (run s) s) ≤ length s
run_length s = omega (arith, length-take-le (run s) s (run_le s), run_le s)

one_byte : (n : ℕ) → OneOf (suc n) 1
one_byte n = (omega arith, refl)

-- What the class of a run has ends no token.
abbrev is_run : Class → Bool
is_run run_byte = true
is_run open_brace = false
is_run close_brace = false
is_run other = false

class_run : (b : ℕ) → T (is_run (class_of b)) → T (not (is_end b))
unfolding class_of
class_run b = by (not (is_end b)) (eqb b 123) (eqb b 125)
  where
    by : (n o c : Bool) → T (is_run (cond n run_byte (cond o open_brace (cond c close_brace other)))) → T n
    by true o c h = tt
    by false true c h = h
    by false false true h = h
    by false false false h = h

-- Every integer has 32 bits.
pub word_below : (z : ℤ) → words.word z < 2 ^ 32
unfolding words.word
word_below (pos n) = mod-lt n (omega arith)
word_below (negsuc n) = omega arith

number_below : (s : List ℕ) → Gives (λ w. w < 2 ^ 32) (number s)
unfolding number up_to
number_below s =
    choose (Gives (λ w. w < 2 ^ 32)) (is_negative s) (magnitude (drop 1 s) >>= λ n. up_to (2 ^ 31) n >>= λ m. ok (words.word (neg_ℤ (pos m)))) (magnitude s >>= up_to (2 ^ 31 - 1))
    (λ t. gives_then (gives_any _) (λ n u. gives_then (gives_any _) (λ m v. gives (word_below (neg_ℤ (pos m))))))
    (λ t. gives_then (gives_any _)
    (λ n u. gives_then (gives_check _ _)
    (λ c v.
    let k : n ≤ 2 ^ 31 - 1 = leb→le _ _ v in
    let l : n < 2 ^ 32 = omega arith in
    gives l)))

run_token_lem : (bs : List ℕ) (n size : ℕ) → Within n size → Gives (λ t. Fits n t size) (run_token bs)
unfolding run_token word_of
run_token_lem bs n size h =
    choose (Gives (λ t. Fits n t size)) (starts_number bs) (number bs >>= λ w. ok (Token.integer w)) (word_of bs)
    (λ t. gives_then (number_below bs) (λ w u. gives (h.0, h.1, u)))
    (λ t. gives_then (gives_check _ _) (λ v u. gives (h.0, h.1, leb→le _ _ u)))

run_first : (b : ℕ) (s : List ℕ) → T (not (is_end b)) → 1 ≤ length (take (run (b ∷ s)) (b ∷ s))
unfolding run
run_first b s h = by (is_end b) h
  where
    by : (t : Bool) → T (not t) → 1 ≤ length (take (elim t [ true ↦ 0 | false ↦ suc (run s) ]) (b ∷ s))
    by true u = absurd u
    by false u = omega arith

lex_as_fits : (k : Class) (b : ℕ) (s : List ℕ)
    → (T (is_run k) → T (not (is_end b)))
    → Gives (λ l. Fits (suc (length s)) l.token l.size) (lex_as k b s)
unfolding lex_as lexeme
lex_as_fits run_byte b s h =
    gives_then (run_token_lem (take (run (b ∷ s)) (b ∷ s)) _ _ (run_first b s (h tt), run_length (b ∷ s))) (λ t f. gives f)
lex_as_fits open_brace b s h = gives (one_byte (length s))
lex_as_fits close_brace b s h = gives (one_byte (length s))
lex_as_fits other b s h = fails

pub lex_fits : (s : List ℕ) → Gives (λ (l : Lexeme). Fits (length s) l.token l.size) (lex s)
unfolding lex lexeme
lex_fits [] = gives refl
lex_fits (b ∷ s) = lex_as_fits (class_of b) b s (class_run b)

-- The next token of a script, at `start`, fits what is left.
pub token_fits : (script : List ℕ) (start : ℕ) → Gives (λ (l : Lexeme). Fits (length script - start) l.token l.size) (lex (drop start script))
token_fits script start = rw (length-drop start script) at (lex_fits (drop start script))
