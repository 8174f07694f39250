-- A token takes at least one byte, unless it is the end, and never more bytes than there are.
-- Assumes nothing.
use Rattle.std.specs.Prelude.{refl, Bool, true, false, ◌||◌, cond, List, [], ◌∷◌, ℕ, suc, ◌+◌, ◌≤◌, length, take, drop, T, eqb}
use Rattle.std.proofs.Common.{arith, length-drop, length-take-le}
use Rattle.semantics.specs.Values.{ok, fault, ◌>>=◌}
use Rattle.semantics.specs.Tokens.{Lexing, is_digit, is_name_byte, Class, name_byte, bracket, open_brace, close_brace, quote, slash, other, class_of, is_blank, comment_after, blanks_in, blanks, run, starts_number, number, Met, nothing, Act, byte, go, close, cut, bad, act, Quoted, quoted_on, quoted, Token, Lexeme, lexeme, name_of, run_token, signs, slash_token, lex_as, lex}
use Rattle.semantics.specs.Groups.{skip}
use Rattle.semantics.specs.declared.Fault.TheVariants.{BadByte}
use Rattle.semantics.specs.ResultLaws.{choose, Gives, gives, fails, gives_then, gives_any}
use Rattle.semantics.specs.TokenLaws.{Within, Fits}

-- ---- space, comment and runs of name bytes

blanks_in_le : (inComment : Bool) (s : List ℕ) → blanks_in inComment s ≤ length s
unfolding blanks_in
blanks_in_le inComment [] = omega arith
blanks_in_le inComment (b ∷ s) =
    choose (λ n. n ≤ suc (length s)) (is_blank inComment b) (suc (blanks_in (comment_after inComment b) s)) 0
    (λ t. omega (arith, blanks_in_le (comment_after inComment b) s))
    (λ t. omega arith)

pub skip_le : (script : List ℕ) (offset : ℕ) → offset ≤ length script → (offset ≤ skip script offset) × (skip script offset ≤ length script)
unfolding skip blanks
skip_le script offset h = (omega arith, omega (arith, blanks_in_le false (drop offset script), length-drop offset script))

pub run_le : (s : List ℕ) → run s ≤ length s
unfolding run
run_le [] = omega arith
run_le (b ∷ s) = choose (λ n. n ≤ suc (length s)) (is_name_byte b) (suc (run s)) 0 (λ t. omega (arith, run_le s)) (λ t. omega arith)

pub run_length : (s : List ℕ) → length (take (run s) s) ≤ length s
run_length s = omega (arith, length-take-le (run s) s (run_le s), run_le s)

-- Of a run that starts as a number does, its minus sign at most could begin a name.
pub signs_le : (n : List ℕ) → (signs n ≤ 1) × (signs n ≤ length n)
unfolding signs
signs_le [] = (omega arith, omega arith)
signs_le (b ∷ s) = by (is_digit b)
  where
    by : (t : Bool) → (cond {A = ℕ} t 0 1 ≤ 1) × (cond {A = ℕ} t 0 1 ≤ suc (length s))
    by true = (omega arith, omega arith)
    by false = (omega arith, omega arith)

one_more : {n size : ℕ} → Within n size → Within (suc n) (suc size)
one_more h = (omega arith, omega arith)

one_byte : (n : ℕ) → Within (suc n) 1
one_byte n = (omega arith, omega arith)

quoted_on_size : (start at : ℕ) (rest : Met → Lexing Quoted) (n : ℕ)
    → ((next : Met) → Gives (λ (q : Quoted). Within n q.taken) (rest next))
    → (a : Act)
    → Gives (λ (q : Quoted). Within (suc n) q.taken) (quoted_on start at rest a)
unfolding quoted_on
quoted_on_size start at rest n f (byte c) = gives_then (f nothing) (λ q h. gives (one_more h))
quoted_on_size start at rest n f (go next) = gives_then (f next) (λ q h. gives (one_more h))
quoted_on_size start at rest n f close = gives (one_byte n)
quoted_on_size start at rest n f cut = fails
quoted_on_size start at rest n f bad = fails

quoted_size : (start at : ℕ) (met : Met) (s : List ℕ) → Gives (λ (q : Quoted). Within (length s) q.taken) (quoted start at met s)
unfolding quoted
quoted_size start at met [] = fails
quoted_size start at met (b ∷ s) =
    quoted_on_size start at (λ next. quoted start (suc at) next s) (length s) (λ next. quoted_size start (suc at) next s) (act met b)

-- What the class of name bytes has is a name byte.
abbrev is_name : Class → Bool
is_name name_byte = true
is_name bracket = false
is_name open_brace = false
is_name close_brace = false
is_name quote = false
is_name slash = false
is_name other = false

class_name : (b : ℕ) → T (is_name (class_of b)) → T (is_name_byte b)
unfolding class_of
class_name b = by (is_name_byte b) (eqb b 91 || eqb b 93) (eqb b 123) (eqb b 125) (eqb b 34) (eqb b 47)
  where
    by : (n k o c q s : Bool)
        → T (is_name (cond n name_byte (cond k bracket (cond o open_brace (cond c close_brace (cond q quote (cond s slash other)))))))
        → T n
    by true k o c q s h = tt
    by false true o c q s h = h
    by false false true c q s h = h
    by false false false true q s h = h
    by false false false false true s h = h
    by false false false false false true h = h
    by false false false false false false h = h

run_token_lem : (at : ℕ) (bs : List ℕ) (n size : ℕ) → Within n size → Gives (λ t. Fits n t size) (run_token at bs)
unfolding run_token name_of
run_token_lem at bs n size h =
    choose (Gives (λ t. Fits n t size)) (starts_number bs) (number at bs >>= λ w. ok (Token.integer w)) (name_of true bs)
    (λ t. gives_then (gives_any _) (λ w u. gives h))
    (λ t. gives_then (gives_any _) (λ v u. gives h))

slash_token_lem : (at : ℕ) (bs : List ℕ) (n size : ℕ) → Within n size → Gives (λ t. Fits n t size) (slash_token at bs)
unfolding slash_token name_of
slash_token_lem at bs n size h =
    choose (Gives (λ t. Fits n t size)) (eqb (length bs) 0 || starts_number bs) (fault (BadByte (at + signs bs))) (name_of false bs)
    (λ t. fails)
    (λ t. gives_then (gives_any _) (λ v u. gives h))

run_first : (b : ℕ) (s : List ℕ) → T (is_name_byte b) → 1 ≤ length (take (run (b ∷ s)) (b ∷ s))
unfolding run
run_first b s h = by (is_name_byte b) h
  where
    by : (t : Bool) → T t → 1 ≤ length (take (elim t [ true ↦ suc (run s) | false ↦ 0 ]) (b ∷ s))
    by true u = omega arith
    by false u = absurd u

lex_as_fits : (k : Class) (at b : ℕ) (s : List ℕ)
    → (T (is_name k) → T (is_name_byte b))
    → Gives (λ l. Fits (suc (length s)) l.token l.size) (lex_as k at b s)
unfolding lex_as lexeme
lex_as_fits name_byte at b s h =
    gives_then (run_token_lem at (take (run (b ∷ s)) (b ∷ s)) _ _ (run_first b s (h tt), run_length (b ∷ s))) (λ t f. gives f)
lex_as_fits bracket at b s h = gives (one_byte (length s))
lex_as_fits open_brace at b s h = gives (one_byte (length s))
lex_as_fits close_brace at b s h = gives (one_byte (length s))
lex_as_fits quote at b s h = gives_then (quoted_size at (suc at) nothing s) (λ q f. gives (one_more f))
lex_as_fits slash at b s h =
    gives_then (slash_token_lem (suc at) (take (run s) s) _ _ (omega arith, omega (arith, run_length s))) (λ t f. gives f)
lex_as_fits other at b s h = fails

pub lex_fits : (at : ℕ) (s : List ℕ) → Gives (λ (l : Lexeme). Fits (length s) l.token l.size) (lex at s)
unfolding lex lexeme
lex_fits at [] = gives refl
lex_fits at (b ∷ s) = lex_as_fits (class_of b) at b s (class_name b)
