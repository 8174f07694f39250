-- All that can be wrong with a token or a group is a syntaxerror: so it cannot be seen which fault of a group is met first.
-- Assumes nothing.
use Rattle.std.specs.Prelude.{Bool, true, false, List, [], ◌∷◌, ℕ, zero, suc, ◌-◌, ◌^◌, pos, neg_ℤ, length, drop}
use Rattle.semantics.specs.Words as words
use Rattle.semantics.specs.Tokens.{Lexing, digits, starts_number}
use Rattle.semantics.specs.ResultLaws.{choose}
use Rattle.semantics.specs.Values.{ok, fault, ◌>>=◌, check}
use Rattle.forf_semantics.specs.Errors.{Result}
use Rattle.forf_semantics.specs.Tokens.{Class, run_byte, open_brace, close_brace, other, class_of, Form, hexadecimal, octal, plain, form_of, numeral, magnitude, up_to, is_negative, number, Token, lexeme, word_of, run_token, lex_as, lex}
use Rattle.forf_semantics.specs.Items.{Reader, onto, element, read_group, group_at, taken, token_item, take_token}
use Rattle.forf_semantics.specs.declared.Error.TheVariants.{SyntaxError}
use Rattle.forf_semantics.specs.FaultLaws.{Syntax, fine, bad}

syntax_then : {A B : Type 0} {r : Result A} {f : A → Result B} → Syntax r → ((a : A) → Syntax (f a)) → Syntax (r >>= f)
unfolding ◌>>=◌
syntax_then (fine {a = a}) g = g a
syntax_then bad g = bad

syntax_check : (b : Bool) → Syntax (check b SyntaxError)
unfolding check
syntax_check true = fine
syntax_check false = bad

-- ---- tokens

numeral_syntax : (r : Lexing ℕ) → Syntax (numeral r)
unfolding numeral
numeral_syntax (ok n) = fine
numeral_syntax (fault e) = bad

magnitude_syntax : (s : List ℕ) → Syntax (magnitude s)
unfolding magnitude
magnitude_syntax s = by (form_of s)
  where
    by : (f : Form)
        → Syntax {A = ℕ} (elim f [
          | hexadecimal ↦ numeral (digits 16 0 (drop 2 s))
          | octal ↦ numeral (digits 8 0 (drop 1 s))
          | plain ↦ numeral (digits 10 0 s)
        ])
    by hexadecimal = numeral_syntax _
    by octal = numeral_syntax _
    by plain = numeral_syntax _

up_to_syntax : (limit n : ℕ) → Syntax (up_to limit n)
unfolding up_to
up_to_syntax limit n = syntax_then (syntax_check _) (λ u. fine)

number_syntax : (s : List ℕ) → Syntax (number s)
unfolding number
number_syntax s =
    choose Syntax (is_negative s) (magnitude (drop 1 s) >>= λ n. up_to (2 ^ 31) n >>= λ m. ok (words.word (neg_ℤ (pos m)))) (magnitude s >>= up_to (2 ^ 31 - 1))
    (λ t. syntax_then (magnitude_syntax (drop 1 s)) (λ n. syntax_then (up_to_syntax (2 ^ 31) n) (λ m. fine)))
    (λ t. syntax_then (magnitude_syntax s) (up_to_syntax (2 ^ 31 - 1)))

run_token_syntax : (n : List ℕ) → Syntax (run_token n)
unfolding run_token word_of
run_token_syntax n =
    choose Syntax (starts_number n) (number n >>= λ w. ok (Token.integer w)) (word_of n)
    (λ t. syntax_then (number_syntax n) (λ w. fine))
    (λ t. syntax_then (syntax_check _) (λ u. fine))

lex_as_syntax : (k : Class) (b : ℕ) (s : List ℕ) → Syntax (lex_as k b s)
unfolding lex_as lexeme
lex_as_syntax run_byte b s = syntax_then (run_token_syntax _) (λ t. fine)
lex_as_syntax open_brace b s = fine
lex_as_syntax close_brace b s = fine
lex_as_syntax other b s = bad

pub lex_syntax : (s : List ℕ) → Syntax (lex s)
unfolding lex lexeme
lex_syntax [] = fine
lex_syntax (b ∷ s) = lex_as_syntax (class_of b) b s

-- ---- groups

element_syntax : (rest : Reader) → ((depth offset : ℕ) → Syntax (rest depth offset)) → (depth after : ℕ) (t : Token) → Syntax (element rest depth after t)
unfolding element onto
element_syntax rest f depth after (Token.integer w) = syntax_then (f depth after) (λ g. fine)
element_syntax rest f depth after (Token.word n) = syntax_then (f depth after) (λ g. fine)
element_syntax rest f zero after Token.open_brace = bad
element_syntax rest f (suc d) after Token.open_brace = syntax_then (f d after) (λ i. syntax_then (f (suc d) i.after) (λ g. fine))
element_syntax rest f depth after Token.close_brace = fine
element_syntax rest f depth after Token.end = bad

pub group_syntax : (script : List ℕ) (fuel depth offset : ℕ) → Syntax (read_group script fuel depth offset)
unfolding read_group
group_syntax script zero depth offset = bad
group_syntax script (suc fuel) depth offset =
    syntax_then (lex_syntax _) (λ l. element_syntax (read_group script fuel) (group_syntax script fuel) depth _ l.token)

token_item_syntax : (script : List ℕ) (after : ℕ) (t : Token) → Syntax (token_item script after t)
unfolding token_item taken group_at
token_item_syntax script after (Token.integer w) = fine
token_item_syntax script after (Token.word n) = fine
token_item_syntax script after Token.open_brace = syntax_then (group_syntax script (length script) 15 after) (λ g. fine)
token_item_syntax script after Token.close_brace = bad
token_item_syntax script after Token.end = bad

pub take_token_syntax : (script : List ℕ) (start : ℕ) → Syntax (take_token script start)
unfolding take_token
take_token_syntax script start = syntax_then (lex_syntax _) (λ l. token_item_syntax script _ l.token)
