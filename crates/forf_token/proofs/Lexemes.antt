-- Tokens: what a brace, a parenthesis, a run and the end are to the definition's `lex`.
-- Assumes nothing.
use mathlib.Core.Path.{◌≡◌, refl, sym, ap, ◌∙◌}
use mathlib.Core.Bool.{Bool, true, false}
use mathlib.Core.List.{List, ◌∷◌}
use Prim.Native.Nat.{ℕ, suc, ◌+◌, ◌-◌, ◌≤◌, ◌<◌}
use native.Mathlib.Omega.{arith}
use lib.ListN.{length, take, drop, get_or, drop_of_length-le, length-drop}
use lib.Seq.{drop-cons, length-take-le}
use borrow.Author.Tests.{le-leb, lt-leb, ne_eqb}
use Rattle.semantics.specs.Sizes.{name_most, script_most}
use Rattle.semantics.specs.Values.{ok, fault, ◌>>=◌, check}
use Rattle.semantics.specs.Tokens.{starts_number}
use Rattle.std.specs.Prelude.{Ok}
use Rattle.forf_semantics.specs.Tokens.{Class, run_byte, open_brace, close_brace, other, is_end, class_of, run, lexeme, word_of, run_token, lex_as, lex}
use Rattle.forf_semantics.specs.Tokens as tokens
use Rattle.forf_semantics.specs.declared.Error.TheVariants.{SyntaxError}
use Rattle.forf_token.specs.Lexing.{read_number, Lexes, RunAt}
use Rattle.forf_token.specs.declared.Token.TheVariants.{Integer, Word, OpenBrace, CloseBrace, End}

-- ---- by the first byte

one : (n : ℕ) → n + 1 - n ≡ 1
one n = omega arith

run_class : (b : ℕ) → is_end b ≡ false → class_of b ≡ run_byte
unfolding class_of
run_class b e = rw e refl

module _ (script : List ℕ) (start : ℕ) (inside : start < length script) where
  lex_as_lem : (class : Class) → class_of (get_or script start 0) ≡ class → lex (drop start script) ≡ lex_as class (get_or script start 0) (drop (suc start) script)
  unfolding lex
  lex_as_lem class e = rw (drop-cons script start 0 inside, e) refl

  -- The byte ends a token, so it is what it is by itself.
  module _ (t : Bool) (is : t ≡ is_end (get_or script start 0)) (ends : t ≡ true) where
    pub open_token : get_or script start 0 ≡ 123 → Lexes script start OpenBrace (start + 1)
    unfolding lex_as class_of
    open_token e = record {
      lexes = lex_as_lem open_brace (ap class_of e) ∙ rw (one start) refl;
      later = omega arith;
      inside = omega arith;
    }

    pub close_token : get_or script start 0 ≡ 125 → Lexes script start CloseBrace (start + 1)
    unfolding lex_as class_of
    close_token e = record {
      lexes = lex_as_lem close_brace (ap class_of e) ∙ rw (one start) refl;
      later = omega arith;
      inside = omega arith;
    }

    pub other_fault : (get_or script start 0 ≡ 123 → ⊥) → (get_or script start 0 ≡ 125 → ⊥) → lex (drop start script) ≡ fault SyntaxError
    unfolding lex_as class_of
    other_fault n m = lex_as_lem other (rw (sym is ∙ ends, ne_eqb (get_or script start 0) 123 n, ne_eqb (get_or script start 0) 125 m) refl)

pub end_token : (script : List ℕ) (start : ℕ) → start ≤ length script → length script ≤ start → Lexes script start End start
unfolding lex
end_token script start h k = record { lexes = rw (drop_of_length-le script k, zero_left start) refl; later = omega arith; inside = h }
  where
    zero_left : (n : ℕ) → n - n ≡ 0
    zero_left n = omega arith

-- ---- a run, from its first byte to its end

-- The bytes of a script from a to e.
abbrev between : List ℕ → ℕ → ℕ → List ℕ
between script a e = take (e - a) (drop a script)

-- A run as a token: a number, its fault, a word, one that is too long.
module _ (n : List ℕ) (t : Bool) (is : t ≡ starts_number n) where
  run_number : t ≡ true → (w : ℕ) → tokens.number n ≡ ok w → run_token n ≡ ok (tokens.integer w)
  unfolding run_token ◌>>=◌
  run_number f w g = rw (sym is ∙ f, run_token, g)

  run_fault : t ≡ true → tokens.number n ≡ fault SyntaxError → run_token n ≡ fault SyntaxError
  unfolding run_token ◌>>=◌
  run_fault f g = rw (sym is ∙ f, run_token, g)

  run_word : t ≡ false → length n ≤ name_most → run_token n ≡ ok (tokens.word n)
  unfolding run_token word_of check ◌>>=◌
  run_word f h = rw (sym is ∙ f, run_token, le-leb (length n) name_most h)

  run_long : t ≡ false → name_most < length n → run_token n ≡ fault SyntaxError
  unfolding run_token word_of check ◌>>=◌
  run_long f h = rw (sym is ∙ f, run_token, lt-leb (length n) name_most h)

run_list : (b : ℕ) (s : List ℕ) (k : ℕ) → run (b ∷ s) ≡ k → k ≤ length (b ∷ s) → lex_as run_byte b s ≡ (run_token (take k (b ∷ s)) >>= λ t. lexeme t k)
unfolding lex_as
run_list b s k e h = rw (e, length-take-le k (b ∷ s) h)

module _ {script : List ℕ} {start end : ℕ} (R : RunAt script start) (e : end ≡ start + run (drop start script)) (h : end ≤ length script) where
  first : drop start script ≡ get_or script start 0 ∷ drop (suc start) script
  first = drop-cons script start 0 R.inside

  runs : run (drop start script) ≡ end - start
  runs = omega arith

  left : end - start ≤ length (drop start script)
  left = rw (length-drop start script) (omega arith)

  whole : lex (drop start script) ≡ (run_token (between script start end) >>= λ t. lexeme t (end - start))
  whole =
      lex_as_lem script start R.inside run_byte (run_class (get_or script start 0) R.is)
      ∙ run_list (get_or script start 0) (drop (suc start) script) (end - start) (rw first at runs) (rw first at left)
      ∙ rw first refl

  length_run : length (between script start end) ≡ end - start
  length_run = length-take-le (end - start) (drop start script) left

  module _ (t : Bool) (is : t ≡ starts_number (between script start end)) where
    pub integer_token : t ≡ true → {w : ℕ} → read_number (Ok w) ≡ tokens.number (between script start end) → Lexes script start (Integer w) end
    unfolding ◌>>=◌
    integer_token f {w} g = record {
      lexes = whole ∙ rw (run_number (between script start end) t is f w (sym g)) refl;
      later = omega arith;
      inside = h;
    }

    pub number_fault_lem : t ≡ true → fault SyntaxError ≡ tokens.number (between script start end) → lex (drop start script) ≡ fault SyntaxError
    unfolding ◌>>=◌
    number_fault_lem f g = whole ∙ rw (run_fault (between script start end) t is f (sym g)) refl

    pub word_token : t ≡ false → end - start ≤ name_most → Lexes script start Word end
    unfolding ◌>>=◌
    word_token f k = record {
      lexes = whole ∙ rw (run_word (between script start end) t is f (rw length_run k)) refl;
      later = omega arith;
      inside = h;
    }

    pub word_long : t ≡ false → name_most < end - start → lex (drop start script) ≡ fault SyntaxError
    unfolding ◌>>=◌
    word_long f k = whole ∙ rw (run_long (between script start end) t is f (rw length_run k)) refl
