-- The public reading: each answer of the code is the definition's, and the part lies inside the script.
-- Assumes nothing.
use mathlib.Core.Path.{◌≡◌, refl, sym, ap, ◌∙◌}
use mathlib.Core.List.{List, []}
use Prim.Native.Nat.{ℕ, ◌+◌, ◌-◌, ◌≤◌, ◌<◌}
use native.Mathlib.Nat.{add-sub_cancel_left}
use native.Mathlib.Omega.{arith}
use lib.ListN.{length, take, drop}
use borrow.Author.Tests.{lt-ltb, le-ltb}
use Rattle.semantics.specs.Sizes.{script_most}
use Rattle.semantics.specs.Values.{fault}
use Rattle.semantics.specs.Setup.{is_too_long}
use Rattle.forf_semantics.specs.Tokens.{lex, lexeme}
use Rattle.forf_semantics.specs.Tokens as tokens
use Rattle.forf_semantics.specs.Items.{skip}
use Rattle.forf_semantics.specs.Setup.{reading, kind_of, reading_of}
use Rattle.forf_semantics.specs.Setup as setup
use Rattle.forf_semantics.specs.declared.Error.TheVariants.{SyntaxError}
use Rattle.forf_token.specs.declared.SyntaxError.{SyntaxError as Bad}
use Rattle.forf_semantics.specs.declared.Kind.{Kind}
use Rattle.forf_token.specs.Lexing.{Lexes}
use Rattle.forf_token.specs.Reading.{LocatedAt, owned_by, answer_of, answer, located_is, part_of}
use Rattle.forf_token.specs.declared.Token.{Token}
use Rattle.forf_token.specs.declared.Token.TheVariants.{Integer, Word, OpenBrace, CloseBrace, End}
use Rattle.std.specs.Prelude.{Ok, Err}
use Rattle.token.specs.declared.Refused.{Refused}
use Rattle.token.specs.declared.Refused.TheVariants.{TooLong, PastEnd, Faulty}
use Rattle.token.specs.declared.Located.{Located}

-- ---- refusals

pub too_long : {script : List ℕ} {offset : ℕ} → script_most < length script → LocatedAt script offset (Err TooLong)
unfolding reading is_too_long
too_long {script} {offset} h = record { is = rw (lt-ltb script_most (length script) h, reading); inside = tt }

pub past_end : {script : List ℕ} {offset : ℕ} → length script ≤ script_most → length script < offset → LocatedAt script offset (Err PastEnd)
unfolding reading is_too_long
past_end {script} {offset} h k = record { is = rw (le-ltb script_most (length script) h, reading, lt-ltb (length script) offset k); inside = tt }

-- ---- tokens

same_reading : (k : Kind) {a a' b b' c c' : ℕ} → a ≡ a' → b ≡ b' → c ≡ c' → setup.read k a b c ≡ setup.read k a' b' c'
same_reading k p q r = cc

-- The place where a token is looked for.
pub record Begun (script : List ℕ) (offset start : ℕ) : Type 0 where
  pub short : length script ≤ script_most
  pub known : offset ≤ length script
  pub begins : start ≡ skip script offset

module _ {script : List ℕ} {offset start : ℕ} (B : Begun script offset start) where
  pub located_fault : {e : Bad} → lex (drop start script) ≡ fault SyntaxError → LocatedAt script offset (Err (Faulty e))
  unfolding reading is_too_long
  located_fault g =
      record {
        is = rw (le-ltb script_most (length script) B.short, reading, le-ltb (length script) offset B.known, sym B.begins, g);
        inside = tt;
      }

  answers_token : (t : tokens.Token) (n : ℕ) → lex (drop start script) ≡ lexeme t n
      → reading_of start (record { token = t; size = n }) ≡ reading script offset
  unfolding reading is_too_long lexeme
  answers_token t n g =
      rw (B.begins, le-ltb script_most (length script) B.short, reading, le-ltb (length script) offset B.known, rw B.begins at g)

  token_is : (next : ℕ) (t : Token) → Lexes script start t next → located_is (Ok (owned_by start next t)) ≡ reading script offset
  unfolding reading_of kind_of
  token_is next (Integer w) T = let p = T.later in same_reading _ (omega arith) refl refl ∙ answers_token _ _ T.lexes
  token_is next Word T = let p = T.later in same_reading _ (omega arith) refl refl ∙ answers_token _ _ T.lexes
  token_is next OpenBrace T = let p = T.later in same_reading _ (omega arith) refl refl ∙ answers_token _ _ T.lexes
  token_is next CloseBrace T = let p = T.later in same_reading _ (omega arith) refl refl ∙ answers_token _ _ T.lexes
  token_is next End T = let p = T.later in same_reading _ (omega arith) refl refl ∙ answers_token _ _ T.lexes

  pub located_token : (next : ℕ) (t : Token) (r : Located Kind) → Lexes script start t next → r ≡ owned_by start next t → LocatedAt script offset (Ok r)
  located_token next t r T e = rw e (record { is = token_is next t T; inside = let p = T.later in let i = T.inside in omega arith })
