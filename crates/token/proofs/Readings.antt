-- The public reading: each answer of the code is the definition's, and the part lies inside the script.
-- Assumes nothing.
use mathlib.Core.Path.{◌≡◌, refl, sym, ◌∙◌}
use mathlib.Core.List.{List}
use Prim.Native.Nat.{ℕ, ◌≤◌, ◌<◌}
use native.Mathlib.Omega.{arith}
use lib.ListN.{length, drop}
use borrow.Author.Tests.{lt-ltb, le-ltb}
use Rattle.semantics.specs.Sizes.{script_most}
use Rattle.semantics.specs.Values.{fault}
use Rattle.semantics.specs.Tokens.{lex, lexeme}
use Rattle.semantics.specs.Tokens as tokens
use Rattle.semantics.specs.Groups.{skip}
use Rattle.semantics.specs.Setup.{is_too_long, reading, reading_of}
use Rattle.semantics.specs.Setup as setup
use Rattle.semantics.specs.declared.Fault.{Fault}
use Rattle.semantics.specs.declared.Kind.{Kind}
use Rattle.token.specs.Lexing.{TokenAt}
use Rattle.token.specs.Reading.{LocatedAt, Within, owned_by, located_is}
use Rattle.token.specs.declared.Token.{Token}
use Rattle.token.specs.declared.Token.TheVariants.{Integer, String, ExecutableName, LiteralName, OpenBrace, CloseBrace, End}
use Rattle.std.specs.Prelude.{Ok, Err}
use Rattle.token.specs.declared.Refused.TheVariants.{TooLong, PastEnd, Faulty}
use Rattle.token.specs.declared.Located.{Located}

-- ---- refusals

pub too_long : {script : List ℕ} {offset : ℕ} → script_most < length script → LocatedAt script offset (Err TooLong)
unfolding reading is_too_long
too_long {script} {offset} h = record { is = rw (lt-ltb script_most (length script) h, reading); inside = tt }

pub past_end : {script : List ℕ} {offset : ℕ} → length script ≤ script_most → length script < offset → LocatedAt script offset (Err PastEnd)
unfolding reading is_too_long
past_end {script} {offset} h k = record { is = rw (le-ltb script_most (length script) h, reading, lt-ltb (length script) offset k); inside = tt }

-- ---- tokens

same_reading : (k : Kind) {a a' b b' c c' : ℕ} → a ≡ a' → b ≡ b' → c ≡ c' → setup.read k a b c ≡ setup.read k a' b' c'
same_reading k p q r = cc

-- The place where a token is looked for.
pub record Begun (script : List ℕ) (offset start : ℕ) : Type 0 where
  pub short : length script ≤ script_most
  pub known : offset ≤ length script
  pub begins : start ≡ skip script offset

module _ {script : List ℕ} {offset start : ℕ} (B : Begun script offset start) where
  answers_fault : {f : Fault} → lex start (drop start script) ≡ fault f → setup.faulty f ≡ reading script offset
  unfolding reading is_too_long
  answers_fault g = rw (le-ltb script_most (length script) B.short, reading, le-ltb (length script) offset B.known, sym B.begins, g)

  answers_token : (t : tokens.Token) (n : ℕ) → lex start (drop start script) ≡ lexeme t n
      → reading_of start (record { token = t; size = n }) ≡ reading script offset
  unfolding reading is_too_long lexeme
  answers_token t n g =
      rw (B.begins, le-ltb script_most (length script) B.short, reading, le-ltb (length script) offset B.known, rw B.begins at g)

  pub located_fault : {f : Fault} → lex start (drop start script) ≡ fault f → LocatedAt script offset (Err (Faulty f))
  located_fault g = record { is = answers_fault g; inside = tt }

  token_is : (next : ℕ) (t : Token) → TokenAt script start next t → located_is (Ok (owned_by start next t)) ≡ reading script offset
  unfolding reading_of
  token_is next (Integer w) T =
      let p = T.past in
      same_reading _ (omega arith) refl refl ∙ answers_token _ _ T.lexes
  token_is next (String at size) T =
      let p = T.token.past in
      let b = T.begins in
      let q = T.own.past in
      same_reading _ (omega arith) (omega arith) (omega arith) ∙ answers_token _ _ T.token.lexes
  token_is next (ExecutableName at size) T =
      let b = T.begins in
      let e = T.ends in
      same_reading _ (omega arith) (omega arith) (omega arith) ∙ answers_token _ _ T.token.lexes
  token_is next (LiteralName at size) T =
      let b = T.begins in
      let e = T.ends in
      same_reading _ (omega arith) (omega arith) (omega arith) ∙ answers_token _ _ T.token.lexes
  token_is next OpenBrace T =
      let e = T.ends in
      same_reading _ (omega arith) refl refl ∙ answers_token _ _ T.token.lexes
  token_is next CloseBrace T =
      let e = T.ends in
      same_reading _ (omega arith) refl refl ∙ answers_token _ _ T.token.lexes
  token_is next End T =
      let e = T.ends in
      same_reading _ (omega arith) refl refl ∙ answers_token _ _ T.lexes

  token_inside : (next : ℕ) (t : Token) → TokenAt script start next t → Within (length script) (Ok (owned_by start next t))
  token_inside next (Integer w) T = let p = T.past in let i = T.inside in omega arith
  token_inside next (String at size) T = let p = T.own.past in let i = T.own.inside in omega arith
  token_inside next (ExecutableName at size) T = let e = T.ends in let i = T.token.inside in omega arith
  token_inside next (LiteralName at size) T = let e = T.ends in let i = T.token.inside in omega arith
  token_inside next OpenBrace T = let e = T.ends in let i = T.token.inside in omega arith
  token_inside next CloseBrace T = let e = T.ends in let i = T.token.inside in omega arith
  token_inside next End T = let e = T.last in omega arith

  pub located_token : (next : ℕ) (t : Token) (r : Located Kind) → TokenAt script start next t → r ≡ owned_by start next t → LocatedAt script offset (Ok r)
  located_token next t r T e = rw e (record { is = token_is next t T; inside = token_inside next t T })
