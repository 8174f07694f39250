-- Tokens: what each class of first byte makes of the bytes from an offset on.
-- Assumes nothing.
use mathlib.Core.Path.{◌≡◌, refl, sym, ap, subst, ◌∙◌}
use mathlib.Core.Bool.{Bool, true, false, cond, ◌||◌}
use mathlib.Core.List.{List, [], ◌∷◌}
use Prim.Native.Nat.{ℕ, suc, ◌+◌, ◌-◌, ◌≤◌, ◌<◌}
use native.Mathlib.Numerals.{add-one}
use native.Mathlib.Omega.{arith}
use lib.Dec.{eqb}
use lib.ListN.{length, take, drop, get_or, drop_of_length-le, length-drop}
use lib.Seq.{drop-cons, length-take-le}
use borrow.Author.Tests.{le-leb, lt-leb, ne_eqb}
use Rattle.semantics.specs.Sizes.{name_most}
use Rattle.semantics.specs.Values.{ok, fault, ◌>>=◌, check}
use Rattle.semantics.specs.Tokens.{is_name_byte, class_of, run, starts_number, signs, number, quoted, lexeme, name_of, run_token, slash_token, lex_as, lex}
use Rattle.semantics.specs.Tokens as tokens
use Rattle.semantics.specs.declared.Fault.{Fault}
use Rattle.semantics.specs.declared.Fault.TheVariants.{BadEscape, OpenString, BadByte, OverLimit}
use Rattle.semantics.proofs.TokenLaws.{run_le}
use Rattle.token.specs.Bytes.{class_is}
use Rattle.token.specs.Numbers.{number_is}
use Rattle.token.specs.Strings.{JudgedAt}
use Rattle.token.specs.Lexing.{ClassAt, Lexes, StringToken, NameToken, BraceToken, EndToken}
use Rattle.token.specs.declared.bytes.Class.{Class}
use Rattle.std.specs.Prelude.{Ok, Err}
use Rattle.token.specs.declared.quoted.StringFault.TheVariants.{Cut, Bad}
use Rattle.token.proofs.Blanks.{run_go}

-- ---- runs of name bytes

place : tokens.Class → ℕ
place tokens.name_byte = 0
place tokens.bracket = 1
place tokens.open_brace = 2
place tokens.close_brace = 3
place tokens.quote = 4
place tokens.slash = 5
place tokens.other = 6

name_byte_lem : (b : ℕ) → class_of b ≡ tokens.name_byte → is_name_byte b ≡ true
unfolding class_of place
name_byte_lem b e =
    by (is_name_byte b)
    (cond (eqb b 91 || eqb b 93) tokens.bracket
    (cond (eqb b 123) tokens.open_brace
    (cond (eqb b 125) tokens.close_brace (cond (eqb b 34) tokens.quote (cond (eqb b 47) tokens.slash tokens.other)))))
    (below (eqb b 91 || eqb b 93) tokens.bracket _ (omega arith)
    (below (eqb b 123) tokens.open_brace _ (omega arith)
    (below (eqb b 125) tokens.close_brace _ (omega arith)
    (below (eqb b 34) tokens.quote _ (omega arith) (below (eqb b 47) tokens.slash tokens.other (omega arith) (omega arith))))))
    e
  where
    below : (t : Bool) (c d : tokens.Class) → 0 < place c → 0 < place d → 0 < place (cond t c d)
    below true c d h k = h
    below false c d h k = k

    by : (t : Bool) (c : tokens.Class) → 0 < place c → cond t tokens.name_byte c ≡ tokens.name_byte → t ≡ true
    by true c h e = refl
    by false c h e = let z : place c ≡ 0 = ap place e in absurd (omega arith)

-- ---- the tokens of a run

module _ (at : ℕ) (n : List ℕ) (t : Bool) (is : t ≡ starts_number n) where
  run_number : t ≡ true → (w : ℕ) → number at n ≡ ok w → run_token at n ≡ ok (tokens.integer w)
  unfolding run_token ◌>>=◌
  run_number f w g = rw (sym is ∙ f, run_token, g)

  run_fault : t ≡ true → (e : Fault) → number at n ≡ fault e → run_token at n ≡ fault e
  unfolding run_token ◌>>=◌
  run_fault f e g = rw (sym is ∙ f, run_token, g)

  run_name : t ≡ false → length n ≤ name_most → run_token at n ≡ ok (tokens.name true n)
  unfolding run_token name_of check ◌>>=◌
  run_name f h = rw (sym is ∙ f, run_token, le-leb (length n) name_most h)

  run_long : t ≡ false → name_most < length n → run_token at n ≡ fault OverLimit
  unfolding run_token name_of check ◌>>=◌
  run_long f h = rw (sym is ∙ f, run_token, lt-leb (length n) name_most h)

  slash_number : (length n ≡ 0 → ⊥) → t ≡ true → slash_token at n ≡ fault (BadByte (at + signs n))
  unfolding slash_token
  slash_number h f = rw (ne_eqb (length n) 0 h, sym is ∙ f, slash_token)

  slash_name : (length n ≡ 0 → ⊥) → t ≡ false → length n ≤ name_most → slash_token at n ≡ ok (tokens.name false n)
  unfolding slash_token name_of check ◌>>=◌
  slash_name h f k = rw (ne_eqb (length n) 0 h, sym is ∙ f, slash_token, le-leb (length n) name_most k)

  slash_long : (length n ≡ 0 → ⊥) → t ≡ false → name_most < length n → slash_token at n ≡ fault OverLimit
  unfolding slash_token name_of check ◌>>=◌
  slash_long h f k = rw (ne_eqb (length n) 0 h, sym is ∙ f, slash_token, lt-leb (length n) name_most k)

slash_none : (at : ℕ) (n : List ℕ) → length n ≡ 0 → slash_token at n ≡ fault (BadByte at)
unfolding slash_token signs
slash_none at [] h = let e : at + 0 ≡ at = omega arith in ap (λ (o : ℕ). fault (BadByte o)) e
slash_none at (b ∷ n) h = absurd (omega arith)

-- ---- a token by its class

one : (n : ℕ) → n + 1 - n ≡ 1
one n = omega arith

-- A byte inside the script is of the class that the code found.
pub of_class : {script : List ℕ} {start : ℕ} {k : Class} → start < length script → class_is k ≡ class_of (get_or script start 0)
    → (found : Class) → k ≡ found → ClassAt script start (class_is found)
of_class h e found f = record { inside = h; is = sym e ∙ ap class_is f }

module _ {script : List ℕ} {start : ℕ} where
  lex_as_lem : {class : tokens.Class} → ClassAt script start class
      → lex start (drop start script) ≡ lex_as class start (get_or script start 0) (drop (suc start) script)
  unfolding lex
  lex_as_lem C = rw (drop-cons script start 0 C.inside, C.is)

  pub end_token : start ≤ length script → length script ≤ start → EndToken script start start
  unfolding lex
  end_token h k = record { lexes = rw (drop_of_length-le script k); ends = refl; last = omega arith }

  pub other_fault : ClassAt script start tokens.other → lex start (drop start script) ≡ fault (BadByte start)
  unfolding lex_as
  other_fault C = lex_as_lem C

  pub bracket_token : ClassAt script start tokens.bracket → NameToken script start true 0 start 1 (start + 1)
  unfolding lex_as
  bracket_token C = record {
    token = record {
      lexes = lex_as_lem C ∙ rw (drop-cons script start 0 C.inside, one start) refl;
      past = omega arith;
      inside = let h = C.inside in omega arith;
    };
    begins = omega arith;
    ends = refl;
    some = omega arith;
    few = omega arith;
  }

  brace : (class : tokens.Class) (t : tokens.Token) → ClassAt script start class
      → lex_as class start (get_or script start 0) (drop (suc start) script) ≡ lexeme t 1 → BraceToken script start t (start + 1)
  brace class t C e = record {
    token = record { lexes = lex_as_lem C ∙ rw (one start) e; past = omega arith; inside = let h = C.inside in omega arith };
    ends = refl;
  }

  pub open_token : ClassAt script start tokens.open_brace → BraceToken script start tokens.open_brace (start + 1)
  unfolding lex_as
  open_token C = brace tokens.open_brace tokens.open_brace C refl

  pub close_token : ClassAt script start tokens.close_brace → BraceToken script start tokens.close_brace (start + 1)
  unfolding lex_as
  close_token C = brace tokens.close_brace tokens.close_brace C refl

-- ---- a run, from its first byte to its end

-- The bytes of a script from a to e.
abbrev between : List ℕ → ℕ → ℕ → List ℕ
between script a e = take (e - a) (drop a script)

word_list : (at b : ℕ) (s : List ℕ) (k : ℕ) → run (b ∷ s) ≡ k → lex_as tokens.name_byte at b s ≡ (run_token at (take k (b ∷ s)) >>= λ t. lexeme t k)
unfolding lex_as
word_list at b s k e = rw (e, length-take-le k (b ∷ s) (rw e at (run_le (b ∷ s))))

slash_list : (at b : ℕ) (s : List ℕ) (k : ℕ) → run s ≡ k → lex_as tokens.slash at b s ≡ (slash_token (suc at) (take k s) >>= λ t. lexeme t (suc k))
unfolding lex_as
slash_list at b s k e = rw (e, length-take-le k s (rw e at (run_le s)))

module _ {script : List ℕ} {start end : ℕ} (C : ClassAt script start tokens.name_byte)
    (e : end ≡ start + run (drop start script)) (h : end ≤ length script) where
  first : drop start script ≡ get_or script start 0 ∷ drop (suc start) script
  first = drop-cons script start 0 C.inside

  runs : run (drop start script) ≡ end - start
  runs = omega arith

  word : lex start (drop start script) ≡ (run_token start (between script start end) >>= λ t. lexeme t (end - start))
  word = lex_as_lem C ∙ word_list start (get_or script start 0) (drop (suc start) script) (end - start) (rw first at runs) ∙ rw first refl

  length_word : length (between script start end) ≡ end - start
  length_word = length-take-le (end - start) (drop start script) (rw (length-drop start script) (omega arith))

  some_word : start < end
  some_word = by (run_go (get_or script start 0) (name_byte_lem (get_or script start 0) C.is) (drop (suc start) script)) (rw first at runs)
    where
      by : {k r : ℕ} → r ≡ suc k → r ≡ end - start → start < end
      by p q = omega arith

  module _ (t : Bool) (is : t ≡ starts_number (between script start end)) where
    pub word_integer : t ≡ true → {w : ℕ} → number_is (Ok w) ≡ number start (between script start end) → Lexes script start (tokens.integer w) end
    unfolding ◌>>=◌
    word_integer f {w} g = record {
      lexes = word ∙ rw (run_number start (between script start end) t is f w (sym g)) refl;
      past = some_word;
      inside = h;
    }

    pub word_fault : t ≡ true → {x : Fault} → number_is (Err x) ≡ number start (between script start end) → lex start (drop start script) ≡ fault x
    unfolding ◌>>=◌
    word_fault f {x} g = word ∙ rw (run_fault start (between script start end) t is f x (sym g)) refl

    pub word_name : t ≡ false → end - start ≤ name_most → NameToken script start true 0 start (end - start) end
    unfolding ◌>>=◌
    word_name f k =
        let l = some_word in
        record {
          token = record { lexes = word ∙ rw (run_name start (between script start end) t is f (rw length_word k)) refl; past = l; inside = h };
          begins = omega arith;
          ends = omega arith;
          some = omega arith;
          few = k;
        }

    pub word_long : t ≡ false → name_most < end - start → lex start (drop start script) ≡ fault OverLimit
    unfolding ◌>>=◌
    word_long f k = word ∙ rw (run_long start (between script start end) t is f (rw length_word k)) refl

-- What follows a slash, up to its end.
module _ {script : List ℕ} {start end : ℕ} (C : ClassAt script start tokens.slash)
    (e : end ≡ start + 1 + run (drop (start + 1) script)) (h : end ≤ length script) where
  slash : lex start (drop start script) ≡ (slash_token (start + 1) (between script (start + 1) end) >>= λ t. lexeme t (end - start))
  slash =
      let k : ℕ = end - (start + 1) in
      let r : run (drop (start + 1) script) ≡ k = omega arith in
      let s : suc k ≡ end - start = omega arith in
      lex_as_lem C
      ∙ slash_list start (get_or script start 0) (drop (suc start) script) k (subst (λ (n : ℕ). run (drop n script) ≡ k) (add-one start) r)
      ∙ ap (λ (n : ℕ). slash_token n (take k (drop n script)) >>= λ t. lexeme t (suc k)) (sym (add-one start))
      ∙ ap (λ (m : ℕ). slash_token (start + 1) (take k (drop (start + 1) script)) >>= λ t. lexeme t m) s

  length_slash : length (between script (start + 1) end) ≡ end - (start + 1)
  length_slash = length-take-le (end - (start + 1)) (drop (start + 1) script) (rw (length-drop (start + 1) script) (omega arith))

  pub literal_none : end - (start + 1) ≡ 0 → lex start (drop start script) ≡ fault (BadByte (start + 1))
  unfolding ◌>>=◌
  literal_none z = slash ∙ rw (slash_none (start + 1) (between script (start + 1) end) (length_slash ∙ z)) refl

  module _ (t : Bool) (is : t ≡ starts_number (between script (start + 1) end)) (z : end - (start + 1) ≡ 0 → ⊥) where
    pub literal_number : t ≡ true → {n : ℕ} → n ≡ signs (between script (start + 1) end) → lex start (drop start script) ≡ fault (BadByte (start + 1 + n))
    unfolding ◌>>=◌
    literal_number f q = slash ∙ rw (slash_number (start + 1) (between script (start + 1) end) t is (λ p. z (sym length_slash ∙ p)) f, q) refl

    pub literal_long : t ≡ false → name_most < end - (start + 1) → lex start (drop start script) ≡ fault OverLimit
    unfolding ◌>>=◌
    literal_long f k = slash ∙ rw (slash_long (start + 1) (between script (start + 1) end) t is (λ p. z (sym length_slash ∙ p)) f (rw length_slash k)) refl

    pub literal_name_lem : t ≡ false → end - (start + 1) ≤ name_most → NameToken script start false 1 (start + 1) (end - (start + 1)) end
    unfolding ◌>>=◌
    literal_name_lem f k = record {
      token = record {
        lexes = slash ∙ rw (slash_name (start + 1) (between script (start + 1) end) t is (λ p. z (sym length_slash ∙ p)) f (rw length_slash k)) refl;
        past = omega arith;
        inside = h;
      };
      begins = refl;
      ends = omega arith;
      some = omega arith;
      few = k;
    }

-- ---- strings

module _ {script : List ℕ} {start : ℕ} (C : ClassAt script start tokens.quote) where
  quote : lex start (drop start script)
      ≡ (quoted start (start + 1) tokens.nothing (drop (start + 1) script) >>= λ q. lexeme (tokens.string q.contents) (suc q.taken))
  unfolding lex_as
  quote = lex_as_lem C ∙ rw (add-one start) refl

  pub string_token : {size next : ℕ} → JudgedAt script (start + 1) (Ok (size, next)) → StringToken script start (start + 1) size next
  unfolding ◌>>=◌
  string_token {size} {next} J =
      let past = J.1.past in
      let n : suc (next - (start + 1)) ≡ next - start = omega arith in
      record {
        bytes = J.0;
        token = record { lexes = quote ∙ rw (J.1.reads start) (ap (lexeme (tokens.string J.0)) n); past = omega arith; inside = J.1.inside };
        own = J.1;
        begins = refl;
        holds = J.2;
      }

  pub string_cut : JudgedAt script (start + 1) (Err Cut) → lex start (drop start script) ≡ fault (OpenString start)
  unfolding ◌>>=◌
  string_cut b = quote ∙ rw (b start) refl

  pub string_bad : {o : ℕ} → JudgedAt script (start + 1) (Err (Bad o)) → lex start (drop start script) ≡ fault (BadEscape o)
  unfolding ◌>>=◌
  string_bad b = quote ∙ rw (b.reads start) refl
