-- Strings echo alike exactly if their current bytes are equal, and integers if they are equal: equal texts are read as equal tokens.
-- Assumes nothing.
use mathlib.Core.Path.{◌≡◌, refl, sym, ap, ◌∙◌}
use mathlib.Core.List.{List, [], ◌∷◌, ◌++◌}
use Prim.Native.Nat.{ℕ, ◌^◌, ◌<◌}
use lib.ListN.{length}
use lib.Seq.{get_or-append_seam}
use lib.Dec.{eqb, T_not}
use Rattle.semantics.specs.Text.{bytes}
use Rattle.semantics.specs.Values.{string, elements, text, current}
use Rattle.semantics.specs.Tokens.{Token, Lexeme, lexeme, lex}
use Rattle.semantics.specs.Machine.{Machine, with_stack, with_store, push, object, bytes_of, make, made}
use Rattle.semantics.specs.Printing.{shown, echoed_to, echoed}
use Rattle.semantics.specs.ResultLaws.{choose, ok_one}
use Rattle.semantics.specs.AsciiLaws.{Bytes}
use Rattle.semantics.specs.EchoLaws.{quoted_text, integer_text}
use Rattle.semantics.proofs.EchoLaws.{string_echoed, lex_quoted, lex_integer}
use Rattle.echo_laws.specs.Runs.{current_at, Iff}

-- ---- alike

string_one : {b c : List ℕ} (n k : ℕ) → lexeme (Token.string b) n ≡ lexeme (Token.string c) k → b ≡ c
unfolding lexeme
string_one {b} {c} n k e =
    let i : Token.string b ≡ Token.string c = ap (λ (l : Lexeme). l.token) (ok_one e) in
    cc

integer_one : {v w : ℕ} (n k : ℕ) → lexeme (Token.integer v) n ≡ lexeme (Token.integer w) k → v ≡ w
unfolding lexeme
integer_one {v} {w} n k e =
    let i : Token.integer v ≡ Token.integer w = ap (λ (l : Lexeme). l.token) (ok_one e) in
    cc

pub texts_alike : {bs cs : List ℕ} → Bytes bs → Bytes cs → quoted_text bs ++ bytes "\n" ≡ quoted_text cs ++ bytes "\n" → bs ≡ cs
texts_alike {bs} {cs} h k e = string_one (length (quoted_text bs)) (length (quoted_text cs)) (sym (lex_quoted 0 bs (bytes "\n") h) ∙ ap (lex 0) e ∙ lex_quoted 0 cs (bytes "\n") k)

pub integers_alike : (v w : ℕ) → v < 2 ^ 32 → w < 2 ^ 32 → Iff (integer_text v ++ bytes "\n" ≡ integer_text w ++ bytes "\n") (v ≡ w)
unfolding bytes
integers_alike v w h k =
    (λ e. integer_one (length (integer_text v)) (length (integer_text w)) (sym (lex_integer 0 v 10 [] h tt) ∙ ap (lex 0) e ∙ lex_integer 0 w 10 [] k tt), λ e. ap (λ (n : ℕ). integer_text n ++ bytes "\n") e)

pub strings_alike : (m n : Machine) (i j : ℕ)
    → Bytes (current_at m i)
    → Bytes (current_at n j)
    → Iff (echoed m (string i) ++ bytes "\n" ≡ echoed n (string j) ++ bytes "\n") (current_at m i ≡ current_at n j)
unfolding echoed echoed_to shown
strings_alike m n i j h k = (λ e. texts_alike h k e, λ e. ap (λ (b : List ℕ). quoted_text b ++ bytes "\n") e)

-- ---- the pushed string

pub current_current : (bs : List ℕ) → current (current bs) ≡ current bs
unfolding current
current_current [] = refl
current_current (b ∷ bs) =
    choose (λ (l : List ℕ). current l ≡ l) (eqb b 0) [] (b ∷ current bs)
    (λ t. refl)
    (λ t. choose (λ (l : List ℕ). l ≡ b ∷ current bs) (eqb b 0) [] (b ∷ current (current bs))
    (λ u. absurd (T_not (eqb b 0) t u))
    (λ u. ap (λ (l : List ℕ). b ∷ l) (current_current bs)))

-- The string that `takes_echoed` pushes has the token's bytes.
pub pushed_current : (m : Machine) (bs : List ℕ) → current_at (push (string (made m)) (make (text bs) m)) (made m) ≡ current bs
unfolding push with_stack make with_store made object bytes_of
pushed_current m bs = rw (get_or-append_seam m.store (text bs) [] (elements [])) refl

-- So what echo wrote of a string, taken as a token, is a string that echoes so again.
pub pushed_echo : (m n : Machine) (i : ℕ) → echoed (push (string (made n)) (make (text (current_at m i)) n)) (string (made n)) ≡ echoed m (string i)
pushed_echo m n i =
    let τ = push (string (made n)) (make (text (current_at m i)) n) in
    string_echoed τ (made n) ∙ ap quoted_text (pushed_current n (current_at m i) ∙ current_current (bytes_of (object m i))) ∙ sym (string_echoed m i)
