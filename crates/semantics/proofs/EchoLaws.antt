-- What echo writes, and that its text of a string or an integer, read as a token, is what was echoed (02, W14): a string byte by byte, whatever follows it; an integer
-- digit by digit, before a space.
-- Assumes nothing.
use Rattle.std.specs.Prelude.{◌≡◌, Bool, ◌&&◌, pos, neg_ℤ, length, leb, eqb}
use Rattle.std.proofs.Math.Path.{refl, ap}
use Rattle.std.proofs.Common.{sym, ◌∙◌, subst, arith, length-append, eqb→eq, leb→le, T_not, le-leb, eq-eqb, ne_eqb}
use Rattle.std.proofs.Math.Bool.{true, false, not, cond}
use mathlib.Core.List.{List, [], ◌∷◌, ◌++◌, map, append_assoc}
use Prim.Native.Nat.{ℕ, zero, suc, ◌+◌, ◌-◌, ◌*◌, ◌/◌, ◌%◌, ◌^◌, ◌≤◌, ◌<◌}
use Rattle.std.proofs.Math.ListN.{take, get_or}
use Rattle.std.proofs.Math.Seq.{take-append_seam}
use Rattle.std.proofs.Math.Dec.{T}
use Rattle.semantics.specs.Text.{bytes, decimal, octal, textual}
use Rattle.semantics.specs.Words.{word, decimal_z}
use Rattle.semantics.specs.Values.{Result, ok, fault, ◌>>=◌, check, Value, integer, boolean, null, mark, operator, name, string, array, Object, elements, current}
use Rattle.semantics.specs.Tokens.{Lexing, within, is_space, is_octal, is_name_byte, Class, name_byte, class_of, run, digits, starts_number, up_to, negative, plain, form_of, number, Met, nothing, backslash, Act, byte, go, plain_act, octal_act, act, quoted_on, quoted, Token, lexeme, run_token, lex_as, lex}
use Rattle.semantics.specs.Machine.{Machine, with_stack, write, pop1, object, elements_of, bytes_of}
use Rattle.semantics.specs.Printing.{joined, escaped, string_byte, shown, echoed_to, echoed}
use Rattle.semantics.specs.TextOperators.{echo}
use Rattle.semantics.specs.Operators.{◌is◌, table, find, perform}
use Rattle.semantics.specs.ResultLaws.{choose, choose_cond, ok_one}
use Rattle.semantics.specs.ListLaws.{All, nil, cons, both}
use Rattle.semantics.specs.WordLaws.{Sign, low, high, sign}
use Rattle.semantics.specs.TextLaws.{decimal_all, decimal_reads}
use Rattle.semantics.specs.AsciiLaws.{Bytes}
use Rattle.semantics.specs.declared.Error.TheVariants.{StackUnderflow}
use Rattle.semantics.specs.EchoLaws.{quoted_text, integer_text}

-- ---- what echo writes

pub echo_performed : (m : Machine) → perform (bytes "echo") m ≡ echo m
unfolding perform find table ◌is◌ textual
echo_performed m = refl

map_same : (f g : Value → List ℕ) → ((v : Value) → f v ≡ g v) → (vs : List Value) → map f vs ≡ map g vs
map_same f g e [] = refl
map_same f g e (v ∷ vs) = rw (e v, map_same f g e vs) refl

-- What is echoed of a value depends on the objects alone.
module _ (n m : Machine) (same : n.store ≡ m.store) where
  object_same : (i : ℕ) → object n i ≡ object m i
  unfolding object
  object_same i = ap (λ (s : List Object). get_or s i (elements [])) same

  shown_same : (f g : List Value → List ℕ) → ((vs : List Value) → f vs ≡ g vs) → (v : Value) → shown f n v ≡ shown g m v
  unfolding shown
  shown_same f g e (integer w) = refl
  shown_same f g e (boolean b) = refl
  shown_same f g e null = refl
  shown_same f g e mark = refl
  shown_same f g e (operator o) = refl
  shown_same f g e (name x n) = refl
  shown_same f g e (string i) = ap (λ (o : Object). quoted_text (current (bytes_of o))) (object_same i)
  shown_same f g e (array true i) =
      ap (λ (o : Object). bytes "{" ++ f (elements_of o) ++ bytes "}") (object_same i) ∙ ap (λ (t : List ℕ). bytes "{" ++ t ++ bytes "}") (e (elements_of (object m i)))
  shown_same f g e (array false i) =
      ap (λ (o : Object). bytes "[" ++ f (elements_of o) ++ bytes "]") (object_same i) ∙ ap (λ (t : List ℕ). bytes "[" ++ t ++ bytes "]") (e (elements_of (object m i)))

  echoed_to_same : (d : ℕ) (v : Value) → echoed_to d n v ≡ echoed_to d m v
  unfolding echoed_to
  echoed_to_same zero v = shown_same (λ vs. bytes "..") (λ vs. bytes "..") (λ vs. refl) v
  echoed_to_same (suc d) v =
      shown_same (λ vs. joined (bytes " ") (map (echoed_to d n) vs)) (λ vs. joined (bytes " ") (map (echoed_to d m) vs))
      (λ vs. ap (joined (bytes " ")) (map_same (echoed_to d n) (echoed_to d m) (echoed_to_same d) vs))
      v

  pub echoed_same : (v : Value) → echoed n v ≡ echoed m v
  unfolding echoed
  echoed_same v = echoed_to_same 4 v

pop_there : (m : Machine) (v : Value) (s : List Value) → m.stack ≡ v ∷ s → pop1 m ≡ ok (v, with_stack s m)
unfolding pop1
pop_there m v s e = ap (λ (l : List Value). elim l [ [] ↦ fault StackUnderflow | x ∷ r ↦ ok (x, with_stack r m) ]) e

pub echo_does : (m : Machine) (v : Value) (s : List Value) → m.stack ≡ v ∷ s → echo m ≡ ok (write (echoed m v ++ bytes "\n") (with_stack s m))
unfolding echo ◌>>=◌ with_stack
echo_does m v s e =
    ap (λ (r : Result (Value × Machine)). r >>= λ p. ok (write (echoed p.1 p.0 ++ bytes "\n") p.1)) (pop_there m v s e)
    ∙ ap (λ (t : List ℕ). ok (write (t ++ bytes "\n") (with_stack s m))) (echoed_same (with_stack s m) m refl v)

-- An echo that succeeds adds one line to the log: the text of the top item, and LF.
pub echo_line : (m m' : Machine) (v : Value) (s : List Value)
    → perform (bytes "echo") m ≡ ok m'
    → m.stack ≡ v ∷ s
    → m'.log ≡ m.log ++ (echoed m v ++ bytes "\n")
unfolding write with_stack
echo_line m m' v s e t = ap (λ (n : Machine). n.log) (ok_one (sym e ∙ echo_performed m ∙ echo_does m v s t))

pub string_echoed : (m : Machine) (i : ℕ) → echoed m (string i) ≡ quoted_text (current (bytes_of (object m i)))
unfolding echoed echoed_to shown
string_echoed m i = refl

pub integer_echoed : (m : Machine) (w : ℕ) → echoed m (integer w) ≡ integer_text w
unfolding echoed echoed_to shown
integer_echoed m w = refl

-- ---- a test that fails

differs : (a b : ℕ) → T (not (eqb a b)) → a ≡ b → ⊥
differs a b t e = T_not (eqb a b) t (rw (eq-eqb a b e) tt)

-- ---- one byte of the text of a string

-- From here on the string has these bytes, and takes so many of the script.
record Reads (met : Met) (s contents : List ℕ) (taken : ℕ) : Type 0 where
  says : (start at : ℕ) → quoted start at met s ≡ ok (record { contents = contents; taken = taken })

record Acts (met : Met) (x : ℕ) (a : Act) : Type 0 where
  says : act met x ≡ a

module _ {met : Met} {x : ℕ} {s c : List ℕ} {n : ℕ} where
  read_on_lem : {next : Met} → Acts met x (go next) → Reads next s c n → Reads met (x ∷ s) c (suc n)
  unfolding quoted quoted_on ◌>>=◌
  read_on_lem a q = record { says = λ start at. rw (a.says, q.says start (suc at)) refl }

  read_byte : {b : ℕ} → Acts met x (byte b) → Reads nothing s c n → Reads met (x ∷ s) (b ∷ c) (suc n)
  unfolding quoted quoted_on ◌>>=◌
  read_byte a q = record { says = λ start at. rw (a.says, q.says start (suc at)) refl }

counted : {met : Met} {s c : List ℕ} {n k : ℕ} → Reads met s c n → n ≡ k → Reads met s c k
counted {met} {s} {c} q e = subst (Reads met s c) e q

octal_digit : (d : ℕ) → d < 8 → is_octal (48 + d) ≡ true
octal_digit d h = rw (le-leb 48 (48 + d) (omega arith), le-leb (48 + d) 55 (omega arith)) refl

first_octal : (d : ℕ) → d < 4 → Acts backslash (48 + d) (go (Met.octal 2 d))
unfolding act
first_octal d h =
    let e : (48 + d) - 48 ≡ d = omega arith in
    record {
      says =
          rw (ne_eqb (48 + d) 110 (λ q. omega arith), ne_eqb (48 + d) 34 (λ q. omega arith), ne_eqb (48 + d) 13 (λ q. omega arith), ne_eqb (48 + d) 10 (λ q. omega arith), le-leb 48 (48 + d) (omega arith), le-leb (48 + d) 51 (omega arith))
          (ap (λ (k : ℕ). go (Met.octal 2 k)) e);
    }

next_octal : (k v d : ℕ) → d < 8 → act (Met.octal k v) (48 + d) ≡ octal_act (k - 1) (v * 8 + d)
unfolding act
next_octal k v d h =
    let e : (48 + d) - 48 ≡ d = omega arith in
    rw (octal_digit d h) (ap (λ (i : ℕ). octal_act (k - 1) (v * 8 + i)) e)

second_octal : (v d : ℕ) → d < 8 → Acts (Met.octal 2 v) (48 + d) (go (Met.octal 1 (v * 8 + d)))
unfolding octal_act
second_octal v d h = record { says = next_octal 2 v d h }

last_octal : (v d b : ℕ) → d < 8 → v * 8 + d ≡ b → Acts (Met.octal 1 v) (48 + d) (byte b)
unfolding octal_act
last_octal v d b h e = record { says = next_octal 1 v d h ∙ ap byte e }

plain_byte : (b : ℕ) → 32 ≤ b → (b ≡ 34 → ⊥) → (b ≡ 92 → ⊥) → Acts nothing b (byte b)
unfolding act plain_act
plain_byte b h q s = record { says = rw (ne_eqb b 34 q, ne_eqb b 92 s, ne_eqb b 10 (λ e. omega arith), ne_eqb b 13 (λ e. omega arith)) refl }

opens_escape : Acts nothing 92 (go backslash)
unfolding act plain_act
opens_escape = record { says = refl }

escaped_quote : Acts backslash 34 (byte 34)
unfolding act
escaped_quote = record { says = refl }

escaped_newline : Acts backslash 110 (byte 10)
unfolding act
escaped_newline = record { says = refl }

closing_quote : (rest : List ℕ) → Reads nothing (34 ∷ rest) [] 1
unfolding quoted quoted_on act plain_act
closing_quote rest = record { says = λ start at. refl }

module _ (b : ℕ) (s c : List ℕ) (n : ℕ) (h : b < 256) (q : Reads nothing s c n) where
  -- The byte is read back from this text.
  abbrev ReadsAs : List ℕ → Type 0
  ReadsAs t = Reads nothing (t ++ s) (b ∷ c) (length t + n)

  read_octal : ReadsAs (octal b)
  unfolding octal
  read_octal =
      counted
      (read_on_lem opens_escape
      (read_on_lem (first_octal (b / 64) (omega arith))
      (read_on_lem (second_octal (b / 64) (b / 8 % 8) (omega arith))
      (read_byte (last_octal (b / 64 * 8 + b / 8 % 8) (b % 8) b (omega arith) (omega arith)) q))))
      (omega arith)

  -- Four ways to write a byte: a quote, a line feed, itself, in octal.
  read_string_byte : ReadsAs (string_byte b)
  unfolding string_byte bytes
  read_string_byte =
      choose_cond ReadsAs (eqb b 34) (92 ∷ 34 ∷ []) _
      (λ t. counted (read_on_lem opens_escape (read_byte (rw (eqb→eq b 34 t) escaped_quote) q)) (omega arith))
      (λ t. choose_cond ReadsAs (eqb b 10) (92 ∷ 110 ∷ []) _
      (λ u. counted (read_on_lem opens_escape (read_byte (rw (eqb→eq b 10 u) escaped_newline) q)) (omega arith))
      (λ u. choose_cond ReadsAs (within 32 126 b && not (eqb b 92)) (b ∷ []) (octal b)
      (λ w.
      let inside = both (within 32 126 b) (not (eqb b 92)) w in
      counted (read_byte (plain_byte b (leb→le 32 b (both (leb 32 b) (leb b 126) inside.0).0) (differs b 34 t) (differs b 92 inside.1)) q) (omega arith))
      (λ w. read_octal)))

-- ---- a string

read_string : {bs : List ℕ} → Bytes bs → (rest : List ℕ) → Reads nothing (escaped string_byte bs ++ 34 ∷ rest) bs (suc (length (escaped string_byte bs)))
unfolding escaped
read_string nil rest = closing_quote rest
read_string (cons {a = b} {l = bs} p ps) rest =
    let t = string_byte b in
    let u = escaped string_byte bs in
    let e : length t + suc (length u) ≡ suc (length (t ++ u)) = omega (arith, length-append t u) in
    rw (append_assoc t u (34 ∷ rest), ← e) (read_string_byte b (u ++ 34 ∷ rest) bs (suc (length u)) p (read_string ps rest))

-- The text that echo writes of a string is read as a token of its bytes, whatever follows.
pub lex_quoted : (at : ℕ) (bs rest : List ℕ) → Bytes bs → lex at (quoted_text bs ++ rest) ≡ lexeme (Token.string bs) (length (quoted_text bs))
unfolding bytes lex lex_as class_of lexeme ◌>>=◌
lex_quoted at bs rest h =
    let u = escaped string_byte bs in
    let e : suc (suc (length u)) ≡ suc (length (u ++ 34 ∷ [])) = omega (arith, length-append u (34 ∷ [])) in
    rw (append_assoc u (34 ∷ []) rest, (read_string h rest).says at (suc at), ← e) refl

-- ---- runs of name bytes that a space ends

record Digit (b : ℕ) : Type 0 where
  least : 48 ≤ b
  most : b ≤ 57

abbrev Named : ℕ → Type 0
Named b = T (is_name_byte b)

digit_named : (b : ℕ) → Digit b → Named b
digit_named b d =
    rw (le-leb 33 b (omega arith), le-leb b 126 (omega arith), ne_eqb b 91 (λ e. omega arith), ne_eqb b 93 (λ e. omega arith), ne_eqb b 123 (λ e. omega arith), ne_eqb b 125 (λ e. omega arith), ne_eqb b 34 (λ e. omega arith), ne_eqb b 35 (λ e. omega arith), ne_eqb b 47 (λ e. omega arith))
    tt

digits_named : {s : List ℕ} → All Digit s → All Named s
digits_named nil = nil
digits_named (cons {a = b} p ps) = cons (digit_named b p) (digits_named ps)

space_stops : (b : ℕ) → T (is_space b) → Named b → ⊥
space_stops b s n =
    let l : 33 ≤ b = leb→le 33 b (both (leb 33 b) (leb b 126) (both (within 33 126 b) _ n).0).0 in
    rw (ne_eqb b 9 (λ e. omega arith), ne_eqb b 10 (λ e. omega arith), ne_eqb b 13 (λ e. omega arith), ne_eqb b 32 (λ e. omega arith)) at s

module _ (b : ℕ) (rest : List ℕ) (space : T (is_space b)) where
  run_named : {s : List ℕ} → All Named s → run (s ++ b ∷ rest) ≡ length s
  unfolding run
  run_named nil = choose (λ (n : ℕ). n ≡ 0) (is_name_byte b) (suc (run rest)) 0 (λ t. absurd (space_stops b space t)) (λ t. refl)
  run_named (cons {a = a} {l = s} p ps) =
      choose (λ (n : ℕ). n ≡ suc (length s)) (is_name_byte a) (suc (run (s ++ b ∷ rest))) 0 (λ t. ap suc (run_named ps)) (λ t. absurd (T_not (is_name_byte a) t p))

  class_named : (a : ℕ) → Named a → class_of a ≡ name_byte
  unfolding class_of
  class_named a n = by (is_name_byte a) _ n
    where
      by : (t : Bool) (k : Class) → T t → cond t name_byte k ≡ name_byte
      by true k u = refl
      by false k u = absurd u

  lex_run : (at a : ℕ) (s : List ℕ) → All Named (a ∷ s) → (t : Token) → run_token at (a ∷ s) ≡ ok t → lex at ((a ∷ s) ++ b ∷ rest) ≡ lexeme t (suc (length s))
  unfolding lex lex_as ◌>>=◌
  lex_run at a s h t e =
      let named : Named a = first h in
      let whole : take (run (a ∷ (s ++ b ∷ rest))) (a ∷ (s ++ b ∷ rest)) ≡ a ∷ s =
      ap (λ (n : ℕ). take n (a ∷ (s ++ b ∷ rest))) (run_named h) ∙ take-append_seam (a ∷ s) (b ∷ rest)
      in
      ap (λ (k : Class). lex_as k at a (s ++ b ∷ rest)) (class_named a named)
      ∙ ap (λ (n : List ℕ). run_token at n >>= λ u. lexeme u (length n)) whole
      ∙ ap (λ (r : Lexing Token). r >>= λ u. lexeme u (suc (length s))) e
    where
      first : {a : ℕ} {s : List ℕ} → All Named (a ∷ s) → Named a
      first (cons p ps) = p

-- ---- numbers

none_read : (at : ℕ) {n : ℕ} → digits 10 at [] ≡ ok n → ⊥
unfolding digits
none_read at e =
    let z : ◌≡◌ {A = ℕ} 0 1 = cc in
    omega arith

and_false : (x : Bool) → x && false ≡ false
and_false true = refl
and_false false = refl

number_token : (at : ℕ) (s : List ℕ) (w : ℕ) → starts_number s ≡ true → number at s ≡ ok w → run_token at s ≡ ok (Token.integer w)
unfolding run_token ◌>>=◌
number_token at s w a e = rw (run_token, a, e) refl

plain_number : (at : ℕ) (s : List ℕ) (n : ℕ) → form_of s ≡ plain → digits 10 at s ≡ ok n → n < 2 ^ 31 → number at s ≡ ok n
unfolding number up_to check ◌>>=◌
plain_number at s n f e h = rw (number, f, e, le-leb n (2 ^ 31 - 1) (omega arith)) refl

negative_number : (at : ℕ) (s : List ℕ) (n : ℕ)
    → form_of (45 ∷ s) ≡ negative
    → digits 10 (at + 1) s ≡ ok n
    → n ≤ 2 ^ 31
    → number at (45 ∷ s) ≡ ok (word (neg_ℤ (pos n)))
unfolding number up_to check ◌>>=◌
negative_number at s n f e h = rw (number, f, e, le-leb n (2 ^ 31) h) refl

plain_token : (at : ℕ) {s : List ℕ} (n : ℕ) → All Digit s → digits 10 at s ≡ ok n → n < 2 ^ 31 → run_token at s ≡ ok (Token.integer n)
unfolding starts_number form_of
plain_token at n nil e h = absurd (none_read at e)
plain_token at n (cons {a = b} p nil) e h =
    number_token at (b ∷ []) n (rw (le-leb 48 b p.least, le-leb b 57 p.most) refl) (plain_number at (b ∷ []) n refl e h)
plain_token at n (cons {a = b} p (cons {a = c} {l = s} q ps)) e h =
    number_token at (b ∷ c ∷ s) n (rw (le-leb 48 b p.least, le-leb b 57 p.most) refl)
    (plain_number at (b ∷ c ∷ s) n (rw (ne_eqb b 45 (λ i. omega arith), ne_eqb c 120 (λ i. omega arith), and_false (eqb b 48)) refl) e h)

negative_token : (at : ℕ) {s : List ℕ} (n : ℕ) → All Digit s → digits 10 (at + 1) s ≡ ok n → n ≤ 2 ^ 31 → run_token at (45 ∷ s) ≡ ok (Token.integer (word (neg_ℤ (pos n))))
unfolding starts_number form_of
negative_token at n nil e h = absurd (none_read (at + 1) e)
negative_token at n (cons {a = b} {l = s} p ps) e h =
    number_token at (45 ∷ b ∷ s) (word (neg_ℤ (pos n))) (rw (le-leb 48 b p.least, le-leb b 57 p.most) refl) (negative_number at (b ∷ s) n refl e h)

decimal_digits : (n : ℕ) → All Digit (decimal n)
decimal_digits n = decimal_all (λ d h. record { least = omega arith; most = omega arith }) n

-- ---- an integer

-- A text that is not empty, for its first byte.
lex_text : (at : ℕ) (s : List ℕ) (b : ℕ) (rest : List ℕ)
    → T (is_space b)
    → All Named s
    → (t : Token)
    → (s ≡ [] → ⊥)
    → run_token at s ≡ ok t
    → lex at (s ++ b ∷ rest) ≡ lexeme t (length s)
lex_text at [] b rest h a t f e = absurd (f refl)
lex_text at (x ∷ s) b rest h a t f e = lex_run b rest h at x s a t e

not_empty : {a : ℕ} {s : List ℕ} → a ∷ s ≡ [] → ⊥
not_empty e =
    let z : ◌≡◌ {A = ℕ} 0 1 = cc in
    omega arith

decimal_there : (n : ℕ) → n < 10 ^ 10 → decimal n ≡ [] → ⊥
decimal_there n h e = none_read 0 (subst (λ (s : List ℕ). digits 10 0 s ≡ ok n) e (decimal_reads 0 n h))

-- The text that echo writes of an integer, before a space, is read as a token of it.
pub lex_integer : (at w b : ℕ) (rest : List ℕ) → w < 2 ^ 32 → T (is_space b) → lex at (integer_text w ++ b ∷ rest) ≡ lexeme (Token.integer w) (length (integer_text w))
unfolding decimal_z word
lex_integer at w b rest h space = by (sign w h)
  where
    by : Sign w → lex at (integer_text w ++ b ∷ rest) ≡ lexeme (Token.integer w) (length (integer_text w))
    by (low l e) =
        rw e
        (lex_text at (decimal w) b rest space (digits_named (decimal_digits w)) (Token.integer w) (decimal_there w (omega arith))
        (plain_token at w (decimal_digits w) (decimal_reads at w (omega arith)) l))
    by (high k l r e) =
        let i : 2 ^ 32 - suc (k % 2 ^ 32) ≡ w = omega arith in
        rw e
        (lex_text at (45 ∷ decimal (suc k)) b rest space (cons tt (digits_named (decimal_digits (suc k)))) (Token.integer w) (λ q. not_empty q)
        (negative_token at (suc k) (decimal_digits (suc k)) (decimal_reads (at + 1) (suc k) (omega arith)) (omega arith) ∙ ap (λ (v : ℕ). ok (Token.integer v)) i))
