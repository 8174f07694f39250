-- A token of a script whose bytes are as asked has a number, bytes or a name as asked, and no more bytes than the script.
-- Assumes nothing.
use mathlib.Core.Bool.{Bool, true, false, ◌||◌, cond}
use mathlib.Core.List.{List, [], ◌∷◌}
use Prim.Native.Nat.{ℕ, zero, suc, ◌+◌, ◌-◌, ◌*◌, ◌^◌, ◌≤◌, ◌<◌}
use native.Mathlib.Omega.{arith}
use lib.IntN.{pos, neg_ℤ}
use lib.ListN.{length, drop}
use lib.Dec.{T, leb, leb→le, eqb}
use Rattle.semantics.specs.Words.{word}
use Rattle.semantics.specs.Values.{ok, fault, ◌>>=◌}
use Rattle.semantics.specs.Tokens.{Lexing, within, is_break, is_octal, Class, name_byte, bracket, open_brace, close_brace, quote, slash, other, class_of, run, digits, starts_number, up_to, Form, negative, hexadecimal, plain, form_of, number, Met, nothing, backslash, return, octal, Act, byte, go, close, cut, bad, plain_act, octal_act, act, Quoted, quoted_on, quoted, Token, Lexeme, lexeme, name_of, run_token, signs, slash_token, lex_as, lex}
use Rattle.semantics.specs.ResultLaws.{Gives, gives, fails, gives_then, gives_check, choose, choose_cond}
use Rattle.semantics.specs.ListLaws.{All, nil, cons, both, all_take}
use Rattle.semantics.specs.declared.Fault.{Fault}
use Rattle.semantics.specs.declared.Fault.TheVariants.{BadByte}
use Rattle.walk.specs.Parts.{Parts}
use Rattle.walk.proofs.Property.{gives_each}
use Rattle.walk.proofs.Operands.{word_small}

-- What is asked of a token.
pub data GoodToken (A : Parts) : Token → Type 0 where
  a_number : {w : ℕ} → A.numbers.Word w → GoodToken A (Token.integer w)
  a_text : {bs : List ℕ} → All A.numbers.Byte bs → A.numbers.Size (length bs) → GoodToken A (Token.string bs)
  a_name : {x : Bool} {n : List ℕ} → A.numbers.Spelling n → GoodToken A (Token.name x n)
  an_opening : GoodToken A Token.open_brace
  a_closing : GoodToken A Token.close_brace
  an_end : GoodToken A Token.end

-- ---- numbers

up_to_small : (limit n : ℕ) → limit < 2 ^ 32 → Gives (λ (w : ℕ). w < 2 ^ 32) (up_to limit n)
unfolding up_to
up_to_small limit n h =
    gives_then (gives_check _ _)
    (λ u t.
    let l : n ≤ limit = leb→le n limit t in
    gives (omega arith))

number_small : (at : ℕ) (s : List ℕ) → Gives (λ (w : ℕ). w < 2 ^ 32) (number at s)
unfolding number
number_small at s = by (form_of s)
  where
    by : (f : Form) → Gives {E = Fault} (λ (w : ℕ). w < 2 ^ 32) (elim f [
      | negative ↦ digits 10 (at + 1) (drop 1 s) >>= λ n. up_to (2 ^ 31) n >>= λ m. ok (word (neg_ℤ (pos m)))
      | hexadecimal ↦ digits 16 (at + 2) (drop 2 s) >>= up_to (2 ^ 32 - 1)
      | plain ↦ digits 10 at s >>= up_to (2 ^ 31 - 1)
    ])
    by negative = gives_each _ (λ n. gives_each _ (λ m. gives (word_small (neg_ℤ (pos m)))))
    by hexadecimal = gives_each _ (λ n. up_to_small (2 ^ 32 - 1) n (omega arith))
    by plain = gives_each _ (λ n. up_to_small (2 ^ 31 - 1) n (omega arith))

-- ---- strings

-- The octal digits met so far begin a number below 256.
abbrev Begun : Met → Type 0
Begun nothing = Unit {0}
Begun backslash = Unit {0}
Begun return = Unit {0}
Begun (octal zero v) = ⊥
Begun (octal (suc zero) v) = v < 32
Begun (octal (suc (suc zero)) v) = v < 4
Begun (octal (suc (suc (suc k))) v) = ⊥

module _ (A : Parts) where
  -- What is asked of what a byte does.
  abbrev GoodAct : Act → Type 0
  GoodAct (byte c) = A.numbers.Byte c
  GoodAct (go met) = Begun met
  GoodAct close = Unit {0}
  GoodAct cut = Unit {0}
  GoodAct bad = Unit {0}

  plain_act_lem : (b : ℕ) → A.numbers.Byte b → GoodAct (plain_act b)
  unfolding plain_act
  plain_act_lem b h =
      choose_cond GoodAct (eqb b 34) close (cond (eqb b 92) (go backslash) (cond (is_break b) cut (byte b)))
      (λ t. tt)
      (λ t. choose_cond GoodAct (eqb b 92) (go backslash) (cond (is_break b) cut (byte b))
      (λ u. tt)
      (λ u. choose_cond GoodAct (is_break b) cut (byte b) (λ v. tt) (λ v. h)))

  digit_low : (b low high : ℕ) → T (within low high b) → b ≤ high
  digit_low b low high t = leb→le b high (both (leb low b) (leb b high) t).1

  escape_act : (b : ℕ) → GoodAct (act backslash b)
  unfolding act
  escape_act b =
      choose_cond GoodAct (eqb b 110) (byte 10) (cond (eqb b 34) (byte 34) (cond (eqb b 13) (go return) (cond (eqb b 10) (go nothing) (cond (within 48 51 b) (go (octal 2 (b - 48))) bad))))
      (λ t. A.numbers.byte 10 (omega arith))
      (λ t. choose_cond GoodAct (eqb b 34) (byte 34) (cond (eqb b 13) (go return) (cond (eqb b 10) (go nothing) (cond (within 48 51 b) (go (octal 2 (b - 48))) bad)))
      (λ t. A.numbers.byte 34 (omega arith))
      (λ t. choose_cond GoodAct (eqb b 13) (go return) (cond (eqb b 10) (go nothing) (cond (within 48 51 b) (go (octal 2 (b - 48))) bad))
      (λ t. tt)
      (λ t. choose_cond GoodAct (eqb b 10) (go nothing) (cond (within 48 51 b) (go (octal 2 (b - 48))) bad)
      (λ t. tt)
      (λ t. choose_cond GoodAct (within 48 51 b) (go (octal 2 (b - 48))) bad (λ t. omega (arith, digit_low b 48 51 t)) (λ t. tt)))))

  octal_act_lem : (k v b : ℕ) → Begun (octal k v) → T (is_octal b) → GoodAct (octal_act (k - 1) (v * 8 + (b - 48)))
  unfolding octal_act
  octal_act_lem zero v b h t = absurd h
  octal_act_lem (suc zero) v b h t = A.numbers.byte _ (omega (arith, digit_low b 48 55 t))
  octal_act_lem (suc (suc zero)) v b h t = omega (arith, digit_low b 48 55 t)
  octal_act_lem (suc (suc (suc k))) v b h t = absurd h

  act_good : (met : Met) (b : ℕ) → Begun met → A.numbers.Byte b → GoodAct (act met b)
  unfolding act
  act_good nothing b g h = plain_act_lem b h
  act_good backslash b g h = escape_act b
  act_good return b g h = choose_cond GoodAct (eqb b 10) (go nothing) (plain_act b) (λ t. tt) (λ t. plain_act_lem b h)
  act_good (octal k v) b g h =
      choose_cond GoodAct (is_octal b) (octal_act (k - 1) (v * 8 + (b - 48))) (cond (is_break b) cut bad)
      (λ t. octal_act_lem k v b g t)
      (λ t. choose_cond GoodAct (is_break b) cut bad (λ u. tt) (λ u. tt))

  -- No more bytes than were read.
  record In (n : ℕ) (q : Quoted) : Type 0 where
    bytes : All A.numbers.Byte q.contents
    few : length q.contents ≤ n

  quoted_on_in : (start at : ℕ) (rest : Met → Lexing Quoted) (n : ℕ)
      → ((next : Met) → Begun next → Gives (In n) (rest next))
      → (a : Act)
      → GoodAct a
      → Gives (In (suc n)) (quoted_on start at rest a)
  unfolding quoted_on
  quoted_on_in start at rest n f (byte c) p = gives_then (f nothing tt) (λ q h. gives (record { bytes = cons p h.bytes; few = omega arith }))
  quoted_on_in start at rest n f (go next) p = gives_then (f next p) (λ q h. gives (record { bytes = h.bytes; few = omega arith }))
  quoted_on_in start at rest n f close p = gives (record { bytes = nil; few = omega arith })
  quoted_on_in start at rest n f cut p = fails
  quoted_on_in start at rest n f bad p = fails

  quoted_in : (start at : ℕ) (met : Met) {s : List ℕ} → Begun met → All A.numbers.Byte s → Gives (In (length s)) (quoted start at met s)
  unfolding quoted
  quoted_in start at met g nil = fails
  quoted_in start at met g (cons {a = b} {l = s} p ps) =
      quoted_on_in start at (λ next. quoted start (suc at) next s) (length s) (λ next k. quoted_in start (suc at) next k ps) (act met b) (act_good met b g p)

  -- ---- tokens

  name_of_good : (x : Bool) {n : List ℕ} → All A.numbers.Byte n → Gives (GoodToken A) (name_of x n)
  unfolding name_of
  name_of_good x {n} h = gives_then (gives_check _ _) (λ u t. gives (a_name (A.numbers.spelling n h (leb→le _ _ t))))

  run_token_good : (at : ℕ) {n : List ℕ} → All A.numbers.Byte n → Gives (GoodToken A) (run_token at n)
  unfolding run_token
  run_token_good at {n} h =
      choose (Gives (GoodToken A)) (starts_number n) (number at n >>= λ w. ok (Token.integer w)) (name_of true n)
      (λ t. gives_then (number_small at n) (λ w u. gives (a_number (A.numbers.word w u))))
      (λ t. name_of_good true h)

  slash_token_good : (at : ℕ) {n : List ℕ} → All A.numbers.Byte n → Gives (GoodToken A) (slash_token at n)
  unfolding slash_token
  slash_token_good at {n} h =
      choose (Gives (GoodToken A)) (eqb (length n) 0 || starts_number n) (fault (BadByte (at + signs n))) (name_of false n) (λ t. fails) (λ t. name_of_good false h)

  abbrev pub GoodLexeme : Lexeme → Type 0
  GoodLexeme l = GoodToken A l.token

  lex_as_good : (k : Class) (at b : ℕ) (s : List ℕ) → A.numbers.Byte b → All A.numbers.Byte s → A.numbers.Size (suc (length s)) → Gives GoodLexeme (lex_as k at b s)
  unfolding lex_as lexeme
  lex_as_good name_byte at b s p h l = gives_then (run_token_good at (all_take (run (b ∷ s)) (cons p h))) (λ t g. gives g)
  lex_as_good bracket at b s p h l = gives (a_name (A.numbers.spelling (b ∷ []) (cons p nil) (omega arith)))
  lex_as_good open_brace at b s p h l = gives an_opening
  lex_as_good close_brace at b s p h l = gives a_closing
  lex_as_good quote at b s p h l =
      gives_then (quoted_in at (suc at) nothing tt h) (λ q g. gives (a_text g.bytes (A.numbers.smaller _ (suc (length s)) (omega (arith, g.few)) l)))
  lex_as_good slash at b s p h l = gives_then (slash_token_good (suc at) (all_take (run s) h)) (λ t g. gives g)
  lex_as_good other at b s p h l = fails

  pub lex_good : (at : ℕ) {s : List ℕ} → All A.numbers.Byte s → A.numbers.Size (length s) → Gives GoodLexeme (lex at s)
  unfolding lex lexeme
  lex_good at nil l = gives an_end
  lex_good at (cons {a = b} {l = s} p ps) l = lex_as_good (class_of b) at b s p ps l
