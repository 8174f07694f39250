-- The offset of a fault lies in the script and not before its token: for a token, a brace group, the token reading and a run (02, W4).
-- Assumes nothing.
use Rattle.std.specs.Prelude.{Bool, cond, ◌||◌, ◌&&◌, pos, neg_ℤ, take, drop, eqb, ltb, leb}
use Rattle.std.proofs.Common.{length-drop, nltb→le}
use Rattle.std.proofs.Math.Bool.{true, false}
use mathlib.Core.List.{List, [], ◌∷◌}
use Rattle.std.proofs.Math.Option.{Option, none, some}
use Prim.Native.Nat.{ℕ, zero, suc, ◌+◌, ◌-◌, ◌*◌, ◌^◌, ◌≤◌, ◌<◌}
use native.Mathlib.Omega.{arith}
use Rattle.std.proofs.Math.ListN.{length}
use Rattle.semantics.specs.Words.{word}
use Rattle.semantics.specs.Values.{Result, ok, fault, ◌>>=◌, check, Value}
use Rattle.semantics.specs.Machine.{Machine, Frame, made, lookup}
use Rattle.semantics.specs.Tokens.{Lexing, digit, digits_from, digits, starts_number, up_to, Form, negative, hexadecimal, plain, form_of, number, Met, nothing, Act, byte, go, close, cut, bad, act, Quoted, quoted_on, quoted, Class, name_byte, bracket, open_brace, close_brace, quote, slash, other, class_of, run, Token, Lexeme, lexeme, name_of, run_token, signs, slash_token, lex_as, lex}
use Rattle.semantics.specs.Groups.{Taken, taken, skip, Reader, opened, closed, element, group, token_value, take_token}
use Rattle.semantics.specs.Steps as steps
use Rattle.semantics.specs.Steps.{Limits, State, Step, goes, misreads, unmoved, failing, ended, moved, token_move, token_step, step_on, step, Ending, misread, Run, is_finished, finish, go_on}
use Rattle.semantics.specs.Setup.{Reading, refused, faulty, is_too_long, reading_of, reading}
use Rattle.semantics.specs.ResultLaws.{choose, Gives, gives, fails, gives_then, gives_weaker, gives_any}
use Rattle.semantics.specs.TokenLaws.{Fits}
use Rattle.semantics.proofs.TokenLaws.{skip_le, run_length, signs_le}
use Rattle.semantics.specs.GroupLaws.{Inside}
use Rattle.semantics.proofs.GroupLaws.{group_inside, token_fits}
use Rattle.semantics.specs.Errors.{error_text}
use Rattle.semantics.specs.declared.Error.{Error}
use Rattle.semantics.specs.declared.Fault.{Fault}
use Rattle.semantics.specs.declared.Fault.TheVariants.{BadNumber, BadEscape, OpenString, BadBrace, BadByte, OverLimit}
use Rattle.semantics.specs.WhereLaws.{Where, Placed, ReadPlaced}

wider : {low high low' high' : ℕ} → low' ≤ low → high ≤ high' → (f : Fault) → Where low high f → Where low' high' f
wider h k (BadNumber o) w = (omega arith, omega arith)
wider h k (BadEscape o) w = (omega arith, omega arith)
wider h k (OpenString o) w = (omega arith, omega arith)
wider h k (BadBrace o) w = (omega arith, omega arith)
wider h k (BadByte o) w = (omega arith, omega arith)
wider h k OverLimit w = tt

-- What is wrong, if anything is, lies there.
data Lies {A : Type 0} (low high : ℕ) : Lexing A → Type 0 where
  right : {a : A} → Lies low high (ok a)
  wrong : {f : Fault} → Where low high f → Lies low high (fault f)

lies_wider : {A : Type 0} {low high low' high' : ℕ} {r : Lexing A} → low' ≤ low → high ≤ high' → Lies low high r → Lies low' high' r
lies_wider h k right = right
lies_wider h k (wrong {f = f} w) = wrong (wider h k f w)

lies_then : {A B : Type 0} {P : A → Type 0} {low high : ℕ} {r : Lexing A} {f : A → Lexing B}
    → Lies low high r → Gives P r → ((a : A) → P a → Lies low high (f a)) → Lies low high (r >>= f)
unfolding ◌>>=◌
lies_then right (gives {a = a} p) g = g a p
lies_then (wrong w) p g = wrong w

lies_on : {A B : Type 0} {low high : ℕ} {r : Lexing A} {f : A → Lexing B} → Lies low high r → ((a : A) → Lies low high (f a)) → Lies low high (r >>= f)
lies_on {r = r} l g = lies_then l (gives_any r) (λ a u. g a)

lies_check : {low high : ℕ} (b : Bool) → Lies low high (check b OverLimit)
unfolding check
lies_check true = right
lies_check false = wrong tt

-- ---- numbers

digits_from_lies : (base at n : ℕ) (s : List ℕ) → Lies at (at + length s) (digits_from base at n s)
unfolding digits_from
digits_from_lies base at n [] = right
digits_from_lies base at n (b ∷ s) =
    choose (Lies at (at + suc (length s))) (ltb (digit b) base) (digits_from base (suc at) (n * base + digit b) s) (fault (BadNumber at))
    (λ t. lies_wider (omega arith) (omega arith) (digits_from_lies base (suc at) (n * base + digit b) s))
    (λ t. wrong {f = BadNumber at} (omega arith, omega arith))

digits_lies : (base at : ℕ) (s : List ℕ) → Lies at (at + length s) (digits base at s)
unfolding digits
digits_lies base at [] = wrong {f = BadNumber at} (omega arith, omega arith)
digits_lies base at (b ∷ s) = digits_from_lies base at 0 (b ∷ s)

up_to_lies : {low high : ℕ} (limit n : ℕ) → Lies low high (up_to limit n)
unfolding up_to
up_to_lies limit n = lies_on (lies_check (leb n limit)) (λ u. right)

plain_lies : (at : ℕ) (s : List ℕ) → Lies at (at + length s) (digits 10 at s >>= up_to (2 ^ 31 - 1))
plain_lies at s = lies_on (digits_lies 10 at s) (up_to_lies (2 ^ 31 - 1))

number_lies : (at : ℕ) (s : List ℕ) → Lies at (at + length s) (number at s)
unfolding number form_of
number_lies at [] = plain_lies at []
number_lies at (b ∷ []) = plain_lies at (b ∷ [])
number_lies at (b ∷ c ∷ s) = by (cond (eqb b 45) negative (cond (eqb b 48 && eqb c 120) hexadecimal plain))
  where
    by : (f : Form) → Lies {A = ℕ} at (at + length (b ∷ c ∷ s)) (elim f as (λ _. Lexing ℕ) [
      | negative ↦ digits 10 (at + 1) (c ∷ s) >>= λ n. up_to (2 ^ 31) n >>= λ m. ok (word (neg_ℤ (pos m)))
      | hexadecimal ↦ digits 16 (at + 2) s >>= up_to (2 ^ 32 - 1)
      | plain ↦ digits 10 at (b ∷ c ∷ s) >>= up_to (2 ^ 31 - 1)
    ])
    by negative =
        lies_on (lies_wider (omega arith) (omega arith) (digits_lies 10 (at + 1) (c ∷ s))) (λ n. lies_on (up_to_lies (2 ^ 31) n) (λ m. right))
    by hexadecimal = lies_on (lies_wider (omega arith) (omega arith) (digits_lies 16 (at + 2) s)) (up_to_lies (2 ^ 32 - 1))
    by plain = plain_lies at (b ∷ c ∷ s)

-- ---- strings

quoted_on_lies : (start at high : ℕ) (rest : Met → Lexing Quoted)
    → start ≤ at → at ≤ high → ((next : Met) → Lies start high (rest next)) → (a : Act) → Lies start high (quoted_on start at rest a)
unfolding quoted_on
quoted_on_lies start at high rest h k f (byte c) = lies_on (f nothing) (λ q. right)
quoted_on_lies start at high rest h k f (go next) = lies_on (f next) (λ q. right)
quoted_on_lies start at high rest h k f close = right
quoted_on_lies start at high rest h k f cut = wrong {f = OpenString start} (omega arith, omega arith)
quoted_on_lies start at high rest h k f bad = wrong {f = BadEscape at} (omega arith, omega arith)

quoted_lies : (start at : ℕ) (met : Met) (s : List ℕ) → start ≤ at → Lies start (at + length s) (quoted start at met s)
unfolding quoted
quoted_lies start at met [] h = wrong {f = OpenString start} (omega arith, omega arith)
quoted_lies start at met (b ∷ s) h =
    quoted_on_lies start at (at + suc (length s)) (λ next. quoted start (suc at) next s) h (omega arith)
    (λ next. lies_wider (omega arith) (omega arith) (quoted_lies start (suc at) next s (omega arith))) (act met b)

-- ---- a token

name_of_lies : {low high : ℕ} (x : Bool) (n : List ℕ) → Lies low high (name_of x n)
unfolding name_of
name_of_lies x n = lies_on (lies_check (leb (length n) _)) (λ u. right)

run_token_lies : (at : ℕ) (n : List ℕ) → Lies at (at + length n) (run_token at n)
unfolding run_token
run_token_lies at n =
    choose (Lies at (at + length n)) (starts_number n) (number at n >>= λ w. ok (Token.integer w)) (name_of true n)
    (λ t. lies_on (number_lies at n) (λ w. right))
    (λ t. name_of_lies true n)

slash_token_lies : (at : ℕ) (n : List ℕ) → Lies at (at + length n) (slash_token at n)
unfolding slash_token
slash_token_lies at n =
    choose (Lies at (at + length n)) (eqb (length n) 0 || starts_number n) (fault (BadByte (at + signs n))) (name_of false n)
    (λ t. let few = (signs_le n).1 in wrong {f = BadByte (at + signs n)} (omega arith, omega arith))
    (λ t. name_of_lies false n)

lex_as_lies : (k : Class) (at b : ℕ) (s : List ℕ) → Lies at (at + suc (length s)) (lex_as k at b s)
unfolding lex_as lexeme
lex_as_lies name_byte at b s =
    let short = run_length (b ∷ s) in
    lies_on (lies_wider (omega arith) (omega arith) (run_token_lies at (take (run (b ∷ s)) (b ∷ s)))) (λ t. right)
lex_as_lies bracket at b s = right
lex_as_lies open_brace at b s = right
lex_as_lies close_brace at b s = right
lex_as_lies quote at b s = lies_on (lies_wider (omega arith) (omega arith) (quoted_lies at (suc at) nothing s (omega arith))) (λ q. right)
lex_as_lies slash at b s =
    let short = run_length s in
    lies_on (lies_wider (omega arith) (omega arith) (slash_token_lies (suc at) (take (run s) s))) (λ t. right)
lex_as_lies other at b s = wrong {f = BadByte at} (omega arith, omega arith)

lex_lies : (at : ℕ) (s : List ℕ) → Lies at (at + length s) (lex at s)
unfolding lex lexeme
lex_lies at [] = right
lex_lies at (b ∷ s) = lex_as_lies (class_of b) at b s

module _ (script : List ℕ) where
  -- The token of the script at `start`.
  token_lies : (start : ℕ) → start ≤ length script → Lies start (length script) (lex start (drop start script))
  token_lies start h =
      let left = length-drop start script in
      lies_wider (omega arith) (omega arith) (lex_lies start (drop start script))

  -- ---- a brace group

  element_lies : (rest : Reader) (i brace depth start bytes : ℕ) (vs : List Value) (m : Machine) (t : Token)
      → ((j b d o : ℕ) (us : List Value) (n : Machine) → b < o → o ≤ length script → Lies b (length script) (rest j b d o us n))
      → ((j b d o : ℕ) (us : List Value) (n : Machine) → o ≤ length script → Gives (Inside (length script) o) (rest j b d o us n))
      → brace < start
      → start ≤ length script
      → Fits (length script - start) t bytes
      → Lies brace (length script) (element rest i brace depth start (start + bytes) vs m t)
  unfolding element closed taken
  element_lies rest i brace depth start bytes vs m (Token.integer w) f g h k l = f i brace depth _ _ _ (omega arith) (omega arith)
  element_lies rest i brace depth start bytes vs m (Token.string bs) f g h k l = f i brace depth _ _ _ (omega arith) (omega arith)
  element_lies rest i brace depth start bytes vs m (Token.name x n) f g h k l = f i brace depth _ _ _ (omega arith) (omega arith)
  element_lies rest i brace zero start bytes vs m Token.open_brace f g h k l = wrong tt
  element_lies rest i brace (suc d) start bytes vs m Token.open_brace f g h k l =
      lies_then (lies_wider (omega arith) (omega arith) (f (made m) start d (start + bytes) [] (opened m) (omega arith) (omega arith)))
      (g (made m) start d (start + bytes) [] (opened m) (omega arith))
      (λ t p. f i brace (suc d) t.after _ _ (omega arith) p.1)
  element_lies rest i brace depth start bytes vs m Token.close_brace f g h k l = right
  element_lies rest i brace depth start bytes vs m Token.end f g h k l = wrong {f = BadBrace brace} (omega arith, omega arith)

  -- From a brace on nothing is wrong before it.
  group_lies : (fuel i brace depth offset : ℕ) (vs : List Value) (m : Machine)
      → brace < offset → offset ≤ length script → Lies brace (length script) (group script fuel i brace depth offset vs m)
  unfolding group
  group_lies zero i brace depth offset vs m h k = wrong {f = BadBrace brace} (omega arith, omega arith)
  group_lies (suc fuel) i brace depth offset vs m h k =
      let s = skip_le script offset k in
      lies_then (lies_wider (omega arith) (omega arith) (token_lies (skip script offset) s.1)) (token_fits script (skip script offset))
      (λ l f. element_lies (group script fuel) i brace depth (skip script offset) l.size vs m l.token
      (λ j b d o us n p q. group_lies fuel j b d o us n p q) (group_inside script fuel) (omega arith) s.1 f)

  -- ---- a token taken in a step

  value_lies : (m : Machine) (start bytes : ℕ) (t : Token)
      → start ≤ length script → Fits (length script - start) t bytes → Lies start (length script) (token_value script m start (start + bytes) t)
  unfolding token_value taken
  value_lies m start bytes (Token.integer w) h k = right
  value_lies m start bytes (Token.string bs) h k = right
  value_lies m start bytes (Token.name true n) h k = right
  value_lies m start bytes (Token.name false n) h k = right
  value_lies m start bytes Token.open_brace h k = group_lies (length script) (made m) start 15 (start + bytes) [] (opened m) (omega arith) (omega arith)
  value_lies m start bytes Token.close_brace h k = wrong {f = BadBrace start} (omega arith, omega arith)
  value_lies m start bytes Token.end h k = wrong {f = BadBrace start} (omega arith, omega arith)

  taken_lies : (start : ℕ) (m : Machine) → start ≤ length script → Lies start (length script) (take_token script start m)
  unfolding take_token
  taken_lies start m h = lies_then (token_lies start h) (token_fits script start) (λ l f. value_lies m start l.size l.token h f)

  value_inside : (m : Machine) (start bytes : ℕ) (t : Token)
      → start ≤ length script → Fits (length script - start) t bytes
      → Gives (λ (x : Taken). x.after ≤ length script) (token_value script m start (start + bytes) t)
  unfolding token_value taken
  value_inside m start bytes (Token.integer w) h k = let l : start + bytes ≤ length script = omega arith in gives l
  value_inside m start bytes (Token.string bs) h k = let l : start + bytes ≤ length script = omega arith in gives l
  value_inside m start bytes (Token.name true n) h k = let l : start + bytes ≤ length script = omega arith in gives l
  value_inside m start bytes (Token.name false n) h k = let l : start + bytes ≤ length script = omega arith in gives l
  value_inside m start bytes Token.open_brace h k =
      gives_weaker (group_inside script (length script) (made m) start 15 (start + bytes) [] (opened m) (omega arith)) (λ x p. p.1)
  value_inside m start bytes Token.close_brace h k = fails
  value_inside m start bytes Token.end h k = fails

  taken_inside : (start : ℕ) (m : Machine) → start ≤ length script → Gives (λ (x : Taken). x.after ≤ length script) (take_token script start m)
  unfolding take_token
  taken_inside start m h = gives_then (token_fits script start) (λ l f. value_inside m start l.size l.token h f)

  -- ---- steps and runs

  -- Where a step leads, the bytes that are left are the script's; where it could not read its token, the fault lies in the script and not before the token.
  data Led : Step → Type 0 where
    on : {τ : State} → τ.next ≤ length script → Led (goes τ)
    over : {e : _} {c : List ℕ} {τ : State} → Led (steps.fails e c τ)
    astray : {f : Fault} {τ : State} → Where τ.at (length script) f → Led (misreads f τ)

  failing_led : (l : Limits) (σ : State) (at next : ℕ) (left : List Frame) (e : Error) (c : List ℕ) (v : Option Value)
      → next ≤ length script
      → Led (failing l σ at next left e c v)
  unfolding failing
  failing_led l σ at next left e c none h = over
  failing_led l σ at next left e c (some v) h = choose Led (leb (suc (length left)) l.exec_slots) _ _ (λ t. on h) (λ t. over)

  ended_led : (l : Limits) (σ : State) (at next : ℕ) (left : List Frame) (c : List ℕ) (r : Result Machine)
      → next ≤ length script
      → Led (ended l σ at next left c r)
  unfolding ended
  ended_led l σ at next left c (ok m) h = on h
  ended_led l σ at next left c (fault e) h = failing_led l σ at next left e c (lookup (error_text e) σ.machine.handlers) h

  token_led : (l : Limits) (σ : State) (start : ℕ) {r : Lexing Taken}
      → Lies start (length script) r → Gives (λ (x : Taken). x.after ≤ length script) r → Led (token_step l σ start r)
  unfolding token_step moved unmoved
  token_led l σ start right (gives {a = t} h) = ended_led l σ start t.after [] _ _ h
  token_led l σ start (wrong w) h = astray w

  step_led : (l : Limits) (σ : State) → σ.next ≤ length script → Led (step l script σ)
  unfolding step step_on moved
  step_led l σ h = by σ.machine.exec
    where
      by : (fs : List Frame) → Led (step_on l script σ fs)
      by (f ∷ fs) = ended_led l σ _ _ _ _ _ h
      by [] =
          let s = skip_le script σ.next h in
          token_led l σ (skip script σ.next) (taken_lies (skip script σ.next) σ.machine s.1) (taken_inside (skip script σ.next) σ.machine s.1)

go_on_placed : (script : List ℕ) (rest : State → Run)
    → ((τ : State) → τ.next ≤ length script → Placed (rest τ).final.at (length script) (rest τ).ending)
    → {s : Step}
    → Led script s
    → Placed (go_on rest s).final.at (length script) (go_on rest s).ending
unfolding go_on
go_on_placed script rest f (on {τ = τ} h) =
    choose (λ (r : Run). Placed r.final.at (length script) r.ending) τ.machine.stopped (record { ending = steps.stopped; final = τ }) (rest τ)
    (λ t. tt)
    (λ t. f τ h)
go_on_placed script rest f over = tt
go_on_placed script rest f (astray w) = w

-- A run that ends with a token's fault has it in the script, and not before the token.
pub run_placed : (l : Limits) (script : List ℕ) (fuel : ℕ) (σ : State)
    → σ.next ≤ length script
    → Placed (steps.run l script fuel σ).final.at (length script) (steps.run l script fuel σ).ending
unfolding steps.run finish
run_placed l script zero σ h =
    choose (λ (r : Run). Placed r.final.at (length script) r.ending) (is_finished script σ) (finish script σ) (record { ending = steps.out_of_fuel; final = σ })
    (λ t. tt)
    (λ t. tt)
run_placed l script (suc fuel) σ h =
    choose (λ (r : Run). Placed r.final.at (length script) r.ending) (is_finished script σ) (finish script σ) (go_on (steps.run l script fuel) (step l script σ))
    (λ t. tt)
    (λ t. go_on_placed script (steps.run l script fuel) (λ τ k. run_placed l script fuel τ k) (step_led script l σ h))

-- A token that is read has no fault.
token_read : (low high start : ℕ) (t : Token) (n : ℕ) → ReadPlaced low high (reading_of start (record { token = t; size = n }))
unfolding reading_of
token_read low high start (Token.integer w) n = tt
token_read low high start (Token.string bs) n = tt
token_read low high start (Token.name true m) n = tt
token_read low high start (Token.name false m) n = tt
token_read low high start Token.open_brace n = tt
token_read low high start Token.close_brace n = tt
token_read low high start Token.end n = tt

lexed_read : (low high start : ℕ) → low ≤ start → {r : Lexing Lexeme} → Lies start high r
    → ReadPlaced low high (elim r as (λ _. Reading) [ fault f ↦ faulty f | ok l ↦ reading_of start l ])
lexed_read low high start h (right {a = l}) = token_read low high start l.token l.size
lexed_read low high start h (wrong {f = f} w) = wider h (omega arith) f w

pub reading_placed : (script : List ℕ) (offset : ℕ) → ReadPlaced offset (length script) (reading script offset)
unfolding reading
reading_placed script offset =
    choose (ReadPlaced offset (length script)) (is_too_long script) (refused 1) _
    (λ t. tt)
    (λ t. choose (ReadPlaced offset (length script)) (ltb (length script) offset) (refused 10) _
    (λ u. tt)
    (λ u.
    let s = skip_le script offset (nltb→le (length script) offset u) in
    lexed_read offset (length script) (skip script offset) s.0 (token_lies script (skip script offset) s.1)))
