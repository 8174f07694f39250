-- A brace group never takes more than the script has, and the fuel of its reading is never spent: any fuel above the bytes that are left
-- gives the same answer. Each token read takes at least a byte.
-- Assumes nothing.
use Rattle.std.specs.Prelude.{◌≡◌, length, drop}
use Rattle.std.proofs.Math.Path.{refl, ap}
use Rattle.std.proofs.Common.{◌∙◌, length-drop}
use mathlib.Core.List.{List, [], ◌∷◌}
use Prim.Native.Nat.{ℕ, zero, suc, ◌+◌, ◌-◌, ◌≤◌, ◌<◌}
use native.Mathlib.Omega.{arith}
use Rattle.semantics.specs.Values.{Value, ◌>>=◌}
use Rattle.semantics.specs.Machine.{Machine, made}
use Rattle.semantics.specs.Tokens.{Lexing, Token, Lexeme, lex}
use Rattle.semantics.specs.Groups.{Taken, taken, skip, Reader, opened, closed, element, group}
use Rattle.semantics.specs.ResultLaws.{Gives, gives, fails, gives_then, gives_weaker, then_same}
use Rattle.semantics.specs.TokenLaws.{Fits}
use Rattle.semantics.proofs.TokenLaws.{skip_le, lex_fits}
use Rattle.semantics.specs.GroupLaws.{Inside}

-- A reading that stays in a script of so many bytes.
abbrev Stays : ℕ → Reader → Type 0
Stays size rest =
    (i brace depth offset : ℕ) (vs : List Value) (m : Machine) → offset ≤ size → Gives (Inside size offset) (rest i brace depth offset vs m)

-- Two readings that agree after an offset.
abbrev Agree : ℕ → ℕ → Reader → Reader → Type 0
Agree size start rest other =
    (i brace depth offset : ℕ) (vs : List Value) (m : Machine) → start < offset → offset ≤ size → rest i brace depth offset vs m ≡ other i brace depth offset vs m

module _ (size : ℕ) where
  later : {offset after : ℕ} → offset ≤ after → {r : Lexing Taken} → Gives (Inside size after) r → Gives (Inside size offset) r
  later l g = gives_weaker g (λ t h. (omega arith, h.1))

  element_inside : (rest : Reader)
      → Stays size rest
      → (i brace depth start bytes : ℕ) (vs : List Value) (m : Machine) (t : Token)
      → start ≤ size
      → Fits (size - start) t bytes
      → Gives (Inside size start) (element rest i brace depth start (start + bytes) vs m t)
  unfolding element closed taken
  element_inside rest f i brace depth start bytes vs m (Token.integer w) h k = later (omega arith) (f i brace depth (start + bytes) _ _ (omega arith))
  element_inside rest f i brace depth start bytes vs m (Token.string bs) h k = later (omega arith) (f i brace depth (start + bytes) _ _ (omega arith))
  element_inside rest f i brace depth start bytes vs m (Token.name x n) h k = later (omega arith) (f i brace depth (start + bytes) _ _ (omega arith))
  element_inside rest f i brace zero start bytes vs m Token.open_brace h k = fails
  element_inside rest f i brace (suc d) start bytes vs m Token.open_brace h k =
      gives_then (f (made m) start d (start + bytes) _ _ (omega arith)) (λ t k. later (omega arith) (f i brace (suc d) t.after _ _ k.1))
  element_inside rest f i brace depth start bytes vs m Token.close_brace h k =
      let first : start < start + bytes = omega arith in
      let last : start + bytes ≤ size = omega arith in
      gives (first, last)
  element_inside rest f i brace depth start bytes vs m Token.end h k = fails

  element_same : (rest other : Reader) (i brace depth start bytes : ℕ) (vs : List Value) (m : Machine) (t : Token)
      → Stays size rest
      → Agree size start rest other
      → start ≤ size
      → Fits (size - start) t bytes
      → element rest i brace depth start (start + bytes) vs m t ≡ element other i brace depth start (start + bytes) vs m t
  unfolding element closed taken
  element_same rest other i brace depth start bytes vs m (Token.integer w) f e h k = e i brace depth (start + bytes) _ _ (omega arith) (omega arith)
  element_same rest other i brace depth start bytes vs m (Token.string bs) f e h k = e i brace depth (start + bytes) _ _ (omega arith) (omega arith)
  element_same rest other i brace depth start bytes vs m (Token.name x n) f e h k = e i brace depth (start + bytes) _ _ (omega arith) (omega arith)
  element_same rest other i brace zero start bytes vs m Token.open_brace f e h k = refl
  element_same rest other i brace (suc d) start bytes vs m Token.open_brace f e h k =
      let inner : rest (made m) start d (start + bytes) [] (opened m) ≡ other (made m) start d (start + bytes) [] (opened m) = e (made m) start d (start + bytes) [] (opened m) (omega arith) (omega arith) in
      then_same (f (made m) start d (start + bytes) [] (opened m) (omega arith)) (λ t k. e i brace (suc d) t.after _ _ (omega arith) k.1)
      ∙ ap (λ r. r >>= λ (t : Taken). other i brace (suc d) t.after (t.value ∷ vs) t.machine) inner
  element_same rest other i brace depth start bytes vs m Token.close_brace f e h k = refl
  element_same rest other i brace depth start bytes vs m Token.end f e h k = refl

module _ (script : List ℕ) where
  -- The next token of the script, at `start`, fits what is left.
  pub token_fits : (start : ℕ) → Gives (λ (l : Lexeme). Fits (length script - start) l.token l.size) (lex start (drop start script))
  token_fits start = rw (length-drop start script) at (lex_fits start (drop start script))

  pub group_inside : (fuel : ℕ) → Stays (length script) (group script fuel)
  unfolding group
  group_inside zero i brace depth offset vs m h = fails
  group_inside (suc fuel) i brace depth offset vs m h =
      let s = skip_le script offset h in
      gives_then (token_fits (skip script offset))
      (λ l f. later (length script) s.0
      (element_inside (length script) (group script fuel) (group_inside fuel) i brace depth (skip script offset) l.size vs m l.token s.1 f))

  -- Any two fuels above the number of bytes left give the same answer.
  pub group_fuel : (fuel more i brace depth offset : ℕ) (vs : List Value) (m : Machine)
      → offset ≤ length script
      → length script < offset + fuel
      → length script < offset + more
      → group script fuel i brace depth offset vs m ≡ group script more i brace depth offset vs m
  unfolding group
  group_fuel zero more i brace depth offset vs m h k l = absurd (omega arith)
  group_fuel (suc fuel) zero i brace depth offset vs m h k l = absurd (omega arith)
  group_fuel (suc fuel) (suc more) i brace depth offset vs m h k l =
      let s = skip_le script offset h in
      then_same (token_fits (skip script offset))
      (λ t f. element_same (length script) (group script fuel) (group script more) i brace depth (skip script offset) t.size vs m t.token
      (group_inside fuel)
      (λ j x d o us n a b. group_fuel fuel more j x d o us n b (omega arith) (omega arith))
      s.1
      f)

  -- ---- the theorems

  -- A brace group that opens before `offset` is read to an offset after that, within the script.
  pub group_takes : (i brace depth offset : ℕ) (vs : List Value) (m : Machine)
      → offset ≤ length script
      → Gives (Inside (length script) offset) (group script (length script) i brace depth offset vs m)
  group_takes = group_inside (length script)

  -- The fuel with which the definition reads a group, whose brace has been passed, suffices: more changes nothing.
  pub group_suffices : (extra i brace depth offset : ℕ) (vs : List Value) (m : Machine)
      → 1 ≤ offset
      → offset ≤ length script
      → group script (length script + extra) i brace depth offset vs m ≡ group script (length script) i brace depth offset vs m
  group_suffices extra i brace depth offset vs m h k =
      group_fuel (length script + extra) (length script) i brace depth offset vs m k (omega arith) (omega arith)
