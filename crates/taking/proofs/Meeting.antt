-- One token of a group that goes on: the definition's lexing is a function, so the token that is read is the group's first one; a fault and the script's end
-- are not.
-- Assumes nothing.
use Rattle.std.specs.Prelude.{Result, Some, None, Ok, Err, IsOk}
use mathlib.Core.Path.{◌≡◌, refl, sym, ap, ◌∙◌, subst}
use mathlib.Core.Bool.{Bool}
use mathlib.Core.List.{List, [], ◌++◌}
use Prim.Native.Nat.{ℕ, ◌-◌, ◌≤◌}
use native.Mathlib.Omega.{arith}
use lib.ListN.{length, drop}
use Rattle.semantics.specs.Values.{fault}
use Rattle.semantics.specs.ResultLaws.{ok_injective}
use Rattle.semantics.specs.Tokens.{Token, Lexeme, lex, lexeme}
use Rattle.semantics.specs.Groups.{skip}
use Rattle.semantics.specs.declared.Fault.{Fault}
use Rattle.token.specs.Lexing.{Lexes, NameToken, LexedAt, TokenAt}
use Rattle.token.specs.declared.Token.TheVariants as read
use Rattle.token.specs.declared.Token as scanned
use Rattle.groups.specs.Nodes.{leaf_names}
use Rattle.taking.specs.Flat.{Flat, Ahead, MetAt}
use Rattle.taking.proofs.Flattening.{skip_far, First, first_token, first_inside}

-- ---- lexing is a function

same_lexeme : (t u : Token) (n k : ℕ) → lexeme t n ≡ lexeme u k → (t ≡ u) × (n ≡ k)
unfolding lexeme
same_lexeme t u n k e = (ap (λ (x : Lexeme). x.token) (ok_injective e), ap (λ (x : Lexeme). x.size) (ok_injective e))

no_lexeme : (t : Token) (n : ℕ) {e : Fault} → lexeme t n ≡ fault e → ⊥
unfolding lexeme
no_lexeme t n q =
    let z : ◌≡◌ {A = ℕ} 0 1 = cc in
    absurd (omega arith)

module _ {script : List ℕ} {at : ℕ} where
  -- The first token of what is left, where another reading of it is known.
  first_is : {u : Token} {next : ℕ} {ns : List (List ℕ)} {end : ℕ}
      → Lexes script (skip script at) u next
      → First script at ns end
      → (rest : List (List ℕ)) × (ns ≡ leaf_names u ++ rest) × Flat script next rest end
  first_is {u} {next} {ns} {end} l F =
      let same = same_lexeme F.token u (F.next - skip script at) (next - skip script at) (sym F.lexes.lexes ∙ l.lexes) in
      let place : F.next ≡ next = omega (arith, same.1, F.lexes.past, l.past) in
      (F.rest, subst (λ t. ns ≡ leaf_names t ++ F.rest) same.0 F.names, subst (λ n. Flat script n F.rest end) place F.after)

  -- A token that is no name.
  met_other : (u : Token) {next : ℕ} → leaf_names u ≡ [] → Lexes script (skip script at) u next → MetAt script at (None, next)
  met_other u {next} nameless l = (
    omega (arith, skip_far script at, l.past),
    λ ns end f h.
        let x = first_is l (first_token f h) in
        subst (λ y. Flat script next y end) (sym (x.1 ∙ ap (λ y. y ++ x.0) nameless)) x.2,
  )

  met_name : {x : Bool} {before begins size next : ℕ} → NameToken script (skip script at) x before begins size next → MetAt script at (Some (begins, size), next)
  met_name N = (
    N.few,
    omega (arith, N.ends, N.token.inside),
    omega (arith, skip_far script at, N.token.past),
    λ ns end f h. first_is N.token (first_token f h),
  )

-- ---- the answer

pub ahead_inside : {script : List ℕ} {at : ℕ} → Ahead script at → at ≤ length script
ahead_inside (ns, end, f, h) = first_inside (first_token f h)

module _ (script : List ℕ) (at start : ℕ) (begins : start ≡ skip script at) (ahead : Ahead script at) where
  group_first : First script at ahead.0 ahead.1
  group_first = first_token ahead.2 ahead.3

  -- No fault is met.
  pub meets_token : (answer : Result (scanned.Token × ℕ) Fault) → LexedAt script start answer → IsOk answer
  meets_token (Ok x) k = refl
  meets_token (Err e) k =
      let F = group_first in
      absurd (no_lexeme F.token (F.next - skip script at) (sym F.lexes.lexes ∙ subst (λ n. lex n (drop n script) ≡ fault e) begins k))

  module _ {answer : Result (scanned.Token × ℕ) Fault} (k : LexedAt script start answer) {t : scanned.Token} {next : ℕ} (g : answer ≡ Ok (t, next)) where
    at_token : TokenAt script (skip script at) next t
    at_token = subst (λ n. TokenAt script n next t) begins (subst (LexedAt script start) g k)

    pub meet_executable : {from size : ℕ} → t ≡ read.ExecutableName from size → MetAt script at (Some (from, size), next)
    meet_executable q = met_name (subst (TokenAt script (skip script at) next) q at_token)

    pub meet_literal : {from size : ℕ} → t ≡ read.LiteralName from size → MetAt script at (Some (from, size), next)
    meet_literal q = met_name (subst (TokenAt script (skip script at) next) q at_token)

    -- The script's end is not met either.
    pub meet_other : ((from size : ℕ) → t ≡ read.ExecutableName from size → ⊥) → ((from size : ℕ) → t ≡ read.LiteralName from size → ⊥) → MetAt script at (None, next)
    meet_other x y = by t at_token x y
      where
        by : (u : scanned.Token) → TokenAt script (skip script at) next u
            → ((from size : ℕ) → u ≡ read.ExecutableName from size → ⊥)
            → ((from size : ℕ) → u ≡ read.LiteralName from size → ⊥)
            → MetAt script at (None, next)
        by (read.Integer w) T x y = met_other (Token.integer w) refl T
        by (read.String from size) T x y = met_other (Token.string T.bytes) refl T.token
        by (read.ExecutableName from size) T x y = absurd (x from size refl)
        by (read.LiteralName from size) T x y = absurd (y from size refl)
        by read.OpenBrace T x y = met_other Token.open_brace refl T.token
        by read.CloseBrace T x y = met_other Token.close_brace refl T.token
        by read.End T x y =
            let F = group_first in
            let same = same_lexeme F.token Token.end (F.next - skip script at) 0 (sym F.lexes.lexes ∙ T.lexes) in
            absurd (omega (arith, same.1, F.lexes.past))
