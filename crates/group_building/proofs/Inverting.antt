-- What a group that is there begins with: the token at its offset says which of the three forms it has, since the definition reads one token there.
-- Assumes nothing.
use Rattle.std.specs.Prelude.{Result, Ok, Err, IsOk}
use mathlib.Core.Path.{◌≡◌, refl, sym, ap, ◌∙◌, subst}
use mathlib.Core.Bool.{true, false, false≢true}
use mathlib.Core.List.{List, []}
use Prim.Native.Nat.{ℕ, suc, ◌+◌, ◌≤◌, ◌<◌}
use native.Mathlib.Omega.{arith}
use lib.ListN.{length, take, drop}
use Rattle.semantics.specs.Tokens.{Lexing, Token, Lexeme, lex, lexeme}
use Rattle.semantics.specs.Values.{ok, fault}
use Rattle.semantics.specs.Machine as Floo
use Rattle.semantics.specs.Groups.{Taken, taken, skip}
use Rattle.semantics.specs.declared.Fault.{Fault}
use Rattle.token.specs.Lexing.{Lexes, LexedAt, TokenAt}
use Rattle.token.specs.declared.Token.TheVariants as read
use Rattle.token.specs.declared.Token as scanned
use Rattle.groups.specs.Nodes.{Nodes, end, leaf, inner, is_leaf}
use Rattle.groups.specs.Parsing.{Parsed, closes, token, opens, Faults}
use Rattle.groups.proofs.Trees.{group_parsed}
use Rattle.group_building.specs.Building.{PieceAt}
use Rattle.group_building.specs.declared.Piece.TheVariants as piece

-- ---- one token

-- A reading by its parts; another token than any where there is none.
abbrev token_in : Lexing Lexeme → Token
token_in (ok l) = l.token
token_in (fault e) = Token.end

abbrev size_in : Lexing Lexeme → ℕ
size_in (ok l) = l.size
size_in (fault e) = 0

-- Numbers that tell tokens apart.
abbrev sort : Token → ℕ
sort (Token.integer w) = 0
sort (Token.string bs) = 0
sort (Token.name x n) = 0
sort Token.open_brace = 1
sort Token.close_brace = 2
sort Token.end = 3

leaf_sort : (t : Token) → is_leaf t ≡ true → sort t ≡ 0
leaf_sort (Token.integer w) h = refl
leaf_sort (Token.string bs) h = refl
leaf_sort (Token.name x n) h = refl
leaf_sort Token.open_brace h = absurd (false≢true h)
leaf_sort Token.close_brace h = absurd (false≢true h)
leaf_sort Token.end h = absurd (false≢true h)

-- The definition reads one token at a place.
module _ {script : List ℕ} {start : ℕ} where
  pub one_token : {t u : Token} {a b : ℕ} → Lexes script start t a → Lexes script start u b → (t ≡ u) × (a ≡ b)
  unfolding lexeme
  one_token L K =
      let e = sym L.lexes ∙ K.lexes in
      (ap token_in e, omega (arith, L.past, K.past, ap size_in e))

  no_fault : {t : Token} {a : ℕ} {e : Fault} → Lexes script start t a → lex start (drop start script) ≡ fault e → sort t ≡ 3
  unfolding lexeme
  no_fault L h = ap (λ (r : Lexing Lexeme). sort (token_in r)) (sym L.lexes ∙ h)

  no_end : {t : Token} {a : ℕ} → Lexes script start t a → lex start (drop start script) ≡ lexeme Token.end 0 → sort t ≡ 3
  unfolding lexeme
  no_end L h = ap (λ (r : Lexing Lexeme). sort (token_in r)) (sym L.lexes ∙ h)

-- ---- a group's first token

module _ {script : List ℕ} where
  pub leaf_first : {d o after : ℕ} {ns : Nodes}
      → Parsed script d o ns after
      → {t : Token} {next : ℕ}
      → Lexes script (skip script o) t next
      → is_leaf t ≡ true
      → (rest : Nodes) × (ns ≡ leaf t rest) × Parsed script d next rest after
  leaf_first (closes l) {t} L h = absurd (omega (arith, ap sort (one_token l L).0, leaf_sort t h))
  leaf_first (token {d = d} {after = after} {ns = ns} l e p) L h =
      let u = one_token l L in
      (ns, ap (λ t. leaf t ns) u.0, subst (λ n. Parsed script d n ns after) u.1 p)
  leaf_first (opens l p q) {t} L h = absurd (omega (arith, ap sort (one_token l L).0, leaf_sort t h))

  pub open_first : {d o after : ℕ} {ns : Nodes}
      → Parsed script d o ns after
      → {next : ℕ}
      → Lexes script (skip script o) Token.open_brace next
      → (less : ℕ) × (ms : Nodes) × (rest : Nodes) × (mid : ℕ)
      × (d ≡ suc less) × (ns ≡ inner ms rest) × Parsed script less next ms mid × Parsed script d mid rest after
  open_first (closes l) L = absurd (omega (arith, ap sort (one_token l L).0))
  open_first (token {t = t} l e p) L = absurd (omega (arith, ap sort (one_token l L).0, leaf_sort t e))
  open_first (opens {d = d} {mid = mid} {ms = ms} {ns = ns} l p q) L =
      (d, ms, ns, mid, refl, refl, subst (λ n. Parsed script d n ms mid) (one_token l L).1 p, q)

  pub close_first : {d o after : ℕ} {ns : Nodes}
      → Parsed script d o ns after
      → {next : ℕ}
      → Lexes script (skip script o) Token.close_brace next
      → (ns ≡ end) × (next ≡ after)
  close_first (closes l) L = (refl, sym (one_token l L).1)
  close_first (token {t = t} l e p) L = absurd (omega (arith, ap sort (one_token l L).0, leaf_sort t e))
  close_first (opens l p q) L = absurd (omega (arith, ap sort (one_token l L).0))

  -- There is a token, and it is not the end.
  pub some_token : {d o after : ℕ} {ns : Nodes} → Parsed script d o ns after → (t : Token) × (next : ℕ) × Lexes script (skip script o) t next × (sort t < 3)
  some_token (closes l) = (_, _, l, omega arith)
  some_token (token {t = t} l e p) = (t, _, l, omega (arith, leaf_sort t e))
  some_token (opens l p q) = (_, _, l, omega arith)

  -- A group has one reading.
  pub parsed_one : {d o a b : ℕ} {ns ms : Nodes} → Parsed script d o ns a → Parsed script d o ms b → (ns ≡ ms) × (a ≡ b)
  parsed_one (closes l) P = let x = close_first P l in (sym x.0, x.1)
  parsed_one (token {t = t} l e p) P =
      let x = leaf_first P l e in
      let y = parsed_one p x.2 in
      (ap (λ n. leaf t n) y.0 ∙ sym x.1, y.1)
  parsed_one {b = b} (opens {d = d} {next = next} {ns = ns} l p q) P =
      let x = open_first P l in
      let same : x.0 ≡ d = omega (arith, x.4) in
      let y = parsed_one p (subst (λ k. Parsed script k next x.1 x.3) same x.6) in
      let z = parsed_one q (subst (λ n. Parsed script (suc d) n x.2 b) (sym y.1) x.7) in
      (ap (λ m. inner m ns) y.0 ∙ ap (λ n. inner x.1 n) z.0 ∙ sym x.5, z.1)

abbrev is_taken : Lexing Taken → ℕ
is_taken (ok t) = 0
is_taken (fault e) = 1

-- A group that is there has no fault.
pub no_faults : {script : List ℕ} {d o after : ℕ} {ns : Nodes} {e : Fault} → Parsed script d o ns after → o ≤ length script → Floo.Machine → {brace : ℕ} → Faults script brace d o e → ⊥
unfolding taken
no_faults {script} {o = o} p le μ {brace} F =
    let enough : length script < o + suc (length script) = omega arith in
    let z = sym (group_parsed script p le (suc (length script)) 0 brace [] μ enough) ∙ F.says (suc (length script)) 0 [] μ enough in
    omega (arith, ap is_taken z)

-- ---- what is read

module _ (script : List ℕ) (at start : ℕ) (begins : start ≡ skip script at) {depth after : ℕ} {ns : Nodes} (P : Parsed script depth at ns after) where
  moved : {u : Token} {next : ℕ} → Lexes script start u next → Lexes script (skip script at) u next
  moved {u} {next} l = subst (λ n. Lexes script n u next) begins l

  -- A token is read.
  pub some_piece : (answer : Result (scanned.Token × ℕ) Fault) → LexedAt script start answer → IsOk answer
  some_piece (Ok x) k = refl
  some_piece (Err e) k =
      let x = some_token P in
      absurd (omega (arith, x.3, no_fault x.2 (subst (λ n. lex n (drop n script) ≡ fault e) begins k)))

  module _ {answer : Result (scanned.Token × ℕ) Fault} (k : LexedAt script start answer) {t : scanned.Token} {next : ℕ} (g : answer ≡ Ok (t, next)) where
    at_token : {u : scanned.Token} → t ≡ u → TokenAt script start next u
    at_token q = subst (TokenAt script start next) q (subst (LexedAt script start) g k)

    pub piece_open : t ≡ read.OpenBrace → PieceAt script at (piece.Open next)
    piece_open q = moved (at_token q).token

    pub piece_close : t ≡ read.CloseBrace → PieceAt script at (piece.Close next)
    piece_close q = moved (at_token q).token

    pub never_end : t ≡ read.End → ⊥
    never_end q =
        let x = some_token P in
        omega (arith, x.3, no_end x.2 (subst (λ n. lex n (drop n script) ≡ lexeme Token.end 0) begins (at_token q).lexes))

    pub piece_leaf : (t ≡ read.OpenBrace → ⊥) → (t ≡ read.CloseBrace → ⊥) → (t ≡ read.End → ⊥) → PieceAt script at (piece.Leaf t next)
    piece_leaf a b c = by t (at_token refl) a b c
      where
        by : (u : scanned.Token) → TokenAt script start next u → (u ≡ read.OpenBrace → ⊥) → (u ≡ read.CloseBrace → ⊥) → (u ≡ read.End → ⊥) → PieceAt script at (piece.Leaf u next)
        by (read.Integer w) l a b c = (Token.integer w, moved l, refl, refl)
        by (read.String from size) l a b c = (Token.string l.bytes, moved l.token, refl, (l.bytes, next, refl, l.own, l.holds))
        by (read.ExecutableName from size) l a b c =
            (Token.name true (take size (drop from script)), moved l.token, refl, (refl, omega (arith, l.ends, l.token.inside), l.few))
        by (read.LiteralName from size) l a b c =
            (Token.name false (take size (drop from script)), moved l.token, refl, (refl, omega (arith, l.ends, l.token.inside), l.few))
        by read.OpenBrace l a b c = absurd (a refl)
        by read.CloseBrace l a b c = absurd (b refl)
        by read.End l a b c = absurd (c refl)
