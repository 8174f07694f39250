-- A group never takes more than the script has, the fuel of its reading is never spent (each token read takes at least a byte), and more
-- depth changes nothing that is read.
-- Assumes nothing.
use Rattle.std.specs.Prelude.{◌≡◌, List, length, drop}
use Rattle.std.proofs.Math.Path.{refl, ap}
use Rattle.std.proofs.Common.{◌∙◌}
use Prim.Native.Nat.{ℕ, zero, suc, ◌+◌, ◌-◌, ◌≤◌, ◌<◌}
use native.Mathlib.Omega.{arith}
use Rattle.semantics.specs.Values.{ok, ◌>>=◌}
use Rattle.forf_semantics.specs.Tokens.{Token, Lexeme, lex}
use Rattle.forf_semantics.specs.Items.{Item, number, word, group, Group, Reader, skip, onto, element, read_group}
use Rattle.semantics.specs.ResultLaws.{Gives, gives, fails, gives_then, gives_weaker, then_same, then_ok, fault_ok, ok_then}
use Rattle.forf_semantics.specs.TokenLaws.{Fits}
use Rattle.forf_semantics.proofs.TokenLaws.{skip_le, token_fits}
use Rattle.forf_semantics.specs.GroupLaws.{Inside}

-- A reading that stays in a script of so many bytes.
abbrev Stays : ℕ → Reader → Type 0
Stays size rest = (depth offset : ℕ) → offset ≤ size → Gives (Inside size offset) (rest depth offset)

-- Two readings that agree after an offset.
abbrev Agree : ℕ → ℕ → Reader → Reader → Type 0
Agree size start rest other = (depth offset : ℕ) → start < offset → offset ≤ size → rest depth offset ≡ other depth offset

-- A reading to which more depth makes no difference where it reads a group.
abbrev Deepens : Reader → Type 0
Deepens rest = (d more offset : ℕ) (g : Group) → d ≤ more → rest d offset ≡ ok g → rest more offset ≡ ok g

module _ (size : ℕ) where
  onto_inside : (start : ℕ) (x : Item) (g : Group) → Inside size start g → Gives (Inside size start) (onto x g)
  unfolding onto
  onto_inside start x g i = gives i

  element_inside : (rest : Reader) → Stays size rest
      → (depth start bytes : ℕ) (t : Token)
      → start ≤ size
      → Fits (size - start) t bytes
      → Gives (Inside size start) (element rest depth (start + bytes) t)
  unfolding element
  element_inside rest f depth start bytes (Token.integer w) h k =
      gives_then (f depth (start + bytes) (omega arith)) (λ g i. onto_inside start (number w) g (omega arith, i.1))
  element_inside rest f depth start bytes (Token.word n) h k =
      gives_then (f depth (start + bytes) (omega arith)) (λ g i. onto_inside start (word n) g (omega arith, i.1))
  element_inside rest f zero start bytes Token.open_brace h k = fails
  element_inside rest f (suc d) start bytes Token.open_brace h k =
      gives_then (f d (start + bytes) (omega arith))
      (λ g i. gives_then (f (suc d) g.after i.1) (λ r j. onto_inside start (group g.items) r (omega arith, j.1)))
  element_inside rest f depth start bytes Token.close_brace h k =
      let first : start < start + bytes = omega arith in
      let last : start + bytes ≤ size = omega arith in
      gives (first, last)
  element_inside rest f depth start bytes Token.end h k = fails

  element_same : (rest other : Reader) (depth start bytes : ℕ) (t : Token)
      → Stays size rest
      → Agree size start rest other
      → start ≤ size
      → Fits (size - start) t bytes
      → element rest depth (start + bytes) t ≡ element other depth (start + bytes) t
  unfolding element
  element_same rest other depth start bytes (Token.integer w) f e h k =
      ap (λ r. r >>= onto (number w)) (e depth (start + bytes) (omega arith) (omega arith))
  element_same rest other depth start bytes (Token.word n) f e h k =
      ap (λ r. r >>= onto (word n)) (e depth (start + bytes) (omega arith) (omega arith))
  element_same rest other zero start bytes Token.open_brace f e h k = refl
  element_same rest other (suc d) start bytes Token.open_brace f e h k =
      let inner : rest d (start + bytes) ≡ other d (start + bytes) = e d (start + bytes) (omega arith) (omega arith) in
      then_same (f d (start + bytes) (omega arith))
      (λ g i. ap (λ r. r >>= onto (group g.items)) (e (suc d) g.after (omega arith) i.1))
      ∙ ap (λ r. r >>= λ (g : Group). other (suc d) g.after >>= onto (group g.items)) inner
  element_same rest other depth start bytes Token.close_brace f e h k = refl
  element_same rest other depth start bytes Token.end f e h k = refl

element_deeper : (rest : Reader) → Deepens rest → (t : Token) (after : ℕ) → Deepens (λ d o. element rest d after t)
unfolding element
element_deeper rest f (Token.integer w) after d more o g h e =
    let (r, p, q) = then_ok (rest d after) (onto (number w)) e in
    ok_then (onto (number w)) (f d more after r h p) q
element_deeper rest f (Token.word n) after d more o g h e =
    let (r, p, q) = then_ok (rest d after) (onto (word n)) e in
    ok_then (onto (word n)) (f d more after r h p) q
element_deeper rest f Token.open_brace after zero more o g h e = absurd (fault_ok e)
element_deeper rest f Token.open_brace after (suc d) zero o g h e = absurd (omega arith)
element_deeper rest f Token.open_brace after (suc d) (suc more) o g h e =
    let (i, p, q) = then_ok (rest d after) _ e in
    let (r, u, v) = then_ok (rest (suc d) i.after) (onto (group i.items)) q in
    ok_then _ (f d more after i (omega arith) p) (ok_then (onto (group i.items)) (f (suc d) (suc more) i.after r h u) v)
element_deeper rest f Token.close_brace after d more o g h e = e
element_deeper rest f Token.end after d more o g h e = e

module _ (script : List ℕ) where
  pub group_inside : (fuel : ℕ) → Stays (length script) (read_group script fuel)
  unfolding read_group
  group_inside zero depth offset h = fails
  group_inside (suc fuel) depth offset h =
      let s = skip_le script offset h in
      gives_then (token_fits script (skip script offset))
      (λ l f. gives_weaker
      (element_inside (length script) (read_group script fuel) (group_inside fuel) depth (skip script offset) l.size l.token s.1 f)
      (λ g i. (omega arith, i.1)))

  -- Any two fuels above the number of bytes left give the same answer.
  pub group_fuel : (fuel more depth offset : ℕ)
      → offset ≤ length script
      → length script < offset + fuel
      → length script < offset + more
      → read_group script fuel depth offset ≡ read_group script more depth offset
  unfolding read_group
  group_fuel zero more depth offset h k l = absurd (omega arith)
  group_fuel (suc fuel) zero depth offset h k l = absurd (omega arith)
  group_fuel (suc fuel) (suc more) depth offset h k l =
      let s = skip_le script offset h in
      then_same (token_fits script (skip script offset))
      (λ t f. element_same (length script) (read_group script fuel) (read_group script more) depth (skip script offset) t.size t.token
      (group_inside fuel)
      (λ d o a b. group_fuel fuel more d o b (omega arith) (omega arith))
      s.1
      f)

  -- ---- the theorems

  -- A group that opens before `offset` is read to an offset after that, within the script.
  pub group_takes : (depth offset : ℕ) → offset ≤ length script → Gives (Inside (length script) offset) (read_group script (length script) depth offset)
  group_takes = group_inside (length script)

  -- The fuel with which the definition reads a group, whose brace has been passed, suffices: more changes nothing.
  pub group_suffices : (extra depth offset : ℕ)
      → 1 ≤ offset
      → offset ≤ length script
      → read_group script (length script + extra) depth offset ≡ read_group script (length script) depth offset
  group_suffices extra depth offset h k =
      group_fuel (length script + extra) (length script) depth offset k (omega arith) (omega arith)

  -- So the reading of a group is one token, and what follows it read in the same way: no fuel is to be seen.
  pub group_unrolls : (depth offset : ℕ)
      → 1 ≤ offset
      → offset ≤ length script
      → read_group script (length script) depth offset
      ≡ (lex (drop (skip script offset) script) >>= λ (l : Lexeme). element (read_group script (length script)) depth (skip script offset + l.size) l.token)
  unfolding read_group
  group_unrolls depth offset h k = group_fuel (length script) (suc (length script)) depth offset k (omega arith) (omega arith)

  -- A group that is read with some depth is read the same with more.
  pub deeper : (fuel : ℕ) → Deepens (read_group script fuel)
  unfolding read_group
  deeper zero d more offset g h e = absurd (fault_ok e)
  deeper (suc fuel) d more offset g h e =
      let (l, p, q) = then_ok _ _ e in
      ok_then _ p (element_deeper (read_group script fuel) (deeper fuel) l.token (skip script offset + l.size) d more offset g h q)
