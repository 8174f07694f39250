-- A substack known by an offset: what is read from there. The laws say, by the next token, what its items are, and where its rest is known.
-- Assumes nothing.
use Rattle.std.specs.Prelude.{◌≡◌, refl, List, ℕ, ◌+◌, ◌-◌, ◌≤◌, length, drop}
use Rattle.std.proofs.Math.Path.{sym, ap}
use Rattle.std.proofs.Common.{◌∙◌, arith}
use Rattle.semantics.specs.Values.{ok, fault, ◌>>=◌}
use Rattle.forf_semantics.specs.Errors.{Result}
use Rattle.forf_semantics.specs.Tokens.{Token, Lexeme, lexeme, lex}
use Rattle.forf_semantics.specs.Items.{Item, number, word, group, Items, none, ◌then◌, Group, skip, onto, element, read_group, group_at, taken, token_item, take_token}
use Rattle.semantics.specs.ResultLaws.{gives_ok, then_ok, ok_one, fault_one, fault_ok}
use Rattle.forf_semantics.specs.TokenLaws.{Fits}
use Rattle.forf_semantics.proofs.TokenLaws.{skip_le, token_fits}
use Rattle.forf_semantics.specs.GroupLaws.{Inside}
use Rattle.forf_semantics.proofs.GroupLaws.{group_takes, group_unrolls, deeper}
use Rattle.forf_semantics.specs.RestLaws.{TokenAt}
use Rattle.forf_semantics.specs.EndLaws.{end_of, group_end}
use Rattle.forf_semantics.specs.declared.Error.{Error}
use Rattle.forf_semantics.specs.BodyLaws.{items_in, body_at, Known}

-- What is read is what is known there.
body_is : (script : List ℕ) (offset : ℕ) {g : Group} → group_at script offset ≡ ok g → body_at script offset ≡ g.items
unfolding body_at items_in
body_is script offset e = rw e refl

-- What is read inside another group, with less depth, is known too.
pub known_from : (script : List ℕ) (depth offset : ℕ) (g : Group)
    → 1 ≤ offset
    → offset ≤ length script
    → depth ≤ 15
    → read_group script (length script) depth offset ≡ ok g
    → Known script offset × (body_at script offset ≡ g.items)
unfolding group_at
known_from script depth offset g h k d e =
    let r = deeper script (length script) depth 15 offset g d e in
    (record { passed = h; inside = k; reads = (g, r) }, body_is script offset r)

-- Where a group ends does not depend on the depth with which it is read.
pub group_ends : (script : List ℕ) (depth offset : ℕ) (g : Group)
    → depth ≤ 15
    → read_group script (length script) depth offset ≡ ok g
    → group_end script 15 offset ≡ ok g.after
unfolding group_end end_of ◌>>=◌
group_ends script depth offset g h e = rw (deeper script (length script) depth 15 offset g h e) refl

module _ (script : List ℕ) (offset : ℕ) (known : Known script offset) where
  -- The group is read on from its next token, which fits the script.
  reads_on : (t : Token) (size : ℕ)
      → TokenAt script offset t size
      → element (read_group script (length script)) 15 (skip script offset + size) t ≡ ok known.reads.0
  unfolding group_at lexeme ◌>>=◌
  reads_on t size a =
      sym (group_unrolls script 15 offset known.passed known.inside
      ∙ ap (λ r. r >>= λ (l : Lexeme). element (read_group script (length script)) 15 (skip script offset + l.size) l.token) a.lexes)
      ∙ known.reads.1

  fits : (t : Token) (size : ℕ) → TokenAt script offset t size → Fits (length script - skip script offset) t size
  unfolding lexeme
  fits t size a = gives_ok (token_fits script (skip script offset)) a.lexes

  -- One item more than what is read after it.
  item_on : (x : Item) (after : ℕ)
      → offset ≤ after
      → after ≤ length script
      → (read_group script (length script) 15 after >>= onto x) ≡ ok known.reads.0
      → (body_at script offset ≡ x then body_at script after) × Known script after
  unfolding onto
  item_on x after h k e =
      let (r, p, q) = then_ok (read_group script (length script) 15 after) (onto x) e in
      let (there, is) = known_from script 15 after r (let l = known.passed in omega arith) k (omega arith) p in
      (body_is script offset known.reads.1 ∙ sym (ap (λ (g : Group). g.items) (ok_one q)) ∙ ap (λ (xs : Items). x then xs) (sym is), there)

  -- ---- the theorems: what the next token says

  pub body_number : (w size : ℕ)
      → TokenAt script offset (Token.integer w) size
      → (body_at script offset ≡ number w then body_at script (skip script offset + size)) × Known script (skip script offset + size)
  unfolding element
  body_number w size a =
      let s = skip_le script offset known.inside in
      let f = fits (Token.integer w) size a in
      item_on (number w) (skip script offset + size) (omega arith) (omega arith) (reads_on (Token.integer w) size a)

  pub body_word : (n : List ℕ) (size : ℕ)
      → TokenAt script offset (Token.word n) size
      → (body_at script offset ≡ word n then body_at script (skip script offset + size)) × Known script (skip script offset + size)
  unfolding element
  body_word n size a =
      let s = skip_le script offset known.inside in
      let f = fits (Token.word n) size a in
      item_on (word n) (skip script offset + size) (omega arith) (omega arith) (reads_on (Token.word n) size a)

  -- An inner group is known too, and what follows it where it ends.
  pub body_group : (size : ℕ)
      → TokenAt script offset Token.open_brace size
      → (end : ℕ)
      × (group_end script 15 (skip script offset + size) ≡ ok end)
      × (body_at script offset ≡ group (body_at script (skip script offset + size)) then body_at script end)
      × Known script (skip script offset + size)
      × Known script end
  unfolding element
  body_group size a =
      let after = skip script offset + size in
      let s = skip_le script offset known.inside in
      let f = fits Token.open_brace size a in
      let (i, p, q) = then_ok (read_group script (length script) 14 after) _ (reads_on Token.open_brace size a) in
      let n : Inside (length script) after i = gives_ok (group_takes script 14 after (omega arith)) p in
      let (inner, is) = known_from script 14 after i (omega arith) (omega arith) (omega arith) p in
      let (one, rest) = item_on (group i.items) i.after (omega arith) n.1 q in
      (i.after, group_ends script 14 after i (omega arith) p, one ∙ ap (λ (xs : Items). group xs then body_at script i.after) (sym is), inner, rest)

  pub body_close : (size : ℕ) → TokenAt script offset Token.close_brace size → body_at script offset ≡ none
  unfolding element
  body_close size a =
      body_is script offset known.reads.1 ∙ sym (ap (λ (g : Group). g.items) (ok_one (reads_on Token.close_brace size a)))

  -- There is a next token, and it is not the end.
  pub body_end : (size : ℕ) → TokenAt script offset Token.end size → ⊥
  unfolding element
  body_end size a = fault_ok (reads_on Token.end size a)

  pub body_fault : (e : Error) → lex (drop (skip script offset) script) ≡ fault e → ⊥
  unfolding group_at ◌>>=◌
  body_fault e f =
      fault_ok (sym (group_unrolls script 15 offset known.passed known.inside
      ∙ ap (λ r. r >>= λ (l : Lexeme). element (read_group script (length script)) 15 (skip script offset + l.size) l.token) f)
      ∙ known.reads.1)

-- ---- a group that the script's next token begins

module _ (script : List ℕ) (start size : ℕ) (opens : lex (drop start script) ≡ lexeme Token.open_brace size) where
  -- It is taken whole: the item is known by the offset after its brace, and the script goes on where it ends.
  pub take_group : (end : ℕ)
      → 1 ≤ start + size
      → start + size ≤ length script
      → group_end script 15 (start + size) ≡ ok end
      → (take_token script start ≡ taken (group (body_at script (start + size))) end) × Known script (start + size)
  unfolding take_token token_item taken group_at group_end end_of lexeme ◌>>=◌
  take_group end h k e =
      let (g, p, q) = then_ok (read_group script (length script) 15 (start + size)) _ e in
      let (known, is) = known_from script 15 (start + size) g h k (omega arith) p in
      (rw opens (rw p (rw is (ap (λ (n : ℕ). ok (record { item = group g.items; after = n })) (ok_one q)))), known)

  -- Its fault is the token's.
  pub take_fault : (e : Error) → group_end script 15 (start + size) ≡ fault e → take_token script start ≡ fault e
  unfolding take_token token_item group_at group_end end_of lexeme ◌>>=◌
  take_fault e f = rw opens (by (read_group script (length script) 15 (start + size)) f)
    where
      by : (r : Result Group)
          → (r >>= λ (g : Group). ok g.after) ≡ fault e
          → (r >>= λ (g : Group). taken (group g.items) g.after) ≡ fault e
      by (ok g) f = absurd (fault_ok (sym f))
      by (fault x) f = fault_one f
