-- The items of a group can be read again, one by one, each from the offset after the one before: so a substack is known by the offset of
-- its brace, and a running one by the offset of its next item. A group that stands inside another is read again as an outermost one.
-- Assumes nothing.
use Rattle.std.specs.Prelude.{◌≡◌, refl, List, ℕ, ◌+◌, ◌-◌, ◌≤◌, ◌<◌, length}
use Rattle.std.proofs.Common.{sym, ap, ◌∙◌, arith}
use Rattle.std.proofs.Math.Path.{subst}
use Rattle.semantics.specs.Values.{ok, ◌>>=◌}
use Rattle.forf_semantics.specs.Tokens.{Token, lexeme}
use Rattle.forf_semantics.specs.Items.{Item, number, word, group, Items, none, ◌then◌, Group, skip, onto, element, read_group, group_at, Taken, taken, token_item, take_token}
use Rattle.semantics.specs.ResultLaws.{gives_ok, then_ok, ok_one, fault_ok}
use Rattle.forf_semantics.specs.TokenLaws.{Fits}
use Rattle.forf_semantics.proofs.TokenLaws.{skip_le, token_fits}
use Rattle.forf_semantics.specs.GroupLaws.{Inside}
use Rattle.forf_semantics.proofs.GroupLaws.{group_takes, group_unrolls, deeper}
use Rattle.forf_semantics.specs.RestLaws.{Rest, TokenAt, ItemAt, number_at, word_at, group_at_lem, Next, an_item, no_item}

module _ (script : List ℕ) where
  -- What is read with some depth is the rest of a group.
  rest_from : (depth offset : ℕ) (g : Group)
      → 1 ≤ offset
      → offset ≤ length script
      → depth ≤ 15
      → read_group script (length script) depth offset ≡ ok g
      → Rest script offset g.items g.after
  unfolding group_at
  rest_from depth offset g h k d e = record { passed = h; inside = k; reads = deeper script (length script) depth 15 offset g d e }

  -- A group that begins with the token at an offset, and is read with some depth.
  group_from : (depth offset size : ℕ) (g : Group)
      → TokenAt script offset Token.open_brace size
      → Fits (length script - skip script offset) Token.open_brace size
      → skip script offset ≤ length script
      → depth ≤ 15
      → read_group script (length script) depth (skip script offset + size) ≡ ok g
      → ItemAt script offset (group g.items) g.after
  group_from depth offset size g t f h d e =
      let one : size ≡ 1 = f.1 in
      let inner = rest_from depth (skip script offset + size) g (omega arith) (omega arith) d e in
      group_at_lem (subst (TokenAt script offset Token.open_brace) one t) (subst (λ (s : ℕ). Rest script (skip script offset + s) g.items g.after) one inner)

  -- An item, and then the rest that is read after it.
  item_next : (offset after : ℕ) (x : Item) (g : Group)
      → ItemAt script offset x after
      → 1 ≤ offset
      → offset < after
      → after ≤ length script
      → (read_group script (length script) 15 after >>= onto x) ≡ ok g
      → Next script offset g.items g.after
  unfolding onto
  item_next offset after x g i h k l e =
      let (r, p, q) = then_ok (read_group script (length script) 15 after) (onto x) e in
      let rest = rest_from 15 after r (omega arith) l (omega arith) p in
      subst (λ (y : Group). Next script offset y.items y.after) (ok_one q) (an_item i k rest)

  element_next : (offset size : ℕ) (t : Token) (g : Group)
      → TokenAt script offset t size
      → Fits (length script - skip script offset) t size
      → 1 ≤ offset
      → offset ≤ skip script offset
      → skip script offset ≤ length script
      → element (read_group script (length script)) 15 (skip script offset + size) t ≡ ok g
      → Next script offset g.items g.after
  unfolding element
  element_next offset size (Token.integer w) g t f h j k e =
      item_next offset (skip script offset + size) (number w) g (number_at t) h (omega arith) (omega arith) e
  element_next offset size (Token.word n) g t f h j k e =
      item_next offset (skip script offset + size) (word n) g (word_at t f.2) h (omega arith) (omega arith) e
  element_next offset size Token.open_brace g t f h j k e =
      let start = skip script offset in
      let (r, p, q) = then_ok (read_group script (length script) 14 (start + size)) _ e in
      let i : Inside (length script) (start + size) r = gives_ok (group_takes script 14 (start + size) (omega arith)) p in
      item_next offset r.after (group r.items) g (group_from 14 offset size r t f k (omega arith) p) h (omega arith) i.1 q
  element_next offset size Token.close_brace g t f h j k e =
      let one : size ≡ 1 = f.1 in
      let last = no_item (subst (TokenAt script offset Token.close_brace) one t) in
      subst (λ (y : Group). Next script offset y.items y.after) (ap (λ (s : ℕ). record { items = none; after = skip script offset + s }) (sym one) ∙ ok_one e) last
  element_next offset size Token.end g t f h j k e = absurd (fault_ok e)

-- ---- the theorems

-- What is next in a group is read from its offset.
pub rest_next : {script : List ℕ} {offset : ℕ} {xs : Items} {end : ℕ} → Rest script offset xs end → Next script offset xs end
unfolding group_at lexeme
rest_next {script = script} {offset = offset} r =
    let s = skip_le script offset r.inside in
    let (l, p, q) = then_ok _ _ (sym (group_unrolls script 15 offset r.passed r.inside) ∙ r.reads) in
    element_next script offset l.size l.token _ (record { lexes = p }) (gives_ok (token_fits script (skip script offset)) p) r.passed s.0 s.1 q

-- With an item left, the next token is that item's, and what follows it are the other items.
pub rest_item : {script : List ℕ} {offset : ℕ} {x : Item} {xs : Items} {end : ℕ}
    → Rest script offset (x then xs) end
    → (after : ℕ) × ItemAt script offset x after × (offset < after) × Rest script after xs end
rest_item r = by (rest_next r)
  where
    by : {script : List ℕ} {offset : ℕ} {x : Item} {xs : Items} {end : ℕ}
        → Next script offset (x then xs) end
        → (after : ℕ) × ItemAt script offset x after × (offset < after) × Rest script after xs end
    by (an_item {after = after} i h r) = (after, i, h, r)

-- With none left, the next token is the closing brace.
pub rest_none : {script : List ℕ} {offset end : ℕ}
    → Rest script offset none end
    → TokenAt script offset Token.close_brace 1 × (end ≡ skip script offset + 1)
rest_none r = by (rest_next r)
  where
    by : {script : List ℕ} {offset end : ℕ} → Next script offset none end → TokenAt script offset Token.close_brace 1 × (end ≡ skip script offset + 1)
    by (no_item t) = (t, refl)

-- An item taken from the script is the next item from where the reading began.
token_at : (script : List ℕ) (offset size : ℕ) (t : Token) (k : Taken)
    → TokenAt script offset t size
    → Fits (length script - skip script offset) t size
    → skip script offset ≤ length script
    → token_item script (skip script offset + size) t ≡ ok k
    → ItemAt script offset k.item k.after
unfolding token_item taken group_at
token_at script offset size (Token.integer w) k t f h e =
    subst (λ (y : Taken). ItemAt script offset y.item y.after) (ok_one e) (number_at t)
token_at script offset size (Token.word n) k t f h e =
    subst (λ (y : Taken). ItemAt script offset y.item y.after) (ok_one e) (word_at t f.2)
token_at script offset size Token.open_brace k t f h e =
    let (g, p, q) = then_ok (read_group script (length script) 15 (skip script offset + size)) _ e in
    subst (λ (y : Taken). ItemAt script offset y.item y.after) (ok_one q) (group_from script 15 offset size g t f h (omega arith) p)
token_at script offset size Token.close_brace k t f h e = absurd (fault_ok e)
token_at script offset size Token.end k t f h e = absurd (fault_ok e)

pub taken_item : (script : List ℕ) (offset : ℕ) (k : Taken)
    → offset ≤ length script
    → take_token script (skip script offset) ≡ ok k
    → ItemAt script offset k.item k.after
unfolding take_token lexeme
taken_item script offset k h e =
    let (l, p, q) = then_ok _ _ e in
    token_at script offset l.size l.token k (record { lexes = p }) (gives_ok (token_fits script (skip script offset)) p) (skip_le script offset h).1 q
