-- What the shape of the heap tells of one cell or one list, by projections and by sums; what it sees of the words; and a cell that is in no body goes on
-- a list and off it, which changes one point.
-- Assumes nothing.
use Prim.Native.Nat.{ℕ, suc, ◌+◌, ◌*◌, ◌/◌, ◌%◌, ◌≤◌, ◌<◌}
use mathlib.Core.Path.{◌≡◌, refl, sym, ap, ◌∙◌}
use mathlib.Core.Bool.{Bool, true, false}
use mathlib.Core.List.{List}
use mathlib.Core.Logic.{⊎_elim}
use native.Mathlib.Omega.{arith}
use borrow.Author.Tests.{leb-false, le-ltb}
use lib.ListN.{length}
use lib.Dec.{eqb}
use Rattle.heap.specs.Word.{word, Put}
use Rattle.heap.specs.Upd.{pick, upd, total}
use Rattle.heap.specs.Chain.{Owner, fresh, live, out, on}
use Rattle.heap.specs.Shape.{Ghost, Shape, Header, cells, is_head, is_body, is_fresh, is_on, pushed, popped, header_mark, first_unit, size_unit, scattered}
use Rattle.heap.proofs.Upds.{pick_same, pick_other, upd_at, upd_other, same?, at_upd, upd_keeps, total_upd, total_bound}
use Rattle.heap.proofs.Chains.{push, pop, chains_nxt, out_on, out_live, live_on, on_list}
use Rattle.heap.proofs.Skips.{skips_aside, plain_aside, side_aside}

-- a cell in use lies within the words
pub inside : {g : Ghost} {e : ℕ} {m : List ℕ} → Shape g e m → (c : ℕ) {o : Owner} → g.own c ≡ o → is_fresh o ≡ false → (c < cells m) × (c < e)
inside {g} {e} S c p f = let l : c < e = leb-false e c (sym (S.low c) ∙ ap is_fresh p ∙ f) in (omega (arith, S.within), l)

pub room : {g : Ghost} {e : ℕ} {m : List ℕ} → Shape g e m → (c : ℕ) {o : Owner} → g.own c ≡ o → is_fresh o ≡ false → c * 4 + 4 ≤ length m
room S c p f = omega (arith, (inside S c p f).0)

-- a header's words
pub header_of : {g : Ghost} {e : ℕ} {m : List ℕ} → Shape g e m → (h : ℕ) {o : Owner} → g.own h ≡ o → is_head o ≡ true → (word m h 1 % size_unit ≡ g.size (h + 2)) × (word m h 3 % first_unit ≡ g.top (h + 2)) × (header_mark ≤ word m h 3)
header_of S h p t = rw (ap is_head p ∙ t) at (S.header h)

-- what is no header has no body
pub bare : {g : Ghost} {e : ℕ} {m : List ℕ} → Shape g e m → (c : ℕ) → is_head (g.own c) ≡ false → g.size (c + 2) ≡ 0
bare S c f = rw f at (S.header c)

pub not_header : {g : Ghost} {e : ℕ} {m : List ℕ} → Shape g e m → (c : ℕ) → is_head (g.own c) ≡ false → (d a k : ℕ) → g.own d ≡ on (a + 2) k → a ≡ c → ⊥
not_header {g} S c f d a k q r = omega (arith, S.chains.above d (a + 2) k q, ap (λ z. g.size (z + 2)) r, bare S c f)

pub one_at_most : (b : Bool) → pick {X = ℕ} b 1 0 ≤ 1
one_at_most true = omega arith
one_at_most false = omega arith

is_on_le : (t : ℕ) (o : Owner) → is_on t o ≤ 1
is_on_le t fresh = omega arith
is_on_le t live = omega arith
is_on_le t out = omega arith
is_on_le t (on s k) = one_at_most (eqb s t)

pub on_same : (s t : ℕ) → s ≡ t → pick {X = ℕ} (eqb s t) 1 0 ≡ 1
on_same s t = pick_same s t 1 0

pub on_other : (s t : ℕ) → (s ≡ t → ⊥) → pick {X = ℕ} (eqb s t) 1 0 ≡ 0
on_other s t = pick_other s t 1 0

pub list_le : {g : Ghost} {e : ℕ} {m : List ℕ} → Shape g e m → (t : ℕ) → g.size t ≤ cells m
list_le {g} {e} {m} S t = omega (arith, S.counted t, total_bound (λ d. is_on t (g.own d)) (cells m) (λ d. is_on_le t (g.own d)))

-- a list has room for a cell that is on no list
pub list_lt : {g : Ghost} {e : ℕ} {m : List ℕ} → Shape g e m → (t c : ℕ) {o : Owner} → g.own c ≡ o → is_fresh o ≡ false → is_on t o ≡ 0 → g.size t < cells m
list_lt {g} {e} {m} S t c o f z = omega (
  arith,
  S.counted t,
  ap (is_on t) o ∙ z,
  on_same t t refl,
  total_upd (is_on t) g.own (cells m) c (on t 0) (inside S c o f).0,
  total_bound (λ d. is_on t (upd g.own c (on t 0) d)) (cells m) (λ d. is_on_le t (upd g.own c (on t 0) d)),
)

-- each list's count where the cell c, which is on none, goes on list s
pub push_counted : (own : ℕ → Owner) (size : ℕ → ℕ) (n c s k : ℕ) → c < n → ((t : ℕ) → is_on t (own c) ≡ 0) → ((t : ℕ) → total (λ d. is_on t (own d)) n ≡ size t)
    → (t : ℕ) → total (λ d. is_on t (upd own c (on s k) d)) n ≡ upd size s (suc (size s)) t
push_counted own size n c s k l z h t = ⊎_elim
    (λ (q : t ≡ s). rw (upd_at size s (suc (size s)) t q) (omega (arith, h t, z t, ap size q, on_same s t (sym q), total_upd (is_on t) own n c (on s k) l)))
    (λ (q : t ≡ s → ⊥). rw (upd_other size s (suc (size s)) t q) (omega (arith, h t, z t, on_other s t (λ r. q (sym r)), total_upd (is_on t) own n c (on s k) l)))
    (same? t s)

-- and where the first cell b of list s comes off
pub pop_counted : (own : ℕ → Owner) (size : ℕ → ℕ) (n b s k : ℕ) → b < n → own b ≡ on s k → size s ≡ suc k → ((t : ℕ) → total (λ d. is_on t (own d)) n ≡ size t)
    → (t : ℕ) → total (λ d. is_on t (upd own b out d)) n ≡ upd size s k t
pop_counted own size n b s k l o z h t = ⊎_elim
    (λ (q : t ≡ s). rw (upd_at size s k t q) (omega (arith, h t, ap (is_on t) o ∙ on_same s t (sym q), ap size q, total_upd (is_on t) own n b out l)))
    (λ (q : t ≡ s → ⊥). rw (upd_other size s k t q) (omega (arith, h t, ap (is_on t) o ∙ on_other s t (λ r. q (sym r)), total_upd (is_on t) own n b out l)))
    (same? t s)

-- words v1 and v3 of a header tell the same as w1 and w3: the size, whether the body is scattered, the first cell, and the mark
abbrev pub Alike : ℕ → ℕ → ℕ → ℕ → Type 0
Alike w1 w3 v1 v3 = (v1 % size_unit ≡ w1 % size_unit) × (v1 / scattered % 2 ≡ w1 / scattered % 2) × (v3 % first_unit ≡ w3 % first_unit) × (header_mark ≤ w3 → header_mark ≤ v3)

pub same_words : {w1 w3 v1 v3 : ℕ} → v1 ≡ w1 → v3 ≡ w3 → Alike w1 w3 v1 v3
same_words p q = (ap (λ w. w % size_unit) p, ap (λ w. w / scattered % 2) p, ap (λ w. w % first_unit) q, λ l. rw q l)

header_alike : (b : Bool) (z t w1 w3 v1 v3 : ℕ) → (b ≡ true → Alike w1 w3 v1 v3) → Header b z t w1 w3 → Header b z t v1 v3
header_alike true z t w1 w3 v1 v3 k h = let x = k refl in (x.0 ∙ h.0, x.2 ∙ h.1, x.3 h.2)
header_alike false z t w1 w3 v1 v3 k h = h

-- the shape sees the links and word 3 of cells on lists, and words 1 and 3 of headers; what places name it does not see
pub keep_shape : {g : Ghost} {e : ℕ} {m m' : List ℕ} (aim : ℕ → ℕ) → Shape g e m → length m' ≡ length m
    → ((c s k : ℕ) → g.own c ≡ on s k → word m' c 2 ≡ word m c 2)
    → ((h : ℕ) → is_head (g.own h) ≡ true → Alike (word m h 1) (word m h 3) (word m' h 1) (word m' h 3))
    → ((c s k : ℕ) → (s ≡ 1 → ⊥) → g.own c ≡ on s k → word m' c 3 ≡ word m c 3)
    → Shape (record { own = g.own; top = g.top; size = g.size; aim = aim }) e m'
keep_shape {g} {e} {m} {m'} aim S long link head aside = record {
  chains = chains_nxt g.own g.top g.size (λ c. word m c 2) (λ c. word m' c 2) link S.chains;
  few = rw long S.few;
  within = rw long S.within;
  low = S.low;
  header = λ h. header_alike (is_head (g.own h)) _ _ _ _ _ _ (head h) (S.header h);
  counted = rw long S.counted;
  skips = λ c s k l q. rw (aside c s (suc k) (λ r. omega arith) q) (S.skips c s k l q);
  plain = λ c s k n q. rw (aside c s k n q) (S.plain c s k n q);
  side = λ h c k l b q. S.side h c k l (sym (head h (ap is_head l)).1 ∙ b) q;
}

pub aim_shape : {g : Ghost} {e : ℕ} {m : List ℕ} (aim : ℕ → ℕ) → Shape g e m → Shape (record { own = g.own; top = g.top; size = g.size; aim = aim }) e m
aim_shape aim S = keep_shape aim S refl (λ c s k q. refl) (λ h t. same_words refl refl) (λ c s k n q. refl)

-- the cell c, which is on no list, goes on list t: a cell of no object on the free list, or a header on that of dead headers
module _ (g : Ghost) (e : ℕ) (m m' : List ℕ) (S : Shape g e m) (c t : ℕ) (o : Owner) (oc : g.own c ≡ o) (l : t < 2) (off : (s : ℕ) → is_on s o ≡ 0) (used : is_fresh o ≡ false)
    (apart : is_body o ≡ false) (kind : eqb t 1 ≡ is_head o) (w : (t ≡ 1 → ⊥) → word m c 3 < header_mark) (P : Put m c 2 (g.top t) m') where
  on_none : (s k : ℕ) → g.own c ≡ on s k → ⊥
  on_none s k q = omega (arith, off s, ap (is_on s) (sym oc ∙ q), on_same s s refl)

  pub push_shape : Shape (pushed g t c) e m'
  push_shape = record {
    chains = push g.own g.top g.size (λ d. word m d 2) (λ d. word m' d 2) S.chains c t on_none P.here
        (λ d s k q. P.there d 2 (omega arith) (λ r _. on_none s k (ap g.own (sym r) ∙ q)));
    few = rw P.size S.few;
    within = rw P.size S.within;
    low = λ d. upd_keeps is_fresh g.own c (on t (g.size t)) d (sym (ap is_fresh oc ∙ used)) ∙ S.low d;
    header = λ d. rw (
      upd_other g.size t (suc (g.size t)) (d + 2) (λ q. omega arith),
      upd_other g.top t c (d + 2) (λ q. omega arith),
      P.there d 1 (omega arith) (λ q r. omega arith),
      P.there d 3 (omega arith) (λ q r. omega arith),
      upd_keeps is_head g.own c (on t (g.size t)) d (kind ∙ sym (ap is_head oc)),
    ) (S.header d);
    counted = rw P.size (push_counted g.own g.size (cells m) c t (g.size t) (inside S c oc used).0 (λ s. ap (is_on s) oc ∙ off s) S.counted);
    skips = skips_aside S c o (on t (g.size t)) oc apart (le-ltb 1 t (omega arith)) m' (λ x s k q. P.there x 3 (omega arith) (λ r w. omega arith));
    plain = plain_aside S c o (on t (g.size t)) oc apart (le-ltb 1 t (omega arith)) m' (λ x s k q. P.there x 3 (omega arith) (λ r w. omega arith))
        (λ s k n q. rw (P.there c 3 (omega arith) (λ r w. omega arith)) (w (λ r. n (sym (on_list q) ∙ r))));
    side = side_aside S c o (on t (g.size t)) oc apart (le-ltb 1 t (omega arith)) m' (λ x s k q. P.there x 3 (omega arith) (λ r w. omega arith)) (λ q. live_on (sym q))
        (upd g.top t c) (upd g.size t (suc (g.size t))) (λ h. upd_other g.top t c (h + 2) (λ q. omega arith)) (λ h. upd_other g.size t (suc (g.size t)) (h + 2) (λ q. omega arith))
        (λ h. P.there h 1 (omega arith) (λ q r. omega arith));
  }

-- the first cell of list t comes off it: a free cell, or a dead header with no body
module _ (g : Ghost) (e : ℕ) (m : List ℕ) (S : Shape g e m) (t n : ℕ) (l : t < 2) (z : g.size t ≡ suc n) (none : g.size (g.top t + 2) ≡ 0) where
  pub pop_shape : Shape (popped g t n (word m (g.top t) 2)) e m
  pop_shape = let b = g.top t in let ob : g.own b ≡ on t n = S.chains.first t n z in record {
    chains = pop g.own g.top g.size (λ c. word m c 2) S.chains t n z;
    few = S.few;
    within = S.within;
    low = λ c. upd_keeps is_fresh g.own b out c (sym (ap is_fresh ob)) ∙ S.low c;
    header = λ x. rw (upd_other g.size t n (x + 2) (λ r. omega arith), upd_other g.top t (word m b 2) (x + 2) (λ r. omega arith))
        (at_upd (λ w. Header (is_head w) (g.size (x + 2)) (g.top (x + 2)) (word m x 1) (word m x 3)) g.own b out x (λ q. rw q none) (λ q. S.header x));
    counted = pop_counted g.own g.size (cells m) b t n (inside S b ob refl).0 ob z S.counted;
    skips = skips_aside S b (on t n) out ob (le-ltb 1 t (omega arith)) refl m (λ x s k q. refl);
    plain = plain_aside S b (on t n) out ob (le-ltb 1 t (omega arith)) refl m (λ x s k q. refl) (λ s k l q. absurd (out_on q));
    side = side_aside S b (on t n) out ob (le-ltb 1 t (omega arith)) refl m (λ x s k q. refl) out_live (upd g.top t (word m b 2)) (upd g.size t n)
        (λ h. upd_other g.top t (word m b 2) (h + 2) (λ r. omega arith)) (λ h. upd_other g.size t n (h + 2) (λ r. omega arith)) (λ h. refl);
  }
