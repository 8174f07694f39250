-- A cell goes on a list, and off it, at its front: every other cell keeps its list and its rank, so each fact has two cases.
-- Assumes nothing.
use Prim.Native.Nat.{ℕ, suc, ◌<◌, ◌≤◌}
use mathlib.Core.Path.{◌≡◌, refl, sym, ap, ◌∙◌}
use mathlib.Core.Logic.{⊎_elim}
use native.Mathlib.Omega.{arith}
use Rattle.heap.specs.Upd.{upd}
use Rattle.heap.specs.Chain.{Owner, fresh, live, out, on, Chains}
use Rattle.heap.proofs.Upds.{upd_same, upd_at, upd_other, same?, at_upd}

abbrev tag_of : Owner → ℕ
tag_of fresh = 0
tag_of live = 1
tag_of out = 2
tag_of (on s k) = 3

abbrev list_of : Owner → ℕ
list_of fresh = 0
list_of live = 0
list_of out = 0
list_of (on s k) = s

abbrev rank_of : Owner → ℕ
rank_of fresh = 0
rank_of live = 0
rank_of out = 0
rank_of (on s k) = k

pub on_list : {s t k j : ℕ} → on s k ≡ on t j → s ≡ t
on_list e = ap list_of e

pub on_rank : {s t k j : ℕ} → on s k ≡ on t j → k ≡ j
on_rank e = ap rank_of e

pub out_on : {s k : ℕ} → out ≡ on s k → ⊥
out_on e = omega (arith, ap tag_of e)

pub live_on : {s k : ℕ} → live ≡ on s k → ⊥
live_on e = omega (arith, ap tag_of e)

pub out_live : out ≡ live → ⊥
out_live e = omega (arith, ap tag_of e)

pub fresh_on : {s k : ℕ} → fresh ≡ on s k → ⊥
fresh_on e = omega (arith, ap tag_of e)

pub fresh_out : fresh ≡ out → ⊥
fresh_out e = omega (arith, ap tag_of e)

pub fresh_live : fresh ≡ live → ⊥
fresh_live e = omega (arith, ap tag_of e)

pub only_out : (own : ℕ → Owner) (c : ℕ) → ((x : ℕ) → own x ≡ out → ⊥) → (x : ℕ) → upd own c out x ≡ out → x ≡ c
only_out own c n x = at_upd (λ w. w ≡ out → x ≡ c) own c out x (λ r _. r) (λ r q. absurd (n x q))

pub no_out_lem : (own : ℕ → Owner) (c : ℕ) (v : Owner) → ((x : ℕ) → own x ≡ out → x ≡ c) → (v ≡ out → ⊥) → (x : ℕ) → upd own c v x ≡ out → ⊥
no_out_lem own c v o n x = at_upd (λ w. w ≡ out → ⊥) own c v x (λ r q. n q) (λ r q. r (o x q))

-- lists see only the links of their cells
pub chains_nxt : (own : ℕ → Owner) (top size nxt nxt' : ℕ → ℕ) → ((c s k : ℕ) → own c ≡ on s k → nxt' c ≡ nxt c) → Chains own top size nxt → Chains own top size nxt'
chains_nxt own top size nxt nxt' h K = record {
  above = K.above;
  link = λ c s k e. rw (h c s (suc k) e) (K.link c s k e);
  first = K.first;
  one = K.one;
}

-- what is on no list becomes something else that is on none: the first of an empty list may change, and the links of what is on no list
pub chains_aside : (own : ℕ → Owner) (top top' size nxt nxt' : ℕ → ℕ) (c : ℕ) (v : Owner) → ((s k : ℕ) → own c ≡ on s k → ⊥) → ((s k : ℕ) → v ≡ on s k → ⊥)
    → ((s k : ℕ) → size s ≡ suc k → top' s ≡ top s) → ((d s k : ℕ) → own d ≡ on s k → nxt' d ≡ nxt d) → Chains own top size nxt → Chains (upd own c v) top' size nxt'
chains_aside own top top' size nxt nxt' c v o n tops links K = record {
  above = λ d s k q. K.above d s k (was_on d s k q);
  link = λ d s k q. let b = was_on d s (suc k) q in rw (links d s (suc k) b) (stays_on (nxt d) s k (K.link d s k b));
  first = λ s k q. rw (tops s k q) (stays_on (top s) s k (K.first s k q));
  one = λ d d' s k q r. K.one d d' s k (was_on d s k q) (was_on d' s k r);
}
  where
    was_on : (d s k : ℕ) → upd own c v d ≡ on s k → own d ≡ on s k
    was_on d s k = at_upd (λ x. x ≡ on s k → own d ≡ on s k) own c v d (λ r q. absurd (n s k q)) (λ r q. q)

    stays_on : (d s k : ℕ) → own d ≡ on s k → upd own c v d ≡ on s k
    stays_on d s k q = upd_other own c v d (λ r. o s k (ap own (sym r) ∙ q)) ∙ q

-- c, which is on no list, goes on list t
module _ (own : ℕ → Owner) (top size nxt nxt' : ℕ → ℕ) (K : Chains own top size nxt) (c t : ℕ) (o : (s k : ℕ) → own c ≡ on s k → ⊥)
    (here : nxt' c ≡ top t) (there : (d s k : ℕ) → own d ≡ on s k → nxt' d ≡ nxt d) where
  -- a cell on a list is not c, and stays
  not_c : (d s k : ℕ) → own d ≡ on s k → d ≡ c → ⊥
  not_c d s k e q = o s k (ap own (sym q) ∙ e)

  stays : (d s k : ℕ) → own d ≡ on s k → upd own c (on t (size t)) d ≡ on s k
  stays d s k e = upd_other own c (on t (size t)) d (not_c d s k e) ∙ e

  pub push : Chains (upd own c (on t (size t))) (upd top t c) (upd size t (suc (size t))) nxt'
  push = record {
    above = λ d s k e. ⊎_elim
        (λ q. let p : on t (size t) ≡ on s k = sym (upd_at own c (on t (size t)) d q) ∙ e in
        rw (upd_at size t (suc (size t)) s (sym (on_list p))) (omega (arith, on_rank p)))
        (λ q. let p : own d ≡ on s k = sym (upd_other own c (on t (size t)) d q) ∙ e in
        ⊎_elim (λ r. rw (upd_at size t (suc (size t)) s r) (omega (arith, K.above d s k p, ap size r)))
        (λ r. rw (upd_other size t (suc (size t)) s r) (K.above d s k p)) (same? s t))
        (same? d c);
    link = λ d s k e. ⊎_elim
        (λ q. let p : on t (size t) ≡ on s (suc k) = sym (upd_at own c (on t (size t)) d q) ∙ e in
        rw (ap nxt' q, here) (stays (top t) s k (rw (← on_list p) (K.first t k (on_rank p)))))
        (λ q. let p : own d ≡ on s (suc k) = sym (upd_other own c (on t (size t)) d q) ∙ e in
        rw (there d s (suc k) p) (stays (nxt d) s k (K.link d s k p)))
        (same? d c);
    first = λ s k e. ⊎_elim
        (λ r. let p : suc (size t) ≡ suc k = sym (upd_at size t (suc (size t)) s r) ∙ e in
        let p' : size t ≡ k = omega arith in
        rw (upd_at top t c s r, upd_same own c (on t (size t)), r, p'))
        (λ r. let p : size s ≡ suc k = sym (upd_other size t (suc (size t)) s r) ∙ e in
        rw (upd_other top t c s r) (stays (top s) s k (K.first s k p)))
        (same? s t);
    one = λ d d' s k e e'. ⊎_elim
        (λ q. ⊎_elim (λ q'. q ∙ sym q')
        (λ q'. let p : on t (size t) ≡ on s k = sym (upd_at own c (on t (size t)) d q) ∙ e in
        let p' : own d' ≡ on s k = sym (upd_other own c (on t (size t)) d' q') ∙ e' in
        absurd (omega (arith, K.above d' s k p', on_rank p, ap size (on_list p)))) (same? d' c))
        (λ q. let p : own d ≡ on s k = sym (upd_other own c (on t (size t)) d q) ∙ e in
        ⊎_elim (λ q'. let p' : on t (size t) ≡ on s k = sym (upd_at own c (on t (size t)) d' q') ∙ e' in
        absurd (omega (arith, K.above d s k p, on_rank p', ap size (on_list p'))))
        (λ q'. K.one d d' s k p (sym (upd_other own c (on t (size t)) d' q') ∙ e')) (same? d' c))
        (same? d c);
  }

strict : (k n : ℕ) → k ≤ n → (k ≡ n → ⊥) → k < n
strict k n l ne = omega arith

-- the first cell of list t comes off it
module _ (own : ℕ → Owner) (top size nxt : ℕ → ℕ) (K : Chains own top size nxt) (t n : ℕ) (z : size t ≡ suc n) where
  -- a cell that is still on a list was there before
  pub was : (d s k : ℕ) → upd own (top t) out d ≡ on s k → (own d ≡ on s k) × (d ≡ top t → ⊥)
  was d s k e = ⊎_elim (λ q. absurd (out_on (sym (upd_at own (top t) out d q) ∙ e)))
      (λ q. (sym (upd_other own (top t) out d q) ∙ e, q)) (same? d (top t))

  -- a cell on a list stays unless it is the first of list t
  pub keeps : (d s k : ℕ) → own d ≡ on s k → (s ≡ t → k ≡ n → ⊥) → upd own (top t) out d ≡ on s k
  keeps d s k e ne = upd_other own (top t) out d
      (λ q. let p : on t n ≡ on s k = sym (K.first t n z) ∙ ap own (sym q) ∙ e in ne (sym (on_list p)) (sym (on_rank p))) ∙ e

  -- v is the next cell, if there is one
  pub pop_to : (v : ℕ) → ((k : ℕ) → n ≡ suc k → v ≡ nxt (top t)) → Chains (upd own (top t) out) (upd top t v) (upd size t n) nxt
  pop_to v next = record {
    above = λ d s k e. let p : (own d ≡ on s k) × (d ≡ top t → ⊥) = was d s k e in ⊎_elim
        (λ r. rw (upd_at size t n s r) (strict k n (omega (arith, K.above d s k p.0, ap size r)) (λ x. p.1 (K.one d (top t) s k p.0 (cc (K.first t n z))))))
        (λ r. rw (upd_other size t n s r) (K.above d s k p.0)) (same? s t);
    link = λ d s k e. let p : (own d ≡ on s (suc k)) × (d ≡ top t → ⊥) = was d s (suc k) e in
        keeps (nxt d) s k (K.link d s k p.0) (λ x y. omega (arith, K.above d s (suc k) p.0, ap size x));
    first = λ s k e. ⊎_elim
        (λ r. let p : n ≡ suc k = sym (upd_at size t n s r) ∙ e in
        rw (upd_at top t v s r, next k p)
        (keeps (nxt (top t)) s k (rw r (K.link (top t) t k (rw (← p) (K.first t n z)))) (λ x y. omega arith)))
        (λ r. let p : size s ≡ suc k = sym (upd_other size t n s r) ∙ e in
        rw (upd_other top t v s r) (keeps (top s) s k (K.first s k p) (λ x y. r x)))
        (same? s t);
    one = λ d d' s k e e'. K.one d d' s k (was d s k e).0 (was d' s k e').0;
  }

  pub pop : Chains (upd own (top t) out) (upd top t (nxt (top t))) (upd size t n) nxt
  pop = pop_to (nxt (top t)) (λ k e. refl)
