-- A body gets one cell more, and a header is made: a cell on no list changes its owner, at one point of the ghost.
-- Assumes nothing.
use Prim.Native.Nat.{ℕ, zero, suc, ◌+◌, ◌-◌, ◌/◌, ◌%◌, ◌≤◌, ◌<◌}
use mathlib.Core.Path.{◌≡◌, refl, sym, ap, ◌∙◌}
use mathlib.Core.Bool.{false}
use mathlib.Core.List.{List}
use mathlib.Core.Logic.{◌⊎◌, inl, inr, ⊎_elim}
use native.Mathlib.Omega.{arith}
use lib.ListN.{length}
use lib.Dec.{eqb}
use Rattle.heap.specs.Word.{word, Put}
use Rattle.heap.specs.Upd.{upd, total}
use Rattle.heap.specs.Chain.{Owner, live, out, on}
use Rattle.heap.specs.Shape.{Ghost, Shape, Skip, Counts, Full, NoOut, OnlyOut, Header, cells, is_head, is_body, is_fresh, is_on, is, target, pushed, header_mark, first_unit, size_unit, scattered}
use Rattle.heap.specs.Grow.{Grows, Took, Filled, Longer}
use Rattle.heap.specs.declared.Lists.{Lists}
use Rattle.heap.proofs.Upds.{upd_same, upd_at, upd_other, same?, at_upd, upd_keeps, total_same, pick_zero}
use Rattle.heap.proofs.Chains.{push, chains_aside, out_on, out_live, live_on, on_list, on_rank, no_out_lem}
use Rattle.heap.proofs.Skips.{skips_aside, plain_aside}
use Rattle.heap.proofs.Shapes.{inside, header_of, push_counted, not_header, bare}
use Rattle.heap.proofs.Pops.{body_head}
use Rattle.heap.proofs.Falls.{is_same, is_other, true_false, body_object}
use Rattle.heap.proofs.Walks.{skip_plain}
use Rattle.heap.proofs.Since.{lt_or_le}
use Rattle.heap.proofs.Growing.{grows_trans}

target_null : (kind pay : ℕ) → target kind 0 pay ≡ 0
unfolding target
target_null kind pay = pick_zero (eqb kind 0)

pub total_none : (f : ℕ → ℕ) (n : ℕ) → ((x : ℕ) → x < n → f x ≡ 0) → total f n ≡ 0
unfolding total
total_none f zero h = refl
total_none f (suc n) h = omega (arith, total_none f n (λ x l. h x (omega arith)), h n (omega arith))

-- what is not out is not the cell c, which is, and stays
other_stays : (own : ℕ → Owner) (c : ℕ) (v : Owner) → own c ≡ out → (x : ℕ) {o : Owner} → own x ≡ o → (out ≡ o → ⊥) → (upd own c v x ≡ o) × (x ≡ c → ⊥)
other_stays own c v oc x q n = let r : x ≡ c → ⊥ = λ r. n (sym oc ∙ ap own (sym r) ∙ q) in (upd_other own c v x r ∙ q, r)

module _ (g : Ghost) (e p hand : ℕ) (m m' : List ℕ) (S : Shape g e m) (C : Counts g p hand m) (h c : ℕ) (lh : g.own h ≡ live) (oc : g.own c ≡ out) (long : length m' ≡ length m)
    (c0 : word m' c 0 ≡ 0) (c1 : word m' c 1 ≡ 0) (c2 : word m' c 2 ≡ g.top (h + 2))
    (c3 : (k : ℕ) → g.size (h + 2) ≡ suc k → Skip g.own (h + 2) k (word m' c 3)) (unmarked : word m' c 3 < header_mark)
    (h1 : Longer (word m h 1) (g.top (h + 2)) c (word m' h 1)) (h3 : word m' h 3 ≡ header_mark + c)
    (same : (x u : ℕ) → u < 4 → (x ≡ c → ⊥) → (x ≡ h → (u ≡ 0) ⊎ (u ≡ 2)) → word m' x u ≡ word m x u) where
  v : Owner
  v = on (h + 2) (g.size (h + 2))

  stays : (x : ℕ) {o : Owner} → g.own x ≡ o → (out ≡ o → ⊥) → (upd g.own c v x ≡ o) × (x ≡ c → ⊥)
  stays x = other_stays g.own c v oc x

  was_live : (x : ℕ) → upd g.own c v x ≡ live → (g.own x ≡ live) × (x ≡ c → ⊥)
  unfolding v
  was_live x = at_upd (λ w. w ≡ live → (g.own x ≡ live) × (x ≡ c → ⊥)) g.own c v x (λ r q. absurd (live_on (sym q))) (λ r q. (q, r))

  body_not_h : (d a k : ℕ) → g.own d ≡ on (a + 2) k → d ≡ h → ⊥
  body_not_h d a k q r = live_on (sym lh ∙ ap g.own (sym r) ∙ q)

  skip_stays : {s k w : ℕ} → Skip g.own s k w → Skip (upd g.own c v) s k w
  skip_stays K = record { lands = (stays _ K.lands out_on).0; lower = K.lower }

  -- the body of h stays side by side if c is next to its first cell
  side_more : (d k : ℕ) → word m' h 1 / scattered % 2 ≡ 0 → upd g.own c v d ≡ on (h + 2) k → d + suc (g.size (h + 2)) ≡ c + suc k
  unfolding v
  side_more d k b = at_upd (λ w. w ≡ on (h + 2) k → d + suc (g.size (h + 2)) ≡ c + suc k) g.own c v d
      (λ r q. omega (arith, on_rank q))
      (λ r q. ⊎_elim (λ (z : word m h 1 % size_unit ≡ 0). absurd (omega (arith, S.chains.above d (h + 2) k q, (header_of S h lh refl).0)))
      (λ (z : c ≡ g.top (h + 2) + 1). omega (arith, S.side h d k lh (h1.side b).0 q)) (h1.side b).1)

  side_other : (x d k : ℕ) → (x ≡ h → ⊥) → upd g.own c v x ≡ live → word m' x 1 / scattered % 2 ≡ 0 → upd g.own c v d ≡ on (x + 2) k → d + g.size (x + 2) ≡ g.top (x + 2) + suc k
  unfolding v
  side_other x d k n l b = let a = was_live x l in at_upd (λ w. w ≡ on (x + 2) k → d + g.size (x + 2) ≡ g.top (x + 2) + suc k) g.own c v d
      (λ r q. absurd (n (omega (arith, on_list q))))
      (λ r q. S.side x d k a.0 (rw (same x 1 (omega arith) a.1 (λ s. absurd (n s))) at b) q)

  pub grow_shape : Shape (pushed g (h + 2) c) e m'
  unfolding v
  grow_shape = record {
    chains = push g.own g.top g.size (λ d. word m d 2) (λ d. word m' d 2) S.chains c (h + 2) (λ s k q. out_on (sym oc ∙ q)) c2
        (λ d s k q. same d 2 (omega arith) (stays d q out_on).1 (λ _. inr refl));
    few = rw long S.few;
    within = rw long S.within;
    low = λ d. upd_keeps is_fresh g.own c v d (sym (ap is_fresh oc)) ∙ S.low d;
    header = λ x. ⊎_elim
        (λ (q : x ≡ h). rw (q, (stays h lh out_live).0, upd_same g.size (h + 2) (suc (g.size (h + 2))), upd_same g.top (h + 2) c)
        (h1.more ∙ ap suc (header_of S h lh refl).0, omega (arith, h3, (inside S c oc refl).0, S.few), omega (arith, h3)))
        (λ (q : x ≡ h → ⊥). rw (upd_other g.size (h + 2) (suc (g.size (h + 2))) (x + 2) (λ r. q (omega arith)), upd_other g.top (h + 2) c (x + 2) (λ r. q (omega arith)))
        (at_upd (λ w. Header (is_head w) (g.size (x + 2)) (g.top (x + 2)) (word m' x 1) (word m' x 3)) g.own c v x
        (λ r. rw (body_head h, r) (bare S c (ap is_head oc)))
        (λ r. rw (same x 1 (omega arith) r (λ s. absurd (q s)), same x 3 (omega arith) r (λ s. absurd (q s))) (S.header x))))
        (same? x h);
    counted = rw long (push_counted g.own g.size (cells m) c (h + 2) (g.size (h + 2)) (inside S c oc refl).0 (λ t. ap (is_on t) oc) S.counted);
    skips = λ d s k l. at_upd (λ w. w ≡ on s (suc k) → Skip (upd g.own c v) s k (word m' d 3)) g.own c v d
        (λ r q. rw (r, ← on_list q) (skip_stays (c3 k (on_rank q))))
        (λ r q. rw (same d 3 (omega arith) r (λ t. absurd (live_on (sym lh ∙ ap g.own (sym t) ∙ q)))) (skip_stays (S.skips d s k l q)));
    plain = λ d s k l. at_upd (λ w. w ≡ on s k → word m' d 3 < header_mark) g.own c v d
        (λ r q. rw r unmarked)
        (λ r q. rw (same d 3 (omega arith) r (λ t. absurd (live_on (sym lh ∙ ap g.own (sym t) ∙ q)))) (S.plain d s k l q));
    side = λ x d k l b q. ⊎_elim
        (λ (r : x ≡ h). rw (r, upd_same g.size (h + 2) (suc (g.size (h + 2))), upd_same g.top (h + 2) c) (side_more d k (rw r at b) (rw r at q)))
        (λ (r : x ≡ h → ⊥). rw (upd_other g.size (h + 2) (suc (g.size (h + 2))) (x + 2) (λ t. r (omega arith)), upd_other g.top (h + 2) c (x + 2) (λ t. r (omega arith)))
        (side_other x d k r l b q))
        (same? x h);
  }

  pub grow_counts : Counts (pushed g (h + 2) c) p hand m'
  unfolding v
  grow_counts = record {
    places = rw long C.places;
    aimed = λ x y l q. (stays y (C.aimed x y l q) out_live).0;
    held = λ y q. (stays y (C.held y q) out_live).0;
    count = λ y l. let b = was_live y l in rw (same y 2 (omega arith) b.1 (λ _. inr refl)) (C.count y b.0);
    some = λ y l. let b = was_live y l in rw (same y 2 (omega arith) b.1 (λ _. inr refl)) (C.some y b.0);
    body = λ d a k. at_upd (λ w. w ≡ on (a + 2) k → g.aim d ≡ target (word m' a 0) (word m' d 0) (word m' d 1)) g.own c v d
        (λ r q. rw (r, c0, target_null) (C.other c (inside S c oc refl).0 (ap is_body oc)))
        (λ r q. rw (
          same a 0 (omega arith) (not_header S c (ap is_head oc) d a k q) (λ _. inl refl),
          same d 0 (omega arith) r (λ _. inl refl),
          same d 1 (omega arith) r (λ s. absurd (body_not_h d a k q s)),
        ) (C.body d a k q));
    other = λ d l. at_upd (λ w. is_body w ≡ false → g.aim d ≡ 0) g.own c v d (λ r f. absurd (true_false (sym (body_object h 0) ∙ f))) (λ r f. C.other d (rw long at l) f);
  }

  pub grow_grows : Grows h g m (pushed g (h + 2) c) m'
  unfolding v
  grow_grows = record {
    lives = λ d n q. let b = stays d q out_live in (
      b.0,
      upd_other g.size (h + 2) (suc (g.size (h + 2))) (d + 2) (λ r. n (omega arith)),
      same d 0 (omega arith) b.1 (λ r. absurd (n r)),
      same d 1 (omega arith) b.1 (λ r. absurd (n r)),
      same d 3 (omega arith) b.1 (λ r. absurd (n r)),
    );
    lived = λ d n q. (was_live d q).0;
    kind = λ q. same h 0 (omega arith) (stays h lh out_live).1 (λ _. inl refl);
    keeps = λ d a k q. let b = stays d q out_on in (b.0, same d 0 (omega arith) b.1 (λ _. inl refl), same d 1 (omega arith) b.1 (λ r. absurd (body_not_h d a k q r)));
    kept = λ d a k. at_upd (λ w. w ≡ on (a + 2) k → (g.own d ≡ on (a + 2) k) ⊎ ((a ≡ h) × (word m' d 0 ≡ 0) × (word m' d 1 ≡ 0))) g.own c v d
        (λ r q. inr (omega (arith, on_list q), rw r c0, rw r c1)) (λ r q. inl q);
    aims = λ x. refl;
    long = long;
  }

module _ (g : Ghost) (e p : ℕ) (m m' : List ℕ) (S : Shape g e m) (C : Counts g p 0 m) (h : ℕ) (oh : g.own h ≡ out) (long : length m' ≡ length m)
    (w1 : word m' h 1 ≡ 0) (w2 : word m' h 2 ≡ 1) (w3 : word m' h 3 ≡ header_mark) (same : (x u : ℕ) → u < 4 → (x ≡ h → ⊥) → word m' x u ≡ word m x u) where
  -- the header h lives
  abbrev born : Ghost
  born = record { own = upd g.own h live; top = upd g.top (h + 2) 0; size = g.size; aim = g.aim }

  stay : (x : ℕ) {o : Owner} → g.own x ≡ o → (out ≡ o → ⊥) → (upd g.own h live x ≡ o) × (x ≡ h → ⊥)
  stay x = other_stays g.own h live oh x

  was_on : (d s k : ℕ) → upd g.own h live d ≡ on s k → g.own d ≡ on s k
  was_on d s k = at_upd (λ w. w ≡ on s k → g.own d ≡ on s k) g.own h live d (λ r q. absurd (live_on q)) (λ r q. q)

  pub head_shape : Shape born e m'
  head_shape = record {
    chains = chains_aside g.own g.top (upd g.top (h + 2) 0) g.size (λ c. word m c 2) (λ c. word m' c 2) h live (λ s k q. out_on (sym oh ∙ q)) (λ s k q. live_on q)
        (λ s k q. upd_other g.top (h + 2) 0 s (λ r. omega (arith, ap g.size r, bare S h (ap is_head oh)))) (λ c s k q. same c 2 (omega arith) (stay c q out_on).1) S.chains;
    few = rw long S.few;
    within = rw long S.within;
    low = λ d. upd_keeps is_fresh g.own h live d (sym (ap is_fresh oh)) ∙ S.low d;
    header = λ x. at_upd (λ w. Header (is_head w) (g.size (x + 2)) (upd g.top (h + 2) 0 (x + 2)) (word m' x 1) (word m' x 3)) g.own h live x
        (λ r. rw (r, upd_same g.top (h + 2) 0) (omega (arith, w1, bare S h (ap is_head oh)), omega (arith, w3), omega (arith, w3)))
        (λ r. rw (upd_other g.top (h + 2) 0 (x + 2) (λ s. r (omega arith)), same x 1 (omega arith) r, same x 3 (omega arith) r) (S.header x));
    counted = rw long (λ t. total_same (λ c. is_on t (g.own c)) (λ c. is_on t (upd g.own h live c)) (cells m) (λ c _. upd_keeps (is_on t) g.own h live c (sym (ap (is_on t) oh))) ∙ S.counted t);
    skips = skips_aside S h out live oh refl refl m' (λ x s k q. same x 3 (omega arith) (stay x q out_on).1);
    plain = plain_aside S h out live oh refl refl m' (λ x s k q. same x 3 (omega arith) (stay x q out_on).1) (λ s k n q. absurd (live_on q));
    side = λ x d k l b q.
        let o = was_on d (x + 2) k q in
        let n : x ≡ h → ⊥ = not_header S h (ap is_head oh) d x k o in
        rw (upd_other g.top (h + 2) 0 (x + 2) (λ r. n (omega arith))) (S.side x d k (sym (upd_other g.own h live x n) ∙ l) (rw (same x 1 (omega arith) n) at b) o);
  }

  pub head_counts : Counts born p (suc h) m'
  head_counts = record {
    places = rw long C.places;
    aimed = λ x y l q. (stay y (C.aimed x y l q) out_live).0;
    held = λ y q. upd_at g.own h live y (omega arith);
    count = λ y. ⊎_elim
        (λ (q : y ≡ h). λ _. rw (q, w2) (omega (arith, is_same h (suc h) refl, total_none (λ x. is h (g.aim x)) p (λ x l. is_other h (g.aim x) (λ r. out_live (sym oh ∙ C.aimed x h l r))))))
        (λ (q : y ≡ h → ⊥). λ l. rw (same y 2 (omega arith) q) (omega (
          arith,
          C.count y (sym (upd_other g.own h live y q) ∙ l),
          is_other y (suc h) (λ r. q (omega arith)),
          is_other y 0 (λ r. omega arith),
        )))
        (same? y h);
    some = λ y. ⊎_elim (λ (q : y ≡ h). λ _. rw (q, w2) (omega arith)) (λ (q : y ≡ h → ⊥). λ l. rw (same y 2 (omega arith) q) (C.some y (sym (upd_other g.own h live y q) ∙ l))) (same? y h);
    body = λ d a k q. let b = was_on d (a + 2) k q in let r = (stay d b out_on).1 in rw (
      same a 0 (omega arith) (not_header S h (ap is_head oh) d a k b),
      same d 0 (omega arith) r,
      same d 1 (omega arith) r,
    ) (C.body d a k b);
    other = λ d l f. C.other d (rw long at l) (rw (upd_keeps is_body g.own h live d (sym (ap is_body oh))) at f);
  }

  pub head_grows : Grows h g m born m'
  head_grows = record {
    lives = λ d n q. (upd_other g.own h live d n ∙ q, refl, same d 0 (omega arith) n, same d 1 (omega arith) n, same d 3 (omega arith) n);
    lived = λ d n q. sym (upd_other g.own h live d n) ∙ q;
    kind = λ q. absurd (out_live (sym oh ∙ q));
    keeps = λ d a k q. let b = stay d q out_on in (b.0, same d 0 (omega arith) b.1, same d 1 (omega arith) b.1);
    kept = λ d a k q. inl (was_on d (a + 2) k q);
    aims = λ x. refl;
    long = long;
  }

-- the two, as the code does them
pub grown : {g : Ghost} {p hand h c first n w was v : ℕ} {s r : Lists} {m m₁ m₂ m₃ : List ℕ} → Full g p hand s m → g.own h ≡ live → Took s m c r → first ≡ word m h 3 % first_unit → was ≡ word m h 1 → n ≡ was % size_unit
    → ((g : Ghost) (e s : ℕ) → Shape g e m → 2 ≤ s → g.size s ≡ n → g.top s ≡ first → (k : ℕ) → n ≡ suc k → Skip g.own s k w) → (n ≡ 0 → w ≡ first)
    → Filled m c first w m₁ → Put m₁ h 3 (header_mark + c) m₂ → Put m₂ h 1 v m₃ → Longer was first c v
    → (g' : Ghost) × Full g' p hand r m₃ × Grows h g m g' m₃ × (g'.own h ≡ live) × (g'.size (h + 2) ≡ 1 + g.size (h + 2)) × (NoOut g → NoOut g')
    × (word m₃ h 1 / size_unit % 2 ≡ word m h 1 / size_unit % 2)
grown {g} {p} {hand} {h} {c} {first} {n} {w} {was} {v} {s} {r} {m} {m₁} {m₂} {m₃} F l T ef ew es K K₀ Fi P₂ P₃ L =
    let X = T p hand g F in
    let g₁ = X.0 in
    let S = X.1.heap.shape in
    let hc : h ≡ c → ⊥ = λ q. out_live (sym X.2 ∙ ap g₁.own (sym q) ∙ l₁ X) in
    let head = header_of S h (l₁ X) refl in
    let top : first ≡ g₁.top (h + 2) = omega (arith, head.1) in
    let en : n ≡ word m h 1 % size_unit = es ∙ ap (λ x. x % size_unit) ew in
    let same : (x u : ℕ) → u < 4 → (x ≡ c → ⊥) → (x ≡ h → (u ≡ 0) ⊎ (u ≡ 2)) → word m₃ x u ≡ word m x u =
    λ x u a b d. P₃.there x u a (λ q w. ⊎_elim (λ (z : u ≡ 0). omega arith) (λ (z : u ≡ 2). omega arith) (d q))
    ∙ P₂.there x u a (λ q w. ⊎_elim (λ (z : u ≡ 0). omega arith) (λ (z : u ≡ 2). omega arith) (d q)) ∙ Fi.there x u a b in
    let at_c : (u : ℕ) → u < 4 → word m₃ c u ≡ word m₁ c u = λ u a. P₃.there c u a (λ q _. hc (sym q)) ∙ P₂.there c u a (λ q _. hc (sym q)) in
    let long : length m₃ ≡ length m = P₃.size ∙ P₂.size ∙ Fi.size in
    let c0 = at_c 0 (omega arith) ∙ Fi.tag in
    let c1 = at_c 1 (omega arith) ∙ Fi.pay in
    let c2 = at_c 2 (omega arith) ∙ Fi.next ∙ top in
    let c3 : (k : ℕ) → g₁.size (h + 2) ≡ suc k → Skip g₁.own (h + 2) k (word m₃ c 3) =
    λ k z. rw (at_c 3 (omega arith), Fi.skip) (K g₁ _ (h + 2) S (omega arith) (sym head.0 ∙ sym en) (sym top) k (en ∙ head.0 ∙ z)) in
    let unmarked : word m₃ c 3 < header_mark = rw (at_c 3 (omega arith), Fi.skip) (⊎_elim (λ (q : 0 < n). skip_plain S (h + 2) (n - 1) w
    (K g₁ _ (h + 2) S (omega arith) (sym head.0 ∙ sym en) (sym top) (n - 1) (omega arith))) (λ (q : n ≤ 0). omega (arith, K₀ (omega arith))) (lt_or_le 0 n)) in
    let h1 : Longer (word m h 1) (g₁.top (h + 2)) c (word m₃ h 1) = rw (P₃.here, ← top, ← ew) L in
    let h3 = P₃.there h 3 (omega arith) (λ q w. omega arith) ∙ P₂.here in
    let H = X.1.heap in (
      pushed g₁ (h + 2) c,
      record {
        heap = record {
          shape = grow_shape g₁ _ p hand m m₃ S X.1.counts h c (l₁ X) X.2 long c0 c1 c2 c3 unmarked h1 h3 same;
          free = upd_other g₁.top (h + 2) c 0 (λ q. omega arith) ∙ H.free;
          listed = upd_other g₁.size (h + 2) (suc (g₁.size (h + 2))) 0 (λ q. omega arith) ∙ H.listed;
          work = upd_other g₁.top (h + 2) c 1 (λ q. omega arith) ∙ H.work;
          dead = upd_other g₁.size (h + 2) (suc (g₁.size (h + 2))) 1 (λ q. omega arith) ∙ H.dead;
        };
        counts = grow_counts g₁ _ p hand m m₃ S X.1.counts h c (l₁ X) X.2 long c0 c1 c2 c3 unmarked h1 h3 same;
      },
      grows_trans (X.3 h) (grow_grows g₁ _ p hand m m₃ S X.1.counts h c (l₁ X) X.2 long c0 c1 c2 c3 unmarked h1 h3 same) (λ _. l₁ X),
      upd_other g₁.own c (on (h + 2) (g₁.size (h + 2))) h hc ∙ l₁ X,
      upd_same g₁.size (h + 2) (suc (g₁.size (h + 2))) ∙ omega (arith, ((X.3 c).lives h hc l).1),
      λ n. no_out_lem g₁.own c (on (h + 2) (g₁.size (h + 2))) (X.4 n) (λ q. out_on (sym q)),
      h1.kept,
    )
  where
    -- h is not the cell taken
    l₁ : (X : (g' : Ghost) × Full g' p hand r m × (g'.own c ≡ out) × ((x : ℕ) → Grows x g m g' m) × (NoOut g → OnlyOut g' c)) → X.0.own h ≡ live
    l₁ X = ((X.3 (suc h)).lives h (λ q. omega arith) l).0

pub headed : {g : Ghost} {p h kind : ℕ} {s r : Lists} {m m₁ m₂ m₃ m₄ : List ℕ} → Full g p 0 s m → Took s m h r → Put m h 0 kind m₁ → Put m₁ h 1 0 m₂ → Put m₂ h 2 1 m₃ → Put m₃ h 3 header_mark m₄
    → (g' : Ghost) × Full g' p (suc h) r m₄ × Grows h g m g' m₄ × (g'.own h ≡ live) × (g'.size (h + 2) ≡ 0) × (word m₄ h 0 ≡ kind) × (g.own h ≡ live → ⊥) × (NoOut g → NoOut g')
    × ((c k : ℕ) → g.own c ≡ on (h + 2) k → ⊥) × (word m₄ h 1 / size_unit % 2 ≡ 0)
headed {g} {p} {h} {kind} {s} {r} {m} {m₁} {m₂} {m₃} {m₄} F T P₁ P₂ P₃ P₄ =
    let X = T p 0 g F in
    let g₁ = X.0 in
    let H = X.1.heap in
    let S = H.shape in
    let same : (x u : ℕ) → u < 4 → (x ≡ h → ⊥) → word m₄ x u ≡ word m x u = λ x u a b. P₄.there x u a (λ q _. b q) ∙ P₃.there x u a (λ q _. b q) ∙ P₂.there x u a (λ q _. b q) ∙ P₁.there x u a (λ q _. b q) in
    let long : length m₄ ≡ length m = P₄.size ∙ P₃.size ∙ P₂.size ∙ P₁.size in
    let w1 = P₄.there h 1 (omega arith) (λ q w. omega arith) ∙ P₃.there h 1 (omega arith) (λ q w. omega arith) ∙ P₂.here in
    let w2 = P₄.there h 2 (omega arith) (λ q w. omega arith) ∙ P₃.here in
    let was : g.own h ≡ live → g₁.own h ≡ live = λ q. ((X.3 (suc h)).lives h (λ w. omega arith) q).0 in (
      born g₁ _ p m m₄ S X.1.counts h X.2 long w1 w2 P₄.here same,
      record {
        heap = record {
          shape = head_shape g₁ _ p m m₄ S X.1.counts h X.2 long w1 w2 P₄.here same;
          free = upd_other g₁.top (h + 2) 0 0 (λ q. omega arith) ∙ H.free;
          listed = H.listed;
          work = upd_other g₁.top (h + 2) 0 1 (λ q. omega arith) ∙ H.work;
          dead = H.dead;
        };
        counts = head_counts g₁ _ p m m₄ S X.1.counts h X.2 long w1 w2 P₄.here same;
      },
      grows_trans (X.3 h) (head_grows g₁ _ p m m₄ S X.1.counts h X.2 long w1 w2 P₄.here same) was,
      upd_same g₁.own h live,
      bare S h (ap is_head X.2),
      P₄.there h 0 (omega arith) (λ q w. omega arith) ∙ P₃.there h 0 (omega arith) (λ q w. omega arith) ∙ P₂.there h 0 (omega arith) (λ q w. omega arith) ∙ P₁.here,
      λ q. out_live (sym X.2 ∙ was q),
      λ n. no_out_lem g₁.own h live (X.4 n) (λ q. out_live (sym q)),
      λ c k q. not_header S h (ap is_head X.2) c h k ((X.3 h).keeps c h k q).0 refl,
      omega (arith, w1),
    )
