-- The first cell of a dead header's body comes off it; and the counts and the step where a cell comes off a list. One point of the ghost changes.
-- Assumes nothing.
use Prim.Native.Nat.{ℕ, suc, ◌+◌, ◌%◌, ◌<◌}
use mathlib.Core.Path.{◌≡◌, refl, sym, ap, ◌∙◌}
use mathlib.Core.Bool.{false}
use mathlib.Core.List.{List}
use mathlib.Core.Logic.{◌⊎◌, inl, inr, ⊎_elim}
use native.Mathlib.Omega.{arith}
use borrow.Author.Tests.{ne_eqb}
use lib.ListN.{length}
use lib.Dec.{eqb}
use Rattle.heap.specs.Word.{word, Put}
use Rattle.heap.specs.Upd.{upd}
use Rattle.heap.specs.Chain.{live, out, on}
use Rattle.heap.specs.Shape.{Ghost, Shape, Counts, Step, cells, is_head, is_fresh, is, popped, emptied, header_mark, first_unit}
use Rattle.heap.proofs.Upds.{upd_same, upd_other, same?, at_upd, upd_keeps, total_upd}
use Rattle.heap.proofs.Chains.{pop_to, chains_nxt, out_live, live_on, on_list, keeps, was}
use Rattle.heap.proofs.Skips.{skips_keep, plain_keep}
use Rattle.heap.proofs.Shapes.{inside, list_le, pop_counted}

pub body_head : (a : ℕ) → eqb (a + 2) 1 ≡ false
body_head a = ne_eqb (a + 2) 1 (λ e. omega arith)

module _ (g : Ghost) (e : ℕ) (m m₁ m₂ : List ℕ) (S : Shape g e m) (d j n : ℕ) (o : g.own d ≡ on 1 j) (z : g.size (d + 2) ≡ suc n)
    (P₁ : Put m d 1 n m₁) (P₂ : Put m₁ d 3 (header_mark + word m (g.top (d + 2)) 2 % first_unit) m₂) where
  pub shed_word : (x u : ℕ) → u < 4 → ((i : ℕ) → g.own x ≡ on 1 i → (u ≡ 0) ⊎ (u ≡ 2)) → word m₂ x u ≡ word m x u
  shed_word x u l h = P₂.there x u l (λ q r. ⊎_elim (λ (w : u ≡ 0). omega arith) (λ (w : u ≡ 2). omega arith) (h j (ap g.own q ∙ o))) ∙
      P₁.there x u l (λ q r. ⊎_elim (λ (w : u ≡ 0). omega arith) (λ (w : u ≡ 2). omega arith) (h j (ap g.own q ∙ o)))

  -- the next cell, if there is one
  shed_next : (k : ℕ) → n ≡ suc k → word m (g.top (d + 2)) 2 % first_unit ≡ word m (g.top (d + 2)) 2
  shed_next k q =
      let o = S.chains.link (g.top (d + 2)) (d + 2) k (rw (← q) (S.chains.first (d + 2) n z)) in
      omega (arith, (inside S (word m (g.top (d + 2)) 2) o refl).0, S.few)

  pub shed_shape : Shape (emptied (popped g (d + 2) n (word m (g.top (d + 2)) 2 % first_unit)) (g.top (d + 2))) e m₂
  shed_shape = let b = g.top (d + 2) in let ob : g.own b ≡ on (d + 2) n = S.chains.first (d + 2) n z in record {
    chains = chains_nxt _ _ _ (λ c. word m c 2) (λ c. word m₂ c 2) (λ c s k p. shed_word c 2 (omega arith) (λ i q. inr refl)) (pop_to g.own g.top g.size
        (λ c. word m c 2) S.chains (d + 2) n z (word m b 2 % first_unit) shed_next);
    few = rw (P₂.size, P₁.size) S.few;
    within = rw (P₂.size, P₁.size) S.within;
    low = λ c. upd_keeps is_fresh g.own b out c (sym (ap is_fresh ob)) ∙ S.low c;
    header = λ x. ⊎_elim
        (λ (q : x ≡ d). rw (q, upd_other g.own b out d (λ r. omega (arith, on_list (sym o ∙ ap g.own r ∙ ob))), o, upd_same g.size (d + 2) n, upd_same g.top (d + 2) (word m b 2 % first_unit))
        (omega (arith, P₂.there d 1 (omega arith) (λ r s. omega arith), P₁.here, z, list_le S (d + 2), S.few), omega (arith, P₂.here), omega (arith, P₂.here)))
        (λ (q : x ≡ d → ⊥). rw (
          upd_keeps is_head g.own b out x (sym (ap is_head ob ∙ body_head d)),
          upd_other g.size (d + 2) n (x + 2) (λ r. q (omega arith)),
          upd_other g.top (d + 2) (word m b 2 % first_unit) (x + 2) (λ r. q (omega arith)),
          P₂.there x 1 (omega arith) (λ r s. q r),
          P₁.there x 1 (omega arith) (λ r s. q r),
          P₂.there x 3 (omega arith) (λ r s. q r),
          P₁.there x 3 (omega arith) (λ r s. q r),
        ) (S.header x))
        (same? x d);
    counted = rw (P₂.size, P₁.size) (pop_counted g.own g.size (cells m) b (d + 2) n (inside S b ob refl).0 ob z S.counted);
    skips = skips_keep S (upd g.own b out) m₂
        (λ x s k l q. let w = was g.own g.top g.size (λ c. word m c 2) S.chains (d + 2) n z x s k q in
        (w.0, shed_word x 3 (omega arith) (λ i r. absurd (omega (arith, on_list (sym w.0 ∙ r))))))
        (λ x s k l q h. keeps g.own g.top g.size (λ c. word m c 2) S.chains (d + 2) n z x s k q (λ y r. omega (arith, ap g.size y)));
    plain = plain_keep S (upd g.own b out) m₂
        (λ x s k l q. let w = was g.own g.top g.size (λ c. word m c 2) S.chains (d + 2) n z x s k q in
        (w.0, shed_word x 3 (omega arith) (λ i r. absurd (l (on_list (sym w.0 ∙ r))))));
    side = λ x c k l w q.
        let lx : g.own x ≡ live = at_upd (λ y. y ≡ live → g.own x ≡ live) g.own b out x (λ r y. absurd (out_live y)) (λ r y. y) l in
        let n₁ : x ≡ d → ⊥ = λ r. live_on (sym lx ∙ ap g.own r ∙ o) in
        rw (upd_other g.size (d + 2) n (x + 2) (λ r. n₁ (omega arith)), upd_other g.top (d + 2) (word m b 2 % first_unit) (x + 2) (λ r. n₁ (omega arith)))
        (S.side x c k lx (rw (shed_word x 1 (omega arith) (λ i r. absurd (live_on (sym lx ∙ r)))) at w)
        (was g.own g.top g.size (λ c. word m c 2) S.chains (d + 2) n z c (x + 2) k q).0);
  }

-- the counts and the step, for a cell that comes off list t, which is no body of a live header. Of the words, those of dead headers may change, but for word 0
module _ (g : Ghost) (e p : ℕ) (m m' : List ℕ) (S : Shape g e m) (C : Counts g p 0 m) (t n v : ℕ) (z : g.size t ≡ suc n)
    (nolive : (a : ℕ) → g.own a ≡ live → t ≡ a + 2 → ⊥) (long : length m' ≡ length m)
    (same : (x u : ℕ) → u < 4 → ((i : ℕ) → g.own x ≡ on 1 i → (u ≡ 0) ⊎ (u ≡ 2)) → word m' x u ≡ word m x u) where
  b : ℕ
  b = g.top t

  ob : g.own b ≡ on t n
  unfolding b
  ob = S.chains.first t n z

  bp : b < p
  bp = omega (arith, (inside S b ob refl).0, C.places.0)

  stays_live : (h : ℕ) → g.own h ≡ live → upd g.own b out h ≡ live
  stays_live h l = upd_other g.own b out h (λ q. live_on (sym l ∙ ap g.own q ∙ ob)) ∙ l

  was_live : (h : ℕ) → upd g.own b out h ≡ live → g.own h ≡ live
  was_live h = at_upd (λ w. w ≡ live → g.own h ≡ live) g.own b out h (λ q l. absurd (out_live l)) (λ q l. l)

  was_on : (c s k : ℕ) → upd g.own b out c ≡ on s k → (g.own c ≡ on s k) × (c ≡ b → ⊥)
  unfolding b
  was_on = was g.own g.top g.size (λ c. word m c 2) S.chains t n z

  live_word : (h u : ℕ) → u < 4 → g.own h ≡ live → word m' h u ≡ word m h u
  live_word h u w l = same h u w (λ i q. absurd (live_on (sym l ∙ q)))

  body_word : (c a k u : ℕ) → u < 4 → g.own c ≡ on (a + 2) k → word m' c u ≡ word m c u
  body_word c a k u w q = same c u w (λ i r. absurd (omega (arith, on_list (sym q ∙ r))))

  pub pop_counts : Counts (emptied (popped g t n v) (g.top t)) p (g.aim (g.top t)) m'
  unfolding b
  pop_counts = record {
    places = rw long C.places;
    aimed = λ x h l. at_upd (λ w. w ≡ suc h → upd g.own b out h ≡ live) g.aim b 0 x (λ q w. absurd (omega arith)) (λ q w. stays_live h (C.aimed x h l w));
    held = λ h w. stays_live h (C.aimed b h bp w);
    count = λ h l. rw (live_word h 2 (omega arith) (was_live h l)) (omega (arith, C.count h (was_live h l), total_upd (is h) g.aim p b 0 bp));
    some = λ h l. rw (live_word h 2 (omega arith) (was_live h l)) (C.some h (was_live h l));
    body = λ c a k q. let w = was_on c (a + 2) k q in
        rw (upd_other g.aim b 0 c w.1, same a 0 (omega arith) (λ i r. inl refl), body_word c a k 0 (omega arith) w.0, body_word c a k 1 (omega arith) w.0) (C.body c a k w.0);
    other = λ c l f. at_upd (λ w. w ≡ 0) g.aim b 0 c (λ q. refl) (λ q. C.other c (rw long at l) (rw (upd_other g.own b out c q) at f));
  }

  pub pop_step : Step p g m (emptied (popped g t n v) (g.top t)) m'
  unfolding b
  pop_step = record {
    alive = λ h l. let w = was_live h l in (w, upd_other g.size t n (h + 2) (λ q. nolive h w (sym q)), live_word h 0 (omega arith) w, live_word h 1 (omega arith) w, live_word h 3 (omega arith) w);
    body = λ c a k q. let w = was_on c (a + 2) k q in (w.0, upd_other g.aim b 0 c w.1, body_word c a k 0 (omega arith) w.0, body_word c a k 1 (omega arith) w.0);
    kept = λ c a k q l. upd_other g.own b out c (λ r. nolive a l (on_list (sym ob ∙ ap g.own (sym r) ∙ q))) ∙ q;
    roots = λ x l. upd_other g.aim b 0 x (λ q. omega (arith, (inside S b ob refl).0));
    dies = λ h l. inl (stays_live h l);
    long = long;
  }
