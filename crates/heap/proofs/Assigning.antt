-- A count goes up, and a cell of an array and the hand change places: the sum of places that name an object changes at one place.
-- Assumes nothing.
use Prim.Native.Nat.{ℕ, suc, ◌+◌, ◌≤◌, ◌<◌}
use mathlib.Core.Path.{◌≡◌, refl, sym, ap, ◌∙◌}
use mathlib.Core.Bool.{false}
use mathlib.Core.List.{List}
use mathlib.Core.Logic.{◌⊎◌, inl, inr, ⊎_elim}
use native.Mathlib.Omega.{arith}
use lib.ListN.{length}
use lib.Dec.{eqb}
use Rattle.heap.specs.Word.{word, Put}
use Rattle.heap.specs.Chain.{live, on}
use Rattle.heap.specs.Shape.{Ghost, Shape, Counts, Full, is_head, is_body, is, target, first_object}
use Rattle.heap.specs.Assign.{aimed, Stored}
use Rattle.heap.specs.declared.Lists.{Lists}
use Rattle.heap.proofs.Upds.{at_upd, total_upd, total_bound}
use Rattle.heap.proofs.Chains.{live_on, on_list}
use Rattle.heap.proofs.Shapes.{inside, not_header, one_at_most, keep_shape, same_words}
use Rattle.heap.proofs.Pops.{body_head}
use Rattle.heap.proofs.Parts.{object, no_object}
use Rattle.heap.proofs.Falls.{is_other, true_false, body_object, recount_shape, recount_counts, in_hand, not_in_hand}

pub rises : {g : Ghost} {p o : ℕ} {s : Lists} {m m' : List ℕ} → Full g p 0 s m → g.own o ≡ live → Put m o 2 (word m o 2 + 1) m' → Full g p (suc o) s m'
rises {g} {p} {o} {s} {m} {m'} F l P =
    record {
      heap = record { shape = recount_shape l P F.heap.shape; free = F.heap.free; listed = F.heap.listed; work = F.heap.work; dead = F.heap.dead };
      counts = recount_counts l P (suc o) F.counts (λ h q. let r : h ≡ o = omega arith in rw r l) (omega arith) (in_hand o (word m o 2 + 1) (word m o 2) (omega arith)) (not_in_hand o);
    }

-- words 0 and 1 of a body cell are seen by no list and no header
pub element_shape : {g : Ghost} {e : ℕ} {m m' : List ℕ} (aim : ℕ → ℕ) (c a k : ℕ) → Shape g e m → g.own c ≡ on (a + 2) k → length m' ≡ length m
    → ((x u : ℕ) → u < 4 → (x ≡ c → (u ≡ 2) ⊎ (u ≡ 3)) → word m' x u ≡ word m x u)
    → Shape (record { own = g.own; top = g.top; size = g.size; aim = aim }) e m'
element_shape {g} aim c a k S oc long same = keep_shape aim S long (λ x s j q. same x 2 (omega arith) (λ _. inl refl))
    (λ h t. let n : h ≡ c → ⊥ = λ q. true_false (sym t ∙ ap (λ x. is_head (g.own x)) q ∙ ap is_head oc ∙ body_head a) in
    same_words (same h 1 (omega arith) (λ q. absurd (n q))) (same h 3 (omega arith) (λ q. absurd (n q))))
    (λ x s j n q. same x 3 (omega arith) (λ _. inr refl))

-- the value in hand and the one in the cell c change places
module _ (g : Ghost) (e p tag pay : ℕ) (m m₁ m₂ : List ℕ) (S : Shape g e m) (C : Counts g p (target 0 tag pay) m) (c a k : ℕ) (oc : g.own c ≡ on (a + 2) k) (w : word m a 0 ≡ 0)
    (P₁ : Put m c 0 tag m₁) (P₂ : Put m₁ c 1 pay m₂) where
  same : (x u : ℕ) → u < 4 → (x ≡ c → (u ≡ 2) ⊎ (u ≡ 3)) → word m₂ x u ≡ word m x u
  same x u l h = P₂.there x u l (λ q r. ⊎_elim (λ (z : u ≡ 2). omega arith) (λ (z : u ≡ 3). omega arith) (h q))
      ∙ P₁.there x u l (λ q r. ⊎_elim (λ (z : u ≡ 2). omega arith) (λ (z : u ≡ 3). omega arith) (h q))

  long : length m₂ ≡ length m
  long = P₂.size ∙ P₁.size

  no_head : is_head (g.own c) ≡ false
  no_head = ap is_head oc ∙ body_head a

  c_p : c < p
  c_p = omega (arith, (inside S c oc refl).0, C.places.0)

  not_live : (h : ℕ) → g.own h ≡ live → h ≡ c → ⊥
  not_live h l q = live_on (sym l ∙ ap g.own q ∙ oc)

  pub swap_shape : Shape (aimed g c (target 0 tag pay)) e m₂
  swap_shape = element_shape (aimed g c (target 0 tag pay)).aim c a k S oc long same

  pub swap_counts : Counts (aimed g c (target 0 tag pay)) p (g.aim c) m₂
  swap_counts = record {
    places = rw long C.places;
    aimed = λ x h l. at_upd (λ t. t ≡ suc h → g.own h ≡ live) g.aim c (target 0 tag pay) x (λ r q. C.held h q) (λ r q. C.aimed x h l q);
    held = λ h q. C.aimed c h c_p q;
    count = λ h l. rw (same h 2 (omega arith) (λ _. inl refl)) (omega (arith, C.count h l, total_upd (is h) g.aim p c (target 0 tag pay) c_p));
    some = λ h l. rw (same h 2 (omega arith) (λ _. inl refl)) (C.some h l);
    body = λ d b j q. at_upd (λ t. t ≡ target (word m₂ b 0) (word m₂ d 0) (word m₂ d 1)) g.aim c (target 0 tag pay) d
        (λ r. let ba : b ≡ a = omega (arith, on_list (sym q ∙ ap g.own r ∙ oc)) in
        rw (ba, r, same a 0 (omega arith) (λ s. absurd (not_header S c no_head c a k oc s)), w, P₂.there c 0 (omega arith) (λ s t. omega arith), P₁.here, P₂.here))
        (λ r. rw (same b 0 (omega arith) (λ s. absurd (not_header S c no_head d b j q s)), same d 0 (omega arith) (λ s. absurd (r s)), same d 1 (omega arith) (λ s. absurd (r s))) (C.body d b j q));
    other = λ d l f. at_upd (λ t. t ≡ 0) g.aim c (target 0 tag pay) d (λ r. absurd (true_false (sym (body_object a k) ∙ ap is_body (sym oc) ∙ ap (λ z. is_body (g.own z)) (sym r) ∙ f)))
        (λ r. C.other d (rw long at l) f);
  }

pub swaps : {g : Ghost} {p tag pay c k : ℕ} {s : Lists} {m m₁ m₂ : List ℕ} (a : ℕ) → Full g p (target 0 tag pay) s m → g.own c ≡ on (a + 2) k → word m a 0 ≡ 0 → Put m c 0 tag m₁ → Put m₁ c 1 pay m₂
    → Full (aimed g c (target 0 tag pay)) p (g.aim c) s m₂
swaps {g} {p} {tag} {pay} {c} {k} {s} {m} {m₁} {m₂} a F oc w P₁ P₂ =
    record {
      heap = record {
        shape = swap_shape g _ p tag pay m m₁ m₂ F.heap.shape F.counts c a k oc w P₁ P₂;
        free = F.heap.free;
        listed = F.heap.listed;
        work = F.heap.work;
        dead = F.heap.dead;
      };
      counts = swap_counts g _ p tag pay m m₁ m₂ F.heap.shape F.counts c a k oc w P₁ P₂;
    }

-- no count is above the number of places
pub count_le : {g : Ghost} {p : ℕ} {m : List ℕ} → Counts g p 0 m → (h : ℕ) → g.own h ≡ live → word m h 2 ≤ 65536
count_le {g} {p} C h l = omega (arith, C.count h l, is_other h 0 (λ q. omega arith), C.places.1, total_bound (λ x. is h (g.aim x)) p (λ x. one_at_most (eqb (g.aim x) (suc h))))

pub stored : {m m₀ m₁ m₂ : List ℕ} {c tag pay : ℕ} → length m₀ ≡ length m → ((x u : ℕ) → u < 4 → (u ≡ 2 → ⊥) → word m₀ x u ≡ word m x u) → Put m₀ c 0 tag m₁ → Put m₁ c 1 pay m₂ → Stored m c tag pay m₂
stored n h P Q = record {
  size = Q.size ∙ P.size ∙ n;
  tagged = Q.there _ 0 (omega arith) (λ q r. omega arith) ∙ P.here;
  paid = Q.here;
  there = λ x u l t k. Q.there x u l (λ q r. omega (arith, k q)) ∙ P.there x u l (λ q r. omega (arith, k q)) ∙ h x u l t;
}

-- what a cell names, by the words that were read
pub named : {t old was : ℕ} (kind tag pay : ℕ) → t ≡ target kind tag pay → kind ≡ 0 → old ≡ tag → was ≡ pay → first_object ≤ old → t ≡ suc was
named kind tag pay e k o w l = e ∙ object kind tag pay k (omega arith) ∙ ap suc (sym w)

pub unnamed : {t old : ℕ} (kind tag pay : ℕ) → t ≡ target kind tag pay → kind ≡ 0 → old ≡ tag → old < first_object → t ≡ 0
unnamed kind tag pay e k o l = e ∙ no_object kind tag pay k (omega arith)
