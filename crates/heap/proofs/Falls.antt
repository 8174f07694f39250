-- A count changes, and with it what is in hand; it goes down: the object lives on, or goes on the list of dead headers. And the counts where a cell of no
-- object changes lists.
-- Assumes nothing.
use Prim.Native.Nat.{ℕ, zero, suc, ◌+◌, ◌≤◌, ◌<◌}
use mathlib.Core.Path.{◌≡◌, refl, sym, ap, ◌∙◌}
use mathlib.Core.Bool.{Bool, true, false}
use mathlib.Core.List.{List}
use mathlib.Core.Logic.{inl, inr, ⊎_elim}
use native.Mathlib.Omega.{arith}
use borrow.Author.Tests.{le-leb}
use lib.ListN.{length}
use Rattle.heap.specs.Word.{word, Put}
use Rattle.heap.specs.Upd.{pick, upd, total}
use Rattle.heap.specs.Chain.{Owner, fresh, live, out, on}
use Rattle.heap.specs.Shape.{Ghost, Shape, Counts, Step, is_body, is_object, is, pushed}
use Rattle.heap.proofs.Upds.{pick_same, pick_other, upd_other, same?, at_upd, upd_keeps}
use Rattle.heap.proofs.Chains.{live_on, on_list}
use Rattle.heap.proofs.Shapes.{keep_shape, same_words, push_shape}

pub is_same : (h t : ℕ) → t ≡ suc h → is h t ≡ 1
is_same h t = pick_same t (suc h) 1 0

pub is_other : (h t : ℕ) → (t ≡ suc h → ⊥) → is h t ≡ 0
is_other h t = pick_other t (suc h) 1 0

pub total_zero : (f : ℕ → ℕ) (n x : ℕ) → total f n ≡ 0 → x < n → f x ≡ 0
unfolding total
total_zero f zero x e l = absurd (omega arith)
total_zero f (suc n) x e l = ⊎_elim (λ (q : x ≡ n). rw q (omega arith)) (λ (q : x ≡ n → ⊥). total_zero f n x (omega arith) (omega arith)) (same? x n)

-- the count of the live header o becomes v
module _ {g : Ghost} {m m' : List ℕ} {o v : ℕ} (l : g.own o ≡ live) (P : Put m o 2 v m') where
  pub recount_shape : {e : ℕ} → Shape g e m → Shape g e m'
  recount_shape S = keep_shape g.aim S P.size (λ c s k q. P.there c 2 (omega arith) (λ r _. live_on (sym l ∙ ap g.own (sym r) ∙ q)))
      (λ h t. same_words (P.there h 1 (omega arith) (λ q r. omega arith)) (P.there h 3 (omega arith) (λ q r. omega arith))) (λ c s k n q. P.there c 3 (omega arith) (λ r t. omega arith))

  -- and hand' is in hand for hand: v counts the difference
  pub recount_counts : {p hand : ℕ} (hand' : ℕ) → Counts g p hand m → ((h : ℕ) → hand' ≡ suc h → g.own h ≡ live) → 1 ≤ v → v + is o hand ≡ word m o 2 + is o hand'
      → ((h : ℕ) → (h ≡ o → ⊥) → is h hand' ≡ is h hand) → Counts g p hand' m'
  recount_counts hand' C held v1 change other = record {
    places = rw P.size C.places;
    aimed = C.aimed;
    held = held;
    count = λ h a. ⊎_elim
        (λ (q : h ≡ o). rw (q, P.here) (omega (arith, C.count o l)))
        (λ (q : h ≡ o → ⊥). rw (P.there h 2 (omega arith) (λ r _. q r)) (omega (arith, C.count h a, other h q)))
        (same? h o);
    some = λ h a. ⊎_elim (λ (q : h ≡ o). rw (q, P.here) v1) (λ (q : h ≡ o → ⊥). rw (P.there h 2 (omega arith) (λ r _. q r)) (C.some h a)) (same? h o);
    body = λ c a k q. rw (P.there a 0 (omega arith) (λ r s. omega arith), P.there c 0 (omega arith) (λ r s. omega arith), P.there c 1 (omega arith) (λ r s. omega arith)) (C.body c a k q);
    other = λ c r f. C.other c (rw P.size at r) f;
  }

-- an object in hand is named by one more than one that is not
pub in_hand : (o v w : ℕ) → v ≡ suc w → v + is o 0 ≡ w + is o (suc o)
in_hand o v w e = omega (arith, is_same o (suc o) refl, is_other o 0 (λ r. omega arith))

pub not_in_hand : (o h : ℕ) → (h ≡ o → ⊥) → is h (suc o) ≡ is h 0
not_in_hand o h n = is_other h (suc o) (λ r. n (omega arith)) ∙ sym (is_other h 0 (λ r. omega arith))

-- the count of o, which is v + 1, falls to v: what was in hand is let go
module _ (g : Ghost) (p : ℕ) (m m' : List ℕ) (o v : ℕ) (C : Counts g p (suc o) m) (w : word m o 2 ≡ suc v) (v1 : 1 ≤ v) (P : Put m o 2 v m') where
  pub drop_counts : Counts g p 0 m'
  drop_counts = recount_counts (C.held o refl) P 0 C (λ h q. absurd (omega arith)) v1 (sym (in_hand o (word m o 2) v w)) (λ h n. sym (not_in_hand o h n))

  pub drop_step : Step p g m g m'
  drop_step = record {
    alive = λ h a. (a, refl, P.there h 0 (omega arith) (λ r s. omega arith), P.there h 1 (omega arith) (λ r s. omega arith), P.there h 3 (omega arith) (λ r s. omega arith));
    body = λ c a k q. (q, refl, P.there c 0 (omega arith) (λ r s. omega arith), P.there c 1 (omega arith) (λ r s. omega arith));
    kept = λ c a k q _. q;
    roots = λ x _. refl;
    dies = λ h a. inl a;
    long = P.size;
  }

-- the count of o is 1, and o goes on the list of dead headers
module _ (g : Ghost) (e p : ℕ) (m m' : List ℕ) (S : Shape g e m) (o : ℕ) (C : Counts g p (suc o) m) (w : word m o 2 ≡ 1) (P : Put m o 2 (g.top 1) m') where
  own' : ℕ → Owner
  own' = upd g.own o (on 1 (g.size 1))

  lo : g.own o ≡ live
  lo = C.held o refl

  -- no place names o
  none : (x : ℕ) → x < p → g.aim x ≡ suc o → ⊥
  none x r q = omega (arith, is_same o (g.aim x) q, total_zero (λ y. is o (g.aim y)) p x (omega (arith, C.count o lo, is_same o (suc o) refl)) r)

  was_alive : (h : ℕ) → own' h ≡ live → (g.own h ≡ live) × (h ≡ o → ⊥)
  unfolding own'
  was_alive h = at_upd (λ x. x ≡ live → (g.own h ≡ live) × (h ≡ o → ⊥)) g.own o (on 1 (g.size 1)) h (λ q a. absurd (live_on (sym a))) (λ q a. (a, q))

  was_body : (c a k : ℕ) → own' c ≡ on (a + 2) k → g.own c ≡ on (a + 2) k
  unfolding own'
  was_body c a k = at_upd (λ x. x ≡ on (a + 2) k → g.own c ≡ on (a + 2) k) g.own o (on 1 (g.size 1)) c (λ q r. absurd (omega (arith, on_list r))) (λ q r. r)

  pub kill_shape : Shape (pushed g 1 o) e m'
  kill_shape = push_shape g e m m' S o 1 live lo (omega arith) (λ s. refl) refl refl refl (λ n. absurd (n refl)) P

  pub kill_counts : Counts (pushed g 1 o) p 0 m'
  unfolding own'
  kill_counts = record {
    places = rw P.size C.places;
    aimed = λ x h r q. upd_other g.own o (on 1 (g.size 1)) h (λ s. none x r (q ∙ ap suc s)) ∙ C.aimed x h r q;
    held = λ h q. absurd (omega arith);
    count = λ h a. let b = was_alive h a in
        rw (P.there h 2 (omega arith) (λ r _. b.1 r)) (omega (arith, C.count h b.0, is_other h (suc o) (λ r. b.1 (omega arith)), is_other h 0 (λ r. omega arith)));
    some = λ h a. let b = was_alive h a in rw (P.there h 2 (omega arith) (λ r _. b.1 r)) (C.some h b.0);
    body = λ c a k q. rw (
      P.there a 0 (omega arith) (λ r s. omega arith),
      P.there c 0 (omega arith) (λ r s. omega arith),
      P.there c 1 (omega arith) (λ r s. omega arith),
    ) (C.body c a k (was_body c a k q));
    other = λ c r f. C.other c (rw P.size at r) (rw (upd_keeps is_body g.own o (on 1 (g.size 1)) c (sym (ap is_body lo))) at f);
  }

  pub kill_step : Step p g m (pushed g 1 o) m'
  unfolding own'
  kill_step = record {
    alive = λ h a. (
      (was_alive h a).0,
      upd_other g.size 1 (suc (g.size 1)) (h + 2) (λ q. omega arith),
      P.there h 0 (omega arith) (λ r s. omega arith),
      P.there h 1 (omega arith) (λ r s. omega arith),
      P.there h 3 (omega arith) (λ r s. omega arith),
    );
    body = λ c a k q. (was_body c a k q, refl, P.there c 0 (omega arith) (λ r s. omega arith), P.there c 1 (omega arith) (λ r s. omega arith));
    kept = λ c a k q _. upd_other g.own o (on 1 (g.size 1)) c (λ r. live_on (sym lo ∙ ap g.own (sym r) ∙ q)) ∙ q;
    roots = λ x _. refl;
    dies = λ h a. ⊎_elim (λ (q : h ≡ o). inr (λ x r s. none x r (s ∙ ap suc q))) (λ (q : h ≡ o → ⊥). inl (upd_other g.own o (on 1 (g.size 1)) h q ∙ a)) (same? h o);
    long = P.size;
  }

pub true_false : true ≡ false → ⊥
true_false e = omega (arith, ap (λ (b : Bool). pick {X = ℕ} b 1 0) e)

pub body_object : (a k : ℕ) → is_object (on (a + 2) k) ≡ true
body_object a k = le-leb 2 (a + 2) (omega arith)

pub object_body : (o : Owner) → is_object o ≡ false → is_body o ≡ false
object_body fresh q = refl
object_body live q = refl
object_body out q = refl
object_body (on s k) q = q

-- the cell c, which is no object's, is of another kind that is no object's: the lists may change, and the words of c
module _ (g : Ghost) (p hand : ℕ) (m m' : List ℕ) (C : Counts g p hand m) (c : ℕ) (o v : Owner) (top size : ℕ → ℕ) (oc : g.own c ≡ o) (qo : is_object o ≡ false) (qv : is_object v ≡ false)
    (long : length m' ≡ length m) (same : (x u : ℕ) → u < 4 → (x ≡ c → ⊥) → word m' x u ≡ word m x u) where
  stays : (h : ℕ) → g.own h ≡ live → upd g.own c v h ≡ live
  stays h a = upd_other g.own c v h (λ q. true_false (ap is_object (sym a ∙ ap g.own q ∙ oc) ∙ qo)) ∙ a

  alive_was : (h : ℕ) → upd g.own c v h ≡ live → (g.own h ≡ live) × (h ≡ c → ⊥)
  alive_was h = at_upd (λ x. x ≡ live → (g.own h ≡ live) × (h ≡ c → ⊥)) g.own c v h (λ q a. absurd (true_false (ap is_object (sym a) ∙ qv))) (λ q a. (a, q))

  body_was : (d a k : ℕ) → upd g.own c v d ≡ on (a + 2) k → (g.own d ≡ on (a + 2) k) × (d ≡ c → ⊥)
  body_was d a k = at_upd (λ x. x ≡ on (a + 2) k → (g.own d ≡ on (a + 2) k) × (d ≡ c → ⊥)) g.own c v d
      (λ q r. absurd (true_false (sym (body_object a k) ∙ ap is_object (sym r) ∙ qv))) (λ q r. (r, q))

  body_stays : (d a k : ℕ) → g.own d ≡ on (a + 2) k → upd g.own c v d ≡ on (a + 2) k
  body_stays d a k q = upd_other g.own c v d (λ r. true_false (sym (body_object a k) ∙ ap is_object (sym q ∙ ap g.own r ∙ oc) ∙ qo)) ∙ q

  pub quiet_counts : ((x : ℕ) → word m' x 0 ≡ word m x 0) → Counts (record { own = upd g.own c v; top = top; size = size; aim = g.aim }) p hand m'
  quiet_counts w0 = record {
    places = rw long C.places;
    aimed = λ x h r q. stays h (C.aimed x h r q);
    held = λ h q. stays h (C.held h q);
    count = λ h a. let b = alive_was h a in rw (same h 2 (omega arith) b.1) (C.count h b.0);
    some = λ h a. let b = alive_was h a in rw (same h 2 (omega arith) b.1) (C.some h b.0);
    body = λ d a k q. let b = body_was d a k q in rw (w0 a, w0 d, same d 1 (omega arith) b.1) (C.body d a k b.0);
    other = λ d r f. ⊎_elim (λ (q : d ≡ c). C.other d (rw long at r) (rw (ap g.own q ∙ oc) (object_body o qo)))
        (λ (q : d ≡ c → ⊥). C.other d (rw long at r) (rw (upd_other g.own c v d q) at f)) (same? d c);
  }

  pub quiet_step : ((h : ℕ) → g.own h ≡ live → size (h + 2) ≡ g.size (h + 2)) → Step p g m (record { own = upd g.own c v; top = top; size = size; aim = g.aim }) m'
  quiet_step sz = record {
    alive = λ h a. let b = alive_was h a in (b.0, sz h b.0, same h 0 (omega arith) b.1, same h 1 (omega arith) b.1, same h 3 (omega arith) b.1);
    body = λ d a k q. let b = body_was d a k q in (b.0, refl, same d 0 (omega arith) b.1, same d 1 (omega arith) b.1);
    kept = λ d a k q _. body_stays d a k q;
    roots = λ x _. refl;
    dies = λ h a. inl (stays h a);
    long = long;
  }
