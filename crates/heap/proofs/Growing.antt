-- A cell comes off the free list, or is the first that was never used: what is made grows, and the rest stays.
-- Assumes nothing.
use Prim.Native.Nat.{ℕ, suc, ◌+◌, ◌-◌, ◌≤◌, ◌<◌}
use mathlib.Core.Path.{◌≡◌, refl, sym, ap, ◌∙◌}
use mathlib.Core.Bool.{true, false}
use mathlib.Core.List.{List}
use mathlib.Core.Logic.{◌⊎◌, inl, inr, ⊎_elim}
use native.Mathlib.Omega.{arith}
use borrow.Author.Tests.{le-leb, lt-leb}
use lib.Dec.{leb}
use Rattle.heap.specs.Word.{word}
use Rattle.heap.specs.Upd.{upd}
use Rattle.heap.specs.Chain.{Owner, fresh, live, out, on}
use Rattle.heap.specs.Shape.{Ghost, Shape, Full, NoOut, OnlyOut, cells, is_head, is_object, is_fresh, is_on, popped}
use Rattle.heap.specs.Grow.{Grows}
use Rattle.heap.specs.declared.Lists.{Lists}
use Rattle.heap.proofs.Upds.{upd_same, upd_at, upd_other, at_upd, upd_keeps, total_same}
use Rattle.heap.proofs.Chains.{chains_aside, out_on, out_live, fresh_on, only_out}
use Rattle.heap.proofs.Skips.{skips_aside, plain_aside, side_aside}
use Rattle.heap.proofs.Shapes.{bare, pop_shape}
use Rattle.heap.proofs.Since.{lt_or_le}
use Rattle.heap.proofs.Falls.{quiet_counts, true_false, body_object}

-- the changes one after the other
pub grows_trans : {h : ℕ} {g g₁ g₂ : Ghost} {m m₁ m₂ : List ℕ} → Grows h g m g₁ m₁ → Grows h g₁ m₁ g₂ m₂ → (g.own h ≡ live → g₁.own h ≡ live) → Grows h g m g₂ m₂
grows_trans A B l = record {
  lives = λ c n q. let a = A.lives c n q in let b = B.lives c n a.0 in (b.0, b.1 ∙ a.1, b.2 ∙ a.2, b.3 ∙ a.3, b.4 ∙ a.4);
  lived = λ c n q. A.lived c n (B.lived c n q);
  kind = λ q. B.kind (l q) ∙ A.kind q;
  keeps = λ c a k q. let x = A.keeps c a k q in let y = B.keeps c a k x.0 in (y.0, y.1 ∙ x.1, y.2 ∙ x.2);
  kept = λ c a k q. ⊎_elim (λ x. let y = B.keeps c a k x in ⊎_elim (λ z. inl z) (λ z. inr (z.0, y.1 ∙ z.1, y.2 ∙ z.2)) (A.kept c a k x)) (λ x. inr x) (B.kept c a k q);
  aims = λ x. B.aims x ∙ A.aims x;
  long = B.long ∙ A.long;
}

pub grows_refl : (h : ℕ) (g : Ghost) (m : List ℕ) → Grows h g m g m
grows_refl h g m = record {
  lives = λ c n q. (q, refl, refl, refl, refl);
  lived = λ c n q. q;
  kind = λ q. refl;
  keeps = λ c a k q. (q, refl, refl);
  kept = λ c a k q. inl q;
  aims = λ x. refl;
  long = refl;
}

-- a cell c that is no object's comes off the lists
module _ (g : Ghost) (m : List ℕ) (c : ℕ) (o : Owner) (top size : ℕ → ℕ) (oc : g.own c ≡ o) (qo : is_object o ≡ false) (sz : (h : ℕ) → size (h + 2) ≡ g.size (h + 2)) where
  pub took_grows : (h : ℕ) → Grows h g m (record { own = upd g.own c out; top = top; size = size; aim = g.aim }) m
  took_grows h = record {
    lives = λ d n q. (upd_other g.own c out d (λ r. true_false (ap is_object (sym q ∙ ap g.own r ∙ oc) ∙ qo)) ∙ q, sz d, refl, refl, refl);
    lived = λ d n. at_upd (λ x. x ≡ live → g.own d ≡ live) g.own c out d (λ r q. absurd (out_live q)) (λ r q. q);
    kind = λ q. refl;
    keeps = λ d a k q. (upd_other g.own c out d (λ r. true_false (sym (body_object a k) ∙ ap is_object (sym q ∙ ap g.own r ∙ oc) ∙ qo)) ∙ q, refl, refl);
    kept = λ d a k. at_upd (λ x. x ≡ on (a + 2) k → (g.own d ≡ on (a + 2) k) ⊎ ((a ≡ h) × (word m d 0 ≡ 0) × (word m d 1 ≡ 0))) g.own c out d (λ r q. absurd (out_on q)) (λ r q. inl q);
    aims = λ x. refl;
    long = refl;
  }

-- the first cell of the free list
pub picks : {g : Ghost} {p hand : ℕ} {s : Lists} {m : List ℕ} → Full g p hand s m → (s.listed ≡ 0 → ⊥)
    → (g' : Ghost) × Full g' p hand (record { free = word m s.free 2; listed = s.listed - 1; edge = s.edge; work = s.work; dead = s.dead }) m × (g'.own s.free ≡ out)
    × ((h : ℕ) → Grows h g m g' m) × (NoOut g → OnlyOut g' s.free)
picks {g} {p} {hand} {s} {m} F l =
    let S = F.heap.shape in let n = s.listed - 1 in let v = word m (g.top 0) 2 in
    let z : g.size 0 ≡ suc (s.listed - 1) = omega (arith, F.heap.listed) in
    let ob = S.chains.first 0 n z in (
      popped g 0 n v,
      record {
        heap = record {
          shape = pop_shape g _ m S 0 n (omega arith) z (bare S (g.top 0) (ap is_head ob));
          free = upd_same g.top 0 v ∙ rw F.heap.free;
          listed = upd_same g.size 0 n;
          work = upd_other g.top 0 v 1 (λ q. omega arith) ∙ F.heap.work;
          dead = upd_other g.size 0 n 1 (λ q. omega arith) ∙ F.heap.dead;
        };
        counts = quiet_counts g p hand m m F.counts (g.top 0) (on 0 n) out (upd g.top 0 v) (upd g.size 0 n) ob refl refl refl (λ x u h q. refl) (λ x. refl);
      },
      upd_at g.own (g.top 0) out s.free (sym F.heap.free),
      took_grows g m (g.top 0) (on 0 n) (upd g.top 0 v) (upd g.size 0 n) ob refl (λ h. upd_other g.size 0 n (h + 2) (λ q. omega arith)),
      λ n x q. only_out g.own (g.top 0) n x q ∙ F.heap.free,
    )

pub is_fresh_lem : (o : Owner) → is_fresh o ≡ true → o ≡ fresh
is_fresh_lem fresh t = refl
is_fresh_lem live t = absurd (true_false (sym t))
is_fresh_lem out t = absurd (true_false (sym t))
is_fresh_lem (on s k) t = absurd (true_false (sym t))

-- the first cell that was never used
module _ (g : Ghost) (e : ℕ) (m : List ℕ) (S : Shape g e m) (l : e < cells m) where
  new : g.own e ≡ fresh
  new = is_fresh_lem (g.own e) (S.low e ∙ le-leb e e (omega arith))

  pub edge_shape : Shape (record { own = upd g.own e out; top = g.top; size = g.size; aim = g.aim }) (e + 1) m
  edge_shape = record {
    chains = chains_aside g.own g.top g.top g.size (λ c. word m c 2) (λ c. word m c 2) e out (λ s k q. fresh_on (sym new ∙ q)) (λ s k q. out_on q)
        (λ s k q. refl) (λ c s k q. refl) S.chains;
    few = S.few;
    within = omega arith;
    low = λ c. at_upd (λ x. is_fresh x ≡ leb (e + 1) c) g.own e out c (λ r. sym (lt-leb (e + 1) c (omega arith))) (λ r. S.low c ∙ later c r);
    header = λ x. rw (upd_keeps is_head g.own e out x (sym (ap is_head new))) (S.header x);
    counted = λ t. total_same (λ c. is_on t (g.own c)) (λ c. is_on t (upd g.own e out c)) (cells m) (λ c _. upd_keeps (is_on t) g.own e out c (sym (ap (is_on t) new))) ∙ S.counted t;
    skips = skips_aside S e fresh out new refl refl m (λ x s k q. refl);
    plain = plain_aside S e fresh out new refl refl m (λ x s k q. refl) (λ s k l q. absurd (out_on q));
    side = side_aside S e fresh out new refl refl m (λ x s k q. refl) out_live g.top g.size (λ h. refl) (λ h. refl) (λ h. refl);
  }
    where
      later : (c : ℕ) → (c ≡ e → ⊥) → leb e c ≡ leb (e + 1) c
      later c r = ⊎_elim (λ (q : c < e). lt-leb e c q ∙ sym (lt-leb (e + 1) c (omega arith)))
          (λ (q : e ≤ c). le-leb e c q ∙ sym (le-leb (e + 1) c (omega arith))) (lt_or_le c e)

pub edges : {g : Ghost} {p hand : ℕ} {s : Lists} {m : List ℕ} → Full g p hand s m → s.listed ≡ 0 → s.edge < cells m
    → (g' : Ghost) × Full g' p hand (record { free = s.free; listed = 0; edge = s.edge + 1; work = s.work; dead = s.dead }) m × (g'.own s.edge ≡ out)
    × ((h : ℕ) → Grows h g m g' m) × (NoOut g → OnlyOut g' s.edge)
edges {g} {p} {hand} {s} {m} F z l =
    let S = F.heap.shape in let o = new g _ m S l in (
      record { own = upd g.own s.edge out; top = g.top; size = g.size; aim = g.aim },
      record {
        heap = record { shape = edge_shape g _ m S l; free = F.heap.free; listed = F.heap.listed ∙ z; work = F.heap.work; dead = F.heap.dead };
        counts = quiet_counts g p hand m m F.counts s.edge fresh out g.top g.size o refl refl refl (λ x u h q. refl) (λ x. refl);
      },
      upd_same g.own s.edge out,
      took_grows g m s.edge fresh g.top g.size o refl (λ h. refl),
      λ n x q. only_out g.own s.edge n x q,
    )
