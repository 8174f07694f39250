-- The parts of a release as its functions do them: shape, counts and step of each, put together.
-- Assumes nothing.
use Prim.Native.Nat.{ℕ, suc, ◌+◌, ◌-◌, ◌%◌, ◌≤◌, ◌<◌}
use mathlib.Core.Path.{◌≡◌, refl, sym, ap, ◌∙◌}
use mathlib.Core.List.{List}
use mathlib.Core.Logic.{inl}
use native.Mathlib.Omega.{arith}
use native.Mathlib.Numerals.{add-one}
use borrow.Author.Tests.{eq-eqb, ne_eqb, le-leb, lt-leb}
use lib.ListN.{length}
use Rattle.heap.specs.Word.{word, Put}
use Rattle.heap.specs.Upd.{upd}
use Rattle.heap.specs.Chain.{live, out, on}
use Rattle.heap.specs.Shape.{Ghost, Heap, Full, Scratch, NoOut, is_head, OnlyOut, target, pushed, popped, emptied, first_object, header_mark, first_unit, size_unit}
use Rattle.heap.specs.Gone.{After, Shed}
use Rattle.heap.specs.declared.Lists.{Lists}
use Rattle.heap.proofs.Upds.{upd_same, upd_at, upd_other}
use Rattle.heap.proofs.Chains.{live_on, out_on, out_live, on_list, no_out_lem, only_out}
use Rattle.heap.proofs.Shapes.{header_of, pop_shape}
use Rattle.heap.proofs.Pops.{shed_shape, shed_word, pop_counts, pop_step}
use Rattle.heap.proofs.Falls.{recount_shape, drop_counts, drop_step, kill_shape, kill_counts, kill_step, quiet_counts, quiet_step, true_false}
use Rattle.heap.proofs.Scratches.{scratch, scratch_step}
use Rattle.heap.proofs.Since.{then}

-- the count of o falls to v
pub lives : {g : Ghost} {p o v : ℕ} {s : Lists} {m m' : List ℕ} → Full g p (suc o) s m → word m o 2 ≡ suc v → 1 ≤ v → Put m o 2 v m' → Full g p 0 s m' × After p g m g m' × (NoOut g → NoOut g)
lives {g} {p} {o} {v} {s} {m} {m'} F w v1 P = let S = F.heap.shape in (
  record {
    heap = record { shape = recount_shape (F.counts.held o refl) P S; free = F.heap.free; listed = F.heap.listed; work = F.heap.work; dead = F.heap.dead };
    counts = drop_counts g p m m' o v F.counts w v1 P;
  },
  λ g₀ m₀ R. then p g₀ m₀ g m g m' R (drop_step g p m m' o v F.counts w v1 P),
  λ n. n,
)

-- the last place that names o lets go of it
pub dies : {g : Ghost} {p o : ℕ} {s : Lists} {m m' : List ℕ} → Full g p (suc o) s m → word m o 2 ≡ 1 → Put m o 2 s.work m'
    → Full (pushed g 1 o) p 0 (record { free = s.free; listed = s.listed; edge = s.edge; work = o; dead = s.dead + 1 }) m' × After p g m (pushed g 1 o) m' × (NoOut g → NoOut (pushed g 1 o))
dies {g} {p} {o} {s} {m} {m'} F w P = let S = F.heap.shape in let Q : Put m o 2 (g.top 1) m' = rw F.heap.work P in (
  record {
    heap = record {
      shape = kill_shape g _ p m m' S o F.counts w Q;
      free = upd_other g.top 1 o 0 (λ q. omega arith) ∙ F.heap.free;
      listed = upd_other g.size 1 (suc (g.size 1)) 0 (λ q. omega arith) ∙ F.heap.listed;
      work = upd_same g.top 1 o;
      dead = upd_same g.size 1 (suc (g.size 1)) ∙ rw (add-one, F.heap.dead);
    };
    counts = kill_counts g _ p m m' S o F.counts w Q;
  },
  λ g₀ m₀ R. then p g₀ m₀ g m (pushed g 1 o) m' R (kill_step g _ p m m' S o F.counts w Q),
  λ n. no_out_lem g.own o (on 1 (g.size 1)) (λ x q. absurd (n x q)) (λ q. out_on (sym q)),
)

-- a cell that is on no list goes on the free list
pub gives : {g : Ghost} {p hand c : ℕ} {s r : Lists} {m m' : List ℕ} → Full g p hand s m → g.own c ≡ out → Put m c 2 s.free m' → Heap (pushed g 0 c) r m'
    → Full (pushed g 0 c) p hand r m' × After p g m (pushed g 0 c) m' × (OnlyOut g c → NoOut (pushed g 0 c))
gives {g} {p} {hand} {c} {s} {r} {m} {m'} F o P H = let sz = upd g.size 0 (suc (g.size 0)) in let v = on 0 (g.size 0) in
    let there : (x u : ℕ) → u < 4 → (x ≡ c → ⊥) → word m' x u ≡ word m x u = λ x u h ne. P.there x u h (λ q _. ne q) in (
      record { heap = H; counts = quiet_counts g p hand m m' F.counts c out v (upd g.top 0 c) sz o refl refl P.size there (λ x. P.there x 0 (omega arith) (λ q r. omega arith)) },
      λ g₀ m₀ R. then p g₀ m₀ g m (pushed g 0 c) m' R (quiet_step g p hand m m' F.counts c out v (upd g.top 0 c) sz o refl refl P.size there
          (λ h a. upd_other g.size 0 (suc (g.size 0)) (h + 2) (λ q. omega arith))),
      λ n. no_out_lem g.own c v n (λ q. out_on (sym q)),
    )

-- word 3 of a cell that is on no list becomes another
pub clears : {g : Ghost} {p hand c v : ℕ} {s : Lists} {m m' : List ℕ} → Full g p hand s m → g.own c ≡ out → Put m c 3 v m' → Full g p hand s m' × After p g m g m'
clears {g} {p} {hand} {c} {v} {s} {m} {m'} F o P =
    let K : Scratch g m m' = record {
      size = P.size;
      there = λ x u l n. P.there x u l (λ _ q. n q);
      aside = λ x t k n q. P.there x 3 (omega arith) (λ r _. out_on (sym o ∙ ap g.own (sym r) ∙ q));
      first = λ h t. let w : word m' h 3 ≡ word m h 3 = P.there h 3 (omega arith) (λ r _. true_false (sym t ∙ ap (λ x. is_head (g.own x)) r ∙ ap is_head o)) in
          (ap (λ x. x % first_unit) w, rw w (header_of F.heap.shape h refl t).2);
    } in (
      scratch F K,
      λ g₀ m₀ R. then p g₀ m₀ g m g m' R (scratch_step F K (λ h l. P.there h 3 (omega arith) (λ r _. out_live (sym o ∙ ap g.own (sym r) ∙ l)))),
    )

-- the first dead header
pub first_dead : {g : Ghost} {p hand : ℕ} {s : Lists} {m : List ℕ} → Full g p hand s m → 0 < s.dead → (n : ℕ) × (g.size 1 ≡ suc n) × (g.own s.work ≡ on 1 n)
first_dead {g} {p} {hand} {s} F l = let z : g.size 1 ≡ suc (s.dead - 1) = omega (arith, F.heap.dead) in
    (s.dead - 1, z, rw F.heap.work at (F.heap.shape.chains.first 1 (s.dead - 1) z))

-- a dead header with no body comes off its list
pub buries : {g : Ghost} {p : ℕ} {s : Lists} {m : List ℕ} → Full g p 0 s m → 0 < s.dead → word m s.work 1 % size_unit ≡ 0
    → (g' : Ghost) × Full g' p 0 (record { free = s.free; listed = s.listed; edge = s.edge; work = word m s.work 2; dead = s.dead - 1 }) m × (g'.own s.work ≡ out)
    × After p g m g' m × (NoOut g → OnlyOut g' s.work)
unfolding first_dead
buries {g} {p} {s} {m} F l w =
    let S = F.heap.shape in
    let d = first_dead F l in
    let n = d.0 in
    let v = word m (g.top 1) 2 in
    let none : g.size (g.top 1 + 2) ≡ 0 = rw F.heap.work (sym (header_of S s.work d.2 refl).0 ∙ w) in
    let ob = S.chains.first 1 n d.1 in (
      popped g 1 n v,
      record {
        heap = record {
          shape = pop_shape g _ m S 1 n (omega arith) d.1 none;
          free = upd_other g.top 1 v 0 (λ q. omega arith) ∙ F.heap.free;
          listed = upd_other g.size 1 n 0 (λ q. omega arith) ∙ F.heap.listed;
          work = upd_same g.top 1 v ∙ rw F.heap.work;
          dead = upd_same g.size 1 n;
        };
        counts = quiet_counts g p 0 m m F.counts (g.top 1) (on 1 n) out (upd g.top 1 v) (upd g.size 1 n) ob refl refl refl (λ x u h q. refl) (λ x. refl);
      },
      upd_at g.own (g.top 1) out s.work (sym F.heap.work),
      λ g₀ m₀ R. then p g₀ m₀ g m (popped g 1 n v) m R
          (quiet_step g p 0 m m F.counts (g.top 1) (on 1 n) out (upd g.top 1 v) (upd g.size 1 n) ob refl refl refl (λ x u h q. refl)
          (λ h a. upd_other g.size 1 n (h + 2) (λ q. omega arith))),
      λ n x q. only_out g.own (g.top 1) n x q ∙ F.heap.work,
    )

-- the first body cell b of the first dead header comes off
pub sheds : {g : Ghost} {p n b : ℕ} {s : Lists} {m m' : List ℕ} → Full g p 0 s m → 0 < s.dead → word m s.work 1 % size_unit ≡ n → 0 < n → Shed m s.work n b m'
    → (g' : Ghost) × Full g' p (target (word m' s.work 0) (word m' b 0) (word m' b 1)) s m' × (g'.own b ≡ out) × After p g m g' m' × (NoOut g → OnlyOut g' b) × (word m' b 3 < header_mark)
sheds {g} {p} {n} {b} {s} {m} {m'} F l w ln D =
    let S = F.heap.shape in
    let d = s.work in
    let f = first_dead F l in
    let h = header_of S d f.2 refl in
    let q : b ≡ g.top (d + 2) = omega (arith, D.cell, h.1) in
    let k : ℕ = n - 1 in
    let z : g.size (d + 2) ≡ suc k = omega (arith, h.0) in
    let P₁ : Put m d 1 k D.mid = D.less k (omega arith) in
    let P₂ : Put D.mid d 3 (header_mark + word m (g.top (d + 2)) 2 % first_unit) m' = rw q at D.next in
    let v = word m (g.top (d + 2)) 2 % first_unit in
    let sw = shed_word g _ m D.mid m' S d f.0 k f.2 z P₁ P₂ in
    let ob : g.own b ≡ on (d + 2) k = rw q (S.chains.first (d + 2) k z) in
    let bw : (u : ℕ) → u < 4 → word m' b u ≡ word m b u = λ u hu. sw b u hu (λ i r. absurd (omega (arith, on_list (sym ob ∙ r)))) in
    let aim : g.aim (g.top (d + 2)) ≡ target (word m' d 0) (word m' b 0) (word m' b 1) = rw (
      sw d 0 (omega arith) (λ i r. inl refl),
      bw 0 (omega arith),
      bw 1 (omega arith),
      ← q,
    ) (F.counts.body b d k ob) in
    let nl : (a : ℕ) → g.own a ≡ live → d + 2 ≡ a + 2 → ⊥ = λ a la r. live_on (sym la ∙ ap g.own (omega arith) ∙ f.2) in
    let long : length m' ≡ length m = D.next.size ∙ P₁.size in (
      emptied (popped g (d + 2) k v) (g.top (d + 2)),
      record {
        heap = record {
          shape = shed_shape g _ m D.mid m' S d f.0 k f.2 z P₁ P₂;
          free = upd_other g.top (d + 2) v 0 (λ r. omega arith) ∙ F.heap.free;
          listed = upd_other g.size (d + 2) k 0 (λ r. omega arith) ∙ F.heap.listed;
          work = upd_other g.top (d + 2) v 1 (λ r. omega arith) ∙ F.heap.work;
          dead = upd_other g.size (d + 2) k 1 (λ r. omega arith) ∙ F.heap.dead;
        };
        counts = rw aim at (pop_counts g _ p m m' S F.counts (d + 2) k v z nl long sw);
      },
      upd_at g.own (g.top (d + 2)) out b q,
      λ g₀ m₀ R. then p g₀ m₀ g m (emptied (popped g (d + 2) k v) (g.top (d + 2))) m' R (pop_step g _ p m m' S F.counts (d + 2) k v z nl long sw),
      λ n x r. only_out g.own (g.top (d + 2)) n x r ∙ sym q,
      rw (bw 3 (omega arith)) (S.plain b (d + 2) k (λ r. omega arith) ob),
    )

pub object : (kind tag pay : ℕ) → kind ≡ 0 → first_object ≤ tag → target kind tag pay ≡ suc pay
unfolding target
object kind tag pay k t = simp (eq-eqb kind 0 k, le-leb first_object tag t)

pub no_object : (kind tag pay : ℕ) → kind ≡ 0 → tag < first_object → target kind tag pay ≡ 0
unfolding target
no_object kind tag pay k t = simp (eq-eqb kind 0 k, lt-leb first_object tag t)

pub no_array : (kind tag pay : ℕ) → (kind ≡ 0 → ⊥) → target kind tag pay ≡ 0
unfolding target
no_array kind tag pay k = simp (ne_eqb kind 0 k)

-- the first body cell b of the first dead header comes off and goes on the free list; what it names is in hand
pub strips : {g : Ghost} {p n b kind tag o : ℕ} {s r : Lists} {m m₁ m₂ : List ℕ} → Full g p 0 s m → 0 < s.dead → word m s.work 1 % size_unit ≡ n → 0 < n
    → Shed m s.work n b m₁ → Put m₁ b 2 s.free m₂ → ((h : Ghost) → Heap h s m₁ → h.own b ≡ out → Heap (pushed h 0 b) r m₂)
    → kind ≡ word m₁ s.work 0 → tag ≡ word m₁ b 0 → o ≡ word m₁ b 1 → (g' : Ghost) × Full g' p (target kind tag o) r m₂ × After p g m g' m₂ × (NoOut g → NoOut g')
strips {g} {p} {n} {b} {kind} {tag} {o} {s} {r} {m} {m₁} {m₂} F l w ln D P H ek et eo =
    let X = sheds F l w ln D in
    let Y = gives X.1 X.2 P (H X.0 X.1.heap X.2) in
    (pushed X.0 0 b, rw (ek, et, eo) Y.0, λ g₀ m₀ R. Y.1 g₀ m₀ (X.3 g₀ m₀ R), λ n. Y.2 (X.4 n))
