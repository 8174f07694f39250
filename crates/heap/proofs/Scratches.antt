-- What may be written into a header's word 3 beside its body's first cell changes nothing of the heap: the shape, the counts and a release's step stay.
-- Assumes nothing.
use Prim.Native.Nat.{ℕ, ◌+◌, ◌/◌, ◌%◌}
use mathlib.Core.Path.{◌≡◌, refl, ap, ◌∙◌}
use mathlib.Core.List.{List}
use mathlib.Core.Logic.{inl}
use native.Mathlib.Omega.{arith}
use Rattle.heap.specs.Word.{word}
use lib.ListN.{length}
use Rattle.heap.specs.Chain.{live, on}
use Rattle.heap.specs.Shape.{Ghost, Shape, Counts, Full, Step, Scratch, size_unit, scattered}
use Rattle.heap.specs.declared.Lists.{Lists}
use Rattle.heap.proofs.Shapes.{keep_shape}

-- the counts see words 0 and 2, and word 1 of body cells
pub keep_counts : {g : Ghost} {p hand : ℕ} {m m' : List ℕ} → length m' ≡ length m → ((x : ℕ) → word m' x 0 ≡ word m x 0) → ((x : ℕ) → word m' x 2 ≡ word m x 2)
    → ((c a k : ℕ) → g.own c ≡ on (a + 2) k → word m' c 1 ≡ word m c 1) → Counts g p hand m → Counts g p hand m'
keep_counts long kind count pay C = record {
  places = rw long C.places;
  aimed = C.aimed;
  held = C.held;
  count = λ h l. count h ∙ C.count h l;
  some = λ h l. rw (count h) (C.some h l);
  body = λ c a k q. rw (kind a, kind c, pay c a k q) (C.body c a k q);
  other = λ c l f. C.other c (rw long at l) f;
}

module _ {g : Ghost} {m m' : List ℕ} (K : Scratch g m m') where
  pub scratch_shape : {e : ℕ} → Shape g e m → Shape g e m'
  scratch_shape S = keep_shape g.aim S K.size (λ c s k q. K.there c 2 (omega arith) (λ r. omega arith))
      (λ h t. let w1 = K.there h 1 (omega arith) (λ r. omega arith) in (ap (λ w. w % size_unit) w1, ap (λ w. w / scattered % 2) w1, (K.first h t).0, λ _. (K.first h t).1)) (λ c s k n q. K.aside c s k n q)

  pub scratch_counts : {p hand : ℕ} → Counts g p hand m → Counts g p hand m'
  scratch_counts C = keep_counts K.size (λ x. K.there x 0 (omega arith) (λ r. omega arith)) (λ x. K.there x 2 (omega arith) (λ r. omega arith))
      (λ c a k q. K.there c 1 (omega arith) (λ r. omega arith)) C

pub scratch : {g : Ghost} {p hand : ℕ} {s : Lists} {m m' : List ℕ} → Full g p hand s m → Scratch g m m' → Full g p hand s m'
scratch F K = record {
  heap = record { shape = scratch_shape K F.heap.shape; free = F.heap.free; listed = F.heap.listed; work = F.heap.work; dead = F.heap.dead };
  counts = scratch_counts K F.counts;
}

-- where no live header's word changes, it is a step of a release
pub scratch_step : {g : Ghost} {p hand : ℕ} {s : Lists} {m m' : List ℕ} → Full g p hand s m → Scratch g m m' → ((h : ℕ) → g.own h ≡ live → word m' h 3 ≡ word m h 3) → Step p g m g m'
scratch_step F K w = record {
  alive = λ h l. (l, refl, K.there h 0 (omega arith) (λ r. omega arith), K.there h 1 (omega arith) (λ r. omega arith), w h l);
  body = λ c a k q. (q, refl, K.there c 0 (omega arith) (λ r. omega arith), K.there c 1 (omega arith) (λ r. omega arith));
  kept = λ c a k q _. q;
  roots = λ x _. refl;
  dies = λ h l. inl l;
  long = K.size;
}
