-- The mark for read only changes nothing of the heap: of a header's word 1 the shape sees the body's size and whether its cells are scattered, and the counts see none.
-- Assumes nothing.
use Prim.Native.Nat.{ℕ, ◌+◌, ◌/◌, ◌%◌, ◌<◌}
use mathlib.Core.Path.{◌≡◌, refl, sym, ap, ◌∙◌}
use mathlib.Core.List.{List}
use mathlib.Core.Logic.{⊎_elim}
use native.Mathlib.Omega.{arith}
use borrow.Author.Tests.{eq-eqb}
use lib.Dec.{eqb}
use Rattle.heap.specs.Word.{word, Put}
use Rattle.heap.specs.Chain.{live}
use Rattle.heap.specs.Shape.{Ghost, Full, size_unit, first_unit}
use Rattle.heap.specs.Reading.{is_sealed}
use Rattle.heap.specs.Seal.{Seals}
use Rattle.heap.specs.declared.Lists.{Lists}
use Rattle.heap.proofs.Upds.{same?}
use Rattle.heap.proofs.Chains.{live_on}
use Rattle.heap.proofs.Shapes.{Alike, same_words, keep_shape}
use Rattle.heap.proofs.Scratches.{keep_counts}

-- ---- what the code writes

-- The mark is set where it is not there,
pub seals : {m m' : List ℕ} {h w : ℕ} → w ≡ word m h 1 → w / size_unit % 2 ≡ 0 → Put m h 1 (w + size_unit) m' → Seals m h m'
unfolding is_sealed
seals {m} {m'} {h} {w} e z P = record {
  size = P.size;
  marked = eq-eqb (word m' h 1 / size_unit % 2) 1 (omega (arith, P.here, z));
  lower = omega (arith, P.here, e);
  upper = omega (arith, P.here, e, z);
  there = P.there;
}

-- and else it stays.
pub seals_again : {m : List ℕ} {h w : ℕ} → w ≡ word m h 1 → (w / size_unit % 2 ≡ 0 → ⊥) → Seals m h m
unfolding is_sealed
seals_again {m} {h} {w} e n = record {
  size = refl;
  marked = eq-eqb (word m h 1 / size_unit % 2) 1 (omega (arith, e, n));
  lower = refl;
  upper = refl;
  there = λ x u l q. refl;
}

-- ---- what stays

module _ {m m' : List ℕ} {h : ℕ} (K : Seals m h m') where
  word_of : (x u : ℕ) → (u ≡ 1 → ⊥) → u < 4 → word m' x u ≡ word m x u
  word_of x u n l = K.there x u l (λ _. n)

  heads : (x : ℕ) → Alike (word m x 1) (word m x 3) (word m' x 1) (word m' x 3)
  heads x =
      let w3 = word_of x 3 (λ q. omega arith) (omega arith) in
      ⊎_elim
      (λ (q : x ≡ h). rw q (K.lower, ap (λ w. w % 2) K.upper, ap (λ w. w % first_unit) (rw q at w3), λ l. rw (rw q at w3) l))
      (λ (q : x ≡ h → ⊥). same_words (K.there x 1 (omega arith) (λ r _. q r)) w3)
      (same? x h)

  -- The heap stays, with the same ghost.
  pub sealed_full : {g : Ghost} {p hand : ℕ} {s : Lists} → g.own h ≡ live → Full g p hand s m → Full g p hand s m'
  sealed_full {g} l F = record {
    heap = record {
      shape = keep_shape g.aim F.heap.shape K.size (λ c s k q. word_of c 2 (λ r. omega arith) (omega arith)) (λ x t. heads x)
          (λ c s k n q. word_of c 3 (λ r. omega arith) (omega arith));
      free = F.heap.free;
      listed = F.heap.listed;
      work = F.heap.work;
      dead = F.heap.dead;
    };
    counts = keep_counts K.size (λ x. word_of x 0 (λ q. omega arith) (omega arith)) (λ x. word_of x 2 (λ q. omega arith) (omega arith))
        (λ c a k q. K.there c 1 (omega arith) (λ r _. live_on (sym l ∙ ap g.own (sym r) ∙ q))) F.counts;
  }

  -- No other object gets the mark.
  pub sealed_other : (x : ℕ) → (x ≡ h → ⊥) → is_sealed m' x ≡ is_sealed m x
  unfolding is_sealed
  sealed_other x n = ap (λ w. eqb (w / size_unit % 2) 1) (K.there x 1 (omega arith) (λ r _. n r))
