-- With no object the heap fits any words: no cell is on a list, so every fact of lists and counts is of nothing.
-- Assumes nothing.
use mathlib.Core.Path.{refl, sym}
use native.Mathlib.Omega.{arith}
use lib.Dec.{leb-zero}
use Rattle.heap.specs.Shape.{Empty, cells}
use Rattle.heap.proofs.Chains.{fresh_on, fresh_out, fresh_live}
use Rattle.heap.proofs.Bodies.{total_none}

pub empty : Empty (record { free = 0; listed = 0; edge = 0; work = 0; dead = 0 })
empty m p few lo hi = (
  record {
    heap = record {
      shape = record {
        chains = record { above = λ c s k q. absurd (fresh_on q); link = λ c s k q. absurd (fresh_on q); first = λ s k q. absurd (omega arith); one = λ c d s k q. absurd (fresh_on q) };
        few = few;
        within = omega arith;
        low = λ c. sym (leb-zero c);
        header = λ h. refl;
        counted = λ t. total_none (λ _. 0) (cells m) (λ x l. refl);
        skips = λ c s k l q. absurd (fresh_on q);
        plain = λ c s k l q. absurd (fresh_on q);
        side = λ h c k l b q. absurd (fresh_on q);
      };
      free = refl;
      listed = refl;
      work = refl;
      dead = refl;
    };
    counts = record {
      places = (lo, hi);
      aimed = λ x h l q. absurd (omega arith);
      held = λ h q. absurd (omega arith);
      count = λ h l. absurd (fresh_live l);
      some = λ h l. absurd (fresh_live l);
      body = λ c a k q. absurd (fresh_on q);
      other = λ c l f. refl;
    };
  },
  λ x q. fresh_out q,
)
