-- `init_cell` meets its contract: four stores to one cell, each of another word.
-- Assumes nothing.
use mathlib.Core.Path.{◌∙◌}
use native.Mathlib.Omega.{arith}
use Rattle.heap.proofs.init_cell.Goals as goal

pub returns : goal.returns
returns c = let tag = c.put.ensures in
    let pay = c.put-2.ensures in
    let next = c.put-3.ensures in
    let skip = c.put-4.ensures in
    record {
      size = skip.size ∙ next.size ∙ pay.size ∙ tag.size;
      tag = skip.there _ 0 (omega arith) (λ q w. omega arith) ∙ next.there _ 0 (omega arith) (λ q w. omega arith) ∙ pay.there _ 0 (omega arith) (λ q w. omega arith) ∙ tag.here;
      pay = skip.there _ 1 (omega arith) (λ q w. omega arith) ∙ next.there _ 1 (omega arith) (λ q w. omega arith) ∙ pay.here;
      next = skip.there _ 2 (omega arith) (λ q w. omega arith) ∙ next.here;
      skip = skip.here;
      there = λ x u l n. skip.there x u l (λ q _. n q) ∙ next.there x u l (λ q _. n q) ∙ pay.there x u l (λ q _. n q) ∙ tag.there x u l (λ q _. n q);
    }
