-- `array` meets its contract: the length by its size (`new_length`), and the new array by its cells against the free ones.
-- Assumes nothing.
use Rattle.elements.specs.Elements.{array_made}
use Rattle.semantics.specs.Values.{null, array, elements}
use native.Mathlib.Omega.{arith}
use lib.ListN.{replicate}
use mathlib.Core.Bool.{false}
use mathlib.Core.Path.{refl}
use Rattle.array_operators.proofs.Named.{array_is}
use Rattle.array_operators.proofs.Lengths.{maker_bad, maker_full, maker_good, plain_operand, array_size}
use Rattle.std.proofs.lemmas.Result.{err_from_is_err_and}
use Rattle.array_operators.proofs.array.Goals as goal

pub returns-in_err-n : goal.returns-in_err-n
returns-in_err-n c =
    let p = err_from_is_err_and c.from_residual.result c.from_residual.ensures.1 in
    rw (p.1, p.2) (maker_bad _ (array false) (λ n. elements (replicate n null)) array_is c.new_length.ensures.fetches_length c.in_err-n.was)

pub overflow_add-n : goal.overflow_add-n
overflow_add-n c = omega (arith, c.in_ok-n.ensures.result_bound_2)

pub returns-then-free_cells-n : goal.returns-then-free_cells-n
returns-then-free_cells-n c = maker_full _ (array false) (λ n. elements (replicate n null)) array_is c.new_length.ensures.fetches_length c.in_ok-n.was c.in_ok-n.ensures.result_bound_2 (omega (arith, c.if-free_cells-n.true, c.free_cells.ensures, array_size c.in_ok-n.n))

pub new_array-requires : goal.new_array-requires
new_array-requires c = (c.in_ok-n.ensures.result_bound, omega (arith, c.if-free_cells-n.false, c.free_cells.ensures), plain_operand _ (array false) (λ n. elements (replicate n null)) array_is c.new_length.ensures.fetches_length c.in_ok-n.was c.in_ok-n.ensures.result_bound_2 c.requires)

pub returns : goal.returns
unfolding array_made
returns c = maker_good _ (array false) (λ n. elements (replicate n null)) array_is c.new_length.ensures.fetches_length c.in_ok-n.was c.in_ok-n.ensures.result_bound_2 (λ μ. refl) c.new_array.ensures.moves_heap c.new_array.auto.stack (omega (arith, c.if-free_cells-n.false, c.free_cells.ensures, array_size c.in_ok-n.n))
