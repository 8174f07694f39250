-- The definition's operator of each name, in the shape that the laws of `Shapes` speak of.
-- Assumes nothing.
use mathlib.Core.Path.{◌≡◌, refl}
use mathlib.Core.Bool.{not, ◌&&◌, ◌||◌, beq}
use mathlib.Core.Option.{some}
use lib.IntN.{pos, neg_ℤ, nat_abs, ◌+ℤ◌, ◌-ℤ◌, ◌*ℤ◌}
use lib.Signed.{lt_z, le_z, quot_z, rem_z}
use lib.Bits.{bit_and, bit_or, bit_xor}
use Rattle.semantics.specs.Text.{bytes, textual}
use Rattle.semantics.specs.Values.{ok}
use Rattle.semantics.specs.Machine.{Machine}
use Rattle.semantics.specs.NumberOperators.{division}
use Rattle.semantics.specs.Operators.{perform, find, table, ◌is◌}
use Rattle.semantics.specs.NumberOperators.{arithmetic, arithmetic1, comparison, bitshift, ones_in, lowest_in, highest_in, pegs, connective, negation}
use Rattle.machine.specs.Operands.{on_one, on_two}
use Rattle.number_operators.proofs.Shapes.{computing, computing1, comparing, shifting, pegging}

pub add_is : (μ : Machine) → perform (bytes "add") μ ≡ on_two (computing (λ x y. ok (x +ℤ y))) μ
unfolding textual perform find table ◌is◌ arithmetic
add_is μ = refl

pub sub_is : (μ : Machine) → perform (bytes "sub") μ ≡ on_two (computing (λ x y. ok (x -ℤ y))) μ
unfolding textual perform find table ◌is◌ arithmetic
sub_is μ = refl

pub mul_is : (μ : Machine) → perform (bytes "mul") μ ≡ on_two (computing (λ x y. ok (x *ℤ y))) μ
unfolding textual perform find table ◌is◌ arithmetic
mul_is μ = refl

pub lt_is : (μ : Machine) → perform (bytes "lt") μ ≡ on_two (comparing lt_z) μ
unfolding textual perform find table ◌is◌ comparison
lt_is μ = refl

pub le_is : (μ : Machine) → perform (bytes "le") μ ≡ on_two (comparing le_z) μ
unfolding textual perform find table ◌is◌ comparison
le_is μ = refl

pub gt_is : (μ : Machine) → perform (bytes "gt") μ ≡ on_two (comparing (λ x y. lt_z y x)) μ
unfolding textual perform find table ◌is◌ comparison
gt_is μ = refl

pub ge_is : (μ : Machine) → perform (bytes "ge") μ ≡ on_two (comparing (λ x y. le_z y x)) μ
unfolding textual perform find table ◌is◌ comparison
ge_is μ = refl

pub bitshift_is : (μ : Machine) → perform (bytes "bitshift") μ ≡ on_two (shifting) μ
unfolding textual perform find table ◌is◌ bitshift
bitshift_is μ = refl

pub abs_is : (μ : Machine) → perform (bytes "abs") μ ≡ on_one (computing1 (λ x. pos (nat_abs x))) μ
unfolding textual perform find table ◌is◌ arithmetic1
abs_is μ = refl

pub neg_is : (μ : Machine) → perform (bytes "neg") μ ≡ on_one (computing1 neg_ℤ) μ
unfolding textual perform find table ◌is◌ arithmetic1
neg_is μ = refl

pub ones_is : (μ : Machine) → perform (bytes "ones") μ ≡ on_one (pegging (λ w. some (ones_in 32 w))) μ
unfolding textual perform find table ◌is◌ pegs
ones_is μ = refl

pub lowpeg_is : (μ : Machine) → perform (bytes "lowpeg") μ ≡ on_one (pegging (lowest_in 32)) μ
unfolding textual perform find table ◌is◌ pegs
lowpeg_is μ = refl

pub highpeg_is : (μ : Machine) → perform (bytes "highpeg") μ ≡ on_one (pegging (highest_in 32)) μ
unfolding textual perform find table ◌is◌ pegs
highpeg_is μ = refl

pub idiv_is : (μ : Machine) → perform (bytes "idiv") μ ≡ on_two (computing (division quot_z)) μ
unfolding textual perform find table ◌is◌ arithmetic
idiv_is μ = refl

pub mod_is : (μ : Machine) → perform (bytes "mod") μ ≡ on_two (computing (division rem_z)) μ
unfolding textual perform find table ◌is◌ arithmetic
mod_is μ = refl

pub and_is : (μ : Machine) → perform (bytes "and") μ ≡ connective bit_and ◌&&◌ μ
unfolding textual perform find table ◌is◌
and_is μ = refl

pub or_is : (μ : Machine) → perform (bytes "or") μ ≡ connective bit_or ◌||◌ μ
unfolding textual perform find table ◌is◌
or_is μ = refl

pub xor_is : (μ : Machine) → perform (bytes "xor") μ ≡ connective bit_xor (λ a b. not (beq a b)) μ
unfolding textual perform find table ◌is◌
xor_is μ = refl

pub not_is : (μ : Machine) → perform (bytes "not") μ ≡ negation μ
unfolding textual perform find table ◌is◌
not_is μ = refl
