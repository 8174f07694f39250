-- `forf_machine::perform_word` meets its contract: each word by the step of its family, with the word's operation.
-- Assumes nothing.
use mathlib.Core.Bool.{not}
use mathlib.Core.Path.{refl}
use lib.Bits.{bit_and, bit_or, bit_xor}
use lib.Dec.{eqb}
use lib.IntN.{◌+ℤ◌, ◌-ℤ◌, ◌*ℤ◌}
use lib.Signed.{lt_z, le_z, quot_z, rem_z}
use Rattle.std.proofs.Common.{rules}
use Rattle.forf_semantics.specs.Operators.{◌is◌, table, wrapping, absolute, inverted, flag, compared, left, right}
use Rattle.forf_machine.specs.Titles.{action_at}
use Rattle.forf_machine.proofs.Calculating.{binary_shape, division_shape, divided_is, flagged, given, wrapped, shifted_left, shifted_right, told, compared_so}
use Rattle.forf_machine.proofs.Naming.{at_word, no_word}
use Rattle.forf_machine.proofs.perform_word.Goals as goal

pub returns-in_default : goal.returns-in_default
returns-in_default c = no_word _ _ _ _ c.in_default.is

pub returns-in-Not : goal.returns-in-Not
unfolding action_at table ◌is◌ inverted
returns-in-Not c = at_word _ _ _ _ c.in-Some.is c.in-Not.is refl (c.one_to_one.ensures.does inverted (λ a w la p. search rules) _ _)

pub returns-in-IsZero : goal.returns-in-IsZero
unfolding action_at table ◌is◌
returns-in-IsZero c = at_word _ _ _ _ c.in-Some.is c.in-IsZero.is refl (c.one_to_one-in-IsZero.ensures.does (λ n. flag (eqb n 0)) (λ a w la p. flagged (eqb a 0) (search rules)) _ _)

pub returns-in-Abs : goal.returns-in-Abs
unfolding action_at table ◌is◌ absolute
returns-in-Abs c = at_word _ _ _ _ c.in-Some.is c.in-Abs.is refl (c.one_to_one-in-Abs.ensures.does absolute (λ a w la p. search rules) _ _)

pub returns-in-Add : goal.returns-in-Add
unfolding action_at table ◌is◌
returns-in-Add c = at_word _ _ _ _ c.in-Some.is c.in-Add.is refl (c.two_to_one.ensures.does _ _ (binary_shape (wrapping ◌+ℤ◌)) (λ b a q lb la p. wrapped b a ◌+ℤ◌ (search rules)) _ _)

pub returns-in-Sub : goal.returns-in-Sub
unfolding action_at table ◌is◌
returns-in-Sub c = at_word _ _ _ _ c.in-Some.is c.in-Sub.is refl (c.two_to_one-in-Sub.ensures.does _ _ (binary_shape (wrapping ◌-ℤ◌)) (λ b a q lb la p. wrapped b a ◌-ℤ◌ (search rules)) _ _)

pub returns-in-Mul : goal.returns-in-Mul
unfolding action_at table ◌is◌
returns-in-Mul c = at_word _ _ _ _ c.in-Some.is c.in-Mul.is refl (c.two_to_one-in-Mul.ensures.does _ _ (binary_shape (wrapping ◌*ℤ◌)) (λ b a q lb la p. wrapped b a ◌*ℤ◌ (search rules)) _ _)

pub returns-in-Div : goal.returns-in-Div
unfolding action_at table ◌is◌
returns-in-Div c = at_word _ _ _ _ c.in-Some.is c.in-Div.is refl (c.two_to_one-in-Div.ensures.does _ _ (division_shape quot_z) (λ b a q lb la p. divided_is quot_z b a q (record { fits = la }) (search rules)) _ _)

pub returns-in-Rem : goal.returns-in-Rem
unfolding action_at table ◌is◌
returns-in-Rem c = at_word _ _ _ _ c.in-Some.is c.in-Rem.is refl (c.two_to_one-in-Rem.ensures.does _ _ (division_shape rem_z) (λ b a q lb la p. divided_is rem_z b a q (record { fits = la }) (search rules)) _ _)

pub returns-in-And : goal.returns-in-And
unfolding action_at table ◌is◌
returns-in-And c = at_word _ _ _ _ c.in-Some.is c.in-And.is refl (c.two_to_one-in-And.ensures.does _ _ (binary_shape bit_and) (λ b a q lb la p. given b a bit_and (search rules)) _ _)

pub returns-in-Or : goal.returns-in-Or
unfolding action_at table ◌is◌
returns-in-Or c = at_word _ _ _ _ c.in-Some.is c.in-Or.is refl (c.two_to_one-in-Or.ensures.does _ _ (binary_shape bit_or) (λ b a q lb la p. given b a bit_or (search rules)) _ _)

pub returns-in-Xor : goal.returns-in-Xor
unfolding action_at table ◌is◌
returns-in-Xor c = at_word _ _ _ _ c.in-Some.is c.in-Xor.is refl (c.two_to_one-in-Xor.ensures.does _ _ (binary_shape bit_xor) (λ b a q lb la p. given b a bit_xor (search rules)) _ _)

pub returns-in-Left : goal.returns-in-Left
unfolding action_at table ◌is◌
returns-in-Left c = at_word _ _ _ _ c.in-Some.is c.in-Left.is refl (c.two_to_one-in-Left.ensures.does _ _ (binary_shape left) (λ b a q lb la p. shifted_left b a (search rules)) _ _)

pub returns-in-Right : goal.returns-in-Right
unfolding action_at table ◌is◌
returns-in-Right c = at_word _ _ _ _ c.in-Some.is c.in-Right.is refl (c.two_to_one-in-Right.ensures.does _ _ (binary_shape right) (λ b a q lb la p. shifted_right b a (search rules)) _ _)

pub returns-in-Gt : goal.returns-in-Gt
unfolding action_at table ◌is◌
returns-in-Gt c = at_word _ _ _ _ c.in-Some.is c.in-Gt.is refl (c.two_to_one-in-Gt.ensures.does _ _ (binary_shape (compared (λ y x. lt_z x y))) (λ b a q lb la p. compared_so b a (λ y x. lt_z x y) (search rules)) _ _)

pub returns-in-Ge : goal.returns-in-Ge
unfolding action_at table ◌is◌
returns-in-Ge c = at_word _ _ _ _ c.in-Some.is c.in-Ge.is refl (c.two_to_one-in-Ge.ensures.does _ _ (binary_shape (compared (λ y x. le_z x y))) (λ b a q lb la p. compared_so b a (λ y x. le_z x y) (search rules)) _ _)

pub returns-in-Lt : goal.returns-in-Lt
unfolding action_at table ◌is◌
returns-in-Lt c = at_word _ _ _ _ c.in-Some.is c.in-Lt.is refl (c.two_to_one-in-Lt.ensures.does _ _ (binary_shape (compared lt_z)) (λ b a q lb la p. compared_so b a lt_z (search rules)) _ _)

pub returns-in-Le : goal.returns-in-Le
unfolding action_at table ◌is◌
returns-in-Le c = at_word _ _ _ _ c.in-Some.is c.in-Le.is refl (c.two_to_one-in-Le.ensures.does _ _ (binary_shape (compared le_z)) (λ b a q lb la p. compared_so b a le_z (search rules)) _ _)

pub returns-in-Eq : goal.returns-in-Eq
unfolding action_at table ◌is◌
returns-in-Eq c = at_word _ _ _ _ c.in-Some.is c.in-Eq.is refl (c.two_to_one-in-Eq.ensures.does _ _ (binary_shape (λ b a. flag (eqb b a))) (λ b a q lb la p. told b a eqb (search rules)) _ _)

pub returns-in-Ne : goal.returns-in-Ne
unfolding action_at table ◌is◌
returns-in-Ne c = at_word _ _ _ _ c.in-Some.is c.in-Ne.is refl (c.two_to_one-in-Ne.ensures.does _ _ (binary_shape (λ b a. flag (not (eqb b a)))) (λ b a q lb la p. told b a (λ b a. not (eqb b a)) (search rules)) _ _)

pub returns-in-If : goal.returns-in-If
unfolding action_at table ◌is◌
returns-in-If c = at_word _ _ _ _ c.in-Some.is c.in-If.is refl (c.branch-m.ensures _)

pub returns-in-Ifelse : goal.returns-in-Ifelse
unfolding action_at table ◌is◌
returns-in-Ifelse c = at_word _ _ _ _ c.in-Some.is c.in-Ifelse.is refl (c.choose.ensures _)

pub returns-in-Pop : goal.returns-in-Pop
unfolding action_at table ◌is◌
returns-in-Pop c = at_word _ _ _ _ c.in-Some.is c.in-Pop.is refl (c.discard.ensures _ _ _)

pub returns-in-Dup : goal.returns-in-Dup
unfolding action_at table ◌is◌
returns-in-Dup c = at_word _ _ _ _ c.in-Some.is c.in-Dup.is refl (c.duplicate.ensures _ _)

pub returns-in-Exch : goal.returns-in-Exch
unfolding action_at table ◌is◌
returns-in-Exch c = at_word _ _ _ _ c.in-Some.is c.in-Exch.is refl (c.exchange.ensures _ _)

pub returns-in-Mset : goal.returns-in-Mset
unfolding action_at table ◌is◌
returns-in-Mset c = at_word _ _ _ _ c.in-Some.is c.in-Mset.is refl (c.store.ensures _)

pub returns-in-Mget : goal.returns-in-Mget
unfolding action_at table ◌is◌
returns-in-Mget c = at_word _ _ _ _ c.in-Some.is c.in-Mget.is refl (c.fetch.ensures _)
