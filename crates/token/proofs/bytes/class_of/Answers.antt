-- `token::bytes::class_of` meets its contract: the name bytes first, then each byte of the `match`.
-- Assumes nothing.
use native.Mathlib.Omega.{arith}
use mathlib.Core.Path.{refl}
use Rattle.semantics.specs.Tokens.{class_of}
use Rattle.token.proofs.Classes.{class_name, class_bracket, class_at, class_other}
use Rattle.token.proofs.bytes.class_of.Goals as goal

pub is_name_byte-requires : goal.is_name_byte-requires
is_name_byte-requires c = tt

pub returns-then-is_name_byte : goal.returns-then-is_name_byte
returns-then-is_name_byte c = class_name _ _ c.is_name_byte.ensures c.if-is_name_byte.true

pub returns-in-91 : goal.returns-in-91
returns-in-91 c = class_bracket _ c.in-91.is

pub returns-in-123 : goal.returns-in-123
unfolding class_of
returns-in-123 c = class_at _ 123 _ c.in-123.is refl

pub returns-in-125 : goal.returns-in-125
unfolding class_of
returns-in-125 c = class_at _ 125 _ c.in-125.is refl

pub returns-in-34 : goal.returns-in-34
unfolding class_of
returns-in-34 c = class_at _ 34 _ c.in-34.is refl

pub returns-in-47 : goal.returns-in-47
unfolding class_of
returns-in-47 c = class_at _ 47 _ c.in-47.is refl

pub returns-in_default : goal.returns-in_default
returns-in_default c = class_other _ _ c.is_name_byte.ensures c.if-is_name_byte.false (λ e. omega (arith, e)) (λ e. omega (arith, e)) (λ e. omega (arith, e)) (λ e. omega (arith, e)) (λ e. omega (arith, e))
