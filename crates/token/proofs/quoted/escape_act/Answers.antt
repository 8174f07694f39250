-- `token::quoted::escape_act` meets its contract, by the tests that led to each return.
-- Assumes nothing.
use Rattle.semantics.specs.Tokens.{act}
use Rattle.token.proofs.Classes.{within_low}
use Rattle.token.proofs.Escapes.{escape_octal, escape_bad}
use Rattle.token.proofs.quoted.escape_act.Goals as goal

pub returns-then-b-eq110 : goal.returns-then-b-eq110
unfolding act
returns-then-b-eq110 c = rw c.if-b-eq110.true

pub returns-then-b-eq34 : goal.returns-then-b-eq34
unfolding act
returns-then-b-eq34 c = rw c.if-b-eq34.true

pub returns-then-b-eq13 : goal.returns-then-b-eq13
unfolding act
returns-then-b-eq13 c = rw c.if-b-eq13.true

pub returns-then-b-eq10 : goal.returns-then-b-eq10
unfolding act
returns-then-b-eq10 c = rw c.if-b-eq10.true

pub within-requires : goal.within-requires
within-requires c = tt

pub overflow_sub-result : goal.overflow_sub-result
overflow_sub-result c = within_low 48 51 _ _ c.within.ensures c.if-within.true

pub returns-then-within : goal.returns-then-within
returns-then-within c = let args = c.args in
    escape_octal args.b _ c.within.ensures c.if-b-eq110.false c.if-b-eq34.false c.if-b-eq13.false c.if-b-eq10.false c.if-within.true

pub returns : goal.returns
returns c = let args = c.args in
    escape_bad args.b _ c.within.ensures c.if-b-eq110.false c.if-b-eq34.false c.if-b-eq13.false c.if-b-eq10.false c.if-within.false
