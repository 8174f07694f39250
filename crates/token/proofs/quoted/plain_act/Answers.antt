-- `token::quoted::plain_act` meets its contract, by the tests that led to each return.
-- Assumes nothing.
use Rattle.semantics.specs.Tokens.{plain_act}
use Rattle.token.proofs.Escapes.{plain_break, plain_byte}
use Rattle.token.proofs.quoted.plain_act.Goals as goal

pub returns-then-b-eq34 : goal.returns-then-b-eq34
unfolding plain_act
returns-then-b-eq34 c = rw c.if-b-eq34.true

pub returns-then-b-eq92 : goal.returns-then-b-eq92
unfolding plain_act
returns-then-b-eq92 c = rw c.if-b-eq92.true

pub is_break-requires : goal.is_break-requires
is_break-requires c = tt

pub returns-then-is_break : goal.returns-then-is_break
returns-then-is_break c = plain_break _ _ c.is_break.ensures c.if-b-eq34.false c.if-b-eq92.false c.if-is_break.true

pub returns : goal.returns
returns c = plain_byte _ _ c.is_break.ensures c.if-b-eq34.false c.if-b-eq92.false c.if-is_break.false
