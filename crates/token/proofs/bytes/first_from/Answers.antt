-- `token::bytes::first_from` meets its contract: the iterator's `position` in the rest of the script, moved by where the rest begins.
-- Assumes nothing.
use Rattle.std.proofs.Common.{rules, arith, ◌≤◌, ◌∙◌, ◌+◌, ◌-◌, ap, length, length-drop, take, drop}
use Rattle.std.proofs.lemmas.Iterator.{YieldsList-from_slice}
use Rattle.std.proofs.lemmas.Iterator.Search.{position_from_yields_List}
use Rattle.token.proofs.Blanks.{first_place}
use Rattle.token.proofs.bytes.first_from.Goals as goal

pub returns-clause-value : goal.returns-clause-value
returns-clause-value g c p h =
    let n = length c.args.script.now - c.args.at in
    let rest = drop c.args.at c.args.script.now in
    let whole : length rest ≤ n = omega (arith, length-drop c.args.at c.args.script.now) in
    let found = position_from_yields_List p _ _ _ c.position.ensures.ran (YieldsList-from_slice (take n rest) c.iter.ensures.rest) (λ x b q k. search (rules, h)) in
    ap (λ k. c.args.at + k) (c.unwrap_or.ensures ∙ first_place p rest n c.position.result whole found)
