-- `token::bytes::blank_end` meets its contract. The loop's invariant: the answer is i and the blanks from there on, in or out of a comment.
-- Assumes nothing.
use mathlib.Core.Path.{sym, ◌∙◌}
use Rattle.semantics.specs.Tokens.{blanks_in, comment_after}
use Rattle.token.proofs.Blanks.{goes_on_lem, stops, ends, blank_go, blank_stop, blank_none, blank_start}
use native.Mathlib.Omega.{arith}
use Rattle.token.proofs.bytes.blank_end.Goals as goal

pub loop-i-init : goal.loop-i-init
loop-i-init c = blank_start _ _

pub returns-then-not-is_blank-clause-value : goal.returns-then-not-is_blank-clause-value
returns-then-not-is_blank-clause-value c =
    stops _ _ _ (blanks_in c.loop-i.comment) c.loop-i.invariant (omega arith) (blank_stop _ _ (sym c.is_blank.ensures ∙ c.if-not-is_blank.true))

pub loop-i-preserved : goal.loop-i-preserved
loop-i-preserved c =
    let go = blank_go _ _ (sym c.is_blank.ensures ∙ c.if-not-is_blank.false) in
    let more = blanks_in (comment_after c.loop-i.comment _) in
    rw c.comment_after-comment.ensures (goes_on_lem _ _ _ (blanks_in c.loop-i.comment) c.loop-i.invariant more (omega arith) go)

pub returns-clause-value : goal.returns-clause-value
returns-clause-value c = ends _ _ _ (blanks_in c.loop-i.comment) c.loop-i.invariant (omega arith) (blank_none _)
