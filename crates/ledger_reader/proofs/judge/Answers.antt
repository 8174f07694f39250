-- `judge` meets its contract: stage by stage (Deciding).
-- Assumes nothing.
use Rattle.std.proofs.Common.{◌∙◌, sym}
use Rattle.ledger_reader.proofs.Deciding.{header_bad, quoting_bad, flaw_passed, rests, socket_twice_lem, too_many_lem, all_read}
use Rattle.ledger_reader.proofs.judge.Goals as goal

pub quoting_ok-requires : goal.quoting_ok-requires
quoting_ok-requires c = c.in-Some.ensures.0

pub returns-then-not-quoting_ok : goal.returns-then-not-quoting_ok
returns-then-not-quoting_ok c = quoting_bad _ _ c.in-Some.ensures c.quoting_ok.ensures c.if-not-quoting_ok.true

pub tally_lines-requires : goal.tally_lines-requires
tally_lines-requires c = (c.in-Some.ensures.0, sym c.quoting_ok.ensures ∙ c.if-not-quoting_ok.false)

pub returns-in_err-count : goal.returns-in_err-count
returns-in_err-count c = flaw_passed _ _ c.in-Some.ensures c.quoting_ok.ensures _ c.in_err-count.ensures c.from_residual.ensures.1

pub is_once-requires : goal.is_once-requires
is_once-requires c = rests c.args.room _ c.in-Some.ensures c.quoting_ok.ensures c.in_ok-count.ensures

pub returns-then-not-is_once : goal.returns-then-not-is_once
returns-then-not-is_once c = socket_twice_lem _ _ c.in-Some.ensures c.quoting_ok.ensures c.in_ok-count.ensures c.is_once.ensures c.if-not-is_once.true

pub returns-then-room-count : goal.returns-then-room-count
returns-then-room-count c = too_many_lem _ _ c.in-Some.ensures c.quoting_ok.ensures c.in_ok-count.ensures c.is_once.ensures c.if-not-is_once.false c.if-room-count.true

pub returns : goal.returns
returns c = all_read _ _ c.in-Some.ensures c.quoting_ok.ensures c.in_ok-count.ensures c.is_once.ensures c.if-not-is_once.false c.if-room-count.false

pub returns-in_default : goal.returns-in_default
returns-in_default c = header_bad _ _ c.in_default.ensures
