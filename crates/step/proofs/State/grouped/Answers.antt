-- `grouped` meets its contract: a group's end is a step's end.
-- Assumes nothing.
use Rattle.step.specs.Stepping.{grouped_by}
use mathlib.Core.Path.{sym, ap, ◌∙◌}
use Rattle.step.proofs.State.grouped.Goals as goal

pub ended-requires : goal.ended-requires
ended-requires c = c.requires

pub ended-requires-in-Err-Failed : goal.ended-requires-in-Err-Failed
ended-requires-in-Err-Failed c = c.requires

pub misread-requires : goal.misread-requires
misread-requires c = c.requires

pub returns-in-Ok : goal.returns-in-Ok
returns-in-Ok c = c.ended.ensures ∙ sym (ap (grouped_by c.args.self c.args.at) c.in-Ok.is)

pub returns-in-Err-Failed : goal.returns-in-Err-Failed
returns-in-Err-Failed c = let q = rw c.in-Err-Failed.is at c.in-Err-Failed.field-0-is in rw (c.in-Err-Failed.is, q) c.ended-in-Err-Failed.ensures

pub returns-in-Err-Misread : goal.returns-in-Err-Misread
returns-in-Err-Misread c = let q = rw c.in-Err-Misread.is at c.in-Err-Misread.field-0-is in rw (c.in-Err-Misread.is, q) c.misread.ensures
