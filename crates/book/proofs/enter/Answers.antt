-- `enter` meets its contract: it replaces, adds, or leaves the book as it was (Entering).
use Rattle.std.proofs.Math.Logic.{inl, inr}
use Rattle.book.proofs.Entering.{replaced_at, replaced, added_at, added, late, full}
use Rattle.book.proofs.enter.Goals as goal

pub replace-requires : goal.replace-requires
replace-requires c = replaced_at c.args.book.now c.in_ok-entry.entry c.args.count c.args.entry c.judge-judged.result c.in_ok-entry.was (c.requires c.in_ok-entry.entry c.in_ok-entry.was) c.judge-judged.ensures c.in-Replaces.is

pub append-requires : goal.append-requires
append-requires c = added_at c.args.book.now c.in_ok-entry.entry c.args.count c.args.entry c.judge-judged.result c.in_ok-entry.was (c.requires c.in_ok-entry.entry c.in_ok-entry.was) c.judge-judged.ensures c.in-Adds.is

pub returns-in-Replaces : goal.returns-in-Replaces
returns-in-Replaces c = replaced c.args.book.now c.in_ok-entry.entry c.args.count c.args.entry c.judge-judged.result c.in_ok-entry.was (c.requires c.in_ok-entry.entry c.in_ok-entry.was) c.judge-judged.ensures c.in-Replaces.is c.replace.ensures

pub returns-in-Adds : goal.returns-in-Adds
returns-in-Adds c = added c.args.book.now c.in_ok-entry.entry c.args.count c.args.entry c.judge-judged.result c.in_ok-entry.was (c.requires c.in_ok-entry.entry c.in_ok-entry.was) c.judge-judged.ensures c.in-Adds.is c.append.ensures

pub returns-in-Late : goal.returns-in-Late
returns-in-Late c =
    elim c.in-Late.is [ inl is ↦ late c.args.book.now c.in_ok-entry.entry c.args.count c.args.entry c.judge-judged.result c.in_ok-entry.was (c.requires c.in_ok-entry.entry c.in_ok-entry.was) c.judge-judged.ensures is | inr is ↦ full c.args.book.now c.in_ok-entry.entry c.args.count c.args.entry c.judge-judged.result c.in_ok-entry.was (c.requires c.in_ok-entry.entry c.in_ok-entry.was) c.judge-judged.ensures is ]
