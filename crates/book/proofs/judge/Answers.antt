-- `judge` meets its contract: what was found, and its stored time, give the fate (Finding).
use Rattle.std.proofs.Common.{rules, ◌≤◌, ◌∙◌, sym, arith, length}
use Rattle.book.proofs.SoundLaws.{room_within}
use Rattle.book.proofs.Finding.{judged_at, judged_none}
use Rattle.book.proofs.judge.Goals as goal

pub slice_bounds-find-end : goal.slice_bounds-find-end
slice_bounds-find-end c =
    let few : c.args.count ≤ length c.args.book.now = omega (arith, (room_within (length c.args.book.now)).0) in
    search (rules, few)

pub returns-in-Some : goal.returns-in-Some
returns-in-Some c =
    judged_at c.args.book.now c.args.count c.args.entry c.requires (sym c.find.ensures ∙ c.in-Some.is) c.room_of-room.ensures c.time_at.ensures c.decide.ensures

pub time_at-requires : goal.time_at-requires
time_at-requires c = omega (arith, c.requires, (room_within (length c.args.book.now)).0)

pub returns-in-None : goal.returns-in-None
returns-in-None c =
    judged_none c.args.book.now c.args.count c.args.entry c.requires (sym c.find.ensures ∙ c.in-None.is) c.room_of-room.ensures c.decide-in-None.ensures
