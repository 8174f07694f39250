-- `emit` meets its contract: the text record by record (Turns).
use Rattle.std.proofs.Common.{rules}
use Rattle.ledger_writer.proofs.Turns.{begin_room, emitting_starts, turn_inside, turn_room, turn_next, emitting_ends}
use Rattle.ledger_writer.proofs.emit.Goals as goal

pub begin-at-requires : goal.begin-at-requires
begin-at-requires c = begin_room c.args.book.now c.args.count c.requires.0 c.args.live c.args.text.now c.requires.1

pub loop-i-init : goal.loop-i-init
loop-i-init c = emitting_starts c.args.book.now c.args.count c.requires.0 c.args.live c.args.text.now c.requires.1 c.begin-at.ensures c.begin-at.auto.text

pub bounds-book-i : goal.bounds-book-i
bounds-book-i c = turn_inside c.args.book.now c.args.count c.requires.0 c.args.live c.args.text.now c.requires.1 c.loop-i.i c.loop-i.at c.loop-i.text c.loop-i.invariant c.loop-i-test.true

pub offset_bounds-book-i : goal.offset_bounds-book-i
offset_bounds-book-i c = let l = turn_inside c.args.book.now c.args.count c.requires.0 c.args.live c.args.text.now c.requires.1 c.loop-i.i c.loop-i.at c.loop-i.text c.loop-i.invariant c.loop-i-test.true in
    search (rules, l)

pub emit_line-at-requires : goal.emit_line-at-requires
emit_line-at-requires c = turn_room c.args.book.now c.args.count c.requires.0 c.args.live c.args.text.now c.requires.1 c.loop-i.i c.loop-i.at c.loop-i.text c.loop-i.invariant c.loop-i-test.true _

pub loop-i-preserved : goal.loop-i-preserved
loop-i-preserved c = turn_next c.args.book.now c.args.count c.requires.0 c.args.live c.args.text.now c.requires.1 c.loop-i.i c.loop-i.at c.loop-i.text c.loop-i.invariant c.loop-i-test.true _ c.emit_line-at.ensures c.emit_line-at.auto.text

pub returns : goal.returns
returns c = emitting_ends c.args.book.now c.args.count c.requires.0 c.args.live c.args.text.now c.requires.1 c.loop-i.i c.loop-i.at c.loop-i.text c.loop-i.invariant c.loop-i-test.false
