-- `write_string` meets its contract: after the quote the text of the first q current bytes is written.
-- Assumes nothing.
use Rattle.printing.proofs.Bytes.{text_begin, quoted_fits, text_room, text_again, text_past, text_ends}
use lib.ListN.{length-set}
use mathlib.Core.Path.{◌∙◌}
use native.Mathlib.Omega.{arith}
use Rattle.printing.proofs.write_string.Goals as goal

pub current_size-n-requires : goal.current_size-n-requires
current_size-n-requires c = c.requires.known

pub bounds-log-at : goal.bounds-log-at
bounds-log-at c = omega (arith, quoted_fits c.requires)

pub overflow_add-next : goal.overflow_add-next
overflow_add-next c = omega (arith, quoted_fits c.requires)

pub loop-q-init : goal.loop-q-init
loop-q-init c = text_begin _ _ _ _

pub string_byte-b-requires : goal.string_byte-b-requires
string_byte-b-requires c = (omega (arith, c.loop-q-test.true, c.current_size-n.ensures.upper_bound), c.requires.known)

pub write_string_byte-next-requires : goal.write_string_byte-next-requires
write_string_byte-next-requires c = text_room c.requires c.current_size-n.ensures.current_size (length-set c.args.log.now c.args.at 34) c.loop-q.invariant c.loop-q-test.true c.string_byte-b.ensures

pub loop-q-preserved : goal.loop-q-preserved
loop-q-preserved c = text_again c.requires c.current_size-n.ensures.current_size (length-set c.args.log.now c.args.at 34) c.loop-q.invariant c.loop-q-test.true c.string_byte-b.ensures c.write_string_byte-next.ensures c.write_string_byte-next.auto.out

pub bounds-log-next : goal.bounds-log-next
bounds-log-next c = text_past c.requires c.current_size-n.ensures.current_size (length-set c.args.log.now c.args.at 34) c.loop-q.invariant c.loop-q-test.false

pub overflow_add-result : goal.overflow_add-result
overflow_add-result c = omega (arith, text_past c.requires c.current_size-n.ensures.current_size (length-set c.args.log.now c.args.at 34) c.loop-q.invariant c.loop-q-test.false, c.loop-q.invariant.long, length-set c.args.log.now c.args.at 34)

pub shape_of-log : goal.shape_of-log
shape_of-log c = length-set c.loop-q.log c.loop-q.next 34 ∙ c.loop-q.invariant.long ∙ length-set c.args.log.now c.args.at 34

pub returns : goal.returns
returns c = text_ends c.requires c.current_size-n.ensures.current_size c.loop-q-test.false c.loop-q.invariant
