-- `write_name` meets its contract: the text of the first j bytes is written.
-- Assumes nothing.
use Rattle.printing.proofs.Spelling.{text_begin, name_few, text_room, text_again, text_ends}
use Rattle.names.proofs.Spelling.{named_inside}
use native.Mathlib.Omega.{arith}
use Rattle.printing.proofs.write_name.Goals as goal

pub name_size-n-requires : goal.name_size-n-requires
name_size-n-requires c = named_inside c.requires.named

pub loop-j-init : goal.loop-j-init
loop-j-init c = text_begin _ _ _ _

pub name_byte-b-requires : goal.name_byte-b-requires
name_byte-b-requires c = (named_inside c.requires.named, omega (arith, c.loop-j-test.true, name_few c.name_size-n.ensures c.requires.named))

pub write_name_byte-next-requires : goal.write_name_byte-next-requires
write_name_byte-next-requires c = text_room c.name_size-n.ensures c.requires c.loop-j-test.true c.name_byte-b.ensures c.loop-j.invariant

pub loop-j-preserved : goal.loop-j-preserved
loop-j-preserved c = text_again c.name_size-n.ensures c.requires c.loop-j-test.true c.name_byte-b.ensures c.loop-j.invariant c.write_name_byte-next.ensures c.write_name_byte-next.auto.out

pub shape_of-log : goal.shape_of-log
shape_of-log c = c.loop-j.invariant.long

pub returns : goal.returns
returns c = text_ends c.name_size-n.ensures c.requires c.loop-j-test.false c.loop-j.invariant
