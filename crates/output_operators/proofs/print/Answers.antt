-- `output_operators::print` meets its contract: the tests decide between stackunderflow, typecheck and ioerror, and the current bytes are written before the string goes.
-- Assumes nothing.
use Rattle.output_operators.proofs.Returns.{print_short, print_type, has_string, print_over, print_good, nowhere_else, log_room}
use native.Mathlib.Omega.{arith}
use Rattle.output_operators.proofs.print.Goals as goal

pub returns-then-m-lt1 : goal.returns-then-m-lt1
returns-then-m-lt1 c = λ d. print_short d c.if-m-lt1.true

pub returns-then-tag_of-ne-TAG_STRING : goal.returns-then-tag_of-ne-TAG_STRING
returns-then-tag_of-ne-TAG_STRING c = λ d. print_type c.if-m-lt1.false c.tag_of.ensures d c.if-tag_of-ne-TAG_STRING.true

pub current_length-n-requires : goal.current_length-n-requires
current_length-n-requires c = (c.if-m-lt1.false, has_string c.if-m-lt1.false c.tag_of.ensures c.if-tag_of-ne-TAG_STRING.false c.requires.1)

pub returns-then-room-n : goal.returns-then-room-n
returns-then-room-n c = λ d. print_over c.if-m-lt1.false c.tag_of.ensures c.if-tag_of-ne-TAG_STRING.false d c.current_length-n.ensures (omega (arith, c.if-room-n.true, log_room c.requires.1))

pub copy_current-requires : goal.copy_current-requires
copy_current-requires c = (c.if-m-lt1.false, has_string c.if-m-lt1.false c.tag_of.ensures c.if-tag_of-ne-TAG_STRING.false c.requires.1, c.current_length-n.ensures, omega (arith, c.if-room-n.false, log_room c.requires.1))

pub overflow_add-after : goal.overflow_add-after
overflow_add-after c = omega (arith, c.if-room-n.false, log_room c.requires.1, c.well_formed.1.1.1.0.0)

pub drop-r-requires : goal.drop-r-requires
drop-r-requires c = (c.if-m-lt1.false, nowhere_else c.requires.1)

pub returns : goal.returns
returns c = λ d. print_good c.if-m-lt1.false c.tag_of.ensures c.if-tag_of-ne-TAG_STRING.false d c.current_length-n.ensures c.requires.1 (omega (arith, c.if-room-n.false, log_room c.requires.1)) c.copy_current.ensures c.drop-r.ensures.moves_heap
