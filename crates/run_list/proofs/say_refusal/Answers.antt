-- What is said lies within the line.
use Rattle.std.proofs.Common.{sym, length-take-le}
use Rattle.run_list.proofs.Parts.{within}
use Rattle.run_list.proofs.say_refusal.Goals as goal

pub slice_bounds-line-end : goal.slice_bounds-line-end
slice_bounds-line-end g c = within c.write_number-end.ensures

pub slice_bounds-write_all-end : goal.slice_bounds-write_all-end
slice_bounds-write_all-end g c = sym (length-take-le _ _ (within c.write_number-end.ensures))
