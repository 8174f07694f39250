-- `text::escaped_length` meets its contract. The text of one byte more is longer by that byte's, and all of it has 4 bytes at most for each.
-- Assumes nothing.
use Rattle.std.proofs.Common.{refl, ◌+◌, arith}
use Rattle.semantics.specs.Printing.{escaped}
use Rattle.text.proofs.Escapes.{escaped_longer, escaped_part, escaped_within}
use Rattle.text.proofs.escaped_length.Goals as goal

pub loop-b-init : goal.loop-b-init
unfolding escaped
loop-b-init g c = refl

pub overflow_add-sum : goal.overflow_add-sum
overflow_add-sum g c =
    let text = g.E.Escape.text in
    let s = c.args.s.now in
    let i = c.loop-b.b-index in
    record { fits = omega (arith, escaped_longer text s i c.loop-b-test.true, escaped_part text s (i + 1), escaped_within text g.met.E.Escape.short s) }

pub loop-b-preserved : goal.loop-b-preserved
loop-b-preserved g c = omega (arith, escaped_longer g.E.Escape.text c.args.s.now c.loop-b.b-index c.loop-b-test.true)
