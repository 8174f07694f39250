-- `text::write_escaped` meets its contract. The text of one byte more is what was written and that byte's text after it, within the whole text.
-- Assumes nothing.
use Rattle.std.proofs.Common.{refl, ◌∙◌, ◌+◌, arith}
use Rattle.semantics.specs.Printing.{escaped}
use Rattle.text.proofs.Pasting.{nothing}
use Rattle.text.proofs.Escapes.{escaped_longer, escaped_part, escaped_next}
use Rattle.text.proofs.write_escaped.Goals as goal

pub loop-b-init : goal.loop-b-init
unfolding escaped
loop-b-init g c = record { written = nothing _ _; same_length = refl }

pub write-next-requires : goal.write-next-requires
write-next-requires g c =
    let text = g.E.Escape.text in
    let s = c.args.s.now in
    omega (arith, escaped_longer text s c.loop-b.b-index c.loop-b-test.true, escaped_part text s (c.loop-b.b-index + 1), c.requires, c.loop-b.invariant.written.end, c.loop-b.invariant.same_length)

pub loop-b-preserved : goal.loop-b-preserved
loop-b-preserved g c =
    record {
      written = escaped_next _ _ _ c.loop-b-test.true (omega (arith, c.requires)) c.loop-b.invariant.written c.write-next.ensures;
      same_length = c.write-next.auto.out ∙ c.loop-b.invariant.same_length;
    }
