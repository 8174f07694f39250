-- `text::write_quoted` meets its contract. A quote, the text and a quote, one after the other, are the definition's text.
-- Assumes nothing.
use mathlib.Core.Path.{◌∙◌}
use Prim.Native.Nat.{◌<◌}
use native.Mathlib.Omega.{arith}
use lib.ListN.{length, length-set}
use Rattle.text.proofs.Pasting.{first, last, respelt}
use Rattle.text.proofs.Escapes.{length_quoted, quoted_parts}
use Rattle.text.proofs.write_quoted.Goals as goal

pub bounds-out-at : goal.bounds-out-at
bounds-out-at c = omega (arith, length_quoted c.args.s.now)

pub write_escaped-after-requires : goal.write_escaped-after-requires
write_escaped-after-requires c = simp length-set (omega (arith, length_quoted c.args.s.now))

pub bounds-out-after : goal.bounds-out-after
bounds-out-after c = omega (arith, length_quoted c.args.s.now, length-set c.args.out.now c.args.at 34, c.write_escaped-after.auto.out, c.requires)

pub overflow_add-result : goal.overflow_add-result
overflow_add-result c = omega (arith, length_quoted c.args.s.now, c.requires)

pub shape_of-out : goal.shape_of-out
shape_of-out c = simp length-set (c.write_escaped-after.auto.out ∙ length-set c.args.out.now c.args.at 34)

pub returns : goal.returns
returns c = let out = c.args.out.now in
    let same = length-set out c.args.at 34 in
    let size = length_quoted c.args.s.now in
    let ends : c.write_escaped-after.result < length c.write_escaped-after.new.out = omega (arith, c.write_escaped-after.auto.out, c.requires) in
    respelt (quoted_parts _) (first c.args.at 34 out (omega (arith, c.requires)) (last 34 (omega (arith, c.requires)) ends c.write_escaped-after.ensures))
