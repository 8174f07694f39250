-- `add_names` meets its contract: the loop keeps `Adding`, what the names that are done come to. The measure is what is left of the group.
-- Assumes nothing.
use Rattle.std.proofs.lemmas.Result.{err_from_is_err_and}
use Rattle.taking.proofs.Naming.{begin, stands_now, name_few, part_short, part_named, names_full, name_next, names_done}
use Rattle.taking.proofs.add_names.Goals as goal

pub loop-at-init : goal.loop-at-init
loop-at-init c = begin c.requires.1 c.requires.2

pub add_name-requires : goal.add_name-requires
add_name-requires c =
    (part_short _ _ _ (name_few c.loop-at.invariant c.loop-at-test.true _ _ _ (rw c.in-Some.is at c.meet-name.ensures)).0, stands_now c.loop-at.invariant)

pub returns-in_err-r : goal.returns-in_err-r
returns-in_err-r c =
    let p = err_from_is_err_and c.from_residual.result c.from_residual.ensures.1 in
    rw (p.1, p.2)
    (names_full c.loop-at.invariant c.loop-at-test.true _ _ _ (rw c.in-Some.is at c.meet-name.ensures) (part_named c.args.script.now c.in-Some.start c.in-Some.size c.in_err-r.ensures))

pub loop-at-preserved : goal.loop-at-preserved
loop-at-preserved c =
    name_next c.loop-at.invariant c.loop-at-test.true _ _ _ (rw c.in-Some.is at c.meet-name.ensures) (part_named c.args.script.now c.in-Some.start c.in-Some.size c.in_ok-r.ensures) c.add_name.auto.dict

pub returns : goal.returns
returns c = names_done c.loop-at.invariant c.loop-at-test.false
