-- `begin` meets its contract: the literal is the list of the predefined names, by computation, and with their slots written the words stand for the start.
-- Assumes nothing.
use Rattle.start.proofs.Beginning.{begins}
use Rattle.start.specs.Predefined.{names}
use Rattle.dictionary.specs.Listing.{listed}
use Rattle.semantics.specs.Steps.{slot, predefined}
use Rattle.semantics.specs.Operators.{◌is◌, table}
use Rattle.semantics.specs.Text.{textual}
use native.Mathlib.Omega.{arith}
use mathlib.Core.Path.{refl, ◌∙◌}
use Rattle.start.proofs.begin.Goals as goal

pub write_names-requires : goal.write_names-requires
unfolding listed names predefined table slot ◌is◌ textual
write_names-requires c = let pre = c.requires in
    (refl, pre.0, pre.1)

pub forget_handlers-requires : goal.forget_handlers-requires
forget_handlers-requires c = let write-names = c.write_names in
    let pre = c.requires in
    (omega (arith, write-names.auto.dict, pre.0), omega (arith, write-names.auto.dict, pre.1))

pub shape_of-dict : goal.shape_of-dict
shape_of-dict c = let forget-handlers = c.forget_handlers in
    let write-names = c.write_names in
    forget-handlers.auto.dict ∙ write-names.auto.dict

pub returns : goal.returns
returns c = let pre = c.requires in
    let forget-handlers = c.forget_handlers in
    let write-names = c.write_names in
    begins c.fresh.ensures pre.2 (omega (arith, forget-handlers.auto.dict, write-names.auto.dict, pre.0)) (omega (arith, forget-handlers.auto.dict, write-names.auto.dict, pre.1)) write-names.ensures forget-handlers.ensures
