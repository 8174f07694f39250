-- `is_named` meets its contract: the slot agrees with the packed name just where it has that name.
-- Assumes nothing.
use Rattle.dictionary.proofs.Finding.{tells_named}
use Rattle.dictionary.proofs.is_named.Goals as goal

pub returns : goal.returns
returns c = let pre = c.requires in
    let pack = c.pack in
    tells_named _ pre.0 pack.ensures c.agrees.ensures
