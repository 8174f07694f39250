-- `scan` meets its contract: what the book may get follows from the run (`may_enter`), and the three calls make the scan (`scanned`).
-- Assumes nothing.
use Rattle.floor.proofs.Scanning.{may_enter, scanned}
use Rattle.floor.proofs.scan.Goals as goal

pub enter-entered-requires : goal.enter-entered-requires
enter-entered-requires c = may_enter c.args.book.now c.args.count c.is_sound-sound.ensures c.run_labelled-ran.ensures

pub returns : goal.returns
returns c = scanned _ c.is_sound-sound.ensures c.run_labelled-ran.ensures c.enter-entered.ensures c.answered.ensures
