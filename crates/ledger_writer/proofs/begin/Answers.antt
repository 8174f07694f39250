-- `begin` meets its contract: the header is copied where it is live, and has 19 bytes.
-- Assumes nothing.
use mathlib.Core.Path.{refl}
use Rattle.ledger.specs.Ledger.{lines, header, ledger_text}
use Rattle.semantics.specs.Text.{textual}
use Rattle.ledger_writer.proofs.Emits.{live_emits, measures}
use Rattle.ledger_writer.proofs.begin.Goals as goal

pub copy-requires : goal.copy-requires
unfolding textual lines header ledger_text
copy-requires c = c.requires.fits c.if-live.true

pub shape_of-text-then-live : goal.shape_of-text-then-live
shape_of-text-then-live c = c.copy.auto.out

pub returns-then-live : goal.returns-then-live
unfolding textual lines header ledger_text
returns-then-live c = live_emits c.if-live.true c.copy.ensures

pub returns : goal.returns
unfolding textual lines header ledger_text
returns c = measures c.if-live.false refl
