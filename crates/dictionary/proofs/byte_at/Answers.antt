-- `byte_at` meets its contract: past the end a list has its default.
-- Assumes nothing.
use lib.ListN.{get_or-eq_default}
use mathlib.Core.Path.{sym}
use Rattle.dictionary.proofs.byte_at.Goals as goal

pub returns-then-name-k : goal.returns-then-name-k
returns-then-name-k c = sym (get_or-eq_default c.args.name.now 0 c.if-name-k.true)
