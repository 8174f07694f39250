-- `turns::is_beyond` meets its contract: by the increment's sign bit.
-- Assumes nothing.
use Rattle.turns.proofs.Looping.{beyond_up, beyond_down}
use mathlib.Core.Path.{◌∙◌}
use Rattle.turns.proofs.is_beyond.Goals as goal

pub returns-then-increment-lt-SIGN : goal.returns-then-increment-lt-SIGN
returns-then-increment-lt-SIGN c = c.lt.ensures ∙ beyond_up c.args.next c.args.increment c.args.last c.if-increment-lt-SIGN.true

pub returns : goal.returns
returns c = c.lt-2.ensures ∙ beyond_down c.args.next c.args.increment c.args.last c.if-increment-lt-SIGN.false c.ranges.increment.fits
