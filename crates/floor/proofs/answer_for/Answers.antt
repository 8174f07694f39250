-- `answer_for` meets its contract: a clause of `answer_for` for each fate.
-- Assumes nothing.
use mathlib.Core.Path.{sym, ap}
use Rattle.book.specs.declared.Fate.{Fate}
use Rattle.floor.specs.Floor.{answer_for}
use Rattle.floor.proofs.answer_for.Goals as goal

pub returns-in-Replaces : goal.returns-in-Replaces
returns-in-Replaces c = ap (λ (f : Fate). answer_for f c.args.at) (sym c.in-Replaces.is)

pub returns-in-Adds : goal.returns-in-Adds
returns-in-Adds c = ap (λ (f : Fate). answer_for f c.args.at) (sym c.in-Adds.is)

pub returns-in-Late : goal.returns-in-Late
returns-in-Late c = ap (λ (f : Fate). answer_for f c.args.at) (sym c.in-Late.is)

pub returns-in-Full : goal.returns-in-Full
returns-in-Full c = ap (λ (f : Fate). answer_for f c.args.at) (sym c.in-Full.is)
