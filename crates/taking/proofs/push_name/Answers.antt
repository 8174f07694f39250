-- `push_name` meets its contract: the tag of a literal name and its slot are the words of the name, which names no object.
-- Assumes nothing.
use Rattle.taking.proofs.Pushing.{name_words_lem}
use Rattle.machine.specs.declared.Machine.{Machine}
use mathlib.Core.Path.{ap}
use Rattle.taking.proofs.push_name.Goals as goal

pub returns : goal.returns
returns c = let W = c.push_words.ensures in record { pushes_name = name_words_lem c.requires.1 W; depth_value = (ap (λ (x : Machine). x.depth) W.state, ap (λ (x : Machine). x.names) W.state, ap (λ (x : Machine). x.frames) W.state, ap (λ (x : Machine). x.lists) W.state) }
