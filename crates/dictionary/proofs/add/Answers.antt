-- `add` meets its contract: the words that it stores are those of an unbound slot, and a name more keeps `Rep`.
-- Assumes nothing.
use Rattle.dictionary.proofs.Adding.{slotted_words, adds}
use mathlib.Core.Path.{refl}
use Rattle.dictionary.proofs.add.Goals as goal

pub returns : goal.returns
returns c = record { adds = adds c.requires.0 c.requires.1 (slotted_words c.requires.1 c.spell.auto.dict c.spell.ensures); names_value = (refl, refl, refl, refl) }
