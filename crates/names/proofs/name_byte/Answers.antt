-- `name_byte` meets its contract: the word that holds the byte has it where the slot says (`byte_says`).
-- Assumes nothing.
use mathlib.Core.Path.{refl}
use Rattle.names.proofs.Spelling.{byte_says}
use Rattle.names.proofs.name_byte.Goals as goal

pub returns : goal.returns
returns c = byte_says _ _ _ c.requires.1 refl c.byte_of.ensures
