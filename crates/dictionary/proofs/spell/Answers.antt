-- `spell` meets its contract: the length is stored before the packed bytes, and `pack` leaves all other words.
-- Assumes nothing.
use Rattle.dictionary.proofs.Spelling.{spells}
use lib.ListN.{length, length-set}
use Prim.Native.Nat.{◌*◌}
use mathlib.Core.Path.{◌∙◌}
use native.Mathlib.Omega.{arith}
use Rattle.dictionary.proofs.spell.Goals as goal

pub pack-requires : goal.pack-requires
pack-requires c = (simp length-set (omega (arith, c.requires.1)), simp length-set (omega (arith, c.requires.2)))

pub shape_of-dict : goal.shape_of-dict
shape_of-dict c = c.pack.auto.words ∙ length-set c.args.dict.now (12 * c.args.slot) (length c.args.name.now)

pub returns : goal.returns
returns c = spells c.requires.1 c.pack.ensures
