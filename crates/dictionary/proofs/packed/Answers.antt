-- `packed` meets its contract: four bytes below 256 are the bytes of their word.
-- Assumes nothing.
use Rattle.dictionary.proofs.Spelling.{four_bytes}
use borrow.Author.Rules.{rules}
use Rattle.dictionary.proofs.packed.Goals as goal

pub returns : goal.returns
returns c = four_bytes _ _ (search rules) (search rules) (search rules) (search rules) c.byte_at-a.ensures c.byte_at-b.ensures c.byte_at-c.ensures c.byte_at-d.ensures
