-- `find` meets its contract: the first slot that agrees with the packed name is the name's.
-- Assumes nothing.
use Rattle.dictionary.proofs.Finding.{finds, found_low}
use Rattle.dictionary.proofs.find.Goals as goal

pub returns : goal.returns
returns c = let F = c.first.ensures in record { finds = finds c.requires.0 c.pack.ensures F.first (found_low c.first.result F.upper_bound); upper_bound = F.upper_bound }
