-- `token::skip` meets its contract: the definition's `skip` is where the blanks end.
-- Assumes nothing.
use Rattle.semantics.specs.Groups as groups
use Rattle.token.proofs.skip.Goals as goal

pub returns : goal.returns
unfolding groups.skip
returns c = record { value = c.blank_end.ensures.value; upper_bound = c.blank_end.ensures.upper_bound }
