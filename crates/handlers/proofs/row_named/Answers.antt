-- `row_named` meets its contract: the literal is the list of the errors' names, by computation.
-- Assumes nothing.
use Rattle.dictionary.specs.Listing.{listed}
use Rattle.semantics.specs.Text.{textual}
use Rattle.semantics.specs.Errors.{error_names}
use mathlib.Core.Path.{refl}
use Rattle.handlers.proofs.row_named.Goals as goal

pub row_among-requires : goal.row_among-requires
unfolding listed error_names textual
row_among-requires c = let pre = c.requires in
    (refl, pre.0, pre.1)
