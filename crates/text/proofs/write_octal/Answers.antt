-- `text::write_octal` meets its contract. The array that is copied is the definition's text.
-- Assumes nothing.
use Rattle.semantics.specs.Text.{octal}
use Rattle.text.proofs.write_octal.Goals as goal

pub copy-requires : goal.copy-requires
unfolding octal
copy-requires c = c.requires

pub returns : goal.returns
unfolding octal
returns c = c.copy.ensures
