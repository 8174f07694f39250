-- `forf_machine::titles::word_of` meets its contract: each way to an answer by its law.
-- Assumes nothing.
use borrow.Author.Rules.{rules}
use Rattle.semantics.specs.Text.{bytes, textual}
use Rattle.forf_semantics.specs.Operators.{◌is◌, table}
use Rattle.forf_machine.specs.Titles.{titles, key_from, key_of, keys, key_place}
use mathlib.Core.Path.{refl}
use Rattle.forf_machine.proofs.Naming.{key_at, key_rest}
use Rattle.forf_machine.proofs.titles.word_of.Goals as goal

pub returns-in-382 : goal.returns-in-382
unfolding keys titles table ◌is◌ key_from key_of key_place textual
returns-in-382 c = key_at c.in-382.is refl

pub returns-in-289 : goal.returns-in-289
unfolding keys titles table ◌is◌ key_from key_of key_place textual
returns-in-289 c = key_at c.in-289.is refl

pub returns-in-23159411 : goal.returns-in-23159411
unfolding keys titles table ◌is◌ key_from key_of key_place textual
returns-in-23159411 c = key_at c.in-23159411.is refl

pub returns-in-299 : goal.returns-in-299
unfolding keys titles table ◌is◌ key_from key_of key_place textual
returns-in-299 c = key_at c.in-299.is refl

pub returns-in-301 : goal.returns-in-301
unfolding keys titles table ◌is◌ key_from key_of key_place textual
returns-in-301 c = key_at c.in-301.is refl

pub returns-in-298 : goal.returns-in-298
unfolding keys titles table ◌is◌ key_from key_of key_place textual
returns-in-298 c = key_at c.in-298.is refl

pub returns-in-303 : goal.returns-in-303
unfolding keys titles table ◌is◌ key_from key_of key_place textual
returns-in-303 c = key_at c.in-303.is refl

pub returns-in-293 : goal.returns-in-293
unfolding keys titles table ◌is◌ key_from key_of key_place textual
returns-in-293 c = key_at c.in-293.is refl

pub returns-in-294 : goal.returns-in-294
unfolding keys titles table ◌is◌ key_from key_of key_place textual
returns-in-294 c = key_at c.in-294.is refl

pub returns-in-380 : goal.returns-in-380
unfolding keys titles table ◌is◌ key_from key_of key_place textual
returns-in-380 c = key_at c.in-380.is refl

pub returns-in-350 : goal.returns-in-350
unfolding keys titles table ◌is◌ key_from key_of key_place textual
returns-in-350 c = key_at c.in-350.is refl

pub returns-in-80956 : goal.returns-in-80956
unfolding keys titles table ◌is◌ key_from key_of key_place textual
returns-in-80956 c = key_at c.in-80956.is refl

pub returns-in-81470 : goal.returns-in-81470
unfolding keys titles table ◌is◌ key_from key_of key_place textual
returns-in-81470 c = key_at c.in-81470.is refl

pub returns-in-318 : goal.returns-in-318
unfolding keys titles table ◌is◌ key_from key_of key_place textual
returns-in-318 c = key_at c.in-318.is refl

pub returns-in-81469 : goal.returns-in-81469
unfolding keys titles table ◌is◌ key_from key_of key_place textual
returns-in-81469 c = key_at c.in-81469.is refl

pub returns-in-316 : goal.returns-in-316
unfolding keys titles table ◌is◌ key_from key_of key_place textual
returns-in-316 c = key_at c.in-316.is refl

pub returns-in-80957 : goal.returns-in-80957
unfolding keys titles table ◌is◌ key_from key_of key_place textual
returns-in-80957 c = key_at c.in-80957.is refl

pub returns-in-317 : goal.returns-in-317
unfolding keys titles table ◌is◌ key_from key_of key_place textual
returns-in-317 c = key_at c.in-317.is refl

pub returns-in-80958 : goal.returns-in-80958
unfolding keys titles table ◌is◌ key_from key_of key_place textual
returns-in-80958 c = key_at c.in-80958.is refl

pub returns-in-92518 : goal.returns-in-92518
unfolding keys titles table ◌is◌ key_from key_of key_place textual
returns-in-92518 c = key_at c.in-92518.is refl

pub returns-in-397363485897573 : goal.returns-in-397363485897573
unfolding keys titles table ◌is◌ key_from key_of key_place textual
returns-in-397363485897573 c = key_at c.in-397363485897573.is refl

pub returns-in-24145776 : goal.returns-in-24145776
unfolding keys titles table ◌is◌ key_from key_of key_place textual
returns-in-24145776 c = key_at c.in-24145776.is refl

pub returns-in-23360880 : goal.returns-in-23360880
unfolding keys titles table ◌is◌ key_from key_of key_place textual
returns-in-23360880 c = key_at c.in-23360880.is refl

pub returns-in-5997355880 : goal.returns-in-5997355880
unfolding keys titles table ◌is◌ key_from key_of key_place textual
returns-in-5997355880 c = key_at c.in-5997355880.is refl

pub returns-in-6131246452 : goal.returns-in-6131246452
unfolding keys titles table ◌is◌ key_from key_of key_place textual
returns-in-6131246452 c = key_at c.in-6131246452.is refl

pub returns-in-6130460020 : goal.returns-in-6130460020
unfolding keys titles table ◌is◌ key_from key_of key_place textual
returns-in-6130460020 c = key_at c.in-6130460020.is refl

pub returns-in_default : goal.returns-in_default
unfolding keys titles table key_of key_from ◌is◌ bytes
returns-in_default c = key_rest _ (search rules)
