-- `is_sound_at` meets its contract: the range, and no place before with the number (Finding).
use Rattle.book.proofs.Finding.{alone_told}
use Rattle.book.proofs.is_sound_at.Goals as goal

pub returns-then-in_range : goal.returns-then-in_range
returns-then-in_range c = alone_told c.args.book.now c.args.at _ c.find.result c.is_none.result c.requires c.find.ensures c.is_none.ensures c.if-in_range.ensures
