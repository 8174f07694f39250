-- `token::string_at` meets its contract: a string's judgment is the definition's reading of it.
-- Assumes nothing.
use Rattle.token.proofs.Lexemes.{string_token, string_cut, string_bad}
use Rattle.token.proofs.string_at.Goals as goal

pub returns-in-Ok : goal.returns-in-Ok
returns-in-Ok c = string_token c.requires.quote_at c.in-Ok.ensures

pub returns-in-Err-Cut : goal.returns-in-Err-Cut
returns-in-Err-Cut c = string_cut c.requires.quote_at (rw c.in-Err-Cut.field-0-is at c.in-Err-Cut.ensures)

pub returns-in-Err-Bad : goal.returns-in-Err-Bad
returns-in-Err-Bad c = string_bad c.requires.quote_at (rw c.in-Err-Bad.field-0-is at c.in-Err-Bad.ensures)
