-- `token::token_at` meets its contract: the class of the first byte is the definition's, and each class has its own reading.
-- Assumes nothing.
use Rattle.token.proofs.Lexemes.{of_class, end_token, other_fault, bracket_token, open_token, close_token}
use native.Mathlib.Omega.{arith}
use Rattle.token.proofs.token_at.Goals as goal

pub returns-then-script-start : goal.returns-then-script-start
returns-then-script-start c = let pre = c.requires in
    end_token pre.start_in_bounds c.if-script-start.true

pub class_of-requires : goal.class_of-requires
class_of-requires c = tt

pub word_at-requires : goal.word_at-requires
word_at-requires c = let pre = c.requires in record { name_byte_at = of_class c.if-script-start.false c.class_of.ensures _ c.in-NameByte.is; script_len_bound = pre.script_len_bound }

pub string_at-requires : goal.string_at-requires
string_at-requires c = let pre = c.requires in record { quote_at = of_class c.if-script-start.false c.class_of.ensures _ c.in-Quote.is; script_len_bound = pre.script_len_bound }

pub literal_at-requires : goal.literal_at-requires
literal_at-requires c = let pre = c.requires in record { slash_at = of_class c.if-script-start.false c.class_of.ensures _ c.in-Slash.is; script_len_bound = pre.script_len_bound }

pub overflow_cast-result : goal.overflow_cast-result
overflow_cast-result c = let pre = c.requires in
    omega (arith, c.if-script-start.false, pre.script_len_bound)

pub returns-in-NameByte : goal.returns-in-NameByte
returns-in-NameByte c = c.word_at.ensures

pub returns-in-Bracket : goal.returns-in-Bracket
returns-in-Bracket c = bracket_token (of_class c.if-script-start.false c.class_of.ensures _ c.in-Bracket.is)

pub returns-in-OpenBrace : goal.returns-in-OpenBrace
returns-in-OpenBrace c = open_token (of_class c.if-script-start.false c.class_of.ensures _ c.in-OpenBrace.is)

pub returns-in-CloseBrace : goal.returns-in-CloseBrace
returns-in-CloseBrace c = close_token (of_class c.if-script-start.false c.class_of.ensures _ c.in-CloseBrace.is)

pub returns-in-Quote : goal.returns-in-Quote
returns-in-Quote c = c.string_at.ensures

pub returns-in-Slash : goal.returns-in-Slash
returns-in-Slash c = c.literal_at.ensures

pub returns-in-Other : goal.returns-in-Other
returns-in-Other c = other_fault (of_class c.if-script-start.false c.class_of.ensures _ c.in-Other.is)
