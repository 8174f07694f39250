-- The classes of bytes.
-- Assumes nothing.
use Rattle.semantics.specs.Tokens as tokens
use Rattle.token.specs.declared.bytes.Class.{Class}
use Rattle.token.specs.declared.bytes.Class.TheVariants.{NameByte, Bracket, OpenBrace, CloseBrace, Quote, Slash, Other}

abbrev pub class_is : Class → tokens.Class
class_is NameByte = tokens.name_byte
class_is Bracket = tokens.bracket
class_is OpenBrace = tokens.open_brace
class_is CloseBrace = tokens.close_brace
class_is Quote = tokens.quote
class_is Slash = tokens.slash
class_is Other = tokens.other
