-- `text::quoted_length` meets its contract. The two quotes are two bytes more.
-- Assumes nothing.
use native.Mathlib.Omega.{arith}
use Rattle.semantics.specs.Printing.{string_byte}
use Rattle.text.specs.Lengths.{string_byte_short}
use Rattle.text.proofs.Escapes.{escaped_within, length_quoted}
use Rattle.text.proofs.quoted_length.Goals as goal

pub overflow_add-result : goal.overflow_add-result
overflow_add-result c = omega (arith, escaped_within string_byte string_byte_short c.args.s.now)

pub returns : goal.returns
returns c = omega (arith, length_quoted c.args.s.now)
