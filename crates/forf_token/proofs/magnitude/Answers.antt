-- `forf_token::magnitude` meets its contract: each form reads its own digits.
-- Assumes nothing.
use native.Mathlib.Omega.{arith}
use Rattle.forf_token.proofs.Numbers.{read_short, read_plain, read_hexadecimal, read_octal}
use Rattle.forf_token.proofs.magnitude.Goals as goal
use Rattle.forf_token.proofs.magnitude.Goals.{in-48, in-48-2, in_default, in_default-2}

pub returns : goal.returns
returns c =
    let s = c.args.s.now in
    elim c.if-s-at-lt2.branch [
      | in-48 w ↦ read_hexadecimal s c.args.at c.args.limit _ c.numeral_at.result c.or.ensures w.in-48.len_at_least (omega arith) (omega arith) (rw w.base-is at c.numeral_at.ensures)
      | in-48-2 w ↦ read_octal s c.args.at c.args.limit _ c.numeral_at.result c.or.ensures w.in-48-2.len_at_least (omega arith) (λ z. omega (arith, z)) (rw w.base-is at c.numeral_at.ensures)
      | in_default w ↦ read_short s c.args.at c.args.limit _ c.numeral_at.result c.or.ensures w.in_default.len_below (rw w.base-is at c.numeral_at.ensures)
      | in_default-2 w ↦ read_plain s c.args.at c.args.limit _ c.numeral_at.result c.or.ensures w.in_default.len_at_least (λ z. omega (arith, z)) (rw w.base-is at c.numeral_at.ensures)
    ]
