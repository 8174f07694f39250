-- `header_end` meets its contract: the header, and then nothing or the end of its line (Heading).
-- Assumes nothing.
use borrow.Author.Tests.{eqb-true, eqb-false}
use mathlib.Core.Path.{sym, subst}
use Rattle.ledger_reader.specs.Judging.{Headed}
use Rattle.semantics.specs.Text.{textual}
use Rattle.ledger.specs.Ledger.{header}
use Rattle.ledger_reader.proofs.Heading.{header_none, header_alone, header_line, header_other}
use Rattle.ledger_reader.proofs.header_end.Goals as goal

pub returns-then-is_empty : goal.returns-then-is_empty
unfolding header textual
returns-then-is_empty c = header_alone c.args.text.now c.in_ok-rest.ensures.cases (eqb-true _ _ (sym c.if-is_empty.ensures))

pub returns-then-starts_with : goal.returns-then-starts_with
unfolding header textual
returns-then-starts_with c = header_line c.args.text.now c.in_ok-rest.ensures.cases (eqb-false _ _ (sym c.if-is_empty.ensures)) c.starts_with.ensures.value c.if-starts_with.true

pub returns : goal.returns
unfolding header textual
returns c = header_other c.args.text.now c.in_ok-rest.ensures.cases (eqb-false _ _ (sym c.if-is_empty.ensures)) c.starts_with.ensures.value c.if-starts_with.false

pub returns-in_err-rest : goal.returns-in_err-rest
unfolding header textual
returns-in_err-rest c = subst (Headed c.args.text.now) (sym c.from_residual.ensures) (header_none c.args.text.now c.in_err-rest.ensures.cases)
