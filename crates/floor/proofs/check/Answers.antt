-- `check` meets its contract: each test in turn (`Checking`).
-- Assumes nothing.
use native.Mathlib.Omega.{arith}
use mathlib.Core.Path.{ap}
use mathlib.Core.Bool.{not}
use Rattle.setup.specs.Lending.{lent_of}
use Rattle.floor.specs.Floor.{Asked}
use Rattle.floor.proofs.Checking.{refusal_passed, is_malformed, is_long, has_no_slot, has_no_cells, goes_on_lem}
use Rattle.floor.proofs.check.Goals as goal

pub returns-in_err-check : goal.returns-in_err-check
returns-in_err-check c =
    let asked : Asked = record { script = c.args.script.now; fuel = c.args.fuel; label = c.args.label.now; lent = lent_of c.args.lent } in
    refusal_passed asked c.args.sound _ _ c.in_err-check.ensures c.from_residual.ensures.1

pub returns-then-not-sound : goal.returns-then-not-sound
returns-then-not-sound c =
    let asked : Asked = record { script = c.args.script.now; fuel = c.args.fuel; label = c.args.label.now; lent = lent_of c.args.lent } in
    is_malformed asked c.args.sound c.in_ok-check.ensures (omega arith) (ap not c.if-not-sound.true)

pub returns-then-label-gt-LABEL_MOST : goal.returns-then-label-gt-LABEL_MOST
returns-then-label-gt-LABEL_MOST c =
    let asked : Asked = record { script = c.args.script.now; fuel = c.args.fuel; label = c.args.label.now; lent = lent_of c.args.lent } in
    is_long asked c.args.sound c.in_ok-check.ensures (omega arith) (ap not c.if-not-sound.false) c.if-label-gt-LABEL_MOST.true

pub returns-then-lent : goal.returns-then-lent
returns-then-lent c =
    let asked : Asked = record { script = c.args.script.now; fuel = c.args.fuel; label = c.args.label.now; lent = lent_of c.args.lent } in
    has_no_slot asked c.args.sound c.in_ok-check.ensures (omega arith) (ap not c.if-not-sound.false) c.if-label-gt-LABEL_MOST.false c.if-lent.true

pub returns-then-lent-label : goal.returns-then-lent-label
returns-then-lent-label c =
    let asked : Asked = record { script = c.args.script.now; fuel = c.args.fuel; label = c.args.label.now; lent = lent_of c.args.lent } in
    has_no_cells asked c.args.sound c.in_ok-check.ensures (omega arith) (ap not c.if-not-sound.false) c.if-label-gt-LABEL_MOST.false c.if-lent.false c.if-lent-label.true

pub returns : goal.returns
returns c =
    let asked : Asked = record { script = c.args.script.now; fuel = c.args.fuel; label = c.args.label.now; lent = lent_of c.args.lent } in
    goes_on_lem asked c.args.sound c.in_ok-check.ensures (omega arith) (ap not c.if-not-sound.false) c.if-label-gt-LABEL_MOST.false c.if-lent.false c.if-lent-label.false
