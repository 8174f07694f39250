-- `add_name` meets its contract: by whether the name has a slot, and whether there is room for another.
-- Assumes nothing.
use Rattle.std.proofs.lemmas.Result.{err_from_is_err_and}
use mathlib.Core.Path.{sym}
use Rattle.taking.proofs.Naming.{one_there, none_there, one_full, one_added}
use Rattle.taking.proofs.add_name.Goals as goal

pub returns-then-is_some : goal.returns-then-is_some
returns-then-is_some c = one_there _ c.find.ensures.finds c.find.ensures.upper_bound (sym c.if-is_some.ensures)

pub returns-in_err-has_free_name : goal.returns-in_err-has_free_name
returns-in_err-has_free_name c =
    let p = err_from_is_err_and c.from_residual.result c.from_residual.ensures.1 in
    rw (p.1, p.2, c.in_err-has_free_name.ensures.1) (one_full (none_there _ c.find.ensures.finds (sym c.if-is_some.ensures)) c.in_err-has_free_name.ensures.0)

pub returns : goal.returns
returns c = let A = c.add.ensures in
    one_added (none_there _ c.find.ensures.finds (sym c.if-is_some.ensures)) A.adds (record { depth = A.names_value.1; frames = A.names_value.2; lists = A.names_value.3 })
