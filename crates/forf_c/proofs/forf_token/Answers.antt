-- `forf_c::forf_token` meets its contract: each way to an answer by its law.
-- Assumes nothing.
use mathlib.Core.Path.{ap, ◌∙◌, refl}
use Rattle.forf_c.specs.Reply.{token_reply_of}
use Rattle.forf_c.proofs.Replying.{inside}
use Rattle.forf_c.proofs.forf_token.Goals as goal

pub returns-in-Ok : goal.returns-in-Ok
returns-in-Ok c = record { value = rw c.kind_number.ensures (ap (token_reply_of c.args.offset) c.in-Ok.ensures.is); size_in_bounds = c.in-Ok.ensures.inside }

pub returns-in-Err-TooLong : goal.returns-in-Err-TooLong
returns-in-Err-TooLong c =
    let L = rw c.in-Err-TooLong.field-0-is at c.in-Err-TooLong.ensures in
    record { value = c.no_token.ensures ∙ ap (token_reply_of c.args.offset) L.is; size_in_bounds = inside c.no_token.ensures refl }

pub returns-in-Err-PastEnd : goal.returns-in-Err-PastEnd
returns-in-Err-PastEnd c =
    let L = rw c.in-Err-PastEnd.field-0-is at c.in-Err-PastEnd.ensures in
    record { value = c.no_token-in-Err-PastEnd.ensures ∙ ap (token_reply_of c.args.offset) L.is; size_in_bounds = inside c.no_token-in-Err-PastEnd.ensures refl }

pub returns-in-Err-Faulty : goal.returns-in-Err-Faulty
returns-in-Err-Faulty c =
    let L = rw c.in-Err-Faulty.field-0-is at c.in-Err-Faulty.ensures in
    record { value = c.no_token-in-Err-Faulty.ensures ∙ ap (token_reply_of c.args.offset) L.is; size_in_bounds = inside c.no_token-in-Err-Faulty.ensures refl }
