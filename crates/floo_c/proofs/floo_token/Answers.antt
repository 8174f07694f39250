-- `floo_c::floo_token` meets its contract: a token is replied as it is, and any other reading by the number of its refusal or fault.
-- Assumes nothing.
use mathlib.Core.Path.{◌≡◌, sym, ap, ◌∙◌, refl, subst}
use Prim.Native.Nat.{ℕ, ◌+◌, ◌≤◌}
use native.Mathlib.Omega.{arith}
use Rattle.floo_c.specs.TokenReply.{token_reply_of}
use Rattle.floo_c.specs.declared.TokenReply.{TokenReply}
use Rattle.floo_c.proofs.floo_token.Goals as goal

-- A part of no bytes at the script's start is inside it.
inside : {n : ℕ} {t u : TokenReply} → t ≡ u → u.start + u.size ≡ 0 → t.start + t.size ≤ n
inside {n} e z = subst (λ t. t.start + t.size ≤ n) (sym e) (omega (arith, z))

pub returns-in-Ok : goal.returns-in-Ok
returns-in-Ok c = record { value = rw c.kind_number.ensures (ap (token_reply_of c.args.offset) c.in-Ok.ensures.is); size_in_bounds = c.in-Ok.ensures.inside }

pub returns-in-Err-TooLong : goal.returns-in-Err-TooLong
returns-in-Err-TooLong c =
    let L = rw c.in-Err-TooLong.field-0-is at c.in-Err-TooLong.ensures in
    record { value = c.no_token.ensures ∙ ap (token_reply_of c.args.offset) L.is; size_in_bounds = inside c.no_token.ensures refl }

pub returns-in-Err-PastEnd : goal.returns-in-Err-PastEnd
returns-in-Err-PastEnd c =
    let L = rw c.in-Err-PastEnd.field-0-is at c.in-Err-PastEnd.ensures in
    record { value = c.no_token-in-Err-PastEnd.ensures ∙ ap (token_reply_of c.args.offset) L.is; size_in_bounds = inside c.no_token-in-Err-PastEnd.ensures refl }

pub returns-in-Err-Faulty : goal.returns-in-Err-Faulty
returns-in-Err-Faulty c =
    let L = rw c.in-Err-Faulty.field-0-is at c.in-Err-Faulty.ensures in
    record { value = c.no_token-in-Err-Faulty.ensures ∙ rw (c.number_of.ensures, c.place_of.ensures) (ap (token_reply_of c.args.offset) L.is); size_in_bounds = inside c.no_token-in-Err-Faulty.ensures refl }
