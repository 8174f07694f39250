-- What is replied of an answer and of a reading.
-- Assumes nothing.
use mathlib.Core.Path.{◌≡◌, sym, ap, ◌∙◌, subst}
use Prim.Native.Nat.{ℕ, ◌+◌, ◌≤◌}
use native.Mathlib.Omega.{arith}
use Rattle.std.specs.Prelude.{Option, Err}
use Rattle.forf_runner.specs.Promise.{Answer, number_of}
use Rattle.forf_runner.specs.declared.Refusal.{Refusal}
use Rattle.forf_c.specs.Reply.{refusal_reply, reply_of}
use Rattle.forf_c.specs.declared.TokenReply.{TokenReply}

pub reply_as : {a b : Answer} → a ≡ b → reply_of b ≡ reply_of a
reply_as e = ap reply_of (sym e)

pub refusal_as : {a : Answer} {r : Refusal} {m n : Option ℕ} → a ≡ Err r → m ≡ number_of r → m ≡ n → refusal_reply n ≡ reply_of a
refusal_as e p k = ap refusal_reply (sym k ∙ p) ∙ reply_as e

-- A part of no bytes at the script's start is inside it.
pub inside : {n : ℕ} {t u : TokenReply} → t ≡ u → u.start + u.size ≡ 0 → t.start + t.size ≤ n
inside {n} e z = subst (λ (t : TokenReply). t.start + t.size ≤ n) (sym e) (omega (arith, z))
