-- The answers by their numbers, as C has them.
-- Assumes nothing.
use Rattle.std.specs.Prelude.{◌≡◌, Option, Some, None, Ok, Err, List, ℕ}
use Rattle.forf_semantics.specs.Setup as setup
use Rattle.forf_semantics.specs.declared.Kind.{Kind}
use Rattle.forf_semantics.specs.declared.Kind.TheVariants.{Integer, Word, OpenBrace, CloseBrace, End}
use Rattle.forf_runner.specs.Promise.{Answer, number_of, Runs}
use Rattle.forf_c.specs.declared.Reply.{Reply}
use Rattle.forf_c.specs.declared.TokenReply.{TokenReply}

abbrev pub refusal_reply : Option ℕ → Reply
refusal_reply (Some n) = record { refused = n; memory = 0; steps = 0; outcome = 0 }
refusal_reply None = record { refused = 0; memory = 1; steps = 0; outcome = 0 }

abbrev pub reply_of : Answer → Reply
reply_of (Err r) = refusal_reply (number_of r)
reply_of (Ok r) = record { refused = 0; memory = 0; steps = r.steps; outcome = r.outcome }

-- The reply is that of an answer for which the runner's promise holds.
pub record Replies (script : List ℕ) (fuel : ℕ) (s s' e e' mem mem' out out' : List ℕ) (r : Reply) : Type 0 where
  pub answer : Answer
  pub is : r ≡ reply_of answer
  pub runs : Runs script fuel s s' e e' mem mem' out out' answer

-- ---- tokens

abbrev pub kind_number : Kind → ℕ
kind_number Integer = 1
kind_number Word = 2
kind_number OpenBrace = 3
kind_number CloseBrace = 4
kind_number End = 5

abbrev pub token_reply_of : ℕ → setup.Reading → TokenReply
token_reply_of offset (setup.refused n) = record { refused = n; fault = 0; kind = 0; next = offset; start = 0; size = 0 }
token_reply_of offset (setup.faulty e) = record { refused = 0; fault = 1; kind = 0; next = offset; start = 0; size = 0 }
token_reply_of offset (setup.read k n start size) = record { refused = 0; fault = 0; kind = kind_number k; next = n; start = start; size = size }
