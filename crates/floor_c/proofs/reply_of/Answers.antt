-- `reply_of` meets its contract: the three numbers of the answer are put together with the report's and the count.
-- Assumes nothing.
use mathlib.Core.Path.{◌≡◌}
use Prim.Native.Nat.{ℕ}
use Rattle.floor.specs.declared.Scanned.{Scanned}
use Rattle.floor_c.specs.Reply.{reply_of, answer_number, refused_number, place_number}
use Rattle.floor_c.specs.declared.Reply.{Reply}
use Rattle.floor_c.proofs.reply_of.Goals as goal

abbrev replied : Scanned → ℕ → ℕ → ℕ → Reply
replied x a b c =
    record {
      answer = a;
      refused = b;
      steps = x.report.steps;
      log = x.report.log;
      outcome = x.report.outcome;
      count = x.count;
      at = c;
    }

replied_so : (x : Scanned) {a b c : ℕ} → a ≡ answer_number x.answer → b ≡ refused_number x.answer → c ≡ place_number x.answer → replied x a b c ≡ reply_of x
replied_so x p q s = λ i. replied x (p i) (q i) (s i)

pub returns : goal.returns
returns c = replied_so c.args.scanned c.answer_number.ensures c.refused_number.ensures c.place_number.ensures
