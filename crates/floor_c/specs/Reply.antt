-- The answer to a scan as a struct for C.
-- Assumes nothing.
use Rattle.std.specs.Prelude.{◌≡◌, List, ℕ}
use Rattle.book.specs.declared.Record.{Record}
use Rattle.floor.specs.Floor.{Asked}
use Rattle.floor.specs.Promise.{Scans}
use Rattle.floor.specs.declared.Answer.{Answer}
use Rattle.floor.specs.declared.Answer.TheVariants.{Refused, BookMalformed, LabelTooLong, NoSlot, NoCells, NotFinished, BadStack, Late, NoRoom, Replaced, Added}
use Rattle.floor.specs.declared.Scanned.{Scanned}
use Rattle.floor_c.specs.declared.Reply.{Reply}

-- The numbers are for C alone, in the paper's order; no answer has the number 0.
abbrev pub answer_number : Answer → ℕ
answer_number (Refused n) = 1
answer_number BookMalformed = 2
answer_number LabelTooLong = 3
answer_number NoSlot = 4
answer_number NoCells = 5
answer_number NotFinished = 6
answer_number BadStack = 7
answer_number Late = 8
answer_number NoRoom = 9
answer_number (Replaced at) = 10
answer_number (Added at) = 11

abbrev pub refused_number : Answer → ℕ
refused_number (Refused n) = n
refused_number BookMalformed = 0
refused_number LabelTooLong = 0
refused_number NoSlot = 0
refused_number NoCells = 0
refused_number NotFinished = 0
refused_number BadStack = 0
refused_number Late = 0
refused_number NoRoom = 0
refused_number (Replaced at) = 0
refused_number (Added at) = 0

abbrev pub place_number : Answer → ℕ
place_number (Refused n) = 0
place_number BookMalformed = 0
place_number LabelTooLong = 0
place_number NoSlot = 0
place_number NoCells = 0
place_number NotFinished = 0
place_number BadStack = 0
place_number Late = 0
place_number NoRoom = 0
place_number (Replaced at) = at
place_number (Added at) = at

abbrev pub reply_of : Scanned → Reply
reply_of x =
    record {
      answer = answer_number x.answer;
      refused = refused_number x.answer;
      steps = x.report.steps;
      log = x.report.log;
      outcome = x.report.outcome;
      count = x.count;
      at = place_number x.answer;
    }

-- The reply says what the scan answers, and the buffers and the book are as the scan leaves them.
pub record Replies (a : Asked) (b b' : List Record) (n : ℕ) (s s' e e' d d' c c' l l' o o' : List ℕ) (r : Reply) : Type 0 where
  pub scanned : Scanned
  pub scans : Scans a b b' n s s' e e' d d' c c' l l' o o' scanned
  pub replies : r ≡ reply_of scanned
