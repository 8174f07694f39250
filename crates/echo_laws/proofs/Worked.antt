-- Cases, computed: a string that ends in a backslash is echoed, a token in one script and a lent label in the other, and the text that echo wrote is the next token of
-- a third. So what the theorems ask can be met.
-- Assumes nothing.
use mathlib.Core.Path.{refl}
use mathlib.Core.List.{List, []}
use Prim.Native.Nat.{ℕ, ◌+◌, ◌*◌, ◌≤◌}
use native.Mathlib.Omega.{arith}
use lib.ListN.{length}
use lib.Dec.{T, ltb, ltb→lt}
use Rattle.semantics.specs.Sizes.{stack_words_most, exec_words_most, dictionary_words_most, cell_width, head_room, item_room, stack_most}
use Rattle.semantics.specs.Text.{bytes, textual}
use Rattle.semantics.specs.Words.{words}
use Rattle.semantics.specs.Values.{operator, string, values}
use Rattle.semantics.specs.Tokens.{tokens}
use Rattle.semantics.specs.Machine.{pending, machinery}
use Rattle.semantics.specs.Printing.{printing}
use Rattle.semantics.specs.Operators.{operators}
use Rattle.semantics.specs.Held.{holding}
use Rattle.semantics.specs.Groups.{grouping}
use Rattle.semantics.specs.Steps.{run, start_of, initial, lending, stepping}
use Rattle.semantics.specs.NameLaws.{name_count_lem}
use Rattle.semantics.specs.Setup.{Lent, limits, settings}
use Rattle.semantics.specs.ListLaws.{every, all_every, all_weaker}
use Rattle.semantics.specs.AsciiLaws.{Bytes}
use Rattle.echo_laws.specs.Ranges.{most, Admitted}
use Rattle.echo_laws.specs.Runs.{waiting}
use Rattle.echo_laws.proofs.Runs.{Trial, machine_of, Echoing, Adds, PushesAlike}
use Rattle.echo_laws.proofs.Beginnings.{initial_sound, lending_sound}
use Rattle.echo_laws.proofs.RunEchoes.{echo_taken}

text_bytes : (t : List ℕ) → T (every (λ b. ltb b 256) t) → Bytes t
text_bytes t h = all_weaker (λ b l. ltb→lt b 256 l) (all_every (λ b. ltb b 256) t h)

abbrev lent : Lent
lent =
    record {
      stack_words = stack_words_most;
      exec_words = exec_words_most;
      dictionary_words = dictionary_words_most;
      cell_words = cell_width * 4096;
      log_bytes = 8192;
      outcome_bytes = head_room + item_room * stack_most;
    }

short : (script : List ℕ) → T (every (λ b. ltb b 256) script) → length script ≤ most → Admitted (limits lent) script
unfolding settings
short script b h = record { bytes = text_bytes script b; short = h; items = omega arith }

-- #FLOO LF "a\134" echo 1
abbrev writing : List ℕ
writing = bytes "#FLOO\n\"a\\134\" echo 1"

-- #FLOO LF LF "a\134"2
abbrev taking : List ℕ
taking = bytes "#FLOO\n\n\"a\\134\"2"

-- Two steps later echo is pending, and the string is on the stack.
writer : Trial
unfolding textual settings
writer =
    record { lent = limits lent; script = writing; fuel = 2; start = initial; admitted = short writing tt (omega arith); sound = initial_sound (limits lent) (omega arith) }

taker : Trial
unfolding textual settings
taker =
    record { lent = limits lent; script = taking; fuel = 0; start = initial; admitted = short taking tt (omega arith); sound = initial_sound (limits lent) (omega arith) }

writes : Echoing writer (string 0)
unfolding writer textual words values tokens machinery printing operators holding grouping stepping settings
writes =
    record {
      top = pending (operator (bytes "echo"));
      others = [];
      items = [];
      exec = refl;
      stack = refl;
      executes = waiting;
      fits = omega arith;
    }

writes_line : Adds writer (bytes "\"a\\134\"\n")
unfolding writer textual words values tokens machinery printing operators holding grouping stepping settings
writes_line = record { after = (run (limits lent) writing 3 initial).final; goes = refl; log = refl }

takes_it : PushesAlike taker (machine_of writer) 0
unfolding writer taker textual words values tokens machinery printing operators holding grouping stepping settings
takes_it = echo_taken taker writer 0 (bytes "2") refl refl (omega arith) (omega arith)

-- #FLOO LF label echo 1
abbrev scanning : List ℕ
scanning = bytes "#FLOO\nlabel echo 1"

-- As in a scan: the label a\ is lent. Three steps later echo is pending, and the label is on the stack.
scanner : Trial
unfolding textual settings machinery stepping operators
scanner =
    record {
      lent = limits lent;
      script = scanning;
      fuel = 3;
      start = start_of (lending (bytes "label") (bytes "a\\") initial.machine);
      admitted = short scanning tt (omega arith);
      sound =
          lending_sound (limits lent) (bytes "label") (bytes "a\\") initial.machine (initial_sound (limits lent) (omega arith)) (text_bytes (bytes "a\\") tt) (omega arith)
          (omega (arith, name_count_lem));
    }

scans : Echoing scanner (string 0)
unfolding scanner textual words values tokens machinery printing operators holding grouping stepping settings
scans =
    record {
      top = pending (operator (bytes "echo"));
      others = [];
      items = [];
      exec = refl;
      stack = refl;
      executes = waiting;
      fits = omega arith;
    }

scans_line : Adds scanner (bytes "\"a\\134\"\n")
unfolding scanner textual words values tokens machinery printing operators holding grouping stepping settings
scans_line =
    record {
      after = (run (limits lent) scanning 4 (start_of (lending (bytes "label") (bytes "a\\") initial.machine))).final;
      goes = refl;
      log = refl;
    }
