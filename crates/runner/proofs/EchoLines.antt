-- What an echo line tells us (02, W14), of the runner itself: what it leaves in the lent log, by its promise, and by the theorems on the definition's runs.
-- Assumes nothing.
use mathlib.Core.Path.{◌≡◌, sym, ap, ◌∙◌}
use mathlib.Core.List.{List, [], ◌∷◌, ◌++◌}
use Prim.Native.Nat.{ℕ, suc, ◌+◌, ◌-◌, ◌≤◌, ◌<◌}
use native.Mathlib.Omega.{arith}
use lib.ListN.{length, take, drop, length-append}
use lib.Seq.{take-append_seam}
use lib.Dec.{T}
use Rattle.semantics.specs.Text.{bytes}
use Rattle.semantics.specs.Values.{Value, integer, string, text, cells}
use Rattle.semantics.specs.Tokens.{is_space}
use Rattle.semantics.specs.Machine as Floo
use Rattle.semantics.specs.Machine.{made}
use Rattle.semantics.specs.Printing.{echoed}
use Rattle.semantics.specs.Held.{held_cells}
use Rattle.semantics.specs.Steps as steps
use Rattle.semantics.specs.ObjectOperators.{pasted}
use Rattle.semantics.specs.AsciiLaws.{Bytes}
use Rattle.semantics.specs.Setup.{limits}
use Rattle.echo_laws.specs.Ranges.{Admitted}
use Rattle.echo_laws.proofs.Soundness.{Sound}
use Rattle.echo_laws.specs.Runs.{current_at, line_of, Iff}
use Rattle.echo_laws.proofs.Runs.{Trial, machine_of, Echoing, next, GoesOn, stretch, left_of}
use Rattle.echo_laws.proofs.Beginnings.{initial_sound}
use Rattle.echo_laws.proofs.RunEchoes.{echoes_alike, integer_echoes_alike, lines_alike, echo_taken, integer_taken_lem}
use Rattle.echo_laws.proofs.LogLines.{next_machine, line_stands}
use Rattle.setup.proofs.Accepting.{accepted}
use Rattle.runner.specs.Promise.{lent_of, the_run, RunIs, Runs}
use Rattle.std.specs.Prelude.{Ok}
use Rattle.runner.specs.declared.Report.{Report}

-- ---- runs that are promised

-- A run as it is promised, from a sound start: what was lent and what is there after it, script and report.
pub record Call : Type 0 where
  pub script : List ℕ
  pub fuel : ℕ
  pub start : steps.State
  pub touched : ℕ
  pub worked : ℕ
  pub s : List ℕ
  pub s' : List ℕ
  pub e : List ℕ
  pub e' : List ℕ
  pub d : List ℕ
  pub d' : List ℕ
  pub c : List ℕ
  pub c' : List ℕ
  pub l : List ℕ
  pub l' : List ℕ
  pub o : List ℕ
  pub o' : List ℕ
  pub report : Report
  pub admitted : Admitted (limits (lent_of s e d c l o)) script
  pub sound : Sound (limits (lent_of s e d c l o)) start.machine
  pub promise : RunIs script fuel start touched worked s s' e e' d d' c c' l l' o o' report

pub promised : {script : List ℕ} {fuel : ℕ} {start : steps.State} {touched worked : ℕ} {s s' e e' d d' c c' l l' o o' : List ℕ} {r : Report}
    → Admitted (limits (lent_of s e d c l o)) script
    → Sound (limits (lent_of s e d c l o)) start.machine
    → RunIs script fuel start touched worked s s' e e' d d' c c' l l' o o' r
    → Call
promised {script} {fuel} {start} {touched} {worked} {s} {s'} {e} {e'} {d} {d'} {c} {c'} {l} {l'} {o} {o'} {r} a h R =
    record {
      script = script;
      fuel = fuel;
      start = start;
      touched = touched;
      worked = worked;
      s = s;
      s' = s';
      e = e;
      e' = e';
      d = d;
      d' = d';
      c = c;
      c' = c';
      l = l;
      l' = l';
      o = o;
      o' = o';
      report = r;
      admitted = a;
      sound = h;
      promise = R;
    }

-- Each call of `run` that answers with a run is such: its script's bytes are bytes, as every lent script's are.
pub called : {script : List ℕ} {fuel : ℕ} {s s' e e' d d' c c' l l' o o' : List ℕ} {r : Report}
    → Runs script fuel s s' e e' d d' c c' l l' o o' (Ok r)
    → Bytes script
    → Call
unfolding limits
called {script} {fuel} {s} {e = e} {d = d} {c = c} {l = l} {o = o} R b =
    let A = accepted script fuel (lent_of s e d c l o) R.answers.0 in
    promised (record { bytes = b; short = A.short; items = omega (arith, A.stack_slots.1) }) (initial_sound (limits (lent_of s e d c l o)) A.dictionary_slots.0) R.answers.1

-- The state after k steps, if the run has so many.
abbrev pub after : Call → ℕ → Trial
after a k =
    record { lent = limits (lent_of a.s a.e a.d a.c a.l a.o); script = a.script; fuel = k; start = a.start; admitted = a.admitted; sound = a.sound }

-- The machine at the end of the run: the promise ties its log and stack, and the words that stand for it, to the lent buffers.
abbrev pub final : Call → Floo.Machine
final a = (the_run a.script a.fuel (lent_of a.s a.e a.d a.c a.l a.o) a.start).final.machine

-- The run makes step k + 1, and this step echoes the value.
pub record Echoes (a : Call) (k : ℕ) (v : Value) : Type 0 where
  pub fueled : k < a.fuel
  pub goes_on : GoesOn (after a k)
  pub echoing : Echoing (after a k) v

-- What that step wrote, in the lent log when the run has ended.
abbrev pub line_in : Call → ℕ → List ℕ
line_in a k = stretch (after a k) a.l'

-- ---- lines in the lent logs

pub line_is : (a : Call) (k : ℕ) (v : Value) → Echoes a k v → line_in a k ≡ line_of (machine_of (after a k)) v
unfolding pasted
line_is a k v h =
    ap (stretch (after a k)) a.promise.log.bytes ∙ line_stands (after a k) v a.fuel (drop (0 + length (final a).log) a.l) h.echoing h.goes_on h.fueled

-- Two lines that echo has written of strings are equal, byte for byte in the lent logs, exactly if the strings' current bytes were.
pub string_lines_alike : (a b : Call) (k j i n : ℕ)
    → Echoes a k (string i)
    → Echoes b j (string n)
    → Iff (line_in a k ≡ line_in b j) (current_at (machine_of (after a k)) i ≡ current_at (machine_of (after b j)) n)
string_lines_alike a b k j i n g h =
    lines_alike (line_is a k (string i) g) (line_is b j (string n) h) (echoes_alike (after a k) (after b j) i n)

-- And two of integers, exactly if the integers were equal.
pub integer_lines_alike : (a b : Call) (k j v w : ℕ) → Echoes a k (integer v) → Echoes b j (integer w) → Iff (line_in a k ≡ line_in b j) (v ≡ w)
integer_lines_alike a b k j v w g h =
    lines_alike (line_is a k (integer v) g) (line_is b j (integer w) h)
    (integer_echoes_alike (after a k) (after b j) v w g.echoing.items h.echoing.items g.echoing.stack h.echoing.stack)

-- ---- lines that are taken

-- A text and the same byte after it.
before_last : (x y t : List ℕ) → x ++ t ≡ y ++ t → x ≡ y
before_last x y t e =
    let n : length x ≡ length y = omega (arith, ap length e, length-append x t, length-append y t) in
    sym (take-append_seam x t) ∙ ap (take (length x)) e ∙ ap (λ (k : ℕ). take k (y ++ t)) n ∙ take-append_seam y t

-- A run that takes a line's text, up to its line feed, in its last step ends with a string on top that has the current bytes of the one that was echoed.
pub record EndsAlike (b : Call) (j : ℕ) (m : Floo.Machine) (i : ℕ) : Type 0 where
  pub pushed : (final b).stack ≡ string (made (machine_of (after b j))) ∷ (machine_of (after b j)).stack
  pub current : current_at (final b) (made (machine_of (after b j))) ≡ current_at m i

-- The last of the run's steps.
last_machine : (b : Call) (j : ℕ) → b.fuel ≡ suc j → final b ≡ machine_of (next (after b j))
last_machine b j e = ap (λ (n : ℕ). (the_run b.script n (lent_of b.s b.e b.d b.c b.l b.o) b.start).final.machine) e

module _ (a b : Call) (k j : ℕ) (written rest : List ℕ) (last : b.fuel ≡ suc j) (goes_on : GoesOn (after b j)) (idle : (machine_of (after b j)).exec ≡ []) (slot : length (machine_of (after b j)).stack < (after b j).lent.stack_slots) where
  pub string_line_taken : (i : ℕ)
      → Echoes a k (string i)
      → line_in a k ≡ written ++ bytes "\n"
      → left_of (after b j) ≡ written ++ rest
      → cells (text (current_at (machine_of (after a k)) i)) ≤ (after b j).lent.cell_count - held_cells (machine_of (after b j))
      → EndsAlike b j (machine_of (after a k)) i
  string_line_taken i h e d room =
      let m = machine_of (after a k) in
      let same : written ≡ echoed m (string i) = before_last written (echoed m (string i)) (bytes "\n") (sym e ∙ line_is a k (string i) h) in
      let p = echo_taken (after b j) (after a k) i rest idle (d ∙ ap (λ (t : List ℕ). t ++ rest) same) slot room in
      let end = last_machine b j last ∙ next_machine (after b j) p.after goes_on p.goes in
      record {
        pushed = ap (λ (μ : Floo.Machine). μ.stack) end ∙ p.pushed;
        current = ap (λ (μ : Floo.Machine). current_at μ (made (machine_of (after b j)))) end ∙ p.current;
      }

  pub integer_line_taken : (w space : ℕ)
      → Echoes a k (integer w)
      → line_in a k ≡ written ++ bytes "\n"
      → T (is_space space)
      → left_of (after b j) ≡ written ++ space ∷ rest
      → (final b).stack ≡ integer w ∷ (machine_of (after b j)).stack
  integer_line_taken w space h e t d =
      let m = machine_of (after a k) in
      let same : written ≡ echoed m (integer w) = before_last written (echoed m (integer w)) (bytes "\n") (sym e ∙ line_is a k (integer w) h) in
      let p = integer_taken_lem (after b j) (after a k) w space rest h.echoing.items h.echoing.stack t idle (d ∙ ap (λ (u : List ℕ). u ++ space ∷ rest) same) slot in
      ap (λ (μ : Floo.Machine). μ.stack) (last_machine b j last ∙ next_machine (after b j) p.after goes_on p.goes) ∙ p.pushed
