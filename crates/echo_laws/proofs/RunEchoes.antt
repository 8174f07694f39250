-- What an echo line tells us (02, W14), of any states of any runs: the numbers and bytes of a run are in range, so what is read back is what was echoed.
-- Assumes nothing.
use mathlib.Core.Path.{◌≡◌, refl, sym, ap, ◌∙◌}
use mathlib.Core.List.{List, [], ◌∷◌, ◌++◌}
use Prim.Native.Nat.{ℕ, ◌-◌, ◌≤◌, ◌<◌}
use lib.ListN.{length, drop}
use lib.Seq.{drop-append_seam}
use lib.Dec.{T}
use Rattle.semantics.specs.Values.{Value, integer, string, text, cells}
use Rattle.semantics.specs.Tokens.{is_space}
use Rattle.semantics.specs.Machine.{with_stack, with_store, push, make, made, object, bytes_of}
use Rattle.semantics.specs.Printing.{shown, echoed_to, echoed}
use Rattle.semantics.specs.Held.{held_cells}
use Rattle.semantics.specs.Steps.{State, goes}
use Rattle.semantics.specs.EchoLaws.{quoted_text, integer_text}
use Rattle.semantics.proofs.EchoLaws.{string_echoed, integer_echoed}
use Rattle.echo_laws.specs.Runs.{current_at, line_of, Iff}
use Rattle.echo_laws.proofs.Runs.{Trial, state_of, machine_of, Echoing, Adds, left_of, PushesAlike, Pushes}
use Rattle.echo_laws.proofs.Ranging.{run_sound, string_bytes, top_bits}
use Rattle.echo_laws.proofs.Alike.{strings_alike, integers_alike, current_current, pushed_current, pushed_echo}
use Rattle.echo_laws.proofs.EchoSteps.{echo_step}
use Rattle.echo_laws.proofs.Taking.{After, takes_echoed, takes_integer}

-- ---- alike

-- Two strings, of any two states of any two runs, echo alike exactly if their current bytes are equal.
pub echoes_alike : (r q : Trial) (i j : ℕ)
    → Iff (line_of (machine_of r) (string i) ≡ line_of (machine_of q) (string j)) (current_at (machine_of r) i ≡ current_at (machine_of q) j)
echoes_alike r q i j = strings_alike (machine_of r) (machine_of q) i j (string_bytes r i) (string_bytes q j)

-- Two integers on top of the stack echo alike exactly if they are equal.
pub integer_echoes_alike : (r q : Trial) (v w : ℕ) (s t : List Value)
    → (machine_of r).stack ≡ integer v ∷ s
    → (machine_of q).stack ≡ integer w ∷ t
    → Iff (line_of (machine_of r) (integer v) ≡ line_of (machine_of q) (integer w)) (v ≡ w)
unfolding echoed echoed_to shown
integer_echoes_alike r q v w s t e f = integers_alike v w (top_bits r v s e) (top_bits q w t f)

-- ---- echo steps

added_is : (x : List ℕ) {a b l : List ℕ} → l ≡ x ++ a → l ≡ x ++ b → a ≡ b
added_is x {a} {b} e f = sym (drop-append_seam x a) ∙ ap (drop (length x)) (sym e ∙ f) ∙ drop-append_seam x b

-- A step that echoes goes on, and adds the line of its item.
pub echo_adds : (r : Trial) (v : Value) → Echoing r v → Adds r (line_of (machine_of r) v)
echo_adds r v e =
    let x = echo_step r.lent r.script (state_of r) v e.items e.stack (run_sound r).room e.fits e.top e.others e.exec e.executes in
    record { after = x.0; goes = x.1; log = x.2 }

-- No step adds two things.
adds_one : (r : Trial) {a b : List ℕ} → Adds r a → Adds r b → a ≡ b
adds_one r g h =
    let same : goes g.after ≡ goes h.after = sym g.goes ∙ h.goes in
    let one : g.after ≡ h.after = cc in
    added_is (machine_of r).log (ap (λ (τ : State). τ.machine.log) (sym one) ∙ g.log) h.log

pub line_added : (r : Trial) (v : Value) → Echoing r v → (line : List ℕ) → Adds r line → line ≡ line_of (machine_of r) v
line_added r v e line h = adds_one r h (echo_adds r v e)

-- Lines that are alike exactly if something holds are so wherever they stand.
pub lines_alike : {a b c d : List ℕ} {P : Type 0} → a ≡ c → b ≡ d → Iff (c ≡ d) P → Iff (a ≡ b) P
lines_alike e f h = (λ k. h.0 (sym e ∙ k ∙ f), λ k. e ∙ h.1 k ∙ sym f)

module _ (r q : Trial) (a b : List ℕ) where
  -- Two steps that echo a string each add the same to their logs exactly if the strings' current bytes are equal.
  pub string_lines : (i j : ℕ) (e : Echoing r (string i)) (f : Echoing q (string j))
      → Adds r a
      → Adds q b
      → Iff (a ≡ b) (current_at (machine_of r) i ≡ current_at (machine_of q) j)
  string_lines i j e f g h = lines_alike (line_added r (string i) e a g) (line_added q (string j) f b h) (echoes_alike r q i j)

  -- And two that echo an integer each, exactly if the integers are equal.
  pub integer_lines : (v w : ℕ) (e : Echoing r (integer v)) (f : Echoing q (integer w))
      → Adds r a
      → Adds q b
      → Iff (a ≡ b) (v ≡ w)
  integer_lines v w e f g h =
      lines_alike (line_added r (integer v) e a g) (line_added q (integer w) f b h)
      (integer_echoes_alike r q v w e.items f.items e.stack f.stack)

-- ---- taken

-- What echo wrote of a string of some state of some run, at the next token of a state of any run with an empty execution stack, a stack slot and the cells: the step
-- pushes a string with those bytes, whatever follows the text.
pub echo_taken : (r q : Trial) (i : ℕ) (rest : List ℕ)
    → (machine_of r).exec ≡ []
    → left_of r ≡ echoed (machine_of q) (string i) ++ rest
    → length (machine_of r).stack < r.lent.stack_slots
    → cells (text (current_at (machine_of q) i)) ≤ r.lent.cell_count - held_cells (machine_of r)
    → PushesAlike r (machine_of q) i
unfolding push make with_stack with_store
echo_taken r q i rest e d s c =
    let σ = state_of r in
    let m = machine_of r in
    let bs = current_at (machine_of q) i in
    record {
      after = After r.lent r.script σ (push (string (made m)) (make (text bs) m)) (length (quoted_text bs));
      goes =
          takes_echoed r.lent r.script σ bs rest (string_bytes q i) e (d ∙ ap (λ (t : List ℕ). t ++ rest) (string_echoed (machine_of q) i)) s c
          (run_sound r).room;
      pushed = refl;
      current = pushed_current m bs ∙ current_current (bytes_of (object (machine_of q) i));
      again = pushed_echo (machine_of q) m i;
    }

-- What echo wrote of an integer on top of the stack, before a space: the step pushes that integer.
pub integer_taken_lem : (r q : Trial) (w b : ℕ) (rest : List ℕ) (below : List Value)
    → (machine_of q).stack ≡ integer w ∷ below
    → T (is_space b)
    → (machine_of r).exec ≡ []
    → left_of r ≡ echoed (machine_of q) (integer w) ++ b ∷ rest
    → length (machine_of r).stack < r.lent.stack_slots
    → Pushes r w
unfolding push with_stack
integer_taken_lem r q w b rest below t space e d room =
    record {
      after = After r.lent r.script (state_of r) (push (integer w) (machine_of r)) (length (integer_text w));
      goes =
          takes_integer r.lent r.script (state_of r) w b rest (top_bits q w below t) space e
          (d ∙ ap (λ (u : List ℕ). u ++ b ∷ rest) (integer_echoed (machine_of q) w))
          room
          (run_sound r).room;
      pushed = refl;
    }
