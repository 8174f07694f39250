-- The lines of numbers: what the counts are in every machine that the words stand for.
-- Assumes nothing.
use mathlib.Core.Path.{◌≡◌, ap, ◌∙◌}
use mathlib.Core.List.{List}
use Prim.Native.Nat.{ℕ, ◌+◌, ◌-◌, ◌≤◌}
use native.Mathlib.Omega.{arith}
use lib.ListN.{length}
use Rattle.semantics.specs.Text.{bytes, decimal}
use Rattle.semantics.specs.Machine as Floo
use Rattle.semantics.specs.Held.{held_cells}
use Rattle.semantics.specs.Outcome.{line}
use Rattle.heap.specs.Shape.{cells}
use Rattle.store.proofs.Rooming.{lists_room}
use Rattle.text.specs.Writing.{Written}
use Rattle.text.proofs.Pasting.{then, respelt}
use Rattle.text.proofs.NumberLines.{after_line}
use Rattle.machine.specs.Rep.{Rep, Somewhere}
use Rattle.machine.specs.declared.Machine.{Machine}
use Rattle.machine.proofs.Rooted.{rooted}
use Rattle.machine.proofs.Outcomes.{stack_depth}
use Rattle.machine.proofs.Rooms.{logged_length}
use Rattle.elements.specs.Elements.{free_cells}
use Rattle.outcome.specs.Reports.{CountsRoom, WritesCounts, count_lines}

-- ---- the counts

-- The cells that are not free are those that are held.
pub held_room : {m : Machine} {s e d c l : List ℕ} {μ : Floo.Machine} → Rep m s e d c l μ → free_cells m c + held_cells μ ≡ cells c
held_room {μ = μ} R = let H = R.stored in lists_room μ H.full H.none_dead H.none_out H.objects (rooted μ)

module _ {m : Machine} {c : List ℕ} {next : ℕ} {out : List ℕ} (N : CountsRoom m c next out) where
  pub count_somewhere : (s : List ℕ) × Somewhere m s c
  count_somewhere = (N.stack, (N.exec, N.dict, N.log, N.machine, N.rep))

  pub free_few : free_cells m c ≤ cells c
  free_few = omega (arith, held_room N.rep)

  pub depth_few : m.depth ≤ 256
  depth_few = omega (arith, N.rep.rooms.stack_fits, N.rep.rooms.stack_few)

-- After each of the first three lines there is room for the others.
module _ {m : Machine} {c : List ℕ} {next : ℕ} {out : List ℕ} (N : CountsRoom m c next out)
    (steps : ℕ) {o₁ : List ℕ} {r₁ : ℕ} (steps-line : Written next (line (bytes "steps") (decimal steps)) out o₁ r₁) (k₁ : length o₁ ≡ length out) where
  pub after_steps : r₁ + 48 ≤ length o₁
  unfolding bytes
  after_steps = after_line (bytes "steps") steps 48 N.fits steps-line k₁

  module _ {o₂ : List ℕ} {r₂ : ℕ} (depth-line : Written r₁ (line (bytes "depth") (decimal m.depth)) o₁ o₂ r₂) (k₂ : length o₂ ≡ length o₁) where
    pub after_depth : r₂ + 31 ≤ length o₂
    unfolding bytes
    after_depth = after_line (bytes "depth") m.depth 31 after_steps depth-line k₂

    module _ (held : ℕ) {o₃ : List ℕ} {r₃ : ℕ} (held-line : Written r₂ (line (bytes "held") (decimal held)) o₂ o₃ r₃) (k₃ : length o₃ ≡ length o₂) where
      pub after_held : r₃ + 15 ≤ length o₃
      unfolding bytes
      after_held = after_line (bytes "held") held 15 after_depth held-line k₃

      pub counts_written : (free : ℕ) → free ≡ free_cells m c → held ≡ cells c - free → {new : List ℕ} {r : ℕ}
          → Written r₃ (line (bytes "log") (decimal m.written)) o₃ new r
          → WritesCounts m steps c next out new r
      unfolding count_lines
      counts_written free f h log-line =
          record {
            says = λ s e d l μ R.
                let low : next ≤ length out = omega (arith, N.fits) in
                let is_held : held_cells μ ≡ held = omega (arith, f, h, held_room R) in
                respelt
                (ap (λ n. count_lines steps n (held_cells μ) (length μ.log)) (stack_depth R)
                ∙ ap (λ n. count_lines steps m.depth n (length μ.log)) is_held
                ∙ ap (λ n. count_lines steps m.depth held n) (logged_length R))
                (then low (then low (then low steps-line depth-line) held-line) log-line);
          }
