-- A step that executes echo, with room in the log, goes on and adds one line to the log: the text of the item on top, and LF.
-- Assumes nothing.
use mathlib.Core.Path.{◌≡◌, refl, sym, ap, ◌∙◌, subst}
use mathlib.Core.List.{List, ◌∷◌, ◌++◌}
use mathlib.Core.Option.{Option, none, some}
use Prim.Native.Nat.{ℕ, suc, ◌+◌, ◌≤◌}
use native.Mathlib.Omega.{arith}
use lib.ListN.{length, length-append}
use Rattle.semantics.specs.Text.{bytes}
use Rattle.semantics.specs.Values.{ok, Value}
use Rattle.semantics.specs.Machine.{Machine, Frame, running, with_stack, with_exec, write, enter, object}
use Rattle.semantics.specs.Printing.{echoed}
use Rattle.semantics.specs.Operators.{perform}
use Rattle.semantics.specs.Steps.{Limits, State, Move, command_of, execute, is_procedure, treat, silent, resume, goes, passed, step_on, step}
use Rattle.semantics.proofs.EchoLaws.{echo_performed, echo_does, echoed_same}
use Rattle.walk.specs.Parts.{Within}
use Rattle.echo_laws.specs.Runs.{Executes, waiting, element}
use Rattle.echo_laws.proofs.Rooms.{room_there, same_cells, moved_goes}

module _ (l : Limits) (script : List ℕ) (σ : State) (v : Value) (s : List Value)
    (top : σ.machine.stack ≡ v ∷ s)
    (within : Within l σ.machine)
    (fits : length σ.machine.log + length (echoed σ.machine v ++ bytes "\n") ≤ l.log_bytes)
  where
    abbrev added : List ℕ
    added = σ.machine.log ++ (echoed σ.machine v ++ bytes "\n")

    -- What echo leaves: one item less, the line in the log, and no more execution slots than there were.
    record Echoed (n : Machine) : Type 0 where
      dictionary : n.dictionary ≡ σ.machine.dictionary
      exec : length n.exec ≤ length σ.machine.exec
      stack : n.stack ≡ s
      store : n.store ≡ σ.machine.store
      log : n.log ≡ added

    abbrev Echoes : Move → Type 0
    Echoes w = (n : Machine) × (w.result ≡ ok n) × Echoed n

    echoed_within : {n : Machine} → Echoed n → Within l n
    echoed_within e =
        record {
          dictionary = omega (arith, ap length e.dictionary, within.dictionary);
          exec = omega (arith, e.exec, within.exec);
          stack = omega (arith, ap length e.stack, ap length top, within.stack);
          log = omega (arith, ap length e.log, length-append σ.machine.log (echoed σ.machine v ++ bytes "\n"), fits);
        }

    -- Echo, on the machine with other execution slots.
    performed : (fs : List Frame)
        → length fs ≤ length σ.machine.exec
        → (n : Machine) × (perform (bytes "echo") (with_exec fs σ.machine) ≡ ok n) × Echoed n
    unfolding write with_stack with_exec
    performed fs h =
        let m = with_exec fs σ.machine in (
          write (echoed m v ++ bytes "\n") (with_stack s m),
          echo_performed m ∙ echo_does m v s top,
          record { dictionary = refl; exec = h; stack = refl; store = refl; log = ap (λ (t : List ℕ). σ.machine.log ++ (t ++ bytes "\n")) (echoed_same m σ.machine refl v) },
        )

    resumed : {f : Frame} (fs : List Frame) → suc (length fs) ≤ length σ.machine.exec → Executes σ.machine (bytes "echo") f → Echoes (resume f (with_exec fs σ.machine))
    unfolding resume treat is_procedure execute enter with_exec object
    resumed fs h waiting = performed fs (omega (arith, h))
    resumed fs h (element {i = i} {k = k} e) =
        subst
        (λ (o : Option Value). Echoes (elim o [
          | none ↦ silent (ok (with_exec fs σ.machine))
          | some u ↦ record { command = command_of u; result = treat u (enter (running i (suc k)) (with_exec fs σ.machine)) }
        ]))
        (sym e)
        (performed (running i (suc k) ∷ fs) h)

    stepped : {f : Frame} (fs : List Frame)
        → suc (length fs) ≤ length σ.machine.exec
        → Executes σ.machine (bytes "echo") f
        → (τ : State) × (step_on l script σ (f ∷ fs) ≡ goes τ) × (τ.machine.log ≡ added)
    unfolding step_on
    stepped {f} fs h x =
        let r = resumed fs h x in
        let n = r.0 in
        let room = room_there l σ.machine n (echoed_within r.2) (omega (arith, same_cells σ.machine n r.2.store)) in (
          record { machine = n; next = σ.next; at = σ.at; steps = suc σ.steps },
          moved_goes l σ σ.at σ.next (passed f fs) (resume f (with_exec fs σ.machine)) n r.1 room,
          r.2.log,
        )

    -- The state after it, and its log.
    pub echo_step : (f : Frame) (fs : List Frame)
        → σ.machine.exec ≡ f ∷ fs
        → Executes σ.machine (bytes "echo") f
        → (τ : State) × (step l script σ ≡ goes τ) × (τ.machine.log ≡ σ.machine.log ++ (echoed σ.machine v ++ bytes "\n"))
    unfolding step
    echo_step f fs e x =
        let r = stepped fs (omega (arith, ap length e)) x in
        (r.0, ap (step_on l script σ) e ∙ r.1, r.2)
