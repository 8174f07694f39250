-- A run keeps what is asked of the parts of a machine, and stays in the room that its steps ask for: by induction on fuel. The start has it.
-- Assumes nothing.
use mathlib.Core.Path.{sym, subst}
use mathlib.Core.Bool.{◌&&◌}
use mathlib.Core.List.{List}
use mathlib.Core.Option.{none}
use Prim.Native.Nat.{ℕ, zero, suc}
use lib.ListN.{length}
use lib.Dec.{leb}
use Rattle.semantics.specs.Sizes.{name_most}
use Rattle.semantics.specs.Text.{bytes}
use Rattle.semantics.specs.Values.{Value, operator, Object, text}
use Rattle.semantics.specs.Errors.{error_names}
use Rattle.semantics.specs.Machine.{Machine, make}
use Rattle.semantics.specs.Operators.{Entry, ◌is◌, table}
use Rattle.semantics.specs.Steps.{Limits, State, Step, step, stopped, out_of_fuel, Run, is_finished, finish, go_on, run, slot, predefined, unhandled, initial, lending}
use Rattle.semantics.specs.OutcomeLaws.{command_in}
use Rattle.semantics.specs.ResultLaws.{choose}
use Rattle.semantics.specs.ListLaws.{All, nil, ◌&◌, every, all_every, nothing, just, all_any, all_append, all_map, all_weaker}
use Rattle.walk.specs.Parts.{Parts, Good, a_truth, a_null, an_operator, GoodSlot, Everywhere, Stays}
use Rattle.walk.proofs.Parts.{text_object, assign_good, spelled}
use Rattle.walk.proofs.Property.{Fit, parts_alone, maked, with_dictionary_lem}
use Rattle.walk.proofs.OperatorsKeep.{new_string}
use Rattle.walk.proofs.StepsKeep.{unnamed, KeptStep, went, stuck, unread, step_keeps}

-- Room: what is asked of the room that a machine takes.
pub record KeptRun (A : Parts) (Room : Machine → Type 0) (r : Run) : Type 0 where
  pub command : A.numbers.Spelling (command_in r.ending)
  pub parts : Everywhere A r.final.machine
  pub room : Room r.final.machine

module _ (A : Parts) (Room : Machine → Type 0) (l : Limits) (script : List ℕ)
    (bytes : All A.numbers.Byte script)
    (short : A.numbers.Size (length script))
    (stays : (before after : Machine) → Stays l before after → Room before → Room after)
    (deep : (m : Machine) → Room m → A.numbers.Size (length m.stack))
  where
    finish_keeps : (σ : State) → Everywhere A σ.machine → Room σ.machine → KeptRun A Room (finish script σ)
    unfolding finish
    finish_keeps σ h k = record { command = unnamed A; parts = h; room = k }

    go_on_keeps : (rest : State → Run)
        → ((τ : State) → Everywhere A τ.machine → Room τ.machine → KeptRun A Room (rest τ))
        → {m : Machine} {s : Step}
        → Everywhere A m
        → Room m
        → KeptStep (parts_alone A) l m s
        → KeptRun A Room (go_on rest s)
    unfolding go_on parts_alone
    go_on_keeps rest f h k (went {τ = τ} g w) =
        let room = stays _ τ.machine w k in
        choose (KeptRun A Room) τ.machine.stopped (record { ending = stopped; final = τ }) (rest τ)
        (λ t. record { command = unnamed A; parts = g.parts; room = room })
        (λ t. f τ g.parts room)
    go_on_keeps rest f h k (stuck c e) = record { command = c; parts = subst (Everywhere A) (sym e) h; room = subst Room (sym e) k }
    go_on_keeps rest f h k (unread e) = record { command = unnamed A; parts = subst (Everywhere A) (sym e) h; room = subst Room (sym e) k }

    pub run_keeps : (fuel : ℕ) (σ : State) → Everywhere A σ.machine → Room σ.machine → KeptRun A Room (run l script fuel σ)
    unfolding run parts_alone
    run_keeps zero σ h k =
        choose (KeptRun A Room) (is_finished script σ) (finish script σ) (record { ending = out_of_fuel; final = σ })
        (λ t. finish_keeps σ h k)
        (λ t. record { command = unnamed A; parts = h; room = k })
    run_keeps (suc fuel) σ h k =
        choose (KeptRun A Room) (is_finished script σ) (finish script σ) (go_on (run l script fuel) (step l script σ))
        (λ t. finish_keeps σ h k)
        (λ t. go_on_keeps (run l script fuel) (run_keeps fuel) h k (step_keeps (parts_alone A) l script bytes short σ (deep σ.machine k) (record { parts = h; whole = tt })))

-- ---- the start

module _ (A : Parts) where
  titles_spelled : All (λ (e : Entry). A.numbers.Spelling e.title) table
  unfolding table ◌is◌ bytes
  titles_spelled = all_weaker (λ e t. spelled A e.title t) (all_every (λ (e : Entry). leb (length e.title) name_most && every (λ b. leb b 255) e.title) table tt)

  slot_good : (n : List ℕ) {s : List Object} {v : Value} → Good A s v → GoodSlot A s (slot n v)
  unfolding slot
  slot_good n h = record { bound = just h }

  pub initial_keeps : Everywhere A initial.machine
  unfolding initial predefined unhandled bytes
  initial_keeps =
      record {
        stack = nil;
        dictionary =
            all_append
            (all_map (λ (e : Entry). slot e.title (operator e.title)) (λ e t. slot_good e.title (an_operator t)) titles_spelled)
            (slot_good _ (an_operator (spelled A _ tt)) & slot_good _ a_truth & slot_good _ a_truth & slot_good _ a_null & nil);
        exec = nil;
        store = nil;
        handlers = all_map (λ n. record { key = n; binding = none }) (λ n t. record { bound = nothing }) (all_any error_names);
        latest = record { errorname = nothing; command = nothing };
      }

  -- A string that is lent before step 1.
  pub lending_keeps : (n contents : List ℕ) (m : Machine) → All A.numbers.Byte contents → A.numbers.Size (length contents) → Everywhere A m → Everywhere A (lending n contents m)
  unfolding lending parts_alone
  lending_keeps n contents m b k h =
      let τ : Fit (parts_alone A) (make (text contents) m) = maked (record { parts = h; whole = tt }) (text_object b k) in
      (with_dictionary_lem τ (assign_good n (new_string m contents) τ.parts.dictionary)).parts
