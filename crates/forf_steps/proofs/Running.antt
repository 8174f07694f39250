-- The loop over the steps: what is left of the fuel takes the definition from the state reached to where it comes from the start.
-- Assumes nothing.
use mathlib.Core.Path.{◌≡◌, refl, sym, ap, subst, ◌∙◌}
use mathlib.Core.Bool.{Bool, true, false, cond}
use mathlib.Core.List.{List, map}
use Prim.Native.Nat.{ℕ, zero, suc, ◌+◌, ◌-◌, ◌≤◌}
use native.Mathlib.Omega.{arith}
use lib.ListN.{length}
use lib.Dec.{eqb}
use borrow.Author.Tests.{ne_eqb}
use Rattle.semantics.specs.Sizes.{script_most, fuel_most}
use Rattle.semantics.specs.ListLaws.{nil}
use Rattle.forf_semantics.specs.Steps.{Limits, Step, goes, fails, step, finished, out_of_fuel, failed, Run, is_empty, is_finished, finish, go_on, run, initial}
use Rattle.forf_semantics.specs.Steps as F
use Rattle.forf_machine.specs.Slots.{slots}
use Rattle.forf_machine.specs.Rep.{frame_of, machine_from, machine_of, limits_of}
use Rattle.forf_steps.specs.Stepping.{Stepped, state_of, is_done, Ready, Stands, Steps}
use Rattle.forf_steps.specs.Running.{Begun, Ends}
use Rattle.forf_steps.specs.declared.State.{State}
use Rattle.forf_steps.specs.declared.Failure.{Failure}
use Rattle.std.specs.Prelude.{Ok, Err}
use Rattle.forf_steps.specs.declared.Ending.TheVariants as ending
use Rattle.forf_steps.specs.declared.Ended.{Ended}

pub record Running (script : List ℕ) (fuel : ℕ) (s₀ e₀ mem₀ s e mem : List ℕ) (st : State) : Type 0 where
  pub stands : Stands script st s e mem
  pub ls : length s ≡ length s₀
  pub le : length e ≡ length e₀
  pub lm : length mem ≡ length mem₀
  pub few : st.steps ≤ fuel
  pub same : run (limits_of s₀ e₀) script fuel (initial mem₀) ≡ run (limits_of s₀ e₀) script (fuel - st.steps) (state_of script st s e mem)

pub begin : (script : List ℕ) (fuel : ℕ) (s e mem : List ℕ) → Begun script fuel mem
    → Running script fuel s e mem s e mem (record { machine = record { depth = 0; frames = 0 }; next = 0; at = 0; steps = 0 })
unfolding initial state_of machine_of machine_from slots
begin script fuel s e mem B = record {
  stands = record {
    rep = record { stack_fits = omega arith; exec_fits = omega arith; values = nil; frames = nil; memory_slots_lem = B.memory_slots_lem };
    inside = omega arith;
    within = omega arith;
  };
  ls = refl;
  le = refl;
  lm = refl;
  few = omega arith;
  same = ap (λ (n : ℕ). run (limits_of s e) script n (initial mem)) (omega arith);
}

-- ---- whether the run is finished

empty_is : (script : List ℕ) (n : ℕ) (e : List ℕ) → is_empty (map (frame_of script) (slots 8 n e)) ≡ eqb n 0
unfolding is_empty slots
empty_is script zero e = refl
empty_is script (suc n) e = sym (ne_eqb (suc n) 0 (λ z. omega arith))

choice : (b : Bool) (x : Bool) → elim b [ true ↦ x | false ↦ false ] ≡ cond b x false
choice true x = refl
choice false x = refl

done_is : (script : List ℕ) (st : State) (s e mem : List ℕ) → is_finished script (state_of script st s e mem) ≡ is_done script st.machine.frames st.next
unfolding is_finished is_done state_of machine_of machine_from
done_is script st s e mem = choice (is_empty (map (frame_of script) (slots 8 st.machine.frames e))) _ ∙ rw (empty_is script st.machine.frames e) refl

run_finished : (l : Limits) (script : List ℕ) (n : ℕ) (σ : F.State) → is_finished script σ ≡ true → run l script n σ ≡ finish script σ
unfolding run
run_finished l script zero σ h = rw (run, h) refl
run_finished l script (suc n) σ h = rw (run, h) refl

run_spent : (l : Limits) (script : List ℕ) (σ : F.State) → is_finished script σ ≡ false → run l script zero σ ≡ record { ending = out_of_fuel; final = σ }
unfolding run
run_spent l script σ h = rw (run, h) refl

run_on : (l : Limits) (script : List ℕ) (n : ℕ) (σ : F.State) → is_finished script σ ≡ false → run l script (suc n) σ ≡ go_on (run l script n) (step l script σ)
unfolding run
run_on l script n σ h = rw (run, h) refl

-- ---- the ways out and on

module _ {script : List ℕ} {fuel : ℕ} {s₀ e₀ mem₀ s e mem : List ℕ} {st : State} (K : Running script fuel s₀ e₀ mem₀ s e mem st)
    {t : Bool} (is : t ≡ is_done script st.machine.frames st.next) where
  pub end_finished : {r : Ended} → t ≡ true
      → r ≡ record { state = record { machine = st.machine; next = st.next; at = length script; steps = st.steps }; ending = ending.Finished }
      → Ends script fuel s₀ s e₀ mem₀ mem r
  unfolding finish state_of
  end_finished h q = rw q (record {
    exec = e;
    runs = K.same ∙ run_finished (limits_of s₀ e₀) script (fuel - st.steps) (state_of script st s e mem) (done_is script st s e mem ∙ sym is ∙ h);
    stands = record { rep = K.stands.rep; inside = K.stands.inside; within = omega arith };
    held = tt;
    steps = K.few;
  })

  module _ (h : t ≡ false) where
    goes_on_lem : is_finished script (state_of script st s e mem) ≡ false
    goes_on_lem = done_is script st s e mem ∙ sym is ∙ h

    pub end_spent : {r : Ended} → st.steps ≡ fuel → r ≡ record { state = st; ending = ending.OutOfFuel } → Ends script fuel s₀ s e₀ mem₀ mem r
    end_spent z q =
        let n : fuel - st.steps ≡ zero = omega arith in
        rw q (record {
          exec = e;
          runs = K.same ∙ ap (λ (i : ℕ). run (limits_of s₀ e₀) script i (state_of script st s e mem)) n ∙ run_spent (limits_of s₀ e₀) script (state_of script st s e mem) goes_on_lem;
          stands = K.stands;
          held = tt;
          steps = K.few;
        })

    module _ (more : st.steps ≡ fuel → ⊥) where
      pub ready : length script ≤ script_most → fuel ≤ fuel_most → Ready script st s e mem
      ready a b = let f = K.few in record { rep = K.stands.rep; inside = K.stands.inside; within = K.stands.within; short = a; few = omega arith }

      limits_same : limits_of s e ≡ limits_of s₀ e₀
      unfolding limits_of
      limits_same = rw (K.ls, K.le) refl

      next_run : run (limits_of s₀ e₀) script fuel (initial mem₀)
          ≡ go_on (run (limits_of s₀ e₀) script (fuel - (st.steps + 1))) (step (limits_of s e) script (state_of script st s e mem))
      next_run =
          let f = K.few in
          let n : fuel - st.steps ≡ suc (fuel - (st.steps + 1)) = omega arith in
          K.same
          ∙ ap (λ (i : ℕ). run (limits_of s₀ e₀) script i (state_of script st s e mem)) n
          ∙ run_on (limits_of s₀ e₀) script (fuel - (st.steps + 1)) (state_of script st s e mem) goes_on_lem
          ∙ ap (λ (l : Limits). go_on (run (limits_of s₀ e₀) script (fuel - (st.steps + 1))) (step l script (state_of script st s e mem))) (sym limits_same)

      module _ {s' e' mem' : List ℕ} {r : Stepped} (S : Steps script st s s' e e' mem mem' r) where
        pub step_counts : {τ : State} → r ≡ Ok τ → τ.steps ≡ st.steps + 1
        step_counts q = (subst (λ (u : Stepped). Steps script st s s' e e' mem mem' u) q S).steps.2

        pub go_on_lem : {τ : State} → r ≡ Ok τ → length s' ≡ length s → length e' ≡ length e → length mem' ≡ length mem
            → Running script fuel s₀ e₀ mem₀ s' e' mem' τ
        unfolding go_on
        go_on_lem {τ} q a b c =
            let (h, stands, count) = (subst (λ (u : Stepped). Steps script st s s' e e' mem mem' u) q S).steps in
            let f = K.few in
            let n : fuel - (st.steps + 1) ≡ fuel - τ.steps = omega arith in
            record {
              stands = stands;
              ls = a ∙ K.ls;
              le = b ∙ K.le;
              lm = c ∙ K.lm;
              few = omega arith;
              same = next_run ∙ rw h (ap (λ (i : ℕ). run (limits_of s₀ e₀) script i (state_of script τ s' e' mem')) n);
            }

        pub end_failed : {f : Failure} {end : Ended} → r ≡ Err f → end ≡ record { state = f.state; ending = ending.Failed f.error f.command }
            → Ends script fuel s₀ s' e₀ mem₀ mem' end
        unfolding go_on
        end_failed {f} q w =
            let (h, a, b, stands, held, count) = (subst (λ (u : Stepped). Steps script st s s' e e' mem mem' u) q S).steps in
            let few = K.few in
            rw (w, a, b) (record {
              exec = e;
              runs = next_run ∙ rw h refl;
              stands = stands;
              held = held;
              steps = omega arith;
            })
