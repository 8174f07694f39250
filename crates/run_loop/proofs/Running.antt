-- The loop's invariant, and each way on or out of a turn: what has been run so far is a beginning of the definition's run, and the moments so far are exact.
-- Assumes nothing.
use Rattle.std.specs.Prelude.{Some, None, Ok, Err}
use mathlib.Core.Path.{◌≡◌, refl, sym, ap, ◌∙◌, subst}
use mathlib.Core.Bool.{Bool, true, false}
use mathlib.Core.List.{List, [], ◌∷◌, ◌++◌}
use Prim.Native.Nat.{ℕ, suc, ◌+◌, ◌-◌, ◌≤◌, ◌<◌}
use native.Mathlib.Omega.{arith}
use lib.ListN.{length, drop}
use Rattle.semantics.specs.Sizes.{script_most}
use Rattle.semantics.specs.Machine as Floo
use Rattle.semantics.specs.Steps as steps
use Rattle.semantics.specs.Steps.{run, finish, is_finished}
use Rattle.semantics.specs.RunLaws.{Stepped as SteppedBy}
use Rattle.semantics.specs.RunLaws.{went}
use Rattle.semantics.proofs.RunLaws.{step_stepped}
use Rattle.semantics.specs.declared.Error.{Error}
use Rattle.semantics.specs.declared.Fault.{Fault}
use Rattle.ending.specs.Endings.{ending_of, IsEnding, after_of}
use Rattle.ending.specs.declared.Command.{Command}
use Rattle.ending.specs.declared.Ending.{Ending}
use Rattle.ending.specs.declared.Ending.TheVariants as ending
use Rattle.machine.specs.Places.{keys}
use Rattle.machine.specs.Rep.{Rep}
use Rattle.machine.specs.Room.{lent}
use Rattle.machine.proofs.Rooms.{frames_length, logged_length}
use Rattle.exactness.specs.Traces.{Along, nil, cons}
use Rattle.exactness.proofs.Showing.{shows}
use Rattle.exactness.proofs.Lists.{along_snoc}
use Rattle.exactness.proofs.Reaching.{Reached, reached_start, reached_goes, over_finished, over_spent, over_fails, over_misreads, over_stops, Over}
use Rattle.growth.proofs.Logs.{rest_on}
use Rattle.growth.proofs.StepGrowth.{step_log_length}
use Rattle.handover.specs.Handover.{Handed, MayHand, HandsOver}
use Rattle.machine.specs.declared.Machine.{Machine}
use Rattle.step.specs.Stepping.{state_of, SteppedAs, LogLeft, Steps, Tries, Ready, Finished, handed_by}
use Rattle.step.proofs.Moving.{settled, may_hand}
use Rattle.step.specs.declared.State.{State}
use Rattle.step.specs.declared.Stepped.{Stepped}
use Rattle.step.specs.declared.Stepped.TheVariants.{Goes, Fails, Misreads}
use Rattle.run_loop.specs.History.{Moment, moment, left_by, Leads, start, then, Exactly, Begun, EndsFrom, Ends}
use Rattle.run_loop.specs.Halting.{RunningFrom, Running, Fell, HaltsAs, MayHalt, Halts}

-- ---- one moment

pub exactly : {σ : State} {s e d c l : List ℕ} {μ : Floo.Machine} → Rep σ.machine s e d c l μ → Exactly (moment σ s e d c l) (state_of σ μ)
exactly R = record { next = refl; at = refl; steps = refl; stands = R; shows = shows R }

lent_same : (s s' e e' d d' c c' l l' : List ℕ)
    → length s' ≡ length s
    → length e' ≡ length e
    → length d' ≡ length d
    → length c' ≡ length c
    → length l' ≡ length l
    → lent s' e' d' c' l' ≡ lent s e d c l
unfolding lent
lent_same s s' e e' d d' c c' l l' a b f g h = rw (a, b, f, g, h) refl

-- ---- a step of either kind

-- The buffers after it are as long as before.
pub record Went (script : List ℕ) (st : State) (s s' e e' d d' c c' l l' : List ℕ) (answer : Stepped) : Type 0 where
  pub steps : Steps script st s s' e e' d d' c c' l l' answer
  pub ls : length s' ≡ length s
  pub le : length e' ≡ length e
  pub ld : length d' ≡ length d
  pub lc : length c' ≡ length c
  pub ll : length l' ≡ length l

-- What was tried, before its error is handed over.
pub record Attempt (script : List ℕ) (st : State) (s s' e e' d d' c c' l l' : List ℕ) (answer : Stepped) : Type 0 where
  pub tries : Tries script st s s' e e' d d' c c' l l' answer
  pub ls : length s' ≡ length s
  pub le : length e' ≡ length e
  pub ld : length d' ≡ length d
  pub lc : length c' ≡ length c
  pub ll : length l' ≡ length l

module _ {script : List ℕ} {st : State} {s s' e e' d d' c c' l l' : List ℕ} {answer : Stepped} (A : Attempt script st s s' e e' d d' c c' l l' answer) where
  told : {a : Stepped} → answer ≡ a → Attempt script st s s' e e' d d' c c' l l' a
  told g = subst (Attempt script st s s' e e' d d' c c' l l') g A

  pub went_goes : {τ : State} → answer ≡ Goes τ → Went script st s s' e e' d d' c c' l l' (Goes τ)
  went_goes g =
      let B = told g in
      record { steps = record { steps = λ μ R. B.tries.tries μ R; left = B.tries.left }; ls = A.ls; le = A.le; ld = A.ld; lc = A.lc; ll = A.ll }

  pub went_misread : {τ : State} {command : Command} {f : Fault} → answer ≡ Misreads τ command f → Went script st s s' e e' d d' c c' l l' (Misreads τ command f)
  went_misread g =
      let B = told g in
      record { steps = record { steps = λ μ R. B.tries.tries μ R; left = B.tries.left }; ls = A.ls; le = A.le; ld = A.ld; lc = A.lc; ll = A.ll }

  pub fell : {fuel from left : ℕ} {first : Moment} {τ : State} {x : Error} {command : Command}
      → Running script fuel first (moment st s e d c l) left
      → from ≤ st.steps
      → 0 < left
      → {r : Bool} → Finished script st r → r ≡ false
      → answer ≡ Fails τ x command
      → Fell script fuel from first s' e' d' c' l' τ x command
  fell {left = left} R later some F t g =
      record {
        here = moment st s e d c l;
        left = left;
        running = R;
        later = later;
        some_left = some;
        more = subst (Finished script st) t F;
        tries = (told g).tries;
        ls = A.ls;
        le = A.le;
        ld = A.ld;
        lc = A.lc;
        ll = A.ll;
      }

pub tried_by : {script : List ℕ} {st : State} {s s₁ s' e e₁ e' d d₁ d' c c₁ c' l l₁ l' : List ℕ} {a answer : Stepped}
    → Attempt script st s s₁ e e₁ d d₁ c c₁ l l₁ a
    → s' ≡ s₁
    → e' ≡ e₁
    → d' ≡ d₁
    → c' ≡ c₁
    → l' ≡ l₁
    → answer ≡ a
    → Attempt script st s s' e e' d d' c c' l l' answer
tried_by W p q r t u v = rw (p, q, r, t, u, v) W

pub went_room : {script : List ℕ} {st : State} {s s' e e' d d' c c' l l' : List ℕ} {answer : Stepped}
    → Went script st s s' e e' d d' c c' l l' answer
    → lent s' e' d' c' l' ≡ lent s e d c l
went_room {s = s} {s' = s'} {e = e} {e' = e'} {d = d} {d' = d'} {c = c} {c' = c'} {l = l} {l' = l'} W =
    lent_same s s' e e' d d' c c' l l' W.ls W.le W.ld W.lc W.ll

-- ---- the beginning

pub begin : {script : List ℕ} {fuel : ℕ} {st σ : State} {s e d c l : List ℕ}
    → Begun script fuel st s e d c l
    → σ ≡ st
    → Running script fuel (moment σ s e d c l) (moment σ s e d c l) (σ.steps + fuel - σ.steps)
begin {script} {fuel} {st} {σ} {s} {e} {d} {c} {l} B same =
    let whole : fuel ≡ st.steps + fuel - st.steps = omega arith in
    subst (λ τ. Running script fuel (moment τ s e d c l) (moment τ s e d c l) (τ.steps + fuel - τ.steps)) (sym same)
    (subst (Running script fuel (moment st s e d c l) (moment st s e d c l)) whole
    (record {
      short = B.short;
      fueled = B.fueled;
      inside = B.inside;
      within = B.within;
      count = refl;
      ls = refl;
      le = refl;
      ld = refl;
      lc = refl;
      ll = refl;
      some = B.machine;
      from = λ μ R. record {
        machine = μ;
        rep = R;
        before = [];
        reached = reached_start (lent s e d c l) script fuel (state_of st μ);
        moments = moment st s e d c l ∷ [];
        chain = start;
        exact = cons (exactly R) nil;
        rest = refl;
      };
    }))

-- A run from a state that is the same.
pub ends_from : {script : List ℕ} {fuel : ℕ} {st σ τ : State} {s s' e e' d d' c c' l l' : List ℕ} {ending : Ending}
    → σ ≡ st
    → Ends script fuel σ s s' e e' d d' c c' l l' τ ending
    → Ends script fuel st s s' e e' d d' c c' l l' τ ending
ends_from {script} {fuel} {τ = τ} {s = s} {s' = s'} {e = e} {e' = e'} {d = d} {d' = d'} {c = c} {c' = c'} {l = l} {l' = l'} {ending = ending} same E =
    subst (λ σ. Ends script fuel σ s s' e e' d d' c c' l l' τ ending) same E

-- ---- what is asked

module _ {script : List ℕ} {fuel : ℕ} {first : Moment} {st : State} {s e d c l : List ℕ} {left : ℕ} (R : Running script fuel first (moment st s e d c l) left) where
  pub ready : 0 < left → Ready script st s e d c l
  ready some =
      let G = R.from R.some.0 R.some.1 in
      record { short = R.short; inside = R.inside; within = R.within; few = omega (arith, R.count, R.fueled, some); machine = (G.machine, G.rep) }

-- ---- the ways out without a step

module _ {script : List ℕ} {fuel : ℕ} {st₀ : State} {s₀ e₀ d₀ c₀ l₀ : List ℕ} {st : State} {s e d c l : List ℕ} {left : ℕ}
    (R : Running script fuel (moment st₀ s₀ e₀ d₀ c₀ l₀) (moment st s e d c l) left) where
  -- ---- from one machine

  module _ {μ₀ : Floo.Machine} (G : RunningFrom script fuel μ₀ (moment st₀ s₀ e₀ d₀ c₀ l₀) (moment st s e d c l) left) where
    finished_is : {r : Bool} → Finished script st r → r ≡ is_finished script (state_of st G.machine)
    finished_is F = F.says G.machine (frames_length G.rep.frames)

    from_finished : {r : Bool} → Finished script st r → r ≡ true
        → EndsFrom script fuel st₀ μ₀ s₀ s e₀ e d₀ d c₀ c l₀ l (record { machine = st.machine; next = st.next; at = length script; steps = st.steps }) ending.Finished
    unfolding finish ending_of
    from_finished F t =
        let O = over_finished G.reached (sym (finished_is F) ∙ t) in
        record {
          machine = G.machine;
          rep = G.rep;
          named = tt;
          runs = O.runs;
          within = omega arith;
          last = st;
          same = (refl, refl);
          history = record { moments = G.moments; chain = G.chain; exact = subst (Along Exactly G.moments) (sym O.states) G.exact };
          rest = G.rest;
        }

    from_spent : {r : Bool} → Finished script st r → r ≡ false → left ≡ 0 → EndsFrom script fuel st₀ μ₀ s₀ s e₀ e d₀ d c₀ c l₀ l st ending.OutOfFuel
    unfolding ending_of
    from_spent F t z =
        let O = over_spent (subst (λ n. Reached (lent s₀ e₀ d₀ c₀ l₀) script fuel (state_of st₀ μ₀) G.before n (state_of st G.machine)) z G.reached) (sym (finished_is F) ∙ t) in
        record {
          machine = G.machine;
          rep = G.rep;
          named = tt;
          runs = O.runs;
          within = R.within;
          last = st;
          same = (refl, refl);
          history = record { moments = G.moments; chain = G.chain; exact = subst (Along Exactly G.moments) (sym O.states) G.exact };
          rest = G.rest;
        }

    module _ {r : Bool} (F : Finished script st r) (t : r ≡ false) (some : 0 < left) {answer : Stepped} {s' e' d' c' l' : List ℕ} (W : Went script st s s' e e' d d' c c' l l' answer) where
      limits_same : lent s e d c l ≡ lent s₀ e₀ d₀ c₀ l₀
      limits_same = lent_same s₀ s e₀ e d₀ d c₀ c l₀ l R.ls R.le R.ld R.lc R.ll

      more : is_finished script (state_of st G.machine) ≡ false
      more = sym (finished_is F) ∙ t

      again : Reached (lent s₀ e₀ d₀ c₀ l₀) script fuel (state_of st₀ μ₀) G.before (suc (left - 1)) (state_of st G.machine)
      again =
          let z : left ≡ suc (left - 1) = omega (arith, some) in
          subst (λ n. Reached (lent s₀ e₀ d₀ c₀ l₀) script fuel (state_of st₀ μ₀) G.before n (state_of st G.machine)) z G.reached

      module _ {τ : State} (g : answer ≡ Goes τ) where
        goes_as : SteppedAs script st s s' e e' d d' c c' l l' G.machine (Goes τ)
        goes_as = subst (SteppedAs script st s s' e e' d d' c c' l l' G.machine) g (W.steps.steps G.machine G.rep)

        new : Floo.Machine
        new = goes_as.0

        goes_is : steps.step (lent s₀ e₀ d₀ c₀ l₀) script (state_of st G.machine) ≡ steps.goes (state_of τ new)
        unfolding new
        goes_is = ap (λ n. steps.step n script (state_of st G.machine)) (sym limits_same) ∙ goes_as.1

        new_rep : Rep τ.machine s' e' d' c' l' new
        unfolding new
        new_rep = goes_as.2

        goes_leads : Leads script (moment st s e d c l) (moment τ s' e' d' c' l')
        goes_leads = record { answer = answer; steps = W.steps; left = ap left_by g; room = went_room W }

        goes_rest : drop τ.machine.written l' ≡ drop τ.machine.written l₀
        goes_rest =
            let longer = step_log_length (lent s₀ e₀ d₀ c₀ l₀) script (state_of st G.machine) (state_of τ new) goes_is in
            rest_on {w = st.machine.written} {w' = τ.machine.written} l₀ l l' G.rest (omega (arith, longer, logged_length G.rep, logged_length new_rep)) (subst (LogLeft l l') g W.steps.left)

        from_stopped : τ.machine.stopped ≡ true → EndsFrom script fuel st₀ μ₀ s₀ s' e₀ e' d₀ d' c₀ c' l₀ l' τ ending.Stopped
        unfolding ending_of new
        from_stopped stop =
            let O = over_stops again more goes_is (sym new_rep.stopped ∙ stop) in
            record {
              machine = new;
              rep = new_rep;
              named = tt;
              runs = O.runs;
              within = goes_as.4;
              last = τ;
              same = (refl, refl);
              history = record {
                moments = G.moments ++ (moment τ s' e' d' c' l' ∷ []);
                chain = then G.chain goes_leads;
                exact = subst (Along Exactly (G.moments ++ (moment τ s' e' d' c' l' ∷ []))) (sym O.states) (along_snoc G.exact (exactly new_rep));
              };
              rest = goes_rest;
            }

        counted : τ.steps ≡ suc st.steps
        counted = by (subst (SteppedBy (state_of st G.machine)) goes_is (step_stepped (lent s₀ e₀ d₀ c₀ l₀) script (state_of st G.machine)))
          where
            by : SteppedBy (state_of st G.machine) (steps.goes (state_of τ new)) → τ.steps ≡ suc st.steps
            by (went h) = h

        from_on : τ.machine.stopped ≡ false → RunningFrom script fuel μ₀ (moment st₀ s₀ e₀ d₀ c₀ l₀) (moment τ s' e' d' c' l') (left - 1)
        unfolding new
        from_on runs = record {
          machine = new;
          rep = new_rep;
          before = G.before ++ (state_of st G.machine ∷ []);
          reached = reached_goes again more goes_is (sym new_rep.stopped ∙ runs);
          moments = G.moments ++ (moment τ s' e' d' c' l' ∷ []);
          chain = then G.chain goes_leads;
          exact = along_snoc G.exact (exactly new_rep);
          rest = goes_rest;
        }

      -- A step that ends the run leaves the machine as it was.
      module _ {τ : State} (left_is : left_by answer ≡ τ) (rep : Rep τ.machine s' e' d' c' l' G.machine) (log_is : l' ≡ l) (low : τ.at ≤ length script)
          {x : Ending} (named : IsEnding script (keys G.machine) x)
          (O : Over (lent s₀ e₀ d₀ c₀ l₀) script fuel (state_of st₀ μ₀) ((G.before ++ (state_of st G.machine ∷ [])) ++ (state_of τ G.machine ∷ []))
          (record { ending = ending_of script (keys G.machine) x; final = state_of τ G.machine })) where
        from_ended : EndsFrom script fuel st₀ μ₀ s₀ s' e₀ e' d₀ d' c₀ c' l₀ l' τ x
        from_ended =
            let same : τ.machine.written ≡ st.machine.written = sym (logged_length rep) ∙ logged_length G.rep in
            record {
              machine = G.machine;
              rep = rep;
              named = named;
              runs = O.runs;
              within = low;
              last = τ;
              same = (refl, refl);
              history = record {
                moments = G.moments ++ (moment τ s' e' d' c' l' ∷ []);
                chain = then G.chain (record { answer = answer; steps = W.steps; left = left_is; room = went_room W });
                exact = subst (Along Exactly (G.moments ++ (moment τ s' e' d' c' l' ∷ []))) (sym O.states) (along_snoc G.exact (exactly rep));
              };
              rest = subst (λ n. drop n l' ≡ drop n l₀) (sym same) (ap (drop st.machine.written) log_is ∙ G.rest);
            }

      stepped_as : {a : Stepped} → answer ≡ a → SteppedAs script st s s' e e' d d' c c' l l' G.machine a
      stepped_as g = subst (SteppedAs script st s s' e e' d d' c c' l l' G.machine) g (W.steps.steps G.machine G.rep)

      from_failed : {x : Error} {command : Command} {τ : State} → answer ≡ Fails τ x command
          → EndsFrom script fuel st₀ μ₀ s₀ s' e₀ e' d₀ d' c₀ c' l₀ l' τ (ending.Failed x command)
      unfolding ending_of
      from_failed g =
          let A = stepped_as g in
          let is = ap (λ n. steps.step n script (state_of st G.machine)) (sym limits_same) ∙ A.0 in
          from_ended (ap left_by g) A.1 (subst (LogLeft l l') g W.steps.left) A.3 A.2 (over_fails again more is)

      from_misread : {f : Fault} {command : Command} {τ : State} → answer ≡ Misreads τ command f → EndsFrom script fuel st₀ μ₀ s₀ s' e₀ e' d₀ d' c₀ c' l₀ l' τ (ending.Misread f)
      unfolding ending_of
      from_misread g =
          let A = stepped_as g in
          let is = ap (λ n. steps.step n script (state_of st G.machine)) (sym limits_same) ∙ A.0 in
          from_ended (ap left_by g) A.1 (subst (LogLeft l l') g W.steps.left) A.2 tt (over_misreads again more is)

  -- ---- from each

  pub end_finished : {r : Bool} → Finished script st r → r ≡ true → {τ : State}
      → τ ≡ record { machine = st.machine; next = st.next; at = length script; steps = st.steps }
      → Ends script fuel st₀ s₀ s e₀ e d₀ d c₀ c l₀ l τ ending.Finished
  end_finished F t q = subst (λ τ. Ends script fuel st₀ s₀ s e₀ e d₀ d c₀ c l₀ l τ ending.Finished) (sym q) (record { ends = λ μ M. from_finished (R.from μ M) F t })

  pub end_spent : {r : Bool} → Finished script st r → r ≡ false → left ≡ 0 → Ends script fuel st₀ s₀ s e₀ e d₀ d c₀ c l₀ l st ending.OutOfFuel
  end_spent F t z = record { ends = λ μ M. from_spent (R.from μ M) F t z }

  module _ {r : Bool} (F : Finished script st r) (t : r ≡ false) (some : 0 < left) {answer : Stepped} {s' e' d' c' l' : List ℕ} (W : Went script st s s' e e' d d' c c' l l' answer) where
    module _ {τ : State} (g : answer ≡ Goes τ) where
      pub end_stopped : τ.machine.stopped ≡ true → Ends script fuel st₀ s₀ s' e₀ e' d₀ d' c₀ c' l₀ l' τ ending.Stopped
      end_stopped stop = record { ends = λ μ M. from_stopped (R.from μ M) F t some W g stop }

      -- One machine is enough for what does not name any.
      one : RunningFrom script fuel R.some.0 (moment st₀ s₀ e₀ d₀ c₀ l₀) (moment st s e d c l) left
      one = R.from R.some.0 R.some.1

      pub goes_less : {ρ : State} → ρ ≡ τ → st₀.steps + fuel - ρ.steps < left
      goes_less same = omega (arith, R.count, counted one F t some W g, some, ap (λ σ. σ.steps) same)

      pub go_on_lem : {ρ : State}
          → ρ ≡ τ
          → τ.machine.stopped ≡ false
          → Running script fuel (moment st₀ s₀ e₀ d₀ c₀ l₀) (moment ρ s' e' d' c' l') (st₀.steps + fuel - ρ.steps)
      go_on_lem same runs =
          let one_more = counted one F t some W g in
          let one_less : left - 1 ≡ st₀.steps + fuel - τ.steps = omega (arith, R.count, one_more, some) in
          let G = goes_as one F t some W g in
          subst (λ ρ. Running script fuel (moment st₀ s₀ e₀ d₀ c₀ l₀) (moment ρ s' e' d' c' l') (st₀.steps + fuel - ρ.steps)) (sym same)
          (subst (Running script fuel (moment st₀ s₀ e₀ d₀ c₀ l₀) (moment τ s' e' d' c' l')) one_less
          (record {
            short = R.short;
            fueled = R.fueled;
            inside = G.3;
            within = G.4;
            count = omega (arith, R.count, one_more, some);
            ls = W.ls ∙ R.ls;
            le = W.le ∙ R.le;
            ld = W.ld ∙ R.ld;
            lc = W.lc ∙ R.lc;
            ll = W.ll ∙ R.ll;
            some = R.some;
            from = λ μ M. from_on (R.from μ M) F t some W g runs;
          }))

    pub end_failed : {x : Error} {command : Command} {τ : State} → answer ≡ Fails τ x command
        → Ends script fuel st₀ s₀ s' e₀ e' d₀ d' c₀ c' l₀ l' τ (ending.Failed x command)
    end_failed g = record { ends = λ μ M. from_failed (R.from μ M) F t some W g }

    pub end_misread : {f : Fault} {command : Command} {τ : State} → answer ≡ Misreads τ command f → Ends script fuel st₀ s₀ s' e₀ e' d₀ d' c₀ c' l₀ l' τ (ending.Misread f)
    end_misread g = record { ends = λ μ M. from_misread (R.from μ M) F t some W g }

-- ---- the loop of steps, for every run that has come to its beginning

pub record Going (script : List ℕ) (limit : ℕ) (st₀ : State) (s₀ e₀ d₀ c₀ l₀ : List ℕ) (here : Moment) : Type 0 where
  pub on : (fuel : ℕ) (first : Moment)
      → first.state.steps + fuel ≡ limit
      → Running script fuel first (moment st₀ s₀ e₀ d₀ c₀ l₀) (limit - st₀.steps)
      → Running script fuel first here (limit - here.state.steps)
  pub later : st₀.steps ≤ here.state.steps
  pub ls : length here.stack ≡ length s₀
  pub le : length here.exec ≡ length e₀
  pub ld : length here.dict ≡ length d₀
  pub lc : length here.cells ≡ length c₀
  pub ll : length here.log ≡ length l₀

pub going : {script : List ℕ} {limit : ℕ} {st : State} {s e d c l : List ℕ} → Going script limit st s e d c l (moment st s e d c l)
going = record { on = λ fuel first q R. R; later = omega arith; ls = refl; le = refl; ld = refl; lc = refl; ll = refl }

-- From a state that is the same.
pub may_from : {script : List ℕ} {limit : ℕ} {st σ : State} {s e d c l : List ℕ} → σ ≡ st → MayHalt script limit st s e d c l → MayHalt script limit σ s e d c l
may_from {script} {limit} {s = s} {e = e} {d = d} {c = c} {l = l} same M = subst (λ σ. MayHalt script limit σ s e d c l) (sym same) M

pub halts_from : {script : List ℕ} {limit : ℕ} {st σ τ : State} {s s' e e' d d' c c' l l' : List ℕ} {ending : Ending}
    → σ ≡ st
    → Halts script limit σ s s' e e' d d' c c' l l' τ ending
    → Halts script limit st s s' e e' d d' c c' l l' τ ending
halts_from {script} {limit} {τ = τ} {s = s} {s' = s'} {e = e} {e' = e'} {d = d} {d' = d'} {c = c} {c' = c'} {l = l} {l' = l'} {ending = ending} same H =
    subst (λ σ. Halts script limit σ s s' e e' d d' c c' l l' τ ending) same H

-- One run is enough for what is asked.
pub one_run : {script : List ℕ} {limit : ℕ} {st₀ : State} {s₀ e₀ d₀ c₀ l₀ : List ℕ} {here : Moment}
    → Going script limit st₀ s₀ e₀ d₀ c₀ l₀ here
    → (M : MayHalt script limit st₀ s₀ e₀ d₀ c₀ l₀)
    → Running script M.0 M.1 here (limit - here.state.steps)
one_run G M = G.on M.0 M.1 M.2 M.3

pub steps_left : {script : List ℕ} {limit : ℕ} {st₀ : State} {s₀ e₀ d₀ c₀ l₀ : List ℕ} {here : Moment}
    → Going script limit st₀ s₀ e₀ d₀ c₀ l₀ here
    → MayHalt script limit st₀ s₀ e₀ d₀ c₀ l₀
    → here.state.steps + (limit - here.state.steps) ≡ limit
steps_left G M = (one_run G M).count ∙ M.2

module _ {script : List ℕ} {limit : ℕ} {st₀ : State} {s₀ e₀ d₀ c₀ l₀ : List ℕ} {st : State} {s e d c l : List ℕ}
    (G : Going script limit st₀ s₀ e₀ d₀ c₀ l₀ (moment st s e d c l)) where
  pub halts_finished : {r : Bool} → Finished script st r → r ≡ true → {τ : State}
      → τ ≡ record { machine = st.machine; next = st.next; at = length script; steps = st.steps }
      → Halts script limit st₀ s₀ s e₀ e d₀ d c₀ c l₀ l τ ending.Finished
  halts_finished F t q = record { halts = λ fuel first m R. end_finished (G.on fuel first m R) F t q }

  pub halts_spent : {r : Bool} → Finished script st r → r ≡ false → limit - st.steps ≡ 0 → Halts script limit st₀ s₀ s e₀ e d₀ d c₀ c l₀ l st ending.OutOfFuel
  halts_spent F t z = record { halts = λ fuel first m R. end_spent (G.on fuel first m R) F t z }

  module _ {r : Bool} (F : Finished script st r) (t : r ≡ false) (some : 0 < limit - st.steps) {answer : Stepped} {s' e' d' c' l' : List ℕ} (A : Attempt script st s s' e e' d d' c c' l l' answer) where
    pub halts_stopped : {τ : State} → answer ≡ Goes τ → τ.machine.stopped ≡ true → Halts script limit st₀ s₀ s' e₀ e' d₀ d' c₀ c' l₀ l' τ ending.Stopped
    halts_stopped g stop = record { halts = λ fuel first m R. end_stopped (G.on fuel first m R) F t some (went_goes A g) refl stop }

    pub halts_misread : {f : Fault} {command : Command} {τ : State} → answer ≡ Misreads τ command f → Halts script limit st₀ s₀ s' e₀ e' d₀ d' c₀ c' l₀ l' τ (ending.Misread f)
    halts_misread g = record { halts = λ fuel first m R. end_misread (G.on fuel first m R) F t some (went_misread A g) refl }

    pub halts_failed : {x : Error} {command : Command} {τ : State} → answer ≡ Fails τ x command → Halts script limit st₀ s₀ s' e₀ e' d₀ d' c₀ c' l₀ l' τ (ending.Failed x command)
    halts_failed g = record { halts = λ fuel first m R. fell A (G.on fuel first m R) G.later some F t g }

    module _ {τ ρ : State} (g : answer ≡ Goes τ) (same : ρ ≡ τ) (M : MayHalt script limit st₀ s₀ e₀ d₀ c₀ l₀) where
      pub steps_less : limit - ρ.steps < limit - st.steps
      steps_less =
          let m = M.2 in
          let less = goes_less (one_run G M) F t some (went_goes A g) refl same in
          omega (arith, m, less)

      pub going_on : τ.machine.stopped ≡ false → Going script limit st₀ s₀ e₀ d₀ c₀ l₀ (moment ρ s' e' d' c' l')
      going_on runs =
          record {
            on = λ fuel first m R.
                subst (λ n. Running script fuel first (moment ρ s' e' d' c' l') (n - ρ.steps)) m (go_on_lem (G.on fuel first m R) F t some (went_goes A g) refl same runs);
            later = omega (arith, G.later, steps_less);
            ls = A.ls ∙ G.ls;
            le = A.le ∙ G.le;
            ld = A.ld ∙ G.ld;
            lc = A.lc ∙ G.lc;
            ll = A.ll ∙ G.ll;
          }

-- ---- what the loop of steps came to, for one run

pub halts_as : {script : List ℕ} {limit fuel : ℕ} {first : Moment} {st τ : State} {s s' e e' d d' c c' l l' : List ℕ} {x y : Ending}
    → Halts script limit st s s' e e' d d' c c' l l' τ x
    → first.state.steps + fuel ≡ limit
    → Running script fuel first (moment st s e d c l) (limit - st.steps)
    → x ≡ y
    → HaltsAs script fuel st.steps first s' e' d' c' l' τ y
halts_as {script} {fuel = fuel} {first = first} {st = st} {τ = τ} {s' = s'} {e' = e'} {d' = d'} {c' = c'} {l' = l'} H q R g =
    subst (HaltsAs script fuel st.steps first s' e' d' c' l' τ) g (H.halts fuel first q R)

-- An ending that is no error is the run's.
pub halted : {script : List ℕ} {fuel : ℕ} (from : ℕ) {first : Moment} {s' e' d' c' l' : List ℕ} {τ : State} (x : Ending)
    → ((y : Error) (command : Command) → x ≡ ending.Failed y command → ⊥)
    → HaltsAs script fuel from first s' e' d' c' l' τ x
    → Ends script fuel first.state first.stack s' first.exec e' first.dict d' first.cells c' first.log l' τ x
halted from ending.Finished n H = H
halted from ending.Stopped n H = H
halted from ending.OutOfFuel n H = H
halted from (ending.Failed y command) n H = absurd (n y command refl)
halted from (ending.Misread f) n H = H

-- ---- an error is handed over

module _ {script : List ℕ} {fuel from : ℕ} {first : Moment} {s e d c l : List ℕ} {τ : State} {x : Error} {command : Command} (L : Fell script fuel from first s e d c l τ x command) where
  abbrev here : Moment
  here = L.here

  one_machine : (μ : Floo.Machine) × Rep here.state.machine here.stack here.exec here.dict here.cells here.log μ
  one_machine = let G = L.running.from L.running.some.0 L.running.some.1 in (G.machine, G.rep)

  pub hand_asks : MayHand script command τ.machine e d c
  hand_asks = may_hand L.tries L.le L.ld one_machine.0 one_machine.1

  pub after_low : after_of τ.next command ≤ script_most
  after_low =
      let A = L.tries.tries one_machine.0 one_machine.1 in
      let low = subst (λ n. after_of n command ≤ length script) (sym (ap (λ (t : State). t.next) A.6)) A.4 in
      omega (arith, low, L.running.short)

  module _ {e' d' c' : List ℕ} {h : Handed} (H : HandsOver script x command τ.machine e e' d d' c c' h) (le : length e' ≡ length e) (ld : length d' ≡ length d) (lc : length c' ≡ length c) where
    went_settled : {a : Handed} → h ≡ a → Went script here.state here.stack s here.exec e' here.dict d' here.cells c' here.log l (handed_by τ x command a)
    went_settled {a} g =
        record {
          steps = settled L.tries L.le L.ld a (subst (HandsOver script x command τ.machine e e' d d' c c') g H);
          ls = L.ls;
          le = le ∙ L.le;
          ld = ld ∙ L.ld;
          lc = lc ∙ L.lc;
          ll = L.ll;
        }

    pub ends_unhandled : h ≡ None → Ends script fuel first.state first.stack s first.exec e' first.dict d' first.cells c' first.log l τ (ending.Failed x command)
    ends_unhandled g = end_failed L.running L.more refl L.some_left (went_settled g) refl

    module _ {q : Machine} {n : ℕ} (g : h ≡ Some q) (next_is : n ≡ after_of τ.next command) where
      abbrev left_at : ℕ → State
      left_at k = record { machine = q; next = k; at = τ.at; steps = τ.steps }

      same : left_at n ≡ left_at (after_of τ.next command)
      same = ap left_at next_is

      pub ends_halted : q.stopped ≡ true → Ends script fuel first.state first.stack s first.exec e' first.dict d' first.cells c' first.log l (left_at n) ending.Stopped
      ends_halted stop =
          subst (λ σ. Ends script fuel first.state first.stack s first.exec e' first.dict d' first.cells c' first.log l σ ending.Stopped) (sym same)
          (end_stopped L.running L.more refl L.some_left (went_settled g) refl stop)

      pub handed_on : q.stopped ≡ false → Running script fuel first (moment (left_at n) s e' d' c' l) (first.state.steps + fuel - τ.steps)
      handed_on runs = go_on_lem L.running L.more refl L.some_left (went_settled g) refl same runs

      pub handed_less : first.state.steps + fuel - τ.steps < first.state.steps + fuel - from
      handed_less =
          let less = goes_less L.running L.more refl L.some_left (went_settled g) refl same in
          omega (arith, less, L.later, L.running.count)
