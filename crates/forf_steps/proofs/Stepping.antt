-- A step of the code is the definition's: with no execution slot the script's token is taken, else the topmost slot acts.
-- Assumes nothing.
use mathlib.Core.Path.{◌≡◌, refl, sym, ap, ap₂, subst, ◌∙◌}
use mathlib.Core.Bool.{Bool, true, false, true≢false}
use mathlib.Core.List.{List, [], ◌∷◌, map}
use Prim.Native.Nat.{ℕ, ◌+◌, ◌-◌, ◌*◌, ◌≤◌, ◌<◌}
use native.Mathlib.Omega.{arith}
use native.Mathlib.Numerals.{add-one}
use lib.ListN.{length, get_or}
use borrow.Author.Tests.{eq-eqb, ne_eqb, eqb-true, eqb-false}
use Rattle.semantics.specs.Values.{ok, fault, ◌>>=◌}
use Rattle.semantics.specs.ListLaws.{All, cons}
use Rattle.forf_semantics.specs.Errors.{Result}
use Rattle.forf_semantics.specs.Items.{Items, none, Taken, skip, taken, take_token}
use Rattle.forf_semantics.specs.Machine.{Frame, pending, running, enter, with_exec}
use Rattle.forf_semantics.specs.Machine as Forf
use Rattle.forf_semantics.specs.Steps.{Limits, Move, act, treat, silent, resume, room_for, Step, goes, fails, ended, moved, token_move, offset_after, step_on, step}
use Rattle.forf_semantics.specs.Steps as F
use Rattle.forf_semantics.specs.BodyLaws.{body_at, Known}
use Rattle.forf_semantics.specs.declared.Error.{Error}
use Rattle.forf_semantics.specs.declared.Error.TheVariants.{SyntaxError}
use Rattle.forf_groups.specs.Reading.{item_of, Held, Takes, Nothing}
use Rattle.forf_groups.specs.declared.Item.{Item}
use Rattle.forf_groups.specs.declared.Item.TheVariants as item
use Rattle.forf_machine.specs.Slots.{Slot, slots, put_slot}
use Rattle.forf_machine.specs.Rep.{frame_as, frame_of, SoundFrame, machine_from, machine_of, Rep, limits_of}
use Rattle.forf_machine.specs.declared.Machine.{Machine}
use Rattle.forf_machine.proofs.Slotting.{no_slots, top_slot, put_last, length_put, all_head, all_tail}
use Rattle.forf_machine.proofs.Answering.{went}
use Rattle.forf_steps.specs.Stepping.{Command, Stepped, Acts, state_of, is_pending, place_of, moved_on, state_after, state_failed, without_item, command_of, command_text, HeldCommand, Ready, Steps}
use Rattle.forf_steps.specs.declared.State.{State}
use Rattle.std.specs.Prelude.{None, Ok, Err}
use Rattle.forf_steps.proofs.Choosing.{either}

-- ---- the end of a step

module _ (script : List ℕ) (st : State) (s e mem : List ℕ) (at next : ℕ) (v : Move) where
  goes_by : (m : Machine) (s' e' mem' : List ℕ) → (v.result >>= room_for (limits_of s e)) ≡ ok (machine_of script m s' e' mem')
      → moved (limits_of s e) (state_of script st s e mem) at next v ≡ goes (state_of script (record { machine = m; next = next; at = at; steps = st.steps + 1 }) s' e' mem')
  unfolding moved ended state_of
  goes_by m s' e' mem' h = rw (h, add-one st.steps) refl

  fails_by : {x : Error} → (v.result >>= room_for (limits_of s e)) ≡ fault x
      → moved (limits_of s e) (state_of script st s e mem) at next v
      ≡ fails x v.command (state_of script (record { machine = st.machine; next = st.next; at = at; steps = st.steps + 1 }) s e mem)
  unfolding moved ended state_of
  fails_by h = rw (h, add-one st.steps) refl

-- The command of an item.
command_is : (script : List ℕ) (i : Item) → F.command_of (item_of script i) ≡ command_text script (command_of i)
unfolding F.command_of
command_is script (item.Number w) = refl
command_is script (item.Word start size) = refl
command_is script (item.Substack body) = refl

command_held : (script : List ℕ) (i : Item) → Held script i → HeldCommand script (command_of i)
command_held script (item.Number w) h = tt
command_held script (item.Word start size) h = h
command_held script (item.Substack body) h = tt

-- Where the step's move is v, and the state after it is τ.
module _ (script : List ℕ) (st : State) (s e mem : List ℕ) (R : Ready script st s e mem) (at next : ℕ) (v : Move)
    (is : step (limits_of s e) script (state_of script st s e mem) ≡ moved (limits_of s e) (state_of script st s e mem) at next v)
    (at-inside : at ≤ length script) (next-inside : next ≤ length script) where
  went_step : {s' e' mem' : List ℕ} (m : Machine) (τ : State) → ((v.result >>= room_for (limits_of s e)) ≡ ok (machine_of script m s' e' mem')) × Rep script m s' e' mem'
      → τ ≡ record { machine = m; next = next; at = at; steps = st.steps + 1 } → Steps script st s s' e e' mem mem' (Ok τ)
  went_step {s'} {e'} {mem'} m τ h q =
      subst (λ (σ : State). Steps script st s s' e e' mem mem' (Ok σ)) (sym q)
      (record { steps = (is ∙ goes_by script st s e mem at next v m s' e' mem' h.0, record { rep = h.1; inside = next-inside; within = at-inside }, refl) })

  failed_step : {x : Error} {s' e' mem' : List ℕ} {c : Command} (τ : State) → (v.result >>= room_for (limits_of s e)) ≡ fault x → s' ≡ s → mem' ≡ mem
      → v.command ≡ command_text script c → HeldCommand script c
      → τ ≡ record { machine = st.machine; next = st.next; at = at; steps = st.steps + 1 } → Steps script st s s' e e' mem mem' (Err (record { error = x; command = c; state = τ }))
  failed_step {x} {s'} {e'} {mem'} {c} τ h p r k l q =
      subst (λ (σ : State). Steps script st s s' e e' mem mem' (Err (record { error = x; command = c; state = σ }))) (sym q)
      (record {
        steps = (
          is ∙ fails_by script st s e mem at next v h ∙ ap (λ (t : List ℕ). fails x t (state_of script (record { machine = st.machine; next = st.next; at = at; steps = st.steps + 1 }) s e mem)) k,
          p,
          r,
          record { rep = R.rep; inside = R.inside; within = at-inside },
          l,
          refl,
        );
      })

  -- The item i acts on the words with e₁ for the execution stack.
  module _ (i : Item) (held : Held script i) (e₁ : List ℕ) (long : length e₁ ≡ length e) (rep : Rep script st.machine s e₁ mem)
      (acts : v ≡ treat (item_of script i) (machine_of script st.machine s e₁ mem)) where
    limits_same : limits_of s e₁ ≡ limits_of s e
    unfolding limits_of
    limits_same = rw long refl

    result : v.result ≡ act (item_of script i) (machine_of script st.machine s e₁ mem)
    unfolding treat
    result = ap (λ (u : Move). u.result) acts

    pub item_went : {s' e' mem' : List ℕ} {m : Machine} (τ : State) → Acts script i st.machine s s' e₁ e' mem mem' (Ok m)
        → τ ≡ record { machine = m; next = next; at = at; steps = st.steps + 1 } → Steps script st s s' e e' mem mem' (Ok τ)
    item_went {s'} {e'} {mem'} {m} τ A q =
        let (h, R') = A.acts rep in
        went_step m τ (ap₂ (λ (t : Result Forf.Machine) (l : Limits). t >>= room_for l) result (sym limits_same) ∙ h, R') q

    pub item_failed : {x : Error} {s' e' mem' : List ℕ} (τ : State) → Acts script i st.machine s s' e₁ e' mem mem' (Err x)
        → τ ≡ record { machine = st.machine; next = st.next; at = at; steps = st.steps + 1 } → Steps script st s s' e e' mem mem' (Err (record { error = x; command = command_of i; state = τ }))
    unfolding treat
    item_failed τ A q =
        let (h, p, r) = A.acts rep in
        failed_step τ (ap₂ (λ (t : Result Forf.Machine) (l : Limits). t >>= room_for l) result (sym limits_same) ∙ h) p r
        (ap (λ (u : Move). u.command) acts ∙ command_is script i) (command_held script i held) q

-- ---- where it begins

ran : (script : List ℕ) (next : ℕ) (vs fs : List Slot) (mem : List ℕ) → enter (running (body_at script next)) (machine_from script vs fs mem) ≡ machine_from script vs ((1, next) ∷ fs) mem
unfolding enter with_exec machine_from frame_of frame_as
ran script next vs fs mem = refl

step_on_none : (l : Limits) (script : List ℕ) (σ : F.State) (fs : List Frame) → fs ≡ []
    → step_on l script σ fs
    ≡ moved l σ (skip script σ.next) (offset_after (skip script σ.next) (take_token script (skip script σ.next))) (token_move (take_token script (skip script σ.next)) σ.machine)
unfolding step_on
step_on_none l script σ fs e = rw e refl

step_on_some : (l : Limits) (script : List ℕ) (σ : F.State) (fs : List Frame) (f : Frame) (rest : List Frame) → fs ≡ f ∷ rest
    → step_on l script σ fs ≡ moved l σ σ.at σ.next (resume f (with_exec rest σ.machine))
unfolding step_on
step_on_some l script σ fs f rest e = rw e refl

module _ {script : List ℕ} {st : State} {s e mem : List ℕ} (R : Ready script st s e mem) where
  -- No slot: the script's token at `start`.
  module _ (z : st.machine.frames ≡ 0) (start : ℕ) (begins : start ≡ skip script st.next) where
    script_is : {t : Result Taken} → take_token script start ≡ t
        → step (limits_of s e) script (state_of script st s e mem)
        ≡ moved (limits_of s e) (state_of script st s e mem) start (offset_after start t) (token_move t (machine_of script st.machine s e mem))
    unfolding step state_of machine_of machine_from
    script_is {t} h =
        step_on_none (limits_of s e) script (state_of script st s e mem) (map (frame_of script) (slots 8 st.machine.frames e))
        (ap (map (frame_of script)) (no_slots 8 st.machine.frames e (omega arith)))
        ∙ ap (λ (n : ℕ). moved (limits_of s e) (state_of script st s e mem) n (offset_after n (take_token script n)) (token_move (take_token script n) (machine_of script st.machine s e mem))) (sym begins)
        ∙ ap (λ (u : Result Taken). moved (limits_of s e) (state_of script st s e mem) start (offset_after start u) (token_move u (machine_of script st.machine s e mem))) h

  -- Some slots: the topmost.
  module _ (z : st.machine.frames ≡ 0 → ⊥) where
    top : slots 8 st.machine.frames e
        ≡ (get_or e (8 * (st.machine.frames - 1)) 0, get_or e (8 * (st.machine.frames - 1) + 1) 0) ∷ slots 8 (st.machine.frames - 1) e
    top = top_slot 8 st.machine.frames e (omega arith)

    sound : All (SoundFrame script) ((get_or e (8 * (st.machine.frames - 1)) 0, get_or e (8 * (st.machine.frames - 1) + 1) 0) ∷ slots 8 (st.machine.frames - 1) e)
    sound = subst (All (SoundFrame script)) top R.rep.frames

    pub known : Known script (get_or e (8 * (st.machine.frames - 1) + 1) 0)
    known = all_head sound

    top_is : (f : Frame) → frame_of script (get_or e (8 * (st.machine.frames - 1)) 0, get_or e (8 * (st.machine.frames - 1) + 1) 0) ≡ f
        → step (limits_of s e) script (state_of script st s e mem)
        ≡ moved (limits_of s e) (state_of script st s e mem) st.at st.next (resume f (machine_from script (slots 2 st.machine.depth s) (slots 8 (st.machine.frames - 1) e) mem))
    unfolding step state_of machine_of machine_from with_exec
    top_is f h =
        step_on_some (limits_of s e) script (state_of script st s e mem) (map (frame_of script) (slots 8 st.machine.frames e))
        f (map (frame_of script) (slots 8 (st.machine.frames - 1) e))
        (ap (map (frame_of script)) top ∙ ap (λ (g : Frame). g ∷ map (frame_of script) (slots 8 (st.machine.frames - 1) e)) h)

    pending_is : get_or e (8 * (st.machine.frames - 1)) 0 ≡ 0
        → frame_of script (get_or e (8 * (st.machine.frames - 1)) 0, get_or e (8 * (st.machine.frames - 1) + 1) 0) ≡ pending (body_at script (get_or e (8 * (st.machine.frames - 1) + 1) 0))
    unfolding frame_of frame_as
    pending_is h = rw (eq-eqb (get_or e (8 * (st.machine.frames - 1)) 0) 0 h) refl

    running_is : (get_or e (8 * (st.machine.frames - 1)) 0 ≡ 0 → ⊥) → {xs : Items} → body_at script (get_or e (8 * (st.machine.frames - 1) + 1) 0) ≡ xs
        → frame_of script (get_or e (8 * (st.machine.frames - 1)) 0, get_or e (8 * (st.machine.frames - 1) + 1) 0) ≡ running xs
    unfolding frame_of frame_as
    running_is h k = rw (ne_eqb (get_or e (8 * (st.machine.frames - 1)) 0) 0 h) (ap running k)

    -- The topmost slot runs from `next` on.
    module _ (next : ℕ) (K : Known script next) {e₁ : List ℕ} (put : e₁ ≡ put_slot 8 (st.machine.frames - 1) 1 next e) where
      room : 8 * (st.machine.frames - 1) + 1 < length e
      room = let h = R.rep.exec_fits in omega arith

      runs : slots 8 st.machine.frames e₁ ≡ (1, next) ∷ slots 8 (st.machine.frames - 1) e
      runs = ap (slots 8 st.machine.frames) put ∙ put_last 8 st.machine.frames 1 next e (omega arith) (omega arith) room

      pub long : length e₁ ≡ length e
      long = ap length put ∙ length_put 8 (st.machine.frames - 1) 1 next e

      pub runs_rep : Rep script st.machine s e₁ mem
      runs_rep = record {
        stack_fits = R.rep.stack_fits;
        exec_fits = let h = R.rep.exec_fits in omega (arith, long);
        values = R.rep.values;
        frames = subst (All (SoundFrame script)) (sym runs) (cons K (all_tail sound));
        memory_slots_lem = R.rep.memory_slots_lem;
      }

      runs_is : enter (running (body_at script next)) (machine_from script (slots 2 st.machine.depth s) (slots 8 (st.machine.frames - 1) e) mem) ≡ machine_of script st.machine s e₁ mem
      unfolding machine_of
      runs_is =
          ran script next (slots 2 st.machine.depth s) (slots 8 (st.machine.frames - 1) e) mem
          ∙ ap (λ (fs : List Slot). machine_from script (slots 2 st.machine.depth s) fs mem) (sym runs)

-- ---- the four ways of a step

-- A token that cannot be read.
fault_moves : (script : List ℕ) (st : State) (s e mem : List ℕ) → ((token_move (fault SyntaxError) (machine_of script st.machine s e mem)).result >>= room_for (limits_of s e)) ≡ fault SyntaxError
unfolding token_move silent ◌>>=◌
fault_moves script st s e mem = refl

silent_command : (script : List ℕ) (st : State) (s e mem : List ℕ) → (token_move (fault SyntaxError) (machine_of script st.machine s e mem)).command ≡ []
unfolding token_move silent
silent_command script st s e mem = refl

module _ {script : List ℕ} {st : State} {s e mem : List ℕ} (R : Ready script st s e mem) where
  -- What `after` makes of the state.
  after_none : {τ : State} {m : Machine} (start next : ℕ) → st.machine.frames ≡ 0 → τ ≡ state_after st m start next → τ ≡ record { machine = m; next = next; at = start; steps = st.steps + 1 }
  unfolding state_after
  after_none start next z q = rw (eq-eqb st.machine.frames 0 z) at q

  after_some : {τ : State} {m : Machine} (start next : ℕ) → (st.machine.frames ≡ 0 → ⊥) → τ ≡ state_after st m start next → τ ≡ record { machine = m; next = st.next; at = st.at; steps = st.steps + 1 }
  unfolding state_after
  after_some start next z q = rw (ne_eqb st.machine.frames 0 z) at q

  place_none : {place : ℕ} → st.machine.frames ≡ 0 → place ≡ place_of st.machine.frames st.next e → place ≡ st.next
  unfolding place_of
  place_none z q = rw (eq-eqb st.machine.frames 0 z) at q

  place_some : {place : ℕ} → (st.machine.frames ≡ 0 → ⊥) → place ≡ place_of st.machine.frames st.next e → place ≡ get_or e (8 * (st.machine.frames - 1) + 1) 0
  unfolding place_of
  place_some z q = rw (ne_eqb st.machine.frames 0 z) at q

  pub pending_some : {t : Bool} → t ≡ is_pending st.machine.frames e → t ≡ true → (st.machine.frames ≡ 0 → ⊥)
  unfolding is_pending
  pending_some q h z = absurd (true≢false (sym h ∙ q ∙ rw (eq-eqb st.machine.frames 0 z) refl))

  kind_zero : {t : Bool} → t ≡ is_pending st.machine.frames e → t ≡ true → (st.machine.frames ≡ 0 → ⊥) → get_or e (8 * (st.machine.frames - 1)) 0 ≡ 0
  unfolding is_pending
  kind_zero q h z = eqb-true (get_or e (8 * (st.machine.frames - 1)) 0) 0 (sym (rw (ne_eqb st.machine.frames 0 z) at q) ∙ h)

  kind_other : {t : Bool} → t ≡ is_pending st.machine.frames e → t ≡ false → (st.machine.frames ≡ 0 → ⊥) → get_or e (8 * (st.machine.frames - 1)) 0 ≡ 0 → ⊥
  unfolding is_pending
  kind_other q h z = eqb-false (get_or e (8 * (st.machine.frames - 1)) 0) 0 (sym (rw (ne_eqb st.machine.frames 0 z) at q) ∙ h)

  without_none : st.machine.frames ≡ 0 → (start : ℕ)
      → without_item st start ≡ Err (record { error = SyntaxError; command = None; state = record { machine = st.machine; next = st.next; at = start; steps = st.steps + 1 } })
  unfolding without_item state_failed state_after
  without_none z start = rw (eq-eqb st.machine.frames 0 z) refl

  without_some : (st.machine.frames ≡ 0 → ⊥) → (start : ℕ)
      → without_item st start
      ≡ Ok (record { machine = record { depth = st.machine.depth; frames = st.machine.frames - 1 }; next = st.next; at = st.at; steps = st.steps + 1 })
  unfolding without_item state_after
  without_some z start = rw (ne_eqb st.machine.frames 0 z) refl

  -- The topmost slot goes.
  dropped : (st.machine.frames ≡ 0 → ⊥)
      → (((resume (running none) (machine_from script (slots 2 st.machine.depth s) (slots 8 (st.machine.frames - 1) e) mem)).result >>= room_for (limits_of s e))
      ≡ ok (machine_of script (record { depth = st.machine.depth; frames = st.machine.frames - 1 }) s e mem))
      × Rep script (record { depth = st.machine.depth; frames = st.machine.frames - 1 }) s e mem
  unfolding resume silent machine_of
  dropped z =
      let h = R.rep.exec_fits in
      went s e refl refl
      (record {
        stack_fits = R.rep.stack_fits;
        exec_fits = omega arith;
        values = R.rep.values;
        frames = all_tail (sound R z);
        memory_slots_lem = R.rep.memory_slots_lem;
      })
      refl

  -- A pending substack runs.
  module _ {t : Bool} (q : t ≡ is_pending st.machine.frames e) {place : ℕ} (at_place : place ≡ place_of st.machine.frames st.next e) where
    pub place_inside : place ≤ length script
    place_inside = either st.machine.frames
        (λ (z : st.machine.frames ≡ 0). let p = place_none z at_place in let h = R.inside in omega arith)
        (λ (z : st.machine.frames ≡ 0 → ⊥). let p = place_some z at_place in let h = (known R z).inside in omega arith)

    pub pending_steps : {τ : State} {e' : List ℕ} → t ≡ true → e' ≡ put_slot 8 (st.machine.frames - 1) 1 place e → τ ≡ state_after st st.machine place place
        → Steps script st s s e e' mem mem (Ok τ)
    unfolding resume silent
    pending_steps {τ} {e'} h p r =
        let z = pending_some q h in
        let k = kind_zero q h z in
        let put : e' ≡ put_slot 8 (st.machine.frames - 1) 1 (get_or e (8 * (st.machine.frames - 1) + 1) 0) e =
        p ∙ ap (λ (i : ℕ). put_slot 8 (st.machine.frames - 1) 1 i e) (place_some z at_place) in
        went_step script st s e mem R st.at st.next _ (top_is R z _ (pending_is R z k)) R.within R.inside st.machine τ
        (went s e refl (long R z _ (known R z) put) (runs_rep R z _ (known R z) put) (ap ok (runs_is R z _ (known R z) put)))
        (after_some place place z r)

    module _ (h : t ≡ false) (start : ℕ) (begins : start ≡ skip script place) where
      start_none : st.machine.frames ≡ 0 → start ≡ skip script st.next
      start_none z = begins ∙ ap (skip script) (place_none z at_place)

      start_some : (st.machine.frames ≡ 0 → ⊥) → skip script (get_or e (8 * (st.machine.frames - 1) + 1) 0) ≡ start
      start_some z = sym (begins ∙ ap (skip script) (place_some z at_place))

      -- There is no item.
      pub nothing_steps : {r : Stepped} → start ≤ length script → Nothing script start → r ≡ without_item st start → Steps script st s s e e mem mem r
      unfolding offset_after token_move
      nothing_steps {r} inside N w = either st.machine.frames none_way some_way
        where
          none_way : st.machine.frames ≡ 0 → Steps script st s s e e mem mem r
          none_way z =
              subst (Steps script st s s e e mem mem) (sym (w ∙ without_none z start))
              (failed_step script st s e mem R start start _ (script_is R z start (start_none z) N.fails) inside inside _ (fault_moves script st s e mem) refl refl (silent_command script st s e mem) tt refl)

          some_way : (st.machine.frames ≡ 0 → ⊥) → Steps script st s s e e mem mem r
          some_way z =
              subst (Steps script st s s e e mem mem) (sym (w ∙ without_some z start))
              (went_step script st s e mem R st.at st.next _ (top_is R z _ (running_is R z (kind_other q h z) (N.rest _ (start_some z) (known R z)))) R.within R.inside _ _
              (dropped z) refl)

      -- The item at `start` acts.
      module _ (i : Item) {next : ℕ} (T : Takes script start i next) {e₁ : List ℕ} (moves : e₁ ≡ moved_on st.machine.frames next e) where
        moved_none : st.machine.frames ≡ 0 → e₁ ≡ e
        unfolding moved_on
        moved_none z = rw (eq-eqb st.machine.frames 0 z) at moves

        moved_some : (st.machine.frames ≡ 0 → ⊥) → e₁ ≡ put_slot 8 (st.machine.frames - 1) 1 next e
        unfolding moved_on
        moved_some z = rw (ne_eqb st.machine.frames 0 z) at moves

        next_known : (st.machine.frames ≡ 0 → ⊥) → Known script next
        next_known z = (T.rest _ (start_some z) (known R z)).1

        pub moved_rep : Rep script st.machine s e₁ mem
        moved_rep = either st.machine.frames
            (λ (z : st.machine.frames ≡ 0). subst (λ (l : List ℕ). Rep script st.machine s l mem) (sym (moved_none z)) R.rep)
            (λ (z : st.machine.frames ≡ 0 → ⊥). runs_rep R z next (next_known z) (moved_some z))

        moved_long : length e₁ ≡ length e
        moved_long = either st.machine.frames
            (λ (z : st.machine.frames ≡ 0). ap length (moved_none z))
            (λ (z : st.machine.frames ≡ 0 → ⊥). long R z next (next_known z) (moved_some z))

        none_is : st.machine.frames ≡ 0
            → step (limits_of s e) script (state_of script st s e mem)
            ≡ moved (limits_of s e) (state_of script st s e mem) start next (treat (item_of script i) (machine_of script st.machine s e₁ mem))
        unfolding offset_after token_move taken
        none_is z =
            script_is R z start (start_none z) T.takes
            ∙ ap (λ (l : List ℕ). moved (limits_of s e) (state_of script st s e mem) start next (treat (item_of script i) (machine_of script st.machine s l mem))) (sym (moved_none z))

        some_is : (st.machine.frames ≡ 0 → ⊥)
            → step (limits_of s e) script (state_of script st s e mem)
            ≡ moved (limits_of s e) (state_of script st s e mem) st.at st.next (treat (item_of script i) (machine_of script st.machine s e₁ mem))
        unfolding resume
        some_is z =
            top_is R z _ (running_is R z (kind_other q h z) (T.rest _ (start_some z) (known R z)).0)
            ∙ ap (λ (m : Forf.Machine). moved (limits_of s e) (state_of script st s e mem) st.at st.next (treat (item_of script i) m)) (runs_is R z next (next_known z) (moved_some z))

        start_inside : start ≤ length script
        start_inside = let a = T.later in let b = T.inside in omega arith

        pub item_steps : {s' e' mem' : List ℕ} {m : Machine} {τ : State} → Acts script i st.machine s s' e₁ e' mem mem' (Ok m) → τ ≡ state_after st m start next
            → Steps script st s s' e e' mem mem' (Ok τ)
        item_steps {τ = τ} A r = either st.machine.frames
            (λ (z : st.machine.frames ≡ 0).
            item_went script st s e mem R start next _ (none_is z) start_inside T.inside i T.held e₁ moved_long moved_rep refl τ A (after_none start next z r))
            (λ (z : st.machine.frames ≡ 0 → ⊥).
            item_went script st s e mem R st.at st.next _ (some_is z) R.within R.inside i T.held e₁ moved_long moved_rep refl τ A (after_some start next z r))

        pub item_fails : {s' e' mem' : List ℕ} {x : Error} {τ : State} → Acts script i st.machine s s' e₁ e' mem mem' (Err x) → τ ≡ state_failed st start
            → Steps script st s s' e e' mem mem' (Err (record { error = x; command = command_of i; state = τ }))
        unfolding state_failed
        item_fails {τ = τ} A r = either st.machine.frames
            (λ (z : st.machine.frames ≡ 0).
            item_failed script st s e mem R start next _ (none_is z) start_inside T.inside i T.held e₁ moved_long moved_rep refl τ A (after_none start st.next z r))
            (λ (z : st.machine.frames ≡ 0 → ⊥).
            item_failed script st s e mem R st.at st.next _ (some_is z) R.within R.inside i T.held e₁ moved_long moved_rep refl τ A (after_some start st.next z r))

pub fails_as : {script : List ℕ} {st τ : State} {s s' e e' mem mem' : List ℕ} {x : Error} {c d : Command} → c ≡ d
    → Steps script st s s' e e' mem mem' (Err (record { error = x; command = d; state = τ })) → Steps script st s s' e e' mem mem' (Err (record { error = x; command = c; state = τ }))
fails_as {script} {st} {τ} {s} {s'} {e} {e'} {mem} {mem'} {x} q S = subst (λ (k : Command). Steps script st s s' e e' mem mem' (Err (record { error = x; command = k; state = τ }))) (sym q) S

pub pending_frames : {script : List ℕ} {st : State} {s e mem : List ℕ} → Ready script st s e mem → {t : Bool} → t ≡ is_pending st.machine.frames e → t ≡ true → 1 ≤ st.machine.frames
pending_frames R q h = let z = pending_some R q h in omega arith
