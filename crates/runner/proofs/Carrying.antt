-- The start, the steps and the outcome, one after another, are the definition's run.
-- Assumes nothing.
use mathlib.Core.Path.{◌≡◌, refl, sym, ap, ◌∙◌, subst}
use mathlib.Core.List.{List, ◌++◌}
use Prim.Native.Nat.{ℕ, ◌+◌, ◌*◌, ◌/◌, ◌≤◌}
use native.Mathlib.Omega.{arith}
use lib.ListN.{length, get_or, take, drop, length-drop, take-append-drop}
use lib.Seq.{length-take-le, get_or-drop, ext_get_or}
use Rattle.semantics.specs.Sizes.{head_room, item_room}
use Rattle.semantics.specs.Machine as Floo
use Rattle.semantics.specs.Steps.{Limits, Run, run, start_of, initial}
use Rattle.semantics.specs.NameLaws.{name_count_lem}
use Rattle.semantics.specs.Outcome.{outcome}
use Rattle.semantics.specs.AsciiLaws.{Ascii}
use Rattle.semantics.specs.Setup.{limits}
use Rattle.semantics.specs.ObjectOperators.{pasted}
use Rattle.ending.specs.Endings.{ending_of}
use Rattle.ending.specs.declared.Ending.{Ending}
use Rattle.machine.specs.Places.{keys}
use Rattle.machine.specs.Rep.{Rep}
use Rattle.machine.specs.Room.{lent}
use Rattle.machine.specs.declared.Machine.{Machine}
use Rattle.text.specs.Writing.{Written}
use Rattle.start.specs.Begins.{Begins}
use Rattle.step.specs.Stepping.{state_of}
use Rattle.step.specs.declared.State.{State}
use Rattle.run_loop.specs.History.{moment, Ends, EndsFrom}
use Rattle.outcome.specs.Reports as reports
use Rattle.outcome.specs.Reports.{WritesOutcome}
use Rattle.outcome.proofs.Readable.{readable}
use Rattle.runner.specs.Promise.{lent_of, the_run, Lends, Ready, CarriesOut, Reaches, MayProceed, ProceedsFrom, Proceeds}
use Rattle.runner.specs.declared.Proceeded.{Proceeded}

-- ---- lists

-- What agrees from i on.
pub same_from : (a b : List ℕ) (i : ℕ) → length a ≡ length b → ((j : ℕ) → i ≤ j → get_or a j 0 ≡ get_or b j 0) → drop i a ≡ drop i b
same_from a b i q h =
    ext_get_or 0 (drop i a) (drop i b) (omega (arith, length-drop i a, length-drop i b, q))
    (λ j low. get_or-drop i a j 0 ∙ h (i + j) (omega arith) ∙ sym (get_or-drop i b j 0))

-- The first bytes are the text, and the others are as before.
written_first : (l l' t : List ℕ) (n : ℕ) → take n l' ≡ t → n ≤ length l' → drop n l' ≡ drop n l → Written 0 t l l' n
unfolding pasted
written_first l l' t n first low rest =
    let long : n ≡ 0 + length t = sym (length-take-le n l' low) ∙ ap length first ∙ omega arith in
    record {
      end = long;
      bytes = sym (take-append-drop n l') ∙ ap (λ x. x ++ drop n l') first ∙ ap (λ x. t ++ x) (rest ∙ ap (λ k. drop k l) long);
    }

-- Words of the same lengths are the same room.
room_is : (s s₁ e d d₁ c c₁ l o : List ℕ) → length s₁ ≡ length s → length d₁ ≡ length d → length c₁ ≡ length c → lent s₁ e d₁ c₁ l ≡ limits (lent_of s e d c l o)
unfolding limits lent
room_is s s₁ e d d₁ c c₁ l o ls ld lc = rw (ls, ld, lc) refl

-- ---- from any state

module _ {script : List ℕ} {fuel : ℕ} {st : State} {s e d c l o : List ℕ} (G : MayProceed script fuel st s e d c l o)
    {s' e' d' c' l' : List ℕ} {τ : State} {ending : Ending} (A : Ends script fuel st s s' e e' d d' c c' l l' τ ending) (ls : length s' ≡ length s) (ll : length l' ≡ length l) where
  pub writes : reports.Ready script τ.machine ending τ.at s' d' c' o
  writes =
      let E = A.ends G.begun.machine.0 G.begun.machine.1 in
      record {
        offset = omega (arith, E.within, G.begun.short);
        log_few = omega (arith, E.rep.logging.fits, ll, G.log);
        fits = subst (λ n. head_room + item_room * (n / 2) ≤ length o) (sym ls) G.outcome;
        exec = e';
        log = l';
        machine = E.machine;
        rep = E.rep;
        ends = E.named;
      }

  module _ {μ : Floo.Machine} (E : EndsFrom script fuel st μ s s' e e' d d' c c' l l' τ ending) where
    run_is : the_run script fuel (lent_of s e d c l o) (state_of st μ) ≡ record { ending = ending_of script (keys E.machine) ending; final = state_of τ E.machine }
    run_is = ap (λ (x : Limits). run x script fuel (state_of st μ)) (sym (room_is s s e d d c c l o refl refl refl)) ∙ E.runs

    from_one : {o' : List ℕ} {n : ℕ} → WritesOutcome script τ.machine ending τ.at τ.steps s' d' c' o o' n
        → ProceedsFrom script fuel st μ s s' e e' d d' c c' l l' o o'
        (record { report = record { steps = τ.steps; log = τ.machine.written; outcome = n; machine = τ.machine }; state = τ; ending = ending })
    from_one {o'} {n} W = record {
      ended = E;
      log = subst (λ (r : Run). Written 0 r.final.machine.log l l' τ.machine.written) (sym run_is)
          (written_first l l' E.machine.log τ.machine.written E.rep.logging.logged E.rep.logging.fits E.rest);
      outcome = subst (λ (r : Run). Written 0 (outcome r) o o' n) (sym run_is) (W.says e' l' E.machine τ.next E.rep);
      ascii = λ b. subst (λ (r : Run). Ascii (outcome r)) (sym run_is) (readable E.rep b ending τ.next τ.at τ.steps E.named);
      reported = (refl, refl);
    }

  pub proceeded : {o' : List ℕ} {n : ℕ} → WritesOutcome script τ.machine ending τ.at τ.steps s' d' c' o o' n
      → Proceeds script fuel st s s' e e' d d' c c' l l' o o'
      (record { report = record { steps = τ.steps; log = τ.machine.written; outcome = n; machine = τ.machine }; state = τ; ending = ending })
  proceeded W = record { proceeds = λ μ M. from_one (A.ends μ M) W }

-- ---- from a start

-- The small state at the start.
abbrev pub begun : Machine → State
begun m = record { machine = m; next = 0; at = 0; steps = 0 }

-- What was lent as s, d and c has become s₁, d₁ and c₁, which stand for a machine.
module _ {script : List ℕ} {fuel : ℕ} {s e d c l o : List ℕ} (G : Ready script fuel s e d c l o) {m : Machine} {s₁ d₁ c₁ : List ℕ} {μ : Floo.Machine} (M : Rep m s₁ e d₁ c₁ l μ)
    (ls : length s₁ ≡ length s) (ld : length d₁ ≡ length d) (lc : length c₁ ≡ length c) where
  pub starts : MayProceed script fuel (begun m) s₁ e d₁ c₁ l o
  starts = record {
    begun = record { short = G.short; fueled = omega (arith, G.fueled); inside = omega arith; within = omega arith; machine = (μ, M) };
    log = G.log;
    outcome = subst (λ n. head_room + item_room * (n / 2) ≤ length o) (sym ls) G.outcome;
  }

  room_lent : lent s₁ e d₁ c₁ l ≡ limits (lent_of s e d c l o)
  room_lent = room_is s s₁ e d d₁ c c₁ l o ls ld lc

  run_lent : the_run script fuel (lent_of s₁ e d₁ c₁ l o) (start_of μ) ≡ the_run script fuel (lent_of s e d c l o) (start_of μ)
  run_lent = ap (λ (x : Limits). run x script fuel (start_of μ)) (sym (room_is s₁ s₁ e d₁ d₁ c₁ c₁ l o refl refl refl) ∙ room_lent)

  module _ {s' e' d' c' l' o' : List ℕ} {r : Proceeded} (P : Proceeds script fuel (begun m) s₁ s' e e' d₁ d' c₁ c' l l' o o' r) where
    -- The machine at the end.
    pub ends_so : Reaches script fuel (start_of μ) s s' e e' d d' c c' l l' o r
    ends_so =
        let E = (P.proceeds μ M).ended in
        record { machine = E.machine; rep = E.rep; runs = ap (λ (x : Limits). run x script fuel (start_of μ)) (sym room_lent) ∙ E.runs }

    pub carried : {touched worked : ℕ} → Lends touched worked μ (moment (begun m) s₁ e d₁ c₁ l) s e d c l → CarriesOut script fuel (start_of μ) touched worked s s' e e' d d' c c' l l' o o' r.report
    carried L =
        let F = P.proceeds μ M in
        let E = F.ended in
        record {
          steps = F.reported.1 ∙ ap (λ (x : Run). x.final.steps) (sym ends_so.runs);
          log = subst (λ (x : Run). Written 0 x.final.machine.log l l' r.report.log) run_lent F.log;
          outcome = subst (λ (x : Run). Written 0 (outcome x) o o' r.report.outcome) run_lent F.outcome;
          first = moment (begun m) s₁ e d₁ c₁ l;
          last = moment E.last s' e' d' c' l';
          lends = L;
          holds = (refl, refl, refl, refl, refl);
          history = E.history;
          room = room_lent;
          ascii = λ b. subst (λ (x : Run). Ascii (outcome x)) run_lent (F.ascii b);
          state = (E.same.0 ∙ sym F.reported.0, E.same.1 ∙ sym F.reported.1);
        }

-- ---- from the start of a script

module _ {script : List ℕ} {fuel : ℕ} {s e d c l o : List ℕ} (G : Ready script fuel s e d c l o) {m : Machine} {d₁ : List ℕ} (B : Begins d d₁ c m) (long : length d₁ ≡ length d) where
  stands : Rep m s e d₁ c l initial.machine
  stands = B.stands s e l (omega (arith, G.stack)) (omega (arith, G.exec))

  -- The words after the predefined names.
  after_names : drop (12 * length initial.machine.dictionary) d₁ ≡ drop (12 * length initial.machine.dictionary) d
  unfolding initial
  after_names = same_from d₁ d (12 * length initial.machine.dictionary) long (λ j low. B.kept j (omega (arith, name_count_lem, low)))

  pub begins : MayProceed script fuel (begun m) s e d₁ c l o
  begins = starts G stands refl long refl

  pub begun_so : {s' e' d' c' l' o' : List ℕ} {r : Proceeded} → Proceeds script fuel (begun m) s s' e e' d₁ d' c c' l l' o o' r
      → CarriesOut script fuel initial 0 0 s s' e e' d d' c c' l l' o o' r.report
  unfolding initial
  begun_so P = carried G stands refl long refl P (record { stack = refl; exec = refl; dict = after_names; cells = refl; log = refl; lengths = (refl, refl, long, refl, refl) })
