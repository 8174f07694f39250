-- A stored name is pushed by its word: null goes first, and the name takes its place. errorname and command push the one and the other.
-- Assumes nothing.
use Rattle.std.specs.Prelude.{Ok, Err}
use mathlib.Core.Path.{◌≡◌, refl, sym, ap, ◌∙◌, subst}
use mathlib.Core.List.{List, ◌∷◌}
use mathlib.Core.Option.{Option, none, some}
use Prim.Native.Nat.{ℕ, suc, ◌+◌, ◌-◌, ◌*◌, ◌/◌, ◌≤◌, ◌<◌}
use native.Mathlib.Omega.{arith}
use lib.ListN.{length, get_elem?}
use Rattle.semantics.specs.Sizes.{operator_count}
use Rattle.semantics.specs.Text.{bytes, textual}
use Rattle.semantics.specs.Values.{Result, null, ◌>>=◌}
use Rattle.semantics.specs.Machine as Floo
use Rattle.semantics.specs.Machine.{with_stack, push, name_or_null}
use Rattle.semantics.specs.Operators.{perform, find, table, ◌is◌}
use Rattle.semantics.specs.ControlOperators.{errorname, command}
use Rattle.semantics.specs.Steps.{room_for}
use Rattle.semantics.specs.declared.Error.TheVariants.{StackOverflow}
use Rattle.machine.specs.Words.{latest_error, latest_command}
use Rattle.machine.specs.Places.{keys}
use Rattle.machine.specs.Operands.{a_null, Pushes}
use Rattle.machine.specs.Rep.{Rep, Noted, nothing, noted}
use Rattle.machine.specs.Room.{lent, fitted}
use Rattle.machine.specs.declared.Machine.{Machine}
use Rattle.machine.specs.Answers.{Did}
use Rattle.machine.proofs.Outcomes.{stack_depth}
use Rattle.machine.proofs.Rooms.{room_stack, rep_passes, dictionary_fits, exec_fits}
use Rattle.dictionary.specs.Bindings.{NamedStack, PutsName}
use Rattle.handlers.proofs.Setting.{rows_room}
use Rattle.dictionary_operators.specs.Promises.{Represented, DoesDictionary}
use Rattle.error_operators.specs.Noting.{noted_pushed, NotedStack, PushesNoted}

-- ---- the word of a stored name

-- 0 for none, else one more than the name's slot.
noted_none : {names : List (List ℕ)} {o : Option (List ℕ)} {w : ℕ} → Noted names o w → w ≡ 0 → o ≡ none
noted_none nothing z = refl
noted_none (noted h) z = absurd (omega arith)

noted_some : {names : List (List ℕ)} {o : Option (List ℕ)} {w : ℕ} → Noted names o w → (w ≡ 0 → ⊥) → (n : List ℕ) × (o ≡ some n) × (get_elem? names (w - 1) ≡ some n)
noted_some nothing z = absurd (z refl)
noted_some {names} (noted {k = k} {n = n} h) z =
    let place : k ≡ suc k - 1 = omega arith in
    (n, refl, subst (λ x. get_elem? names x ≡ some n) place h)

-- ---- push_noted

module _ {w : ℕ} {m : Machine} {s c : List ℕ} where
  pub noted_over : length s < 2 * m.depth + 2 → PushesNoted w m s s c c (Err StackOverflow)
  unfolding noted_pushed fitted lent push with_stack ◌>>=◌
  noted_over over = record {
    does = λ e d l μ R o N.
        let deep : length s / 2 < length (name_or_null o ∷ μ.stack) = omega (arith, stack_depth R) in
        (room_stack (lent s e d c l) μ (push (name_or_null o) μ) (dictionary_fits R) (exec_fits R) deep, (refl, refl));
  }

  -- What is pushed fits.
  passes : {r : Machine} {s' c' : List ℕ}
      → length s' ≡ length s
      → ((e d l : List ℕ) (μ : Floo.Machine) → Rep m s e d c l μ → (o : Option (List ℕ)) → Noted (keys μ) o w → Rep r s' e d c' l (push (name_or_null o) μ))
      → PushesNoted w m s s' c c' (Ok r)
  unfolding noted_pushed fitted push with_stack ◌>>=◌
  passes long h = record { does = λ e d l μ R o N. let after = h e d l μ R o N in (push (name_or_null o) μ, rep_passes after μ s c long refl, after) }

  module _ {r : Machine} {s' : List ℕ} (P : Pushes 0 0 m r s s') where
    pub noted_null : w ≡ 0 → length s' ≡ length s → PushesNoted w m s s' c c (Ok r)
    unfolding name_or_null
    noted_null z long =
        passes long
        (λ e d l μ R o N. subst (λ x. Rep r s' e d c l (push (name_or_null x) μ)) (sym (noted_none N z)) (P.does a_null e d c l μ R))

    module _ (z : w ≡ 0 → ⊥) where
      pub noted_named : NotedStack w m s c → NamedStack (w - 1) r s' c
      unfolding push with_stack
      noted_named (e, d, l, μ, o, N, R) =
          let x = noted_some N z in
          (e, d, l, push null μ, x.0, x.2, P.does a_null e d c l μ R)

      pub noted_name : {r' : Machine} {s'' c' : List ℕ} → PutsName (w - 1) 0 r r' s' s'' c c' → length s'' ≡ length s → PushesNoted w m s s'' c c' (Ok r')
      unfolding push with_stack name_or_null
      noted_name {r'} {s''} {c'} Q long =
          passes long
          (λ e d l μ R o N.
          let x = noted_some N z in
          subst (λ y. Rep r' s'' e d c' l (push (name_or_null y) μ)) (sym x.1) (Q.moves e d l (push null μ) (P.does a_null e d c l μ R) x.0 x.2))

-- ---- errorname and command

-- What pushes the name that is stored in a word, in each machine that the words stand for.
latest_pushed : {f : Floo.Machine → Result Floo.Machine} {w : ℕ} {m : Machine} {s s' d c c' : List ℕ} (r : Did)
    → ((e l : List ℕ) (μ : Floo.Machine) → Rep m s e d c l μ → (o : Option (List ℕ)) × Noted (keys μ) o w × (f μ ≡ noted_pushed o μ))
    → PushesNoted w m s s' c c' r
    → DoesDictionary f m s s' d d c c' r
unfolding fitted
latest_pushed {s = s} {d = d} {c = c} (Err x) h P = record {
  does = λ e l μ R.
      let o = h e l μ R in
      let a = P.does e d l μ R o.0 o.1 in
      (ap (λ q. q >>= room_for (lent s e d c l) μ) o.2 ∙ a.0, (a.1.0, refl, a.1.1));
}
latest_pushed {s = s} {d = d} {c = c} (Ok r) h P = record {
  does = λ e l μ R.
      let o = h e l μ R in
      let a = P.does e d l μ R o.0 o.1 in
      (a.0, ap (λ q. q >>= room_for (lent s e d c l) μ) o.2 ∙ a.1, a.2);
}

errorname_is : (μ : Floo.Machine) → perform (bytes "errorname") μ ≡ noted_pushed μ.latest.errorname μ
unfolding textual perform find table ◌is◌ errorname noted_pushed
errorname_is μ = refl

command_is : (μ : Floo.Machine) → perform (bytes "command") μ ≡ noted_pushed μ.latest.command μ
unfolding textual perform find table ◌is◌ command noted_pushed
command_is μ = refl

module _ {m : Machine} {s d c : List ℕ} where
  pub latest_room : Represented m s d c → 12 * operator_count ≤ length d
  latest_room (e, l, μ, R) = rows_room R

  pub errorname_stored : Represented m s d c → NotedStack (latest_error d) m s c
  errorname_stored (e, l, μ, R) = (e, d, l, μ, μ.latest.errorname, R.handled.errorname, R)

  pub command_stored : Represented m s d c → NotedStack (latest_command d) m s c
  command_stored (e, l, μ, R) = (e, d, l, μ, μ.latest.command, R.handled.command, R)

  module _ {s' c' : List ℕ} {r : Did} where
    pub errorname_pushed : PushesNoted (latest_error d) m s s' c c' r → DoesDictionary (perform (bytes "errorname")) m s s' d d c c' r
    errorname_pushed = latest_pushed r (λ e l μ R. (μ.latest.errorname, R.handled.errorname, errorname_is μ))

    pub command_pushed : PushesNoted (latest_command d) m s s' c c' r → DoesDictionary (perform (bytes "command")) m s s' d d c c' r
    command_pushed = latest_pushed r (λ e l μ R. (μ.latest.command, R.handled.command, command_is μ))
