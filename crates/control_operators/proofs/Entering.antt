-- Operators that put their topmost operand into an execution slot and take the others, which name no object, away.
-- Assumes nothing.
use Rattle.std.specs.Prelude.{Ok, Err}
use mathlib.Core.Path.{◌≡◌, refl, ap, ◌∙◌, subst}
use mathlib.Core.List.{List, [], ◌∷◌, ◌++◌}
use Prim.Native.Nat.{ℕ, suc, ◌+◌, ◌*◌, ◌^◌, ◌≤◌, ◌<◌}
use native.Mathlib.Omega.{arith}
use lib.ListN.{length, get_or, drop}
use Rattle.semantics.specs.Text.{bytes}
use Rattle.semantics.specs.Values.{Value, integer, null, Result, ok, fault, ◌>>=◌, int}
use Rattle.semantics.specs.Words.{signed}
use Rattle.semantics.specs.Machine as Floo
use Rattle.semantics.specs.Machine.{Frame, repeating, counting, with_stack, with_exec, enter}
use Rattle.semantics.specs.ListLaws.{All, nil}
use Rattle.semantics.specs.Operators.{perform}
use Rattle.semantics.specs.ControlOperators.{repeat, for}
use Rattle.semantics.specs.declared.Error.{Error}
use Rattle.semantics.specs.declared.Error.TheVariants.{StackUnderflow, TypeCheck, RangeCheck, ExecStackOverflow}
use Rattle.store.proofs.Standing.{is_integer}
use Rattle.word.proofs.Words.{word_signed}
use Rattle.machine.specs.Words.{item_tag, item_payload}
use Rattle.machine.specs.Places.{Nameless}
use Rattle.machine.specs.Rep.{Rep, IsIn, Items}
use Rattle.machine.specs.Room.{lent}
use Rattle.machine.specs.declared.Machine.{Machine}
use Rattle.machine.proofs.Items.{items_length, items_below}
use Rattle.machine.proofs.Operands.{Top, top, pop1_some, pop2_some, stands_no_integer, upper, lower, both, pop1_under, pop2_under}
use Rattle.machine.proofs.Stacking.{at_depth, restack}
use Rattle.frames.specs.Moves.{Shaped, Enters, entered}
use Rattle.control_operators.specs.Promises.{DoesSlots, Forgets}
use Rattle.machine.proofs.Rooms.{fitted_fails}
use Rattle.word.proofs.Counts.{count_low, count_high}
use Rattle.control_operators.proofs.Popping.{pop4_short, pop4_some}
use Rattle.control_operators.proofs.Promising.{fit_full, fit_ok}
use Rattle.control_operators.proofs.Named.{entering, repeat_is, for_is}

-- ---- items that name no object go

pub forget_rep : {m : Machine} {n k : ℕ} → m.depth ≡ k + n → Forgets n m (at_depth k m)
forget_rep {m} {n} {k} h =
    record {
      moves = λ old rest len nameless s e d c l μ split R.
          let items = subst (λ x. Items (IsIn R.world μ) s m.depth x) split R.items in
          restack R s k old [] rest split nameless nil refl (omega (arith, R.rooms.stack_fits)) (items_below old k (omega arith) items);
    }

pub forget_none : {m : Machine} → Forgets 0 m m
unfolding with_stack
forget_none {m} = record { moves = λ old rest len nameless s e d c l μ split R. by old rest len s e d c l μ split R }
  where
    by : (old rest : List Value) → length old ≡ 0 → (s e d c l : List ℕ) (μ : Floo.Machine) → μ.stack ≡ old ++ rest → Rep m s e d c l μ → Rep m s e d c l (with_stack rest μ)
    by [] rest len s e d c l μ split R = subst (λ x. Rep m s e d c l (with_stack x μ)) split R
    by (v ∷ old) rest len s e d c l μ split R = absurd (omega arith)

-- ---- the shape

-- On this machine f puts the topmost operand into a slot and takes the old ones away.
pub record Into (f : Floo.Machine → Result Floo.Machine) (g : Value → Frame) (old : List Value) (μ : Floo.Machine) : Type 0 where
  pub value : Value
  pub rest : List Value
  pub split : μ.stack ≡ value ∷ old ++ rest
  pub gives : f μ ≡ ok (enter (g value) (with_stack rest μ))

module _ {f : Floo.Machine → Result Floo.Machine} {m : Machine} {s e : List ℕ} where
  pub slots_fault : {x : Error} → ((d c l : List ℕ) (μ : Floo.Machine) → Rep m s e d c l μ → f μ ≡ fault x) → DoesSlots f m s e e (Err x)
  slots_fault q = record { does = λ d c l μ R. (fitted_fails (lent s e d c l) f μ (q d c l μ R), refl) }

  module _ {g : Value → Frame} {old : List Value} (into : (d c l : List ℕ) (μ : Floo.Machine) → Rep m s e d c l μ → Into f g old μ) where
    pub into_full : length e < 8 * m.frames + 8 → DoesSlots f m s e e (Err ExecStackOverflow)
    into_full full = record { does = λ d c l μ R. (fit_full f s e d c l μ R full _ _ (into d c l μ R).gives, refl) }

    module _ {kind a b c₀ : ℕ} {r r' : Machine} {e' : List ℕ} (shape : Shaped g kind a b c₀) (E : Enters kind a b c₀ m r s e e')
        (F : Forgets (length old) r r') (nameless : All Nameless old) where
      into_rep : (d c l : List ℕ) (μ : Floo.Machine) (R : Rep m s e d c l μ)
          → Rep r' s e' d c l (enter (g (into d c l μ R).value) (with_stack (into d c l μ R).rest μ))
      unfolding entered enter with_stack with_exec
      into_rep d c l μ R =
          let x = into d c l μ R in
          subst (λ v. Rep r' s e' d c l (enter (g (get_or v 0 null)) (with_stack x.rest μ))) x.split
          (F.moves old x.rest refl nameless s e' d c l (entered g μ) (ap (drop 1) x.split) (E.moves shape d c l μ R))

      pub into_done : length e' ≡ length e → DoesSlots f m s e e' (Ok r')
      unfolding enter with_stack with_exec
      into_done long =
          record {
            does = λ d c l μ R.
                let R' = into_rep d c l μ R in
                (enter (g (into d c l μ R).value) (with_stack (into d c l μ R).rest μ), fit_ok f s e d c l μ R' (into d c l μ R).gives refl long refl, R');
          }

-- ---- exec and loop: the body alone

module _ (g : Value → Frame) {f : Floo.Machine → Result Floo.Machine} (is : (μ : Floo.Machine) → f μ ≡ entering g μ)
    {m : Machine} {s e : List ℕ} where
  pub alone_under : m.depth < 1 → DoesSlots f m s e e (Err StackUnderflow)
  unfolding ◌>>=◌
  alone_under h = slots_fault (λ d c l μ R. is μ ∙ ap (λ t. t >>= λ p. ok (enter (g p.0) p.1)) (pop1_under μ (omega (arith, items_length R.items))))

  pub alone_into : (k : ℕ) → m.depth ≡ suc k → (d c l : List ℕ) (μ : Floo.Machine) → Rep m s e d c l μ → Into f g [] μ
  unfolding ◌>>=◌
  alone_into k h d c l μ R =
      let x = top R.items k h in
      record {
        value = x.value;
        rest = x.rest;
        split = x.split;
        gives = is μ ∙ ap (λ t. t >>= λ p. ok (enter (g p.0) p.1)) (pop1_some μ x.split);
      }

-- ---- repeat

module _ {m : Machine} {s e d c l : List ℕ} {μ : Floo.Machine} (R : Rep m s e d c l μ) where
  pub repeat_under : m.depth < 2 → perform (bytes "repeat") μ ≡ fault StackUnderflow
  unfolding repeat ◌>>=◌
  repeat_under h = repeat_is μ ∙ rw (pop2_under μ (omega (arith, items_length R.items))) refl

  module _ (k : ℕ) (h : m.depth ≡ suc (suc k)) where
    pub repeat_type : (item_tag s k ≡ 1 → ⊥) → perform (bytes "repeat") μ ≡ fault TypeCheck
    unfolding repeat ◌>>=◌
    repeat_type n = repeat_is μ ∙ rw (pop2_some μ (both R k (suc k) h refl), stands_no_integer (lower R k (suc k) h refl).words.stands n) refl

    module _ (i : item_tag s k ≡ 1) where
      counted : μ.stack ≡ (upper R k (suc k) h refl).value ∷ integer (item_payload s k) ∷ (lower R k (suc k) h refl).rest
      counted = both R k (suc k) h refl ∙ ap (λ v. (upper R k (suc k) h refl).value ∷ v ∷ (lower R k (suc k) h refl).rest) (is_integer (lower R k (suc k) h refl).words.stands i)

      pub repeat_range : 2 ^ 31 ≤ item_payload s k → item_payload s k < 2 ^ 32 → perform (bytes "repeat") μ ≡ fault RangeCheck
      unfolding repeat ◌>>=◌ int
      repeat_range l b = repeat_is μ ∙ rw (pop2_some μ counted, count_high (item_payload s k) l b) refl

      pub repeat_into : {w : ℕ} → w ≡ item_payload s k → w < 2 ^ 31 → Into (perform (bytes "repeat")) (repeating w) (integer w ∷ []) μ
      unfolding repeat ◌>>=◌ int
      repeat_into e l =
          record {
            value = (upper R k (suc k) h refl).value;
            rest = (lower R k (suc k) h refl).rest;
            split = rw e counted;
            gives = repeat_is μ ∙ rw (pop2_some μ counted, count_low (item_payload s k) (omega (arith, e)), e) refl;
          }

-- ---- for

module _ {m : Machine} {s e d c l : List ℕ} {μ : Floo.Machine} (R : Rep m s e d c l μ) where
  pub for_under : m.depth < 4 → perform (bytes "for") μ ≡ fault StackUnderflow
  unfolding for ◌>>=◌
  for_under h = for_is μ ∙ rw (pop4_short μ (omega (arith, items_length R.items))) refl

  -- The places of the initial number, the increment and the final one.
  module _ (x y z : ℕ) (h : m.depth ≡ suc (suc z)) (hz : z ≡ suc y) (hy : y ≡ suc x) where
    last : Top (IsIn R.world μ) s (suc z) μ.stack
    last = top R.items (suc z) h

    third : Top (IsIn R.world μ) s z last.rest
    third = top last.below z refl

    second : Top (IsIn R.world μ) s y third.rest
    second = top third.below y hz

    first : Top (IsIn R.world μ) s x second.rest
    first = top second.below x hy

    four : μ.stack ≡ last.value ∷ third.value ∷ second.value ∷ first.value ∷ first.rest
    four = last.split ∙ ap (λ r. last.value ∷ r) (third.split ∙ ap (λ r. third.value ∷ r) (second.split ∙ ap (λ r. second.value ∷ r) first.split))

    pub for_type1 : (item_tag s x ≡ 1 → ⊥) → perform (bytes "for") μ ≡ fault TypeCheck
    unfolding for ◌>>=◌
    for_type1 n = for_is μ ∙ rw (pop4_some μ four, stands_no_integer first.words.stands n) refl

    module _ (i : item_tag s x ≡ 1) where
      pub for_type2 : (item_tag s y ≡ 1 → ⊥) → perform (bytes "for") μ ≡ fault TypeCheck
      unfolding for ◌>>=◌ int
      for_type2 n = for_is μ ∙ rw (pop4_some μ four, is_integer first.words.stands i, stands_no_integer second.words.stands n) refl

      module _ (j : item_tag s y ≡ 1) where
        pub for_type3 : (item_tag s z ≡ 1 → ⊥) → perform (bytes "for") μ ≡ fault TypeCheck
        unfolding for ◌>>=◌ int
        for_type3 n =
            for_is μ
            ∙ rw (pop4_some μ four, is_integer first.words.stands i, is_integer second.words.stands j, stands_no_integer third.words.stands n) refl

        module _ (q : item_tag s z ≡ 1) where
          numbered : μ.stack ≡ last.value ∷ integer (item_payload s z) ∷ integer (item_payload s y) ∷ integer (item_payload s x) ∷ first.rest
          numbered =
              four ∙ rw (is_integer first.words.stands i, is_integer second.words.stands j, is_integer third.words.stands q) refl

          pub for_into : {a b g : ℕ}
              → a ≡ item_payload s x
              → b ≡ item_payload s y
              → g ≡ item_payload s z
              → b < 2 ^ 32
              → g < 2 ^ 32
              → Into (perform (bytes "for")) (counting (signed a) b g) (integer g ∷ integer b ∷ integer a ∷ []) μ
          unfolding for ◌>>=◌ int
          for_into ea eb eg lb lg =
              record {
                value = last.value;
                rest = first.rest;
                split = rw (ea, eb, eg) numbered;
                gives =
                    for_is μ
                    ∙ rw (pop4_some μ numbered, word_signed (item_payload s y) (omega (arith, eb)), word_signed (item_payload s z) (omega (arith, eg)), ea, eb, eg) refl;
              }
