-- The words on items of any kind, and the two that make a substack pending.
-- Assumes nothing.
use mathlib.Core.Path.{◌≡◌, refl, sym, ap, ap₂, subst, ◌∙◌}
use mathlib.Core.Bool.{cond}
use mathlib.Core.List.{List, ◌∷◌}
use Prim.Native.Nat.{ℕ, zero, suc, ◌+◌, ◌-◌, ◌*◌, ◌≤◌, ◌<◌}
use native.Mathlib.Omega.{arith}
use lib.ListN.{length, get_or}
use lib.Dec.{eqb}
use borrow.Author.Tests.{eq-eqb, ne_eqb}
use Rattle.semantics.specs.Values.{ok, fault, ◌>>=◌}
use Rattle.semantics.specs.ListLaws.{All, cons}
use Rattle.forf_semantics.specs.Errors.{Result}
use Rattle.forf_semantics.specs.Machine.{int, body, pop1, pop2, pop3, push, enter, pending, with_stack, with_exec}
use Rattle.forf_semantics.specs.Machine as Forf
use Rattle.forf_semantics.specs.Operators.{if', ifelse, pop, dup, exch}
use Rattle.forf_semantics.specs.Steps.{room_for}
use Rattle.forf_semantics.specs.BodyLaws.{body_at}
use Rattle.forf_semantics.specs.declared.Error.TheVariants.{StackUnderflow, TypeCheck}
use Rattle.forf_machine.specs.Slots.{Slot, slots, put_slot}
use Rattle.forf_machine.specs.Rep.{value_of, SoundValue, machine_from, machine_of, Rep, limits_of}
use Rattle.forf_machine.specs.Does.{Acted, Answer, Does, Pushes, Pends}
use Rattle.forf_machine.specs.Operands.{int_of, offset_of}
use Rattle.forf_machine.specs.declared.Machine.{Machine}
use Rattle.std.specs.Prelude.{Ok, Err}
use Rattle.forf_machine.proofs.Slotting.{length_put, top_slot, top_slots, three_slots, put_top, put_last, all_tail, all_head}
use Rattle.forf_machine.proofs.Answering.{failed, went}
use Rattle.forf_machine.proofs.Operating.{int_is, body_is, int_yes, int_no, offset_yes, offset_no, lowered}

-- ---- too few operands

pop1_few : (script : List ℕ) (n : ℕ) (s : List ℕ) (fs : List Slot) (mem : List ℕ) → n < 1 → pop1 (machine_from script (slots 2 n s) fs mem) ≡ fault StackUnderflow
unfolding pop1 machine_from slots
pop1_few script zero s fs mem h = refl
pop1_few script (suc n) s fs mem h = absurd (omega arith)

pop2_few : (script : List ℕ) (n : ℕ) (s : List ℕ) (fs : List Slot) (mem : List ℕ) → n < 2 → pop2 (machine_from script (slots 2 n s) fs mem) ≡ fault StackUnderflow
unfolding pop2 machine_from slots
pop2_few script zero s fs mem h = refl
pop2_few script (suc zero) s fs mem h = refl
pop2_few script (suc (suc n)) s fs mem h = absurd (omega arith)

pop3_few : (script : List ℕ) (n : ℕ) (s : List ℕ) (fs : List Slot) (mem : List ℕ) → n < 3 → pop3 (machine_from script (slots 2 n s) fs mem) ≡ fault StackUnderflow
unfolding pop3 machine_from slots
pop3_few script zero s fs mem h = refl
pop3_few script (suc zero) s fs mem h = refl
pop3_few script (suc (suc zero)) s fs mem h = refl
pop3_few script (suc (suc (suc n))) s fs mem h = absurd (omega arith)

-- ---- items of any kind

module _ (m : Machine) (s e mem : List ℕ) where
  pop_few : (script : List ℕ) → m.depth < 1 → pop (machine_of script m s e mem) ≡ fault StackUnderflow
  unfolding pop machine_of ◌>>=◌
  pop_few script h = rw (pop1_few script m.depth s (slots 8 m.frames e) mem h) refl

  pub pop_fails : m.depth < 1 → Does pop m s s e e mem mem (Err StackUnderflow)
  pop_fails h = record { does = λ script R. (failed s e (pop_few script h), refl, refl) }

  pop_is : (script : List ℕ) → 1 ≤ m.depth → pop (machine_of script m s e mem) ≡ ok (machine_from script (slots 2 (m.depth - 1) s) (slots 8 m.frames e) mem)
  unfolding pop pop1 with_stack machine_of machine_from ◌>>=◌
  pop_is script h = rw (top_slot 2 m.depth s h) refl

  pub pop_done : (m' : Machine) → 1 ≤ m.depth → m' ≡ record { depth = m.depth - 1; frames = m.frames } → Does pop m s s e e mem mem (Ok m')
  pop_done m' h n = record {
    does = λ script R.
        let (same, R') = lowered R m' (ap (λ (x : Machine). x.frames) n) (m.depth - 1) (ap (λ (x : Machine). x.depth) n) (omega arith) R.memory_slots_lem in
        went s e refl refl R' (pop_is script h ∙ ap ok same);
  }

  dup_few : (script : List ℕ) → m.depth < 1 → dup (machine_of script m s e mem) ≡ fault StackUnderflow
  unfolding dup machine_of ◌>>=◌
  dup_few script h = rw (pop1_few script m.depth s (slots 8 m.frames e) mem h) refl

  pub dup_fails : m.depth < 1 → Does dup m s s e e mem mem (Err StackUnderflow)
  dup_fails h = record { does = λ script R. (failed s e (dup_few script h), refl, refl) }

  dup_is : (script : List ℕ) → 1 ≤ m.depth
      → dup (machine_of script m s e mem) ≡ ok (push (value_of script (get_or s (2 * (m.depth - 1)) 0, get_or s (2 * (m.depth - 1) + 1) 0)) (machine_of script m s e mem))
  unfolding dup pop1 push with_stack machine_of machine_from ◌>>=◌
  dup_is script h = rw (top_slot 2 m.depth s h) refl

  pub dup_done : {s' : List ℕ} {r : Acted} → 1 ≤ m.depth → Pushes m (get_or s (2 * (m.depth - 1)) 0) (get_or s (2 * (m.depth - 1) + 1) 0) s s' r → Does dup m s s' e e mem mem r
  dup_done {s'} {r} h P = record {
    does = λ script R.
        let sound = all_head (subst (All (SoundValue script)) (top_slot 2 m.depth s h) R.values) in
        subst (λ q. Answer script s s' e mem mem r (q >>= room_for (limits_of s e))) (sym (dup_is script h)) (P.pushes script e mem R sound);
  }

  exch_few : (script : List ℕ) → m.depth < 2 → exch (machine_of script m s e mem) ≡ fault StackUnderflow
  unfolding exch machine_of ◌>>=◌
  exch_few script h = rw (pop2_few script m.depth s (slots 8 m.frames e) mem h) refl

  pub exch_fails : m.depth < 2 → Does exch m s s e e mem mem (Err StackUnderflow)
  exch_fails h = record { does = λ script R. (failed s e (exch_few script h), refl, refl) }

  module _ (h : 2 ≤ m.depth) (fits : 2 * m.depth ≤ length s) {s₁ s' : List ℕ}
      (first : s₁ ≡ put_slot 2 (m.depth - 2) (get_or s (2 * (m.depth - 1)) 0) (get_or s (2 * (m.depth - 1) + 1) 0) s)
      (second : s' ≡ put_slot 2 (m.depth - 1) (get_or s (2 * (m.depth - 2)) 0) (get_or s (2 * (m.depth - 2) + 1) 0) s₁) where
    long : length s₁ ≡ length s
    long = ap length first ∙ length_put 2 (m.depth - 2) (get_or s (2 * (m.depth - 1)) 0) (get_or s (2 * (m.depth - 1) + 1) 0) s

    exchanged : slots 2 m.depth s'
        ≡ (get_or s (2 * (m.depth - 2)) 0, get_or s (2 * (m.depth - 2) + 1) 0) ∷ (get_or s (2 * (m.depth - 1)) 0, get_or s (2 * (m.depth - 1) + 1) 0) ∷ slots 2 (m.depth - 2) s
    exchanged =
        let i : m.depth - 1 ≡ suc (m.depth - 2) = omega arith in
        ap (slots 2 m.depth) second
        ∙ put_last 2 m.depth (get_or s (2 * (m.depth - 2)) 0) (get_or s (2 * (m.depth - 2) + 1) 0) s₁ (omega arith) (omega arith) (omega (arith, long))
        ∙ ap (λ (l : List Slot). (get_or s (2 * (m.depth - 2)) 0, get_or s (2 * (m.depth - 2) + 1) 0) ∷ l)
        (ap₂ (λ (j : ℕ) (t : List ℕ). slots 2 j t) i first
        ∙ put_top 2 (m.depth - 2) (get_or s (2 * (m.depth - 1)) 0) (get_or s (2 * (m.depth - 1) + 1) 0) s (omega arith) (omega arith))

    exch_is : (script : List ℕ) → exch (machine_of script m s e mem) ≡ ok (machine_of script m s' e mem)
    unfolding exch pop2 push with_stack machine_of machine_from ◌>>=◌
    exch_is script = rw (exchanged) (rw (top_slots 2 m.depth s h) refl)

    pub exch_done : Does exch m s s' e e mem mem (Ok m)
    exch_done = record {
      does = λ script R.
          let old = subst (All (SoundValue script)) (top_slots 2 m.depth s h) R.values in
          let same : length s' ≡ length s = ap length second ∙ length_put 2 (m.depth - 1) (get_or s (2 * (m.depth - 2)) 0) (get_or s (2 * (m.depth - 2) + 1) 0) s₁ ∙ long in
          went s e same refl
          (record {
            stack_fits = omega arith;
            exec_fits = R.exec_fits;
            values = subst (All (SoundValue script)) (sym exchanged) (cons (all_head (all_tail old)) (cons (all_head old) (all_tail (all_tail old))));
            frames = R.frames;
            memory_slots_lem = R.memory_slots_lem;
          })
          (exch_is script);
    }

-- ---- if and ifelse

if_slots : (script : List ℕ) (s x : Slot) (vs fs : List Slot) (mem : List ℕ)
    → if' (machine_from script (s ∷ x ∷ vs) fs mem)
    ≡ (int_of x >>= λ a. offset_of s >>= λ o. ok (cond (eqb a 0) (machine_from script vs fs mem) (enter (pending (body_at script o)) (machine_from script vs fs mem))))
unfolding if' pop2 with_stack enter with_exec machine_from ◌>>=◌
if_slots script s x vs fs mem = rw (int_is script x, body_is script s) (each (int_of x) (offset_of s))
  where
    each : (p q : Result ℕ) → (p >>= λ a. (q >>= λ o. ok (body_at script o)) >>= λ xs. ok (cond (eqb a 0) (machine_from script vs fs mem) (enter (pending xs) (machine_from script vs fs mem))))
        ≡ (p >>= λ a. q >>= λ o. ok (cond (eqb a 0) (machine_from script vs fs mem) (enter (pending (body_at script o)) (machine_from script vs fs mem))))
    each (ok a) (ok o) = refl
    each (ok a) (fault e) = refl
    each (fault e) q = refl

ifelse_slots : (script : List ℕ) (t s x : Slot) (vs fs : List Slot) (mem : List ℕ)
    → ifelse (machine_from script (t ∷ s ∷ x ∷ vs) fs mem)
    ≡ (int_of x >>= λ a. offset_of s >>= λ o. offset_of t >>= λ u. ok (enter (pending (cond (eqb a 0) (body_at script u) (body_at script o))) (machine_from script vs fs mem)))
unfolding ifelse pop3 with_stack enter with_exec machine_from ◌>>=◌
ifelse_slots script t s x vs fs mem = rw (int_is script x, body_is script s, body_is script t) (each (int_of x) (offset_of s) (offset_of t))
  where
    each : (p q r : Result ℕ) → (p >>= λ a. (q >>= λ o. ok (body_at script o)) >>= λ xs. (r >>= λ o. ok (body_at script o)) >>= λ ys. ok (enter (pending (cond (eqb a 0) ys xs)) (machine_from script vs fs mem)))
        ≡ (p >>= λ a. q >>= λ o. r >>= λ u. ok (enter (pending (cond (eqb a 0) (body_at script u) (body_at script o))) (machine_from script vs fs mem)))
    each (ok a) (ok o) (ok u) = refl
    each (ok a) (ok o) (fault e) = refl
    each (ok a) (fault e) r = refl
    each (fault e) q r = refl

-- A substack's slot says that it can be read.
pub known_top : {script : List ℕ} {t p : ℕ} → SoundValue script (t, p) → (t ≡ 0 → ⊥) → SoundValue script (1, p)
known_top K n = λ z. K n

module _ (m : Machine) (s e mem : List ℕ) where
  if_few : (script : List ℕ) → m.depth < 2 → if' (machine_of script m s e mem) ≡ fault StackUnderflow
  unfolding if' machine_of ◌>>=◌
  if_few script h = rw (pop2_few script m.depth s (slots 8 m.frames e) mem h) refl

  pub if_fails : m.depth < 2 → Does if' m s s e e mem mem (Err StackUnderflow)
  if_fails h = record { does = λ script R. (failed s e (if_few script h), refl, refl) }

  ifelse_few : (script : List ℕ) → m.depth < 3 → ifelse (machine_of script m s e mem) ≡ fault StackUnderflow
  unfolding ifelse machine_of ◌>>=◌
  ifelse_few script h = rw (pop3_few script m.depth s (slots 8 m.frames e) mem h) refl

  pub ifelse_fails : m.depth < 3 → Does ifelse m s s e e mem mem (Err StackUnderflow)
  ifelse_fails h = record { does = λ script R. (failed s e (ifelse_few script h), refl, refl) }

  module _ (h : 2 ≤ m.depth) where
    S : Slot
    S = (get_or s (2 * (m.depth - 1)) 0, get_or s (2 * (m.depth - 1) + 1) 0)

    X : Slot
    X = (get_or s (2 * (m.depth - 2)) 0, get_or s (2 * (m.depth - 2) + 1) 0)

    if_is : (script : List ℕ) (p q : Result ℕ) → int_of X ≡ p → offset_of S ≡ q
        → if' (machine_of script m s e mem)
        ≡ (p >>= λ a. q >>= λ o. ok (cond (eqb a 0) (machine_from script (slots 2 (m.depth - 2) s) (slots 8 m.frames e) mem)
        (enter (pending (body_at script o)) (machine_from script (slots 2 (m.depth - 2) s) (slots 8 m.frames e) mem))))
    unfolding machine_of S X
    if_is script p q f g =
        ap (λ (vs : List Slot). if' (machine_from script vs (slots 8 m.frames e) mem)) (top_slots 2 m.depth s h)
        ∙ if_slots script S X (slots 2 (m.depth - 2) s) (slots 8 m.frames e) mem
        ∙ rw (f, g) refl

    pub if_lower : (get_or s (2 * (m.depth - 2)) 0 ≡ 0 → ⊥) → Does if' m s s e e mem mem (Err TypeCheck)
    unfolding ◌>>=◌ X
    if_lower k = record { does = λ script R. (failed s e (if_is script _ _ (int_no X k) refl), refl, refl) }

    pub if_upper : get_or s (2 * (m.depth - 2)) 0 ≡ 0 → get_or s (2 * (m.depth - 1)) 0 ≡ 0 → Does if' m s s e e mem mem (Err TypeCheck)
    unfolding ◌>>=◌ X S
    if_upper k l = record { does = λ script R. (failed s e (if_is script _ _ (int_yes X k) (offset_no S l)), refl, refl) }

    module _ (k : get_or s (2 * (m.depth - 2)) 0 ≡ 0) (l : get_or s (2 * (m.depth - 1)) 0 ≡ 0 → ⊥) (m' : Machine)
        (n : m' ≡ record { depth = m.depth - 2; frames = m.frames }) where
      left : (script : List ℕ) → Rep script m s e mem
          → (machine_from script (slots 2 (m.depth - 2) s) (slots 8 m.frames e) mem ≡ machine_of script m' s e mem) × Rep script m' s e mem
      left script R = lowered R m' (ap (λ (x : Machine). x.frames) n) (m.depth - 2) (ap (λ (x : Machine). x.depth) n) (omega arith) R.memory_slots_lem

      pub if_false : get_or s (2 * (m.depth - 2) + 1) 0 ≡ 0 → Does if' m s s e e mem mem (Ok m')
      unfolding ◌>>=◌ X S
      if_false z = record {
        does = λ script R.
            let (same, R') = left script R in
            went s e refl refl R' (if_is script _ _ (int_yes X k) (offset_yes S l) ∙ rw (eq-eqb (get_or s (2 * (m.depth - 2) + 1) 0) 0 z) (ap ok same));
      }

      pub if_true : {e' : List ℕ} {r : Acted} → (get_or s (2 * (m.depth - 2) + 1) 0 ≡ 0 → ⊥) → Pends m' (get_or s (2 * (m.depth - 1) + 1) 0) e e' r → Does if' m s s e e' mem mem r
      unfolding ◌>>=◌ X S
      if_true {e'} {r} z P = record {
        does = λ script R.
            let (same, R') = left script R in
            let old = subst (All (SoundValue script)) (top_slots 2 m.depth s h) R.values in
            let is : if' (machine_of script m s e mem) ≡ ok (enter (pending (body_at script (get_or s (2 * (m.depth - 1) + 1) 0))) (machine_of script m' s e mem)) =
            if_is script _ _ (int_yes X k) (offset_yes S l) ∙ rw (ne_eqb (get_or s (2 * (m.depth - 2) + 1) 0) 0 z) (ap (λ (x : Forf.Machine). ok (enter (pending (body_at script (get_or s (2 * (m.depth - 1) + 1) 0))) x)) same) in
            subst (λ q. Answer script s s e' mem mem r (q >>= room_for (limits_of s e))) (sym is) (P.pends script s mem R' (known_top (all_head old) l));
      }

  module _ (h : 3 ≤ m.depth) where
    T' : Slot
    T' = (get_or s (2 * (m.depth - 1)) 0, get_or s (2 * (m.depth - 1) + 1) 0)

    S' : Slot
    S' = (get_or s (2 * (m.depth - 2)) 0, get_or s (2 * (m.depth - 2) + 1) 0)

    X' : Slot
    X' = (get_or s (2 * (m.depth - 3)) 0, get_or s (2 * (m.depth - 3) + 1) 0)

    ifelse_is : (script : List ℕ) (p q r : Result ℕ) → int_of X' ≡ p → offset_of S' ≡ q → offset_of T' ≡ r
        → ifelse (machine_of script m s e mem)
        ≡ (p >>= λ a. q >>= λ o. r >>= λ u. ok (enter (pending (cond (eqb a 0) (body_at script u) (body_at script o))) (machine_from script (slots 2 (m.depth - 3) s) (slots 8 m.frames e) mem)))
    unfolding machine_of T' S' X'
    ifelse_is script p q r f g i =
        ap (λ (vs : List Slot). ifelse (machine_from script vs (slots 8 m.frames e) mem)) (three_slots 2 m.depth s h)
        ∙ ifelse_slots script T' S' X' (slots 2 (m.depth - 3) s) (slots 8 m.frames e) mem
        ∙ rw (f, g, i) refl

    old : (script : List ℕ) → Rep script m s e mem → All (SoundValue script) (T' ∷ S' ∷ X' ∷ slots 2 (m.depth - 3) s)
    unfolding T' S' X'
    old script R = subst (All (SoundValue script)) (three_slots 2 m.depth s h) R.values

    pub ifelse_lowest : (get_or s (2 * (m.depth - 3)) 0 ≡ 0 → ⊥) → Does ifelse m s s e e mem mem (Err TypeCheck)
    unfolding ◌>>=◌ X'
    ifelse_lowest k = record { does = λ script R. (failed s e (ifelse_is script _ _ _ (int_no X' k) refl refl), refl, refl) }

    module _ (k : get_or s (2 * (m.depth - 3)) 0 ≡ 0) where
      pub ifelse_middle : get_or s (2 * (m.depth - 2)) 0 ≡ 0 → Does ifelse m s s e e mem mem (Err TypeCheck)
      unfolding ◌>>=◌ X' S'
      ifelse_middle l = record { does = λ script R. (failed s e (ifelse_is script _ _ _ (int_yes X' k) (offset_no S' l) refl), refl, refl) }

      module _ (l : get_or s (2 * (m.depth - 2)) 0 ≡ 0 → ⊥) where
        pub ifelse_top : get_or s (2 * (m.depth - 1)) 0 ≡ 0 → Does ifelse m s s e e mem mem (Err TypeCheck)
        unfolding ◌>>=◌ X' S' T'
        ifelse_top j = record { does = λ script R. (failed s e (ifelse_is script _ _ _ (int_yes X' k) (offset_yes S' l) (offset_no T' j)), refl, refl) }

        module _ (j : get_or s (2 * (m.depth - 1)) 0 ≡ 0 → ⊥) (m' : Machine) (n : m' ≡ record { depth = m.depth - 3; frames = m.frames }) {e' : List ℕ} {r : Acted} where
          chosen : (body : ℕ) → ((script : List ℕ) → Rep script m s e mem → SoundValue script (1, body))
              → ((script : List ℕ) → ifelse (machine_of script m s e mem) ≡ ok (enter (pending (body_at script body)) (machine_from script (slots 2 (m.depth - 3) s) (slots 8 m.frames e) mem)))
              → Pends m' body e e' r → Does ifelse m s s e e' mem mem r
          chosen body sound is P = record {
            does = λ script R.
                let (same, R') = lowered R m' (ap (λ (x : Machine). x.frames) n) (m.depth - 3) (ap (λ (x : Machine). x.depth) n) (omega arith) R.memory_slots_lem in
                subst (λ q. Answer script s s e' mem mem r (q >>= room_for (limits_of s e)))
                (sym (is script ∙ ap (λ (x : Forf.Machine). ok (enter (pending (body_at script body)) x)) same))
                (P.pends script s mem R' (sound script R));
          }

          pub ifelse_false : get_or s (2 * (m.depth - 3) + 1) 0 ≡ 0 → Pends m' (get_or s (2 * (m.depth - 1) + 1) 0) e e' r → Does ifelse m s s e e' mem mem r
          unfolding ◌>>=◌ X' S' T'
          ifelse_false z P =
              chosen (get_or s (2 * (m.depth - 1) + 1) 0) (λ script R. known_top (all_head (old script R)) j)
              (λ script. ifelse_is script _ _ _ (int_yes X' k) (offset_yes S' l) (offset_yes T' j) ∙ rw (eq-eqb (get_or s (2 * (m.depth - 3) + 1) 0) 0 z) refl) P

          pub ifelse_true : (get_or s (2 * (m.depth - 3) + 1) 0 ≡ 0 → ⊥) → Pends m' (get_or s (2 * (m.depth - 2) + 1) 0) e e' r → Does ifelse m s s e e' mem mem r
          unfolding ◌>>=◌ X' S' T'
          ifelse_true z P =
              chosen (get_or s (2 * (m.depth - 2) + 1) 0) (λ script R. known_top (all_head (all_tail (old script R))) l)
              (λ script. ifelse_is script _ _ _ (int_yes X' k) (offset_yes S' l) (offset_yes T' j) ∙ rw (ne_eqb (get_or s (2 * (m.depth - 3) + 1) 0) 0 z) refl) P
