-- The words on slots: what each gives of the machine that the slots stand for, and which slots the code leaves.
-- Assumes nothing.
use mathlib.Core.Path.{◌≡◌, refl, sym, ap, ap₂, subst, ◌∙◌}
use mathlib.Core.Bool.{Bool, true, false}
use mathlib.Core.List.{List, [], ◌∷◌}
use mathlib.Core.Logic.{⊎_elim}
use Prim.Native.Nat.{ℕ, zero, suc, ◌+◌, ◌-◌, ◌*◌, ◌≤◌, ◌<◌}
use native.Mathlib.Nat.{eq-or-lt_of_le}
use native.Mathlib.Omega.{arith}
use lib.ListN.{length, get_or, set, drop, length-set}
use lib.Dec.{eqb, ltb}
use borrow.Author.Tests.{eq-eqb, ne_eqb, lt-ltb, le-ltb}
use Rattle.semantics.specs.Values.{ok, fault, ◌>>=◌, check}
use Rattle.semantics.specs.ResultLaws.{fault_ok}
use Rattle.semantics.specs.ListLaws.{All, cons}
use Rattle.forf_semantics.specs.Errors.{Result}
use Rattle.forf_semantics.specs.Machine.{int, body, pop1, pop2, push, with_stack, with_memory}
use Rattle.forf_semantics.specs.Operators.{Operator, unary, slot, mset, mget}
use Rattle.forf_semantics.specs.BodyLaws.{body_at}
use Rattle.forf_semantics.specs.declared.Error.{Error}
use Rattle.forf_semantics.specs.declared.Error.TheVariants.{StackUnderflow, TypeCheck, RangeCheck}
use Rattle.forf_machine.specs.Slots.{Slot, slots, put_slot}
use Rattle.forf_machine.specs.Rep.{value_as, value_of, SoundValue, SoundFrame, machine_from, machine_of, Rep}
use Rattle.forf_machine.specs.Does.{Does}
use Rattle.forf_machine.specs.Steps.{TwoShape}
use Rattle.forf_machine.specs.Operands.{int_as, int_of, offset_as, offset_of, one_int, two_ints, result_of}
use Rattle.forf_machine.specs.declared.Machine.{Machine}
use Rattle.std.specs.Prelude.{Ok, Err}
use Rattle.std.specs.Prelude as std
use Rattle.forf_machine.proofs.Slotting.{length_put, no_slots, top_slot, top_slots, put_top, all_tail}
use Rattle.forf_machine.proofs.Answering.{failed, went}

-- ---- operands

int_as_lem : (script : List ℕ) (b : Bool) (p : ℕ) → int (value_as script b p) ≡ int_as b p
unfolding int value_as int_as
int_as_lem script true p = refl
int_as_lem script false p = refl

pub int_is : (script : List ℕ) (x : Slot) → int (value_of script x) ≡ int_of x
unfolding value_of int_of
int_is script x = int_as_lem script (eqb x.0 0) x.1

body_as : (script : List ℕ) (b : Bool) (p : ℕ) → body (value_as script b p) ≡ (offset_as b p >>= λ o. ok (body_at script o))
unfolding body value_as offset_as ◌>>=◌
body_as script true p = refl
body_as script false p = refl

pub body_is : (script : List ℕ) (x : Slot) → body (value_of script x) ≡ (offset_of x >>= λ o. ok (body_at script o))
unfolding value_of offset_of
body_is script x = body_as script (eqb x.0 0) x.1

pub int_yes : (x : Slot) → x.0 ≡ 0 → int_of x ≡ ok x.1
unfolding int_of int_as
int_yes x e = rw (eq-eqb x.0 0 e) refl

pub int_no : (x : Slot) → (x.0 ≡ 0 → ⊥) → int_of x ≡ fault TypeCheck
unfolding int_of int_as
int_no x n = rw (ne_eqb x.0 0 n) refl

pub offset_yes : (x : Slot) → (x.0 ≡ 0 → ⊥) → offset_of x ≡ ok x.1
unfolding offset_of offset_as
offset_yes x n = rw (ne_eqb x.0 0 n) refl

pub offset_no : (x : Slot) → x.0 ≡ 0 → offset_of x ≡ fault TypeCheck
unfolding offset_of offset_as
offset_no x e = rw (eq-eqb x.0 0 e) refl

-- Two operands one by one, and as a pair.
pub as_pair : {B : Type 0} (p q : Result ℕ) (k : ℕ → ℕ → Result B)
    → (p >>= λ b. q >>= λ a. k b a) ≡ ((p >>= λ b. q >>= λ a. ok (b, a)) >>= λ (t : ℕ × ℕ). k t.0 t.1)
unfolding ◌>>=◌
as_pair (ok b) (ok a) k = refl
as_pair (ok b) (fault e) k = refl
as_pair (fault e) q k = refl

-- ---- what the code's readers of operands find

two_fewer : (n : ℕ) (s : List ℕ) → n < 2 → fault StackUnderflow ≡ two_ints (slots 2 n s)
unfolding two_ints slots
two_fewer zero s h = refl
two_fewer (suc zero) s h = refl
two_fewer (suc (suc n)) s h = absurd (omega arith)

module _ (n : ℕ) (s : List ℕ) where
  pub one_none : n < 1 → fault StackUnderflow ≡ one_int (slots 2 n s)
  unfolding one_int
  one_none h = sym (ap one_int (no_slots 2 n s h))

  pub one_other : 1 ≤ n → (get_or s (2 * (n - 1)) 0 ≡ 0 → ⊥) → fault TypeCheck ≡ one_int (slots 2 n s)
  unfolding one_int
  one_other h k = sym (ap one_int (top_slot 2 n s h) ∙ int_no _ k)

  pub one_got : 1 ≤ n → get_or s (2 * (n - 1)) 0 ≡ 0 → ok (get_or s (2 * (n - 1) + 1) 0) ≡ one_int (slots 2 n s)
  unfolding one_int
  one_got h k = sym (ap one_int (top_slot 2 n s h) ∙ int_yes _ k)

  pub two_few : n < 2 → fault StackUnderflow ≡ two_ints (slots 2 n s)
  two_few h = two_fewer n s h

  module _ (h : 2 ≤ n) where
    two_is_lem : two_ints (slots 2 n s)
        ≡ (int_of (get_or s (2 * (n - 2)) 0, get_or s (2 * (n - 2) + 1) 0) >>= λ b. int_of (get_or s (2 * (n - 1)) 0, get_or s (2 * (n - 1) + 1) 0) >>= λ a. ok (b, a))
    unfolding two_ints
    two_is_lem = ap two_ints (top_slots 2 n s h)

    pub two_lower : (get_or s (2 * (n - 2)) 0 ≡ 0 → ⊥) → fault TypeCheck ≡ two_ints (slots 2 n s)
    unfolding ◌>>=◌
    two_lower k = sym (two_is_lem ∙ rw (int_no (get_or s (2 * (n - 2)) 0, get_or s (2 * (n - 2) + 1) 0) k) refl)

    pub two_upper : get_or s (2 * (n - 2)) 0 ≡ 0 → (get_or s (2 * (n - 1)) 0 ≡ 0 → ⊥) → fault TypeCheck ≡ two_ints (slots 2 n s)
    unfolding ◌>>=◌
    two_upper k l = sym (two_is_lem ∙ rw (int_yes (get_or s (2 * (n - 2)) 0, get_or s (2 * (n - 2) + 1) 0) k, int_no (get_or s (2 * (n - 1)) 0, get_or s (2 * (n - 1) + 1) 0) l) refl)

    pub two_got : get_or s (2 * (n - 2)) 0 ≡ 0 → get_or s (2 * (n - 1)) 0 ≡ 0 → ok (get_or s (2 * (n - 2) + 1) 0, get_or s (2 * (n - 1) + 1) 0) ≡ two_ints (slots 2 n s)
    unfolding ◌>>=◌
    two_got k l = sym (two_is_lem ∙ rw (int_yes (get_or s (2 * (n - 2)) 0, get_or s (2 * (n - 2) + 1) 0) k, int_yes (get_or s (2 * (n - 1)) 0, get_or s (2 * (n - 1) + 1) 0) l) refl)

-- Who has an operand has a slot for it.
one_some : (n : ℕ) (s : List ℕ) {a : ℕ} → one_int (slots 2 n s) ≡ ok a → 1 ≤ n
unfolding one_int slots
one_some zero s e = absurd (fault_ok e)
one_some (suc n) s e = omega arith

two_some : (n : ℕ) (s : List ℕ) {t : ℕ × ℕ} → two_ints (slots 2 n s) ≡ ok t → 2 ≤ n
unfolding two_ints slots
two_some zero s e = absurd (fault_ok e)
two_some (suc zero) s e = absurd (fault_ok e)
two_some (suc (suc n)) s e = omega arith

-- ---- slots that are left

pub all_lower : {P : Slot → Type 0} (w d n : ℕ) (s : List ℕ) → n ≤ d → All P (slots w d s) → All P (slots w n s)
unfolding slots
all_lower {P} w zero n s h A = let e : zero ≡ n = omega arith in subst (λ (i : ℕ). All P (slots w i s)) e A
all_lower {P} w (suc d) n s h A =
    ⊎_elim
    (λ (e : n ≡ suc d). subst (λ (i : ℕ). All P (slots w i s)) (sym e) A)
    (λ (l : n < suc d). all_lower {P = P} w d n s (omega arith) (all_tail A))
    (eq-or-lt_of_le h)

module _ {script : List ℕ} {m : Machine} {s e mem : List ℕ} (R : Rep script m s e mem) (m' : Machine) (frames : m'.frames ≡ m.frames) where
  -- The stack is n slots deep, and nothing else changes but the memory.
  pub lowered : {mem' : List ℕ} (n : ℕ) → m'.depth ≡ n → n ≤ m.depth → length mem' ≡ 32
      → (machine_from script (slots 2 n s) (slots 8 m.frames e) mem' ≡ machine_of script m' s e mem') × Rep script m' s e mem'
  unfolding machine_of
  lowered {mem'} n d l h =
      let a = R.stack_fits in
      let b = R.exec_fits in (
        ap₂ (λ (i j : ℕ). machine_from script (slots 2 i s) (slots 8 j e) mem') (sym d) (sym frames),
        record {
          stack_fits = omega arith;
          exec_fits = omega arith;
          values = subst (λ (i : ℕ). All (SoundValue script) (slots 2 i s)) (sym d) (all_lower 2 m.depth n s l R.values);
          frames = subst (λ (i : ℕ). All (SoundFrame script) (slots 8 i e)) (sym frames) R.frames;
          memory_slots_lem = h;
        },
      )

  -- An integer is put into slot n, which is the topmost then.
  pub replaced : {s' : List ℕ} (n w : ℕ) → m'.depth ≡ n + 1 → n < m.depth → s' ≡ put_slot 2 n 0 w s
      → (machine_from script ((0, w) ∷ slots 2 n s) (slots 8 m.frames e) mem ≡ machine_of script m' s' e mem) × Rep script m' s' e mem
  unfolding machine_of
  replaced {s'} n w d l q =
      let a = R.stack_fits in
      let b = R.exec_fits in
      let i : m'.depth ≡ suc n = omega arith in
      let top : slots 2 m'.depth s' ≡ (0, w) ∷ slots 2 n s =
      ap₂ (λ (j : ℕ) (t : List ℕ). slots 2 j t) i q ∙ put_top 2 n 0 w s (omega arith) (omega arith) in
      let none : SoundValue script (0, w) = λ z. absurd (z refl) in (
        ap₂ (λ (vs : List Slot) (j : ℕ). machine_from script vs (slots 8 j e) mem) (sym top) (sym frames),
        record {
          stack_fits = omega (arith, ap length q, length_put 2 n 0 w s);
          exec_fits = omega arith;
          values = subst (All (SoundValue script)) (sym top) (cons none (all_lower 2 m.depth n s (omega arith) R.values));
          frames = subst (λ (j : ℕ). All (SoundFrame script) (slots 8 j e)) (sym frames) R.frames;
          memory_slots_lem = R.memory_slots_lem;
        },
      )

-- ---- one integer gives one

unary_slots : (f : ℕ → ℕ) (script : List ℕ) (vs fs : List Slot) (mem : List ℕ)
    → unary f (machine_from script vs fs mem) ≡ (one_int vs >>= λ a. ok (machine_from script ((0, f a) ∷ drop 1 vs) fs mem))
unfolding unary pop1 push with_stack one_int machine_from value_of value_as ◌>>=◌
unary_slots f script [] fs mem = refl
unary_slots f script (x ∷ vs) fs mem = ap (λ (r : Result ℕ). r >>= λ a. ok (machine_from script ((0, f a) ∷ vs) fs mem)) (int_is script x)

-- The shape of a word that takes one integer: `unary` and `mget`.
pub record OneShape (f : Operator) (g : List ℕ → ℕ → Result ℕ) : Type 0 where
  pub gives : (script : List ℕ) (vs fs : List Slot) (mem : List ℕ)
      → f (machine_from script vs fs mem) ≡ (one_int vs >>= λ a. g mem a >>= λ w. ok (machine_from script ((0, w) ∷ drop 1 vs) fs mem))

pub unary_shape : (f : ℕ → ℕ) → OneShape (unary f) (λ mem a. ok (f a))
unfolding ◌>>=◌
unary_shape f = record { gives = unary_slots f }

-- What mget finds in the memory.
unfoldable pub recalled : List ℕ → ℕ → Result ℕ
recalled mem a = check (ltb a 32) RangeCheck >>= λ u. ok (get_or mem a 0)

mget_slots : (script : List ℕ) (vs fs : List Slot) (mem : List ℕ)
    → mget (machine_from script vs fs mem) ≡ (one_int vs >>= λ a. recalled mem a >>= λ w. ok (machine_from script ((0, w) ∷ drop 1 vs) fs mem))
unfolding mget slot recalled pop1 push with_stack one_int machine_from value_of value_as check ◌>>=◌
mget_slots script [] fs mem = refl
mget_slots script (x ∷ vs) fs mem = by (int (value_of script x)) (int_of x) (int_is script x)
  where
    found : (a : ℕ) (t : Bool) → ((check t RangeCheck >>= λ u. ok a) >>= λ i. ok (machine_from script ((0, get_or mem i 0) ∷ vs) fs mem))
        ≡ ((check t RangeCheck >>= λ u. ok (get_or mem a 0)) >>= λ w. ok (machine_from script ((0, w) ∷ vs) fs mem))
    found a true = refl
    found a false = refl

    each : (r : Result ℕ) → (r >>= λ a. (check (ltb a 32) RangeCheck >>= λ u. ok a) >>= λ i. ok (machine_from script ((0, get_or mem i 0) ∷ vs) fs mem))
        ≡ (r >>= λ a. recalled mem a >>= λ w. ok (machine_from script ((0, w) ∷ vs) fs mem))
    each (ok a) = found a (ltb a 32)
    each (fault e) = refl

    by : (p q : Result ℕ) → p ≡ q
        → (p >>= λ a. (check (ltb a 32) RangeCheck >>= λ u. ok a) >>= λ i. ok (machine_from script ((0, get_or mem i 0) ∷ vs) fs mem))
        ≡ (q >>= λ a. recalled mem a >>= λ w. ok (machine_from script ((0, w) ∷ vs) fs mem))
    by p q e = rw e (each q)

pub mget_shape : OneShape mget recalled
mget_shape = record { gives = mget_slots }

module _ {f : Operator} {g : List ℕ → ℕ → Result ℕ} (shape : OneShape f g) (m : Machine) (s : List ℕ) (r : std.Result ℕ Error)
    (is : result_of r ≡ one_int (slots 2 m.depth s)) (e mem : List ℕ) where
  one_gives : (script : List ℕ) {q : Result ℕ} → result_of r ≡ q
      → f (machine_of script m s e mem) ≡ (q >>= λ a. g mem a >>= λ w. ok (machine_from script ((0, w) ∷ drop 1 (slots 2 m.depth s)) (slots 8 m.frames e) mem))
  unfolding machine_of
  one_gives script h =
      shape.gives script (slots 2 m.depth s) (slots 8 m.frames e) mem
      ∙ ap (λ (t : Result ℕ). t >>= λ a. g mem a >>= λ w. ok (machine_from script ((0, w) ∷ drop 1 (slots 2 m.depth s)) (slots 8 m.frames e) mem)) (sym is ∙ h)

  pub one_fails : {x : Error} → r ≡ Err x → Does f m s s e e mem mem (Err x)
  unfolding ◌>>=◌
  one_fails h = record { does = λ script R. (failed s e (one_gives script (ap result_of h)), refl, refl) }

  pub one_undone : {a : ℕ} {x : Error} → r ≡ Ok a → g mem a ≡ fault x → Does f m s s e e mem mem (Err x)
  unfolding ◌>>=◌
  one_undone h k = record { does = λ script R. (failed s e (one_gives script (ap result_of h) ∙ rw k refl), refl, refl) }

  pub one_depth : {a : ℕ} → r ≡ Ok a → 1 ≤ m.depth
  one_depth h = one_some m.depth s (sym is ∙ ap result_of h)

  pub one_done : {a w : ℕ} {s' : List ℕ} → r ≡ Ok a → g mem a ≡ ok w → s' ≡ put_slot 2 (m.depth - 1) 0 w s → length s' ≡ length s
      → Does f m s s' e e mem mem (Ok m)
  unfolding ◌>>=◌
  one_done {a} {w} {s'} h k q l =
      let d = one_depth h in
      record {
        does = λ script R.
            let (same, R') = replaced R m refl (m.depth - 1) w (omega arith) (omega arith) q in
            went s e l refl R'
            (one_gives script (ap result_of h)
            ∙ rw k (ap (λ (vs : List Slot). ok (machine_from script ((0, w) ∷ vs) (slots 8 m.frames e) mem)) (ap (drop 1) (top_slot 2 m.depth s d)) ∙ ap ok same));
      }

-- ---- two integers give one, or are stored

module _ (m : Machine) (s : List ℕ) (r : std.Result (ℕ × ℕ) Error) (is : result_of r ≡ two_ints (slots 2 m.depth s)) (e mem : List ℕ) where
  pub two_depth : {b a : ℕ} → r ≡ Ok (b, a) → 2 ≤ m.depth
  two_depth h = two_some m.depth s (sym is ∙ ap result_of h)

  left_two : 2 ≤ m.depth → drop 2 (slots 2 m.depth s) ≡ slots 2 (m.depth - 2) s
  left_two d = ap (drop 2) (top_slots 2 m.depth s d)

  module _ {f : Operator} {g : ℕ → ℕ → Result ℕ} (shape : TwoShape f g) where
    two_gives : (script : List ℕ) {q : Result (ℕ × ℕ)} → result_of r ≡ q
        → f (machine_of script m s e mem)
        ≡ (q >>= λ (t : ℕ × ℕ). g t.0 t.1 >>= λ w. ok (machine_from script ((0, w) ∷ drop 2 (slots 2 m.depth s)) (slots 8 m.frames e) mem))
    unfolding machine_of
    two_gives script h =
        shape.gives script (slots 2 m.depth s) (slots 8 m.frames e) mem
        ∙ ap (λ (u : Result (ℕ × ℕ)). u >>= λ (t : ℕ × ℕ). g t.0 t.1 >>= λ w. ok (machine_from script ((0, w) ∷ drop 2 (slots 2 m.depth s)) (slots 8 m.frames e) mem)) (sym is ∙ h)

    pub two_fails : {x : Error} → r ≡ Err x → Does f m s s e e mem mem (Err x)
    unfolding ◌>>=◌
    two_fails h = record { does = λ script R. (failed s e (two_gives script (ap result_of h)), refl, refl) }

    pub two_undone : {b a : ℕ} {x : Error} → r ≡ Ok (b, a) → g b a ≡ fault x → Does f m s s e e mem mem (Err x)
    unfolding ◌>>=◌
    two_undone h k = record { does = λ script R. (failed s e (two_gives script (ap result_of h) ∙ rw k refl), refl, refl) }

    pub two_done : {b a w : ℕ} {s' : List ℕ} (m' : Machine) → r ≡ Ok (b, a) → g b a ≡ ok w → s' ≡ put_slot 2 (m.depth - 2) 0 w s → length s' ≡ length s
        → m' ≡ record { depth = m.depth - 1; frames = m.frames } → Does f m s s' e e mem mem (Ok m')
    unfolding ◌>>=◌
    two_done {b} {a} {w} {s'} m' h k q l n =
        let d = two_depth h in
        let depth : m'.depth ≡ m.depth - 1 = ap (λ (x : Machine). x.depth) n in
        record {
          does = λ script R.
              let (same, R') = replaced R m' (ap (λ (x : Machine). x.frames) n) (m.depth - 2) w (omega arith) (omega arith) q in
              went s e l refl R'
              (two_gives script (ap result_of h)
              ∙ rw k (ap (λ (vs : List Slot). ok (machine_from script ((0, w) ∷ vs) (slots 8 m.frames e) mem)) (left_two d) ∙ ap ok same));
        }

mset_slots : (script : List ℕ) (vs fs : List Slot) (mem : List ℕ)
    → mset (machine_from script vs fs mem)
    ≡ (two_ints vs >>= λ (t : ℕ × ℕ). check (ltb t.1 32) RangeCheck >>= λ u. ok (machine_from script (drop 2 vs) fs (set mem t.1 t.0)))
unfolding mset slot pop2 with_stack with_memory two_ints machine_from check ◌>>=◌
mset_slots script [] fs mem = refl
mset_slots script (x ∷ []) fs mem = refl
mset_slots script (x ∷ y ∷ vs) fs mem = rw (int_is script y, int_is script x) (each (int_of y) (int_of x))
  where
    found : (b a : ℕ) (t : Bool) → ((check t RangeCheck >>= λ u. ok a) >>= λ i. ok (machine_from script vs fs (set mem i b)))
        ≡ (check t RangeCheck >>= λ u. ok (machine_from script vs fs (set mem a b)))
    found b a true = refl
    found b a false = refl

    each : (p q : Result ℕ) → (p >>= λ b. q >>= λ a. (check (ltb a 32) RangeCheck >>= λ u. ok a) >>= λ i. ok (machine_from script vs fs (set mem i b)))
        ≡ ((p >>= λ b. q >>= λ a. ok (b, a)) >>= λ (t : ℕ × ℕ). check (ltb t.1 32) RangeCheck >>= λ u. ok (machine_from script vs fs (set mem t.1 t.0)))
    each (ok b) (ok a) = found b a (ltb a 32)
    each (ok b) (fault e) = refl
    each (fault e) q = refl

module _ (m : Machine) (s : List ℕ) (r : std.Result (ℕ × ℕ) Error) (is : result_of r ≡ two_ints (slots 2 m.depth s)) (e mem : List ℕ) where
  mset_gives : (script : List ℕ) {q : Result (ℕ × ℕ)} → result_of r ≡ q
      → mset (machine_of script m s e mem)
      ≡ (q >>= λ (t : ℕ × ℕ). check (ltb t.1 32) RangeCheck >>= λ u. ok (machine_from script (drop 2 (slots 2 m.depth s)) (slots 8 m.frames e) (set mem t.1 t.0)))
  unfolding machine_of
  mset_gives script h =
      mset_slots script (slots 2 m.depth s) (slots 8 m.frames e) mem
      ∙ ap (λ (x : Result (ℕ × ℕ)). x >>= λ (t : ℕ × ℕ). check (ltb t.1 32) RangeCheck >>= λ u. ok (machine_from script (drop 2 (slots 2 m.depth s)) (slots 8 m.frames e) (set mem t.1 t.0))) (sym is ∙ h)

  pub mset_fails : {x : Error} → r ≡ Err x → Does mset m s s e e mem mem (Err x)
  unfolding ◌>>=◌
  mset_fails h = record { does = λ script R. (failed s e (mset_gives script (ap result_of h)), refl, refl) }

  pub mset_outside : {b a : ℕ} → r ≡ Ok (b, a) → 32 ≤ a → Does mset m s s e e mem mem (Err RangeCheck)
  unfolding check ◌>>=◌
  mset_outside {b} {a} h k = record { does = λ script R. (failed s e (mset_gives script (ap result_of h) ∙ rw (le-ltb a 32 k) refl), refl, refl) }

  pub mset_done : {b a : ℕ} {mem' : List ℕ} (m' : Machine) → r ≡ Ok (b, a) → a < 32 → mem' ≡ set mem a b
      → m' ≡ record { depth = m.depth - 2; frames = m.frames } → Does mset m s s e e mem mem' (Ok m')
  unfolding check ◌>>=◌
  mset_done {b} {a} {mem'} m' h k q n =
      let d = two_depth m s r is e mem h in
      record {
        does = λ script R.
            let (same, R') = lowered R m' (ap (λ (x : Machine). x.frames) n) {mem' = mem'} (m.depth - 2) (ap (λ (x : Machine). x.depth) n) (omega arith) (ap length q ∙ length-set mem a b ∙ R.memory_slots_lem) in
            went s e refl refl R'
            (mset_gives script (ap result_of h)
            ∙ rw (lt-ltb a 32 k) (ap₂ (λ (vs : List Slot) (x : List ℕ). ok (machine_from script vs (slots 8 m.frames e) x)) (left_two m s r is e mem d) (sym q) ∙ ap ok same));
      }

pub recalled_yes : (mem : List ℕ) (a : ℕ) → a < 32 → recalled mem a ≡ ok (get_or mem a 0)
unfolding recalled check ◌>>=◌
recalled_yes mem a h = rw (lt-ltb a 32 h) refl

pub recalled_no : (mem : List ℕ) (a : ℕ) → 32 ≤ a → recalled mem a ≡ fault RangeCheck
unfolding recalled check ◌>>=◌
recalled_no mem a h = rw (le-ltb a 32 h) refl
