-- A property of machines that steps keep: something of the parts everywhere, and something of the whole that each change keeps of which a step is made.
-- Assumes nothing.
use mathlib.Core.Path.{◌≡◌}
use mathlib.Core.List.{List, [], ◌∷◌}
use Prim.Native.Nat.{ℕ, ◌≤◌, ◌<◌}
use native.Mathlib.Omega.{arith}
use lib.Dec.{T}
use Rattle.semantics.specs.Values.{Attempt, ok, fault, ◌>>=◌, Value, Object}
use Rattle.semantics.specs.Machine.{Machine, Frame, Slot, Latest, with_stack, with_exec, with_dictionary, with_store, with_handlers, with_latest, write, halt, push, enter, pop1, pop2, pop3, pop4, object, make, made, change, with_read_only, protect, assign, intern}
use Rattle.semantics.specs.ControlOperators.{has_slot}
use Rattle.semantics.specs.ResultLaws.{Gives, gives, fails, gives_then, gives_any}
use Rattle.semantics.specs.ListLaws.{All, nil, cons, all_append, all_set, all_get_d, all_weaker}
use Rattle.semantics.specs.declared.Error.{Error}
use Rattle.semantics.specs.declared.Error.TheVariants.{StackUnderflow}
use Rattle.walk.specs.Objects.{is_string, Alike}
use Rattle.walk.specs.Parts.{Parts, Good, GoodFrame, GoodSlot, GoodObject, GoodLatest, Everywhere}
use Rattle.walk.proofs.Parts.{Later, good_later, frame_later, slot_later, object_later, array_object, assign_good, slotted_good}

-- base: how many objects there were before the step. A change of an object may rest on the kinds, where they are known.
pub record Property : Type 1 where
  pub parts : Parts
  pub base : ℕ
  pub Whole : Machine → Type 0
  pub since : (m : Machine) → Whole m → base ≤ made m
  pub other_stack : (s : List Value) (m : Machine) → Whole m → Whole (with_stack s m)
  pub other_dictionary : (d : List Slot) (m : Machine) → Whole m → Whole (with_dictionary d m)
  pub other_exec : (e : List Frame) (m : Machine) → Whole m → Whole (with_exec e m)
  pub other_handler : (n : List ℕ) (v : Value) (m : Machine) → T (has_slot n m.handlers) → Whole m → Whole (with_handlers (assign n v m.handlers) m)
  pub other_latest : (t : Latest) (m : Machine) → Whole m → Whole (with_latest t m)
  pub halting : (m : Machine) → Whole m → Whole (halt m)
  pub writing : (t : List ℕ) (m : Machine) → Whole m → Whole (write t m)
  pub making : (o : Object) (m : Machine) → Whole m → Whole (make o m)
  pub protecting : (i : ℕ) (m : Machine) → (parts.references.Kinds → i < made m) → Whole m → Whole (protect i m)
  pub changing : (i : ℕ) (o : Object) (m : Machine) → (parts.references.Kinds → Alike (object m i) o) → Whole m → Whole (change i o m)
  pub filling : (i : ℕ) (o : Object) (m : Machine) → base ≤ i → Whole m → Whole (change i o m)  -- an object that the step itself has made

-- A machine in the midst of a step.
pub record Fit (K : Property) (m : Machine) : Type 0 where
  pub parts : Everywhere K.parts m
  pub whole : K.Whole m

-- Something of the parts, and nothing of the whole.
unfoldable pub parts_alone : Parts → Property
parts_alone A =
    record {
      parts = A;
      base = 0;
      Whole = λ m. Unit {0};
      since = λ m h. omega arith;
      other_stack = λ s m h. h;
      other_dictionary = λ d m h. h;
      other_exec = λ e m h. h;
      other_handler = λ n v m t h. h;
      other_latest = λ t m h. h;
      halting = λ m h. h;
      writing = λ t m h. h;
      making = λ o m h. h;
      protecting = λ i m a h. h;
      changing = λ i o m a h. h;
      filling = λ i o m b h. h;
    }

-- ---- results

-- Where what is there does not matter.
pub gives_each : {E A B : Type 0} {Q : B → Type 0} (r : Attempt E A) {f : A → Attempt E B} → ((a : A) → Gives Q (f a)) → Gives Q (r >>= f)
gives_each r q = gives_then (gives_any r) (λ a u. q a)

-- ---- changes of one part

module _ {A : Parts} (m : Machine) where
  pub make_later : (o : Object) → Later A m.store (make o m).store
  unfolding make with_store
  make_later o = record { still = A.references.after_new m.store o }

  pub change_later : (i : ℕ) (o : Object) → (A.references.Kinds → is_string o ≡ is_string (object m i)) → Later A m.store (change i o m).store
  unfolding change with_store object
  change_later i o e = record { still = A.references.after_change m.store i o e }

module _ {K : Property} {m : Machine} (h : Fit K m) where
  pub with_stack_lem : {s : List Value} → All (Good K.parts m.store) s → Fit K (with_stack s m)
  unfolding with_stack
  with_stack_lem {s} k =
      let p = h.parts in
      record { parts = record { stack = k; dictionary = p.dictionary; exec = p.exec; store = p.store; handlers = p.handlers; latest = p.latest }; whole = K.other_stack s m h.whole }

  pub with_exec_lem : {e : List Frame} → All (GoodFrame K.parts m.store) e → Fit K (with_exec e m)
  unfolding with_exec
  with_exec_lem {e} k =
      let p = h.parts in
      record { parts = record { stack = p.stack; dictionary = p.dictionary; exec = k; store = p.store; handlers = p.handlers; latest = p.latest }; whole = K.other_exec e m h.whole }

  pub with_dictionary_lem : {d : List Slot} → All (GoodSlot K.parts m.store) d → Fit K (with_dictionary d m)
  unfolding with_dictionary
  with_dictionary_lem {d} k =
      let p = h.parts in
      record { parts = record { stack = p.stack; dictionary = k; exec = p.exec; store = p.store; handlers = p.handlers; latest = p.latest }; whole = K.other_dictionary d m h.whole }

  pub with_handler : (n : List ℕ) {v : Value} → T (has_slot n m.handlers) → Good K.parts m.store v → Fit K (with_handlers (assign n v m.handlers) m)
  unfolding with_handlers
  with_handler n {v} t k =
      let p = h.parts in
      record {
        parts = record { stack = p.stack; dictionary = p.dictionary; exec = p.exec; store = p.store; handlers = assign_good n k p.handlers; latest = p.latest };
        whole = K.other_handler n v m t h.whole;
      }

  pub with_latest_lem : {t : Latest} → GoodLatest K.parts t → Fit K (with_latest t m)
  unfolding with_latest
  with_latest_lem {t} k =
      let p = h.parts in
      record {
        parts = record { stack = p.stack; dictionary = p.dictionary; exec = p.exec; store = p.store; handlers = p.handlers; latest = k };
        whole = K.other_latest t m h.whole;
      }

  pub written : (t : List ℕ) → Fit K (write t m)
  unfolding write
  written t =
      let p = h.parts in
      record { parts = record { stack = p.stack; dictionary = p.dictionary; exec = p.exec; store = p.store; handlers = p.handlers; latest = p.latest }; whole = K.writing t m h.whole }

  pub halted : Fit K (halt m)
  unfolding halt
  halted =
      let p = h.parts in
      record { parts = record { stack = p.stack; dictionary = p.dictionary; exec = p.exec; store = p.store; handlers = p.handlers; latest = p.latest }; whole = K.halting m h.whole }

  with_store_lem : {s : List Object} → Later K.parts m.store s → All (GoodObject K.parts s) s → Everywhere K.parts (with_store s m)
  unfolding with_store
  with_store_lem f k =
      let p = h.parts in
      record {
        stack = all_weaker (good_later f) p.stack;
        dictionary = all_weaker (slot_later f) p.dictionary;
        exec = all_weaker (frame_later f) p.exec;
        store = k;
        handlers = all_weaker (slot_later f) p.handlers;
        latest = p.latest;
      }

  pub interned : (n : List ℕ) → Fit K (intern n m)
  unfolding intern
  interned n = with_dictionary_lem (slotted_good n h.parts.dictionary)

  pub pushed : {v : Value} → Good K.parts m.store v → Fit K (push v m)
  unfolding push
  pushed k = with_stack_lem (cons k h.parts.stack)

  pub entered : {f : Frame} → GoodFrame K.parts m.store f → Fit K (enter f m)
  unfolding enter
  entered k = with_exec_lem (cons k h.parts.exec)

  pub protected : (i : ℕ) → (K.parts.references.Kinds → i < made m) → Fit K (protect i m)
  unfolding protect with_read_only
  protected i a =
      let p = h.parts in
      record { parts = record { stack = p.stack; dictionary = p.dictionary; exec = p.exec; store = p.store; handlers = p.handlers; latest = p.latest }; whole = K.protecting i m a h.whole }

  pub maked : {o : Object} → GoodObject K.parts m.store o → Fit K (make o m)
  unfolding make with_store
  maked {o} k =
      let f = make_later m o in
      record {
        parts = with_store_lem f (all_append (all_weaker (object_later f) h.parts.store) (cons (object_later f o k) nil));
        whole = K.making o m h.whole;
      }

  changed_parts : (i : ℕ) {o : Object}
      → (K.parts.references.Kinds → is_string o ≡ is_string (object m i))
      → GoodObject K.parts m.store o
      → Everywhere K.parts (change i o m)
  unfolding change with_store
  changed_parts i {o} e k =
      let f = change_later m i o e in
      with_store_lem f (all_set (all_weaker (object_later f) h.parts.store) i (object_later f o k))

  pub changed : (i : ℕ) {o : Object}
      → (K.parts.references.Kinds → Alike (object m i) o)
      → GoodObject K.parts m.store o
      → Fit K (change i o m)
  changed i {o} a k = record { parts = changed_parts i (λ q. (a q).kind) k; whole = K.changing i o m a h.whole }

  pub filled : (i : ℕ) {o : Object}
      → K.base ≤ i
      → (K.parts.references.Kinds → is_string o ≡ is_string (object m i))
      → GoodObject K.parts m.store o
      → Fit K (change i o m)
  filled i {o} b e k = record { parts = changed_parts i e k; whole = K.filling i o m b h.whole }

  pub object_good : (i : ℕ) → GoodObject K.parts m.store (object m i)
  unfolding object
  object_good i = all_get_d h.parts.store i (array_object nil (K.parts.numbers.size 0 (omega arith)))

-- A value pushed after an object has changed.
pub changed_pushed : {K : Property} {m : Machine}
    → Fit K m
    → (i : ℕ) {o : Object} {v : Value}
    → (K.parts.references.Kinds → Alike (object m i) o)
    → GoodObject K.parts m.store o
    → Good K.parts m.store v
    → Fit K (push v (change i o m))
changed_pushed {K} {m} h i {o} {v} a k n = pushed (changed h i a k) (good_later (change_later m i o (λ q. (a q).kind)) v n)

-- ---- operands

module _ (K : Property) where
  abbrev pub Popped1 : Value × Machine → Type 0
  Popped1 p = Good K.parts p.1.store p.0 × Fit K p.1

  abbrev pub Popped2 : Value × Value × Machine → Type 0
  Popped2 p = Good K.parts p.2.store p.0 × Good K.parts p.2.store p.1 × Fit K p.2

  abbrev pub Popped3 : Value × Value × Value × Machine → Type 0
  Popped3 p =
      Good K.parts p.3.store p.0 × Good K.parts p.3.store p.1 × Good K.parts p.3.store p.2 × Fit K p.3

  abbrev pub Popped4 : Value × Value × Value × Value × Machine → Type 0
  Popped4 p =
      Good K.parts p.4.store p.0
      × Good K.parts p.4.store p.1
      × Good K.parts p.4.store p.2
      × Good K.parts p.4.store p.3
      × Fit K p.4

module _ {K : Property} {m : Machine} (h : Fit K m) where
  pub popped1 : Gives (Popped1 K) (pop1 m)
  unfolding pop1 with_stack
  popped1 = by h.parts.stack
    where
      by : {s : List Value}
          → All (Good K.parts m.store) s
          → Gives {E = Error} (Popped1 K) (elim s [ [] ↦ fault StackUnderflow | x ∷ s ↦ ok (x, with_stack s m) ])
      by nil = fails
      by (cons p ps) = gives (p, with_stack_lem h ps)

  pub popped2 : Gives (Popped2 K) (pop2 m)
  unfolding pop2 with_stack
  popped2 = by h.parts.stack
    where
      by : {s : List Value}
          → All (Good K.parts m.store) s
          → Gives {E = Error} (Popped2 K) (elim s [
            | [] ↦ fault StackUnderflow
            | y ∷ s ↦ elim s [ [] ↦ fault StackUnderflow | x ∷ r ↦ ok (x, y, with_stack r m) ]
          ])
      by nil = fails
      by (cons p nil) = fails
      by (cons p (cons q ps)) = gives (q, p, with_stack_lem h ps)

  pub popped3 : Gives (Popped3 K) (pop3 m)
  unfolding pop3 with_stack
  popped3 = by h.parts.stack
    where
      by : {s : List Value}
          → All (Good K.parts m.store) s
          → Gives {E = Error} (Popped3 K) (elim s [
            | [] ↦ fault StackUnderflow
            | z ∷ s ↦ elim s [
              | [] ↦ fault StackUnderflow
              | y ∷ r ↦ elim r [ [] ↦ fault StackUnderflow | x ∷ q ↦ ok (x, y, z, with_stack q m) ]
            ]
          ])
      by nil = fails
      by (cons p nil) = fails
      by (cons p (cons q nil)) = fails
      by (cons p (cons q (cons r ps))) = gives (r, q, p, with_stack_lem h ps)

  pub popped4 : Gives (Popped4 K) (pop4 m)
  unfolding pop4 with_stack
  popped4 = by h.parts.stack
    where
      by : {s : List Value}
          → All (Good K.parts m.store) s
          → Gives {E = Error} (Popped4 K) (elim s [
            | [] ↦ fault StackUnderflow
            | z ∷ s ↦ elim s [
              | [] ↦ fault StackUnderflow
              | y ∷ r ↦ elim r [
                | [] ↦ fault StackUnderflow
                | x ∷ q ↦ elim q [ [] ↦ fault StackUnderflow | w ∷ p ↦ ok (w, x, y, z, with_stack p m) ]
              ]
            ]
          ])
      by nil = fails
      by (cons p nil) = fails
      by (cons p (cons q nil)) = fails
      by (cons p (cons q (cons r nil))) = fails
      by (cons p (cons q (cons r (cons t ps)))) = gives (t, r, q, p, with_stack_lem h ps)
