-- The words on two integers: the definition's operators have their shapes, and the code's division is theirs.
-- Assumes nothing.
use mathlib.Core.Path.{◌≡◌, refl, sym, ap, ◌∙◌}
use mathlib.Core.Bool.{Bool, true, false, not, cond}
use mathlib.Core.List.{List, [], ◌∷◌}
use Prim.Native.Nat.{ℕ, ◌^◌}
use native.Mathlib.Omega.{arith}
use lib.IntN.{ℤ, pos, nat_abs}
use lib.ListN.{drop}
use lib.Signed.{shr_z}
use lib.Dec.{eqb, ltb}
use borrow.Author.Tests.{ne_eqb, eqb-true, eqb-false}
use mir.Syntax.{w32}
use mir.Val.{Fits, bool_byte}
use Rattle.semantics.specs.Words.{signed, word, shift}
use Rattle.semantics.specs.Values.{ok, fault, ◌>>=◌, check}
use Rattle.semantics.specs.ResultLaws.{ok_one, fault_ok}
use Rattle.semantics.specs.NumberOperators as floo
use Rattle.semantics.specs.declared.Error.TheVariants as error
use Rattle.word.specs.Answers.{quotient_of, divided_words}
use Rattle.std.specs.Prelude.{Option, Some, None}
use Rattle.word.proofs.Division.{nonzero}
use Rattle.forf_semantics.specs.Errors.{Result}
use Rattle.forf_semantics.specs.Machine.{pop2, push, with_stack}
use Rattle.forf_semantics.specs.Operators.{binary, division, wrapping, flag, compared, left, right}
use Rattle.forf_semantics.specs.declared.Error.TheVariants.{UndefinedResult}
use Rattle.forf_machine.specs.Slots.{Slot}
use Rattle.forf_machine.specs.Rep.{value_of, value_as, machine_from}
use Rattle.forf_machine.specs.Operands.{int_of, two_ints}
use Rattle.forf_machine.specs.Numbers.{gives, divided, quotient_is}
use Rattle.forf_machine.specs.Steps.{TwoShape}
use Rattle.forf_machine.proofs.Operating.{int_is, as_pair}

-- ---- shapes

binary_slots : (f : ℕ → ℕ → ℕ) (script : List ℕ) (vs fs : List Slot) (mem : List ℕ)
    → binary f (machine_from script vs fs mem) ≡ (two_ints vs >>= λ (t : ℕ × ℕ). gives f t.0 t.1 >>= λ w. ok (machine_from script ((0, w) ∷ drop 2 vs) fs mem))
unfolding binary gives pop2 push with_stack two_ints machine_from value_of value_as ◌>>=◌
binary_slots f script [] fs mem = refl
binary_slots f script (x ∷ []) fs mem = refl
binary_slots f script (x ∷ y ∷ vs) fs mem =
    rw (int_is script y, int_is script x) (as_pair (int_of y) (int_of x) (λ b a. ok (machine_from script ((0, f b a) ∷ vs) fs mem)))

pub binary_shape : (f : ℕ → ℕ → ℕ) → TwoShape (binary f) (gives f)
binary_shape f = record { gives = binary_slots f }

division_slots : (f : ℤ → ℤ → ℤ) (script : List ℕ) (vs fs : List Slot) (mem : List ℕ)
    → division f (machine_from script vs fs mem) ≡ (two_ints vs >>= λ (t : ℕ × ℕ). divided f t.0 t.1 >>= λ w. ok (machine_from script ((0, w) ∷ drop 2 vs) fs mem))
unfolding division divided pop2 push with_stack two_ints machine_from value_of value_as check ◌>>=◌
division_slots f script [] fs mem = refl
division_slots f script (x ∷ []) fs mem = refl
division_slots f script (x ∷ y ∷ vs) fs mem = rw (int_is script y, int_is script x) (each (int_of y) (int_of x))
  where
    found : (z : ℕ) (t : Bool) → (check t UndefinedResult >>= λ u. ok (machine_from script ((0, z) ∷ vs) fs mem))
        ≡ ((check t UndefinedResult >>= λ u. ok z) >>= λ w. ok (machine_from script ((0, w) ∷ vs) fs mem))
    found z true = refl
    found z false = refl

    each : (p q : Result ℕ) → (p >>= λ b. q >>= λ a. check (not (eqb a 0)) UndefinedResult >>= λ u. ok (machine_from script ((0, word (f (signed b) (signed a))) ∷ vs) fs mem))
        ≡ ((p >>= λ b. q >>= λ a. ok (b, a)) >>= λ (t : ℕ × ℕ). divided f t.0 t.1 >>= λ w. ok (machine_from script ((0, w) ∷ vs) fs mem))
    each (ok b) (ok a) = found (word (f (signed b) (signed a))) (not (eqb a 0))
    each (ok b) (fault e) = refl
    each (fault e) q = refl

pub division_shape : (f : ℤ → ℤ → ℤ) → TwoShape (division f) (divided f)
division_shape f = record { gives = division_slots f }

-- ---- division

at_zero : (w : ℕ) → w ≡ 0 → eqb (nat_abs (signed w)) 0 ≡ true
unfolding signed
at_zero w e = rw e refl

same_zero : (w : ℕ) → Fits w32 w → eqb (nat_abs (signed w)) 0 ≡ eqb w 0
same_zero w h = by (eqb w 0) refl
  where
    by : (t : Bool) → eqb w 0 ≡ t → eqb (nat_abs (signed w)) 0 ≡ t
    by true e = at_zero w (eqb-true w 0 e)
    by false e = ne_eqb (nat_abs (signed w)) 0 (nonzero w h (eqb-false w 0 e))

-- Floo's division of two words is Forf's.
pub divided_is : (f : ℤ → ℤ → ℤ) (b a : ℕ) (r : Option ℕ) → Fits w32 a → quotient_of r ≡ divided_words f b a → quotient_is r ≡ divided f b a
unfolding divided_words divided floo.division check ◌>>=◌
divided_is f b a r h e = by r (eqb (nat_abs (signed a)) 0) (eqb a 0) (same_zero a h) e
  where
    by : (r : Option ℕ) (s t : Bool) → s ≡ t
        → quotient_of r ≡ ((check (not s) error.UndefinedResult >>= λ u. ok (f (signed b) (signed a))) >>= λ q. ok (word q))
        → quotient_is r ≡ (check (not t) UndefinedResult >>= λ u. ok (word (f (signed b) (signed a))))
    by (Some w) true true p e = absurd (fault_ok (sym e))
    by (Some w) false false p e = ap ok (ok_one e)
    by None true true p e = refl
    by None false false p e = absurd (fault_ok e)
    by r true false p e = let z : ◌≡◌ {A = ℕ} 0 1 = cc in absurd (omega arith)
    by r false true p e = let z : ◌≡◌ {A = ℕ} 0 1 = cc in absurd (omega arith)

-- ---- the code's arithmetic is the definition's

byte_flag : (t : Bool) → bool_byte t ≡ flag t
unfolding flag
byte_flag true = refl
byte_flag false = refl

pub flagged : (t : Bool) {w : ℕ} → w ≡ bool_byte t → w ≡ flag t
flagged t h = h ∙ byte_flag t

module _ (b a : ℕ) {q : Option ℕ} where
  pub given : (f : ℕ → ℕ → ℕ) → q ≡ Some (f b a) → quotient_is q ≡ gives f b a
  unfolding gives
  given f h = ap quotient_is h

  pub wrapped : (f : ℤ → ℤ → ℤ) → q ≡ Some (word (f (signed b) (signed a))) → quotient_is q ≡ gives (wrapping f) b a
  unfolding wrapping
  wrapped f h = given (wrapping f) h

  pub shifted_left : q ≡ Some (shift b (pos a)) → quotient_is q ≡ gives left b a
  unfolding left
  shifted_left h = given left h

  pub shifted_right : q ≡ Some (word (shr_z (signed b) (2 ^ cond (ltb a 32) a 31))) → quotient_is q ≡ gives right b a
  unfolding right
  shifted_right h = given right h

  pub told : (f : ℕ → ℕ → Bool) → q ≡ Some (bool_byte (f b a)) → quotient_is q ≡ gives (λ b a. flag (f b a)) b a
  told f h = given (λ b a. flag (f b a)) (h ∙ ap Some (byte_flag (f b a)))

  pub compared_so : (f : ℤ → ℤ → Bool) → q ≡ Some (bool_byte (f (signed b) (signed a))) → quotient_is q ≡ gives (compared f) b a
  unfolding compared
  compared_so f h = told (λ b a. f (signed b) (signed a)) h
