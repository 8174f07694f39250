-- Reasoning by cases: on a test, and on a result that is there or an error.
-- Assumes nothing.
use Rattle.std.specs.Prelude.{◌≡◌, refl, Bool, true, false, not, cond, ℕ, T}
use Rattle.std.proofs.Common.{ap, subst, arith}
use Rattle.semantics.specs.Values.{Attempt, ok, fault, ◌>>=◌, check}

-- What holds of both choices, each where its test holds, holds of the choice.
pub choose : {A : Type 0} (P : A → Type 0) (b : Bool) (x y : A) → (T b → P x) → (T (not b) → P y) → P (elim b [ true ↦ x | false ↦ y ])
choose P true x y f g = f tt
choose P false x y f g = g tt

pub choose_cond : {A : Type 0} (P : A → Type 0) (b : Bool) (x y : A) → (T b → P x) → (T (not b) → P y) → P (cond b x y)
choose_cond P true x y f g = f tt
choose_cond P false x y f g = g tt

-- What is there is one thing.
pub ok_injective : {E A : Type 0} {a b : A} → ◌≡◌ {A = Attempt E A} (ok a) (ok b) → a ≡ b
ok_injective e = cc

-- What is there has the property. What is wrong has every property.
pub data Gives {E A : Type 0} (P : A → Type 0) : Attempt E A → Type 0 where
  gives : {a : A} → P a → Gives P (ok a)
  fails : {e : E} → Gives P (fault e)

pub gives_then : {E A B : Type 0} {P : A → Type 0} {Q : B → Type 0} {r : Attempt E A} {f : A → Attempt E B}
    → Gives P r
    → ((a : A) → P a → Gives Q (f a))
    → Gives Q (r >>= f)
unfolding ◌>>=◌
gives_then (gives {a = a} p) q = q a p
gives_then fails q = fails

pub gives_weaker : {E A : Type 0} {P Q : A → Type 0} {r : Attempt E A} → Gives P r → ((a : A) → P a → Q a) → Gives Q r
gives_weaker (gives {a = a} p) f = gives (f a p)
gives_weaker fails f = fails

pub gives_any : {E A : Type 0} (r : Attempt E A) → Gives (λ a. Unit {0}) r
gives_any (ok a) = gives tt
gives_any (fault e) = fails

pub gives_check : {E : Type 0} (b : Bool) (e : E) → Gives (λ u. T b) (check b e)
unfolding check
gives_check true e = gives tt
gives_check false e = fails

-- Two continuations that agree on what is there come to the same.
pub then_same : {E A B : Type 0} {P : A → Type 0} {r : Attempt E A} {f g : A → Attempt E B}
    → Gives P r
    → ((a : A) → P a → f a ≡ g a)
    → (r >>= f) ≡ (r >>= g)
unfolding ◌>>=◌
then_same (gives {a = a} p) e = e a p
then_same fails e = refl

pub ok_one : {E A : Type 0} {a b : A} → ◌≡◌ {A = Attempt E A} (ok a) (ok b) → a ≡ b
ok_one e = cc

pub fault_ok : {E A : Type 0} {e : E} {a : A} → ◌≡◌ {A = Attempt E A} (fault e) (ok a) → ⊥
fault_ok q = let z : ◌≡◌ {A = ℕ} 0 1 = cc in absurd (omega arith)

-- One fault is one fault whatever would have been there.
pub fault_one : {E A B : Type 0} {d e : E} → ◌≡◌ {A = Attempt E A} (fault d) (fault e) → ◌≡◌ {A = Attempt E B} (fault d) (fault e)
fault_one {d = d} {e = e} q = let z : d ≡ e = cc in ap fault z

pub gives_ok : {E A : Type 0} {P : A → Type 0} {r : Attempt E A} {a : A} → Gives P r → r ≡ ok a → P a
gives_ok {P = P} (gives p) e = subst P (ok_one e) p
gives_ok fails e = absurd (fault_ok e)

-- What is there was made from something that is there.
pub then_ok : {E A B : Type 0} (r : Attempt E A) (f : A → Attempt E B) {b : B} → (r >>= f) ≡ ok b → (a : A) × (r ≡ ok a) × (f a ≡ ok b)
unfolding ◌>>=◌
then_ok (ok a) f e = (a, refl, e)
then_ok (fault x) f e = absurd (fault_ok e)

-- Something that is there is handed on.
pub ok_then : {E A B : Type 0} {r : Attempt E A} {a : A} (f : A → Attempt E B) {s : Attempt E B} → r ≡ ok a → f a ≡ s → (r >>= f) ≡ s
unfolding ◌>>=◌
ok_then f p q = rw p q
