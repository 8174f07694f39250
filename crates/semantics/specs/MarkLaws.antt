-- The mark for read only (02, W7): an object that gets it has it, others have it as before, and an object that is not made has none. What is written to has none.
-- Assumes nothing.
use Rattle.std.specs.Prelude.{◌≡◌, refl, Bool, true, false, ◌||◌, List, [], ◌∷◌, ◌++◌, ℕ, ◌≤◌, ◌<◌, eqb}
use Rattle.std.proofs.Common.{ap, ◌∙◌, arith, eq-eqb, ne_eqb}
use Rattle.semantics.specs.Values.{ok, fault, check}
use Rattle.semantics.specs.Machine.{Machine, with_read_only, member, protect, writable}
use Rattle.semantics.specs.ListLaws.{All, nil, cons, all_append, all_weaker}
use Rattle.semantics.specs.declared.Error.TheVariants.{InvalidAccess}

or_assoc : (a b c : Bool) → (a || (b || c)) ≡ ((a || b) || c)
or_assoc true b c = refl
or_assoc false b c = refl

or_true : (a : Bool) → (a || true) ≡ true
or_true true = refl
or_true false = refl

or_false : (a : Bool) → (a || false) ≡ a
or_false true = refl
or_false false = refl

-- ---- numbers in a list

member_added : (i j : ℕ) (l : List ℕ) → member i (l ++ (j ∷ [])) ≡ (member i l || eqb i j)
unfolding member
member_added i j [] = or_false (eqb i j)
member_added i j (k ∷ l) = ap (λ b. eqb i k || b) (member_added i j l) ∙ or_assoc (eqb i k) (member i l) (eqb i j)

pub member_last : (i : ℕ) (l : List ℕ) → member i (l ++ (i ∷ [])) ≡ true
member_last i l = member_added i i l ∙ ap (λ b. member i l || b) (eq-eqb i i refl) ∙ or_true (member i l)

pub member_other : (i j : ℕ) (l : List ℕ) → (i ≡ j → ⊥) → member i (l ++ (j ∷ [])) ≡ member i l
member_other i j l n = member_added i j l ∙ ap (λ b. member i l || b) (ne_eqb i j n) ∙ or_false (member i l)

-- Numbers below n; n and what is above it are none of them.
abbrev pub Below : ℕ → List ℕ → Type 0
Below n l = All (λ i. i < n) l

pub member_above : {n : ℕ} {l : List ℕ} → Below n l → (i : ℕ) → n ≤ i → member i l ≡ false
unfolding member
member_above nil i h = refl
member_above (cons {a = j} {l = l} p ps) i h = ap (λ b. b || member i l) (ne_eqb i j (λ e. omega (arith, e, p, h))) ∙ member_above ps i h

pub below_added : {n : ℕ} {l : List ℕ} → Below n l → (i : ℕ) → i < n → Below n (l ++ (i ∷ []))
below_added h i l = all_append h (cons l nil)

pub below_more : {n k : ℕ} {l : List ℕ} → n ≤ k → Below n l → Below k l
below_more h b = all_weaker (λ i p. omega (arith, p, h)) b

-- ---- objects with the mark

-- An object has the mark once it gets it, and no other object gets it then.
pub protect_marks : (i : ℕ) (m : Machine) → member i (protect i m).read_only ≡ true
unfolding protect with_read_only
protect_marks i m = member_last i m.read_only

pub protect_others : (i j : ℕ) (m : Machine) → (j ≡ i → ⊥) → member j (protect i m).read_only ≡ member j m.read_only
unfolding protect with_read_only
protect_others i j m n = member_other j i m.read_only n

-- What may be written to has no mark, and what has it is refused.
pub writable_plain : (i : ℕ) (m : Machine) → member i m.read_only ≡ false → writable i m ≡ ok tt
unfolding writable check
writable_plain i m e = rw e refl

pub writable_marked : (i : ℕ) (m : Machine) → member i m.read_only ≡ true → writable i m ≡ fault InvalidAccess
unfolding writable check
writable_marked i m e = rw e refl
