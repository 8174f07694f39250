-- The 26 words by name (002, Built-in Procedures; 02, W10). Lines stand in the order of errors: stackunderflow, typecheck, rangecheck,
-- undefinedresult.
-- Assumes nothing.
use Rattle.std.specs.Prelude.{Bool, true, false, not, cond, List, [], ◌∷◌, ℕ, ◌-◌, ◌^◌, ℤ, pos, nat_abs, ◌+ℤ◌, ◌-ℤ◌, ◌*ℤ◌, get_or, set, ltb, eqb}
use Rattle.std.specs.Int.Signed.{lt_z, le_z, quot_z, rem_z, shr_z}
use Rattle.std.specs.Int.Bits.{bit_and, bit_or, bit_xor}
use Rattle.semantics.specs.Text.{bytes, same}
use Rattle.semantics.specs.Words.{signed, word, shift}
use Rattle.semantics.specs.Values.{ok, fault, ◌>>=◌, check}
use Rattle.forf_semantics.specs.Errors.{Result}
use Rattle.forf_semantics.specs.Machine.{Machine, integer, pending, with_memory, push, enter, pop1, pop2, pop3, int, body}
use Rattle.forf_semantics.specs.declared.Error.TheVariants.{Undefined, RangeCheck, UndefinedResult}

abbrev pub Operator : Type 0
Operator = Machine → Result Machine

-- ---- integers: x is on the top, y below it, each as its 32 bits

-- One integer gives one.
unfoldable pub unary : (ℕ → ℕ) → Operator
unary f m = do
  (x, τ) ← pop1 m
  a ← int x
  ok (push (integer (f a)) τ)

-- Two integers give one.
unfoldable pub binary : (ℕ → ℕ → ℕ) → Operator
binary f m = do
  (y, x, τ) ← pop2 m
  b ← int y
  a ← int x
  ok (push (integer (f b a)) τ)

-- A quotient or a remainder, toward zero: idiv and mod of 01.
unfoldable pub division : (ℤ → ℤ → ℤ) → Operator
division f m = do
  (y, x, τ) ← pop2 m
  b ← int y
  a ← int x
  _ ← check (not (eqb a 0)) UndefinedResult
  ok (push (integer (word (f (signed b) (signed a)))) τ)

-- The exact result, modulo 2 ^ 32.
unfoldable pub wrapping : (ℤ → ℤ → ℤ) → ℕ → ℕ → ℕ
wrapping f b a = word (f (signed b) (signed a))

unfoldable pub absolute : ℕ → ℕ
absolute a = word (pos (nat_abs (signed a)))

unfoldable pub inverted : ℕ → ℕ
inverted a = (2 ^ 32 - 1) - a

-- 1 if it is true, 0 if false.
unfoldable pub flag : Bool → ℕ
flag t = cond t 1 0

unfoldable pub compared : (ℤ → ℤ → Bool) → ℕ → ℕ → ℕ
compared f b a = flag (f (signed b) (signed a))

-- ---- shifts: a count outside 0 to 31, negative ones too, is 32 or more as a word

-- Bits are lost on the left; a count outside gives 0.
unfoldable pub left : ℕ → ℕ → ℕ
left b a = shift b (pos a)

-- The sign is spread; a count outside gives the sign in all bits, as 31 does.
unfoldable pub right : ℕ → ℕ → ℕ
right b a = word (shr_z (signed b) (2 ^ cond (ltb a 32) a 31))

-- ---- substacks

-- x s if
unfoldable pub if' : Operator
if' m = do
  (x, s, τ) ← pop2 m
  a ← int x
  xs ← body s
  ok (cond (eqb a 0) τ (enter (pending xs) τ))

-- x s t ifelse
unfoldable pub ifelse : Operator
ifelse m = do
  (x, s, t, τ) ← pop3 m
  a ← int x
  xs ← body s
  ys ← body t
  ok (enter (pending (cond (eqb a 0) ys xs)) τ)

-- ---- the stack, of any items

unfoldable pub pop : Operator
pop m = do
  (x, τ) ← pop1 m
  ok τ

unfoldable pub dup : Operator
dup m = do
  (x, τ) ← pop1 m
  ok (push x (push x τ))

unfoldable pub exch : Operator
exch m = do
  (y, x, τ) ← pop2 m
  ok (push y (push x τ))

-- ---- memory

-- A slot's number is from 0 to 31, else rangecheck.
unfoldable pub slot : ℕ → Result ℕ
slot a = do
  _ ← check (ltb a 32) RangeCheck
  ok a

-- y x mset
unfoldable pub mset : Operator
mset m = do
  (y, x, τ) ← pop2 m
  b ← int y
  a ← int x
  i ← slot a
  ok (with_memory (set τ.memory i b) τ)

-- x mget
unfoldable pub mget : Operator
mget m = do
  (x, τ) ← pop1 m
  a ← int x
  i ← slot a
  ok (push (integer (get_or τ.memory i 0)) τ)

-- ---- the table

-- A word and what it does.
pub record Entry : Type 0 where
  pub title : List ℕ
  pub action : Operator

infix 5 ◌is◌
unfoldable pub ◌is◌ : List ℕ → Operator → Entry
n is f = record { title = n; action = f }

unfoldable pub table : List Entry
table =
    (bytes "~" is unary inverted)
    ∷ (bytes "!" is unary (λ a. flag (eqb a 0)))
    ∷ (bytes "abs" is unary absolute)
    ∷ (bytes "+" is binary (wrapping ◌+ℤ◌))
    ∷ (bytes "-" is binary (wrapping ◌-ℤ◌))
    ∷ (bytes "*" is binary (wrapping ◌*ℤ◌))
    ∷ (bytes "/" is division quot_z)
    ∷ (bytes "%" is division rem_z)
    ∷ (bytes "&" is binary bit_and)
    ∷ (bytes "|" is binary bit_or)
    ∷ (bytes "^" is binary bit_xor)
    ∷ (bytes "<<" is binary left)
    ∷ (bytes ">>" is binary right)
    ∷ (bytes ">" is binary (compared (λ y x. lt_z x y)))
    ∷ (bytes ">=" is binary (compared (λ y x. le_z x y)))
    ∷ (bytes "<" is binary (compared lt_z))
    ∷ (bytes "<=" is binary (compared le_z))
    ∷ (bytes "=" is binary (λ b a. flag (eqb b a)))
    ∷ (bytes "<>" is binary (λ b a. flag (not (eqb b a))))
    ∷ (bytes "if" is if')
    ∷ (bytes "ifelse" is ifelse)
    ∷ (bytes "pop" is pop)
    ∷ (bytes "dup" is dup)
    ∷ (bytes "exch" is exch)
    ∷ (bytes "mset" is mset)
    ∷ (bytes "mget" is mget)
    ∷ []

unfoldable pub find : List ℕ → List Entry → Operator
find n [] m = fault Undefined
find n (e ∷ es) m = elim (same n e.title) [ true ↦ e.action m | false ↦ find n es m ]

-- A word acts; a word that is none of these is undefined.
unfoldable pub perform : List ℕ → Operator
perform n = find n table

-- Opens every definition of this file.
unfoldable pub operators : Unit {0}
unfolding unary binary division wrapping absolute inverted flag compared left right if' ifelse pop dup exch slot mset mget ◌is◌ table find perform
operators = tt
