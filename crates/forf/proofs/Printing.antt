-- What is printed of a run: its outcome, read back from the buffer, or its refusal.
-- Assumes nothing.
use mathlib.Core.Path.{◌≡◌, refl, sym, ap, ◌∙◌, subst}
use mathlib.Core.List.{List, ◌++◌}
use Prim.Native.Nat.{ℕ, ◌+◌, ◌*◌, ◌≤◌}
use lib.ListN.{length, take, drop, replicate, length-append}
use lib.Seq.{take_at}
use native.Mathlib.Nat.{zero-add}
use native.Mathlib.Omega.{arith}
use Rattle.semantics.specs.Sizes.{fuel_most, stack_most, head_room, item_room}
use Rattle.semantics.specs.Text.{bytes}
use Rattle.semantics.specs.Outcome.{line}
use Rattle.semantics.specs.ObjectOperators.{pasted}
use Rattle.text.specs.Writing.{Written}
use Rattle.text.proofs.Pasting.{respelt}
use Rattle.forf_semantics.specs.Setup.{Lent, verdict, printed}
use Rattle.forf_runner.specs.Promise.{Answer, number_of, verdict_of, Runs, AnswerIs, lent_of, the_run}
use Rattle.std.specs.Prelude.{Option, Some, None, Ok, Err}
use Rattle.forf_runner.specs.declared.Refusal.{Refusal}
use Rattle.forf.specs.Telling.{sizes, printed_text, refusal_line, told, Within}

length_within : (t l : List ℕ) → length t ≤ length (pasted 0 t l)
unfolding pasted
length_within t l = omega (arith, length-append (take 0 l ++ t) (drop (0 + length t) l), length-append (take 0 l) t)

pub within : {t l l' : List ℕ} {n : ℕ} → Written 0 t l l' n → n ≤ length l'
within {t} {l} w = omega (arith, w.end, ap (λ (x : List ℕ). length x) w.bytes, length_within t l)

read_pasted : (t l : List ℕ) → take (length t) (pasted 0 t l) ≡ t
unfolding pasted
read_pasted t l = take_at (take 0 l ++ t) (drop (0 + length t) l) (length t) refl

pub read_back : {t l l' : List ℕ} {n : ℕ} → Written 0 t l l' n → take n l' ≡ t
read_back {t} {l} w = rw (w.end, w.bytes, zero-add) (read_pasted t l)

-- ---- the definition's text

module _ (script : List ℕ) (l : Lent) (mem : List ℕ) where
  printed_refusal : (o : Option ℕ) → verdict script fuel_most l mem ≡ verdict_of o → (printed script fuel_most l mem).text ≡ refusal_line o
  unfolding printed line bytes
  printed_refusal (Some n) e = rw (printed, e) refl
  printed_refusal None e = rw (printed, e) refl

module _ {script s s' e e' mem mem' out out' : List ℕ} {a : Answer} (R : Runs script fuel_most s s' e e' mem mem' out out' a) where
  pub counts : length out' ≤ head_room + item_room * stack_most → Within a out'
  counts h = by a R.answers
    where
      by : (b : Answer) → AnswerIs script fuel_most s s' e e' mem mem' out out' b → Within b out'
      by (Err r) R = tt
      by (Ok r) R = (within R.1.outcome, h)

  defined : (b : Answer) → AnswerIs script fuel_most s s' e e' mem mem' out out' b → (printed script fuel_most (lent_of s e out) mem).text ≡ told b out'
  unfolding printed the_run
  defined (Err r) R = printed_refusal script (lent_of s e out) mem (number_of r) R.0
  defined (Ok r) R = rw (read_back R.1.outcome) (rw (printed, R.0) refl)

  pub prints : {page new : List ℕ} {r : ℕ} → lent_of s e out ≡ sizes → mem ≡ replicate 32 0 → Written 0 (told a out') page new r → Written 0 (printed_text script) page new r
  unfolding printed_text
  prints p q w = respelt (ap (λ (l : Lent). (printed script fuel_most l (replicate 32 0)).text) (sym p) ∙ ap (λ (m : List ℕ). (printed script fuel_most (lent_of s e out) m).text) (sym q) ∙ defined a R.answers) w

-- ---- an answer told

pub told_as : (o : List ℕ) {a b : Answer} {page new : List ℕ} {r : ℕ} → a ≡ b → Written 0 (told b o) page new r → Written 0 (told a o) page new r
told_as o p w = respelt (ap (λ (x : Answer). told x o) p) w

-- a refusal told by its number
pub told_refusal : (o : List ℕ) {a : Answer} {r : Refusal} {m n : Option ℕ} {page new : List ℕ} {q : ℕ} → a ≡ Err r → m ≡ number_of r → m ≡ n
    → Written 0 (refusal_line n) page new q → Written 0 (told a o) page new q
told_refusal o e p k w = told_as o e (respelt (ap refusal_line (sym p ∙ k)) w)

pub within_as : (o : List ℕ) {a b : Answer} → a ≡ b → Within a o → Within b o
within_as o p h = subst (λ (x : Answer). Within x o) p h
