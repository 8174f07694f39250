-- What is printed of a run: its log and outcome, read back from the buffers, or its refusal.
-- Assumes nothing.
use Rattle.std.specs.Prelude.{Ok, Err}
use mathlib.Core.Path.{◌≡◌, refl, sym, ap, ◌∙◌, subst}
use mathlib.Core.List.{List, ◌++◌}
use Prim.Native.Nat.{ℕ, zero, suc, ◌+◌, ◌≤◌, ◌<◌}
use lib.ListN.{length, take, drop, length-append}
use lib.Seq.{take_at, length-take-le}
use native.Mathlib.Nat.{zero-add}
use native.Mathlib.Omega.{arith}
use Rattle.semantics.specs.Text.{bytes, decimal}
use Rattle.semantics.specs.Outcome.{line, outcome}
use Rattle.semantics.specs.ObjectOperators.{pasted}
use Rattle.semantics.specs.Steps.{initial}
use Rattle.semantics.specs.Setup.{Lent, refusal, printed}
use Rattle.text.specs.Writing.{Written}
use Rattle.text.proofs.Pasting.{then, respelt}
use Rattle.runner.specs.Promise.{Answer, Runs, AnswerIs, lent_of, the_run}
use Rattle.setup.specs.Lending.{number_of}
use Rattle.setup.specs.declared.Refusal.{Refusal}
use Rattle.runner.specs.declared.Report.{Report}
use Rattle.floo.specs.Sizes.{fuel, sizes, page}
use Rattle.floo.specs.Telling.{Within, told}

-- ---- a text at the start of a buffer

length_within : (t l : List ℕ) → length t ≤ length (pasted 0 t l)
unfolding pasted
length_within t l = omega (arith, length-append (take 0 l ++ t) (drop (0 + length t) l), length-append (take 0 l) t)

pub within : {t l l' : List ℕ} {n : ℕ} → Written 0 t l l' n → n ≤ length l'
within {t} {l} w = omega (arith, w.end, ap (λ (x : List ℕ). length x) w.bytes, length_within t l)

read_pasted : (t l : List ℕ) → take (length t) (pasted 0 t l) ≡ t
unfolding pasted
read_pasted t l = take_at (take 0 l ++ t) (drop (0 + length t) l) (length t) refl

pub read_back : {t l l' : List ℕ} {n : ℕ} → Written 0 t l l' n → take n l' ≡ t
read_back {t} {l} w = rw (w.end, w.bytes, zero-add) (read_pasted t l)

-- ---- the definition's text

printed_refusal : (script : List ℕ) (g : Lent) (n : ℕ) → refusal script fuel g ≡ n → 0 < n → printed script fuel g ≡ line (bytes "refused") (decimal n)
unfolding printed
printed_refusal script g zero e h = absurd (omega arith)
printed_refusal script g (suc n) e h = rw (e, printed)

printed_run : (script : List ℕ) (g : Lent) → refusal script fuel g ≡ 0 → printed script fuel g ≡ (the_run script fuel g initial).final.machine.log ++ outcome (the_run script fuel g initial)
unfolding printed
printed_run script g e = rw (e, printed)

-- The buffers are of the program's sizes.
abbrev pub Sized : List ℕ → List ℕ → List ℕ → List ℕ → List ℕ → List ℕ → Type 0
Sized s e d c l o =
    (length s ≡ sizes.stack_words) × (length e ≡ sizes.exec_words) × (length d ≡ sizes.dictionary_words) × (length c ≡ sizes.cell_words) × (length l ≡ sizes.log_bytes) × (length o ≡ sizes.outcome_bytes)

lent : (s e d c l o : List ℕ) → Sized s e d c l o → lent_of s e d c l o ≡ sizes
lent s e d c l o (p, q, u, v, w, x) = rw (p, q, u, v, w, x)

module _ {script s s' e e' d d' c c' l l' o o' : List ℕ} {a : Answer} (runs : Runs script fuel s s' e e' d d' c c' l l' o o' a) where
  counted : (b : Answer) → AnswerIs script fuel s s' e e' d d' c c' l l' o o' b → length l' + length o' ≤ page → Within b l' o'
  counted (Err r) is h = tt
  counted (Ok x) is h = let p = within is.1.log in let q = within is.1.outcome in (p, q, omega (arith, p, q, h))

  pub counts : length l' + length o' ≤ page → Within a l' o'
  counts h = counted a runs.answers h

  defined : (b : Answer) → AnswerIs script fuel s s' e e' d d' c c' l l' o o' b → printed script fuel (lent_of s e d c l o) ≡ told b l' o'
  defined (Err r) is = printed_refusal script (lent_of s e d c l o) (number_of r) is.0 is.1
  defined (Ok x) is = rw (read_back is.1.log, read_back is.1.outcome) (printed_run script (lent_of s e d c l o) is.0)

  pub prints : {page new : List ℕ} {r : ℕ} → Sized s e d c l o → Written 0 (told a l' o') page new r → Written 0 (printed script fuel sizes) page new r
  prints sized w = respelt (ap (printed script fuel) (sym (lent s e d c l o sized)) ∙ defined a runs.answers) w

-- ---- an answer told

pub within_run : (l o : List ℕ) {a : Answer} {x : Report} → a ≡ Ok x → Within a l o → (x.log ≤ length l) × (x.outcome ≤ length o) × (x.log + x.outcome ≤ page)
within_run l o p h = subst (λ (b : Answer). Within b l o) p h

pub parts : (l o : List ℕ) {a : Answer} {x : Report} → a ≡ Ok x → Within a l o → (length (take x.log l) ≡ x.log) × (length (take x.outcome o) ≡ x.outcome)
parts l o p h = let few = within_run l o p h in (length-take-le _ _ few.0, length-take-le _ _ few.1)

pub told_refusal : (l o : List ℕ) {a : Answer} {x : Refusal} {n : ℕ} {page new : List ℕ} {r : ℕ}
    → a ≡ Err x → n ≡ number_of x → Written 0 (line (bytes "refused") (decimal n)) page new r → Written 0 (told a l o) page new r
told_refusal l o p q w = respelt (ap (λ (b : Answer). told b l o) p ∙ ap (λ n. line (bytes "refused") (decimal n)) (sym q)) w

pub told_run : (l o : List ℕ) {a : Answer} {x : Report} {page mid new : List ℕ} {next r : ℕ}
    → a ≡ Ok x → Written 0 (take x.log l) page mid next → Written next (take x.outcome o) mid new r → Written 0 (told a l o) page new r
told_run l o p u w = respelt (ap (λ (b : Answer). told b l o) p) (then (omega arith) u w)
