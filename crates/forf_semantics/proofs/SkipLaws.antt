-- Space and comments, a comment at a time: from an open parenthesis the next closing one is looked for, and skipping goes on after it.
-- Assumes nothing.
use Rattle.std.specs.Prelude.{◌≡◌, refl, Bool, true, false, not, ◌&&◌, ◌||◌, List, [], ◌∷◌, ℕ, suc, ◌+◌, ◌≤◌, ◌<◌, length, drop, T, eqb}
use Rattle.std.proofs.Common.{ap, subst, arith, ne_eqb}
use Rattle.semantics.specs.Tokens.{is_space}
use Rattle.forf_semantics.specs.Tokens.{closes, is_blank, comment_after, blanks_in, blanks}
use Rattle.forf_semantics.specs.SkipLaws.{until}

pub until_le : (s : List ℕ) → until s ≤ length s
unfolding until
until_le [] = omega arith
until_le (b ∷ s) = by (eqb b 41) (until_le s)
  where
    by : (t : Bool) → until s ≤ length s → elim t [ true ↦ 0 | false ↦ suc (until s) ] ≤ suc (length s)
    by true h = omega arith
    by false h = omega arith

-- A closing parenthesis is ahead exactly where the search stops before the end.
pub closes_until : (s : List ℕ) → T (closes s) → until s < length s
unfolding until closes
closes_until [] h = absurd h
closes_until (b ∷ s) h = by (eqb b 41) (closes_until s) h
  where
    by : (t : Bool)
        → (T (closes s) → until s < length s)
        → T (elim t [ true ↦ true | false ↦ closes s ])
        → elim t [ true ↦ 0 | false ↦ suc (until s) ] < suc (length s)
    by true f h = omega arith
    by false f h = let k = f h in omega arith

pub until_closes : (s : List ℕ) → until s < length s → T (closes s)
unfolding until closes
until_closes [] h = absurd (omega arith)
until_closes (b ∷ s) h = by (eqb b 41) (until_closes s) h
  where
    by : (t : Bool)
        → (until s < length s → T (closes s))
        → elim t [ true ↦ 0 | false ↦ suc (until s) ] < suc (length s)
        → T (elim t [ true ↦ true | false ↦ closes s ])
    by true f h = tt
    by false f h = f (omega arith)

-- In a comment: up to its end, and what follows.
comment_blanks : (s : List ℕ) → T (closes s) → blanks_in true s ≡ suc (until s) + blanks_in false (drop (suc (until s)) s)
unfolding blanks_in is_blank comment_after until closes
comment_blanks [] h = absurd h
comment_blanks (b ∷ s) h = by (eqb b 41) (comment_blanks s) h
  where
    by : (t : Bool)
        → (T (closes s) → blanks_in true s ≡ suc (until s) + blanks_in false (drop (suc (until s)) s))
        → T (elim t [ true ↦ true | false ↦ closes s ])
        → suc (blanks_in (not t) s)
        ≡ suc (elim t [ true ↦ 0 | false ↦ suc (until s) ]) + blanks_in false (drop (suc (elim t [ true ↦ 0 | false ↦ suc (until s) ])) (b ∷ s))
    by true f h = omega arith
    by false f h = let e = f h in omega arith

-- ---- the theorems: what the next byte does

pub blanks_none : blanks [] ≡ 0
unfolding blanks blanks_in
blanks_none = refl

-- A byte of space.
pub blanks_space : (b : ℕ) (s : List ℕ) → T (is_space b) → blanks (b ∷ s) ≡ suc (blanks s)
unfolding blanks blanks_in is_blank comment_after
blanks_space b s h = by (is_space b) (eqb b 40) h (ne_eqb b 40 (λ e. subst (λ (a : ℕ). T (is_space a)) e h))
  where
    by : (t u : Bool)
        → T t
        → u ≡ false
        → elim (t || (u && closes s)) [ true ↦ suc (blanks_in u s) | false ↦ 0 ] ≡ suc (blanks_in false s)
    by true true h e = ap (λ u. suc (blanks_in u s)) e
    by true false h e = refl
    by false u h e = absurd h

-- A comment, that is closed.
pub blanks_comment : (s : List ℕ) → T (closes s) → blanks (40 ∷ s) ≡ suc (suc (until s)) + blanks (drop (suc (until s)) s)
unfolding blanks blanks_in is_blank comment_after
blanks_comment s h = by (closes s) h (comment_blanks s h)
  where
    by : (t : Bool)
        → T t
        → blanks_in true s ≡ suc (until s) + blanks_in false (drop (suc (until s)) s)
        → elim t [ true ↦ suc (blanks_in true s) | false ↦ 0 ] ≡ suc (suc (until s)) + blanks_in false (drop (suc (until s)) s)
    by true h e = omega arith
    by false h e = absurd h

-- Any other byte, and an open parenthesis that is never closed.
pub blanks_other : (b : ℕ) (s : List ℕ) → T (not (is_blank false b s)) → blanks (b ∷ s) ≡ 0
unfolding blanks blanks_in
blanks_other b s h = by (is_blank false b s) h
  where
    by : (t : Bool) → T (not t) → ◌≡◌ {A = ℕ} (elim t [ true ↦ suc (blanks_in (comment_after false b) s) | false ↦ 0 ]) 0
    by true h = absurd h
    by false h = refl
