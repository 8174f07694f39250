-- Names in a list, each with a blank after it: the search for the blank, and what it finds where a name has none itself.
-- Assumes nothing.
use mathlib.Core.Path.{◌≡◌, sym, ap, ◌∙◌, subst}
use mathlib.Core.Bool.{Bool, true, not, ◌&&◌}
use mathlib.Core.List.{List, ◌∷◌, ◌++◌}
use mathlib.Core.Logic.{⊎_elim}
use mathlib.Core.Option.{some}
use Prim.Native.Nat.{ℕ, zero, suc, ◌+◌, ◌-◌, ◌≤◌, ◌<◌}
use native.Mathlib.Omega.{arith}
use lib.Dec.{T, leb, eqb, leb→le}
use borrow.Author.Tests.{eq-eqb}
use Rattle.semantics.specs.ListLaws.{All, nil, cons, every, all_every, at_all, both}
use lib.ListN.{length, get_or, take, drop, get_elem?, length-append, length-drop, get_or-append}
use lib.Seq.{get_or-drop, get_or-append_seam, take-append_seam, drop-drop, drop-append-add}
use Rattle.semantics.specs.Sizes.{name_most}
use Rattle.heap.proofs.Since.{lt_or_le}
use Rattle.dictionary.specs.Listing.{Ends}

-- No blank up to here.
pub record Seeking (list : List ℕ) (at end : ℕ) : Type 0 where
  pub after : at ≤ end
  pub within : end ≤ length list
  pub none : (i : ℕ) → at ≤ i → i < end → get_or list i 0 ≡ 32 → ⊥

module _ {list : List ℕ} {at : ℕ} where
  pub seek_begin : at ≤ length list → Seeking list at at
  seek_begin l = record { after = omega arith; within = l; none = λ i a b. absurd (omega arith) }

  module _ {end : ℕ} (S : Seeking list at end) where
    pub seek_again : end < length list → (get_or list end 0 ≡ 32 → ⊥) → Seeking list at (end + 1)
    seek_again l f =
        record {
          after = omega (arith, S.after);
          within = omega arith;
          none = λ i a b q.
              ⊎_elim
              (λ (y : i < end). S.none i a y q)
              (λ (y : end ≤ i).
              let e : end ≡ i = omega arith in
              f (ap (λ x. get_or list x 0) e ∙ q))
              (lt_or_le i end);
        }

    pub seek_found : get_or list end 0 ≡ 32 → Ends list at end
    seek_found q = record { after = S.after; within = S.within; none = S.none; here = λ l. q }

    pub seek_end : length list ≤ end → Ends list at end
    seek_end l = record { after = S.after; within = S.within; none = S.none; here = λ x. absurd (omega arith) }

-- A name with no blank in it.
pub record Plain (n : List ℕ) : Type 0 where
  pub short : length n ≤ name_most
  pub whole : (i : ℕ) → i < length n → get_or n i 0 ≡ 32 → ⊥

abbrev pub plain : List ℕ → Bool
plain n = leb (length n) name_most && every (λ b. not (eqb b 32)) n

no_blank : {n : List ℕ} → All (λ b. T (not (eqb b 32))) n → (i : ℕ) → i < length n → get_or n i 0 ≡ 32 → ⊥
no_blank nil i l e = absurd (omega arith)
no_blank (cons {a = b} p ps) zero l e = subst (λ t. T (not t)) (eq-eqb b 32 e) p
no_blank (cons p ps) (suc i) l e = no_blank ps i (omega arith) e

is_plain : (n : List ℕ) → T (plain n) → Plain n
is_plain n t =
    let parts = both (leb (length n) name_most) (every (λ b. not (eqb b 32)) n) t in
    record { short = leb→le (length n) name_most parts.0; whole = no_blank (all_every (λ b. not (eqb b 32)) n parts.1) }

-- Names that are all so, by computation.
pub plain_at : (ns : List (List ℕ)) → every plain ns ≡ true → (k : ℕ) (n : List ℕ) → get_elem? ns k ≡ some n → Plain n
plain_at ns all k n e = is_plain n (at_all (all_every plain ns (subst T (sym all) tt)) k n e)

module _ (list : List ℕ) (at r : ℕ) (n rest : List ℕ) (e : drop at list ≡ n ++ (32 ∷ rest)) (within : at ≤ length list) where
  inside : (i : ℕ) → i < length n → get_or list (at + i) 0 ≡ get_or n i 0
  inside i l = sym (get_or-drop at list i 0) ∙ ap (λ x. get_or x i 0) e ∙ get_or-append n (32 ∷ rest) 0 i l

  blank : get_or list (at + length n) 0 ≡ 32
  blank = sym (get_or-drop at list (length n) 0) ∙ ap (λ x. get_or x (length n) 0) e ∙ get_or-append_seam n 32 rest 0

  pub room : at + length n < length list
  room = omega (arith, length-drop at list, ap length e, length-append n (32 ∷ rest))

  -- The blank that is found is the one after the name.
  pub name_end : Plain n → Ends list at r → r ≡ at + length n
  name_end P E =
      ⊎_elim
      (λ (y : r < at + length n).
      let place : at + (r - at) ≡ r = omega (arith, E.after) in
      let here : get_or list r 0 ≡ 32 = E.here (omega (arith, room)) in
      absurd (P.whole (r - at) (omega (arith, E.after)) (sym (inside (r - at) (omega (arith, E.after))) ∙ ap (λ x. get_or list x 0) place ∙ here)))
      (λ (y : at + length n ≤ r).
      ⊎_elim
      (λ (z : at + length n < r). absurd (E.none (at + length n) (omega arith) z blank))
      (λ (z : r ≤ at + length n). omega arith)
      (lt_or_le (at + length n) r))
      (lt_or_le r (at + length n))

  pub name_slice : r ≡ at + length n → take (r - at) (drop at list) ≡ n
  name_slice q =
      let size : r - at ≡ length n = omega arith in
      ap (λ k. take k (drop at list)) size ∙ ap (take (length n)) e ∙ take-append_seam n (32 ∷ rest)

  pub name_after : r ≡ at + length n → drop (r + 1) list ≡ rest
  name_after q =
      let size : r + 1 ≡ at + (length n + 1) = omega arith in
      ap (λ k. drop k list) size ∙ sym (drop-drop (length n + 1) at list) ∙ ap (drop (length n + 1)) e ∙ drop-append-add n (32 ∷ rest) 1
