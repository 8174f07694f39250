-- The mark for read only in the words and in the definition: headers that live on have the marks that they had, a new object has none, and an object that gets it in the
-- words gets it in the definition.
-- Assumes nothing.
use mathlib.Core.Path.{◌≡◌, sym, ap, ◌∙◌}
use mathlib.Core.List.{List, [], ◌∷◌, ◌++◌}
use mathlib.Core.Logic.{⊎_elim}
use Prim.Native.Nat.{ℕ, ◌/◌, ◌%◌, ◌≤◌}
use native.Mathlib.Omega.{arith}
use lib.ListN.{length, length-append}
use lib.Dec.{eqb}
use Rattle.semantics.specs.Values.{Value, Object}
use Rattle.semantics.specs.MarkLaws.{member_last, member_other, member_above, below_more, below_added}
use Rattle.heap.specs.Word.{word}
use Rattle.heap.specs.Chain.{live}
use Rattle.heap.specs.Upd.{upd}
use Rattle.heap.specs.Shape.{Ghost, size_unit}
use Rattle.heap.specs.Reading.{is_sealed}
use Rattle.heap.specs.Seal.{Seals}
use Rattle.heap.specs.declared.Lists.{Lists}
use Rattle.heap.proofs.Upds.{upd_same, upd_other, same?}
use Rattle.heap.proofs.Chains.{live_on}
use Rattle.heap.proofs.Sealings.{sealed_other}
use Rattle.store.specs.Rep.{Rep, Sealed}
use Rattle.store.proofs.Changes.{rep_kept}
use Rattle.store.proofs.Fresh.{Adds}

-- A header whose word 1 stays keeps its mark.
mark_stays : (m m' : List ℕ) (h : ℕ) → word m' h 1 ≡ word m h 1 → is_sealed m' h ≡ is_sealed m h
unfolding is_sealed
mark_stays m m' h e = ap (λ w. eqb (w / size_unit % 2) 1) e

pub sealed_kept : {ρ : ℕ → ℕ} {g g' : Ghost} {m m' : List ℕ} {store store' : List Object} {ids : List ℕ} → Sealed ρ g m store ids
    → length store ≤ length store'
    → ((h : ℕ) → g'.own h ≡ live → (g.own h ≡ live) × (word m' h 1 ≡ word m h 1))
    → Sealed ρ g' m' store' ids
sealed_kept {m = m} {m' = m'} S more f =
    record {
      marks = λ h l. let x = f h l in mark_stays m m' h x.1 ∙ S.marks h x.0;
      made = below_more more S.made;
    }

module _ {keys : List (List ℕ)} {n : ℕ} {ρ : ℕ → ℕ} {g : Ghost} {p : ℕ} {r : Lists} {m m' : List ℕ} {store : List Object} {roots : ℕ → Value} {h : ℕ} {o : Object} {ids : List ℕ}
    (A : Adds keys n ρ g p r m m' store roots h o) (fresh : g.own h ≡ live → ⊥) where
  pub sealed_new : Sealed ρ g m store ids → Sealed (upd ρ h (length store)) A.ghost m' (store ++ (o ∷ [])) ids
  sealed_new S =
      record {
        marks = λ x l. ⊎_elim
            (λ (q : x ≡ h). rw (q, upd_same ρ h (length store)) (A.plain ∙ sym (member_above S.made (length store) (omega arith))))
            (λ (q : x ≡ h → ⊥).
            let y = A.grows.lived x q l in
            rw (upd_other ρ h (length store) x q) (mark_stays m m' x (A.grows.lives x q y).3 ∙ S.marks x y))
            (same? x h);
        made = below_more (omega (arith, length-append store (o ∷ []))) S.made;
      }

-- The header h gets the mark.
module _ {keys : List (List ℕ)} {n : ℕ} {ρ : ℕ → ℕ} {g : Ghost} {m m' : List ℕ} {store : List Object} {roots : ℕ → Value} {h : ℕ}
    (R : Rep keys n ρ g m store roots) (lives : g.own h ≡ live) (K : Seals m h m') where
  pub sealed_rep : Rep keys n ρ g m' store roots
  sealed_rep =
      rep_kept R K.size (λ x. K.there x 0 (omega arith) (λ _ q. omega arith))
      (λ c a k o. K.there c 1 (omega arith) (λ q _. live_on (sym lives ∙ ap g.own (sym q) ∙ o)))

  pub sealed_marks : {ids : List ℕ} → Sealed ρ g m store ids → Sealed ρ g m' store (ids ++ (ρ h ∷ []))
  sealed_marks {ids} S =
      record {
        marks = λ x l. ⊎_elim
            (λ (q : x ≡ h). rw q (K.marked ∙ sym (member_last (ρ h) ids)))
            (λ (q : x ≡ h → ⊥). sealed_other K x q ∙ S.marks x l ∙ sym (member_other (ρ x) (ρ h) ids (λ e. q (R.one x h l lives e))))
            (same? x h);
        made = below_added S.made (ρ h) (R.id h lives);
      }
