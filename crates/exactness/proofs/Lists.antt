-- Laws of lists: an element from the other end, the last one, and two lists along each other, each by induction on the list.
-- Assumes nothing.
use mathlib.Core.Path.{◌≡◌, refl, ap, ◌∙◌}
use mathlib.Core.List.{List, [], ◌∷◌, ◌++◌, reverse, reverse-cons}
use Prim.Native.Nat.{ℕ, zero, suc, ◌+◌, ◌<◌}
use native.Mathlib.Omega.{arith}
use lib.ListN.{length, get_or, length-reverse, get_or-append}
use lib.Seq.{get_or-append_seam}
use Rattle.heap.specs.Reading.{◌∈◌}
use Rattle.heap.proofs.Listing.{here, there}
use Rattle.exactness.specs.Traces.{last, Along, nil, cons}

-- Element i of k + 1 + i is element k from the other end.
pub get_d_reverse : {A : Type 0} (l : List A) (d : A) (i k : ℕ) → length l ≡ k + suc i → get_or (reverse l) k d ≡ get_or l i d
get_d_reverse [] d i k e = absurd (omega arith)
get_d_reverse (x ∷ l) d zero k e =
    let same : k ≡ length (reverse l) = omega (arith, length-reverse l) in
    ap (λ r. get_or r k d) (reverse-cons x l) ∙ ap (λ j. get_or (reverse l ++ (x ∷ [])) j d) same ∙ get_or-append_seam (reverse l) x [] d
get_d_reverse (x ∷ l) d (suc i) k e =
    ap (λ r. get_or r k d) (reverse-cons x l) ∙ get_or-append (reverse l) (x ∷ []) d k (omega (arith, length-reverse l)) ∙ get_d_reverse l d i k (omega arith)

pub get_d_in : (l : List ℕ) (q : ℕ) → q < length l → get_or l q 0 ∈ l
get_d_in [] q b = absurd (omega arith)
get_d_in (x ∷ l) zero b = here x x l refl
get_d_in (x ∷ l) (suc q) b = there (get_or l q 0) x l (get_d_in l q (omega arith))

pub last_snoc : {A : Type 0} (d : A) (l : List A) (x : A) → last d (l ++ (x ∷ [])) ≡ x
unfolding last
last_snoc d [] x = refl
last_snoc d (y ∷ l) x = last_snoc y l x

pub last_at : {A : Type 0} (d e : A) (l : List A) (n : ℕ) → length l ≡ suc n → last d l ≡ get_or l n e
unfolding last
last_at d e [] n q = absurd (omega (arith, q))
last_at d e (x ∷ []) zero q = refl
last_at d e (x ∷ []) (suc n) q = absurd (omega (arith, q))
last_at d e (x ∷ y ∷ l) zero q = absurd (omega (arith, q))
last_at d e (x ∷ y ∷ l) (suc n) q = last_at x e (y ∷ l) n (omega (arith, q))

module _ {A B : Type 0} {P : A → B → Type 0} where
  pub along_length : {xs : List A} {ys : List B} → Along P xs ys → length xs ≡ length ys
  along_length nil = refl
  along_length (cons p a) = ap suc (along_length a)

  pub along_snoc : {xs : List A} {ys : List B} {x : A} {y : B} → Along P xs ys → P x y → Along P (xs ++ (x ∷ [])) (ys ++ (y ∷ []))
  along_snoc nil q = cons q nil
  along_snoc (cons p a) q = cons p (along_snoc a q)

  pub along_last : {xs : List A} {ys : List B} {x : A} {y : B} → Along P xs ys → P x y → P (last x xs) (last y ys)
  unfolding last
  along_last nil q = q
  along_last (cons p a) q = along_last a p

  -- The elements at one place.
  pub along_at : {xs : List A} {ys : List B} → Along P xs ys → (x : A) (y : B) (n : ℕ) → n < length xs → P (get_or xs n x) (get_or ys n y)
  along_at nil x y n b = absurd (omega (arith, b))
  along_at (cons p a) x y zero b = p
  along_at (cons p a) x y (suc n) b = along_at a x y n (omega (arith, b))
