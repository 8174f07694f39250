-- Slots: the topmost one, how many there are, and what a slot that is put does to them.
-- Assumes nothing.
use mathlib.Core.Path.{◌≡◌, refl, ap, ap₂, ◌∙◌}
use mathlib.Core.List.{List, [], ◌∷◌}
use Prim.Native.Nat.{ℕ, zero, suc, ◌+◌, ◌-◌, ◌*◌, ◌≤◌, ◌<◌}
use native.Mathlib.Omega.{arith}
use native.Mathlib.Nat.{mul-le-mul_left, mul-suc}
use lib.ListN.{length, get_or, set, length-set}
use lib.Seq.{get_or-set_same, get_or-set_other}
use Rattle.semantics.specs.ListLaws.{All, cons}
use Rattle.forf_machine.specs.Slots.{Slot, slots, put_slot}

pub length_slots : (w n : ℕ) (s : List ℕ) → length (slots w n s) ≡ n
unfolding slots
length_slots w zero s = refl
length_slots w (suc n) s = ap suc (length_slots w n s)

pub length_put : (w i t p : ℕ) (s : List ℕ) → length (put_slot w i t p s) ≡ length s
unfolding put_slot
length_put w i t p s = length-set (set s (w * i) t) (w * i + 1) p ∙ length-set s (w * i) t

pub no_slots : (w n : ℕ) (s : List ℕ) → n < 1 → slots w n s ≡ []
unfolding slots
no_slots w zero s h = refl
no_slots w (suc n) s h = absurd (omega arith)

pub top_slot : (w n : ℕ) (s : List ℕ) → 1 ≤ n → slots w n s ≡ (get_or s (w * (n - 1)) 0, get_or s (w * (n - 1) + 1) 0) ∷ slots w (n - 1) s
unfolding slots
top_slot w n s h =
    let e : n ≡ suc (n - 1) = omega arith in
    ap (λ (i : ℕ). slots w i s) e

pub top_slots : (w n : ℕ) (s : List ℕ) → 2 ≤ n
    → slots w n s ≡ (get_or s (w * (n - 1)) 0, get_or s (w * (n - 1) + 1) 0) ∷ (get_or s (w * (n - 2)) 0, get_or s (w * (n - 2) + 1) 0) ∷ slots w (n - 2) s
unfolding slots
top_slots w n s h =
    let e : n - 1 ≡ suc (n - 2) = omega arith in
    top_slot w n s (omega arith) ∙ ap (λ (i : ℕ). (get_or s (w * (n - 1)) 0, get_or s (w * (n - 1) + 1) 0) ∷ slots w i s) e

pub three_slots : (w n : ℕ) (s : List ℕ) → 3 ≤ n
    → slots w n s
    ≡ (get_or s (w * (n - 1)) 0, get_or s (w * (n - 1) + 1) 0)
    ∷ (get_or s (w * (n - 2)) 0, get_or s (w * (n - 2) + 1) 0)
    ∷ (get_or s (w * (n - 3)) 0, get_or s (w * (n - 3) + 1) 0)
    ∷ slots w (n - 3) s
unfolding slots
three_slots w n s h =
    let e : n - 2 ≡ suc (n - 3) = omega arith in
    top_slots w n s (omega arith)
    ∙ ap (λ (i : ℕ). (get_or s (w * (n - 1)) 0, get_or s (w * (n - 1) + 1) 0) ∷ (get_or s (w * (n - 2)) 0, get_or s (w * (n - 2) + 1) 0) ∷ slots w i s) e

-- ---- a slot is put

-- A slot below another ends before it.
below : (w n i : ℕ) → n < i → w * n + w ≤ w * i
below w n i h =
    let e : suc n ≤ i = omega arith in
    omega (arith, mul-le-mul_left w e, mul-suc w n)

other : (w i t p : ℕ) (s : List ℕ) (j : ℕ) → (j ≡ w * i → ⊥) → (j ≡ w * i + 1 → ⊥) → get_or (put_slot w i t p s) j 0 ≡ get_or s j 0
unfolding put_slot
other w i t p s j a b = get_or-set_other (set s (w * i) t) (w * i + 1) j p 0 b ∙ get_or-set_other s (w * i) j t 0 a

same_slot : (w n i t p : ℕ) (s : List ℕ) → 2 ≤ w → suc n ≤ i
    → ◌≡◌ {A = Slot} (get_or (put_slot w i t p s) (w * n) 0, get_or (put_slot w i t p s) (w * n + 1) 0) (get_or s (w * n) 0, get_or s (w * n + 1) 0)
same_slot w n i t p s h k =
    let b = below w n i (omega arith) in
    ap₂ (λ (x y : ℕ). (x, y)) (other w i t p s (w * n) (λ e. omega arith) (λ e. omega arith)) (other w i t p s (w * n + 1) (λ e. omega arith) (λ e. omega arith))

pub put_below : (w n i t p : ℕ) (s : List ℕ) → 2 ≤ w → n ≤ i → slots w n (put_slot w i t p s) ≡ slots w n s
unfolding slots
put_below w zero i t p s h k = refl
put_below w (suc n) i t p s h k = ap₂ (λ (x : Slot) (l : List Slot). x ∷ l) (same_slot w n i t p s h k) (put_below w n i t p s h (omega arith))

pub put_top : (w i t p : ℕ) (s : List ℕ) → 2 ≤ w → w * i + 1 < length s → slots w (suc i) (put_slot w i t p s) ≡ (t, p) ∷ slots w i s
unfolding slots put_slot
put_top w i t p s h k =
    ap₂ (λ (x : Slot) (l : List Slot). x ∷ l)
    (ap₂ (λ (x y : ℕ). (x, y))
    (get_or-set_other (set s (w * i) t) (w * i + 1) (w * i) p 0 (λ e. omega arith) ∙ get_or-set_same s (w * i) t 0 (omega arith))
    (get_or-set_same (set s (w * i) t) (w * i + 1) p 0 (omega (arith, length-set s (w * i) t))))
    (put_below w i i t p s h (omega arith))

-- The topmost of n slots.
pub put_last : (w n t p : ℕ) (s : List ℕ) → 2 ≤ w → 1 ≤ n → w * (n - 1) + 1 < length s → slots w n (put_slot w (n - 1) t p s) ≡ (t, p) ∷ slots w (n - 1) s
put_last w n t p s h l k =
    let e : n ≡ suc (n - 1) = omega arith in
    ap (λ (i : ℕ). slots w i (put_slot w (n - 1) t p s)) e ∙ put_top w (n - 1) t p s h k

-- ---- what holds of all

pub all_tail : {A : Type 0} {P : A → Type 0} {x : A} {l : List A} → All P (x ∷ l) → All P l
all_tail (cons p ps) = ps

pub all_head : {A : Type 0} {P : A → Type 0} {x : A} {l : List A} → All P (x ∷ l) → P x
all_head (cons p ps) = p
