-- Reversal by exchanges, and roll by three reversals: on lists, and the loop of `reverse`.
-- Assumes nothing.
use Prim.Native.Nat.{ℕ, suc, ◌+◌, ◌-◌, ◌<◌, ◌≤◌, ◌/◌}
use native.Mathlib.Omega.{arith}
use mathlib.Core.Path.{◌≡◌, refl, sym, ap, ap₂, ◌∙◌, subst}
use mathlib.Core.List.{List, [], ◌∷◌, ◌++◌, append_assoc, reverse, reverse-cons, reverse-append, reverse-reverse}
use lib.ListN.{length, take, drop, get_or, set, length-append, length-take, length-drop, length-reverse, take-append-drop}
use lib.Seq.{split_at, take_at, drop_at, drop-drop, get_or-append_seam, set-append_seam, append_snoc, length-take-le, take-take}
use Rattle.semantics.specs.Values.{Value, null}
use Rattle.semantics.specs.Machine as Floo
use Rattle.semantics.specs.Machine.{with_stack}
use Rattle.machine.specs.Rep.{Rep, MovesStack}
use Rattle.machine.specs.Moves.{swapped}
use Rattle.machine.specs.declared.Machine.{Machine}
use Rattle.machine.proofs.Outcomes.{stack_depth, then_stack, same_stack}
use Rattle.stack_operators.specs.Rearranged.{rev_at, reversed, roll_at, rolled}

-- ---- on lists

-- What `swapped` does to the stack.
unfoldable pub swap_at : ℕ → ℕ → List Value → List Value
swap_at i j l = set (set l i (get_or l j null)) j (get_or l i null)

-- Two elements change places where they stand.
swap_mid : (p m r : List Value) (x y : Value) → swap_at (length p) (length (p ++ (x ∷ m))) (p ++ (x ∷ (m ++ (y ∷ r)))) ≡ p ++ (y ∷ (m ++ (x ∷ r)))
unfolding swap_at
swap_mid [] m r x y = λ k. get_or-append_seam m y r null k ∷ set-append_seam m y r x k
swap_mid (c ∷ p) m r x y = ap (λ (l : List Value). c ∷ l) (swap_mid p m r x y)

-- A part is turned over where it stands.
rev_part : (p n r : List Value) (lo hi : ℕ) → length p ≡ lo → lo + length n ≡ hi → rev_at lo hi (p ++ (n ++ r)) ≡ p ++ (reverse n ++ r)
unfolding rev_at
rev_part p n r lo hi a b =
    let c : length n ≡ hi - lo = omega arith in
    let d : length (p ++ n) ≡ hi = length-append p n ∙ omega arith in
    let x : take lo (p ++ (n ++ r)) ≡ p = take_at p (n ++ r) lo a in
    let y : take (hi - lo) (drop lo (p ++ (n ++ r))) ≡ n = ap (take (hi - lo)) (drop_at p (n ++ r) lo a) ∙ take_at n r (hi - lo) c in
    let z : drop hi (p ++ (n ++ r)) ≡ r = ap (drop hi) (sym (append_assoc p n r)) ∙ drop_at (p ++ n) r hi d in
    λ i. x i ++ (reverse (y i) ++ z i)

-- Two elements of a list, and what is before, between and after them.
record Ends (l : List Value) (lo hi : ℕ) : Type 0 where
  before : List Value
  first : Value
  between : List Value
  last : Value
  after : List Value
  split : l ≡ before ++ (first ∷ (between ++ (last ∷ after)))
  place : length before ≡ lo
  width : lo + length between + 2 ≡ hi

ends : (l : List Value) (lo hi : ℕ) → lo + 2 ≤ hi → hi ≤ length l → Ends l lo hi
ends l lo hi a b =
    let rest = drop (suc lo) l in
    let n = hi - lo - 2 in
    let k : n < length rest = simp length-drop (omega arith) in
    let f : length (take n rest) ≡ n = length-take-le n rest (omega arith) in
    record {
      before = take lo l;
      first = get_or l lo null;
      between = take n rest;
      last = get_or rest n null;
      after = drop (suc n) rest;
      split = split_at l lo null (omega arith) ∙ ap (λ (t : List Value). take lo l ++ (get_or l lo null ∷ t)) (split_at rest n null k);
      place = length-take-le lo l (omega arith);
      width = omega arith;
    }

-- An exchange of the ends leaves a shorter part to turn over.
pub rev_swap : (l : List Value) (lo hi : ℕ) → lo + 2 ≤ hi → hi ≤ length l → rev_at lo hi l ≡ rev_at (lo + 1) (hi - 1) (swap_at lo (hi - 1) l)
rev_swap l lo hi a b =
    let E = ends l lo hi a b in
    let p = E.before in
    let x = E.first in
    let m = E.between in
    let y = E.last in
    let r = E.after in
    let at_lo : length p ≡ lo = E.place in
    let at_hi : lo + length m + 2 ≡ hi = E.width in
    let part : List Value = x ∷ (m ++ (y ∷ [])) in
    let parted : l ≡ p ++ (part ++ r) = E.split ∙ ap (λ (t : List Value). p ++ (x ∷ t)) (sym (append_assoc m (y ∷ []) r)) in
    let long : length (m ++ (y ∷ [])) ≡ length m + 1 = length-append m (y ∷ []) in
    let long₁ : length (p ++ (x ∷ m)) ≡ length p + suc (length m) = length-append p (x ∷ m) in
    let long₂ : length (p ++ (y ∷ [])) ≡ length p + 1 = length-append p (y ∷ []) in
    let at_last : hi - 1 ≡ length (p ++ (x ∷ m)) = omega arith in
    let swapped : swap_at lo (hi - 1) l ≡ (p ++ (y ∷ [])) ++ (m ++ (x ∷ r)) =
    (λ i. swap_at (sym at_lo i) (at_last i) (E.split i)) ∙ swap_mid p m r x y ∙ sym (append_snoc p y (m ++ (x ∷ r))) in
    let turned : reverse part ≡ y ∷ (reverse m ++ (x ∷ [])) =
    reverse-cons x (m ++ (y ∷ [])) ∙ ap (λ (t : List Value). t ++ (x ∷ [])) (reverse-append m (y ∷ [])) in
    ap (rev_at lo hi) parted
    ∙ rev_part p part r lo hi at_lo (omega arith)
    ∙ ap (λ (t : List Value). p ++ (t ++ r)) turned
    ∙ ap (λ (t : List Value). p ++ (y ∷ t)) (append_assoc (reverse m) (x ∷ []) r)
    ∙ sym (append_snoc p y (reverse m ++ (x ∷ r)))
    ∙ sym (ap (rev_at (lo + 1) (hi - 1)) swapped ∙ rev_part (p ++ (y ∷ [])) m (x ∷ r) (lo + 1) (hi - 1) (omega arith) (omega arith))

rev_short : (l : List Value) → length l ≤ 1 → reverse l ≡ l
rev_short [] h = refl
rev_short (x ∷ []) h = refl
rev_short (x ∷ y ∷ l) h = absurd (omega arith)

-- The three parts of a list.
parts : (l : List Value) (lo hi : ℕ) → lo ≤ hi → take lo l ++ (take (hi - lo) (drop lo l) ++ drop hi l) ≡ l
parts l lo hi h =
    let q : hi ≡ lo + (hi - lo) = omega arith in
    let e : drop hi l ≡ drop (hi - lo) (drop lo l) = ap (λ (n : ℕ). drop n l) q ∙ sym (drop-drop (hi - lo) lo l) in
    ap (λ (t : List Value). take lo l ++ (take (hi - lo) (drop lo l) ++ t)) e
    ∙ ap (λ (t : List Value). take lo l ++ t) (take-append-drop (hi - lo) (drop lo l))
    ∙ take-append-drop lo l

pub rev_done : (l : List Value) (lo hi : ℕ) → lo ≤ hi → hi - lo ≤ 1 → rev_at lo hi l ≡ l
unfolding rev_at
rev_done l lo hi h d =
    let k : length (take (hi - lo) (drop lo l)) ≤ 1 = simp length-take (omega arith) in
    ap (λ (t : List Value). take lo l ++ (t ++ drop hi l)) (rev_short (take (hi - lo) (drop lo l)) k) ∙ parts l lo hi h

-- Turning two parts over, and then the whole, exchanges them.
pub roll_law : (l : List Value) (n k : ℕ) → k ≤ n → n ≤ length l → rev_at 0 n (rev_at k n (rev_at 0 k l)) ≡ roll_at n k l
unfolding roll_at
roll_law l n k a b =
    let x : List Value = take k l in
    let y : List Value = take (n - k) (drop k l) in
    let r : List Value = drop n l in
    let lx : length x ≡ k = length-take-le k l (omega arith) in
    let ld : length (drop k l) ≡ length l - k = length-drop k l in
    let ly : length y ≡ n - k = length-take-le (n - k) (drop k l) (omega arith) in
    let lr : length (reverse x) ≡ length x = length-reverse x in
    let ls : length (reverse y) ≡ length y = length-reverse y in
    let lz : length (reverse x ++ reverse y) ≡ length (reverse x) + length (reverse y) = length-append (reverse x) (reverse y) in
    let lw : length (x ++ y) ≡ length x + length y = length-append x y in
    let p : l ≡ x ++ (y ++ r) = sym (parts l k n a) in
    let t : take k (take n l) ≡ x = take-take k n l a in
    let q : drop k (take n l) ≡ y =
    ap (λ (t : List Value). drop k (take n t)) (p ∙ sym (append_assoc x y r)) ∙ ap (drop k) (take_at (x ++ y) r n (omega arith)) ∙ drop_at x y k lx in
    ap (λ (t : List Value). rev_at 0 n (rev_at k n (rev_at 0 k t))) p
    ∙ ap (λ (t : List Value). rev_at 0 n (rev_at k n t)) (rev_part [] x (y ++ r) 0 k refl (omega arith))
    ∙ ap (rev_at 0 n) (rev_part (reverse x) y r k n (omega arith) (omega arith) ∙ sym (append_assoc (reverse x) (reverse y) r))
    ∙ rev_part [] (reverse x ++ reverse y) r 0 n refl (omega arith)
    ∙ ap (λ (t : List Value). t ++ r) (reverse-append (reverse x) (reverse y) ∙ ap₂ ◌++◌ (reverse-reverse y) (reverse-reverse x))
    ∙ ap (λ (z : List Value). z ++ r) (ap₂ ◌++◌ (sym q) (sym t))

-- ---- the loop

-- What is left to reverse after k exchanges, of the items that now stand, gives what was asked.
pub record Turning (s₀ : List ℕ) (lo hi : ℕ) (m₀ : Machine) (s : List ℕ) (m : Machine) (k : ℕ) : Type 0 where
  pub deep : m.depth ≡ m₀.depth
  pub turns : (e d c l : List ℕ) (μ : Floo.Machine)
      → Rep m₀ s₀ e d c l μ
      → (t : List Value) × Rep m s e d c l (with_stack t μ) × (rev_at lo hi μ.stack ≡ rev_at (lo + k) (hi - k) t)

pub begin : (s : List ℕ) (lo hi : ℕ) (m : Machine) → Turning s lo hi m s m 0
unfolding with_stack
begin s lo hi m =
    let low : lo ≡ lo + 0 = omega arith in
    let high : hi ≡ hi - 0 = omega arith in
    record { deep = refl; turns = λ e d c l μ R. (μ.stack, R, λ i. rev_at (low i) (high i) μ.stack) }

module _ {s₀ : List ℕ} {lo hi : ℕ} {m₀ : Machine} {s : List ℕ} {m : Machine} {k : ℕ} (T : Turning s₀ lo hi m₀ s m k) (h : lo ≤ hi) where
  pub again : {s' : List ℕ} {r : Machine}
      → hi ≤ m₀.depth
      → k < (hi - lo) / 2
      → MovesStack (swapped (lo + k) (hi - 1 - k)) m r s s'
      → r.depth ≡ m.depth
      → Turning s₀ lo hi m₀ s' r (k + 1)
  unfolding swapped swap_at with_stack
  again deep few S same =
      record {
        deep = same ∙ T.deep;
        turns = λ e d c l μ R.
            let t = T.turns e d c l μ R in
            let n : length t.0 ≡ m.depth = stack_depth t.1 in
            let high : hi - 1 - k ≡ hi - k - 1 = omega arith in
            let low : lo + k + 1 ≡ lo + (k + 1) = omega arith in
            let less : hi - k - 1 ≡ hi - (k + 1) = omega arith in (
              swap_at (lo + k) (hi - 1 - k) t.0,
              S.moves e d c l (with_stack t.0 μ) t.1,
              t.2
                  ∙ rev_swap t.0 (lo + k) (hi - k) (omega arith) (omega (arith, T.deep))
                  ∙ (λ i. rev_at (low i) (less i) (swap_at (lo + k) (sym high i) t.0)),
            );
      }

  pub finish : (hi - lo) / 2 ≤ k → k ≤ (hi - lo) / 2 → MovesStack (reversed lo hi) m₀ m s₀ s
  unfolding reversed
  finish all few =
      record {
        moves = λ e d c l μ R.
            let t = T.turns e d c l μ R in
            subst (λ x. Rep m s e d c l (with_stack x μ)) (sym (t.2 ∙ rev_done t.0 (lo + k) (hi - k) (omega arith) (omega arith))) t.1;
      }

-- ---- three reversals

pub rolls : (k j : ℕ) {s a b c : List ℕ} {m p q r : Machine}
    → k + j ≤ m.depth
    → MovesStack (reversed 0 k) m p s a
    → MovesStack (reversed k (k + j)) p q a b
    → MovesStack (reversed 0 (k + j)) q r b c
    → MovesStack (rolled (k + j) k) m r s c
unfolding reversed rolled with_stack
rolls k j few X Y Z =
    same_stack (then_stack (then_stack X Y) Z) (λ μ q. ap (λ (t : List Value). with_stack t μ) (roll_law μ.stack (k + j) k (omega arith) (omega arith)))
