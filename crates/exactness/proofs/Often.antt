-- The root places name each object as often as the definition's roots list it: the places are summed by region, and each region has the values of one list.
-- Assumes nothing.
use mathlib.Core.Path.{◌≡◌, refl, sym, ap, ◌∙◌}
use mathlib.Core.List.{List, [], ◌∷◌, ◌++◌, map}
use Prim.Native.Nat.{ℕ, zero, suc, ◌+◌, ◌*◌, ◌≤◌}
use native.Mathlib.Nat.{zero-add}
use native.Mathlib.Omega.{arith}
use lib.ListN.{length}
use Rattle.semantics.specs.Values.{Value, null}
use Rattle.semantics.specs.Machine.{Machine, Slot}
use Rattle.semantics.specs.Held.{of_value, sum_of}
use Rattle.semantics.specs.Held as Held
use Rattle.heap.specs.Upd.{total}
use Rattle.heap.specs.Reading as Reading
use Rattle.heap.specs.Reading.{from}
use Rattle.heap.proofs.Upds.{total_same, total_upd}
use Rattle.heap.proofs.Bodies.{total_none}
use Rattle.heap.proofs.Listing.{sum_from}
use Rattle.store.specs.Matching.{times}
use Rattle.store.proofs.Counting.{AsOften, times_gather}
use Rattle.machine.specs.Places.{from_end, frame_value, binding_at, roots, root_count}
use Rattle.machine.proofs.Roots.{stack_root, exec_root, binding_root, handler_root, at_end}
use Rattle.machine.proofs.Rooted.{bindings, root_values, listed, map_self}

-- ---- the places, by region

by_four : (f : ℕ → ℕ) (n : ℕ) → total f (4 * n)
    ≡ total (λ j. f (4 * j)) n + total (λ j. f (4 * j + 1)) n + total (λ j. f (4 * j + 2)) n + total (λ j. f (4 * j + 3)) n
unfolding total
by_four f zero = refl
by_four f (suc n) =
    let more : 4 * suc n ≡ suc (suc (suc (suc (4 * n)))) = omega arith in
    let one : suc (4 * n) ≡ 4 * n + 1 = omega arith in
    let two : suc (suc (4 * n)) ≡ 4 * n + 2 = omega arith in
    let three : suc (suc (suc (4 * n))) ≡ 4 * n + 3 = omega arith in
    ap (total f) more ∙ omega (arith, by_four f n, ap f one, ap f two, ap f three)

-- ---- the values of a list

sum_append : {A : Type 0} (f : A → ℕ) (a b : List A) → sum_of f (a ++ b) ≡ sum_of f a + sum_of f b
unfolding sum_of
sum_append f [] b = omega arith
sum_append f (x ∷ a) b = omega (arith, sum_append f a b)

module _ (i : ℕ) where
  -- How often a value names i: once or never.
  often : Value → ℕ
  often v = times i (of_value v)

  null_never : often null ≡ 0
  unfolding often of_value sum_of
  null_never = refl

  -- A list by its places from the end,
  ends_sum : {A : Type 0} (f : A → Value) (l : List A) (n : ℕ) → length l ≤ n → total (λ j. often (from_end f l j)) n ≡ sum_of often (map f l)
  unfolding from_end sum_of
  ends_sum f [] n le = total_none (λ j. often null) n (λ x b. null_never)
  ends_sum f (a ∷ l) n le = omega (
    arith,
    total_upd often (from_end f l) n (length l) (f a) (omega arith),
    ap often (at_end f l (length l) (omega arith)),
    null_never,
    ends_sum f l n (omega arith),
  )

  -- and the bindings from slot k on.
  slots_sum : (d : List Slot) (v : ℕ → Value) (k n : ℕ) → ((j : ℕ) → v (k + j) ≡ binding_at d j) → length d ≤ n → Reading.sum_of (λ j. often (v j)) (from k n) ≡ sum_of often (bindings d)
  unfolding binding_at Reading.sum_of from sum_of
  slots_sum [] v k zero same le = refl
  slots_sum [] v k (suc n) same le =
      let here : k + 0 ≡ k = omega arith in
      omega (arith, ap often (ap v (sym here) ∙ same 0), null_never, slots_sum [] v (suc k) n (λ j. let e : suc k + j ≡ k + suc j = omega arith in ap v e ∙ same (suc j)) (omega arith))
  slots_sum (s ∷ d) v k zero same le = absurd (omega arith)
  slots_sum (s ∷ d) v k (suc n) same le =
      let here : k + 0 ≡ k = omega arith in
      omega (arith, ap often (ap v (sym here) ∙ same 0), slots_sum d v (suc k) n (λ j. let e : suc k + j ≡ k + suc j = omega arith in ap v e ∙ same (suc j)) (omega arith))

  bindings_sum : (d : List Slot) (n : ℕ) → length d ≤ n → total (λ j. often (binding_at d j)) n ≡ sum_of often (bindings d)
  bindings_sum d n le =
      total_same (λ j. often (binding_at d (0 + j))) (λ j. often (binding_at d j)) n (λ j b. ap (λ x. often (binding_at d x)) (sym (zero-add j)))
      ∙ sym (sum_from (λ j. often (binding_at d j)) 0 n)
      ∙ slots_sum d (binding_at d) 0 n (λ j. ap (binding_at d) (zero-add j)) le

-- ---- the law

module _ (μ : Machine) (n : ℕ) (stack : length μ.stack ≤ n) (exec : length μ.exec ≤ n) (dictionary : length μ.dictionary ≤ n)
    (handlers : length μ.handlers ≤ n) where
  -- How often the four regions name i.
  all_regions : ℕ → ℕ
  all_regions i =
      sum_of (often i) μ.stack + sum_of (often i) (bindings μ.dictionary) + sum_of (often i) (map frame_value μ.exec) + sum_of (often i) (bindings μ.handlers)

  places_sum : (i : ℕ) → total (λ r. often i (roots μ r)) (4 * n) ≡ all_regions i
  unfolding all_regions
  places_sum i = omega (
    arith,
    by_four (λ r. often i (roots μ r)) n,
    total_same (λ j. often i (from_end (λ v. v) μ.stack j)) (λ j. often i (roots μ (4 * j))) n (λ j b. ap (often i) (stack_root μ j)),
    total_same (λ j. often i (from_end frame_value μ.exec j)) (λ j. often i (roots μ (4 * j + 1))) n (λ j b. ap (often i) (exec_root μ j)),
    total_same (λ j. often i (binding_at μ.dictionary j)) (λ j. often i (roots μ (4 * j + 2))) n (λ j b. ap (often i) (binding_root μ j)),
    total_same (λ j. often i (binding_at μ.handlers j)) (λ j. often i (roots μ (4 * j + 3))) n (λ j b. ap (often i) (handler_root μ j)),
    ends_sum i (λ v. v) μ.stack n stack,
    ap (sum_of (often i)) (map_self μ.stack),
    ends_sum i frame_value μ.exec n exec,
    bindings_sum i μ.dictionary n dictionary,
    bindings_sum i μ.handlers n handlers,
  )

  roots_sum : (i : ℕ) → times i (Held.roots μ) ≡ all_regions i
  unfolding often all_regions
  roots_sum i = ap (times i) (listed μ) ∙ times_gather i of_value (root_values μ) ∙ omega (
    arith,
    sum_append (λ v. times i (of_value v)) (μ.stack ++ bindings μ.dictionary ++ map frame_value μ.exec) (bindings μ.handlers),
    sum_append (λ v. times i (of_value v)) (μ.stack ++ bindings μ.dictionary) (map frame_value μ.exec),
    sum_append (λ v. times i (of_value v)) μ.stack (bindings μ.dictionary),
  )

pub as_often : (μ : Machine)
    → length μ.stack ≤ 512
    → length μ.exec ≤ 512
    → length μ.dictionary ≤ 512
    → length μ.handlers ≤ 512
    → AsOften μ root_count (roots μ)
unfolding often
as_often μ stack exec dictionary handlers i = places_sum μ 512 stack exec dictionary handlers i ∙ sym (roots_sum μ 512 stack exec dictionary handlers i)
