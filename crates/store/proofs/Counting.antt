-- A live header's count is the number of times that the definition's roots and held objects name its object. The places that name it are
-- root places and body cells; the body cells are summed by header and then by element.
-- Assumes nothing.
use mathlib.Core.Path.{◌≡◌, refl, sym, ap, ◌∙◌}
use mathlib.Core.Bool.{true, false}
use mathlib.Core.List.{List, [], ◌∷◌, ◌++◌}
use mathlib.Core.Logic.{⊎_elim}
use Prim.Native.Nat.{ℕ, zero, suc, ◌+◌, ◌-◌, ◌≤◌, ◌<◌}
use native.Mathlib.Nat.{add-suc}
use native.Mathlib.Omega.{arith}
use borrow.Author.Tests.{eq-eqb, ne_eqb, lt-ltb}
use lib.ListN.{length, get_or}
use lib.Dec.{eqb}
use Rattle.semantics.specs.Values.{Value, integer, boolean, null, mark, operator, name, string, array, Object, elements, text}
use Rattle.semantics.specs.Machine.{Machine, object, elements_of, member}
use Rattle.semantics.specs.Held
use Rattle.semantics.specs.Held.{of_value, of_object, gather, named_by, held, sum_of}
use Rattle.semantics.specs.HeldLaws.{◌∈◌}
use Rattle.heap.specs.Word.{word}
use Rattle.heap.specs.Upd.{pick, total}
use Rattle.heap.specs.Chain.{live, on}
use Rattle.heap.specs.Shape.{Ghost, Shape, Counts, cells, is_body, is}
use Rattle.heap.proofs.Upds.{same?, total_same}
use Rattle.heap.proofs.Chains.{on_list, on_rank}
use Rattle.heap.proofs.Bodies.{total_none}
use Rattle.heap.proofs.Falls.{is_same, is_other, total_zero, true_false}
use Rattle.heap.proofs.Shapes.{inside}
use Rattle.heap.proofs.Since.{lt_or_le, true_or_false, alive_of}
use Rattle.heap.proofs.Rooms.{total_swap}
use Rattle.heap.proofs.Parts as parts
use Rattle.heap.proofs.Listing.{total_front}
use Rattle.store.specs.Rep.{Names, by_string, by_array, object_at, element, Rep}
pub use Rattle.store.specs.Matching.{times}
use Rattle.store.proofs.Standing.{stands_names, names_stands, names_cast}
use Rattle.store.proofs.Places.{zero_or_suc, down, down_at, body_of, aims_at, total_some}
use Rattle.store.proofs.Sorts.{no_element}
use Rattle.store.proofs.Holding.{Roots, in_names}
use Rattle.store.proofs.Rooming.{held_sum, no_body}

-- ---- sums

-- A sum with one term.
total_at : (f : ℕ → ℕ) (n a : ℕ) → a < n → ((x : ℕ) → x < n → (x ≡ a → ⊥) → f x ≡ 0) → total f n ≡ f a
unfolding total
total_at f zero a l h = absurd (omega arith)
total_at f (suc n) a l h = ⊎_elim
    (λ (e : n ≡ a). omega (arith, ap f e, total_none f n (λ x b. h x (omega arith) (λ q. omega arith))))
    (λ (e : n ≡ a → ⊥). omega (arith, total_at f n a (omega arith) (λ x b ne. h x (omega arith) ne), h n (omega arith) e)) (same? n a)

total_split : (f : ℕ → ℕ) (a n : ℕ) → total f (a + n) ≡ total f a + total (λ x. f (a + x)) n
unfolding total
total_split f a zero = let e : a + 0 ≡ a = omega arith in rw e (omega arith)
total_split f a (suc n) = rw (add-suc a n) (omega (arith, total_split f a n))

-- ---- the body cells, by header and by element

-- G c is v a q where c is q cells from the front of the body of a.
module _ {g : Ghost} {e : ℕ} {m : List ℕ} (S : Shape g e m) (G : ℕ → ℕ) (v : ℕ → ℕ → ℕ)
    (body : (c a k q : ℕ) → g.own c ≡ on (a + 2) k → g.size (a + 2) ≡ q + suc k → G c ≡ v a q)
    (other : (c : ℕ) → c < cells m → is_body (g.own c) ≡ false → G c ≡ 0)
    (header : (c a k : ℕ) → g.own c ≡ on (a + 2) k → a < cells m) where
  -- The cell of element q of a.
  abbrev cell : ℕ → ℕ → ℕ
  cell a q = down (λ x. word m x 2) q (g.top (a + 2))

  cell_own : (a q : ℕ) → q < g.size (a + 2) → g.own (cell a q) ≡ on (a + 2) (g.size (a + 2) - suc q)
  cell_own a q l = down_at g.own g.top g.size (λ x. word m x 2) S.chains (a + 2) q (g.size (a + 2) - suc q) (omega arith)

  hit : (a q c : ℕ) → c ≡ cell a q → pick {X = ℕ} (eqb c (cell a q)) (v a q) 0 ≡ v a q
  hit a q c s = ap (λ b. pick b (v a q) 0) (eq-eqb c (cell a q) s)

  miss : (a q c : ℕ) → (c ≡ cell a q → ⊥) → pick {X = ℕ} (eqb c (cell a q)) (v a q) 0 ≡ 0
  miss a q c s = ap (λ b. pick b (v a q) 0) (ne_eqb c (cell a q) s)

  -- Each element is in one cell,
  by_cell : (a : ℕ) → total (v a) (g.size (a + 2)) ≡ total (λ c. total (λ q. pick (eqb c (cell a q)) (v a q) 0) (g.size (a + 2))) (cells m)
  by_cell a = sym (total_swap (λ q c. pick (eqb c (cell a q)) (v a q) 0) (g.size (a + 2)) (cells m)
      ∙ total_same (v a) (λ q. total (λ c. pick (eqb c (cell a q)) (v a q) 0) (cells m)) (g.size (a + 2))
      (λ q l. total_at (λ c. pick (eqb c (cell a q)) (v a q) 0) (cells m) (cell a q) (inside S (cell a q) (cell_own a q l) refl).0 (λ c _ ne. miss a q c ne) ∙ hit a q (cell a q) refl))

  -- and each cell has one element, or none.
  by_element : (c : ℕ) → c < cells m → total (λ a. total (λ q. pick (eqb c (cell a q)) (v a q) 0) (g.size (a + 2))) (cells m) ≡ G c
  by_element c l = ⊎_elim
      (λ (t : is_body (g.own c) ≡ true).
      let x = body_of (g.own c) t in let a = x.0 in let k = x.1 in
      let q : ℕ = g.size (a + 2) - suc k in
      let b : g.size (a + 2) ≡ q + suc k = omega (arith, S.chains.above c (a + 2) k x.2) in
      total_at (λ a. total (λ q. pick (eqb c (cell a q)) (v a q) 0) (g.size (a + 2))) (cells m) a (header c a k x.2)
      (λ y _ ne. total_none (λ q. pick (eqb c (cell y q)) (v y q) 0) (g.size (y + 2))
      (λ r d. miss y r c (λ s. ne (omega (arith, on_list (sym (cell_own y r d) ∙ ap g.own (sym s) ∙ x.2))))))
      ∙ total_at (λ q. pick (eqb c (cell a q)) (v a q) 0) (g.size (a + 2)) q (omega arith)
      (λ r d ne. miss a r c (λ s. ne (omega (arith, on_rank (sym (cell_own a r d) ∙ ap g.own (sym s) ∙ x.2)))))
      ∙ hit a q c (S.chains.one c (cell a q) (a + 2) k x.2 (down_at g.own g.top g.size (λ x. word m x 2) S.chains (a + 2) q k b))
      ∙ sym (body c a k q x.2 b))
      (λ (f : is_body (g.own c) ≡ false).
      total_none (λ a. total (λ q. pick (eqb c (cell a q)) (v a q) 0) (g.size (a + 2))) (cells m)
      (λ a _. total_none (λ q. pick (eqb c (cell a q)) (v a q) 0) (g.size (a + 2))
      (λ q d. miss a q c (λ s. true_false (sym (lt-ltb 1 (a + 2) (omega arith)) ∙ sym (ap is_body (ap g.own s ∙ cell_own a q d)) ∙ f))))
      ∙ sym (other c l f)) (true_or_false (is_body (g.own c)))

  bodies_sum : total G (cells m) ≡ total (λ a. total (v a) (g.size (a + 2))) (cells m)
  bodies_sum = sym (total_same (λ a. total (λ c. total (λ q. pick (eqb c (cell a q)) (v a q) 0) (g.size (a + 2))) (cells m)) (λ a. total (v a) (g.size (a + 2))) (cells m) (λ a _. by_cell a)
      ∙ sym (total_swap (λ a c. total (λ q. pick (eqb c (cell a q)) (v a q) 0) (g.size (a + 2))) (cells m) (cells m))
      ∙ total_same G (λ c. total (λ a. total (λ q. pick (eqb c (cell a q)) (v a q) 0) (g.size (a + 2))) (cells m)) (cells m) by_element)

-- ---- how often a list names i

module _ (i : ℕ) where
  times_append : (a b : List ℕ) → times i (a ++ b) ≡ times i a + times i b
  unfolding sum_of
  times_append [] b = omega arith
  times_append (k ∷ a) b = omega (arith, times_append a b)

  pub times_gather : {A : Type 0} (f : A → List ℕ) (l : List A) → times i (gather f l) ≡ sum_of (λ x. times i (f x)) l
  unfolding sum_of gather
  times_gather f [] = refl
  times_gather f (x ∷ l) = omega (arith, times_append (f x) (gather f l), times_gather f l)

  times_values : (vs : List Value) → times i (gather of_value vs) ≡ total (λ q. times i (of_value (get_or vs q null))) (length vs)
  unfolding sum_of gather total
  times_values [] = refl
  times_values (w ∷ vs) = omega (
    arith,
    times_append (of_value w) (gather of_value vs),
    times_values vs,
    total_front (λ q. times i (of_value (get_or (w ∷ vs) q null))) (length vs),
  )

  times_object : (o : Object) → times i (of_object o) ≡ total (λ q. times i (of_value (get_or (elements_of o) q null))) (length (elements_of o))
  unfolding of_object elements_of sum_of total
  times_object (elements vs) = times_values vs
  times_object (text bs) = refl

  named_once : {w : Value} → Names w i → times i (of_value w) ≡ 1
  unfolding of_value sum_of
  named_once by_string = omega (arith, ap (λ b. pick {X = ℕ} b 1 0) (eq-eqb i i refl))
  named_once by_array = omega (arith, ap (λ b. pick {X = ℕ} b 1 0) (eq-eqb i i refl))

  named_not : (w : Value) → (Names w i → ⊥) → times i (of_value w) ≡ 0
  unfolding of_value sum_of
  named_not (integer w) n = refl
  named_not (boolean b) n = refl
  named_not null n = refl
  named_not mark n = refl
  named_not (operator o) n = refl
  named_not (name x o) n = refl
  named_not (string j) n = omega (arith, ap (λ b. pick {X = ℕ} b 1 0) (ne_eqb j i (λ s. n (rw s by_string))))
  named_not (array x j) n = omega (arith, ap (λ b. pick {X = ℕ} b 1 0) (ne_eqb j i (λ s. n (rw s by_array))))

-- A member is named at least once, and what is not named is no member.
times_in : (i : ℕ) (l : List ℕ) → i ∈ l → 1 ≤ times i l
unfolding sum_of member
times_in i [] t = absurd t
times_in i (k ∷ l) t = ⊎_elim
    (λ (s : k ≡ i). omega (arith, ap (λ b. pick {X = ℕ} b 1 0) (eq-eqb k i s)))
    (λ (s : k ≡ i → ⊥). omega (arith, times_in i l (rw (ne_eqb i k (λ q. s (sym q))) at t))) (same? k i)

in_times : (i : ℕ) (l : List ℕ) → 1 ≤ times i l → i ∈ l
unfolding sum_of member
in_times i [] t = absurd (omega arith)
in_times i (k ∷ l) t = ⊎_elim
    (λ (s : k ≡ i). rw (eq-eqb i k (sym s)) tt)
    (λ (s : k ≡ i → ⊥). rw (ne_eqb i k (λ q. s (sym q))) (in_times i l (omega (arith, ap (λ b. pick {X = ℕ} b 1 0) (ne_eqb k i s))))) (same? k i)

-- The root places name each object as often as the roots list it;
abbrev pub AsOften : Machine → ℕ → (ℕ → Value) → Type 0
AsOften μ n roots = (i : ℕ) → total (λ r. times i (of_value (roots r))) n ≡ times i (Held.roots μ)

-- then they name what the roots list.
pub roots_named : {keys : List (List ℕ)} {n : ℕ} {ρ : ℕ → ℕ} {g : Ghost} {m : List ℕ} {store : List Object} {roots : ℕ → Value} (μ : Machine)
    → Rep keys n ρ g m store roots → AsOften μ n roots → Roots μ roots
roots_named {n = n} {roots = roots} μ R same i = (
  λ t. let x = total_some (λ r. times i (of_value (roots r))) n (omega (arith, same i, times_in i (Held.roots μ) t)) in (x.0, in_names (roots x.0) i (in_times i (of_value (roots x.0)) x.2)),
  λ x. in_times i (Held.roots μ) (⊎_elim (λ k. k)
      (λ (k : times i (Held.roots μ) ≤ 0). absurd (omega (arith, named_once i x.1, total_zero (λ r. times i (of_value (roots r))) n x.0 (omega (arith, same i)) (R.rooted x.0 i x.1).0)))
      (lt_or_le 0 (times i (Held.roots μ)))),
)

-- ---- the theorem

module _ {keys : List (List ℕ)} {n : ℕ} {ρ : ℕ → ℕ} {g : Ghost} {e p : ℕ} {m : List ℕ} {roots : ℕ → Value} (μ : Machine)
    (S : Shape g e m) (C : Counts g p 0 m) (R : Rep keys n ρ g m μ.store roots) (near : p ≡ cells m + n) (z : g.size 1 ≡ 0) (named : Roots μ roots)
    (h : ℕ) (l : g.own h ≡ live) where
  -- A place that names h holds a value that names its object, and no other place does.
  root_term : (r : ℕ) → r < n → is h (g.aim (cells m + r)) ≡ times (ρ h) (of_value (roots r))
  root_term r b = ⊎_elim
      (λ (s : g.aim (cells m + r) ≡ suc h). is_same h _ s ∙ sym (named_once (ρ h) (R.root r h s)))
      (λ (s : g.aim (cells m + r) ≡ suc h → ⊥). is_other h _ s ∙ sym (named_not (ρ h) (roots r) (λ w. let x = (R.rooted r (ρ h) w).1 in
      s (x.1 ∙ ap suc (R.one x.0 h (C.aimed (cells m + r) x.0 (omega arith) x.1) l x.2))))) (same? (g.aim (cells m + r)) (suc h))

  cell_term : (c a k q : ℕ) → g.own c ≡ on (a + 2) k → g.size (a + 2) ≡ q + suc k → is h (g.aim c) ≡ times (ρ h) (of_value (element μ.store (ρ a) q))
  cell_term c a k q o b =
      let la = alive_of p g e 0 m S C z a k (omega arith) in
      ⊎_elim
      (λ (w : word m a 0 ≡ 0). let st = R.value c a k q o la w b in ⊎_elim
      (λ (s : g.aim c ≡ suc h). let x = aims_at _ _ _ h (sym (C.body c a k o) ∙ s) in
      is_same h _ s ∙ sym (named_once (ρ h) (names_cast _ (ap ρ x.2) (names_stands st x.1))))
      (λ (s : g.aim c ≡ suc h → ⊥). is_other h _ s ∙ sym (named_not (ρ h) _ (λ v. let x = stands_names st v in
      let t = C.body c a k o ∙ parts.object _ _ _ w x.0 in
      s (t ∙ ap suc (R.one _ h (C.aimed c _ (omega (arith, (inside S c o refl).0, C.places.0)) t) l x.1))))) (same? (g.aim c) (suc h)))
      (λ w. is_other h _ (λ s. omega (arith, sym (C.body c a k o ∙ parts.no_array _ _ _ (λ y. omega (arith, w.1))) ∙ s))
      ∙ sym (named_not (ρ h) _ (λ v. no_element μ.store (ρ a) q (ρ h) (R.text a w.0 la w.1).0 v))) (zero_or_suc (word m a 0))

  -- What a live header's body names, and its object.
  body_term : (a : ℕ) → g.own a ≡ live → total (λ q. times (ρ h) (of_value (element μ.store (ρ a) q))) (g.size (a + 2)) ≡ times (ρ h) (of_object (object_at μ.store (ρ a)))
  body_term a la =
      let f : ℕ → ℕ = λ q. times (ρ h) (of_value (element μ.store (ρ a) q)) in
      ⊎_elim
      (λ (w : word m a 0 ≡ 0). ap (total f) (sym (R.array a la w).1) ∙ sym (times_object (ρ h) (object_at μ.store (ρ a))))
      (λ w. let t : (k : ℕ) → total f k ≡ 0 = λ k. total_none f k (λ q _. named_not (ρ h) _ (no_element μ.store (ρ a) q (ρ h) (R.text a w.0 la w.1).0)) in
      t (g.size (a + 2)) ∙ sym (times_object (ρ h) (object_at μ.store (ρ a)) ∙ t (length (elements_of (object_at μ.store (ρ a)))))) (zero_or_suc (word m a 0))

  cells_part : total (λ c. is h (g.aim c)) (cells m) ≡ sum_of (λ j. times (ρ h) (of_object (object μ j))) (held μ)
  unfolding object total
  cells_part = let f : ℕ → ℕ → ℕ = λ a q. times (ρ h) (of_value (element μ.store (ρ a) q)) in
      bodies_sum S (λ c. is h (g.aim c)) f cell_term
      (λ c b t. is_other h (g.aim c) (λ s. omega (arith, s, C.other c b t)))
      (λ c a k o. (inside S a (alive_of p g e 0 m S C z a k (S.chains.above c (a + 2) k o)) refl).0)
      ∙ sym (held_sum μ S C R z named (λ a. total (f a) (g.size (a + 2))) (λ j. times (ρ h) (of_object (object μ j))) (λ a d. ap (total (f a)) (no_body S C R z a d)) body_term)

  pub count_places : word m h 2 ≡ total (λ r. times (ρ h) (of_value (roots r))) n + sum_of (λ j. times (ρ h) (of_object (object μ j))) (held μ)
  count_places = omega (
    arith,
    C.count h l,
    is_other h 0 (λ s. omega arith),
    ap (total (λ x. is h (g.aim x))) near,
    total_split (λ x. is h (g.aim x)) (cells m) n,
    total_same (λ r. times (ρ h) (of_value (roots r))) (λ r. is h (g.aim (cells m + r))) n root_term,
    cells_part,
  )

-- The count of a live header is how often its object is named by the roots and what is held.
pub count_named : {keys : List (List ℕ)} {n : ℕ} {ρ : ℕ → ℕ} {g : Ghost} {e p : ℕ} {m : List ℕ} {roots : ℕ → Value} (μ : Machine)
    → Shape g e m → Counts g p 0 m → Rep keys n ρ g m μ.store roots → p ≡ cells m + n → g.size 1 ≡ 0 → AsOften μ n roots
    → (h : ℕ) → g.own h ≡ live → word m h 2 ≡ times (ρ h) (named_by μ (held μ))
unfolding named_by
count_named {ρ = ρ} μ S C R near z same h l = omega (
  arith,
  count_places μ S C R near z (roots_named μ R same) h l,
  same (ρ h),
  times_append (ρ h) (Held.roots μ) (gather (λ i. of_object (object μ i)) (held μ)),
  times_gather (ρ h) (λ i. of_object (object μ i)) (held μ),
)
