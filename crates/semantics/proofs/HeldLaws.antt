-- Held is what 01 asks: a set of made objects in which each is named by a root or by an element of a member, and it contains every other
-- such set. It lists no object twice, so that a sum over it counts each once.
-- Assumes nothing.
use Rattle.std.specs.Prelude.{◌≡◌, refl, ◌⊎◌, ◌≢◌, Bool, not, ◌||◌, eqb}
use Rattle.std.proofs.Common.{sym, ap, subst, arith, T_not}
use Rattle.std.proofs.Math.Logic.{inl, inr, ⊎_elim}
use Rattle.std.proofs.Math.Bool.{true, false}
use mathlib.Core.List.{List, [], ◌∷◌, ◌++◌}
use Prim.Native.Nat.{ℕ, zero, suc, ◌≤◌, ◌<◌}
use Rattle.std.proofs.Math.ListN.{length}
use Rattle.std.proofs.Math.Dec.{T, eqb→eq, eqb_refl}
use Rattle.semantics.specs.Machine.{Machine, object, member}
use Rattle.semantics.specs.ResultLaws.{choose}
use Rattle.semantics.specs.Held.{of_object, gather, roots, named_by, keep, among, prune, pruned, below, held}
use Rattle.semantics.specs.HeldLaws.{◌∈◌, Named, Supported, Once, empty, first}

-- ---- membership

pub or_cases : (a b : Bool) → T (a || b) → T a ⊎ T b
or_cases true b h = inl tt
or_cases false b h = inr h

pub or_right : (a b : Bool) → T b → T (a || b)
or_right true b h = tt
or_right false b h = h

pub or_left : (a b : Bool) → T a → T (a || b)
or_left true b h = tt
or_left false b h = absurd h

module _ (i : ℕ) where
  pub in_append : (a b : List ℕ) → i ∈ a ++ b → (i ∈ a) ⊎ (i ∈ b)
  unfolding member
  in_append [] b h = inr h
  in_append (j ∷ a) b h =
      ⊎_elim (λ e. inl (or_left (eqb i j) (member i a) e))
      (λ t. ⊎_elim (λ u. inl (or_right (eqb i j) (member i a) u)) (λ v. inr v) (in_append a b t))
      (or_cases (eqb i j) (member i (a ++ b)) h)

  pub append_left : (a b : List ℕ) → i ∈ a → i ∈ a ++ b
  unfolding member
  append_left [] b h = absurd h
  append_left (j ∷ a) b h =
      ⊎_elim (or_left (eqb i j) (member i (a ++ b))) (λ t. or_right (eqb i j) (member i (a ++ b)) (append_left a b t)) (or_cases (eqb i j) (member i a) h)

  pub append_right : (a b : List ℕ) → i ∈ b → i ∈ a ++ b
  unfolding member
  append_right [] b h = h
  append_right (j ∷ a) b h = or_right (eqb i j) (member i (a ++ b)) (append_right a b h)

  in_gather : (f : ℕ → List ℕ) (l : List ℕ) → i ∈ gather f l → (j : ℕ) × (j ∈ l) × (i ∈ f j)
  unfolding member gather
  in_gather f [] h = absurd h
  in_gather f (j ∷ l) h =
      ⊎_elim (λ e. (j, or_left (eqb j j) (member j l) (eqb_refl j), e))
      (λ t. let r = in_gather f l t in (r.0, or_right (eqb r.0 j) (member r.0 l) r.1, r.2))
      (in_append (f j) (gather f l) h)

  to_gather : (f : ℕ → List ℕ) (l : List ℕ) (j : ℕ) → j ∈ l → i ∈ f j → i ∈ gather f l
  unfolding member gather
  to_gather f [] j h e = absurd h
  to_gather f (k ∷ l) j h e =
      ⊎_elim (λ t. append_left (f k) (gather f l) (subst (λ x. i ∈ f x) (eqb→eq j k t) e))
      (λ t. append_right (f k) (gather f l) (to_gather f l j t e))
      (or_cases (eqb j k) (member j l) h)

  keep_cases : (b : Bool) (j : ℕ) (l : List ℕ) → i ∈ keep b j l → (T b × (i ≡ j)) ⊎ (i ∈ l)
  unfolding member keep
  keep_cases true j l h = ⊎_elim (λ e. inl (tt, eqb→eq i j e)) (λ t. inr t) (or_cases (eqb i j) (member i l) h)
  keep_cases false j l h = inr h

  keep_this : (b : Bool) (j : ℕ) (l : List ℕ) → T b → i ≡ j → i ∈ keep b j l
  unfolding member keep
  keep_this true j l t e = or_left (eqb i j) (member i l) (subst (λ x. T (eqb i x)) e (eqb_refl i))
  keep_this false j l t e = absurd t

  keep_rest : (b : Bool) (j : ℕ) (l : List ℕ) → i ∈ l → i ∈ keep b j l
  unfolding member keep
  keep_rest true j l h = or_right (eqb i j) (member i l) h
  keep_rest false j l h = h

  in_among : (names ids : List ℕ) → i ∈ among names ids → i ∈ ids
  unfolding member among
  in_among names [] h = absurd h
  in_among names (j ∷ ids) h =
      ⊎_elim (λ t. or_left (eqb i j) (member i ids) (subst (λ x. T (eqb i x)) t.1 (eqb_refl i)))
      (λ t. or_right (eqb i j) (member i ids) (in_among names ids t))
      (keep_cases (member j names) j (among names ids) h)

  to_among : (names ids : List ℕ) → i ∈ ids → i ∈ names → i ∈ among names ids
  unfolding member among
  to_among names [] h n = absurd h
  to_among names (j ∷ ids) h n =
      ⊎_elim (λ t. let e = eqb→eq i j t in keep_this (member j names) j (among names ids) (subst (λ x. x ∈ names) e n) e)
      (λ t. keep_rest (member j names) j (among names ids) (to_among names ids t n))
      (or_cases (eqb i j) (member i ids) h)

-- ---- pruning

keep_full : (b : Bool) (j n : ℕ) (l : List ℕ) → suc n ≤ length (keep b j l) → length l ≤ n → T b × (n ≤ length l)
unfolding keep
keep_full true j n l h k = (tt, omega arith)
keep_full false j n l h k = absurd (omega arith)

keep_fewer : (b : Bool) (j : ℕ) (l : List ℕ) → length (keep b j l) ≤ suc (length l)
unfolding keep
keep_fewer true j l = omega arith
keep_fewer false j l = omega arith

among_fewer : (names ids : List ℕ) → length (among names ids) ≤ length ids
unfolding among
among_fewer names [] = omega arith
among_fewer names (j ∷ ids) = omega (arith, among_fewer names ids, keep_fewer (member j names) j (among names ids))

-- Where none fell out, all are named.
among_full : (names ids : List ℕ) → length ids ≤ length (among names ids) → (i : ℕ) → i ∈ ids → i ∈ names
unfolding among member
among_full names [] h i e = absurd e
among_full names (j ∷ ids) h i e =
    let f = keep_full (member j names) j (length ids) (among names ids) h (among_fewer names ids) in
    ⊎_elim (λ t. subst (λ x. x ∈ names) (sym (eqb→eq i j t)) f.0) (λ t. among_full names ids f.1 i t) (or_cases (eqb i j) (member i ids) e)

unequal : (a b : ℕ) → T (not (eqb a b)) → a ≢ b
unequal a b h e = T_not (eqb a b) h (subst (λ x. T (eqb a x)) e (eqb_refl a))

below_lt : (n i : ℕ) → i ∈ below n → i < n
unfolding below member
below_lt zero i h = absurd h
below_lt (suc n) i h = ⊎_elim (λ t. omega (arith, eqb→eq i n t)) (λ t. omega (arith, below_lt n i t)) (or_cases (eqb i n) (member i (below n)) h)

lt_below : (n i : ℕ) → i < n → i ∈ below n
unfolding below member
lt_below zero i h = absurd (omega arith)
lt_below (suc n) i h = by (eqb i n) (λ t. t) (λ t. let k : i ≢ n = unequal i n t in lt_below n i (omega arith))
  where
    by : (b : Bool) → (T b → T (eqb i n)) → (T (not b) → i ∈ below n) → T (eqb i n || member i (below n))
    by true f g = or_left (eqb i n) (member i (below n)) (f tt)
    by false f g = or_right (eqb i n) (member i (below n)) (g tt)

length_below : (n : ℕ) → length (below n) ≡ n
unfolding below
length_below zero = refl
length_below (suc n) = ap suc (length_below n)

-- ---- no number twice

below_once : (n : ℕ) → Once (below n)
unfolding below
below_once zero = empty
below_once (suc n) = first (λ (h : n ∈ below n). omega (arith, below_lt n n h)) (below_once n)

keep_once : (b : Bool) (j : ℕ) {l : List ℕ} → (j ∈ l → ⊥) → Once l → Once (keep b j l)
unfolding keep
keep_once true j f o = first f o
keep_once false j f o = o

among_once : (names : List ℕ) {ids : List ℕ} → Once ids → Once (among names ids)
unfolding among
among_once names empty = empty
among_once names (first {i = j} {l = ids} f o) = keep_once (member j names) j (λ h. f (in_among j names ids h)) (among_once names o)

module _ (m : Machine) where
  pruned_in : (k : ℕ) (ids : List ℕ) (i : ℕ) → i ∈ pruned m k ids → i ∈ ids
  unfolding pruned prune
  pruned_in zero ids i = λ h. h
  pruned_in (suc k) ids i =
      choose (λ l. i ∈ l → i ∈ ids) (eqb (length (prune m ids)) (length ids)) ids (pruned m k (prune m ids))
      (λ t h. h)
      (λ t h. in_among i (named_by m ids) ids (pruned_in k (prune m ids) i h))

  pruned_named : (k : ℕ) (ids : List ℕ) → length ids ≤ k → (i : ℕ) → i ∈ pruned m k ids → i ∈ named_by m (pruned m k ids)
  unfolding pruned prune member
  pruned_named zero [] h i = λ e. absurd e
  pruned_named zero (j ∷ ids) h i = λ e. absurd (omega arith)
  pruned_named (suc k) ids h i =
      choose (λ l. i ∈ l → i ∈ named_by m l) (eqb (length (prune m ids)) (length ids)) ids (pruned m k (prune m ids))
      (λ t e. among_full (named_by m ids) ids (omega (arith, eqb→eq (length (prune m ids)) (length ids) t)) i e)
      (λ t e. pruned_named k (prune m ids) (omega (arith, among_fewer (named_by m ids) ids, unequal (length (prune m ids)) (length ids) t)) i e)

  pruned_largest : (S : ℕ → Type 0) → Supported m S → (k : ℕ) (ids : List ℕ) → ((i : ℕ) → S i → i ∈ ids) → (i : ℕ) → S i → i ∈ pruned m k ids
  unfolding pruned prune named_by Named
  pruned_largest S s zero ids f i e = f i e
  pruned_largest S s (suc k) ids f i e =
      choose (λ l. i ∈ l) (eqb (length (prune m ids)) (length ids)) ids (pruned m k (prune m ids))
      (λ t. f i e)
      (λ t. pruned_largest S s k (prune m ids) (λ j g. to_among j (named_by m ids) ids (f j g) (name j (s.named j g))) i e)
    where
      name : (j : ℕ) → Named m S j → j ∈ named_by m ids
      name j (inl r) = append_left j (roots m) (gather (λ x. of_object (object m x)) ids) r
      name j (inr r) = append_right j (roots m) (gather (λ x. of_object (object m x)) ids) (to_gather j (λ x. of_object (object m x)) ids r.0 (f r.0 r.1) r.2)

  pruned_once : (k : ℕ) (ids : List ℕ) → Once ids → Once (pruned m k ids)
  unfolding pruned prune
  pruned_once zero ids o = o
  pruned_once (suc k) ids o =
      choose Once (eqb (length (prune m ids)) (length ids)) ids (pruned m k (prune m ids)) (λ t. o) (λ t. pruned_once k (prune m ids) (among_once (named_by m ids) o))

  -- ---- the theorem

  pub held_supported : Supported m (λ i. i ∈ held m)
  unfolding held Named named_by
  held_supported =
      let n = length m.store in
      record {
        made = λ i h. below_lt n i (pruned_in n (below n) i h);
        named = λ i h.
            ⊎_elim (λ r. inl r) (λ t. inr (in_gather i (λ x. of_object (object m x)) (held m) t))
            (in_append i (roots m) (gather (λ x. of_object (object m x)) (held m)) (pruned_named n (below n) (omega (arith, length_below n)) i h));
      }

  pub held_largest : (S : ℕ → Type 0) → Supported m S → (i : ℕ) → S i → i ∈ held m
  unfolding held
  held_largest S s i e = pruned_largest S s (length m.store) (below (length m.store)) (λ j g. lt_below (length m.store) j (s.made j g)) i e

  pub held_once : Once (held m)
  unfolding held
  held_once = pruned_once (length m.store) (below (length m.store)) (below_once (length m.store))
