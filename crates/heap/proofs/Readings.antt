-- The reading of the heap's state is exact: each list is a walk from its first cell, so that what is read free, a header or a header's cell is what
-- owns it in the ghost; and the cells of all are summed by header.
-- Assumes nothing.
use mathlib.Core.Path.{◌≡◌, refl, sym, ap, ◌∙◌}
use mathlib.Core.Bool.{Bool, true, false, not}
use mathlib.Core.List.{List}
use mathlib.Core.Logic.{◌⊎◌, ◌↔◌, inl, inr, ⊎_elim}
use Prim.Native.Nat.{ℕ, zero, suc, ◌+◌, ◌-◌, ◌%◌, ◌≤◌, ◌<◌}
use native.Mathlib.Nat.{zero-add}
use native.Mathlib.Omega.{arith}
use borrow.Author.Tests.{le-leb, leb-true}
use lib.ListN.{length, length-append}
use lib.Dec.{T, T_not, leb→le}
use Rattle.heap.specs.Word.{word}
use Rattle.heap.specs.Upd.{pick, total}
use Rattle.heap.specs.Chain.{Owner, fresh, live, out, on, Chains}
use Rattle.heap.specs.Shape.{Ghost, Shape, Full, NoOut, cells, is_head, is_fresh, header_mark, first_unit}
use Rattle.heap.specs.Reading.{member, ◌∈◌, from, walk, sum_of, free_cells, occupied, is_header, headers, body_size, cells_of, Once, Exact}
use Rattle.heap.specs.declared.Lists.{Lists}
use Rattle.heap.proofs.Upds.{same?, total_same}
use Rattle.heap.proofs.Chains.{on_list, on_rank, live_on, fresh_on, fresh_live}
use Rattle.heap.proofs.Shapes.{inside, header_of}
use Rattle.heap.proofs.Walks.{first_cell}
use Rattle.heap.proofs.Pops.{body_head}
use Rattle.heap.proofs.Since.{lt_or_le, alive_of}
use Rattle.heap.proofs.Rooms.{free_cells_lem}
use Rattle.heap.proofs.Growing.{is_fresh_lem}
use Rattle.heap.proofs.Listing.{not_none, in_cons, here, there, in_append, append_left, append_right, in_only, only_in, in_from, from_in, length_from, length_walk, once_from, once_only, once_append, sum_only, sum_from}

-- ---- a list of the ghost is a walk

module _ {own : ℕ → Owner} {top size : ℕ → ℕ} (m : List ℕ) (K : Chains own top size (λ c. word m c 2)) (t : ℕ) where
  -- c is the first of n cells of list t
  abbrev pub Starts : ℕ → ℕ → Type 0
  Starts n c = (k : ℕ) → n ≡ suc k → own c ≡ on t k

  next : (n c : ℕ) → Starts (suc n) c → Starts n (word m c 2)
  next n c b k e = K.link c t k (b (suc k) (ap suc e))

  pub in_walk : (n c d : ℕ) → Starts n c → d ∈ walk m n c → (k : ℕ) × (k < n) × (own d ≡ on t k)
  unfolding walk
  in_walk zero c d b i = absurd (not_none d i)
  in_walk (suc n) c d b i = ⊎_elim
      (λ (e : d ≡ c). (n, omega arith, ap own e ∙ b n refl))
      (λ (j : d ∈ walk m n (word m c 2)). let x = in_walk n (word m c 2) d (next n c b) j in (x.0, omega (arith, x.1), x.2))
      (in_cons d c (walk m n (word m c 2)) i)

  pub walk_in : (n c d k : ℕ) → Starts n c → own d ≡ on t k → k < n → d ∈ walk m n c
  unfolding walk
  walk_in zero c d k b o l = absurd (omega arith)
  walk_in (suc n) c d k b o l = ⊎_elim
      (λ (e : k ≡ n). here d c (walk m n (word m c 2)) (K.one d c t k o (rw e (b n refl))))
      (λ (e : k ≡ n → ⊥). there d c (walk m n (word m c 2)) (walk_in n (word m c 2) d k (next n c b) o (omega arith)))
      (same? k n)

  pub once_walk : (n c : ℕ) → Starts n c → Once (walk m n c)
  unfolding walk Once
  once_walk zero c b = tt
  once_walk (suc n) c b = (
    λ i. let x = in_walk n (word m c 2) c (next n c b) i in omega (arith, x.1, on_rank (sym (b n refl) ∙ x.2)),
    once_walk n (word m c 2) (next n c b),
  )

-- ---- owners

yes_true : (b : Bool) → T b → b ≡ true
yes_true true t = refl
yes_true false t = absurd t

no_not : (b : Bool) → (T b → ⊥) → T (not b)
no_not true n = absurd (n tt)
no_not false n = tt

both : (a b : Bool) (n : ℕ) → T a → T b → pick {X = ℕ} a (pick b n 0) 0 ≡ n
both true true n t u = refl
both true false n t u = absurd u
both false b n t u = absurd t

neither : (a b : Bool) (n : ℕ) → (T a → T b → ⊥) → pick {X = ℕ} a (pick b n 0) 0 ≡ 0
neither true true n d = absurd (d tt tt)
neither true false n d = refl
neither false b n d = refl

-- what a cell is, where none is out and none on the list of dead headers
data Use (own : ℕ → Owner) (c : ℕ) : Type 0 where
  unused : own c ≡ fresh → Use own c
  listed : (k : ℕ) → own c ≡ on 0 k → Use own c
  header : own c ≡ live → Use own c
  body : (a k : ℕ) → own c ≡ on (a + 2) k → own a ≡ live → Use own c

module _ {g : Ghost} {p : ℕ} {s : Lists} {m : List ℕ} (F : Full g p 0 s m) (z : s.dead ≡ 0) (no : NoOut g) where
  S : Shape g s.edge m
  S = F.heap.shape

  -- what has a body lives
  alive : (a k : ℕ) → k < g.size (a + 2) → g.own a ≡ live
  unfolding S
  alive = alive_of p g s.edge 0 m S F.counts (F.heap.dead ∙ z)

  use_of : (c : ℕ) → Use g.own c
  unfolding S
  use_of c = go (g.own c) refl
    where
      go : (o : Owner) → g.own c ≡ o → Use g.own c
      go fresh q = unused q
      go live q = header q
      go out q = absurd (no c q)
      go (on zero k) q = listed k q
      go (on (suc zero) k) q = absurd (omega (arith, S.chains.above c 1 k q, F.heap.dead))
      go (on (suc (suc a)) k) q = let e : suc (suc a) ≡ a + 2 = omega arith in let r : g.own c ≡ on (a + 2) k = rw e at q in body a k r (alive a k (S.chains.above c (a + 2) k r))

  -- ---- the free cells

  free_starts : Starts m S.chains 0 s.listed s.free
  unfolding S
  free_starts k e = rw F.heap.free at (S.chains.first 0 k (F.heap.listed ∙ e))

  -- A free cell was never used, or is on the free list,
  pub free_owned : (c : ℕ) → c ∈ free_cells s m → ((g.own c ≡ fresh) × (c < cells m)) ⊎ ((k : ℕ) × (g.own c ≡ on 0 k))
  unfolding S free_cells
  free_owned c i = ⊎_elim
      (λ j. let x = in_walk m S.chains 0 s.listed s.free c free_starts j in inr (x.0, x.2))
      (λ j. let x = in_from s.edge (cells m - s.edge) c j in
      inl (is_fresh_lem (g.own c) (S.low c ∙ le-leb s.edge c x.0), omega (arith, x.1, S.within)))
      (in_append c (walk m s.listed s.free) (from s.edge (cells m - s.edge)) i)

  -- and so is each such cell.
  pub fresh_free : (c : ℕ) → g.own c ≡ fresh → c < cells m → c ∈ free_cells s m
  unfolding S free_cells
  fresh_free c q l = append_right c (walk m s.listed s.free) (from s.edge (cells m - s.edge))
      (from_in s.edge (cells m - s.edge) c (leb-true s.edge c (sym (S.low c) ∙ ap is_fresh q)) (omega (arith, S.within)))

  pub listed_free : (c k : ℕ) → g.own c ≡ on 0 k → c ∈ free_cells s m
  unfolding S free_cells
  listed_free c k q = append_left c (walk m s.listed s.free) (from s.edge (cells m - s.edge))
      (walk_in m S.chains 0 s.listed s.free c k free_starts q (omega (arith, S.chains.above c 0 k q, F.heap.listed)))

  -- ---- the headers

  pub header_live : (h : ℕ) → h ∈ headers s m → g.own h ≡ live
  unfolding S headers occupied is_header
  header_live h i =
      let x = in_only (is_header m) h (occupied s m) i in
      let y = in_only (λ c. not (member c (free_cells s m))) h (from 0 (cells m)) x.0 in
      let l = (in_from 0 (cells m) h y.0).1 in
      go (T_not (member h (free_cells s m)) y.1) (omega (arith, l)) (leb→le header_mark (word m h 3) x.1) (use_of h)
    where
      go : (h ∈ free_cells s m → ⊥) → h < cells m → header_mark ≤ word m h 3 → Use g.own h → g.own h ≡ live
      go n l k (unused q) = absurd (n (fresh_free h q l))
      go n l k (listed j q) = absurd (n (listed_free h j q))
      go n l k (header q) = q
      go n l k (body a j q e) = absurd (omega (arith, S.plain h (a + 2) j (λ r. omega arith) q))

  -- A cell below the edge is a live header exactly if it has the mark.
  pub marked_live : (c : ℕ) → c < s.edge → header_mark ≤ word m c 3 → g.own c ≡ live
  unfolding S
  marked_live c l w = go (use_of c)
    where
      go : Use g.own c → g.own c ≡ live
      go (unused q) = absurd (omega (arith, leb-true s.edge c (sym (S.low c) ∙ ap is_fresh q)))
      go (listed k q) = absurd (omega (arith, S.plain c 0 k (λ r. omega arith) q))
      go (header q) = q
      go (body a k q e) = absurd (omega (arith, S.plain c (a + 2) k (λ r. omega arith) q))

  pub header_iff : (c : ℕ) → (g.own c ≡ live) ↔ ((c < s.edge) × (header_mark ≤ word m c 3))
  unfolding S
  header_iff c = (λ l. ((inside S c l refl).1, (header_of S c l refl).2), λ x. marked_live c x.0 x.1)

  -- what belongs to an object is not free
  busy : (c : ℕ) → (g.own c ≡ fresh → ⊥) → ((k : ℕ) → g.own c ≡ on 0 k → ⊥) → c < cells m → c ∈ occupied s m
  unfolding occupied
  busy c f n l = only_in (λ d. not (member d (free_cells s m))) c (from 0 (cells m)) (from_in 0 (cells m) c (omega arith) (omega arith))
      (no_not (member c (free_cells s m)) (λ i. ⊎_elim (λ x. f x.0) (λ x. n x.0 x.1) (free_owned c i)))

  live_busy : (h : ℕ) → g.own h ≡ live → h ∈ occupied s m
  unfolding S
  live_busy h l = busy h (λ q. fresh_live (sym q ∙ l)) (λ k q. live_on (sym l ∙ q)) (inside S h l refl).0

  pub live_header : (h : ℕ) → g.own h ≡ live → h ∈ headers s m
  unfolding S headers is_header
  live_header h l = only_in (is_header m) h (occupied s m) (live_busy h l)
      (rw (le-leb header_mark (word m h 3) (header_of S h l refl).2) tt)

  -- ---- the cells of an object

  body_starts : (h : ℕ) → g.own h ≡ live → Starts m S.chains (h + 2) (body_size m h) (word m h 3 % first_unit)
  unfolding S body_size
  body_starts h l k e = first_cell S h k l (sym (header_of S h l refl).0 ∙ e)

  pub cell_owned : (h c : ℕ) → g.own h ≡ live → c ∈ cells_of m h → (c ≡ h) ⊎ ((k : ℕ) × (g.own c ≡ on (h + 2) k))
  unfolding S cells_of
  cell_owned h c l i = ⊎_elim (λ e. inl e)
      (λ j. let x = in_walk m S.chains (h + 2) (body_size m h) (word m h 3 % first_unit) c (body_starts h l) j in inr (x.0, x.2))
      (in_cons c h (walk m (body_size m h) (word m h 3 % first_unit)) i)

  pub header_cell : (h : ℕ) → h ∈ cells_of m h
  unfolding cells_of
  header_cell h = here h h (walk m (body_size m h) (word m h 3 % first_unit)) refl

  pub body_cell : (h c k : ℕ) → g.own h ≡ live → g.own c ≡ on (h + 2) k → c ∈ cells_of m h
  unfolding S cells_of body_size
  body_cell h c k l q = there c h (walk m (body_size m h) (word m h 3 % first_unit))
      (walk_in m S.chains (h + 2) (body_size m h) (word m h 3 % first_unit) c k (body_starts h l) q
      (omega (arith, S.chains.above c (h + 2) k q, (header_of S h l refl).0)))

  once_cells : (h : ℕ) → g.own h ≡ live → Once (cells_of m h)
  unfolding S cells_of Once
  once_cells h l = (
    λ i. let x = in_walk m S.chains (h + 2) (body_size m h) (word m h 3 % first_unit) h (body_starts h l) i in live_on (sym l ∙ x.2),
    once_walk m S.chains (h + 2) (body_size m h) (word m h 3 % first_unit) (body_starts h l),
  )

  length_cells : (h : ℕ) → length (cells_of m h) ≡ 1 + body_size m h
  unfolding cells_of
  length_cells h = omega (arith, length_walk m (body_size m h) (word m h 3 % first_unit))

  same_owner : (h i c : ℕ) → g.own h ≡ live → g.own i ≡ live → (c ≡ h) ⊎ ((k : ℕ) × (g.own c ≡ on (h + 2) k)) → (c ≡ i) ⊎ ((k : ℕ) × (g.own c ≡ on (i + 2) k)) → h ≡ i
  same_owner h i c l l' (inl e) (inl e') = sym e ∙ e'
  same_owner h i c l l' (inl e) (inr x) = absurd (live_on (sym l ∙ ap g.own (sym e) ∙ x.1))
  same_owner h i c l l' (inr x) (inl e) = absurd (live_on (sym l' ∙ ap g.own (sym e) ∙ x.1))
  same_owner h i c l l' (inr x) (inr y) = omega (arith, on_list (sym x.1 ∙ y.1))

  cell_busy : (h c : ℕ) → g.own h ≡ live → c ∈ cells_of m h → c ∈ occupied s m
  unfolding S
  cell_busy h c l i = ⊎_elim
      (λ (e : c ≡ h). live_busy c (ap g.own e ∙ l))
      (λ (x : (k : ℕ) × (g.own c ≡ on (h + 2) k)). busy c (λ q. fresh_on (sym q ∙ x.1)) (λ k q. omega (arith, on_list (sym q ∙ x.1))) (inside S c x.1 refl).0)
      (cell_owned h c l i)

  -- ---- all cells

  owned : (c : ℕ) → c < cells m → (c ∈ free_cells s m) ⊎ ((h : ℕ) × (h ∈ headers s m) × (c ∈ cells_of m h))
  owned c l = go (use_of c)
    where
      go : Use g.own c → (c ∈ free_cells s m) ⊎ ((h : ℕ) × (h ∈ headers s m) × (c ∈ cells_of m h))
      go (unused q) = inl (fresh_free c q l)
      go (listed k q) = inl (listed_free c k q)
      go (header q) = inr (c, live_header c q, header_cell c)
      go (body a k q e) = inr (a, live_header a e, body_cell a c k e q)

  not_free : (c : ℕ) → c ∈ occupied s m → (c < cells m) × (c ∈ free_cells s m → ⊥)
  unfolding occupied
  not_free c i = let y = in_only (λ d. not (member d (free_cells s m))) c (from 0 (cells m)) i in
      (omega (arith, (in_from 0 (cells m) c y.0).1), T_not (member c (free_cells s m)) y.1)

  length_free : length (free_cells s m) ≡ s.listed + (cells m - s.edge)
  unfolding free_cells
  length_free = length-append (walk m s.listed s.free) (from s.edge (cells m - s.edge))
      ∙ ap (λ n. n + length (from s.edge (cells m - s.edge))) (length_walk m s.listed s.free)
      ∙ ap (λ n. s.listed + n) (length_from s.edge (cells m - s.edge))

  -- A header's cells are one and its body's, and what is no header has none.
  listing : ℕ → ℕ
  listing c = pick (not (member c (free_cells s m))) (pick (is_header m c) (length (cells_of m c)) 0) 0

  owning : ℕ → ℕ
  owning c = pick (is_head (g.own c)) 1 0 + g.size (c + 2)

  header_term : (c : ℕ) → g.own c ≡ live → listing c ≡ owning c
  unfolding S listing owning headers occupied body_size
  header_term c l =
      let x = in_only (is_header m) c (occupied s m) (live_header c l) in
      let y = in_only (λ d. not (member d (free_cells s m))) c (from 0 (cells m)) x.0 in
      both (not (member c (free_cells s m))) (is_header m c) (length (cells_of m c)) y.1 x.1
      ∙ omega (arith, length_cells c, (header_of S c l refl).0, ap (λ o. pick {X = ℕ} (is_head o) 1 0) l)

  other_term : (c : ℕ) → c < cells m → is_head (g.own c) ≡ false → (g.own c ≡ live → ⊥) → listing c ≡ owning c
  unfolding listing owning headers occupied
  other_term c b f d =
      neither (not (member c (free_cells s m))) (is_header m c) (length (cells_of m c))
      (λ t u. d (header_live c (only_in (is_header m) c (occupied s m) (only_in (λ x. not (member x (free_cells s m))) c (from 0 (cells m)) (from_in 0 (cells m) c (omega arith) (omega arith)) t) u)))
      ∙ ⊎_elim (λ (k : 0 < g.size (c + 2)). absurd (d (alive c 0 k))) (λ (k : g.size (c + 2) ≤ 0). omega (arith, ap (λ x. pick {X = ℕ} x 1 0) f)) (lt_or_le 0 (g.size (c + 2)))

  term : (c : ℕ) → c < cells m → Use g.own c → listing c ≡ owning c
  term c l (unused q) = other_term c l (ap is_head q) (λ w. fresh_live (sym q ∙ w))
  term c l (listed k q) = other_term c l (ap is_head q) (λ w. live_on (sym w ∙ q))
  term c l (header q) = header_term c q
  term c l (body a k q e) = other_term c l (ap is_head q ∙ body_head a) (λ w. live_on (sym w ∙ q))

  headers_sum : sum_of (λ h. length (cells_of m h)) (headers s m) ≡ total owning (cells m)
  unfolding listing headers occupied
  headers_sum = sum_only (λ h. length (cells_of m h)) (is_header m) (occupied s m)
      ∙ sum_only (λ c. pick (is_header m c) (length (cells_of m c)) 0) (λ c. not (member c (free_cells s m))) (from 0 (cells m))
      ∙ sum_from listing 0 (cells m)
      ∙ total_same owning (λ x. listing (0 + x)) (cells m) (λ x l. ap listing (zero-add x) ∙ term x l (use_of x))

  -- ---- the theorem

  pub exact : Exact s m
  unfolding S owning headers occupied free_cells
  exact = record {
    free = λ c i. ⊎_elim (λ x. x.1) (λ x. (inside S c x.1 refl).0) (free_owned c i);
    free_once = once_append (walk m s.listed s.free) (from s.edge (cells m - s.edge))
        (once_walk m S.chains 0 s.listed s.free free_starts) (once_from s.edge (cells m - s.edge))
        (λ c i j. let x = in_walk m S.chains 0 s.listed s.free c free_starts i in
        omega (arith, (inside S c x.2 refl).1, (in_from s.edge (cells m - s.edge) c j).0));
    headers_once = once_only (is_header m) (occupied s m) (once_only (λ c. not (member c (free_cells s m))) (from 0 (cells m)) (once_from 0 (cells m)));
    sized = λ h i. length_cells h;
    taken = λ h c i j. cell_busy h c (header_live h i) j;
    once = λ h i. once_cells h (header_live h i);
    disjoint = λ h k c i j u v. same_owner h k c (header_live h i) (header_live k j) (cell_owned h c (header_live h i) u) (cell_owned k c (header_live k j) v);
    apart = λ h c i j. (not_free c (cell_busy h c (header_live h i) j)).1;
    together = λ c i. let x = not_free c i in ⊎_elim (λ j. absurd (x.1 j)) (λ y. y) (owned c x.0);
    whole = owned;
    room = length_free;
    counted = omega (arith, length_free, headers_sum, F.heap.listed, free_cells_lem g s.edge m S no (F.heap.dead ∙ z));
  }
