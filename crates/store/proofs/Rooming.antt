-- The cells that are free are those that no held object takes: the cells of all headers are summed by header and then by object, and what
-- the definition holds is a list without repetition.
-- Assumes nothing.
use mathlib.Core.Path.{◌≡◌, refl, sym, ap, ◌∙◌}
use mathlib.Core.Bool.{Bool, true, false, ◌||◌}
use mathlib.Core.List.{List, [], ◌∷◌}
use mathlib.Core.Logic.{inl, inr, ⊎_elim}
use Prim.Native.Nat.{ℕ, zero, suc, ◌+◌, ◌-◌, ◌/◌, ◌≤◌, ◌<◌}
use native.Mathlib.Omega.{arith}
use borrow.Author.Tests.{eq-eqb, ne_eqb}
use lib.ListN.{length}
use lib.Dec.{eqb, leb, leb-zero}
use Rattle.semantics.specs.Values.{Value, Object, check}
use Rattle.semantics.specs.Values as values
use Rattle.semantics.specs.Machine.{Machine, object, member}
use Rattle.semantics.specs.Held.{keep, among, prune, pruned, named_by, below, held, sum_of, held_cells}
use Rattle.semantics.specs.Steps.{Limits, cells_for}
use Rattle.semantics.specs.declared.Error.TheVariants.{VmError}
use Rattle.semantics.specs.ResultLaws.{choose}
use Rattle.heap.specs.Word.{word}
use Rattle.heap.specs.Upd.{pick, total}
use Rattle.heap.specs.Chain.{Owner, fresh, live, out, on}
use Rattle.heap.specs.Shape.{Ghost, Shape, Counts, Full, NoOut, cells, is_head}
use Rattle.heap.specs.declared.Lists.{Lists}
use Rattle.heap.proofs.Upds.{same?, total_same, total_change, pick_zero}
use Rattle.heap.proofs.Shapes.{inside}
use Rattle.heap.proofs.Bodies.{total_none}
use Rattle.heap.proofs.Since.{lt_or_le, true_or_false, alive_of}
use Rattle.heap.proofs.Rooms.{free_cells_lem, by_id, total_by_id}
use Rattle.store.specs.Rep.{object_at, Alive, Rep}
use Rattle.store.proofs.Places.{zero_or_suc}
use Rattle.store.proofs.Sorts.{word_array, word_text}
use Rattle.store.proofs.Deaths.{live?}
use Rattle.store.proofs.Holding.{Roots, alive_held, held_alive}

-- ---- what is held is listed once

-- A list that falls, all of it below n.
data Falling : ℕ → List ℕ → Type 0 where
  nil : {n : ℕ} → Falling n []
  cons : {n i : ℕ} {l : List ℕ} → i < n → Falling i l → Falling n (i ∷ l)

falling_up : {n k : ℕ} {l : List ℕ} → n ≤ k → Falling n l → Falling k l
falling_up le nil = nil
falling_up {k = k} le (cons {i = i} b f) = cons {n = k} {i = i} (omega arith) f

falling_below : (n : ℕ) → Falling n (below n)
unfolding below
falling_below zero = nil
falling_below (suc n) = cons {n = suc n} {i = n} (omega arith) (falling_below n)

falling_keep : (b : Bool) {n i : ℕ} {l : List ℕ} → i < n → Falling i l → Falling n (keep b i l)
unfolding keep
falling_keep true b f = cons b f
falling_keep false {n} {i} b f = falling_up {n = i} {k = n} (omega arith) f

falling_among : (names : List ℕ) {n : ℕ} {ids : List ℕ} → Falling n ids → Falling n (among names ids)
unfolding among
falling_among names nil = nil
falling_among names (cons {i = i} b f) = falling_keep (member i names) b (falling_among names f)

falling_pruned : (μ : Machine) (k : ℕ) {n : ℕ} (ids : List ℕ) → Falling n ids → Falling n (pruned μ k ids)
unfolding pruned prune
falling_pruned μ zero ids f = f
falling_pruned μ (suc k) {n} ids f =
    choose (Falling n) (eqb (length (prune μ ids)) (length ids)) ids (pruned μ k (prune μ ids))
    (λ t. f) (λ t. falling_pruned μ k (prune μ ids) (falling_among (named_by μ ids) f))

falling_held : (μ : Machine) → Falling (length μ.store) (held μ)
unfolding held
falling_held μ = falling_pruned μ (length μ.store) (below (length μ.store)) (falling_below (length μ.store))

-- So it does not have what is at or over its bound,
falling_out : {n : ℕ} {l : List ℕ} → Falling n l → (i : ℕ) → n ≤ i → member i l ≡ false
unfolding member
falling_out nil i le = refl
falling_out (cons {i = j} b f) i le = rw (ne_eqb i j (λ q. omega arith)) (falling_out f i (omega arith))

-- and a sum over it is one over numbers.
sum_total : (f : ℕ → ℕ) {k : ℕ} {l : List ℕ} → Falling k l → (n : ℕ) → k ≤ n → sum_of f l ≡ total (λ i. pick (member i l) (f i) 0) n
unfolding sum_of member
sum_total f nil n le = sym (total_none (λ _. 0) n (λ x b. refl))
sum_total f (cons {i = j} {l = l} b t) n le = omega (
  arith,
  sum_total f t n (omega arith),
  total_change (λ i. pick (member i l) (f i) 0) (λ i. pick (eqb i j || member i l) (f i) 0) n j (omega arith) (λ c ne. rw (ne_eqb c j ne)),
  ap (λ x. pick {X = ℕ} x (f j) 0) (falling_out t j (omega arith)),
  ap (λ x. pick {X = ℕ} (x || member j l) (f j) 0) (eq-eqb j j refl),
)

-- ---- a sum over live headers is one over held objects

module _ {keys : List (List ℕ)} {n : ℕ} {ρ : ℕ → ℕ} {g : Ghost} {e : ℕ} {m : List ℕ} {store : List Object} {roots : ℕ → Value} (S : Shape g e m) (R : Rep keys n ρ g m store roots)
    (f : ℕ → ℕ) (none : (x : ℕ) → (g.own x ≡ live → ⊥) → f x ≡ 0) where
  -- A header that does not live for object i adds nothing to its part.
  term_none : (i x : ℕ) → (g.own x ≡ live → ρ x ≡ i → ⊥) → pick {X = ℕ} (eqb i (ρ x)) (f x) 0 ≡ 0
  term_none i x d = ⊎_elim
      (λ (l : g.own x ≡ live). ap (λ b. pick {X = ℕ} b (f x) 0) (ne_eqb i (ρ x) (λ q. d l (sym q))))
      (λ (l : g.own x ≡ live → ⊥). ap (λ y. pick (eqb i (ρ x)) y 0) (none x l) ∙ pick_zero (eqb i (ρ x))) (live? (g.own x))

  -- So an object's part is that of its live header, or 0.
  by_alive : (i : ℕ) (L : Alive ρ g i) → by_id ρ f (cells m) i ≡ f L.0
  unfolding by_id
  by_alive i L = omega (
    arith,
    total_change (λ _. 0) (λ x. pick (eqb i (ρ x)) (f x) 0) (cells m) L.0 (inside S L.0 L.1 refl).0
        (λ x ne. term_none i x (λ l q. ne (R.one x L.0 l L.1 (q ∙ sym L.2)))),
    total_none (λ _. 0) (cells m) (λ x b. refl),
    ap (λ b. pick {X = ℕ} b (f L.0) 0) (eq-eqb i (ρ L.0) (sym L.2)),
  )

  by_dead : (i : ℕ) → (Alive ρ g i → ⊥) → by_id ρ f (cells m) i ≡ 0
  unfolding by_id
  by_dead i d = total_none (λ h. pick (eqb i (ρ h)) (f h) 0) (cells m) (λ x b. term_none i x (λ l q. d (x, l, q)))

module _ {keys : List (List ℕ)} {n : ℕ} {ρ : ℕ → ℕ} {g : Ghost} {e p : ℕ} {m : List ℕ} {roots : ℕ → Value} (μ : Machine)
    (S : Shape g e m) (C : Counts g p 0 m) (R : Rep keys n ρ g m μ.store roots) (z : g.size 1 ≡ 0) (named : Roots μ roots) where
  pub held_sum : (f v : ℕ → ℕ) → ((x : ℕ) → (g.own x ≡ live → ⊥) → f x ≡ 0) → ((h : ℕ) → g.own h ≡ live → f h ≡ v (ρ h)) → sum_of v (held μ) ≡ total f (cells m)
  held_sum f v none same =
      let k = length μ.store in
      sum_total v (falling_held μ) k (omega arith)
      ∙ total_same (by_id ρ f (cells m)) (λ i. pick (member i (held μ)) (v i) 0) k (λ i b. term i)
      ∙ total_by_id ρ f (cells m) k (λ h b. ⊎_elim (λ l. inl (R.id h l)) (λ l. inr (none h l)) (live? (g.own h)))
    where
      term : (i : ℕ) → pick (member i (held μ)) (v i) 0 ≡ by_id ρ f (cells m) i
      term i = ⊎_elim
          (λ (t : member i (held μ) ≡ true). let L = held_alive μ S C R z named i (rw t tt) in
          ap (λ b. pick b (v i) 0) t ∙ sym (by_alive S R f none i L ∙ same L.0 L.1 ∙ ap v L.2))
          (λ (t : member i (held μ) ≡ false). ap (λ b. pick b (v i) 0) t ∙ sym (by_dead S R f none i (λ L. rw t at (alive_held μ S C R z named i L))))
          (true_or_false (member i (held μ)))

-- ---- the cells of headers and of objects

module _ {keys : List (List ℕ)} {n : ℕ} {ρ : ℕ → ℕ} {g : Ghost} {e p : ℕ} {m : List ℕ} {store : List Object} {roots : ℕ → Value}
    (S : Shape g e m) (C : Counts g p 0 m) (R : Rep keys n ρ g m store roots) (z : g.size 1 ≡ 0) where
  -- A live header has the cells of its object.
  live_takes : (h : ℕ) → g.own h ≡ live → pick {X = ℕ} (is_head (g.own h)) 1 0 + g.size (h + 2) ≡ values.cells (object_at store (ρ h))
  unfolding values.cells
  live_takes h l = let y = ap (λ o. pick {X = ℕ} (is_head o) 1 0) l in ⊎_elim
      (λ w. let x = word_array R h l w in omega (arith, y, x.1, ap values.cells x.0))
      (λ w. let x = word_text R h l w.0 w.1 in omega (arith, y, x.1, x.2, ap (λ k. (k + 7) / 8) x.1, ap values.cells x.0)) (zero_or_suc (word m h 0))

  -- What is no live header has no body, and is no header.
  pub no_body : (h : ℕ) → (g.own h ≡ live → ⊥) → g.size (h + 2) ≡ 0
  no_body h d = ⊎_elim (λ (l : 0 < g.size (h + 2)). absurd (d (alive_of p g e 0 m S C z h 0 l))) (λ (l : g.size (h + 2) ≤ 0). omega arith) (lt_or_le 0 (g.size (h + 2)))

  else_takes : (h : ℕ) → (g.own h ≡ live → ⊥) → pick {X = ℕ} (is_head (g.own h)) 1 0 + g.size (h + 2) ≡ 0
  else_takes h d = omega (arith, no_body h d, head (g.own h) refl)
    where
      head : (o : Owner) → g.own h ≡ o → pick {X = ℕ} (is_head o) 1 0 ≡ 0
      head fresh q = refl
      head live q = absurd (d q)
      head out q = refl
      head (on s k) q = ⊎_elim (λ (t : s ≡ 1). absurd (omega (arith, S.chains.above h s k q, ap g.size t)))
          (λ (t : s ≡ 1 → ⊥). ap (λ b. pick {X = ℕ} b 1 0) (ne_eqb s 1 t)) (same? s 1)

-- ---- the theorem

module _ {keys : List (List ℕ)} {n : ℕ} {ρ : ℕ → ℕ} {g : Ghost} {e p : ℕ} {m : List ℕ} {roots : ℕ → Value} (μ : Machine)
    (S : Shape g e m) (C : Counts g p 0 m) (R : Rep keys n ρ g m μ.store roots) (z : g.size 1 ≡ 0) (named : Roots μ roots) (whole : NoOut g) where
  pub room : g.size 0 + (cells m - e) + held_cells μ ≡ cells m
  unfolding held_cells object
  room = omega (
    arith,
    free_cells_lem g e m S whole z,
    held_sum μ S C R z named (λ h. pick (is_head (g.own h)) 1 0 + g.size (h + 2)) (λ i. values.cells (object μ i)) (else_takes S C R z) (live_takes S C R z),
  )

  -- What is wanted fits among the free cells exactly where the definition says that there is room.
  pub room_for : (need : ℕ) → leb need (cells m - held_cells μ) ≡ leb need (g.size 0 + (cells m - e))
  room_for need = let q : cells m - held_cells μ ≡ g.size 0 + (cells m - e) = omega (arith, room) in ap (leb need) q

-- The same, by the lists that the heap's code holds.
module _ {keys : List (List ℕ)} {n : ℕ} {ρ : ℕ → ℕ} {g : Ghost} {p : ℕ} {s : Lists} {m : List ℕ} {roots : ℕ → Value} (μ : Machine)
    (F : Full g p 0 s m) (z : s.dead ≡ 0) (whole : NoOut g) (R : Rep keys n ρ g m μ.store roots) (named : Roots μ roots) where
  pub lists_room : s.listed + (cells m - s.edge) + held_cells μ ≡ cells m
  lists_room = rw (← F.heap.listed) (room μ F.heap.shape F.counts R (F.heap.dead ∙ z) named whole)

  -- VMerror, of a machine whose limits are those of the heap.
  pub lists_for : (l : Limits) → l.cell_count ≡ cells m → (need : ℕ) → cells_for l μ need ≡ check (leb need (s.listed + (cells m - s.edge))) VmError
  unfolding cells_for check
  lists_for l e zero = rw (leb-zero (s.listed + (cells m - s.edge)))
  lists_for l e (suc k) = let q : l.cell_count - held_cells μ ≡ s.listed + (cells m - s.edge) = omega (arith, e, lists_room) in rw q
