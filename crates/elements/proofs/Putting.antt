-- An element becomes another value, such as a copy of an item: the heap after `assign` stands for the objects with that element set, and what the root places still reach is carried
-- over.
-- Assumes nothing.
use mathlib.Core.Path.{◌≡◌, refl, sym, ap, ◌∙◌, subst}
use mathlib.Core.Bool.{true}
use mathlib.Core.List.{List, [], map}
use Prim.Native.Nat.{ℕ, suc, ◌+◌, ◌/◌}
use native.Mathlib.Omega.{arith}
use lib.ListN.{length, set, length-set}
use lib.Seq.{map-set_same}
use Rattle.semantics.specs.Values.{Value, array, Object, elements}
use Rattle.semantics.specs.Machine as Floo
use Rattle.semantics.specs.Machine.{with_store, object, elements_of, change}
use Rattle.heap.specs.Word.{word}
use Rattle.heap.specs.Chain.{live, on}
use Rattle.heap.specs.Shape.{Ghost, Full, NoOut, cells, target}
use Rattle.heap.specs.Gone.{Since}
use Rattle.heap.specs.Assign.{aimed, Assigned, Target}
use Rattle.heap.specs.declared.Lists.{Lists}
use Rattle.heap.proofs.Chains.{live_on}
use Rattle.heap.proofs.Since.{begins}
use Rattle.store.specs.Rep as Store
use Rattle.store.specs.Rep.{is_text, Stands, Names, by_array, Alive, Sealed, object_at}
use Rattle.store.proofs.Standing.{stands_names, names_stands}
use Rattle.store.proofs.Deaths.{rep_since}
use Rattle.store.proofs.Rooting.{rep_alike}
use Rattle.store.proofs.Changes.{at_set}
use Rattle.store.proofs.Elements.{rep_assign}
use Rattle.store.proofs.Sealing.{sealed_kept}
use Rattle.machine.specs.Words.{item_tag, item_payload}
use Rattle.machine.specs.Places.{root_count, roots, keys}
use Rattle.machine.specs.Rep.{Rep, World, Stored, Is, IsIn, MovesHeap}
use Rattle.machine.specs.declared.Machine.{Machine}
use Rattle.machine.proofs.Carrying.{Reached}
use Rattle.machine.proofs.Copying.{word_of}
use Rattle.machine.proofs.Restacking.{with_depth}
use Rattle.elements.specs.Elements.{HasElement, item_id, element_put}
use Rattle.elements.proofs.Arrays.{Found, here, rank, split, at_cell, element_too}
use Rattle.machine.proofs.Rehousing.{roots_store, restored}

module _ {m : Machine} {st e d c l : List ℕ} {μ : Floo.Machine} (R : Rep m st e d c l μ) (i k q : ℕ) (h : m.depth ≡ k + suc i) (b : HasElement i q μ) (cell : ℕ)
    (found : Found c (item_payload st k) q cell)
    {v : Value} {tag pay : ℕ} (new : IsIn R.world μ v tag pay) where
  abbrev head : ℕ
  head = item_payload st k

  -- What `assign` asks.
  pub value_target : Target cell tag pay m.lists c
  value_target = (
    cells c + root_count,
    R.world.ghost,
    head,
    rank R i k q h b,
    R.stored.full,
    at_cell R i k q h b cell found,
    (here R i k q h b).lives,
    (here R i k q h b).kind,
    new.alive,
  )

  module _ {s : Lists} {c' : List ℕ} (A : Assigned cell tag pay m.lists c s c') (z : s.dead ≡ 0) where
    abbrev changed : ℕ → Object
    changed id = elements (set (elements_of (object_at μ.store id)) q v)

    abbrev store : List Object
    store = set μ.store (R.world.ρ head) (changed (R.world.ρ head))

    pub record Put : Type 0 where
      pub middle : List ℕ
      pub ghost : Ghost
      pub size : length middle ≡ length c
      pub full : Full ghost (cells c + root_count) 0 s c'
      pub since : Since (cells c + root_count) (aimed R.world.ghost cell (target 0 tag pay)) middle ghost c'
      pub whole : NoOut ghost
      pub heads : (x : ℕ) → R.world.ghost.own x ≡ live → word middle x 1 ≡ word c x 1
      pub rep : Store.Rep (keys μ) root_count R.world.ρ ghost c' store (roots μ)

    put : Put
    put =
        let H = R.stored in
        let at = here R i k q h b in
        let oc = at_cell R i k q h b cell found in
        let X = A (cells c + root_count) R.world.ghost head (rank R i k q h b) H.full oc at.lives at.kind new.alive in
        let none : R.world.ghost.size 1 ≡ 0 = H.full.heap.dead ∙ H.none_dead in
        let near : cells c + root_count ≡ cells X.0 + root_count = rw X.3.size refl in
        let since = X.5 _ _ (begins (cells c + root_count) (aimed R.world.ghost cell (target 0 tag pay)) _ _ X.0 X.2.heap.shape X.2.counts none) in
        let rep = rep_assign H.full.heap.shape H.full.counts H.objects cell head (rank R i k q h b) q tag pay v _ oc at.lives at.whole (split R i k q h b) new.stands new.alive X.3 in
        record {
          middle = X.0;
          ghost = X.1;
          size = X.3.size;
          full = X.4;
          since = since;
          whole = X.6 H.none_out;
          heads = λ x l. X.3.there x 1 (omega arith) (λ e. omega arith) (λ e. absurd (live_on (sym l ∙ ap R.world.ghost.own e ∙ oc)));
          rep = rep_since X.2.heap.shape X.2.counts rep near since;
        }

    abbrev next : World
    next = record { ρ = R.world.ρ; ghost = put.ghost }

    kinds : map is_text store ≡ map is_text μ.store
    kinds = map-set_same is_text μ.store (R.world.ρ head) (changed (R.world.ρ head)) (elements []) (sym (ap is_text (here R i k q h b).whole))

    stored : Stored next s c' (keys μ) store (roots (with_store store μ))
    stored =
        let same : length c' ≡ length c = put.since.long ∙ put.size in
        record {
          full = subst (λ n. Full put.ghost (n + root_count) 0 s c') (sym (ap (λ n. n / 4) same)) put.full;
          none_dead = z;
          none_out = put.whole;
          objects = rep_alike put.rep (λ r i. (λ a. subst (λ x. Names x i) (sym (roots_store μ store r)) a, λ a. subst (λ x. Names x i) (roots_store μ store r) a));
        }

    carry : (v : Value) (t p : ℕ) → Reached (Alive R.world.ρ put.ghost) v → IsIn R.world μ v t p → Is next (keys μ) (map is_text store) v t p
    carry v t p q h =
        record {
          stands = subst (λ kinds. Stands (keys μ) kinds R.world.ρ v t p) (sym kinds) h.stands;
          alive = λ l.
              let x = q.reach (R.world.ρ p) (names_stands h.stands l) in
              let was = (put.since.alive x.0 x.1).0 in
              subst (λ y. put.ghost.own y ≡ live) (R.stored.objects.one x.0 p was (h.alive l) x.2) x.1;
        }

    stays : (i t p a r : ℕ)
        → Reached (Alive R.world.ρ put.ghost) (array true i)
        → IsIn R.world μ (array true i) t p
        → R.world.ghost.own a ≡ on (p + 2) r
        → put.ghost.own a ≡ on (p + 2) r
    stays i t p a r q h o = put.since.kept a p r o ((carry (array true i) t p q h).alive (stands_names h.stands by_array).0)

    marked : Sealed R.world.ρ put.ghost c' store μ.read_only
    marked =
        sealed_kept R.sealed (omega (arith, length-set μ.store (R.world.ρ head) (changed (R.world.ρ head))))
        (λ x l. let y = put.since.alive x l in (y.0, y.3 ∙ put.heads x y.0))

    long : (x : ℕ) → length (elements_of (object_at store x)) ≡ length (elements_of (object_at μ.store x))
    unfolding elements_of
    long x =
        let id = R.world.ρ head in
        at_set (λ x y. length (elements_of x) ≡ length (elements_of y)) μ.store id (changed id) (R.stored.objects.id head (here R i k q h b).lives)
        (length-set (elements_of (object_at μ.store id)) q v) x refl

    pub value_put : Rep (with_depth m.depth s m) st e d c' l (change (item_id i μ) (elements (set (elements_of (object μ (item_id i μ))) q v)) μ)
    unfolding change object
    value_put =
        subst (λ id. Rep (with_depth m.depth s m) st e d c' l (with_store (set μ.store id (changed id)) μ)) (here R i k q h b).stands
        (restored R next store stored carry (λ x t p _. long x) stays marked)

-- The value is a copy of item j.
module _ {m : Machine} {st e d c l : List ℕ} {μ : Floo.Machine} (R : Rep m st e d c l μ) (i k q : ℕ) (h : m.depth ≡ k + suc i) (b : HasElement i q μ) (cell : ℕ)
    (found : Found c (item_payload st k) q cell)
    (j o : ℕ) (g : m.depth ≡ o + suc j) where
  pub target_of : Target cell (item_tag st o) (item_payload st o) m.lists c
  target_of = value_target R i k q h b cell found (word_of R j o g)

  put_rep : {s : Lists} {c' : List ℕ}
      → Assigned cell (item_tag st o) (item_payload st o) m.lists c s c'
      → s.dead ≡ 0
      → Rep (with_depth m.depth s m) st e d c' l (element_put i q j μ)
  unfolding element_put
  put_rep A z = value_put R i k q h b cell found (word_of R j o g) A z

pub put_moves : {m : Machine} {st e d c l : List ℕ} {μ : Floo.Machine} (R : Rep m st e d c l μ) (i k q : ℕ) (h : m.depth ≡ k + suc i)
    → HasElement i q μ
    → (cell : ℕ)
    → Found c (item_payload st k) q cell
    → (j o : ℕ)
    → m.depth ≡ o + suc j
    → {s : Lists} {c' : List ℕ}
    → Assigned cell (item_tag st o) (item_payload st o) m.lists c s c'
    → s.dead ≡ 0
    → MovesHeap (element_put i q j) m (with_depth m.depth s m) st st c c'
put_moves R i k q h b cell found j o g A z =
    record { moves = λ e d l μ R'. put_rep R' i k q h (element_too R i k q h b R') cell found j o g A z }
