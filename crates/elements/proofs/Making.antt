-- A new object takes the place of an item that names none: it is in hand after `allocate`, and goes to the item's place. All that lived lives on in its cells,
-- so every other place is carried over.
-- Assumes nothing.
use mathlib.Core.Path.{◌≡◌, refl, sym, ap, ◌∙◌, subst}
use mathlib.Core.Bool.{true, false}
use mathlib.Core.List.{List, [], ◌∷◌, ◌++◌, map}
use mathlib.Core.Logic.{⊎_elim}
use Prim.Native.Nat.{ℕ, suc, ◌+◌, ◌-◌, ◌*◌, ◌/◌, ◌≤◌, ◌<◌}
use native.Mathlib.Omega.{arith}
use native.Mathlib.Numerals.{add-one}
use lib.ListN.{length, get_or, set, replicate, get_or-append}
use lib.Dec.{eqb}
use Rattle.semantics.specs.Values.{Value, null, string, array, Object, elements, text}
use Rattle.semantics.specs.Machine as Floo
use Rattle.semantics.specs.Machine.{with_stack, with_store, elements_of, make, made}
use Rattle.heap.specs.Chain.{live}
use Rattle.heap.specs.Upd.{pick, upd}
use Rattle.heap.specs.Shape.{Full, cells, target}
use Rattle.heap.specs.Assign.{aimed}
use Rattle.heap.specs.Grow.{Made}
use Rattle.heap.specs.declared.Lists.{Lists}
use Rattle.heap.proofs.Parts as parts
use Rattle.heap.proofs.Shapes.{list_le}
use Rattle.heap.proofs.Since.{lt_or_le}
use Rattle.store.specs.Rep as Store
use Rattle.store.specs.Rep.{is_text, Stands, Names, object_at, Sealed}
use Rattle.store.proofs.Standing.{names_stands, kind_at}
use Rattle.store.proofs.Rooting.{root_placed, rep_alike}
use Rattle.store.proofs.Fresh.{Adds, rep_array, rep_string, stands_made, new_array_lem, new_string}
use Rattle.store.proofs.Sealing.{sealed_new}
use Rattle.machine.specs.Words.{item_tag, item_payload}
use Rattle.machine.specs.Places.{Nameless, root_count, roots, keys}
use Rattle.machine.specs.Rep.{Rep, World, Stored, Is, IsIn, Items, bottom, item, MovesHeap}
use Rattle.machine.specs.declared.Machine.{Machine}
use Rattle.machine.proofs.Naming.{nameless}
use Rattle.machine.proofs.Items.{items_length, items_set}
use Rattle.machine.proofs.Operands.{two_first, two_second, two_others, two_length}
use Rattle.machine.proofs.Roots.{roots_at, set_here, set_there}
use Rattle.machine.proofs.Copying.{word_of}
use Rattle.machine.proofs.Worlds as Worlds
use Rattle.machine.proofs.Restacking.{with_depth}
use Rattle.elements.specs.Elements.{MakesObject, free_cells, array_made, string_made}
use Rattle.elements.proofs.Arrays.{array_tags}
use Rattle.machine.proofs.Copying.{held, low}
use Rattle.machine.proofs.Rehousing.{roots_store, rehoused}

items_lift : {A B : Value → ℕ → ℕ → Type 0} {words : List ℕ} {n : ℕ} {s : List Value} → ((v : Value) (t p : ℕ) → A v t p → B v t p) → Items A words n s → Items B words n s
items_lift f bottom = bottom
items_lift f (item h i) = item (f _ _ _ h) (items_lift f i)

-- An item that names no object has a plain tag.
plain_tag : {m : Machine} {st e d c l : List ℕ} {μ : Floo.Machine} → Rep m st e d c l μ
    → (i k : ℕ)
    → m.depth ≡ k + suc i
    → Nameless (get_or μ.stack i null)
    → item_tag st k < 8
plain_tag {st = st} R i k h p =
    ⊎_elim (λ l. l) (λ l. absurd (nameless p (names_stands (word_of R i k h).stands l))) (lt_or_le (item_tag st k) 8)

-- The cells of a new object are free no more.
pub cells_used : {m : Machine} {st e d c l : List ℕ} {μ : Floo.Machine} → Rep m st e d c l μ
    → {kind n x : ℕ} {s : Lists} {c' : List ℕ}
    → Made kind n x m.lists c s c'
    → s.listed + m.lists.edge + n + 1 ≡ m.lists.listed + s.edge
    → s.listed + (cells c' - s.edge) + (n + 1) ≡ free_cells m c
cells_used R M e =
    let F = R.stored.full in
    let X = M _ _ F in
    omega (arith, F.heap.shape.within, X.1.heap.shape.within, X.2.long)

-- Object o is made with header x.
module _ {m : Machine} {st e d c l : List ℕ} {μ : Floo.Machine} (R : Rep m st e d c l μ) {s : Lists} {c' : List ℕ} (x : ℕ) (o : Object)
    (A : Adds (keys μ) root_count R.world.ρ R.world.ghost (cells c + root_count) s c c' μ.store (roots μ) x o)
    (fresh : R.world.ghost.own x ≡ live → ⊥) where
  abbrev pub added : World
  added = record { ρ = upd R.world.ρ x (length μ.store); ghost = A.ghost }

  -- Values stand as they did,
  pub carry_added : (v : Value) (t p : ℕ) → IsIn R.world μ v t p → Is added (keys μ) (map is_text (μ.store ++ (o ∷ []))) v t p
  carry_added v t p h =
      record {
        stands = stands_made R.world.ghost μ.store o x fresh h.alive h.stands;
        alive = λ l. (A.grows.lives p (λ q. fresh (subst (λ y. R.world.ghost.own y ≡ live) q (h.alive l))) (h.alive l)).0;
      }

  -- objects have the marks that they had, the new one none,
  pub sealed_added : Sealed added.ρ added.ghost c' (μ.store ++ (o ∷ [])) μ.read_only
  sealed_added = sealed_new A fresh R.sealed

  -- and procedures have their lengths.
  pub long_added : (j t p : ℕ)
      → IsIn R.world μ (array true j) t p
      → length (elements_of (object_at (μ.store ++ (o ∷ [])) j)) ≡ length (elements_of (object_at μ.store j))
  long_added j t p h =
      ap (λ y. length (elements_of y)) (get_or-append μ.store (o ∷ []) (elements []) j (kind_at μ.store j false (array_tags h.stands).0).0)

-- Object o is made with header x, and the value v, of tag t, names it.
module _ {m : Machine} {st e d c l : List ℕ} {μ : Floo.Machine} (R : Rep m st e d c l μ) (i k : ℕ) (h : m.depth ≡ k + suc i) (plain : item_tag st k < 8)
    {s : Lists} {c' : List ℕ} (x : ℕ) (o : Object)
    (A : Adds (keys μ) root_count R.world.ρ R.world.ghost (cells c + root_count) s c c' μ.store (roots μ) x o)
    (fresh : R.world.ghost.own x ≡ live → ⊥) (z : s.dead ≡ 0)
    (v : Value) (t : ℕ) (object : 8 ≤ t) (new : Stands (keys μ) (map is_text (μ.store ++ (o ∷ []))) (upd R.world.ρ x (length μ.store)) v t x) where
  abbrev store : List Object
  store = μ.store ++ (o ∷ [])

  abbrev stack : List Value
  stack = set μ.stack i v

  abbrev world : World
  world = record { ρ = upd R.world.ρ x (length μ.store); ghost = aimed A.ghost (cells c' + 4 * k) (target 0 t x) }

  inside : 4 * k < root_count
  inside = omega (arith, low R i k h)

  depth : length μ.stack ≡ m.depth
  depth = items_length R.items

  same_cells : cells c' ≡ cells c
  same_cells = ap (λ n. n / 4) A.grows.long

  -- The item's place named nothing.
  named_none : A.ghost.aim (cells c' + 4 * k) ≡ 0
  named_none =
      A.grows.aims (cells c' + 4 * k) ∙ ap (λ n. R.world.ghost.aim (n + 4 * k)) same_cells ∙ Worlds.holds R.stored (4 * k) inside (held R i k h)
      ∙ parts.no_object 0 (item_tag st k) (item_payload st k) refl plain

  placed : Full world.ghost (cells c + root_count) (A.ghost.aim (cells c' + 4 * k)) s c'
      × Store.Rep (keys μ) root_count world.ρ world.ghost c' store (upd (roots μ) (4 * k) v)
  placed =
      root_placed (4 * k) t x v (subst (λ y. Full A.ghost (cells c + root_count) y s c') (sym (parts.object 0 t x refl object)) A.full) A.rep
      (ap (λ n. n + root_count) (sym same_cells)) inside new

  changed : (r : ℕ) → roots (with_stack stack (with_store store μ)) r ≡ upd (roots μ) (4 * k) v r
  unfolding with_store upd
  changed r =
      roots_at (with_store store μ) stack k v (set_there μ.stack i k v (depth ∙ h)) (set_here μ.stack i k v (depth ∙ h)) r
      ∙ ap (pick (eqb r (4 * k)) v) (roots_store μ store r)

  stored : Stored world s c' (keys μ) store (roots (with_stack stack (with_store store μ)))
  stored =
      record {
        full = subst (λ n. Full world.ghost (n + root_count) 0 s c') (sym same_cells)
            (subst (λ y. Full world.ghost (cells c + root_count) y s c') named_none placed.0);
        none_dead = z;
        none_out = A.whole R.stored.none_out;
        objects = rep_alike placed.1 (λ r i. (λ a. subst (λ x. Names x i) (sym (changed r)) a, λ a. subst (λ x. Names x i) (changed r) a));
      }

  carry : (v : Value) (t p : ℕ) → IsIn R.world μ v t p → Is world (keys μ) (map is_text store) v t p
  carry v t p h = let y = carry_added R x o A fresh v t p h in record { stands = y.stands; alive = y.alive }

  pub made_rep : Rep (with_depth m.depth s m) (set (set st (2 * k) t) (2 * k + 1) x) e d c' l (with_stack stack (with_store store μ))
  made_rep =
      let st' = set (set st (2 * k) t) (2 * k + 1) x in
      let room : 2 * k + 2 ≤ length st = omega (arith, R.rooms.stack_fits) in
      let here : Is world (keys μ) (map is_text store) v t x = record { stands = new; alive = λ _. A.lives } in
      let marks = sealed_added R x o A fresh in
      let words : Is world (keys μ) (map is_text store) v (item_tag st' k) (item_payload st' k) = rw (two_first st k t x room, two_second st k t x room) here in
      rehoused R world stack store stored (λ v t p _ h. carry v t p h) (long_added R x o A fresh) (λ i t p a r _ _ own. (A.grows.keeps a p r own).0)
      (record { marks = marks.marks; made = marks.made })
      st'
      m.depth
      (two_length st k t x room)
      R.rooms.stack_fits
      (items_set (items_lift carry R.items) i k h words (two_others st k t x room))

-- ---- an array, and a string

module _ {m : Machine} {st e d c l : List ℕ} {μ : Floo.Machine} (R : Rep m st e d c l μ) (i : ℕ) (inside : i < m.depth) (p : Nameless (get_or μ.stack i null))
    (n : ℕ) where
  abbrev k : ℕ
  k = m.depth - 1 - i

  h : m.depth ≡ k + suc i
  h = omega (arith, inside)

  pub array_moves : {r : Machine} {st' c' : List ℕ} → MakesObject i 0 n 9 m r st st' c c' → MovesHeap (array_made i n) m r st st' c c'
  unfolding array_made make made
  array_moves {r} {st'} {c'} N =
      record {
        moves = λ e d l μ R'.
            let H = R'.stored in
            subst (λ y. Rep y st' e d c' l (array_made i n μ)) (sym N.rest)
            (rw N.words
            (made_rep R' i k h (plain_tag R i k h p) N.header (elements (replicate n null)) (rep_array H.full H.objects refl N.header n N.made)
            (N.made _ _ H.full).6 (N.none_dead ∙ H.none_dead)
            (array false (length μ.store)) 9 (omega arith) (new_array_lem R'.world.ρ μ.store N.header (replicate n null))));
      }

  pub string_moves : {r : Machine} {st' c' : List ℕ} → MakesObject i (n + 1) ((n + 7) / 8) 8 m r st st' c c' → MovesHeap (string_made i n) m r st st' c c'
  unfolding string_made make made
  string_moves {r} {st'} {c'} N =
      let M = subst (λ kind. Made kind ((n + 7) / 8) N.header m.lists c r.lists c') (add-one n) N.made in
      record {
        moves = λ e d l μ R'.
            let H = R'.stored in
            subst (λ y. Rep y st' e d c' l (string_made i n μ)) (sym N.rest)
            (rw N.words
            (made_rep R' i k h (plain_tag R i k h p) N.header (text (replicate n 0)) (rep_string H.full H.objects refl N.header n M)
            (M _ _ H.full).6 (N.none_dead ∙ H.none_dead)
            (string (length μ.store)) 8 (omega arith) (new_string R'.world.ρ μ.store N.header (replicate n 0))));
      }

-- ---- room

module _ {m : Machine} {st e d c l : List ℕ} {μ : Floo.Machine} (R : Rep m st e d c l μ) where
  pub room_to_make : (n : ℕ) → n ≤ free_cells m c → n + m.lists.edge ≤ cells c + m.lists.listed
  room_to_make n f = omega (arith, R.stored.full.heap.shape.within)

  -- There are not many cells.
  pub few_cells : free_cells m c ≤ 65536
  few_cells =
      let heap = R.stored.full.heap in
      omega (arith, heap.shape.few, list_le heap.shape 0, heap.listed)
