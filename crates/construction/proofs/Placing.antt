-- A value goes to an element that was null: what the value names was in hand and is now named by the element's cell, and all that lived lives on. A value that names no
-- object has nothing in hand, and a new object is in hand after `allocate`; once it has its place it gets the mark for read only.
-- Assumes nothing.
use mathlib.Core.Path.{◌≡◌, refl, sym, ap, ◌∙◌, subst}
use mathlib.Core.Bool.{Bool, true, false}
use mathlib.Core.List.{List, [], ◌∷◌, ◌++◌, map}
use mathlib.Core.Logic.{⊎_elim}
use Prim.Native.Nat.{ℕ, suc, ◌+◌, ◌-◌, ◌*◌, ◌/◌, ◌≤◌, ◌<◌}
use native.Mathlib.Omega.{arith}
use native.Mathlib.Numerals.{add-one}
use lib.ListN.{length, get_or, set, replicate, length-set, get_or-append}
use lib.Seq.{get_or-set_other, get_or-append_seam, map-set_same}
use Rattle.semantics.specs.Values.{Value, null, string, array, Object, elements, text}
use Rattle.semantics.specs.Machine as Floo
use Rattle.semantics.specs.Machine.{with_store, with_read_only, object, elements_of, make, made, change, protect}
use Rattle.heap.specs.Word.{word, Put}
use Rattle.heap.specs.Chain.{live, on}
use Rattle.heap.specs.Upd.{upd}
use Rattle.heap.specs.Shape.{Ghost, Full, NoOut, cells, target}
use Rattle.heap.specs.Assign.{aimed, Alives}
use Rattle.heap.specs.Grow.{Made}
use Rattle.heap.specs.Seal.{Seals}
use Rattle.heap.specs.declared.Lists.{Lists}
use Rattle.heap.proofs.Assigning as Assigning
use Rattle.heap.proofs.Parts as parts
use Rattle.heap.proofs.Chains.{live_on}
use Rattle.heap.proofs.Shapes.{room}
use Rattle.heap.proofs.Since.{lt_or_le}
use Rattle.heap.proofs.Upds.{upd_same, upd_other}
use Rattle.store.specs.Rep as Store
use Rattle.store.specs.Rep.{is_text, Stands, Names, Sealed, object_at, element}
use Rattle.store.proofs.Standing.{names_stands, null_names, array_is}
use Rattle.store.proofs.Sorts.{array_word}
use Rattle.store.proofs.Changes.{at_set}
use Rattle.store.proofs.Elements.{rep_assign}
use Rattle.store.proofs.Rooting.{rep_alike}
use Rattle.store.proofs.Sealing.{sealed_kept}
use Rattle.store.proofs.Fresh.{Adds, rep_array, rep_string, new_procedure, new_string}
use Rattle.machine.specs.Places.{root_count, roots, keys}
use Rattle.machine.specs.Rep.{Rep, World, Stored, Is, IsIn}
use Rattle.machine.specs.declared.Machine.{Machine}
use Rattle.machine.proofs.Restacking.{with_depth}
use Rattle.machine.proofs.Rehousing.{roots_store, restored_in}
use Rattle.elements.specs.Elements.{free_cells}
use Rattle.elements.proofs.Making.{added, carry_added, sealed_added, long_added, cells_used}
use Rattle.elements.proofs.Marking.{marked_in}
use Rattle.construction.specs.Growth.{SetsObject, Grown, ElementAt, element_set, array_set, string_set, SetsPlain, SetsArray, SetsString}

-- ---- in the heap

-- The words of null name no object.
null_tag : {keys : List (List ℕ)} {texts : List Bool} {ρ : ℕ → ℕ} {v : Value} {tag pay : ℕ} → Stands keys texts ρ v tag pay → v ≡ null → tag < 8
null_tag {tag = tag} s e = ⊎_elim (λ l. l) (λ l. absurd (null_names (names_stands s l) e)) (lt_or_le tag 8)

-- In hand is what the words tag and pay name. They go to cell c, element q of the array with header h.
module _ {keys : List (List ℕ)} {n : ℕ} {ρ : ℕ → ℕ} {g : Ghost} {p : ℕ} {s : Lists} {m m₁ m₂ : List ℕ} {store : List Object} {rts : ℕ → Value}
    (tag pay : ℕ) (v : Value) (F : Full g p (target 0 tag pay) s m) (R : Store.Rep keys n ρ g m store rts)
    (c h k q : ℕ) (oc : g.own c ≡ on (h + 2) k) (lh : g.own h ≡ live) (kind : is_text (object_at store (ρ h)) ≡ false)
    (rank : length (elements_of (object_at store (ρ h))) ≡ q + suc k) (empty : element store (ρ h) q ≡ null)
    (new : Stands keys (map is_text store) ρ v tag pay) (alive : Alives g tag pay) (P₁ : Put m c 0 tag m₁) (P₂ : Put m₁ c 1 pay m₂) where
  whole : object_at store (ρ h) ≡ elements (elements_of (object_at store (ρ h)))
  whole = array_is (object_at store (ρ h)) kind

  header : word m h 0 ≡ 0
  header = array_word R h lh whole

  size : g.size (h + 2) ≡ q + suc k
  size = sym (R.array h lh header).1 ∙ rank

  -- The cell names nothing.
  names_none : g.aim c ≡ 0
  names_none = F.counts.body c h k oc ∙ parts.no_object _ _ _ header (null_tag (R.value c h k q oc lh header size) empty)

  cell_full : Full (aimed g c (target 0 tag pay)) p 0 s m₂
  cell_full = subst (λ y. Full (aimed g c (target 0 tag pay)) p y s m₂) names_none (Assigning.swaps h F oc header P₁ P₂)

  cell_rep : Store.Rep keys n ρ (aimed g c (target 0 tag pay)) m₂ (set store (ρ h) (elements (set (elements_of (object_at store (ρ h))) q v))) rts
  cell_rep =
      rep_assign F.heap.shape F.counts R c h k q tag pay v _ oc lh whole size new alive
      (Assigning.stored refl (λ x u _ _. refl) P₁ P₂)

-- ---- in the machine

-- The same where the heap and the objects have grown from R to w and `store`.
module _ {m : Machine} {st e d c l : List ℕ} {μ : Floo.Machine} (R : Rep m st e d c l μ) (w : World) (store : List Object) {s : Lists} {c₁ c₂ c₃ : List ℕ}
    (tag pay : ℕ) (v : Value) (F : Full w.ghost (cells c + root_count) (target 0 tag pay) s c₁) (long : length c₁ ≡ length c)
    (O : Store.Rep (keys μ) root_count w.ρ w.ghost c₁ store (roots μ)) (z : s.dead ≡ 0) (out : NoOut w.ghost)
    (carry : (v : Value) (t p : ℕ) → IsIn R.world μ v t p → Is w (keys μ) (map is_text store) v t p)
    (many : (i t p : ℕ) → IsIn R.world μ (array true i) t p → length (elements_of (object_at store i)) ≡ length (elements_of (object_at μ.store i)))
    (keeps : (x h k : ℕ) → R.world.ghost.own x ≡ on (h + 2) k → w.ghost.own x ≡ on (h + 2) k)
    (x h k id q : ℕ) (at : ElementAt w store x h k id q) (empty : element store id q ≡ null)
    (new : Stands (keys μ) (map is_text store) w.ρ v tag pay) (alive : Alives w.ghost tag pay) (P₁ : Put c₁ x 0 tag c₂) (P₂ : Put c₂ x 1 pay c₃)
    (marks : Sealed w.ρ w.ghost c₁ store μ.read_only) where
  abbrev next : World
  next = record { ρ = w.ρ; ghost = aimed w.ghost x (target 0 tag pay) }

  abbrev changed : ℕ → Object
  changed i = elements (set (elements_of (object_at store i)) q v)

  abbrev store' : List Object
  store' = set store (w.ρ h) (changed (w.ρ h))

  same : w.ρ h ≡ id
  same = at.array.stands

  kind : is_text (object_at store (w.ρ h)) ≡ false
  kind = ap (λ i. is_text (object_at store i)) same ∙ at.array.kind

  rank : length (elements_of (object_at store (w.ρ h))) ≡ q + suc k
  rank = ap (λ i. length (elements_of (object_at store i))) same ∙ at.rank

  none : element store (w.ρ h) q ≡ null
  none = ap (λ i. element store i q) same ∙ empty

  kinds : map is_text store' ≡ map is_text store
  kinds = map-set_same is_text store (w.ρ h) (changed (w.ρ h)) (elements []) (sym kind)

  stored : Stored next s c₃ (keys μ) store' (roots (with_store store' μ))
  stored =
      let cell = at.cell in
      let lives = at.array.lives in
      let all : length c₃ ≡ length c = P₂.size ∙ P₁.size ∙ long in
      let rep = cell_rep tag pay v F O x h k q cell lives kind rank none new alive P₁ P₂ in
      record {
        full = subst (λ n. Full next.ghost (n + root_count) 0 s c₃) (sym (ap (λ n. n / 4) all))
            (cell_full tag pay v F O x h k q cell lives kind rank none new alive P₁ P₂);
        none_dead = z;
        none_out = out;
        objects = rep_alike rep (λ r i. (λ a. subst (λ y. Names y i) (sym (roots_store μ store' r)) a, λ a. subst (λ y. Names y i) (roots_store μ store' r) a));
      }

  carried : (v : Value) (t p : ℕ) → IsIn R.world μ v t p → Is next (keys μ) (map is_text store') v t p
  carried v t p i =
      let y = carry v t p i in
      record { stands = subst (λ kinds. Stands (keys μ) kinds w.ρ v t p) (sym kinds) y.stands; alive = y.alive }

  lengths : (i t p : ℕ) → IsIn R.world μ (array true i) t p → length (elements_of (object_at store' i)) ≡ length (elements_of (object_at μ.store i))
  unfolding elements_of
  lengths i t p y =
      at_set (λ a b. length (elements_of a) ≡ length (elements_of b)) store (w.ρ h) (changed (w.ρ h)) (O.id h at.array.lives)
      (length-set (elements_of (object_at store (w.ρ h))) q v) i refl
      ∙ many i t p y

  -- A cell of a body is no header.
  marked : Sealed next.ρ next.ghost c₃ store' μ.read_only
  marked =
      sealed_kept marks (omega (arith, length-set store (w.ρ h) (changed (w.ρ h))))
      (λ y l. (
        l,
        P₂.there y 1 (omega arith) (λ e _. live_on (sym l ∙ ap w.ghost.own e ∙ at.cell)) ∙ P₁.there y 1 (omega arith) (λ _ e. omega arith),
      ))

  element_rep : (R' : Rep (with_depth m.depth s m) st e d c₃ l (with_store (set store id (changed id)) μ)) × (R'.world ≡ next)
  element_rep =
      subst (λ i. (R' : Rep (with_depth m.depth s m) st e d c₃ l (with_store (set store i (changed i)) μ)) × (R'.world ≡ next)) same
      (restored_in R next store' stored (λ v t p _ y. carried v t p y) lengths (λ i t p a r _ _ own. keeps a p r own) marked)

-- ---- a value that names no object

pub plain_sets : {c tag pay : ℕ} {cs c₁ c₂ : List ℕ} → tag < 8 → Put cs c 0 tag c₁ → Put c₁ c 1 pay c₂ → SetsPlain c tag pay cs c₂
unfolding element_set change object
plain_sets {c} {tag} {pay} {cs} plain P₁ P₂ =
    record {
      sets = λ {m = m} {μ = μ} R h k id q at empty v new.
          let H = R.stored in
          let F = subst (λ y. Full R.world.ghost (cells cs + root_count) y m.lists cs) (sym (parts.no_object 0 tag pay refl plain)) H.full in
          let X = element_rep R R.world μ.store tag pay v F refl H.objects H.none_dead H.none_out (λ v t p i. i) (λ i t p _. refl) (λ x h k o. o)
          c h k id q at empty new (λ low. absurd (omega (arith, plain))) P₁ P₂ R.sealed in
          (X.0, subst (Grown R.world) (sym X.1) (record { lives = λ h l. (l, refl); keeps = λ x h k _ o. o }));
    }

-- ---- a new object

-- It has the last number, and the others stay.
module _ (store : List Object) (o : Object) (id : ℕ) (low : id < length store) where
  pub old_object : object_at (store ++ (o ∷ [])) id ≡ object_at store id
  old_object = get_or-append store (o ∷ []) (elements []) id low

  pub new_object : (y : Object) → object_at (set (store ++ (o ∷ [])) id y) (length store) ≡ o
  new_object y = get_or-set_other (store ++ (o ∷ [])) id (length store) y (elements []) (λ e. omega (arith, low)) ∙ get_or-append_seam store o [] (elements [])

-- Object o is made with header x, and the value v, of tag t, names it.
module _ {m : Machine} {st e d c l : List ℕ} {μ : Floo.Machine} (R : Rep m st e d c l μ) {s : Lists} {c₁ c₂ c₃ : List ℕ} (x : ℕ) (o : Object)
    (A : Adds (keys μ) root_count R.world.ρ R.world.ghost (cells c + root_count) s c c₁ μ.store (roots μ) x o)
    (fresh : R.world.ghost.own x ≡ live → ⊥) (z : s.dead ≡ 0)
    (v : Value) (t : ℕ) (names : 8 ≤ t) (new : Stands (keys μ) (map is_text (μ.store ++ (o ∷ []))) (upd R.world.ρ x (length μ.store)) v t x)
    (cell h k id q : ℕ) (at : ElementAt R.world μ.store cell h k id q) (empty : element μ.store id q ≡ null) (P₁ : Put c₁ cell 0 t c₂) (P₂ : Put c₂ cell 1 x c₃) where
  low : id < length μ.store
  low = subst (λ i. i < length μ.store) at.array.stands (R.stored.objects.id h at.array.lives)

  other : (y : ℕ) → R.world.ghost.own y ≡ live → y ≡ x → ⊥
  other y lives e = fresh (subst (λ y. R.world.ghost.own y ≡ live) e lives)

  stays : object_at (μ.store ++ (o ∷ [])) id ≡ object_at μ.store id
  stays = old_object μ.store o id low

  grown : Grown R.world (added R x o A fresh)
  grown =
      record {
        lives = λ h lives. ((A.grows.lives h (other h lives) lives).0, upd_other R.world.ρ x (length μ.store) h (other h lives));
        keeps = λ y h k _ own. (A.grows.keeps y h k own).0;
      }

  still : ElementAt (added R x o A fresh) (μ.store ++ (o ∷ [])) cell h k id q
  still =
      let lives = at.array.lives in
      let y = grown.lives h lives in
      record {
        array = record { lives = y.0; stands = y.1 ∙ at.array.stands; kind = ap is_text stays ∙ at.array.kind };
        cell = grown.keeps cell h k lives at.cell;
        rank = ap (λ o. length (elements_of o)) stays ∙ at.rank;
      }

  made_sets : (R' : Rep (with_depth m.depth s m) st e d c₃ l (element_set id q v (make o μ))) × Grown R.world R'.world
      × (R'.world.ghost.own x ≡ live) × (R'.world.ρ x ≡ length μ.store)
      × (is_text (object_at (element_set id q v (make o μ)).store (length μ.store)) ≡ is_text o)
  unfolding element_set make change object with_store
  made_sets =
      let w = added R x o A fresh in
      let F = subst (λ y. Full A.ghost (cells c + root_count) y s c₁) (sym (parts.object 0 t x refl names)) A.full in
      let X = element_rep R w (μ.store ++ (o ∷ [])) t x v F A.grows.long A.rep z (A.whole R.stored.none_out)
      (carry_added R x o A fresh) (long_added R x o A fresh) (λ y h k own. (A.grows.keeps y h k own).0)
      cell h k id q still (ap (λ o. get_or (elements_of o) q null) stays ∙ empty) new (λ _. A.lives) P₁ P₂ (sealed_added R x o A fresh) in (
        X.0,
        subst (Grown R.world) (sym X.1) (record { lives = grown.lives; keeps = grown.keeps }),
        subst (λ (w : World). w.ghost.own x ≡ live) (sym X.1) A.lives,
        subst (λ (w : World). w.ρ x ≡ length μ.store) (sym X.1) (upd_same R.world.ρ x (length μ.store)),
        ap is_text (new_object μ.store o id low (elements (set (elements_of (object_at (μ.store ++ (o ∷ [])) id)) q v))),
      )

  -- Then it gets the mark.
  made_marked : {c₄ : List ℕ} → Seals c₃ x c₄
      → (R' : Rep (with_depth m.depth s m) st e d c₄ l (protect (length μ.store) (element_set id q v (make o μ)))) × Grown R.world R'.world
      × (R'.world.ghost.own x ≡ live) × (R'.world.ρ x ≡ length μ.store)
      × (is_text (object_at (element_set id q v (make o μ)).store (length μ.store)) ≡ is_text o)
  made_marked K =
      let X = made_sets in
      let Y = marked_in X.0 x (length μ.store) X.2 X.3 K in
      let back = sym Y.1 in (
        Y.0,
        subst (Grown R.world) back X.1,
        subst (λ (w : World). w.ghost.own x ≡ live) back X.2,
        subst (λ (w : World). w.ρ x ≡ length μ.store) back X.3,
        X.4,
      )

module _ {m r : Machine} {n x cell : ℕ} {cs cs' : List ℕ} where
  pub array_sets : SetsObject cell 0 n 10 m cs r x cs' → SetsArray cell n m cs r x cs'
  unfolding array_set made protect with_read_only
  array_sets N =
      record {
        sets = λ {s} {e} {d} {l} {μ} R h k id q at empty.
            let H = R.stored in
            let X = made_marked R x (elements (replicate n null)) (rep_array H.full H.objects refl x n N.made) (N.made _ _ H.full).6 (N.none_dead ∙ H.none_dead)
            (array true (length μ.store)) 10 (omega arith) (new_procedure R.world.ρ μ.store x (replicate n null))
            cell h k id q at empty N.tag_put N.pay_put N.seals in
            rw N.rest (X.0, X.1, record { lives = X.2; stands = X.3; kind = X.4 });
      }

  pub string_sets : SetsObject cell (n + 1) ((n + 7) / 8) 8 m cs r x cs' → SetsString cell n m cs r x cs'
  unfolding string_set made protect with_read_only
  string_sets N =
      let M = subst (λ kind. Made kind ((n + 7) / 8) x m.lists cs r.lists N.made_words) (add-one n) N.made in
      record {
        sets = λ {s} {e} {d} {l} {μ} R h k id q at empty.
            let H = R.stored in
            let X = made_marked R x (text (replicate n 0)) (rep_string H.full H.objects refl x n M) (M _ _ H.full).6 (N.none_dead ∙ H.none_dead)
            (string (length μ.store)) 8 (omega arith) (new_string R.world.ρ μ.store x (replicate n 0))
            cell h k id q at empty N.tag_put N.pay_put N.seals in
            rw N.rest (X.0, X.1, record { lives = X.2; stands = X.3; kind = X.4 });
      }

-- ---- room

-- The new header is inside.
pub made_inside : {m : Machine} {st e d c l : List ℕ} {μ : Floo.Machine} → Rep m st e d c l μ
    → {kind n x : ℕ} {s : Lists} {c₁ : List ℕ}
    → Made kind n x m.lists c s c₁
    → x * 4 + 4 ≤ length c₁
made_inside R {x = x} M = let X = M _ _ R.stored.full in room X.1.heap.shape x X.3 refl

-- What is left of the free cells.
pub cells_left : {m : Machine} {st e d c l : List ℕ} {μ : Floo.Machine} → Rep m st e d c l μ
    → {kind n x cell t y : ℕ} {s : Lists} {c₁ c₂ c₃ c₄ : List ℕ}
    → Made kind n x m.lists c s c₁
    → s.listed + m.lists.edge + n + 1 ≡ m.lists.listed + s.edge
    → Put c₁ cell 0 t c₂
    → Put c₂ cell 1 y c₃
    → Seals c₃ x c₄
    → s.listed + (cells c₄ - s.edge) + (n + 1) ≡ free_cells m c
cells_left R M e P₁ P₂ K = omega (arith, cells_used R M e, P₁.size, P₂.size, K.size)
