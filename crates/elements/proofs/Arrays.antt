-- What the words of an item that is an array say: its header lives and stands for the array, and has its length. By the tag, so that all machines that the
-- words stand for agree.
-- Assumes nothing.
use mathlib.Core.Path.{◌≡◌, refl, sym, ap, ◌∙◌, subst}
use mathlib.Core.Bool.{Bool, true, false}
use mathlib.Core.List.{List, map}
use mathlib.Core.Logic.{◌⊎◌, inl, inr, ⊎_elim}
use mathlib.Core.Option.{some}
use Prim.Native.Nat.{ℕ, suc, ◌+◌, ◌-◌, ◌%◌, ◌<◌}
use native.Mathlib.Omega.{arith}
use lib.ListN.{length, get_or, get_elem?}
use Rattle.semantics.specs.Values.{Value, null, array, Object, elements}
use Rattle.semantics.specs.Machine as Floo
use Rattle.semantics.specs.Machine.{object, elements_of}
use Rattle.heap.specs.Word.{word}
use Rattle.heap.specs.Chain.{live, on}
use Rattle.heap.specs.Shape.{Ghost, Shape, size_unit}
use Rattle.heap.specs.declared.Lists.{Lists}
use Rattle.heap.proofs.Shapes.{header_of}
use Rattle.store.specs.Rep.{is_text, Stands, an_array, a_procedure, by_array, object_at}
use Rattle.store.proofs.Standing.{stands_names, is_array, is_procedure_lem, kind_at, array_is}
use Rattle.store.proofs.Sorts.{array_word}
use Rattle.store.proofs.Elements.{element_read, body_alives}
use Rattle.machine.specs.Words.{item_tag, item_payload}
use Rattle.machine.specs.Places.{keys, texts}
use Rattle.machine.specs.Rep.{Rep, World, Stored, Is, IsIn}
use Rattle.machine.specs.declared.Machine.{Machine}
use Rattle.machine.proofs.Copying.{word_of}
use Rattle.elements.specs.Elements.{named, item_id, HasArray, HasElement}

-- ---- by the tag

module _ {keys : List (List ℕ)} {texts : List Bool} {ρ : ℕ → ℕ} where
  pub array_tags : {x : Bool} {i t p : ℕ} → Stands keys texts ρ (array x i) t p → (get_elem? texts i ≡ some false) × ((t ≡ 9) ⊎ (t ≡ 10))
  array_tags (an_array r e) = (e, inl refl)
  array_tags (a_procedure r e) = (e, inr refl)

  tags_array : {v : Value} {t p : ℕ} → Stands keys texts ρ v t p → (t ≡ 9) ⊎ (t ≡ 10) → (x : Bool) × (i : ℕ) × (v ≡ array x i)
  tags_array s =
      ⊎_elim
      (λ e. let y = is_array s e in (false, y.0, y.1))
      (λ e. let y = is_procedure_lem s e in (true, y.0, y.1))

-- ---- the header

-- Header h stands for the array id.
pub record ArrayAt (w : World) (c : List ℕ) (store : List Object) (h id : ℕ) : Type 0 where
  pub lives : w.ghost.own h ≡ live
  pub stands : w.ρ h ≡ id
  pub kind : word c h 0 ≡ 0
  pub whole : object_at store (w.ρ h) ≡ elements (elements_of (object_at store (w.ρ h)))
  pub many : length (elements_of (object_at store (w.ρ h))) ≡ w.ghost.size (h + 2)
  pub size : word c h 1 % size_unit ≡ w.ghost.size (h + 2)

pub array_at : {w : World} {s : Lists} {c : List ℕ} {names : List (List ℕ)} {store : List Object} {rts : ℕ → Value}
    → Stored w s c names store rts
    → {x : Bool} {id t p : ℕ}
    → Is w names (map is_text store) (array x id) t p
    → ArrayAt w c store p id
array_at {w} {store = store} H {id = id} {p = p} I =
    let y = stands_names I.stands by_array in
    let lives = I.alive y.0 in
    let plain : is_text (object_at store (w.ρ p)) ≡ false =
    ap (λ j. is_text (object_at store j)) y.1 ∙ (kind_at store id false (array_tags I.stands).0).1 in
    let whole = array_is (object_at store (w.ρ p)) plain in
    let kind = array_word H.objects p lives whole in
    record {
      lives = lives;
      stands = y.1;
      kind = kind;
      whole = whole;
      many = (H.objects.array p lives kind).1;
      size = (header_of H.full.heap.shape p lives refl).0;
    }

module _ {m : Machine} {st e d c l : List ℕ} {μ : Floo.Machine} (R : Rep m st e d c l μ) (i k : ℕ) (h : m.depth ≡ k + suc i) where
  array_words : {x : Bool} {id : ℕ}
      → get_or μ.stack i null ≡ array x id
      → IsIn R.world μ (array x id) (item_tag st k) (item_payload st k)
  array_words q = subst (λ v. IsIn R.world μ v (item_tag st k) (item_payload st k)) q (word_of R i k h)

  pub array_item : {x : Bool} {id : ℕ} → get_or μ.stack i null ≡ array x id → ArrayAt R.world c μ.store (item_payload st k) id
  array_item q = array_at R.stored (array_words q)

  -- The lower part of word 1 of the header is the number of elements.
  pub size_read : {x : Bool} {id : ℕ} → get_or μ.stack i null ≡ array x id → word c (item_payload st k) 1 % size_unit ≡ length (elements_of (object μ id))
  unfolding object
  size_read q =
      let A = array_item q in
      A.size ∙ sym A.many ∙ ap (λ j. length (elements_of (object_at μ.store j))) A.stands

  -- The same words stand for an array in any machine, of the same length.
  module _ {e' d' l' : List ℕ} {μ' : Floo.Machine} (R' : Rep m st e' d' c l' μ') where
    pub array_too : HasArray i μ → HasArray i μ'
    array_too a =
        let t = tags_array (word_of R' i k h).stands (array_tags (array_words a.item).stands).1 in
        record { executable = t.0; id = t.1; item = t.2 }

-- ---- an element

-- The cell q of the body of header h, as `seek` finds it.
abbrev pub Found : List ℕ → ℕ → ℕ → ℕ → Type 0
Found c h q cell =
    (g : Ghost) (n : ℕ) → Shape g n c → g.own h ≡ live → (r : ℕ) → g.size (h + 2) ≡ q + suc r → g.own cell ≡ on (h + 2) r

pub item_id_lem : {i : ℕ} {μ : Floo.Machine} (a : HasArray i μ) → item_id i μ ≡ a.id
unfolding item_id named
item_id_lem a = ap named a.item

module _ {m : Machine} {st e d c l : List ℕ} {μ : Floo.Machine} (R : Rep m st e d c l μ) (i k q : ℕ) (h : m.depth ≡ k + suc i) (b : HasElement i q μ) where
  pub element_too : {e' d' l' : List ℕ} {μ' : Floo.Machine} → Rep m st e' d' c l' μ' → HasElement i q μ'
  element_too R' =
      let a = array_too R i k h R' b.array in
      record { array = a; inside = omega (arith, b.inside, size_read R i k h b.array.item, size_read R' i k h a.item) }

  pub here : ArrayAt R.world c μ.store (item_payload st k) (item_id i μ)
  here =
      subst (λ id. ArrayAt R.world c μ.store (item_payload st k) id) (sym (item_id_lem b.array)) (array_item R i k h b.array.item)

  pub before : q < R.world.ghost.size (item_payload st k + 2)
  before = omega (arith, b.inside, size_read R i k h b.array.item, here.size)

  -- How many cells come after the element's.
  abbrev pub rank : ℕ
  rank = R.world.ghost.size (item_payload st k + 2) - suc q

  pub split : R.world.ghost.size (item_payload st k + 2) ≡ q + suc rank
  split = omega (arith, before)

  pub sought : (g : Ghost) × (n : ℕ) × Shape g n c × (g.own (item_payload st k) ≡ live) × (q < g.size (item_payload st k + 2))
  sought = (R.world.ghost, m.lists.edge, R.stored.full.heap.shape, here.lives, before)

  -- Its cell, as `seek` finds it.
  module _ (cell : ℕ)
      (found : Found c (item_payload st k) q cell) where
    pub at_cell : R.world.ghost.own cell ≡ on (item_payload st k + 2) rank
    at_cell = found R.world.ghost m.lists.edge R.stored.full.heap.shape here.lives rank split

    pub element_words : IsIn R.world μ (get_or (elements_of (object μ (item_id i μ))) q null) (word c cell 0) (word c cell 1)
    unfolding object
    element_words =
        record {
          stands = subst (λ id. Stands (keys μ) (texts μ) R.world.ρ (get_or (elements_of (object_at μ.store id)) q null) (word c cell 0) (word c cell 1)) here.stands
              (element_read R.stored.objects cell (item_payload st k) rank q _ at_cell here.lives here.whole split);
          alive = body_alives R.stored.full.heap.shape R.stored.full.counts cell (item_payload st k) rank at_cell here.kind;
        }

    pub element_value : (t p : ℕ)
        → t ≡ word c cell 0
        → p ≡ word c cell 1
        → IsIn R.world μ (get_or (elements_of (object μ (item_id i μ))) q null) t p
    element_value t p x y = rw (x, y) element_words
