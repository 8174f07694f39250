-- Cells that are held while an array is built: they stay the same elements as long as worlds only grow, and lead from each element to the next. What is done to one element leaves
-- all the others.
-- Assumes nothing.
use mathlib.Core.Path.{◌≡◌, refl, sym, ap, ◌∙◌, subst}
use mathlib.Core.Bool.{Bool, true, false}
use mathlib.Core.List.{List, [], ◌∷◌, ◌++◌}
use mathlib.Core.Logic.{⊎_elim}
use Prim.Native.Nat.{ℕ, suc, ◌+◌, ◌*◌, ◌≤◌, ◌<◌}
use native.Mathlib.Omega.{arith}
use lib.ListN.{length, get_or, set, length-set, length-append, get_or-append}
use lib.Seq.{get_or-set_same, get_or-set_other}
use Rattle.semantics.specs.Values.{Value, null, array, Object, elements, text}
use Rattle.semantics.specs.Machine as Floo
use Rattle.semantics.specs.Machine.{with_store, object, elements_of, make, made, change}
use Rattle.heap.specs.Word.{word}
use Rattle.heap.proofs.Shapes.{room}
use Rattle.heap.proofs.Upds.{same?}
use Rattle.store.specs.Rep.{is_text, object_at, element}
use Rattle.store.proofs.Standing.{array_is, text_elements}
use Rattle.store.proofs.Sorts.{array_word}
use Rattle.store.proofs.Changes.{at_set}
use Rattle.machine.specs.Words.{item_payload}
use Rattle.machine.specs.Rep.{Rep, World}
use Rattle.machine.specs.declared.Machine.{Machine}
use Rattle.elements.specs.Elements.{HasCell, IsString}
use Rattle.elements.proofs.Arrays.{Found, array_item}
use Rattle.construction.specs.Growth.{Grown, Extended, IsArray, ElementAt, element_set}
use Rattle.construction.proofs.Placing.{old_object, new_object}

-- ---- growth

pub grown_refl : (w : World) → Grown w w
grown_refl w = record { lives = λ h l. (l, refl); keeps = λ x h k _ o. o }

pub grown_same : {w w' : World} → w' ≡ w → Grown w w'
grown_same {w} e = subst (Grown w) (sym e) (grown_refl w)

pub grown_trans : {w v u : World} → Grown w v → Grown v u → Grown w u
grown_trans A B =
    record {
      lives = λ h l. let x = A.lives h l in let y = B.lives h x.0 in (y.0, y.1 ∙ x.1);
      keeps = λ x h k l o. B.keeps x h k (A.lives h l).0 (A.keeps x h k l o);
    }

pub extended_refl : (store : List Object) → Extended store store
extended_refl store = record { longer = omega arith; kinds = λ j l. refl; lengths = λ j l. refl }

pub extended_trans : {a b c : List Object} → Extended a b → Extended b c → Extended a c
extended_trans A B =
    record {
      longer = omega (arith, A.longer, B.longer);
      kinds = λ j l. B.kinds j (omega (arith, A.longer)) ∙ A.kinds j l;
      lengths = λ j l. B.lengths j (omega (arith, A.longer)) ∙ A.lengths j l;
    }

-- What is held is still there.
module _ {w w' : World} {store store' : List Object} (G : Grown w w') (E : Extended store store') {h id : ℕ} (low : id < length store) where
  pub grown_array : IsArray w store h id → IsArray w' store' h id
  grown_array A = let y = G.lives h A.lives in record { lives = y.0; stands = y.1 ∙ A.stands; kind = E.kinds id low ∙ A.kind }

  pub grown_string : IsString w store h id → IsString w' store' h id
  grown_string A = let y = G.lives h A.lives in record { lives = y.0; stands = y.1 ∙ A.stands; kind = E.kinds id low ∙ A.kind }

  pub grown_element : {c k q : ℕ} → ElementAt w store c h k id q → ElementAt w' store' c h k id q
  grown_element {c} {k} A = record { array = grown_array A.array; cell = G.keeps c h k A.array.lives A.cell; rank = E.lengths id low ∙ A.rank }

-- ---- cells

module _ {m : Machine} {st e d c l : List ℕ} {μ : Floo.Machine} (R : Rep m st e d c l μ) {h id : ℕ} where
  pub array_low : IsArray R.world μ.store h id → id < length μ.store
  array_low A = subst (λ j. j < length μ.store) A.stands (R.stored.objects.id h A.lives)

  pub string_low : IsString R.world μ.store h id → id < length μ.store
  string_low A = subst (λ j. j < length μ.store) A.stands (R.stored.objects.id h A.lives)

  -- The body has a cell for each element.
  pub array_size : IsArray R.world μ.store h id → R.world.ghost.size (h + 2) ≡ length (elements_of (object_at μ.store id))
  array_size A =
      let kind : is_text (object_at μ.store (R.world.ρ h)) ≡ false = ap (λ j. is_text (object_at μ.store j)) A.stands ∙ A.kind in
      let word = array_word R.stored.objects h A.lives (array_is (object_at μ.store (R.world.ρ h)) kind) in
      sym (R.stored.objects.array h A.lives word).1 ∙ ap (λ j. length (elements_of (object_at μ.store j))) A.stands

  -- Element q is where `seek` finds it.
  pub element_sought : (q : ℕ) → IsArray R.world μ.store h id → q < length (elements_of (object_at μ.store id)) → HasCell c h q
  element_sought q A low = (R.world.ghost, m.lists.edge, R.stored.full.heap.shape, A.lives, omega (arith, low, array_size A))

  pub element_found : (q k cell : ℕ)
      → IsArray R.world μ.store h id
      → length (elements_of (object_at μ.store id)) ≡ q + suc k
      → Found c h q cell
      → ElementAt R.world μ.store cell h k id q
  element_found q k cell A rank found =
      record { array = A; cell = found R.world.ghost m.lists.edge R.stored.full.heap.shape A.lives k (array_size A ∙ rank); rank = rank }

  module _ {cell k q : ℕ} where
    -- Its cell is inside,
    pub element_inside : ElementAt R.world μ.store cell h k id q → cell * 4 + 4 ≤ length c
    element_inside A = room R.stored.full.heap.shape cell A.cell refl

    -- and leads to the next element's.
    pub next_element : ElementAt R.world μ.store cell h (suc k) id q → ElementAt R.world μ.store (word c cell 2) h k id (q + 1)
    next_element A =
        record {
          array = A.array;
          cell = R.stored.full.heap.shape.chains.link cell (h + 2) k A.cell;
          rank = A.rank ∙ omega arith;
        }

-- An item that is an array has its header.
pub item_array : {m : Machine} {st e d c l : List ℕ} {μ : Floo.Machine} (R : Rep m st e d c l μ) (i k : ℕ)
    → m.depth ≡ k + suc i
    → {x : Bool} {id : ℕ}
    → get_or μ.stack i null ≡ array x id
    → IsArray R.world μ.store (item_payload st k) id
item_array {μ = μ} R i k h q =
    let A = array_item R i k h q in
    record { lives = A.lives; stands = A.stands; kind = ap (λ j. is_text (object_at μ.store j)) (sym A.stands) ∙ ap is_text A.whole }

-- ---- the objects afterwards

set_extended : (store : List Object) (id q : ℕ) (v : Value)
    → id < length store
    → is_text (object_at store id) ≡ false
    → Extended store (set store id (elements (set (elements_of (object_at store id)) q v)))
unfolding elements_of
set_extended store id q v low kind =
    let o = elements (set (elements_of (object_at store id)) q v) in
    record {
      longer = rw (length-set store id o) (omega arith);
      kinds = λ j _. at_set (λ a b. is_text a ≡ is_text b) store id o low (sym kind) j refl;
      lengths = λ j _. at_set (λ a b. length (elements_of a) ≡ length (elements_of b)) store id o low (length-set (elements_of (object_at store id)) q v) j refl;
    }

pub append_extended : (store more : List Object) → Extended store (store ++ more)
append_extended store more =
    record {
      longer = rw (length-append store more) (omega arith);
      kinds = λ j l. ap is_text (get_or-append store more (elements []) j l);
      lengths = λ j l. ap (λ y. length (elements_of y)) (get_or-append store more (elements []) j l);
    }

module _ (id q : ℕ) (v : Value) (μ : Floo.Machine) (low : id < length μ.store) where
  pub element_extended : is_text (object_at μ.store id) ≡ false → Extended μ.store (element_set id q v μ).store
  unfolding element_set change with_store object
  element_extended kind = set_extended μ.store id q v low kind

  pub element_here : q < length (elements_of (object_at μ.store id)) → element (element_set id q v μ).store id q ≡ v
  unfolding element_set change with_store object elements_of
  element_here inside =
      let vs = elements_of (object_at μ.store id) in
      ap (λ o. get_or (elements_of o) q null) (get_or-set_same μ.store id (elements (set vs q v)) (elements []) low) ∙ get_or-set_same vs q v null inside

  pub element_there : (j r : ℕ) → (j ≡ id → r ≡ q → ⊥) → element (element_set id q v μ).store j r ≡ element μ.store j r
  unfolding element_set change with_store object elements_of
  element_there j r ne =
      let vs = elements_of (object_at μ.store id) in
      ⊎_elim
      (λ (s : j ≡ id).
      ap (λ i. element (set μ.store id (elements (set vs q v))) i r) s
      ∙ ap (λ o. get_or (elements_of o) r null) (get_or-set_same μ.store id (elements (set vs q v)) (elements []) low)
      ∙ get_or-set_other vs q r v null (ne s)
      ∙ ap (λ i. element μ.store i r) (sym s))
      (λ (s : j ≡ id → ⊥). ap (λ o. get_or (elements_of o) r null) (get_or-set_other μ.store id j (elements (set vs q v)) (elements []) s))
      (same? j id)

-- The same where object o is made first.
module _ (id q : ℕ) (v : Value) (o : Object) (μ : Floo.Machine) (low : id < length μ.store) where
  more : id < length (make o μ).store
  unfolding make with_store
  more = rw (length-append μ.store (o ∷ [])) (omega (arith, low))

  pub made_extended : is_text (object_at μ.store id) ≡ false → Extended μ.store (element_set id q v (make o μ)).store
  unfolding make with_store
  made_extended kind =
      extended_trans (append_extended μ.store (o ∷ []))
      (element_extended id q v (make o μ) more (ap is_text (old_object μ.store o id low) ∙ kind))

  pub made_new : object_at (element_set id q v (make o μ)).store (made μ) ≡ o
  unfolding element_set make made change with_store object
  made_new = new_object μ.store o id low (elements (set (elements_of (object_at (μ.store ++ (o ∷ [])) id)) q v))

  pub made_here : q < length (elements_of (object_at μ.store id)) → element (element_set id q v (make o μ)).store id q ≡ v
  unfolding make with_store
  made_here inside =
      element_here id q v (make o μ) more (subst (λ (y : Object). q < length (elements_of y)) (sym (old_object μ.store o id low)) inside)

  pub made_there : (j r : ℕ) → j < length μ.store → (j ≡ id → r ≡ q → ⊥) → element (element_set id q v (make o μ)).store j r ≡ element μ.store j r
  unfolding make with_store
  made_there j r l ne = element_there id q v (make o μ) more j r ne ∙ ap (λ y. get_or (elements_of y) r null) (old_object μ.store o j l)

-- A string that is filled is a string, and no array has changed.
module _ (id : ℕ) (bs : List ℕ) (μ : Floo.Machine) (low : id < length μ.store) (kind : is_text (object_at μ.store id) ≡ true) where
  none : elements_of (text bs) ≡ elements_of (object_at μ.store id)
  unfolding elements_of
  none = sym (text_elements (object_at μ.store id) kind)

  pub text_extended : Extended μ.store (change id (text bs) μ).store
  unfolding change with_store
  text_extended =
      record {
        longer = rw (length-set μ.store id (text bs)) (omega arith);
        kinds = λ j _. at_set (λ a b. is_text a ≡ is_text b) μ.store id (text bs) low (sym kind) j refl;
        lengths = λ j _. at_set (λ a b. length (elements_of a) ≡ length (elements_of b)) μ.store id (text bs) low (ap (λ (t : List Value). length t) none) j refl;
      }

  pub text_there : (j r : ℕ) → element (change id (text bs) μ).store j r ≡ element μ.store j r
  unfolding change with_store
  text_there j r =
      at_set (λ a b. get_or (elements_of a) r null ≡ get_or (elements_of b) r null) μ.store id (text bs) low (ap (λ (t : List Value). get_or t r null) none) j refl
