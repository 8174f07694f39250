-- The mark for read only of an item: the item's words name the header, whose mark is that of the object; and a header that gets the mark gives it to its object, all else
-- being as before.
-- Assumes nothing.
use mathlib.Core.Path.{◌≡◌, refl, sym, ap, ◌∙◌, subst}
use mathlib.Core.Bool.{Bool, true, false}
use mathlib.Core.List.{List, [], ◌∷◌, ◌++◌}
use Prim.Native.Nat.{ℕ, suc, ◌+◌, ◌*◌, ◌/◌, ◌≤◌}
use native.Mathlib.Omega.{arith}
use lib.ListN.{length, get_or}
use Rattle.semantics.specs.Values.{Value, null, ok, fault, object_id}
use Rattle.semantics.specs.Machine as Floo
use Rattle.semantics.specs.Machine.{member, with_read_only, protect, writable}
use Rattle.semantics.specs.ResultLaws.{ok_one, fault_ok}
use Rattle.semantics.specs.MarkLaws.{writable_plain, writable_marked}
use Rattle.semantics.specs.declared.Error.TheVariants.{InvalidAccess}
use Rattle.heap.specs.Chain.{live}
use Rattle.heap.specs.Shape.{Full}
use Rattle.heap.specs.Reading.{is_sealed}
use Rattle.heap.specs.Seal.{Seals}
use Rattle.heap.proofs.Shapes.{room}
use Rattle.heap.proofs.Sealings.{sealed_full}
use Rattle.store.specs.Rep.{Stands, a_null, an_integer, a_boolean, a_mark, an_operator, a_literal, an_executable, a_string, an_array, a_procedure, Names, Sealed}
use Rattle.store.proofs.Rooting.{rep_alike}
use Rattle.store.proofs.Sealing.{sealed_rep, sealed_marks}
use Rattle.machine.specs.Words.{item_tag, item_payload}
use Rattle.machine.specs.Places.{root_count}
use Rattle.machine.specs.Rep.{Rep, MovesHeap}
use Rattle.machine.specs.declared.Machine.{Machine}
use Rattle.machine.proofs.Copying.{word_of}
use Rattle.machine.proofs.Roots.{roots_alike}
use Rattle.elements.specs.Elements.{named, item_id, item_sealed, ItemSealed, HasObject}

-- ---- by header

-- The header h, which stands for object id, gets the mark.
pub marked_in : {m : Machine} {st e d c c' l : List ℕ} {μ : Floo.Machine} (R : Rep m st e d c l μ) (h id : ℕ)
    → R.world.ghost.own h ≡ live
    → R.world.ρ h ≡ id
    → Seals c h c'
    → (R' : Rep m st e d c' l (protect id μ)) × (R'.world ≡ R.world)
unfolding protect with_read_only
marked_in {m} {c = c} {c' = c'} {μ = μ} R h id lives stands K =
    let H = R.stored in
    let same = roots_alike μ (protect id μ) refl refl refl refl in
    let marks = sealed_marks H.objects lives K R.sealed in (
      record {
        world = R.world;
        stored = record {
          full = subst (λ n. Full R.world.ghost (n + root_count) 0 m.lists c') (sym (ap (λ n. n / 4) K.size)) (sealed_full K lives H.full);
          none_dead = H.none_dead;
          none_out = H.none_out;
          objects = rep_alike (sealed_rep H.objects lives K) (λ r i. (λ a. subst (λ v. Names v i) (sym (same r)) a, λ a. subst (λ v. Names v i) (same r) a));
        };
        items = R.items;
        frames = R.frames;
        slots = R.slots;
        handled = R.handled;
        sealed = subst (λ i. Sealed R.world.ρ R.world.ghost c' μ.store (μ.read_only ++ (i ∷ []))) stands marks;
        naming = R.naming;
        logging = R.logging;
        stopped = R.stopped;
        rooms = R.rooms;
      },
      refl,
    )

-- ---- by item

-- The words of a value that names an object.
module _ {keys : List (List ℕ)} {texts : List Bool} {ρ : ℕ → ℕ} where
  object_words : {v : Value} {t p id : ℕ} → Stands keys texts ρ v t p → object_id v ≡ ok id → (8 ≤ t) × (ρ p ≡ id) × (named v ≡ id)
  unfolding object_id named
  object_words a_null q = absurd (fault_ok q)
  object_words an_integer q = absurd (fault_ok q)
  object_words a_boolean q = absurd (fault_ok q)
  object_words a_mark q = absurd (fault_ok q)
  object_words (an_operator e) q = absurd (fault_ok q)
  object_words (a_literal e) q = absurd (fault_ok q)
  object_words (an_executable e) q = absurd (fault_ok q)
  object_words (a_string r e) q = (omega arith, r ∙ ok_one q, ok_one q)
  object_words (an_array r e) q = (omega arith, r ∙ ok_one q, ok_one q)
  object_words (a_procedure r e) q = (omega arith, r ∙ ok_one q, ok_one q)

  -- The same words name an object whatever they stand for.
  words_object : {v : Value} {t p : ℕ} → Stands keys texts ρ v t p → 8 ≤ t → (id : ℕ) × (object_id v ≡ ok id)
  unfolding object_id
  words_object a_null l = absurd (omega arith)
  words_object an_integer l = absurd (omega arith)
  words_object a_boolean l = absurd (omega arith)
  words_object a_mark l = absurd (omega arith)
  words_object (an_operator e) l = absurd (omega arith)
  words_object (a_literal e) l = absurd (omega arith)
  words_object (an_executable e) l = absurd (omega arith)
  words_object (a_string {i = i} r e) l = (i, refl)
  words_object (an_array {i = i} r e) l = (i, refl)
  words_object (a_procedure {i = i} r e) l = (i, refl)

module _ {m : Machine} {st e d c l : List ℕ} {μ : Floo.Machine} (R : Rep m st e d c l μ) (i k : ℕ) (h : m.depth ≡ k + suc i) where
  -- An item with such a tag is an array or a string.
  pub object_tagged : 8 ≤ item_tag st k → HasObject i μ
  object_tagged l = let y = words_object (word_of R i k h).stands l in record { id = y.0; item = y.1 }

  object_lives : {id : ℕ} → object_id (get_or μ.stack i null) ≡ ok id → R.world.ghost.own (item_payload st k) ≡ live
  object_lives q = let w = word_of R i k h in w.alive (object_words w.stands q).0

  pub object_room : {id : ℕ} → object_id (get_or μ.stack i null) ≡ ok id → item_payload st k * 4 + 4 ≤ length c
  object_room q = room R.stored.full.heap.shape (item_payload st k) (object_lives q) refl

  pub mark_read : {id : ℕ} → object_id (get_or μ.stack i null) ≡ ok id → is_sealed c (item_payload st k) ≡ member id μ.read_only
  mark_read q =
      R.sealed.marks (item_payload st k) (object_lives q) ∙ ap (λ j. member j μ.read_only) (object_words (word_of R i k h).stands q).1

  marked_item : {c' : List ℕ} → HasObject i μ → Seals c (item_payload st k) c' → Rep m st e d c' l (item_sealed i μ)
  unfolding item_sealed item_id
  marked_item o K =
      let w = object_words (word_of R i k h).stands o.item in
      (marked_in R (item_payload st k) _ (object_lives o.item) (w.1 ∙ sym w.2) K).0

-- Whether an item may be written to, as the definition tests it on a machine with the same marks.
module _ {i : ℕ} {m : Machine} {s c : List ℕ} {x : Bool} (Z : ItemSealed i m s c x) {e d l : List ℕ} {μ : Floo.Machine} (R : Rep m s e d c l μ) {id : ℕ}
    (q : object_id (get_or μ.stack i null) ≡ ok id) (τ : Floo.Machine) (same : τ.read_only ≡ μ.read_only) where
  pub item_writable : x ≡ false → writable id τ ≡ ok tt
  item_writable f = writable_plain id τ (ap (member id) same ∙ sym (Z.says e d l μ R id q) ∙ f)

  pub item_refused : x ≡ true → writable id τ ≡ fault InvalidAccess
  item_refused f = writable_marked id τ (ap (member id) same ∙ sym (Z.says e d l μ R id q) ∙ f)

-- For any machine.
pub mark_moves : {m : Machine} {st e d c c' l : List ℕ} {μ : Floo.Machine} → Rep m st e d c l μ
    → (i k : ℕ)
    → m.depth ≡ k + suc i
    → HasObject i μ
    → Seals c (item_payload st k) c'
    → MovesHeap (item_sealed i) m m st st c c'
mark_moves R i k h o K =
    record { moves = λ e d l μ R'. marked_item R' i k h (object_tagged R' i k h (object_words (word_of R i k h).stands o.item).0) K }
