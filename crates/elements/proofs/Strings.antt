-- What the words of an item that is a string say: its header lives and stands for the string, and has its maximum. A byte is read from its cell and set there.
-- Assumes nothing.
use mathlib.Core.Path.{◌≡◌, refl, sym, ap, ◌∙◌, subst}
use mathlib.Core.Bool.{Bool, true}
use mathlib.Core.List.{List, [], map}
use mathlib.Core.Option.{some}
use Prim.Native.Nat.{ℕ, suc, ◌+◌, ◌-◌, ◌*◌, ◌/◌, ◌%◌, ◌≤◌, ◌<◌}
use native.Mathlib.Omega.{arith}
use lib.ListN.{length, get_or, set, get_elem?, length-set}
use lib.Seq.{map-set_same}
use Rattle.semantics.specs.Values.{Value, null, string, Object, elements, text}
use Rattle.semantics.specs.Machine as Floo
use Rattle.semantics.specs.Machine.{with_store, object, elements_of, bytes_of, change}
use Rattle.heap.specs.Word.{word, Put}
use Rattle.heap.specs.Chain.{live, on}
use Rattle.heap.specs.Shape.{Full}
use Rattle.heap.specs.declared.Lists.{Lists}
use Rattle.heap.proofs.Chains.{live_on}
use Rattle.heap.proofs.Shapes.{room}
use Rattle.store.specs.Rep.{is_text, Stands, a_string, by_string, byte_of, with_byte, object_at, Names, Sealed}
use Rattle.store.proofs.Standing.{stands_names, is_string_lem, kind_at, text_is}
use Rattle.store.proofs.Sorts.{text_word, word_text}
use Rattle.store.proofs.Changes.{at_set}
use Rattle.store.proofs.Rooting.{rep_alike}
use Rattle.store.proofs.Bytes.{word_full, byte_read, byte_set_lem}
use Rattle.store.proofs.Sealing.{sealed_kept}
use Rattle.machine.specs.Words.{item_tag, item_payload}
use Rattle.machine.specs.Places.{root_count, roots, keys}
use Rattle.machine.specs.Rep.{Rep, World, Stored, Is, IsIn, MovesHeap}
use Rattle.machine.specs.declared.Machine.{Machine}
use Rattle.machine.proofs.Copying.{word_of}
use Rattle.elements.specs.Elements.{named, item_id, HasString, HasByte, HasCell, IsString, PutsByte, byte_put, byte_set, StringSize, SomewhereThat}
use Rattle.elements.proofs.Arrays.{Found}
use Rattle.machine.proofs.Rehousing.{roots_store, restored_in}

-- ---- by the tag

module _ {keys : List (List ℕ)} {texts : List Bool} {ρ : ℕ → ℕ} where
  string_tags : {i t p : ℕ} → Stands keys texts ρ (string i) t p → (get_elem? texts i ≡ some true) × (t ≡ 8)
  string_tags (a_string r e) = (e, refl)

-- ---- the header

-- Header h stands for the string id.
pub record StringAt (w : World) (c : List ℕ) (store : List Object) (h id : ℕ) : Type 0 where
  pub lives : w.ghost.own h ≡ live
  pub stands : w.ρ h ≡ id
  pub kind : word c h 0 ≡ suc (length (bytes_of (object_at store (w.ρ h))))
  pub whole : object_at store (w.ρ h) ≡ text (bytes_of (object_at store (w.ρ h)))
  pub size : w.ghost.size (h + 2) ≡ (length (bytes_of (object_at store (w.ρ h))) + 7) / 8

pub string_at : {w : World} {s : Lists} {c : List ℕ} {names : List (List ℕ)} {store : List Object} {rts : ℕ → Value}
    → Stored w s c names store rts
    → {id t p : ℕ}
    → Is w names (map is_text store) (string id) t p
    → StringAt w c store p id
string_at {w} {store = store} H {id = id} {p = p} I =
    let y = stands_names I.stands by_string in
    let lives = I.alive y.0 in
    let bytes : is_text (object_at store (w.ρ p)) ≡ true =
    ap (λ j. is_text (object_at store j)) y.1 ∙ (kind_at store id true (string_tags I.stands).0).1 in
    let whole = text_is (object_at store (w.ρ p)) bytes in
    let kind = text_word H.objects p lives whole in
    record { lives = lives; stands = y.1; kind = kind; whole = whole; size = (word_text H.objects p lives _ kind).2 }

module _ {m : Machine} {st e d c l : List ℕ} {μ : Floo.Machine} (R : Rep m st e d c l μ) (i k : ℕ) (h : m.depth ≡ k + suc i) where
  string_words : {id : ℕ} → get_or μ.stack i null ≡ string id → IsIn R.world μ (string id) (item_tag st k) (item_payload st k)
  string_words q = subst (λ v. IsIn R.world μ v (item_tag st k) (item_payload st k)) q (word_of R i k h)

  pub string_item : {id : ℕ} → get_or μ.stack i null ≡ string id → StringAt R.world c μ.store (item_payload st k) id
  string_item q = string_at R.stored (string_words q)

  pub string_is : {id : ℕ} → get_or μ.stack i null ≡ string id → IsString R.world μ.store (item_payload st k) id
  string_is q =
      let A = string_item q in
      record { lives = A.lives; stands = A.stands; kind = ap (λ j. is_text (object_at μ.store j)) (sym A.stands) ∙ ap is_text A.whole }

  -- Word 0 of the header is the maximum and 1.
  pub maximum_read : {id : ℕ} → get_or μ.stack i null ≡ string id → word c (item_payload st k) 0 ≡ suc (length (bytes_of (object μ id)))
  unfolding object
  maximum_read q =
      let A = string_item q in
      A.kind ∙ ap (λ j. suc (length (bytes_of (object_at μ.store j)))) A.stands

  -- The same words stand for a string in any machine.
  pub string_too : {e' d' l' : List ℕ} {μ' : Floo.Machine} → Rep m st e' d' c l' μ' → HasString i μ → HasString i μ'
  string_too R' a =
      let t = is_string_lem (word_of R' i k h).stands (string_tags (string_words a.item).stands).1 in
      record { id = t.0; item = t.1 }

-- ---- a byte of a string by its header

-- The header's words say all.
pub string_here : {m : Machine} {st e d c l : List ℕ} {μ : Floo.Machine} (R : Rep m st e d c l μ) {h id : ℕ}
    → IsString R.world μ.store h id
    → StringAt R.world c μ.store h id
string_here {μ = μ} R {h} I =
    let kind : is_text (object_at μ.store (R.world.ρ h)) ≡ true = ap (λ j. is_text (object_at μ.store j)) I.stands ∙ I.kind in
    let whole = text_is (object_at μ.store (R.world.ρ h)) kind in
    let word = text_word R.stored.objects h I.lives whole in
    record { lives = I.lives; stands = I.stands; kind = word; whole = whole; size = (word_text R.stored.objects h I.lives _ word).2 }

module _ {m : Machine} {st e d c l : List ℕ} {μ : Floo.Machine} (R : Rep m st e d c l μ) (head id q : ℕ)
    (at : StringAt R.world c μ.store head id) (low : q < length (bytes_of (object μ id))) where
  abbrev bytes : List ℕ
  bytes = bytes_of (object_at μ.store (R.world.ρ head))

  inside : q < length bytes
  unfolding object
  inside = subst (λ j. q < length (bytes_of (object_at μ.store j))) (sym at.stands) low

  -- How many cells come after the byte's.
  abbrev rank : ℕ
  rank = R.world.ghost.size (head + 2) - suc (q / 8)

  split : R.world.ghost.size (head + 2) ≡ q / 8 + suc rank
  split = omega (arith, inside, at.size)

  pub byte_here : HasCell c head (q / 8)
  byte_here = (R.world.ghost, m.lists.edge, R.stored.full.heap.shape, at.lives, omega (arith, split))

  -- Its cell, as `seek` finds it.
  module _ (cell : ℕ) (found : Found c head (q / 8) cell) where
    pub cell_here : R.world.ghost.own cell ≡ on (head + 2) rank
    cell_here = found R.world.ghost m.lists.edge R.stored.full.heap.shape at.lives rank split

    pub read_here : byte_of (word c cell (q % 8 / 4)) (q % 8 % 4) ≡ get_or (bytes_of (object μ id)) q 0
    unfolding object
    read_here =
        byte_read R.stored.objects head at.lives cell rank q (length bytes) cell_here at.kind split inside
        ∙ ap (λ j. get_or (bytes_of (object_at μ.store j)) q 0) at.stands

    -- The byte becomes v.
    module _ (v : ℕ) (small : v < 256) {c' : List ℕ} (P : Put c cell (q % 8 / 4) (with_byte (word c cell (q % 8 / 4)) (q % 8 % 4) v) c') where
      abbrev changed : ℕ → Object
      changed id = text (set (bytes_of (object_at μ.store id)) q v)

      abbrev store : List Object
      store = set μ.store (R.world.ρ head) (changed (R.world.ρ head))

      kinds : map is_text store ≡ map is_text μ.store
      kinds = map-set_same is_text μ.store (R.world.ρ head) (changed (R.world.ρ head)) (elements []) (sym (ap is_text at.whole))

      stored : Stored R.world m.lists c' (keys μ) store (roots (with_store store μ))
      stored =
          let H = R.stored in
          let rep = byte_set_lem H.objects head at.lives H.full.heap.shape H.full.counts cell rank q v bytes cell_here at.whole split inside small P in
          record {
            full = subst (λ n. Full R.world.ghost (n + root_count) 0 m.lists c') (sym (ap (λ n. n / 4) P.size))
                (word_full cell head rank (length bytes) (q % 8 / 4) _ H.full cell_here at.kind (omega arith) P);
            none_dead = H.none_dead;
            none_out = H.none_out;
            objects = rep_alike rep (λ r i. (λ a. subst (λ x. Names x i) (sym (roots_store μ store r)) a, λ a. subst (λ x. Names x i) (roots_store μ store r) a));
          }

      carry : (v : Value) (t p : ℕ) → IsIn R.world μ v t p → Is R.world (keys μ) (map is_text store) v t p
      carry v t p h = subst (λ kinds. Is R.world (keys μ) kinds v t p) (sym kinds) h

      long : (x : ℕ) → length (elements_of (object_at store x)) ≡ length (elements_of (object_at μ.store x))
      unfolding elements_of
      long x =
          let id = R.world.ρ head in
          at_set (λ x y. length (elements_of x) ≡ length (elements_of y)) μ.store id (changed id) (R.stored.objects.id head at.lives)
          (sym (ap (λ o. length (elements_of o)) at.whole)) x refl

      marked : Sealed R.world.ρ R.world.ghost c' store μ.read_only
      marked =
          sealed_kept R.sealed (omega (arith, length-set μ.store (R.world.ρ head) (changed (R.world.ρ head))))
          (λ x l. (l, P.there x 1 (omega arith) (λ e _. live_on (sym l ∙ ap R.world.ghost.own e ∙ cell_here))))

      pub set_here : (R' : Rep m st e d c' l (byte_set id q v μ)) × (R'.world ≡ R.world)
      unfolding byte_set change object
      set_here =
          subst (λ id. (R' : Rep m st e d c' l (with_store (set μ.store id (changed id)) μ)) × (R'.world ≡ R.world)) at.stands
          (restored_in R R.world store stored (λ v t p _ h. carry v t p h) (λ x t p _. long x) (λ i t p a r _ _ o. o) marked)

-- The cell that `seek` finds is inside.
pub cell_room : {c : List ℕ} (h q cell : ℕ) → HasCell c h q → Found c h q cell → cell * 4 + 4 ≤ length c
cell_room h q cell X found =
    let g = X.0 in
    let k : ℕ = g.size (h + 2) - suc q in
    room X.2 cell (found g X.1 X.2 X.3 k (omega (arith, X.4))) refl

-- For any machine: x is the word that was read, and y the one that is written.
pub byte_puts : (head q cell : ℕ)
    → {c : List ℕ}
    → Found c head (q / 8) cell
    → (v : ℕ)
    → v < 256
    → (x y : ℕ)
    → x ≡ word c cell (q % 8 / 4)
    → y ≡ with_byte x (q % 8 % 4) v
    → {c' : List ℕ}
    → Put c cell (q % 8 / 4) y c'
    → PutsByte head q v c c'
byte_puts head q cell {c} found v small x y e f {c'} P =
    let stored = subst (λ y. Put c cell (q % 8 / 4) y c') (f ∙ ap (λ y. with_byte y (q % 8 % 4) v) e) P in
    record { puts = λ R id I low. set_here R head id q (string_here R I) low cell found v small stored }

-- ---- a byte of an item

pub string_id_lem : {i : ℕ} {μ : Floo.Machine} (a : HasString i μ) → item_id i μ ≡ a.id
unfolding item_id named
string_id_lem a = ap named a.item

module _ {m : Machine} {st e d c l : List ℕ} {μ : Floo.Machine} (R : Rep m st e d c l μ) (i k q : ℕ) (h : m.depth ≡ k + suc i) (b : HasByte i q μ) where
  pub byte_too : {e' d' l' : List ℕ} {μ' : Floo.Machine} → Rep m st e' d' c l' μ' → HasByte i q μ'
  byte_too R' =
      let a = string_too R i k h R' b.string in
      record { string = a; inside = omega (arith, b.inside, maximum_read R i k h b.string.item, maximum_read R' i k h a.item) }

  abbrev head : ℕ
  head = item_payload st k

  here : StringAt R.world c μ.store (item_payload st k) b.string.id
  here = string_item R i k h b.string.item

  pub byte_sought : HasCell c (item_payload st k) (q / 8)
  byte_sought = byte_here R head b.string.id q here b.inside

  pub byte_cell : (cell : ℕ) → Found c (item_payload st k) (q / 8) cell → R.world.ghost.own cell ≡ on (item_payload st k + 2) (R.world.ghost.size (item_payload st k + 2) - suc (q / 8))
  byte_cell cell found = cell_here R head b.string.id q here b.inside cell found

  byte_at : (cell : ℕ) → Found c (item_payload st k) (q / 8) cell → byte_of (word c cell (q % 8 / 4)) (q % 8 % 4) ≡ get_or (bytes_of (object μ b.string.id)) q 0
  byte_at cell found = read_here R head b.string.id q here b.inside cell found

  byte_rep : (v : ℕ) {c' : List ℕ} → PutsByte (item_payload st k) q v c c' → Rep m st e d c' l (byte_put i q v μ)
  unfolding byte_put byte_set object
  byte_rep v {c'} P =
      subst (λ id. Rep m st e d c' l (byte_set id q v μ)) (sym (string_id_lem b.string)) (P.puts R b.string.id (string_is R i k h b.string.item) b.inside).0

-- ---- for any machine

module _ {m : Machine} {st e d c l : List ℕ} {μ : Floo.Machine} (R : Rep m st e d c l μ) (i k q : ℕ) (h : m.depth ≡ k + suc i) (b : HasByte i q μ) where
  pub byte_says : (cell : ℕ)
      → Found c (item_payload st k) (q / 8) cell
      → {e' d' l' : List ℕ} {μ' : Floo.Machine}
      → Rep m st e' d' c l' μ'
      → (id : ℕ)
      → get_or μ'.stack i null ≡ string id
      → byte_of (word c cell (q % 8 / 4)) (q % 8 % 4) ≡ get_or (bytes_of (object μ' id)) q 0
  byte_says cell found {μ' = μ'} R' id x =
      let b' = byte_too R i k q h b R' in
      byte_at R' i k q h b' cell found
      ∙ ap (λ j. get_or (bytes_of (object μ' j)) q 0) (sym (string_id_lem b'.string) ∙ string_id_lem (record { id = id; item = x }))

  pub byte_moves : (v : ℕ) {c' : List ℕ} → PutsByte (item_payload st k) q v c c' → MovesHeap (byte_put i q v) m m st st c c'
  byte_moves v P = record { moves = λ e d l μ R'. byte_rep R' i k q h (byte_too R i k q h b R') v P }

-- Below the maximum there is a byte.
pub has_byte : {i q : ℕ} {m : Machine} {s c : List ℕ} {most : ℕ}
    → StringSize i m s c most
    → SomewhereThat (HasString i) m s c
    → q < most
    → SomewhereThat (HasByte i q) m s c
has_byte Z (e, d, l, μ, R, a) h = (e, d, l, μ, R, record { string = a; inside = omega (arith, h, Z.says e d l μ R a.id a.item) })
