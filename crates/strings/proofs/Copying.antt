-- The loops that copy bytes: after each turn the bytes of one part are copied, and the bytes that are still to be read are as they were.
-- Assumes nothing.
use mathlib.Core.Path.{◌≡◌, refl, sym, ap, ◌∙◌, subst}
use mathlib.Core.List.{List, []}
use Prim.Native.Nat.{ℕ, ◌+◌, ◌-◌, ◌≤◌, ◌<◌}
use native.Mathlib.Omega.{arith}
use lib.ListN.{length, get_or, set}
use lib.Seq.{set-get_or}
use Rattle.semantics.specs.Values.{Value, null, Object, elements, text}
use Rattle.semantics.specs.Machine as Floo
use Rattle.semantics.specs.Machine.{with_store, object, bytes_of, change}
use Rattle.store.proofs.Changes.{at_set}
use Rattle.machine.specs.Rep.{Rep, MovesHeap}
use Rattle.machine.specs.declared.Machine.{Machine}
use Rattle.elements.specs.Elements.{HasByte, SomewhereThat, ByteOf, item_id, byte_put}
use Rattle.strings.specs.Strings.{Copies, pasted, bytes_copied}
use Rattle.strings.proofs.Parts.{Part, part_too, put_changed, changed_item, pasted_none, length_pasted, pasted_before, pasted_after, pasted_up, pasted_down}

-- ---- on machines

module _ (to a from b : ℕ) (μ : Floo.Machine) where
  abbrev old : List ℕ
  old = bytes_of (object μ (item_id to μ))

  abbrev src : List ℕ
  src = bytes_of (object μ (item_id from μ))

  copied_none : object μ (item_id to μ) ≡ text (bytes_of (object μ (item_id to μ))) → bytes_copied to a from b 0 μ ≡ μ
  unfolding bytes_copied change with_store object
  copied_none whole =
      let id = item_id to μ in
      ap (λ (t : List ℕ). with_store (set μ.store id (text t)) μ) (pasted_none old a src b)
      ∙ ap (λ (o : Object). with_store (set μ.store id o) μ) (sym whole)
      ∙ ap (λ (s : List Object). with_store s μ) (set-get_or μ.store id (elements []))

  module _ (k : ℕ) (made : item_id to μ < length μ.store) where
    put_copied : (q v : ℕ) → byte_put to q v (bytes_copied to a from b k μ) ≡ change (item_id to μ) (text (set (pasted old a src b k) q v)) μ
    unfolding bytes_copied
    put_copied q v = put_changed to μ (pasted old a src b k) made q v

    copied_item : (i : ℕ) {v : Value} → get_or μ.stack i null ≡ v → get_or (bytes_copied to a from b k μ).stack i null ≡ v
    unfolding bytes_copied
    copied_item i h = changed_item to μ (pasted old a src b k) i h

    module _ (ha : a + k ≤ length old) (hb : b + k ≤ length src) where
      copied_long : (id : ℕ) → length (bytes_of (object (bytes_copied to a from b k μ) id)) ≡ length (bytes_of (object μ id))
      unfolding bytes_copied change with_store object bytes_of
      copied_long id =
          at_set (λ x y. length (bytes_of x) ≡ length (bytes_of y)) μ.store (item_id to μ) (text (pasted old a src b k)) made
          (length_pasted 0 old a src b k ha hb) id refl

      read_after : (q : ℕ) → a + k ≤ q → (id : ℕ) → get_or (bytes_of (object (bytes_copied to a from b k μ) id)) q 0 ≡ get_or (bytes_of (object μ id)) q 0
      unfolding bytes_copied change with_store object bytes_of
      read_after q h id =
          at_set (λ x y. get_or (bytes_of x) q 0 ≡ get_or (bytes_of y) q 0) μ.store (item_id to μ) (text (pasted old a src b k)) made
          (pasted_after 0 old a src b k ha hb q h) id refl

      read_before : (q : ℕ) → q < a → (id : ℕ) → get_or (bytes_of (object (bytes_copied to a from b k μ) id)) q 0 ≡ get_or (bytes_of (object μ id)) q 0
      unfolding bytes_copied change with_store object bytes_of
      read_before q h id =
          at_set (λ x y. get_or (bytes_of x) q 0 ≡ get_or (bytes_of y) q 0) μ.store (item_id to μ) (text (pasted old a src b k)) made
          (pasted_before 0 old a src b k ha hb q h) id refl

  copied_up : (k : ℕ)
      → item_id to μ < length μ.store
      → a + k < length old
      → b + k < length src
      → (v : ℕ)
      → v ≡ get_or src (b + k) 0
      → byte_put to (a + k) v (bytes_copied to a from b k μ) ≡ bytes_copied to a from b (k + 1) μ
  unfolding bytes_copied
  copied_up k made ha hb v e =
      put_copied k made (a + k) v
      ∙ ap (λ (t : List ℕ). change (item_id to μ) (text t) μ) (ap (λ x. set (pasted old a src b k) (a + k) x) e ∙ pasted_up 0 old a src b k ha hb)

copied_down : (to a from b : ℕ) (μ : Floo.Machine) (k : ℕ)
    → item_id to μ < length μ.store
    → a < length (bytes_of (object μ (item_id to μ)))
    → b < length (bytes_of (object μ (item_id from μ)))
    → (v : ℕ)
    → v ≡ get_or (bytes_of (object μ (item_id from μ))) b 0
    → byte_put to a v (bytes_copied to (a + 1) from (b + 1) k μ) ≡ bytes_copied to a from b (k + 1) μ
unfolding bytes_copied
copied_down to a from b μ k made ha hb v e =
    let old = bytes_of (object μ (item_id to μ)) in
    let src = bytes_of (object μ (item_id from μ)) in
    put_copied to (a + 1) from (b + 1) μ k made a v
    ∙ ap (λ (t : List ℕ). change (item_id to μ) (text t) μ) (ap (λ x. set (pasted old (a + 1) src (b + 1) k) a x) e ∙ pasted_down 0 old a src b k ha hb)

-- ---- the loops

-- So far k bytes are copied, to byte a and the ones after it.
pub record Copied (to a from b k : ℕ) (m : Machine) (s c₀ c : List ℕ) : Type 0 where
  pub long : length c ≡ length c₀
  pub moves : MovesHeap (bytes_copied to a from b k) m m s s c₀ c

recounted : {to a a' from b b' k k' : ℕ} {m : Machine} {s c₀ c : List ℕ} → a ≡ a' → b ≡ b' → k ≡ k' → Copied to a from b k m s c₀ c → Copied to a' from b' k' m s c₀ c
recounted {to} {a} {a'} {from} {b} {b'} {k} {k'} {m} {s} {c₀} {c} x y z D =
    subst (λ j. Copied to a' from b' j m s c₀ c) z (subst (λ j. Copied to a' from j k m s c₀ c) y (subst (λ j. Copied to j from b k m s c₀ c) x D))

module _ {to at from start n : ℕ} {m : Machine} {s c₀ : List ℕ} (deep : to < m.depth) (deep' : from < m.depth) (W : SomewhereThat (Copies to at from start n) m s c₀) where
  target : {e d l : List ℕ} {μ : Floo.Machine} → Rep m s e d c₀ l μ → Part to at n μ
  target R = part_too W.4 to at n deep W.5.0 R

  source : {e d l : List ℕ} {μ : Floo.Machine} → Rep m s e d c₀ l μ → Part from start n μ
  source R = part_too W.4 from start n deep' W.5.1 R

  -- Places in the strings are small numbers.
  pub small_target : at + n ≤ 262144
  small_target = let P = target W.4 in omega (arith, P.inside, P.few)

  pub small_source : start + n ≤ 262144
  small_source = let P = source W.4 in omega (arith, P.inside, P.few)

  begin : (a b : ℕ) → Copied to a from b 0 m s c₀ c₀
  begin a b = record { long = refl; moves = record { moves = λ e d l μ R. subst (Rep m s e d c₀ l) (sym (copied_none to a from b μ (target R).whole)) R } }

  pub begin_up : Copied to at from start 0 m s c₀ c₀
  begin_up = begin at start

  pub begin_down : Copied to (at + n) from (start + n) (n - n) m s c₀ c₀
  begin_down = let none : 0 ≡ n - n = omega arith in recounted refl refl none (begin (at + n) (start + n))

  module _ {a b k : ℕ} {c : List ℕ} (D : Copied to a from b k m s c₀ c) (ha : a + k ≤ at + n) (hb : b + k ≤ start + n) where
    pub source_byte : (q : ℕ) → q < start + n → SomewhereThat (HasByte from q) m s c
    source_byte q h =
        let R = W.4 in
        let μ = W.3 in
        let T = target R in
        let S = source R in
        let long = copied_long to a from b μ k T.made (omega (arith, ha, T.inside)) (omega (arith, hb, S.inside)) (item_id from μ) in (
          W.0,
          W.1,
          W.2,
          bytes_copied to a from b k μ,
          D.moves.moves W.0 W.1 W.2 μ R,
          record {
            string = record { id = item_id from μ; item = copied_item to a from b μ k T.made from S.item };
            inside = omega (arith, h, S.inside, long);
          },
        )

    pub target_byte : (q : ℕ) → q < at + n → SomewhereThat (HasByte to q) m s c
    target_byte q h =
        let R = W.4 in
        let μ = W.3 in
        let T = target R in
        let S = source R in
        let long = copied_long to a from b μ k T.made (omega (arith, ha, T.inside)) (omega (arith, hb, S.inside)) (item_id to μ) in (
          W.0,
          W.1,
          W.2,
          bytes_copied to a from b k μ,
          D.moves.moves W.0 W.1 W.2 μ R,
          record {
            string = record { id = item_id to μ; item = copied_item to a from b μ k T.made to T.item };
            inside = omega (arith, h, T.inside, long);
          },
        )

  module _ {j : ℕ} {c : List ℕ} (D : Copied to at from start j m s c₀ c) (before : at ≤ start) (h : j < n) {v : ℕ}
      (B : ByteOf from (start + j) m s c v) {c' : List ℕ} (P : MovesHeap (byte_put to (at + j) v) m m s s c c') (long : length c' ≡ length c) where
    pub again_up : Copied to at from start (j + 1) m s c₀ c'
    again_up =
        record {
          long = long ∙ D.long;
          moves = record {
            moves = λ e d l μ R.
                let T = target R in
                let S = source R in
                let R' = D.moves.moves e d l μ R in
                let says = B.says e d l _ R' (item_id from μ) (copied_item to at from start μ j T.made from S.item) in
                let read = read_after to at from start μ j T.made (omega (arith, h, T.inside)) (omega (arith, h, S.inside)) (start + j) (omega (arith, before)) (item_id from μ) in
                subst (Rep m s e d c' l)
                (copied_up to at from start μ j T.made (omega (arith, h, T.inside)) (omega (arith, h, S.inside)) v (says ∙ read))
                (P.moves e d l _ R');
          };
        }

  module _ {j : ℕ} {c : List ℕ} (D : Copied to (at + j) from (start + j) (n - j) m s c₀ c) (before : start ≤ at) (some : 0 < j) (h : j ≤ n) {v : ℕ}
      (B : ByteOf from (start + (j - 1)) m s c v) {c' : List ℕ} (P : MovesHeap (byte_put to (at + (j - 1)) v) m m s s c c') (long : length c' ≡ length c) where
    abbrev a : ℕ
    a = at + (j - 1)

    abbrev b : ℕ
    b = start + (j - 1)

    so_far : Copied to (a + 1) from (b + 1) (n - j) m s c₀ c
    so_far =
        let x : at + j ≡ a + 1 = omega (arith, some) in
        let y : start + j ≡ b + 1 = omega (arith, some) in
        recounted x y refl D

    pub again_down : Copied to (at + (j - 1)) from (start + (j - 1)) (n - (j - 1)) m s c₀ c'
    again_down =
        let z : n - j + 1 ≡ n - (j - 1) = omega (arith, some, h) in
        recounted refl refl z
        (record {
          long = long ∙ D.long;
          moves = record {
            moves = λ e d l μ R.
                let T = target R in
                let S = source R in
                let R' = so_far.moves.moves e d l μ R in
                let says = B.says e d l _ R' (item_id from μ) (copied_item to (a + 1) from (b + 1) μ (n - j) T.made from S.item) in
                let read = read_before to (a + 1) from (b + 1) μ (n - j) T.made (omega (arith, some, h, T.inside)) (omega (arith, some, h, S.inside)) b (omega (arith, before)) (item_id from μ) in
                subst (Rep m s e d c' l)
                (copied_down to a from b μ (n - j) T.made (omega (arith, some, h, T.inside)) (omega (arith, some, h, S.inside)) v (says ∙ read))
                (P.moves e d l _ R');
          };
        })

pub finish_up : {to at from start n j : ℕ} {m : Machine} {s c₀ c : List ℕ} → Copied to at from start j m s c₀ c → j ≤ n → n ≤ j → MovesHeap (bytes_copied to at from start n) m m s s c₀ c
finish_up {n = n} {j = j} D h past =
    let all : j ≡ n = omega (arith, h, past) in
    (recounted refl refl all D).moves

pub finish_down : {to from : ℕ} (at start n : ℕ) {j : ℕ} {m : Machine} {s c₀ c : List ℕ} → Copied to (at + j) from (start + j) (n - j) m s c₀ c → j ≤ 0 → MovesHeap (bytes_copied to at from start n) m m s s c₀ c
finish_down at start n {j} D past =
    let x : at + j ≡ at = omega (arith, past) in
    let y : start + j ≡ start = omega (arith, past) in
    let z : n - j ≡ n = omega (arith, past) in
    (recounted x y z D).moves
