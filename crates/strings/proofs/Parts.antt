-- Parts of strings: what the words say of a part of an item, the same in each machine that they stand for, and bytes pasted into a string.
-- Assumes nothing.
use mathlib.Core.Path.{◌≡◌, sym, ap, ◌∙◌, subst}
use mathlib.Core.List.{List, [], ◌∷◌, ◌++◌, append_assoc}
use Prim.Native.Nat.{ℕ, suc, ◌+◌, ◌-◌, ◌≤◌, ◌<◌}
use native.Mathlib.Omega.{arith}
use lib.ListN.{length, get_or, set, take, drop, length-drop, get_or-append}
use lib.Seq.{paste-zero, paste-suc, length-paste, length_paste_head, drop-cons, take-suc, set_at, get_or-take, get_or-drop, get_or-append-add, get_or-set_same, set-set, length-take-le}
use Rattle.semantics.specs.Values.{Value, null, string, Object, elements, text}
use Rattle.semantics.specs.Machine as Floo
use Rattle.semantics.specs.Machine.{with_store, object, bytes_of, change}
use Rattle.heap.proofs.Shapes.{list_le}
use Rattle.store.specs.Rep.{object_at}
use Rattle.machine.specs.Words.{item_payload}
use Rattle.machine.specs.Rep.{Rep}
use Rattle.machine.specs.declared.Machine.{Machine}
use Rattle.elements.specs.Elements.{item_id, byte_put, byte_set}
use Rattle.elements.proofs.Strings.{StringAt, string_item, string_too, string_id_lem, maximum_read}
use Rattle.strings.specs.Strings.{HasBytes, pasted}

-- ---- what the words say

pub record Part (i q n : ℕ) (μ : Floo.Machine) : Type 0 where
  pub item : get_or μ.stack i null ≡ string (item_id i μ)
  pub made : item_id i μ < length μ.store
  pub whole : object μ (item_id i μ) ≡ text (bytes_of (object μ (item_id i μ)))
  pub few : length (bytes_of (object μ (item_id i μ))) ≤ 262144
  pub inside : q + n ≤ length (bytes_of (object μ (item_id i μ)))

part : {m : Machine} {st e d c l : List ℕ} {μ : Floo.Machine}
    → Rep m st e d c l μ
    → (i k q n : ℕ)
    → m.depth ≡ k + suc i
    → HasBytes i q n μ
    → Part i q n μ
unfolding object
part {st = st} {c = c} {μ = μ} R i k q n h b =
    let same = sym (string_id_lem b.string) in
    let A = subst (λ id. StringAt R.world c μ.store (item_payload st k) id) same (string_item R i k h b.string.item) in
    let head = item_payload st k in
    let shape = R.stored.full.heap.shape in
    record {
      item = b.string.item ∙ ap string same;
      made = subst (λ id. id < length μ.store) A.stands (R.stored.objects.id head A.lives);
      whole = subst (λ id. object_at μ.store id ≡ text (bytes_of (object_at μ.store id))) A.stands A.whole;
      few = subst (λ id. length (bytes_of (object_at μ.store id)) ≤ 262144) A.stands (omega (arith, A.size, list_le shape (head + 2), shape.few));
      inside = subst (λ id. q + n ≤ length (bytes_of (object_at μ.store id))) same b.inside;
    }

pub part_too : {m : Machine} {st e d c l : List ℕ} {μ : Floo.Machine}
    → Rep m st e d c l μ
    → (i q n : ℕ)
    → i < m.depth
    → HasBytes i q n μ
    → {e' d' l' : List ℕ} {μ' : Floo.Machine}
    → Rep m st e' d' c l' μ'
    → Part i q n μ'
part_too {m} R i q n deep b R' =
    let k = m.depth - suc i in
    let h : m.depth ≡ k + suc i = omega (arith, deep) in
    let a = string_too R i k h R' b.string in
    part R' i k q n h
    (record { string = a; inside = omega (arith, b.inside, maximum_read R i k h b.string.item, maximum_read R' i k h a.item) })

-- ---- a string that has changed

module _ (id : ℕ) (μ : Floo.Machine) (p : List ℕ) (made : id < length μ.store) where
  pub changed_text : object (change id (text p) μ) id ≡ text p
  unfolding change with_store object
  changed_text = get_or-set_same μ.store id (text p) (elements []) made

  pub changed_bytes : bytes_of (object (change id (text p) μ) id) ≡ p
  unfolding bytes_of
  changed_bytes = ap bytes_of changed_text

  pub set_changed : (q v : ℕ) → byte_set id q v (change id (text p) μ) ≡ change id (text (set p q v)) μ
  unfolding byte_set change with_store object bytes_of
  set_changed q v =
      ap (λ (o : Object). with_store (set (set μ.store id (text p)) id (text (set (bytes_of o) q v))) μ) (get_or-set_same μ.store id (text p) (elements []) made)
      ∙ ap (λ (s : List Object). with_store s μ) (set-set μ.store id (text p) (text (set p q v)))

module _ (i : ℕ) (μ : Floo.Machine) (p : List ℕ) where
  pub changed_item : (j : ℕ) {v : Value} → get_or μ.stack j null ≡ v → get_or (change (item_id i μ) (text p) μ).stack j null ≡ v
  unfolding change with_store
  changed_item j h = h

  pub put_changed : item_id i μ < length μ.store → (q v : ℕ) → byte_put i q v (change (item_id i μ) (text p) μ) ≡ change (item_id i μ) (text (set p q v)) μ
  unfolding byte_put byte_set change with_store item_id
  put_changed made q v = set_changed (item_id i μ) μ p made q v

-- ---- elements pasted into a list, which are d where there are none

pub pasted_none : {A : Type 0} (old : List A) (a : ℕ) (src : List A) (b : ℕ) → pasted old a src b 0 ≡ old
unfolding pasted
pasted_none old a src b = sym (paste-zero old a (drop b src))

module _ {A : Type 0} (d : A) (old : List A) (a : ℕ) (src : List A) (b k : ℕ) where
  left : b + k ≤ length src → k ≤ length (drop b src)
  left h = rw (length-drop b src) (omega (arith, h))

  module _ (ha : a + k ≤ length old) (hb : b + k ≤ length src) where
    pub length_pasted : length (pasted old a src b k) ≡ length old
    unfolding pasted
    length_pasted = length-paste old a (drop b src) k ha (left hb)

    front : length (take a old ++ take k (drop b src)) ≡ a + k
    front = length_paste_head old a (drop b src) k (omega (arith, ha)) (left hb)

    pub pasted_before : (q : ℕ) → q < a → get_or (pasted old a src b k) q d ≡ get_or old q d
    unfolding pasted
    pasted_before q h =
        let len = length-take-le a old (omega (arith, ha)) in
        get_or-append (take a old ++ take k (drop b src)) (drop (a + k) old) d q (omega (arith, front, h))
        ∙ get_or-append (take a old) (take k (drop b src)) d q (omega (arith, len, h))
        ∙ get_or-take a old q d h

    pub pasted_after : (q : ℕ) → a + k ≤ q → get_or (pasted old a src b k) q d ≡ get_or old q d
    unfolding pasted
    pasted_after q h =
        let p = take a old ++ take k (drop b src) in
        let place : q ≡ length p + (q - (a + k)) = omega (arith, front, h) in
        let back : a + k + (q - (a + k)) ≡ q = omega (arith, h) in
        ap (λ j. get_or (p ++ drop (a + k) old) j d) place
        ∙ get_or-append-add p (drop (a + k) old) (q - (a + k)) d
        ∙ get_or-drop (a + k) old (q - (a + k)) d
        ∙ ap (λ j. get_or old j d) back

  -- One byte more at the end.
  pub pasted_up : a + k < length old → b + k < length src → set (pasted old a src b k) (a + k) (get_or src (b + k) d) ≡ pasted old a src b (k + 1)
  unfolding pasted
  pasted_up ha hb =
      let next : suc k ≡ k + 1 = omega arith in
      let long : k < length (drop b src) = rw (length-drop b src) (omega (arith, hb)) in
      ap (λ v. set (pasted old a src b k) (a + k) v) (sym (get_or-drop b src k d))
      ∙ paste-suc old a (drop b src) k d ha long
      ∙ ap (λ j. pasted old a src b j) next

  -- One byte more before the others.
  pub pasted_down : a < length old → b < length src → set (pasted old (a + 1) src (b + 1) k) a (get_or src b d) ≡ pasted old a src b (k + 1)
  unfolding pasted
  pasted_down ha hb =
      let v = get_or src b d in
      let mid = take k (drop (suc b) src) in
      let end = drop (a + (k + 1)) old in
      let after_a : a + 1 ≡ suc a = omega arith in
      let after_b : b + 1 ≡ suc b = omega arith in
      let far : a + 1 + k ≡ a + (k + 1) = omega arith in
      let more : k + 1 ≡ suc k = omega arith in
      let opened : pasted old (a + 1) src (b + 1) k ≡ take a old ++ (get_or old a d ∷ (mid ++ end)) =
      ap (λ (j : ℕ). take j old ++ take k (drop (b + 1) src) ++ drop (a + 1 + k) old) after_a
      ∙ ap (λ (j : ℕ). take (suc a) old ++ take k (drop j src) ++ drop (a + 1 + k) old) after_b
      ∙ ap (λ (j : ℕ). take (suc a) old ++ mid ++ drop j old) far
      ∙ ap (λ (t : List A). t ++ mid ++ end) (take-suc old a d ha)
      ∙ append_assoc (take a old ++ (get_or old a d ∷ [])) mid end
      ∙ append_assoc (take a old) (get_or old a d ∷ []) (mid ++ end) in
      let closed : take a old ++ take (k + 1) (drop b src) ++ end ≡ take a old ++ (v ∷ (mid ++ end)) =
      ap (λ (t : List A). take a old ++ take (k + 1) t ++ end) (drop-cons src b d hb)
      ∙ ap (λ (j : ℕ). take a old ++ take j (v ∷ drop (suc b) src) ++ end) more
      ∙ append_assoc (take a old) (v ∷ mid) end in
      ap (λ (t : List A). set t a v) opened
      ∙ set_at (take a old) (get_or old a d) (mid ++ end) v a (length-take-le a old (omega (arith, ha)))
      ∙ sym closed
