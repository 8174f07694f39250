-- A text goes to the front of a string: after each turn of the loop one byte more is pasted there. Then byte n becomes a zero, where there is one.
-- Assumes nothing.
use mathlib.Core.Path.{◌≡◌, refl, sym, ap, ◌∙◌, subst}
use mathlib.Core.List.{List, [], ◌++◌}
use Prim.Native.Nat.{ℕ, ◌+◌, ◌≤◌, ◌<◌}
use native.Mathlib.Omega.{arith}
use lib.ListN.{length, get_or, set, take, drop}
use lib.Seq.{set-get_or, set_out, take-length}
use Rattle.semantics.specs.Values.{null, string, Object, elements, text}
use Rattle.semantics.specs.Machine as Floo
use Rattle.semantics.specs.Machine.{with_store, object, bytes_of, change}
use Rattle.machine.specs.Rep.{Rep, Somewhere, MovesStack, MovesHeap}
use Rattle.machine.specs.Moves.{dropped, swapped}
use Rattle.machine.specs.declared.Machine.{Machine}
use Rattle.machine.proofs.Outcomes.{then_heap, same_heap, stack_heap, elsewhere}
use Rattle.elements.specs.Elements.{HasString, HasByte, SomewhereThat, StringSize, item_id, byte_put}
use Rattle.strings.specs.Strings.{HasBytes, pasted, bytes_filled}
use Rattle.strings.proofs.Parts.{Part, part_too, put_changed, changed_item, changed_bytes, pasted_none, length_pasted, pasted_up}
use Rattle.conversions.specs.Texts.{ended}

-- The object that is put back as it is.
same_object : (μ : Floo.Machine) (id : ℕ) {bs : List ℕ}
    → bs ≡ bytes_of (object μ id)
    → object μ id ≡ text (bytes_of (object μ id))
    → change id (text bs) μ ≡ μ
unfolding change with_store object
same_object μ id q whole =
    ap (λ (t : List ℕ). with_store (set μ.store id (text t)) μ) q
    ∙ ap (λ (o : Object). with_store (set μ.store id o) μ) (sym whole)
    ∙ ap (λ (s : List Object). with_store s μ) (set-get_or μ.store id (elements []))

-- ---- the loop

-- The first q bytes of the text are put.
unfoldable pub filled_to : List ℕ → ℕ → Floo.Machine → Floo.Machine
filled_to t q μ = change (item_id 0 μ) (text (pasted (bytes_of (object μ (item_id 0 μ))) 0 t 0 q)) μ

pub record Putting (t : List ℕ) (q : ℕ) (m : Machine) (s c₀ c : List ℕ) : Type 0 where
  pub low : q ≤ length t
  pub long : length c ≡ length c₀
  pub moves : MovesHeap (filled_to t q) m m s s c₀ c

module _ (t : List ℕ) (μ : Floo.Machine) where
  filled_none : object μ (item_id 0 μ) ≡ text (bytes_of (object μ (item_id 0 μ))) → filled_to t 0 μ ≡ μ
  unfolding filled_to
  filled_none whole = same_object μ (item_id 0 μ) (pasted_none (bytes_of (object μ (item_id 0 μ))) 0 t 0) whole

  module _ (q : ℕ) (made : item_id 0 μ < length μ.store) where
    filled_more : q < length (bytes_of (object μ (item_id 0 μ))) → q < length t → byte_put 0 q (get_or t q 0) (filled_to t q μ) ≡ filled_to t (q + 1) μ
    unfolding filled_to
    filled_more ha hb =
        let bs = bytes_of (object μ (item_id 0 μ)) in
        let here : q ≡ 0 + q = omega arith in
        put_changed 0 μ (pasted bs 0 t 0 q) made q (get_or t q 0)
        ∙ ap (λ (t : List ℕ). change (item_id 0 μ) (text t) μ)
        (ap (λ k. set (pasted bs 0 t 0 q) k (get_or t k 0)) here ∙ pasted_up 0 bs 0 t 0 q (omega (arith, ha)) (omega (arith, hb)))

    filled_string : get_or μ.stack 0 null ≡ string (item_id 0 μ) → get_or (filled_to t q μ).stack 0 null ≡ string (item_id 0 μ)
    unfolding filled_to
    filled_string h = changed_item 0 μ (pasted (bytes_of (object μ (item_id 0 μ))) 0 t 0 q) 0 h

    filled_long : q ≤ length (bytes_of (object μ (item_id 0 μ))) → q ≤ length t → length (bytes_of (object (filled_to t q μ) (item_id 0 μ))) ≡ length (bytes_of (object μ (item_id 0 μ)))
    unfolding filled_to
    filled_long ha hb =
        let bs = bytes_of (object μ (item_id 0 μ)) in
        ap (λ (t : List ℕ). length t) (changed_bytes (item_id 0 μ) μ (pasted bs 0 t 0 q) made) ∙ length_pasted 0 bs 0 t 0 q (omega (arith, ha)) (omega (arith, hb))

  filled_all : filled_to t (length t) μ ≡ bytes_filled 0 t μ
  unfolding filled_to bytes_filled pasted
  filled_all =
      let bs = bytes_of (object μ (item_id 0 μ)) in
      let here : 0 + length t ≡ length t = omega arith in
      ap (λ (k : ℕ). change (item_id 0 μ) (text (take (length t) t ++ drop k bs)) μ) here
      ∙ ap (λ (u : List ℕ). change (item_id 0 μ) (text (u ++ drop (length t) bs)) μ) (take-length t)

module _ (t : List ℕ) {m : Machine} {s c₀ : List ℕ} (deep : 2 ≤ m.depth) (W : SomewhereThat (HasBytes 0 0 (length t)) m s c₀) where
  part : {e d l : List ℕ} {μ : Floo.Machine} → Rep m s e d c₀ l μ → Part 0 0 (length t) μ
  part R = part_too W.4 0 0 (length t) (omega (arith, deep)) W.5 R

  pub begin : Putting t 0 m s c₀ c₀
  begin =
      record {
        low = omega arith;
        long = refl;
        moves = record { moves = λ e d l μ R. subst (Rep m s e d c₀ l) (sym (filled_none t μ (part R).whole)) R };
      }

  module _ {q : ℕ} {c : List ℕ} (D : Putting t q m s c₀ c) where
    pub has_byte : q < length t → SomewhereThat (HasByte 0 q) m s c
    has_byte h =
        let μ = W.3 in
        let P = part W.4 in
        let long = filled_long t μ q P.made (omega (arith, h, P.inside)) D.low in (
          W.0,
          W.1,
          W.2,
          filled_to t q μ,
          D.moves.moves W.0 W.1 W.2 μ W.4,
          record {
            string = record { id = item_id 0 μ; item = filled_string t μ q P.made P.item };
            inside = omega (arith, h, P.inside, long);
          },
        )

    pub again : q < length t → {c' : List ℕ} → MovesHeap (byte_put 0 q (get_or t q 0)) m m s s c c' → length c' ≡ length c → Putting t (q + 1) m s c₀ c'
    again h {c'} B long =
        record {
          low = omega (arith, h);
          long = long ∙ D.long;
          moves = record {
            moves = λ e d l μ R.
                let P = part R in
                subst (Rep m s e d c' l) (filled_more t μ q P.made (omega (arith, h, P.inside)) h) (B.moves e d l _ (D.moves.moves e d l μ R));
          };
        }

pub finish : {t : List ℕ} {q : ℕ} {m : Machine} {s c₀ c : List ℕ} → Putting t q m s c₀ c → length t ≤ q → MovesHeap (bytes_filled 0 t) m m s s c₀ c
finish {t} {q} D h =
    let all : q ≡ length t = omega (arith, h, D.low) in
    same_heap D.moves (λ μ _. ap (λ k. filled_to t k μ) all ∙ filled_all t μ)

-- ---- the zero

zero_out : (n : ℕ) (μ : Floo.Machine)
    → length (bytes_of (object μ (item_id 0 μ))) ≤ n
    → object μ (item_id 0 μ) ≡ text (bytes_of (object μ (item_id 0 μ)))
    → byte_put 0 n 0 μ ≡ μ
unfolding byte_put
zero_out n μ h whole = same_object μ (item_id 0 μ) (set_out (bytes_of (object μ (item_id 0 μ))) n 0 h) whole

module _ {m : Machine} {s c : List ℕ} (deep : 2 ≤ m.depth) (W : SomewhereThat (HasString 0) m s c) {k n : ℕ} (K : StringSize 0 m s c k) where
  pub no_room : k ≤ n → MovesHeap (byte_put 0 n 0) m m s s c c
  no_room h =
      record {
        moves = λ e d l μ R.
            let P = part_too W.4 0 0 0 (omega (arith, deep)) (record { string = W.5; inside = omega arith }) R in
            subst (Rep m s e d c l) (sym (zero_out n μ (omega (arith, h, K.says e d l μ R (item_id 0 μ) P.item)) P.whole)) R;
      }

  pub zero_room : n < k → SomewhereThat (HasByte 0 n) m s c
  zero_room h =
      (W.0, W.1, W.2, W.3, W.4, record { string = W.5; inside = omega (arith, h, K.says W.0 W.1 W.2 W.3 W.4 W.5.id W.5.item) })

-- ---- the end

pub somewhere : {P : Floo.Machine → Type 0} {m : Machine} {s c : List ℕ} → SomewhereThat P m s c → Somewhere m s c
somewhere W = (W.0, W.1, W.2, W.3, W.4)

module _ (n : ℕ) {m m₁ : Machine} {s s₁ c c₁ : List ℕ} (Z : MovesHeap (byte_put 0 n 0) m m s s c c₁) (S : MovesStack (swapped 0 1) m m₁ s s₁) where
  turned : MovesHeap (λ μ. swapped 0 1 (byte_put 0 n 0 μ)) m m₁ s s₁ c c₁
  turned = then_heap Z (stack_heap S)

  pub end_room : SomewhereThat (HasString 0) m s c → Somewhere m₁ s₁ c₁
  end_room W = elsewhere turned (somewhere W)

  pub end_good : {m₂ : Machine} {c₂ : List ℕ} → MovesHeap dropped m₁ m₂ s₁ s₁ c₁ c₂ → MovesHeap (ended n) m m₂ s s₁ c c₂
  unfolding ended
  end_good D = then_heap turned D
