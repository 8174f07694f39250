-- What each return of cvs and of its parts shows: the definition's cvs is `converted` of the value's text, and the parts do that to every machine that the words
-- stand for.
-- Assumes nothing.
use Rattle.std.specs.Prelude.{Ok, Err}
use mathlib.Core.Path.{◌≡◌, refl, sym, ap, ◌∙◌, subst}
use mathlib.Core.Bool.{Bool, true, false}
use mathlib.Core.List.{List, [], ◌∷◌, ◌++◌}
use Prim.Native.Nat.{ℕ, zero, suc, ◌+◌, ◌-◌, ◌≤◌, ◌<◌}
use native.Mathlib.Omega.{arith}
use borrow.Author.Tests.{le-leb, lt-leb}
use lib.Dec.{leb, eqb}
use lib.ListN.{length, get_or, set, take, drop, length-set}
use Rattle.semantics.specs.Text.{bytes, textual}
use Rattle.semantics.specs.Values.{Value, integer, boolean, null, mark, operator, name, string, array, text, Result, ok, fault, ◌>>=◌, check, string_id, object_id, current}
use Rattle.semantics.specs.Machine as Floo
use Rattle.semantics.specs.Machine.{with_stack, with_store, push, object, bytes_of, change, writable}
use Rattle.semantics.specs.Printing.{stringval}
use Rattle.semantics.specs.TextOperators.{overwrite, cvs}
use Rattle.semantics.specs.Operators.{perform, find, table, ◌is◌}
use Rattle.semantics.specs.Steps.{room_for}
use Rattle.semantics.specs.declared.Error.TheVariants.{StackUnderflow, TypeCheck, InvalidAccess, RangeCheck}
use Rattle.machine.specs.Words.{item_tag, item_payload}
use Rattle.machine.specs.Rep.{Rep, Answer, Somewhere, MovesHeap}
use Rattle.machine.specs.Room.{lent, fitted, DoesHeap}
use Rattle.machine.specs.Moves.{dropped, swapped}
use Rattle.machine.specs.declared.Machine.{Machine}
use Rattle.machine.specs.Answers.{Did}
use Rattle.machine.proofs.Copying.{word_of}
use Rattle.machine.proofs.Operands.{pop2_some, pop2_under}
use Rattle.machine.proofs.Outcomes.{KeepsStore, stack_depth, fails_heap, moves_heap, then_heap, elsewhere, two_items}
use Rattle.elements.specs.Elements.{tag_of, named, item_id, HasString, ItemTag, ItemSealed, StringSize, SomewhereThat, byte_put}
use Rattle.elements.proofs.Strings.{string_id_lem}
use Rattle.elements.proofs.Marking.{item_writable, item_refused}
use Rattle.elements.proofs.Tags.{tag_string, string_tagged, tag_no_string}
use Rattle.strings.specs.Strings.{HasBytes, Copies, CurrentSize, pasted, bytes_copied, bytes_filled}
use Rattle.strings.proofs.Parts.{Part, part_too, put_changed}
use Rattle.strings.proofs.Prefixes.{current_few}
use Rattle.conversions.specs.Texts.{SomewhereNamed, DoesNamedHeap, converted, ended, Known, TextOf}
use Rattle.conversions.proofs.Putting.{somewhere}

abbrev op : Floo.Machine → Result Floo.Machine
op = perform (bytes "cvs")

-- ---- on lists

set_past : (t r : List ℕ) (v : ℕ) → set (t ++ r) (length t) v ≡ t ++ set r 0 v
set_past [] r v = refl
set_past (b ∷ t) r v = ap (λ (u : List ℕ). b ∷ u) (set_past t r v)

set_dropped : (n : ℕ) (l : List ℕ) (v : ℕ) → set (drop n l) 0 v ≡ drop n (set l n v)
set_dropped zero l v = refl
set_dropped (suc n) [] v = refl
set_dropped (suc n) (b ∷ l) v = set_dropped n l v

overwritten : (t bs : List ℕ) → set (t ++ drop (length t) bs) (length t) 0 ≡ overwrite t bs
unfolding overwrite
overwritten t bs = set_past t (drop (length t) bs) 0 ∙ ap (λ (u : List ℕ). t ++ u) (set_dropped (length t) bs 0)

-- A string's current bytes are the first of its bytes.
take_current : (l : List ℕ) → take (length (current l)) l ≡ current l
unfolding current
take_current [] = refl
take_current (b ∷ l) = by (eqb b 0) (take_current l)
  where
    by : (t : Bool)
        → take (length (current l)) l ≡ current l
        → take (length {A = ℕ} (elim t [ true ↦ [] | false ↦ b ∷ current l ])) (b ∷ l) ≡ elim t [ true ↦ [] | false ↦ b ∷ current l ]
    by true r = refl
    by false r = ap (λ (u : List ℕ). b ∷ u) r

-- ---- the definition's cvs

-- What is left to do with a text once the string is known,
abbrev filling : List ℕ → Value → Floo.Machine → ℕ → Result Floo.Machine
filling t y τ i =
    check (leb (length t) (length (bytes_of (object τ i)))) RangeCheck >>= λ u.
    ok (push y (change i (text (overwrite t (bytes_of (object τ i)))) τ))

-- after the pops,
abbrev after : List ℕ → Value → Floo.Machine → Result Floo.Machine
after t y τ = string_id y >>= λ i. filling t y τ i

-- and with the test of the mark.
abbrev guarded : List ℕ → Value → Floo.Machine → Result Floo.Machine
guarded t y τ = string_id y >>= λ i. writable i τ >>= λ w. filling t y τ i

cvs_is : (μ : Floo.Machine) → op μ ≡ cvs μ
unfolding textual perform find table ◌is◌
cvs_is μ = refl

cvs_under : (μ : Floo.Machine) → length μ.stack < 2 → op μ ≡ fault StackUnderflow
unfolding cvs ◌>>=◌
cvs_under μ h = cvs_is μ ∙ ap (λ r. r >>= λ p. guarded (stringval p.2 p.0) p.1 p.2) (pop2_under μ h)

same_text : (μ : Floo.Machine) (rest : List Value) (x : Value) → stringval (with_stack rest μ) x ≡ stringval μ x
unfolding stringval object with_stack
same_text μ rest (integer w) = refl
same_text μ rest (boolean b) = refl
same_text μ rest null = refl
same_text μ rest mark = refl
same_text μ rest (operator o) = refl
same_text μ rest (name x n) = refl
same_text μ rest (string i) = refl
same_text μ rest (array x i) = refl

module _ (μ : Floo.Machine) {x y : Value} {rest : List Value} (split : μ.stack ≡ y ∷ x ∷ rest) where
  cvs_after : op μ ≡ guarded (stringval (with_stack rest μ) x) y (with_stack rest μ)
  unfolding cvs ◌>>=◌
  cvs_after = cvs_is μ ∙ ap (λ r. r >>= λ p. guarded (stringval p.2 p.0) p.1 p.2) (pop2_some μ split)

  converted_after : (t : List ℕ) → converted t μ ≡ after t y (with_stack rest μ)
  unfolding converted ◌>>=◌
  converted_after t = ap (λ r. r >>= λ p. after t p.1 p.2) (pop2_some μ split)

  module _ {id : ℕ} (target : y ≡ string id) where
    cvs_refused : writable id (with_stack rest μ) ≡ fault InvalidAccess → op μ ≡ fault InvalidAccess
    unfolding ◌>>=◌ string_id
    cvs_refused q =
        let τ = with_stack rest μ in
        let t = stringval τ x in
        cvs_after ∙ ap (λ (v : Value). guarded t v τ) target ∙ ap (λ r. r >>= λ w. filling t (string id) τ id) q

    cvs_converted : writable id (with_stack rest μ) ≡ ok tt → op μ ≡ converted (stringval μ x) μ
    unfolding ◌>>=◌ string_id
    cvs_converted q =
        let τ = with_stack rest μ in
        cvs_after
        ∙ ap (λ (t : List ℕ). guarded t y τ) (same_text μ rest x)
        ∙ ap (λ (v : Value). guarded (stringval μ x) v τ) target
        ∙ ap (λ r. r >>= λ w. filling (stringval μ x) (string id) τ id) q
        ∙ sym (converted_after (stringval μ x) ∙ ap (λ (v : Value). after (stringval μ x) v τ) target)

  cvs_type : string_id y ≡ fault TypeCheck → op μ ≡ fault TypeCheck
  unfolding ◌>>=◌
  cvs_type q =
      let τ = with_stack rest μ in
      let t = stringval τ x in
      cvs_after
      ∙ ap (λ r. r >>= λ i. writable i τ >>= λ w. filling t y τ i) q

-- ---- into a string

finished : (μ : Floo.Machine) (t : List ℕ) (id : ℕ) (x : Value) (rest : List Value)
    → id < length μ.store
    → ended (length t) (bytes_filled 0 t (with_stack (string id ∷ x ∷ rest) μ))
    ≡ push (string id) (change id (text (overwrite t (bytes_of (object μ id)))) (with_stack rest μ))
unfolding ended dropped swapped bytes_filled change with_store with_stack push item_id named object
finished μ t id x rest made =
    let ν = with_stack (string id ∷ x ∷ rest) μ in
    let bs = bytes_of (object μ id) in
    ap (λ (τ : Floo.Machine). dropped (swapped 0 1 τ)) (put_changed 0 ν (t ++ drop (length t) bs) made (length t) 0)
    ∙ ap (λ (u : List ℕ). push (string id) (change id (text u) (with_stack rest μ))) (overwritten t bs)

module _ (μ : Floo.Machine) {id : ℕ} {x : Value} {rest : List Value} (split : μ.stack ≡ string id ∷ x ∷ rest) (t : List ℕ) where
  too_long : length (bytes_of (object μ id)) < length t → converted t μ ≡ fault RangeCheck
  unfolding ◌>>=◌ string_id check object with_stack
  too_long h =
      let τ = with_stack rest μ in
      let bs = bytes_of (object μ id) in
      converted_after μ split t
      ∙ ap (λ b. check b RangeCheck >>= λ u. ok (push (string id) (change id (text (overwrite t bs)) τ))) (lt-leb (length t) (length bs) h)

  fits : length t ≤ length (bytes_of (object μ id)) → id < length μ.store → converted t μ ≡ ok (ended (length t) (bytes_filled 0 t μ))
  unfolding ◌>>=◌ string_id check object with_stack
  fits h made =
      let τ = with_stack rest μ in
      let bs = bytes_of (object μ id) in
      converted_after μ split t
      ∙ ap (λ b. check b RangeCheck >>= λ u. ok (push (string id) (change id (text (overwrite t bs)) τ))) (le-leb (length t) (length bs) h)
      ∙ ap ok (sym (finished μ t id x rest made))
      ∙ ap (λ (l : List Value). ok (ended (length t) (bytes_filled 0 t (with_stack l μ)))) (sym split)

-- ---- the target

record Target (μ : Floo.Machine) : Type 0 where
  id : ℕ
  x : Value
  rest : List Value
  split : μ.stack ≡ string id ∷ x ∷ rest
  made : id < length μ.store

-- Its mark.
module _ {m : Machine} {s c : List ℕ} {y : Bool} (M : ItemSealed 0 m s c y) {e d l : List ℕ} {μ : Floo.Machine} (R : Rep m s e d c l μ) (T : Target μ) where
  target_named : object_id (get_or μ.stack 0 null) ≡ ok T.id
  unfolding object_id
  target_named = ap (λ (r : List Value). object_id (get_or r 0 null)) T.split

  target_open : y ≡ false → writable T.id (with_stack T.rest μ) ≡ ok tt
  unfolding with_stack
  target_open q = item_writable M R target_named (with_stack T.rest μ) refl q

  target_locked : y ≡ true → writable T.id (with_stack T.rest μ) ≡ fault InvalidAccess
  unfolding with_stack
  target_locked q = item_refused M R target_named (with_stack T.rest μ) refl q

ended_store : (n : ℕ) → KeepsStore (ended n)
unfolding ended dropped swapped byte_put change with_store with_stack
ended_store n μ = length-set μ.store (item_id 0 μ) _

filled_store : (t : List ℕ) → KeepsStore (bytes_filled 0 t)
unfolding bytes_filled change with_store
filled_store t μ = length-set μ.store (item_id 0 μ) _

copied_store : (n : ℕ) → KeepsStore (bytes_copied 0 0 1 0 n)
unfolding bytes_copied change with_store
copied_store n μ = length-set μ.store (item_id 0 μ) _

module _ {m : Machine} {s : List ℕ} (deep : 2 ≤ m.depth) (Y : ItemTag 0 m s 8) where
  target : {e d c l : List ℕ} {μ : Floo.Machine} → Rep m s e d c l μ → Target μ
  target {e} {d} {c} {l} {μ} R =
      let t = two_items μ.stack (omega (arith, deep, stack_depth R)) in
      let y = tag_string (get_or μ.stack 0 null) (sym (Y.says e d c l μ R)) in
      let a : HasString 0 μ = record { id = y.0; item = y.1 } in
      let P = part_too R 0 0 0 (omega (arith, deep)) (record { string = a; inside = omega arith }) R in
      let first : t.0 ≡ string y.0 = sym (ap (λ (r : List Value). get_or r 0 null) t.3) ∙ y.1 in
      record {
        id = y.0;
        x = t.1;
        rest = t.2;
        split = t.3 ∙ ap (λ (v : Value). v ∷ t.1 ∷ t.2) first;
        made = subst (λ j. j < length μ.store) (string_id_lem a) P.made;
      }

  pub has_string : {c : List ℕ} → Somewhere m s c → SomewhereThat (HasString 0) m s c
  has_string {c} (e, d, l, μ, R) =
      let y = tag_string (get_or μ.stack 0 null) (sym (Y.says e d c l μ R)) in
      (e, d, l, μ, R, record { id = y.0; item = y.1 })

  module _ {c : List ℕ} {k : ℕ} (K : StringSize 0 m s c k) where
    size_is : {e d l : List ℕ} {μ : Floo.Machine} (R : Rep m s e d c l μ) → k ≡ length (bytes_of (object μ (target R).id))
    size_is {e} {d} {l} {μ} R = let T = target R in K.says e d l μ R T.id (ap (λ (r : List Value). get_or r 0 null) T.split)

    -- ---- a text

    pub convert_room : {n : ℕ} → n ≤ k → Somewhere m s c → SomewhereThat (HasBytes 0 0 n) m s c
    convert_room h W =
        let S = has_string W in (
          S.0,
          S.1,
          S.2,
          S.3,
          S.4,
          record { string = S.5; inside = omega (arith, h, K.says S.0 S.1 S.2 S.3 S.4 S.5.id S.5.item) },
        )

    module _ (t : List ℕ) where
      pub convert_long : k < length t → DoesHeap (converted t) m s s c c (Err RangeCheck)
      convert_long h = fails_heap (λ e d l μ R. too_long μ (target R).split t (omega (arith, h, size_is R)))

      pub convert_string_left : {c₁ : List ℕ} → Somewhere m s c → MovesHeap (bytes_filled 0 t) m m s s c c₁ → SomewhereThat (HasString 0) m s c₁
      convert_string_left W P = has_string (elsewhere P W)

      pub convert_good : length t ≤ k
          → {m' : Machine} {s' c₁ c₂ : List ℕ}
          → MovesHeap (bytes_filled 0 t) m m s s c c₁
          → MovesHeap (ended (length t)) m m' s s' c₁ c₂
          → length s' ≡ length s
          → DoesHeap (converted t) m s s' c c₂ (Ok m')
      convert_good h P E long =
          moves_heap (then_heap P E) (λ μ. ended_store (length t) (bytes_filled 0 t μ) ∙ filled_store t μ) long
          (λ e d l μ R. let T = target R in fits μ T.split t (omega (arith, h, size_is R)) T.made)

    -- ---- a string

    module _ (W : SomewhereThat (HasString 1) m s c) {n : ℕ} (N : CurrentSize 1 m s c n) (M : ItemSealed 0 m s c false) where
      source : {e d l : List ℕ} {μ : Floo.Machine} → Rep m s e d c l μ → Part 1 0 0 μ
      source R = part_too W.4 1 0 0 (omega (arith, deep)) (record { string = W.5; inside = omega arith }) R

      module _ {e d l : List ℕ} {μ : Floo.Machine} (R : Rep m s e d c l μ) where
        current_is : n ≡ length (current (bytes_of (object μ (item_id 1 μ))))
        current_is = N.says e d l μ R (item_id 1 μ) (source R).item

        string_converted : op μ ≡ converted (current (bytes_of (object μ (item_id 1 μ)))) μ
        unfolding stringval
        string_converted =
            let T = target R in
            let x : T.x ≡ string (item_id 1 μ) = sym (ap (λ (r : List Value). get_or r 1 null) T.split) ∙ (source R).item in
            cvs_converted μ T.split refl (target_open M R T refl) ∙ ap (λ (v : Value). converted (stringval μ v) μ) x

        copied_filled : bytes_copied 0 0 1 0 n μ ≡ bytes_filled 0 (current (bytes_of (object μ (item_id 1 μ)))) μ
        unfolding bytes_copied bytes_filled pasted
        copied_filled =
            let bs = bytes_of (object μ (item_id 0 μ)) in
            let from = bytes_of (object μ (item_id 1 μ)) in
            let t = current from in
            let here : 0 + n ≡ length t = omega (arith, current_is) in
            ap (λ (k : ℕ). change (item_id 0 μ) (text (take n from ++ drop k bs)) μ) here
            ∙ ap (λ (k : ℕ). change (item_id 0 μ) (text (take k from ++ drop (length t) bs)) μ) current_is
            ∙ ap (λ (u : List ℕ). change (item_id 0 μ) (text (u ++ drop (length t) bs)) μ) (take_current from)

      pub string_long : k < n → DoesHeap op m s s c c (Err RangeCheck)
      string_long h =
          fails_heap (λ e d l μ R. string_converted R ∙ too_long μ (target R).split (current (bytes_of (object μ (item_id 1 μ)))) (omega (arith, h, size_is R, current_is R)))

      pub string_copies : n ≤ k → SomewhereThat (Copies 0 0 1 0 n) m s c
      string_copies h =
          let R = W.4 in
          let y = tag_string (get_or W.3.stack 0 null) (sym (Y.says W.0 W.1 c W.2 W.3 R)) in
          let a : HasString 0 W.3 = record { id = y.0; item = y.1 } in
          let b = W.5 in
          let few = current_few (bytes_of (object W.3 b.id)) in (
            W.0,
            W.1,
            W.2,
            W.3,
            R,
            (
              record { string = a; inside = omega (arith, h, K.says W.0 W.1 W.2 W.3 R a.id a.item) },
              record { string = b; inside = omega (arith, few, N.says W.0 W.1 W.2 W.3 R b.id b.item) },
            ),
          )

      pub string_left : {c₁ : List ℕ} → MovesHeap (bytes_copied 0 0 1 0 n) m m s s c c₁ → SomewhereThat (HasString 0) m s c₁
      string_left P = has_string (elsewhere P (somewhere W))

      pub string_good : n ≤ k
          → {m' : Machine} {s' c₁ c₂ : List ℕ}
          → MovesHeap (bytes_copied 0 0 1 0 n) m m s s c c₁
          → MovesHeap (ended n) m m' s s' c₁ c₂
          → length s' ≡ length s
          → DoesHeap op m s s' c c₂ (Ok m')
      string_good h P E long =
          moves_heap (then_heap P E) (λ μ. ended_store n (bytes_copied 0 0 1 0 n μ) ∙ copied_store n μ) long
          (λ e d l μ R.
          let T = target R in
          let t = current (bytes_of (object μ (item_id 1 μ))) in
          string_converted R
          ∙ fits μ T.split t (omega (arith, h, size_is R, current_is R)) T.made
          ∙ ap (λ (k : ℕ). ok (ended k (bytes_filled 0 t μ))) (sym (current_is R))
          ∙ ap (λ (σ : Floo.Machine). ok (ended n σ)) (sym (copied_filled R)))

-- ---- cvs

-- What holds with any dictionary holds with this one; operators that agree on the machines that the words stand for have the same promise.
alike : {f g : Floo.Machine → Result Floo.Machine} {m : Machine} {s s' d c c' : List ℕ} (r : Did)
    → ((e l : List ℕ) (μ : Floo.Machine) → Rep m s e d c l μ → f μ ≡ g μ)
    → DoesHeap f m s s' c c' r
    → DoesNamedHeap g m s s' d c c' r
unfolding fitted
alike {s = s} {s' = s'} {d = d} {c = c} {c' = c'} r h D =
    record {
      does = λ e l μ R.
          subst (λ q. Answer (λ m'. Rep m' s' e d c' l) ((s' ≡ s) × (c' ≡ c)) r (q >>= room_for (lent s e d c l) μ)) (h e l μ R) (D.does e d l μ R);
    }

pub cvs_string : {m : Machine} {s s' d c c' : List ℕ} (r : Did) → DoesHeap op m s s' c c' r → DoesNamedHeap op m s s' d c c' r
cvs_string r D = alike r (λ e l μ R. refl) D

pub cvs_tagged : {m : Machine} {s : List ℕ} {t : ℕ} → ItemTag 0 m s t → t ≡ 8 → ItemTag 0 m s 8
cvs_tagged {m} {s} Y q = subst (ItemTag 0 m s) q Y

pub cvs_plain : {m : Machine} {s c : List ℕ} {y : Bool} → ItemSealed 0 m s c y → y ≡ false → ItemSealed 0 m s c false
cvs_plain {m} {s} {c} M q = subst (ItemSealed 0 m s c) q M

module _ {m : Machine} {s d c : List ℕ} where
  pub cvs_short : m.depth < 2 → DoesNamedHeap op m s s d c c (Err StackUnderflow)
  cvs_short h = cvs_string (Err StackUnderflow) (fails_heap (λ e d l μ R. cvs_under μ (omega (arith, h, stack_depth R))))

  pub cvs_somewhere : SomewhereNamed m s d c → Somewhere m s c
  cvs_somewhere (e, l, μ, R) = (e, d, l, μ, R)

  module _ (deep : 2 ≤ m.depth) where
    pub cvs_mistyped : {t : ℕ} → ItemTag 0 m s t → (t ≡ 8 → ⊥) → DoesNamedHeap op m s s d c c (Err TypeCheck)
    cvs_mistyped Y n =
        cvs_string (Err TypeCheck)
        (fails_heap (λ e d l μ R.
        let x = two_items μ.stack (omega (arith, deep, stack_depth R)) in
        let first = ap (λ (r : List Value). tag_of (get_or r 0 null)) x.3 in
        cvs_type μ x.3 (tag_no_string x.0 (λ q. n (Y.says e d c l μ R ∙ first ∙ q)))))

    pub cvs_has_string : item_tag s (m.depth - 2) ≡ 8 → SomewhereNamed m s d c → SomewhereThat (HasString 1) m s c
    cvs_has_string q (e, l, μ, R) = (e, d, l, μ, R, string_tagged R 1 (m.depth - 2) (omega (arith, deep)) q)

    pub cvs_known : SomewhereNamed m s d c → Known d (item_tag s (m.depth - 2)) (item_payload s (m.depth - 2))
    cvs_known (e, l, μ, R) =
        record {
          small = m;
          stack = s;
          exec = e;
          heap = c;
          log = l;
          machine = μ;
          rep = R;
          value = get_or μ.stack 1 null;
          words = word_of R 1 (m.depth - 2) (omega (arith, deep));
        }

    module _ {t : ℕ} (Y : ItemTag 0 m s t) (eight : t ≡ 8) {y : Bool} (M : ItemSealed 0 m s c y) where
      pub cvs_locked : y ≡ true → DoesNamedHeap op m s s d c c (Err InvalidAccess)
      cvs_locked q =
          cvs_string (Err InvalidAccess)
          (fails_heap (λ e d l μ R.
          let T = target deep (cvs_tagged Y eight) R in
          cvs_refused μ T.split refl (target_locked M R T q)))

    pub cvs_good : {n : ℕ} {out : List ℕ}
        → ItemTag 0 m s 8
        → ItemSealed 0 m s c false
        → TextOf d (item_tag s (m.depth - 2)) (item_payload s (m.depth - 2)) out n
        → {s' c' : List ℕ} (r : Did)
        → DoesHeap (converted (take (n - 0) out)) m s s' c c' r
        → DoesNamedHeap op m s s' d c c' r
    cvs_good {n} {out} Y M T r D =
        alike r
        (λ e l μ R.
        let x = target deep Y R in
        let all : n - 0 ≡ n = omega arith in
        let second = ap (λ (r : List Value). get_or r 1 null) x.split in
        ap (λ k. converted (take k out) μ) all
        ∙ ap (λ (t : List ℕ). converted t μ) (T.says m s e c l μ R (get_or μ.stack 1 null) (word_of R 1 (m.depth - 2) (omega (arith, deep))))
        ∙ ap (λ (v : Value). converted (stringval μ v) μ) second
        ∙ sym (cvs_converted μ x.split refl (target_open M R x refl)))
        D
