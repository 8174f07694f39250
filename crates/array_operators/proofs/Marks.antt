-- ]: the search for the topmost mark is the definition's, and the array that takes the mark's place holds the items above it, the lowest first.
-- Assumes nothing.
use Rattle.std.specs.Prelude.{Ok, Err, Some, None}
use mathlib.Core.Path.{◌≡◌, refl, sym, ap, ◌∙◌, subst}
use mathlib.Core.Bool.{true, false}
use mathlib.Core.List.{List, [], ◌∷◌, ◌++◌, reverse, reverse-cons, append-nil}
use Prim.Native.Nat.{ℕ, zero, suc, ◌+◌, ◌-◌, ◌/◌, ◌≤◌, ◌<◌}
use native.Mathlib.Omega.{arith}
use lib.ListN.{length, get_or, take, drop, set, replicate, length-replicate, length-reverse, length-drop, drop_of_length-le}
use lib.Seq.{take-suc, take_all, take-set-le, append_snoc, set_split, drop_at, length-take-le, get_or-set_same, get_or-append_seam, set-append_seam}
use Rattle.semantics.specs.Text.{bytes}
use Rattle.semantics.specs.Values.{Value, null, mark, array, Object, elements, ok, fault, ◌>>=◌, cells}
use Rattle.semantics.specs.Machine as Floo
use Rattle.semantics.specs.Machine.{with_stack, with_store, push, object, elements_of, make, made, change}
use Rattle.semantics.specs.Held.{sum_of}
use Rattle.semantics.specs.Operators.{perform}
use Rattle.semantics.specs.ObjectOperators.{is_mark, above_mark, push_new}
use Rattle.semantics.specs.ListLaws.{All, nil, cons, all_append}
use Rattle.semantics.specs.declared.Error.TheVariants.{UnmatchedMark, VmError}
use Rattle.machine.specs.Rep.{Rep, Somewhere, MovesHeap}
use Rattle.machine.specs.Room.{DoesHeap}
use Rattle.machine.specs.declared.Machine.{Machine}
use Rattle.machine.proofs.Outcomes.{stack_depth, fails_heap, then_heap}
use Rattle.elements.specs.Elements.{named, item_id, free_cells, HasPlain, SomewhereThat, ItemTag, array_made}
use Rattle.elements.proofs.Vacancy.{makes_heap, full_heap, push_makes}
use Rattle.array_operators.specs.Items.{HasFirst, MarkAbove, popped, items_put}
use Rattle.array_operators.proofs.Named.{close_is_lem}
use Rattle.array_operators.proofs.Objects.{tag_mark, tag_no_mark}

-- ---- the definition's search

abbrev Unmarked : List Value → Type 0
Unmarked l = All (λ v. is_mark v ≡ false) l

found : (vs l : List Value) (n : ℕ) → n < length l → Unmarked (take n l) → get_or l n null ≡ mark → above_mark vs l ≡ ok (reverse (take n l) ++ vs, drop (suc n) l)
unfolding above_mark is_mark
found vs [] n h a e = absurd (omega arith)
found vs (v ∷ l) zero h a e = ap (λ (x : Value). elim (is_mark x) [ true ↦ ok (vs, l) | false ↦ above_mark (v ∷ vs) l ]) e
found vs (v ∷ l) (suc n) h (cons p ps) e =
    ap (λ b. elim b [ true ↦ ok (vs, l) | false ↦ above_mark (v ∷ vs) l ]) p
    ∙ found (v ∷ vs) l n (omega arith) ps e
    ∙ sym (ap (λ (z : List Value). ok (z, drop (suc n) l)) (ap (λ (t : List Value). t ++ vs) (reverse-cons v (take n l)) ∙ append_snoc (reverse (take n l)) v vs))

not_found : (vs l : List Value) → Unmarked l → above_mark vs l ≡ fault UnmatchedMark
unfolding above_mark is_mark
not_found vs [] a = refl
not_found vs (v ∷ l) (cons p ps) = ap (λ b. elim b [ true ↦ ok (vs, l) | false ↦ above_mark (v ∷ vs) l ]) p ∙ not_found (v ∷ vs) l ps

-- ---- the loop of `above_mark`

pub record Searched (m : Machine) (s : List ℕ) (n : ℕ) : Type 0 where
  pub says : (e d c l : List ℕ) (μ : Floo.Machine) → Rep m s e d c l μ → Unmarked (take n μ.stack)

pub begin : (m : Machine) (s : List ℕ) → Searched m s 0
begin m s = record { says = λ e d c l μ R. nil }

module _ {m : Machine} {s : List ℕ} {n : ℕ} (S : Searched m s n) where
  pub ends : m.depth ≤ n → MarkAbove m s None
  ends h = record { says = λ e d c l μ R. subst Unmarked (take_all n μ.stack (omega (arith, h, stack_depth R))) (S.says e d c l μ R) }

  module _ (h : n < m.depth) {t : ℕ} (T : ItemTag n m s t) where
    pub stops : t ≡ 3 → MarkAbove m s (Some n)
    stops q = record { says = λ e d c l μ R. (S.says e d c l μ R, tag_mark (get_or μ.stack n null) (sym (T.says e d c l μ R) ∙ q)) }

    pub again : (t ≡ 3 → ⊥) → Searched m s (n + 1)
    again q =
        record {
          says = λ e d c l μ R.
              let next : suc n ≡ n + 1 = omega arith in
              let unmarked = tag_no_mark (get_or μ.stack n null) (λ z. q (T.says e d c l μ R ∙ z)) in
              subst Unmarked (sym (take-suc μ.stack n null (omega (arith, h, stack_depth R))) ∙ ap (λ k. take k μ.stack) next)
              (all_append (S.says e d c l μ R) (cons unmarked nil));
        }

-- ---- the operator

-- The elements of the new array.
abbrev above : ℕ → Floo.Machine → List Value
above n μ = reverse (take n μ.stack)

above_long : (n : ℕ) (μ : Floo.Machine) → n < length μ.stack → length (above n μ) ≡ n
above_long n μ h = length-reverse (take n μ.stack) ∙ length-take-le n μ.stack (omega arith)

pub close_unmatched : {m : Machine} {s c : List ℕ} → MarkAbove m s None → DoesHeap (perform (bytes "]")) m s s c c (Err UnmatchedMark)
unfolding ◌>>=◌
close_unmatched {c} M =
    fails_heap (λ e d l μ R.
    close_is_lem μ ∙ ap (λ r. r >>= λ p. ok (push_new (array false) (elements p.0) (with_stack p.1 μ))) (not_found [] μ.stack (M.says e d c l μ R)))

module _ {m : Machine} {s c : List ℕ} {n : ℕ} (M : MarkAbove m s (Some n)) where
  module _ (h : n < m.depth) where
    gives : (e d l : List ℕ) (μ : Floo.Machine) → Rep m s e d c l μ → perform (bytes "]") μ ≡ ok (push_new (array false) (elements (above n μ)) (with_stack (drop (suc n) μ.stack) μ))
    unfolding ◌>>=◌
    gives e d l μ R =
        let t = M.says e d c l μ R in
        close_is_lem μ
        ∙ ap (λ r. r >>= λ p. ok (push_new (array false) (elements p.0) (with_stack p.1 μ))) (found [] μ.stack n (omega (arith, h, stack_depth R)) t.0 t.1)
        ∙ ap (λ (z : List Value). ok (push_new (array false) (elements z) (with_stack (drop (suc n) μ.stack) μ))) (append-nil (above n μ))

    pub close_full : free_cells m c < n + 1 → DoesHeap (perform (bytes "]")) m s s c c (Err VmError)
    unfolding sum_of cells push_new push with_stack with_store make
    close_full many =
        full_heap (λ e d l μ R.
        let rest = drop (suc n) μ.stack in
        let short : length rest + 1 ≤ length s / 2 = omega (arith, length-drop (suc n) μ.stack, stack_depth R, R.rooms.stack_fits, h) in (
          push_new (array false) (elements (above n μ)) (with_stack rest μ),
          elements (above n μ) ∷ [],
          gives e d l μ R,
          push_makes (array false) (elements (above n μ)) rest μ,
          short_after rest μ short,
          omega (arith, many, above_long n μ (omega (arith, h, stack_depth R))),
        ))
      where
        short_after : (rest : List Value) (μ : Floo.Machine) → length rest + 1 ≤ length s / 2 → length (push_new (array false) (elements (above n μ)) (with_stack rest μ)).stack ≤ length s / 2
        short_after rest μ h = omega arith

    -- The mark names no object.
    pub plain_mark : Somewhere m s c → SomewhereThat (HasPlain n) m s c
    plain_mark (e, d, l, μ, R) = (e, d, l, μ, R, rw ((M.says e d c l μ R).1) (record { none = λ t. t }))

-- ---- the array that takes item n's place

module _ (n : ℕ) (μ : Floo.Machine) (h : n < length μ.stack) where
  made_id : item_id n (array_made n n μ) ≡ made μ
  unfolding array_made item_id named with_stack
  made_id = ap named (get_or-set_same μ.stack n (array false (made μ)) null h)

  made_object : object (array_made n n μ) (made μ) ≡ elements (replicate n null)
  unfolding array_made object with_stack make with_store made
  made_object = get_or-append_seam μ.store (elements (replicate n null)) [] (elements [])

  made_first : HasFirst n n (array_made n n μ)
  unfolding array_made with_stack elements_of
  made_first =
      record {
        array = record { executable = false; id = made μ; item = get_or-set_same μ.stack n (array false (made μ)) null h };
        inside = omega (arith, ap (λ o. length (elements_of o)) made_object, length-replicate n null);
      }

  -- What is stored and dropped after it.
  closed_is : popped n (items_put n n n (array_made n n μ)) ≡ push_new (array false) (elements (reverse (take n μ.stack))) (with_stack (drop (suc n) μ.stack) μ)
  unfolding items_put popped array_made push_new push change make made with_stack with_store elements_of
  closed_is =
      let v = array false (made μ) in
      let τ = array_made n n μ in
      let nulls = replicate n null in
      ap (λ j. with_stack (drop n (change j (elements (reverse (take n (drop (n - n) τ.stack)) ++ drop n (elements_of (object τ j)))) τ).stack)
      (change j (elements (reverse (take n (drop (n - n) τ.stack)) ++ drop n (elements_of (object τ j)))) τ)) made_id
      ∙ ap (λ (o : Object). placed (reverse (take n (drop (n - n) τ.stack)) ++ drop n (elements_of o))) made_object
      ∙ ap (λ k. placed (reverse (take n (drop k τ.stack)) ++ drop n (elements_of (elements nulls)))) none
      ∙ ap (λ (t : List Value). placed (reverse (take n τ.stack) ++ t)) no_nulls
      ∙ ap placed (append-nil (reverse (take n τ.stack)))
      ∙ placed_is
    where
      none : n - n ≡ 0
      none = omega arith

      placed : List Value → Floo.Machine
      placed p = with_stack (drop n (change (made μ) (elements p) (array_made n n μ)).stack) (change (made μ) (elements p) (array_made n n μ))

      no_nulls : drop n (elements_of (elements (replicate n null))) ≡ []
      no_nulls = drop_of_length-le (replicate n null) {i = n} (omega (arith, length-replicate n null))

      placed_is : placed (reverse (take n (array_made n n μ).stack)) ≡ push_new (array false) (elements (reverse (take n μ.stack))) (with_stack (drop (suc n) μ.stack) μ)
      placed_is =
          let st = μ.stack in
          let v = array false (made μ) in
          let o = elements (replicate n null) in
          let front : drop n (set st n v) ≡ v ∷ drop (suc n) st =
          ap (drop n) (set_split st n v h) ∙ drop_at (take n st) (v ∷ drop (suc n) st) n (length-take-le n st (omega (arith, h))) in
          ap (λ (t : List Value). with_stack (drop n (set st n v)) (with_store (set (μ.store ++ (o ∷ [])) (length μ.store) (elements (reverse t))) μ)) (take-set-le n st n v (omega arith))
          ∙ ap (λ (z : List Object). with_stack (drop n (set st n v)) (with_store z μ)) (set-append_seam μ.store o [] (elements (above n μ)))
          ∙ ap (λ (t : List Value). with_stack t (with_store (μ.store ++ (elements (above n μ) ∷ [])) μ)) front

pub made_there : {m m₁ : Machine} {s s' c c₁ : List ℕ} {n : ℕ}
    → n < m.depth
    → MovesHeap (array_made n n) m m₁ s s' c c₁
    → Somewhere m s c
    → SomewhereThat (HasFirst n n) m₁ s' c₁
made_there {n = n} h A (e, d, l, μ, R) =
    (e, d, l, array_made n n μ, A.moves e d l μ R, made_first n μ (omega (arith, h, stack_depth R)))

pub close_done : {m : Machine} {s c : List ℕ} {n : ℕ} (M : MarkAbove m s (Some n)) (h : n < m.depth) {m₁ m₂ m₃ : Machine} {s' c₁ c₂ c₃ : List ℕ}
    → n + 1 ≤ free_cells m c
    → MovesHeap (array_made n n) m m₁ s s' c c₁
    → MovesHeap (items_put n n n) m₁ m₂ s' s' c₁ c₂
    → MovesHeap (popped n) m₂ m₃ s' s' c₂ c₃
    → length s' ≡ length s
    → DoesHeap (perform (bytes "]")) m s s' c c₃ (Ok m₃)
unfolding sum_of cells push_new push with_stack with_store make
close_done {n = n} M h room A P D long =
    makes_heap (then_heap (then_heap A P) D) long (λ e d l μ R.
    let is = closed_is n μ (omega (arith, h, stack_depth R)) in (
      elements (reverse (take n μ.stack)) ∷ [],
      gives M h e d l μ R ∙ sym (ap ok is),
      ap (λ (τ : Floo.Machine). τ.store) is,
      omega (arith, room, above_long n μ (omega (arith, h, stack_depth R))),
    ))
