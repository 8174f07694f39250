-- The loop of `spread`: after q turns the first q elements of the array on top are below it, the first one lowest.
-- Assumes nothing.
use mathlib.Core.Path.{◌≡◌, refl, sym, ap, ◌∙◌, subst}
use mathlib.Core.List.{List, [], ◌∷◌, ◌++◌, reverse, reverse-append}
use Prim.Native.Nat.{ℕ, suc, ◌+◌, ◌-◌, ◌≤◌, ◌<◌}
use native.Mathlib.Omega.{arith}
use lib.ListN.{length, get_or, take, drop}
use lib.Seq.{take-suc}
use Rattle.semantics.specs.Values.{Value, null}
use Rattle.semantics.specs.Machine as Floo
use Rattle.semantics.specs.Machine.{with_stack, push, object, elements_of}
use Rattle.machine.specs.Rep.{Rep, MovesStack, MovesHeap}
use Rattle.machine.specs.Moves.{swapped}
use Rattle.machine.specs.Operands.{a_null, Pushes}
use Rattle.machine.specs.declared.Machine.{Machine}
use Rattle.machine.proofs.Outcomes.{stack_depth, then_heap, stack_heap}
use Rattle.machine.proofs.Pops.{pushes_heap}
use Rattle.elements.specs.Elements.{item_id, HasArray, HasElement, SomewhereThat, element_copied}
use Rattle.elements.proofs.Arrays.{item_id_lem, array_too, size_read}
use Rattle.array_operators.specs.Items.{HasFirst, spread_out}
use Rattle.array_operators.proofs.Named.{front1}

-- ---- the same array in each machine

pub first_too : {m : Machine} {s e d c l : List ℕ} {μ : Floo.Machine} {i n : ℕ}
    → Rep m s e d c l μ
    → i < m.depth
    → HasFirst i n μ
    → {e' d' l' : List ℕ} {μ' : Floo.Machine}
    → Rep m s e' d' c l' μ'
    → HasFirst i n μ'
first_too {m} {i = i} R deep b R' =
    let k = m.depth - suc i in
    let h : m.depth ≡ k + suc i = omega (arith, deep) in
    let a = array_too R i k h R' b.array in
    record { array = a; inside = omega (arith, b.inside, size_read R i k h b.array.item, size_read R' i k h a.item) }

-- ---- on machines

module _ (μ : Floo.Machine) where
  spread_none : 1 ≤ length μ.stack → spread_out 0 μ ≡ μ
  unfolding spread_out with_stack
  spread_none h = ap (λ (l : List Value). with_stack l μ) (sym (front1 μ.stack h))

  abbrev turned : ℕ → Floo.Machine
  turned q = swapped 0 1 (push null (spread_out q μ))

  one_more : (vs rest : List Value) (q : ℕ) → q < length vs → get_or vs q null ∷ (reverse (take q vs) ++ rest) ≡ reverse (take (q + 1) vs) ++ rest
  one_more vs rest q h =
      let next : q + 1 ≡ suc q = omega arith in
      sym (ap (λ k. reverse (take k vs) ++ rest) next
      ∙ ap (λ (l : List Value). reverse l ++ rest) (take-suc vs q null h)
      ∙ ap (λ (l : List Value). l ++ rest) (reverse-append (take q vs) (get_or vs q null ∷ [])))

  spread_more : (q : ℕ) → q < length (elements_of (object μ (item_id 0 μ))) → element_copied 0 q 1 (turned q) ≡ spread_out (q + 1) μ
  unfolding spread_out element_copied swapped push with_stack item_id object
  spread_more q h =
      ap (λ (l : List Value). with_stack (get_or μ.stack 0 null ∷ l) μ)
      (one_more (elements_of (object μ (item_id 0 μ))) (drop 1 μ.stack) q h)

  turned_element : (q : ℕ) (a : HasArray 0 μ) → q < length (elements_of (object μ a.id)) → HasElement 0 q (turned q)
  unfolding spread_out swapped push with_stack object
  turned_element q a h = record { array = record { executable = a.executable; id = a.id; item = a.item }; inside = h }

-- ---- the loop

pub record Spread (n : ℕ) (m₀ : Machine) (s₀ c₀ : List ℕ) (m : Machine) (s c : List ℕ) (q : ℕ) : Type 0 where
  pub few : q ≤ n
  pub deep : m.depth ≡ m₀.depth + q
  pub long : length s ≡ length s₀
  pub cells_long : length c ≡ length c₀
  pub moves : MovesHeap (spread_out q) m₀ m s₀ s c₀ c

module _ {n : ℕ} {m₀ : Machine} {s₀ c₀ : List ℕ} (full : 1 ≤ m₀.depth) (W : SomewhereThat (HasFirst 0 n) m₀ s₀ c₀) where
  pub begin : Spread n m₀ s₀ c₀ m₀ s₀ c₀ 0
  begin =
      record {
        few = omega arith;
        deep = omega arith;
        long = refl;
        cells_long = refl;
        moves = record { moves = λ e d l μ R. subst (Rep m₀ s₀ e d c₀ l) (sym (spread_none μ (omega (arith, full, stack_depth R)))) R };
      }

  module _ {m : Machine} {s c : List ℕ} {q : ℕ} (S : Spread n m₀ s₀ c₀ m s c q) (h : q < n)
      {m₁ m₂ : Machine} {s₁ s₂ : List ℕ} (P : Pushes 0 0 m m₁ s s₁) (X : MovesStack (swapped 0 1) m₁ m₂ s₁ s₂) where
    shifted : MovesHeap (λ μ. turned μ q) m₀ m₂ s₀ s₂ c₀ c
    shifted = then_heap (then_heap S.moves (pushes_heap a_null P)) (stack_heap X)

    pub next_element : SomewhereThat (HasElement 0 q) m₂ s₂ c
    next_element =
        let e = W.0 in
        let d = W.1 in
        let l = W.2 in
        let μ = W.3 in
        (e, d, l, turned μ q, shifted.moves e d l μ W.4, turned_element μ q W.5.array (omega (arith, h, W.5.inside)))

    pub again : {m₃ : Machine} {s₃ c₃ : List ℕ}
        → MovesHeap (element_copied 0 q 1) m₂ m₃ s₂ s₃ c c₃
        → m₁.depth ≡ m.depth + 1
        → m₂.depth ≡ m₁.depth
        → m₃.depth ≡ m₂.depth
        → length s₃ ≡ length s
        → length c₃ ≡ length c
        → Spread n m₀ s₀ c₀ m₃ s₃ c₃ (q + 1)
    again {m₃} {s₃} {c₃} E one two three long cells_long =
        record {
          few = omega arith;
          deep = omega (arith, S.deep);
          long = long ∙ S.long;
          cells_long = cells_long ∙ S.cells_long;
          moves = record {
            moves = λ e d l μ R.
                let b = first_too W.4 full W.5 R in
                let inside : q < length (elements_of (object μ (item_id 0 μ))) = rw (item_id_lem b.array) (omega (arith, h, b.inside)) in
                subst (Rep m₃ s₃ e d c₃ l) (spread_more μ q inside) ((then_heap shifted E).moves e d l μ R);
          };
        }

pub finish : {n : ℕ} {m₀ : Machine} {s₀ c₀ : List ℕ} {m : Machine} {s c : List ℕ} {q : ℕ}
    → Spread n m₀ s₀ c₀ m s c q
    → n ≤ q
    → MovesHeap (spread_out n) m₀ m s₀ s c₀ c
finish {n} {m₀} {s₀} {c₀} {m} {s} {c} {q} S h =
    let same : q ≡ n = omega (arith, S.few) in
    subst (λ k. MovesHeap (spread_out k) m₀ m s₀ s c₀ c) same S.moves
