-- The objects that the heap's words show are those that the definition holds: a header of the reading is a live header, and what the relation says
-- of live headers, the theorem of held objects and that of counts say it of the words.
-- Assumes nothing.
use mathlib.Core.Path.{◌≡◌, refl, sym, ap, ◌∙◌}
use mathlib.Core.List.{List}
use mathlib.Core.Logic.{⊎_elim, ◌↔◌}
use Prim.Native.Nat.{ℕ, zero, suc, ◌+◌, ◌-◌, ◌/◌, ◌%◌, ◌≤◌, ◌<◌}
use native.Mathlib.Omega.{arith}
use lib.ListN.{get_or}
use Rattle.semantics.specs.Values.{Value, Object, elements, text}
use Rattle.semantics.specs.Values as values
use Rattle.semantics.specs.Machine.{Machine, object}
use Rattle.heap.specs.Word.{word}
use Rattle.heap.specs.Chain.{Owner, live, on, Chains}
use Rattle.heap.specs.Shape.{Ghost, Full, NoOut, cells, first_object, first_unit, size_unit}
use Rattle.heap.specs.Reading.{◌∈◌, walk, headers, cells_of, count_of, kind_of, body_size}
use Rattle.heap.specs.declared.Lists.{Lists}
use Rattle.heap.proofs.Shapes.{inside, header_of}
use Rattle.heap.proofs.Walks.{first_cell}
use Rattle.heap.proofs.Parts as parts
use Rattle.heap.proofs.Readings.{Starts, header_live, live_header, exact}
use Rattle.store.specs.Rep.{Names, element, Rep, Sealed}
use Rattle.store.specs.Matching.{kind, body, place, Matches}
use Rattle.store.proofs.Standing.{stands_names, names_stands, names_cast}
use Rattle.store.proofs.Places.{zero_or_suc}
use Rattle.store.proofs.Sorts.{word_array, word_text}
use Rattle.store.proofs.Holding.{alive_held, held_alive}
use Rattle.store.proofs.Counting.{AsOften, roots_named, count_named}

cells_body : (o : Object) → values.cells o ≡ 1 + body o
unfolding values.cells body
cells_body (elements vs) = omega arith
cells_body (text bs) = refl

-- The cell q links from the first is at its rank.
rank_of_lem : {own : ℕ → Owner} {top size : ℕ → ℕ} (m : List ℕ) (K : Chains own top size (λ c. word m c 2)) (t n c q k : ℕ) → Starts m K t n c → n ≡ q + suc k → own (get_or (walk m n c) q 0) ≡ on t k
unfolding walk
rank_of_lem m K t zero c q k b e = absurd (omega arith)
rank_of_lem m K t (suc n) c zero k b e = b k (omega arith)
rank_of_lem m K t (suc n) c (suc q) k b e = rank_of_lem m K t n (word m c 2) q k (λ j x. K.link c t j (b (suc j) (ap suc x))) (omega arith)

module _ {keys : List (List ℕ)} {n : ℕ} {ρ : ℕ → ℕ} {g : Ghost} {p : ℕ} {s : Lists} {m : List ℕ} {roots : ℕ → Value} (μ : Machine)
    (F : Full g p 0 s m) (R : Rep keys n ρ g m μ.store roots) where
  kind_is : (h : ℕ) → g.own h ≡ live → kind_of m h ≡ kind (object μ (ρ h))
  unfolding kind_of kind object
  kind_is h l = ⊎_elim
      (λ w. let x = word_array R h l w in w ∙ sym (ap kind x.0))
      (λ w. let x = word_text R h l w.0 w.1 in w.1 ∙ ap suc (sym x.1) ∙ sym (ap kind x.0)) (zero_or_suc (word m h 0))

  body_is : (h : ℕ) → g.own h ≡ live → body_size m h ≡ body (object μ (ρ h))
  unfolding body_size body object
  body_is h l = (header_of F.heap.shape h l refl).0 ∙ ⊎_elim
      (λ w. let x = word_array R h l w in sym x.1 ∙ sym (ap body x.0))
      (λ w. let x = word_text R h l w.0 w.1 in x.2 ∙ ap (λ k. (k + 7) / 8) (sym x.1) ∙ sym (ap body x.0)) (zero_or_suc (word m h 0))

  place_own : (h q k : ℕ) → g.own h ≡ live → body_size m h ≡ q + suc k → g.own (place m h q) ≡ on (h + 2) k
  unfolding place cells_of body_size
  place_own h q k l e = rank_of_lem m F.heap.shape.chains (h + 2) (body_size m h) (word m h 3 % first_unit) q k
      (λ j x. first_cell F.heap.shape h j l (sym (header_of F.heap.shape h l refl).0 ∙ x)) e

  place_is : (h q i : ℕ) → g.own h ≡ live → kind_of m h ≡ 0 → q < body_size m h → g.own i ≡ live
      → ((first_object ≤ word m (place m h q) 0) × (word m (place m h q) 1 ≡ i)) ↔ Names (element μ.store (ρ h) q) (ρ i)
  unfolding kind_of body_size
  place_is h q i l w b li =
      let S = F.heap.shape in
      let c = place m h q in
      let k : ℕ = word m h 1 % size_unit - suc q in
      let o : g.own c ≡ on (h + 2) k = place_own h q k l (omega arith) in
      let st = R.value c h k q o l w (omega (arith, (header_of S h l refl).0)) in (
        λ x. names_cast _ (ap ρ x.1) (names_stands st x.0),
        λ v. let x = stands_names st v in
            let t = F.counts.body c h k o ∙ parts.object _ _ _ w x.0 in
            (x.0, R.one _ i (F.counts.aimed c _ (omega (arith, (inside S c o refl).0, F.counts.places.0)) t) li x.1),
      )

module _ {keys : List (List ℕ)} {n : ℕ} {ρ : ℕ → ℕ} {g : Ghost} {p : ℕ} {s : Lists} {m : List ℕ} {roots : ℕ → Value} (μ : Machine)
    (F : Full g p 0 s m) (z : s.dead ≡ 0) (whole : NoOut g) (R : Rep keys n ρ g m μ.store roots) (near : p ≡ cells m + n) (same : AsOften μ n roots) (M : Sealed ρ g m μ.store μ.read_only) where
  pub matches : Matches ρ μ s m
  unfolding count_of
  matches =
      let S = F.heap.shape in
      let C = F.counts in
      let none = F.heap.dead ∙ z in
      let named = roots_named μ R same in
      let alive : (h : ℕ) → h ∈ headers s m → g.own h ≡ live = header_live F z whole in record {
        holds = λ h i. alive_held μ S C R none named (ρ h) (h, alive h i, refl);
        shown = λ i t. let L = held_alive μ S C R none named i t in (L.0, live_header F z whole L.0 L.1, L.2);
        one = λ h i a b. R.one h i (alive h a) (alive i b);
        kinds = λ h i. kind_is μ F R h (alive h i);
        lengths = λ h i. body_is μ F R h (alive h i);
        marks = λ h i. M.marks h (alive h i);
        places = λ h q i a w b c. place_is μ F R h q i (alive h a) w b (alive i c);
        takes = λ h i. (exact F z whole).sized h i ∙ ap (λ k. 1 + k) (body_is μ F R h (alive h i)) ∙ sym (cells_body (object μ (ρ h)));
        counts = λ h i. count_named μ S C R near none same h (alive h i);
      }
