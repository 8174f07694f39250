-- What a slot names changes, or what an element names: the heap's promises say what comes of the counts, and the other slots stay.
-- Assumes nothing.
use Prim.Native.Nat.{ℕ, suc, ◌+◌, ◌-◌, ◌/◌, ◌≤◌, ◌<◌}
use mathlib.Core.Path.{◌≡◌, refl, sym, ap, ◌∙◌}
use mathlib.Core.List.{List}
use mathlib.Core.Logic.{⊎_elim}
use lib.ListN.{length, get_or, set, length-set}
use lib.Seq.{get_or-set_same, get_or-set_other}
use native.Mathlib.Omega.{arith}
use Rattle.heap.specs.Word.{word}
use Rattle.heap.specs.Upd.{upd}
use Rattle.heap.specs.Chain.{live, on}
use Rattle.heap.specs.Shape.{Ghost, Shape, Full, NoOut, Empty, cells, target, first_object}
use Rattle.heap.specs.Gone.{Goes, Sound}
use Rattle.heap.specs.Grow.{Made}
use Rattle.heap.specs.Assign.{aimed, Alives, Assigned, Risen}
use Rattle.heap.specs.declared.Lists.{Lists}
use Rattle.heap.proofs.Upds.{upd_at, upd_other, same?}
use Rattle.heap.proofs.Shapes.{inside, list_le}
use Rattle.heap.proofs.Since.{begins}
use Rattle.heap.proofs.Parts as parts
use Rattle.heap.proofs.Roots.{root_swap}
use Rattle.heap_counts.specs.Slots.{Slots, Found}
use Rattle.std.specs.Prelude.{Option, Some}

-- ---- the parts

cells_same : {x y : ℕ} → x ≡ y → x / 4 ≡ y / 4
cells_same e = ap (λ z. z / 4) e

full_at : {g : Ghost} {p q hand hand' : ℕ} {s : Lists} {m : List ℕ} → p ≡ q → hand ≡ hand' → Full g p hand s m → Full g q hand' s m
full_at e f F = rw (sym e, sym f) F

built : {g : Ghost} {p : ℕ} {s : Lists} {slots m : List ℕ} → Full g p 0 s m → p ≡ cells m + length slots → NoOut g → s.dead ≡ 0
    → ((k : ℕ) → k < length slots → g.aim (cells m + k) ≡ get_or slots k 0) → Slots s slots m
built {g} F q n d a = record { ghost = g; full = full_at q refl F; no_out = n; clean = d; named = a }

-- slot k names v, where it is known what the others name
slot_named : (aim : ℕ → ℕ) (slots : List ℕ) (n k v : ℕ) → k < length slots → ((j : ℕ) → j < length slots → aim (n + j) ≡ get_or slots j 0)
    → (j : ℕ) → j < length (set slots k v) → upd aim (n + k) v (n + j) ≡ get_or (set slots k v) j 0
slot_named aim slots n k v l named j b = ⊎_elim
    (λ (e : j ≡ k). upd_at aim (n + k) v (n + j) (ap (λ z. n + z) e) ∙ sym (get_or-set_same slots k v 0 l) ∙ ap (λ z. get_or (set slots k v) z 0) (sym e))
    (λ (e : j ≡ k → ⊥). upd_other aim (n + k) v (n + j) (λ z. e (omega arith)) ∙ named j (omega (arith, length-set slots k v)) ∙ sym (get_or-set_other slots k j v 0 e))
    (same? j k)

-- an empty slot takes what is in hand
placed : {g : Ghost} {p hand : ℕ} {s : Lists} {m : List ℕ} (slots : List ℕ) (k : ℕ) → Full g p hand s m → p ≡ cells m + length slots → NoOut g → s.dead ≡ 0
    → ((j : ℕ) → j < length slots → g.aim (cells m + j) ≡ get_or slots j 0) → k < length slots → get_or slots k 0 ≡ 0 → Slots s (set slots k hand) m
placed {g} {hand = hand} {m = m} slots k F q n d named l z =
    built (full_at refl (named k l ∙ z) (root_swap (cells m + k) F (omega arith) (omega arith))) (q ∙ ap (λ t. cells m + t) (sym (length-set slots k hand))) n d
    (slot_named g.aim slots (cells m) k hand l named)

-- slot n is emptied after those below it
pub emptied_below : (slots : List ℕ) (n : ℕ) → n < length slots → ((k : ℕ) → k < n → get_or slots k 0 ≡ 0) → (k : ℕ) → k < n + 1 → get_or (set slots n 0) k 0 ≡ 0
emptied_below slots n l z k b = ⊎_elim
    (λ (e : k ≡ n). ap (λ t. get_or (set slots n 0) t 0) e ∙ get_or-set_same slots n 0 0 l)
    (λ (e : k ≡ n → ⊥). get_or-set_other slots n k 0 0 e ∙ z k (omega arith))
    (same? k n)

-- a heap with no object
pub starts : {s : Lists} (slots m : List ℕ) → Empty s → cells m ≤ 32768 → cells m + length slots ≤ 65536 → ((k : ℕ) → k < length slots → get_or slots k 0 ≡ 0) → Slots s slots m
starts slots m E few short z = let R = E m (cells m + length slots) few (omega arith) short in
    built R.0 refl R.1 (sym R.0.heap.dead) (λ k l. sym (z k l))

-- ---- what is known of slots

module _ {s : Lists} {slots m : List ℕ} (D : Slots s slots m) where
  pub edge_in : s.edge ≤ cells m
  edge_in = D.full.heap.shape.within

  pub listed_in : s.listed ≤ cells m
  listed_in = rw D.full.heap.listed at (list_le D.full.heap.shape 0)

  pub few : cells m ≤ 32768
  few = D.full.heap.shape.few

  -- what a slot names lives
  pub slot_lives : (k : ℕ) → k < length slots → 1 ≤ get_or slots k 0 → D.ghost.own (get_or slots k 0 - 1) ≡ live
  slot_lives k l q = D.full.counts.aimed (cells m + k) (get_or slots k 0 - 1) (omega arith) (D.named k l ∙ omega arith)

  -- what an element names lives
  pub element_lives : {tag pay : ℕ} (c a k : ℕ) → D.ghost.own c ≡ on (a + 2) k → word m a 0 ≡ 0 → tag ≡ word m c 0 → pay ≡ word m c 1 → Alives D.ghost tag pay
  element_lives {tag} {pay} c a k oc w e f t = let C = D.full.counts in
      C.aimed c pay (omega (arith, (inside D.full.heap.shape c oc refl).0)) (C.body c a k oc ∙ parts.object (word m a 0) (word m c 0) (word m c 1) w (rw e at t) ∙ ap suc (sym f))

  pub found : {c : ℕ} (r : Option ℕ) → Found s slots m r → r ≡ Some c → (a : ℕ) × (k : ℕ) × (D.ghost.own c ≡ on (a + 2) k) × (D.ghost.own a ≡ live) × (word m a 0 ≡ 0)
  found {c} r k e = let f : Found s slots m (Some c) = rw e at k in f D

  -- element i of an array of more elements
  pub element_at : (h i c : ℕ) → D.ghost.own h ≡ live → word m h 0 ≡ 0 → i < D.ghost.size (h + 2)
      → ((g : Ghost) (e : ℕ) → Shape g e m → g.own h ≡ live → (k : ℕ) → g.size (h + 2) ≡ i + suc k → g.own c ≡ on (h + 2) k)
      → (a : ℕ) × (k : ℕ) × (D.ghost.own c ≡ on (a + 2) k) × (D.ghost.own a ≡ live) × (word m a 0 ≡ 0)
  element_at h i c l w b E = (h, D.ghost.size (h + 2) - suc i, E D.ghost _ D.full.heap.shape l _ (omega arith), l, w)

  -- ---- changes

  pub made : {kind n h v : ℕ} {r : Lists} {m' : List ℕ} (k : ℕ) → k < length slots → get_or slots k 0 ≡ 0 → v ≡ suc h → Made kind n h s m r m' → r.dead ≡ s.dead → Slots r (set slots k v) m'
  made k l z w M d = let Z = M _ _ D.full in let e = cells_same Z.2.long in
      placed slots k (full_at refl (sym w) Z.1) (ap (λ t. t + length slots) (sym e)) (Z.7 D.no_out) (d ∙ D.clean)
      (λ j b. ap (λ t. Z.0.aim (t + j)) e ∙ Z.2.aims (cells m + j) ∙ D.named j b) l z

  pub shared : {m' : List ℕ} (a k : ℕ) → a < length slots → 1 ≤ get_or slots a 0 → k < length slots → get_or slots k 0 ≡ 0 → length m' ≡ length m
      → Risen first_object (get_or slots a 0 - 1) m m' → Slots s (set slots k (get_or slots a 0)) m'
  shared a k la q l z long R = let o = get_or slots a 0 - 1 in let w : suc o ≡ get_or slots a 0 = omega arith in let e = cells_same long in
      placed slots k (full_at refl (parts.object 0 first_object o refl (omega arith) ∙ w) (R _ _ _ D.full (λ _. slot_lives a la q))) (ap (λ t. t + length slots) (sym e)) D.no_out D.clean
      (λ j b. ap (λ t. D.ghost.aim (t + j)) e ∙ D.named j b) l z

  -- what slot k names is in hand
  emptied : {o : ℕ} (k : ℕ) → k < length slots → get_or slots k 0 ≡ suc o → Full (aimed D.ghost (cells m + k) 0) (cells m + length slots) (suc o) s m
  emptied k l q = full_at refl (D.named k l ∙ q) (root_swap (cells m + k) D.full (omega arith) (omega arith))

  pub releases : {o : ℕ} (k : ℕ) → k < length slots → get_or slots k 0 ≡ suc o → Sound (suc o) s m
  releases k l q = (_, _, emptied k l q)

  pub released : {o : ℕ} {r : Lists} {m' : List ℕ} (k : ℕ) → k < length slots → get_or slots k 0 ≡ suc o → r.dead ≡ 0 → Goes (suc o) s m r m' → Slots r (set slots k 0) m'
  released k l q d G = let F = emptied k l q in let Z = G _ _ F in
      let T = Z.2 _ m (begins _ _ _ _ m F.heap.shape F.counts (F.heap.dead ∙ D.clean)) in
      let e = cells_same T.long in
      built Z.1 (ap (λ t. cells m + t) (sym (length-set slots k 0)) ∙ ap (λ t. t + length (set slots k 0)) (sym e)) (Z.3 D.no_out) d
      (λ j b. ap (λ t. Z.0.aim (t + j)) e ∙ T.roots (cells m + j) (omega arith) ∙ slot_named D.ghost.aim slots (cells m) k 0 l D.named j b)

  pub assigned : {c tag pay : ℕ} {r : Lists} {m' : List ℕ} (a k : ℕ) → D.ghost.own c ≡ on (a + 2) k → D.ghost.own a ≡ live → word m a 0 ≡ 0 → Alives D.ghost tag pay
      → r.dead ≡ 0 → Assigned c tag pay s m r m' → Slots r slots m'
  assigned {c} {tag} {pay} {m' = m'} a k oc la w al d A = let Z = A _ _ a k D.full oc la w al in let F = Z.2 in
      let T = Z.5 _ Z.0 (begins _ _ _ _ Z.0 F.heap.shape F.counts (F.heap.dead ∙ D.clean)) in
      let e₁ = cells_same Z.3.size in
      let e : cells m' ≡ cells m = cells_same T.long ∙ e₁ in
      built Z.4 (ap (λ t. t + length slots) (sym e)) (Z.6 D.no_out) d
      (λ j b. ap (λ t. Z.1.aim (t + j)) e ∙ T.roots (cells m + j) (omega arith)
      ∙ upd_other D.ghost.aim c (target 0 tag pay) (cells m + j) (λ z. omega (arith, (inside D.full.heap.shape c oc refl).0)) ∙ D.named j b)
