-- An element of a live array is read, and becomes another value: the cells then stand for the store with that element set. By cases on the
-- cell that is stored to and the others; the release that follows changes nothing more.
-- Assumes nothing.
use mathlib.Core.Path.{◌≡◌, refl, sym, ap, ◌∙◌}
use mathlib.Core.List.{List, [], map}
use mathlib.Core.Logic.{⊎_elim}
use Prim.Native.Nat.{ℕ, suc, ◌+◌, ◌<◌}
use native.Mathlib.Omega.{arith}
use lib.ListN.{length, get_or, set, length-set}
use lib.Seq.{get_or-set_same, get_or-set_other}
use Rattle.semantics.specs.Values.{Value, null, Object, elements}
use Rattle.semantics.specs.Machine.{elements_of, bytes_of}
use Rattle.heap.specs.Word.{word}
use Rattle.heap.specs.Chain.{live, on}
use Rattle.heap.specs.Shape.{Ghost, Shape, Counts, Full, NoOut, cells, target}
use Rattle.heap.specs.Assign.{aimed, Stored, Assigned, Alives}
use Rattle.heap.specs.declared.Lists.{Lists}
use Rattle.heap.proofs.Upds.{upd_other, same?}
use Rattle.heap.proofs.Chains.{live_on, on_list, on_rank}
use Rattle.heap.proofs.Shapes.{inside}
use Rattle.heap.proofs.Parts as parts
use Rattle.heap.proofs.Since.{begins}
use Rattle.store.specs.Rep.{is_text, Stands, object_at, element, Rep}
use Rattle.store.proofs.Standing.{stands_names}
use Rattle.store.proofs.Places.{byte_same}
use Rattle.store.proofs.Sorts.{array_word}
use Rattle.store.proofs.Deaths.{element_alive, rep_since}
use Rattle.store.proofs.Changes.{rep_change}

-- ---- an element is read

-- What an array's cell names lives.
pub body_alives : {g : Ghost} {e p hand : ℕ} {m : List ℕ} → Shape g e m → Counts g p hand m → (c a k : ℕ) → g.own c ≡ on (a + 2) k → word m a 0 ≡ 0 → Alives g (word m c 0) (word m c 1)
body_alives {m = m} S C c a k oc w t = C.aimed c (word m c 1) (omega (arith, (inside S c oc refl).0, C.places.0)) (C.body c a k oc ∙ parts.object _ _ _ w t)

-- The words of the cell q from the front stand for element q.
pub element_read : {keys : List (List ℕ)} {n : ℕ} {ρ : ℕ → ℕ} {g : Ghost} {m : List ℕ} {store : List Object} {roots : ℕ → Value} → Rep keys n ρ g m store roots
    → (c a k q : ℕ) (vs : List Value) → g.own c ≡ on (a + 2) k → g.own a ≡ live → object_at store (ρ a) ≡ elements vs → g.size (a + 2) ≡ q + suc k
    → Stands keys (map is_text store) ρ (get_or vs q null) (word m c 0) (word m c 1)
unfolding elements_of
element_read R c a k q vs oc la ob z = rw ob at (R.value c a k q oc la (array_word R a la ob) z)

-- ---- an element is set

-- Cell c is at rank k of the body of the live header a, element q from the front.
module _ {keys : List (List ℕ)} {n : ℕ} {ρ : ℕ → ℕ} {g : Ghost} {e : ℕ} {m : List ℕ} {store : List Object} {roots : ℕ → Value} (S : Shape g e m) (R : Rep keys n ρ g m store roots)
    (c a k q : ℕ) (oc : g.own c ≡ on (a + 2) k) (la : g.own a ≡ live) (z : g.size (a + 2) ≡ q + suc k) where
  -- It is no header, and no root place.
  pub no_head : (h : ℕ) → g.own h ≡ live → h ≡ c → ⊥
  no_head h l r = live_on (sym l ∙ ap g.own r ∙ oc)

  pub no_root : (r : ℕ) → cells m + r ≡ c → ⊥
  no_root r s = omega (arith, (inside S c oc refl).0)

  -- It is the cell of that element alone.
  pub one_place : (d b j r : ℕ) → g.own d ≡ on (b + 2) j → g.size (b + 2) ≡ r + suc j → d ≡ c → (b ≡ a) × (r ≡ q)
  one_place d b j r od zb s = let o = sym od ∙ ap g.own s ∙ oc in
      let ba : b ≡ a = omega (arith, on_list o) in
      (ba, omega (arith, on_rank o, ap (λ x. g.size (x + 2)) ba))

  -- Another cell is another element.
  pub other_place : (d b j r : ℕ) → g.own d ≡ on (b + 2) j → g.own b ≡ live → g.size (b + 2) ≡ r + suc j → (d ≡ c → ⊥) → ρ b ≡ ρ a → r ≡ q → ⊥
  other_place d b j r od lb zb ne s t = let ba = R.one b a lb la s in let jk : j ≡ k = omega (arith, ap (λ x. g.size (x + 2)) ba) in
      ne (S.chains.one d c (a + 2) k (rw (← ba, ← jk) od) oc)

module _ {keys : List (List ℕ)} {n : ℕ} {ρ : ℕ → ℕ} {g : Ghost} {e p hand : ℕ} {m m₁ : List ℕ} {store : List Object} {roots : ℕ → Value}
    (S : Shape g e m) (C : Counts g p hand m) (R : Rep keys n ρ g m store roots)
    (c a k q tag pay : ℕ) (v : Value) (vs : List Value) (oc : g.own c ≡ on (a + 2) k) (la : g.own a ≡ live) (ob : object_at store (ρ a) ≡ elements vs) (z : g.size (a + 2) ≡ q + suc k)
    (st : Stands keys (map is_text store) ρ v tag pay) (al : Alives g tag pay) (P : Stored m c tag pay m₁) where
  many : length vs ≡ g.size (a + 2)
  unfolding elements_of
  many = ap (λ o. length (elements_of o)) (sym ob) ∙ (R.array a la (array_word R a la ob)).1

  -- Words 0 and 1 of another cell stay.
  there : (d u : ℕ) → u < 2 → (d ≡ c → ⊥) → word m₁ d u ≡ word m d u
  there d u l ne = P.there d u (omega arith) (λ x. omega arith) (λ x. absurd (ne x))

  was : (r : ℕ) → element store (ρ a) r ≡ get_or vs r null
  unfolding elements_of
  was r = ap (λ o. get_or (elements_of o) r null) ob

  at_q : get_or (elements_of (object_at (set store (ρ a) (elements (set vs q v))) (ρ a))) q null ≡ v
  unfolding elements_of
  at_q = ap (λ o. get_or (elements_of o) q null) (get_or-set_same store (ρ a) (elements (set vs q v)) (elements []) (R.id a la)) ∙ get_or-set_same vs q v null (omega (arith, many))

  not_q : (i r : ℕ) → (i ≡ ρ a → r ≡ q → ⊥) → element (set store (ρ a) (elements (set vs q v))) i r ≡ element store i r
  unfolding elements_of
  not_q i r ne = ⊎_elim
      (λ (s : i ≡ ρ a). rw s (ap (λ o. get_or (elements_of o) r null) (get_or-set_same store (ρ a) (elements (set vs q v)) (elements []) (R.id a la))
      ∙ get_or-set_other vs q r v null (ne s) ∙ sym (was r)))
      (λ (s : i ≡ ρ a → ⊥). ap (λ o. get_or (elements_of o) r null) (get_or-set_other store (ρ a) i (elements (set vs q v)) (elements []) s)) (same? i (ρ a))

  pub rep_assign : Rep keys n ρ (aimed g c (target 0 tag pay)) m₁ (set store (ρ a) (elements (set vs q v))) roots
  unfolding elements_of bytes_of
  rep_assign = rep_change S C R _ m₁ a (elements (set vs q v)) la
      (sym (ap is_text ob))
      (length-set vs q v ∙ sym (ap (λ o. length (elements_of o)) ob))
      (sym (ap (λ o. length (bytes_of o)) ob))
      P.size
      (λ h l. there h 0 (omega arith) (no_head S R c a k q oc la z h l))
      (λ r. upd_other g.aim c (target 0 tag pay) (cells m + r) (no_root S R c a k q oc la z r))
      (λ r i w. ⊎_elim (λ (s : r ≡ q). let x = stands_names st (rw (s, get_or-set_same vs q v null (omega (arith, many))) at w) in (pay, al x.0, x.1))
      (λ (s : r ≡ q → ⊥). element_alive S C R a r i la (rw (was r) (rw (get_or-set_other vs q r v null s) at w))) (same? r q))
      (λ d b j r od lb w zb. ⊎_elim
      (λ (s : d ≡ c). let x = one_place S R c a k q oc la z d b j r od zb s in rw (x.0, x.1, s, at_q, P.tagged, P.paid) st)
      (λ (s : d ≡ c → ⊥). rw (not_q (ρ b) r (other_place S R c a k q oc la z d b j r od lb zb s), there d 0 (omega arith) s, there d 1 (omega arith) s)
      (R.value d b j r od lb w zb)) (same? d c))
      (λ d b j r max y od lb w zb y8 l.
      let ba : b ≡ a → ⊥ = λ s. omega (arith, w, ap (λ x. word m x 0) s, array_word R a la ob) in
      let dc : d ≡ c → ⊥ = λ s. ba (one_place S R c a k q oc la z d b j r od zb s).0 in
      rw (get_or-set_other store (ρ a) (ρ b) (elements (set vs q v)) (elements []) (λ s. ba (R.one b a lb la s)))
      (byte_same m m₁ d y y8 (there d 0 (omega arith) dc) (there d 1 (omega arith) dc) ∙ R.bytes d b j r max y od lb w zb y8 l))

-- The whole assignment: element q of the array becomes v, what it named before is let go, and the cells stand for the new objects.
pub assigned : {keys : List (List ℕ)} {n : ℕ} {ρ : ℕ → ℕ} {g : Ghost} {p : ℕ} {s r : Lists} {m m' : List ℕ} {store : List Object} {roots : ℕ → Value} (c a k q tag pay : ℕ) (v : Value) (vs : List Value)
    → Assigned c tag pay s m r m' → Full g p 0 s m → s.dead ≡ 0 → Rep keys n ρ g m store roots → p ≡ cells m + n
    → g.own c ≡ on (a + 2) k → g.own a ≡ live → object_at store (ρ a) ≡ elements vs → g.size (a + 2) ≡ q + suc k
    → Stands keys (map is_text store) ρ v tag pay → Alives g tag pay
    → (g' : Ghost) × Full g' p 0 r m' × Rep keys n ρ g' m' (set store (ρ a) (elements (set vs q v))) roots × (NoOut g → NoOut g')
assigned {n = n} {ρ = ρ} {g = g} {p = p} {m = m} {store = store} {roots = roots} c a k q tag pay v vs A F z R near oc la ob sz st al =
    let X = A p g a k F oc la (array_word R a la ob) al in
    let z₁ : g.size 1 ≡ 0 = F.heap.dead ∙ z in
    let R₁ = rep_assign F.heap.shape F.counts R c a k q tag pay v vs oc la ob sz st al X.3 in
    let n₁ : p ≡ cells X.0 + n = rw X.3.size near in
    let b = begins p _ _ _ X.0 X.2.heap.shape X.2.counts z₁ in
    (X.1, X.4, rep_since X.2.heap.shape X.2.counts R₁ n₁ (X.5 _ _ b), X.6)
