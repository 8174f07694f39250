-- Nothing dead is in a supported set; a release keeps what cells stand for; and with nothing in hand and no dead header the live headers
-- stand for the largest supported set. By induction on why an object is gone.
-- Assumes nothing.
use mathlib.Core.Path.{◌≡◌, refl, sym, ap, ◌∙◌}
use mathlib.Core.Bool.{true, false}
use mathlib.Core.List.{List}
use mathlib.Core.Logic.{◌⊎◌, inl, inr, ⊎_elim}
use Prim.Native.Nat.{ℕ, zero, suc, ◌+◌, ◌-◌, ◌≤◌, ◌<◌}
use native.Mathlib.Omega.{arith}
use borrow.Author.Tests.{le-leb}
use lib.ListN.{length}
use Rattle.semantics.specs.Values.{Value, Object}
use Rattle.semantics.specs.Machine.{elements_of}
use Rattle.heap.specs.Word.{word}
use Rattle.heap.specs.Chain.{Owner, fresh, live, out, on}
use Rattle.heap.specs.Shape.{Ghost, Shape, Counts, Full, NoOut, cells, is_body, is}
use Rattle.heap.specs.Gone.{Gone, gone, Since, Goes}
use Rattle.heap.specs.declared.Lists.{Lists}
use Rattle.heap.proofs.Upds.{same?}
use Rattle.heap.proofs.Chains.{fresh_live, out_live, live_on}
use Rattle.heap.proofs.Falls.{is_other, true_false}
use Rattle.heap.proofs.Shapes.{inside}
use Rattle.heap.proofs.Since.{lt_or_le, true_or_false, alive_of, begins}
use Rattle.heap.proofs.Parts as parts
use Rattle.store.specs.Rep.{Names, object_at, element, Dead, dead, Supported, Alive, Rep}
use Rattle.store.proofs.Standing.{stands_names, names_stands, names_cast}
use Rattle.store.proofs.Places.{zero_or_suc, byte_same, down, down_at, fresh_body, body_of, aims_at, total_some, is_suc}
use Rattle.store.proofs.Sorts.{no_name, no_object, no_element}

-- Nothing dead is in a supported set.
pub dead_out : (store : List Object) (roots : ℕ → Value) (S : ℕ → Type 0) → Supported store roots S → (i : ℕ) → Dead store roots i → S i → ⊥
dead_out store roots S sup i (dead f n) s =
    ⊎_elim (λ (x : (r : ℕ) × Names (roots r) i). f x.0 x.1) (λ (x : (j : ℕ) × (q : ℕ) × S j × Names (element store j q) i). dead_out store roots S sup x.0 (n x.0 x.1 x.3) x.2) (sup i s)

-- The dead stay dead where nothing new names them.
pub dead_mono : (store store' : List Object) (roots roots' : ℕ → Value)
    → ((j q i : ℕ) → Names (element store' j q) i → Dead store roots i → Names (element store j q) i)
    → ((r i : ℕ) → Names (roots' r) i → Dead store roots i → (t : ℕ) × Names (roots t) i)
    → (i : ℕ) → Dead store roots i → Dead store' roots' i
dead_mono store store' roots roots' E R i (dead f n) =
    dead (λ r w. let x = R r i w (dead f n) in f x.0 x.1) (λ j q w. dead_mono store store' roots roots' E R j (n j q (E j q i w (dead f n))))

-- The dead that are not in A stay dead where what is added names only members of A, and objects outside A stay as they are.
pub dead_keeps : (A : ℕ → Type 0) (store store' : List Object) (roots roots' : ℕ → Value)
    → ((i : ℕ) → A i ⊎ (A i → ⊥))
    → ((r i : ℕ) → Names (roots' r) i → A i ⊎ Names (roots r) i)
    → ((j q i : ℕ) → A j → Names (element store' j q) i → A i)
    → ((j q i : ℕ) → (A j → ⊥) → Names (element store' j q) i → Names (element store j q) i)
    → (i : ℕ) → Dead store roots i → (A i → ⊥) → Dead store' roots' i
dead_keeps A store store' roots roots' D R E F i (dead f n) not =
    dead (λ r w. ⊎_elim not (f r) (R r i w))
    (λ j q w. ⊎_elim (λ x. absurd (not (E j q i x w))) (λ x. dead_keeps A store store' roots roots' D R E F j (n j q (F j q i x w)) x) (D j))

pub live? : (o : Owner) → (o ≡ live) ⊎ (o ≡ live → ⊥)
live? fresh = inr fresh_live
live? live = inl refl
live? out = inr out_live
live? (on s k) = inr (λ q. live_on (sym q))

-- Whether a live header below n stands for i.
alive_below : (ρ : ℕ → ℕ) (g : Ghost) (i n : ℕ) → Alive ρ g i ⊎ ((h : ℕ) → h < n → g.own h ≡ live → ρ h ≡ i → ⊥)
alive_below ρ g i zero = inr (λ h b l q. omega arith)
alive_below ρ g i (suc n) = ⊎_elim inl
    (λ (f : (h : ℕ) → h < n → g.own h ≡ live → ρ h ≡ i → ⊥). ⊎_elim
    (λ (l : g.own n ≡ live). ⊎_elim (λ (q : ρ n ≡ i). inl (n, l, q))
    (λ (q : ρ n ≡ i → ⊥). inr (λ h b lh qh. ⊎_elim (λ (y : h ≡ n). q (ap ρ (sym y) ∙ qh)) (λ (y : h ≡ n → ⊥). f h (omega arith) lh qh) (same? h n))) (same? (ρ n) i))
    (λ (l : g.own n ≡ live → ⊥). inr (λ h b lh qh. ⊎_elim (λ (y : h ≡ n). l (ap g.own (sym y) ∙ lh)) (λ (y : h ≡ n → ⊥). f h (omega arith) lh qh) (same? h n))) (live? (g.own n)))
    (alive_below ρ g i n)

pub alive? : {g : Ghost} {e : ℕ} {m : List ℕ} → Shape g e m → (ρ : ℕ → ℕ) (i : ℕ) → Alive ρ g i ⊎ (Alive ρ g i → ⊥)
alive? {g} {e} {m} S ρ i = ⊎_elim inl (λ f. inr (λ L. f L.0 (inside S L.0 L.1 refl).0 L.1 L.2)) (alive_below ρ g i (cells m))

module _ {keys : List (List ℕ)} {n : ℕ} {ρ : ℕ → ℕ} {g : Ghost} {e p hand : ℕ} {m : List ℕ} {store : List Object} {roots : ℕ → Value}
    (S : Shape g e m) (C : Counts g p hand m) (R : Rep keys n ρ g m store roots) where
  -- The cell at which an array has an element that names i.
  find : (a q i : ℕ) → g.own a ≡ live → Names (element store (ρ a) q) i → (c : ℕ) × (k : ℕ) × (h : ℕ) × (g.own c ≡ on (a + 2) k) × (g.aim c ≡ suc h) × (ρ h ≡ i)
  find a q i l v = ⊎_elim
      (λ (w : word m a 0 ≡ 0). ⊎_elim
      (λ (b : q < g.size (a + 2)).
      let k : ℕ = g.size (a + 2) - suc q in
      let c = down (λ x. word m x 2) q (g.top (a + 2)) in
      let o = down_at g.own g.top g.size (λ x. word m x 2) S.chains (a + 2) q k (omega arith) in
      let st = stands_names (R.value c a k q o l w (omega arith)) v in
      (c, k, word m c 1, o, C.body c a k o ∙ parts.object _ _ _ w st.0, st.1))
      (λ (b : g.size (a + 2) ≤ q). absurd (no_name (elements_of (object_at store (ρ a))) q i (omega (arith, (R.array a l w).1)) v)) (lt_or_le q (g.size (a + 2))))
      (λ w. absurd (no_element store (ρ a) q i (R.text a w.0 l w.1).0 v)) (zero_or_suc (word m a 0))

  -- What an element of a live array names lives.
  pub element_alive : (a q i : ℕ) → g.own a ≡ live → Names (element store (ρ a) q) i → Alive ρ g i
  element_alive a q i l v = let x = find a q i l v in (x.2, C.aimed x.0 x.2 (omega (arith, (inside S x.0 x.3 refl).0, C.places.0)) x.4, x.5)

  in_range_lem : (j q i : ℕ) → Names (element store j q) i → j < length store
  in_range_lem j q i v = ⊎_elim (λ (l : j < length store). l) (λ (l : length store ≤ j). absurd (no_object store j q i l v)) (lt_or_le j (length store))

  module _ (near : p ≡ cells m + n) where
    -- What a root names lives.
    pub root_alive : (r i : ℕ) → Names (roots r) i → Alive ρ g i
    root_alive r i v = let y = R.rooted r i v in let x = y.1 in (x.0, C.aimed (cells m + r) x.0 (omega (arith, y.0)) x.1, x.2)

    pub gone_dead : (h : ℕ) → Gone p g h → g.own h ≡ live → Dead store roots (ρ h)
    gone_dead h (gone f t) l = dead
        (λ r w. let y = R.rooted r (ρ h) w in let x = y.1 in
        let b : cells m + r < p = omega (arith, y.0) in
        let q : x.0 ≡ h = R.one x.0 h (C.aimed (cells m + r) x.0 b x.1) l x.2 in
        true_false (sym (f (cells m + r) b (x.1 ∙ ap suc q)) ∙ fresh_body (g.own (cells m + r)) (S.low (cells m + r) ∙ le-leb e (cells m + r) (omega (arith, S.within)))))
        (λ j q w. ⊎_elim
        (λ (y : Alive ρ g j). let x = find y.0 q (ρ h) y.1 (rw y.2 w) in
        let b : x.0 < p = omega (arith, (inside S x.0 x.3 refl).0) in
        let z : x.2 ≡ h = R.one x.2 h (C.aimed x.0 x.2 b x.4) l x.5 in
        rw y.2 at (gone_dead y.0 (t x.0 y.0 x.1 b (x.4 ∙ ap suc z) x.3) y.1))
        (λ (d : Dead store roots j). d) (R.every j (in_range_lem j q (ρ h) w)))

    -- A release keeps the relation, with the same numbers, objects and roots.
    pub rep_since : {g' : Ghost} {m' : List ℕ} → Since p g m g' m' → Rep keys n ρ g' m' store roots
    rep_since {g'} {m'} T = record {
      id = λ h l. R.id h (T.alive h l).0;
      one = λ h i l k q. R.one h i (T.alive h l).0 (T.alive i k).0 q;
      array = λ h l w. let a = T.alive h l in let x = R.array h a.0 (sym a.2 ∙ w) in (x.0, x.1 ∙ sym a.1);
      text = λ h max l w. let a = T.alive h l in let x = R.text h max a.0 (sym a.2 ∙ w) in (x.0, x.1, a.1 ∙ x.2);
      value = λ c a k q o l w z. let b = T.body c a k o in let x = T.alive a l in
          rw (b.2, b.3) (R.value c a k q b.0 x.0 (sym x.2 ∙ w) (sym x.1 ∙ z));
      bytes = λ c a k q max j o l w z j8 b. let y = T.body c a k o in let x = T.alive a l in
          byte_same m m' c j j8 y.2 y.3 ∙ R.bytes c a k q max j y.0 x.0 (sym x.2 ∙ w) (sym x.1 ∙ z) j8 b;
      root = λ r h q. R.root r h (sym (T.roots (cells m + r) (omega arith)) ∙ (rw T.long at q));
      rooted = λ r i v. let y = R.rooted r i v in let x = y.1 in (y.0, (x.0, rw T.long (T.roots (cells m + r) (omega arith) ∙ x.1), x.2));
      every = λ i l. ⊎_elim
          (λ (x : Alive ρ g i). ⊎_elim (λ a. inl (x.0, a, x.2)) (λ d. inr (rw x.2 at (gone_dead x.0 d x.1))) (T.dies x.0 x.1))
          (λ d. inr d) (R.every i l);
    }

-- A whole release: what is in hand is let go.
pub released : {keys : List (List ℕ)} {n : ℕ} {ρ : ℕ → ℕ} {g : Ghost} {p hand : ℕ} {s r : Lists} {m m' : List ℕ} {store : List Object} {roots : ℕ → Value}
    → Goes hand s m r m' → Full g p hand s m → s.dead ≡ 0 → Rep keys n ρ g m store roots → p ≡ cells m + n
    → (g' : Ghost) × Full g' p 0 r m' × Rep keys n ρ g' m' store roots × (NoOut g → NoOut g')
released {g = g} {p = p} {m = m} G F z R near = let X = G p g F in let S = F.heap.shape in
    (X.0, X.1, rep_since S F.counts R near (X.2 g m (begins p g _ _ m S F.counts (F.heap.dead ∙ z))), X.3)

-- With nothing in hand and no dead header, the numbers of the live headers are the largest supported set.
module _ {keys : List (List ℕ)} {n : ℕ} {ρ : ℕ → ℕ} {g : Ghost} {e p : ℕ} {m : List ℕ} {store : List Object} {roots : ℕ → Value}
    (S : Shape g e m) (C : Counts g p 0 m) (R : Rep keys n ρ g m store roots) (z : g.size 1 ≡ 0) where
  pub live_supported : Supported store roots (Alive ρ g)
  live_supported i L =
      let h = L.0 in
      let x = total_some (λ y. is h (g.aim y)) p (omega (arith, C.count h L.1, C.some h L.1, is_other h 0 (λ q. omega arith))) in
      let w : g.aim x.0 ≡ suc h = is_suc h (g.aim x.0) x.2 in
      ⊎_elim
      (λ (b : x.0 < cells m). ⊎_elim
      (λ (t : is_body (g.own x.0) ≡ true).
      let y = body_of (g.own x.0) t in
      let a = y.0 in let k = y.1 in
      let s = S.chains.above x.0 (a + 2) k y.2 in
      let la = alive_of p g e 0 m S C z a k s in
      let q : ℕ = g.size (a + 2) - suc k in
      let v = aims_at _ _ _ h (sym (C.body x.0 a k y.2) ∙ w) in
      inr (ρ a, q, (a, la, refl), names_cast (element store (ρ a) q) (ap ρ v.2 ∙ L.2) (names_stands (R.value x.0 a k q y.2 la v.0 (omega arith)) v.1)))
      (λ (f : is_body (g.own x.0) ≡ false). absurd (omega (arith, w, C.other x.0 b f)))
      (true_or_false (is_body (g.own x.0))))
      (λ (b : cells m ≤ x.0). let r : ℕ = x.0 - cells m in
      let s : cells m + (x.0 - cells m) ≡ x.0 = omega arith in
      inl (r, names_cast (roots r) L.2 (R.root r h (ap g.aim s ∙ w))))
      (lt_or_le x.0 (cells m))

  pub live_largest : (T : ℕ → Type 0) → Supported store roots T → ((i : ℕ) → T i → i < length store) → (i : ℕ) → T i → Alive ρ g i
  live_largest T sup r i t = ⊎_elim (λ x. x) (λ d. absurd (dead_out store roots T sup i d t)) (R.every i (r i t))

  -- What a live header stands for is not dead.
  pub live_undead : (i : ℕ) → Alive ρ g i → Dead store roots i → ⊥
  live_undead i L d = dead_out store roots (Alive ρ g) live_supported i d L
