-- The start, with no object; names that are added; and a new object with nothing in it, an array of nulls or a string of zeros, whose number is the number of
-- objects made before. It names nothing, so the dead stay dead.
-- Assumes nothing.
use mathlib.Core.Path.{◌≡◌, refl, sym, ap, ◌∙◌}
use mathlib.Core.Bool.{Bool, true, false}
use mathlib.Core.List.{List, [], ◌∷◌, ◌++◌, map, map-append}
use mathlib.Core.Logic.{inl, inr, ⊎_elim}
use mathlib.Core.Option.{some}
use Prim.Native.Nat.{ℕ, suc, ◌+◌, ◌*◌, ◌/◌, ◌%◌, ◌^◌, ◌≤◌, ◌<◌}
use native.Mathlib.Nat.{zero-div}
use borrow.Author.Tests.{ne_eqb}
use native.Mathlib.Omega.{arith}
use lib.ListN.{length, get_or, replicate, length-append, length-replicate, get_or-replicate, get_elem?, get_or-append, get_or-eq_default}
use lib.Seq.{get_or-append_seam}
use Rattle.semantics.specs.Values.{Value, null, string, array, Object, elements, text}
use Rattle.semantics.specs.Machine.{elements_of, bytes_of}
use Rattle.heap.specs.Word.{word}
use Rattle.heap.specs.Upd.{upd}
use Rattle.heap.specs.Chain.{fresh, live, on}
use Rattle.heap.specs.Shape.{Ghost, Shape, Counts, Full, NoOut, cells, size_unit}
use Rattle.heap.specs.Reading.{is_sealed}
use Rattle.heap.specs.Grow.{Grows, Made}
use Rattle.heap.specs.Assign.{Alives}
use Rattle.heap.specs.declared.Lists.{Lists}
use Rattle.heap.proofs.Upds.{upd_same, upd_at, upd_other, same?}
use Rattle.heap.proofs.Chains.{fresh_on, fresh_live}
use Rattle.heap.proofs.Since.{lt_or_le}
use Rattle.store.specs.Rep.{is_text, Stands, a_null, a_string, an_array, a_procedure, byte_of, Names, object_at, element, Alive, Rep}
use Rattle.store.proofs.Standing.{getElem?-append, stands_map, stands_keys, names_cast, null_names, at_kind}
use Rattle.store.proofs.Places.{byte_same, either_word}
use Rattle.store.proofs.Deaths.{dead_mono}
use Rattle.store.proofs.Elements.{body_alives}

-- ---- the start

pub rep_start : (keys : List (List ℕ)) (n : ℕ) (ρ : ℕ → ℕ) (g : Ghost) (m : List ℕ)
    → ((c : ℕ) → g.own c ≡ fresh) → ((x : ℕ) → g.aim x ≡ 0) → Rep keys n ρ g m [] (λ _. null)
rep_start keys n ρ g m new none = record {
  id = λ h l. absurd (fresh_live (sym (new h) ∙ l));
  one = λ h i l. absurd (fresh_live (sym (new h) ∙ l));
  array = λ h l. absurd (fresh_live (sym (new h) ∙ l));
  text = λ h max l. absurd (fresh_live (sym (new h) ∙ l));
  value = λ c a k q o. absurd (fresh_on (sym (new c) ∙ o));
  bytes = λ c a k q max j o. absurd (fresh_on (sym (new c) ∙ o));
  root = λ r h q. absurd (omega (arith, none (cells m + r)));
  rooted = λ r i v. absurd (null_names v refl);
  every = λ i l. absurd (omega arith);
}

-- ---- more names

pub rep_keys : {keys : List (List ℕ)} {n : ℕ} {ρ : ℕ → ℕ} {g : Ghost} {m : List ℕ} {store : List Object} {roots : ℕ → Value} (more : List (List ℕ))
    → Rep keys n ρ g m store roots → Rep (keys ++ more) n ρ g m store roots
rep_keys more R = record {
  id = R.id;
  one = R.one;
  array = R.array;
  text = R.text;
  value = λ c a k q o l w z. stands_keys more (R.value c a k q o l w z);
  bytes = R.bytes;
  root = R.root;
  rooted = R.rooted;
  every = R.every;
}

-- ---- one object more

module _ (store : List Object) (o : Object) where
  old : (j : ℕ) → j < length store → object_at (store ++ (o ∷ [])) j ≡ object_at store j
  old j l = get_or-append store (o ∷ []) (elements []) j l

  new : object_at (store ++ (o ∷ [])) (length store) ≡ o
  new = get_or-append_seam store o [] (elements [])

  more_length : length (store ++ (o ∷ [])) ≡ length store + 1
  more_length = length-append store (o ∷ [])

  -- The kinds that there were stay.
  kinds : (i : ℕ) (b : Bool) → get_elem? (map is_text store) i ≡ some b → get_elem? (map is_text (store ++ (o ∷ []))) i ≡ some b
  kinds i b e = rw (map-append is_text store (o ∷ [])) (getElem?-append (map is_text store) (map is_text (o ∷ [])) i b e)

  -- A value stands as before, where ρ stays at the object that is named.
  pub stands_new : {keys : List (List ℕ)} {ρ ρ' : ℕ → ℕ} {v : Value} {tag pay : ℕ} → (8 ≤ tag → ρ' pay ≡ ρ pay)
      → Stands keys (map is_text store) ρ v tag pay → Stands keys (map is_text (store ++ (o ∷ []))) ρ' v tag pay
  stands_new h s = stands_map (λ q n e. e) kinds h s

  module _ (nulls : (q : ℕ) → get_or (elements_of o) q null ≡ null) where
    -- The new object names nothing.
    names_old : (j q i : ℕ) → Names (element (store ++ (o ∷ [])) j q) i → Names (element store j q) i
    unfolding elements_of
    names_old j q i w = ⊎_elim
        (λ (l : j < length store). rw (old j l) at w)
        (λ (l : length store ≤ j). ⊎_elim
        (λ (e : j ≡ length store). absurd (null_names w (ap (λ x. element (store ++ (o ∷ [])) x q) e ∙ ap (λ x. get_or (elements_of x) q null) new ∙ nulls q)))
        (λ (e : j ≡ length store → ⊥).
        absurd (null_names w (ap (λ x. get_or (elements_of x) q null) (get_or-eq_default (store ++ (o ∷ [])) (elements []) {n = j} (omega (arith, more_length)))))) (same? j (length store)))
        (lt_or_le j (length store))

-- A value stands as before where header h, which did not live, stands for the new object;
pub stands_made : {keys : List (List ℕ)} {ρ : ℕ → ℕ} (g : Ghost) (store : List Object) (o : Object) (h : ℕ) {v : Value} {tag pay : ℕ} → (g.own h ≡ live → ⊥) → Alives g tag pay
    → Stands keys (map is_text store) ρ v tag pay → Stands keys (map is_text (store ++ (o ∷ []))) (upd ρ h (length store)) v tag pay
stands_made {ρ = ρ} g store o h {pay = pay} fr al s = stands_new store o (λ t. upd_other ρ h (length store) pay (λ q. fr (ap g.own (sym q) ∙ al t))) s

-- and the new object has its values.
last_kind : (store : List Object) (o : Object) → get_elem? (map is_text (store ++ (o ∷ []))) (length store) ≡ some (is_text o)
last_kind store o = at_kind (store ++ (o ∷ [])) (length store) (is_text o) (omega (arith, more_length store o)) (ap is_text (new store o))

module _ {keys : List (List ℕ)} (ρ : ℕ → ℕ) (store : List Object) (h : ℕ) where
  pub new_string : (bs : List ℕ) → Stands keys (map is_text (store ++ (text bs ∷ []))) (upd ρ h (length store)) (string (length store)) 8 h
  new_string bs = a_string (upd_same ρ h (length store)) (last_kind store (text bs))

  pub new_array_lem : (vs : List Value) → Stands keys (map is_text (store ++ (elements vs ∷ []))) (upd ρ h (length store)) (array false (length store)) 9 h
  new_array_lem vs = an_array (upd_same ρ h (length store)) (last_kind store (elements vs))

  pub new_procedure : (vs : List Value) → Stands keys (map is_text (store ++ (elements vs ∷ []))) (upd ρ h (length store)) (array true (length store)) 10 h
  new_procedure vs = a_procedure (upd_same ρ h (length store)) (last_kind store (elements vs))

-- An object is made with header h, and it is o, which has nothing in it.
module _ {keys : List (List ℕ)} {n : ℕ} {ρ : ℕ → ℕ} {g g' : Ghost} {e p hand : ℕ} {m m' : List ℕ} {store : List Object} {roots : ℕ → Value}
    (S : Shape g e m) (C : Counts g p hand m) (R : Rep keys n ρ g m store roots) (near : p ≡ cells m + n)
    (h : ℕ) (o : Object) (G : Grows h g m g' m') (lh : g'.own h ≡ live) (fr : g.own h ≡ live → ⊥) (nb : (c k : ℕ) → g.own c ≡ on (h + 2) k → ⊥)
    (fits : word m' h 0 ≡ 0 → (is_text o ≡ false) × (length (elements_of o) ≡ g'.size (h + 2)))
    (fills : (max : ℕ) → word m' h 0 ≡ suc max → (is_text o ≡ true) × (length (bytes_of o) ≡ max) × (g'.size (h + 2) ≡ (max + 7) / 8))
    (nulls : (q : ℕ) → get_or (elements_of o) q null ≡ null) (zeros : (q : ℕ) → get_or (bytes_of o) q 0 ≡ 0) where
  was : (x : ℕ) → g.own x ≡ live → (upd ρ h (length store) x ≡ ρ x) × (x ≡ h → ⊥)
  was x l = let d : x ≡ h → ⊥ = λ q. fr (ap g.own (sym q) ∙ l) in (upd_other ρ h (length store) x d, d)

  -- A header that lived stands for its object as before.
  stays : (x : ℕ) → g.own x ≡ live → object_at (store ++ (o ∷ [])) (upd ρ h (length store) x) ≡ object_at store (ρ x)
  stays x l = ap (object_at (store ++ (o ∷ []))) (was x l).0 ∙ old store o (ρ x) (R.id x l)

  -- And the new one for o.
  starts : object_at (store ++ (o ∷ [])) (upd ρ h (length store) h) ≡ o
  starts = ap (object_at (store ++ (o ∷ []))) (upd_same ρ h (length store)) ∙ new store o

  -- A body cell that there was is not one of h.
  apart : (c a k : ℕ) → g.own c ≡ on (a + 2) k → a ≡ h → ⊥
  apart c a k oc y = nb c k (rw y at oc)

  pub rep_new : Rep keys n (upd ρ h (length store)) g' m' (store ++ (o ∷ [])) roots
  rep_new = record {
    id = λ x l. ⊎_elim (λ (q : x ≡ h). rw (upd_at ρ h (length store) x q, more_length store o) (omega arith))
        (λ (q : x ≡ h → ⊥). let y = G.lived x q l in rw ((was x y).0, more_length store o) (omega (arith, R.id x y))) (same? x h);
    one = λ x y lx ly q. ⊎_elim
        (λ (a : x ≡ h). ⊎_elim (λ (b : y ≡ h). a ∙ sym b)
        (λ (b : y ≡ h → ⊥). let u = G.lived y b ly in absurd (omega (arith, R.id y u, sym (upd_at ρ h (length store) x a) ∙ q ∙ (was y u).0))) (same? y h))
        (λ (a : x ≡ h → ⊥). let t = G.lived x a lx in ⊎_elim
        (λ (b : y ≡ h). absurd (omega (arith, R.id x t, sym (was x t).0 ∙ q ∙ upd_at ρ h (length store) y b)))
        (λ (b : y ≡ h → ⊥). let u = G.lived y b ly in R.one x y t u (sym (was x t).0 ∙ q ∙ (was y u).0)) (same? y h))
        (same? x h);
    array = λ x l w. ⊎_elim
        (λ (q : x ≡ h). rw (q, starts) (fits (rw (← q) w)))
        (λ (q : x ≡ h → ⊥). let t = G.lived x q l in let k = G.lives x q t in let y = R.array x t (sym k.2 ∙ w) in
        (ap is_text (stays x t) ∙ y.0, ap (λ z. length (elements_of z)) (stays x t) ∙ y.1 ∙ sym k.1)) (same? x h);
    text = λ x max l w. ⊎_elim
        (λ (q : x ≡ h). rw (q, starts) (fills max (rw (← q) w)))
        (λ (q : x ≡ h → ⊥). let t = G.lived x q l in let k = G.lives x q t in let y = R.text x max t (sym k.2 ∙ w) in
        (ap is_text (stays x t) ∙ y.0, ap (λ z. length (bytes_of z)) (stays x t) ∙ y.1, k.1 ∙ y.2)) (same? x h);
    value = λ c a k q oc la w z. ⊎_elim
        (λ (b : g.own c ≡ on (a + 2) k).
        let l = G.lived a (apart c a k b) la in let x = G.lives a (apart c a k b) l in let y = G.keeps c a k b in
        let w₀ : word m a 0 ≡ 0 = sym x.2 ∙ w in
        rw (stays a l, y.1, y.2)
        (stands_new store o
        (λ t. (was (word m c 1) (body_alives S C c a k b w₀ t)).0)
        (R.value c a k q b l w₀ (sym x.1 ∙ z))))
        (λ y. rw (y.0, starts, nulls q, y.1, y.2) a_null) (G.kept c a k oc);
    bytes = λ c a k q max j oc la w z j8 i. ⊎_elim
        (λ (b : g.own c ≡ on (a + 2) k).
        let l = G.lived a (apart c a k b) la in let x = G.lives a (apart c a k b) l in let y = G.keeps c a k b in
        rw (stays a l) (byte_same m m' c j j8 y.1 y.2 ∙ R.bytes c a k q max j b l (sym x.2 ∙ w) (sym x.1 ∙ z) j8 i))
        (λ y. let e : byte_of 0 (j % 4) ≡ 0 = ap (λ x. x % 256) (zero-div (2 ^ (8 * (j % 4)))) in
        rw (y.0, starts, zeros (q * 8 + j))
        (either_word (λ u. byte_of (word m' c u) (j % 4) ≡ 0) (ap (λ x. byte_of x (j % 4)) y.1 ∙ e) (ap (λ x. byte_of x (j % 4)) y.2 ∙ e) j j8)) (G.kept c a k oc);
    root = λ r x q. let q₀ : g.aim (cells m + r) ≡ suc x = sym (G.aims (cells m + r)) ∙ (rw G.long at q) in let w = R.root r x q₀ in
        names_cast (roots r) (sym (was x (C.aimed (cells m + r) x (omega (arith, (R.rooted r (ρ x) w).0)) q₀)).0) w;
    rooted = λ r i w. let y = R.rooted r i w in let x = y.1 in
        (y.0, (x.0, rw G.long (G.aims (cells m + r) ∙ x.1), (was x.0 (C.aimed (cells m + r) x.0 (omega (arith, y.0)) x.1)).0 ∙ x.2));
    every = λ i l. ⊎_elim
        (λ (q : i < length store). ⊎_elim
        (λ (x : Alive ρ g i). inl (x.0, (G.lives x.0 (was x.0 x.1).1 x.1).0, (was x.0 x.1).0 ∙ x.2))
        (λ d. inr (dead_mono store (store ++ (o ∷ [])) roots roots (λ j q i w _. names_old store o nulls j q i w) (λ r i w _. (r, w)) i d)) (R.every i q))
        (λ (q : length store ≤ i). inl (h, lh, upd_same ρ h (length store) ∙ omega (arith, more_length store o))) (lt_or_le i (length store));
  }

-- ---- an array, and a string

default_all : {A : Type 0} (n q : ℕ) (a : A) → get_or (replicate n a) q a ≡ a
default_all n q a = ⊎_elim (λ (l : q < n). get_or-replicate n q a a l) (λ (l : n ≤ q). get_or-eq_default (replicate n a) a (rw (length-replicate n a) l)) (lt_or_le q n)

-- Object o is made, with header h, and is in hand.
pub record Adds (keys : List (List ℕ)) (n : ℕ) (ρ : ℕ → ℕ) (g : Ghost) (p : ℕ) (r : Lists) (m m' : List ℕ) (store : List Object) (roots : ℕ → Value) (h : ℕ) (o : Object) : Type 0 where
  pub ghost : Ghost
  pub full : Full ghost p (suc h) r m'
  pub rep : Rep keys n (upd ρ h (length store)) ghost m' (store ++ (o ∷ [])) roots
  pub lives : ghost.own h ≡ live
  pub grows : Grows h g m ghost m'
  pub whole : NoOut g → NoOut ghost
  pub plain : is_sealed m' h ≡ false  -- it may be written to

module _ {keys : List (List ℕ)} {n : ℕ} {ρ : ℕ → ℕ} {g : Ghost} {p : ℕ} {s r : Lists} {m m' : List ℕ} {store : List Object} {roots : ℕ → Value}
    (F : Full g p 0 s m) (R : Rep keys n ρ g m store roots) (near : p ≡ cells m + n) (h : ℕ) where
  pub rep_array : (z : ℕ) → Made 0 z h s m r m' → Adds keys n ρ g p r m m' store roots h (elements (replicate z null))
  unfolding elements_of bytes_of is_sealed
  rep_array z M = let X = M p g F in record {
    ghost = X.0;
    full = X.1;
    rep = rep_new F.heap.shape F.counts R near h (elements (replicate z null)) X.2 X.3 X.6 X.8
        (λ w. (refl, length-replicate z null ∙ sym X.4)) (λ max w. absurd (omega (arith, X.5))) (λ q. default_all z q null) (λ q. refl);
    lives = X.3;
    grows = X.2;
    whole = X.7;
    plain = ne_eqb (word m' h 1 / size_unit % 2) 1 (λ q. omega (arith, q, X.9));
  }

  pub rep_string : (max : ℕ) → Made (suc max) ((max + 7) / 8) h s m r m' → Adds keys n ρ g p r m m' store roots h (text (replicate max 0))
  unfolding elements_of bytes_of is_sealed
  rep_string max M = let X = M p g F in record {
    ghost = X.0;
    full = X.1;
    rep = rep_new F.heap.shape F.counts R near h (text (replicate max 0)) X.2 X.3 X.6 X.8
        (λ w. absurd (omega (arith, X.5)))
        (λ z w. let y : z ≡ max = omega (arith, X.5) in rw y (refl, length-replicate max 0, X.4)) (λ q. refl) (λ q. default_all max q 0);
    lives = X.3;
    grows = X.2;
    whole = X.7;
    plain = ne_eqb (word m' h 1 / size_unit % 2) 1 (λ q. omega (arith, q, X.9));
  }
