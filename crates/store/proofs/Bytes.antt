-- A byte of a word is set: that byte is the new one, the others stay, and the word still fits. By cases on the places, each arithmetic.
-- Then a byte of a live string is set, and the cells stand for the store with that byte set.
-- Assumes nothing.
use mathlib.Core.Path.{◌≡◌, refl, sym, ap, ◌∙◌}
use mathlib.Core.Bool.{false}
use mathlib.Core.List.{List, []}
use mathlib.Core.Logic.{⊎_elim}
use Prim.Native.Nat.{ℕ, zero, suc, ◌+◌, ◌-◌, ◌*◌, ◌/◌, ◌%◌, ◌^◌, ◌<◌}
use native.Mathlib.Omega.{arith}
use borrow.Author.Tests.{ne_eqb}
use lib.ListN.{length, get_or, set, length-set}
use lib.Seq.{get_or-set_same, get_or-set_other}
use Rattle.semantics.specs.Values.{Value, Object, elements, text}
use Rattle.semantics.specs.Machine.{elements_of, bytes_of}
use Rattle.heap.specs.Word.{word, Put}
use Rattle.heap.specs.Chain.{live, on}
use Rattle.heap.specs.Shape.{Ghost, Shape, Counts, Full, is_head}
use Rattle.heap.specs.declared.Lists.{Lists}
use Rattle.heap.proofs.Upds.{same?}
use Rattle.heap.proofs.Chains.{on_list}
use Rattle.heap.proofs.Parts as parts
use Rattle.heap.proofs.Assigning.{element_shape}
use Rattle.heap.proofs.Shapes.{not_header}
use Rattle.store.specs.Rep.{is_text, byte_of, with_byte, object_at, Rep}
use Rattle.store.proofs.Standing.{null_names}
use Rattle.store.proofs.Places.{down, down_at}
use Rattle.store.proofs.Sorts.{text_word}
use Rattle.store.proofs.Changes.{rep_change}
use Rattle.store.proofs.Elements.{no_head, one_place, other_place}

-- ---- arithmetic

-- What holds of the four places holds of each.
pub four : (P : ℕ → Type 0) → P 0 → P 1 → P 2 → P 3 → (j : ℕ) → j < 4 → P j
four P a b c d zero l = a
four P a b c d (suc zero) l = b
four P a b c d (suc (suc zero)) l = c
four P a b c d (suc (suc (suc zero))) l = d
four P a b c d (suc (suc (suc (suc j)))) l = absurd (omega arith)

pub with_here : (w b : ℕ) → b < 256 → (j : ℕ) → j < 4 → byte_of (with_byte w j b) j ≡ b
with_here w b l = four (λ j. byte_of (with_byte w j b) j ≡ b) (omega arith) (omega arith) (omega arith) (omega arith)

pub with_fits : (w b : ℕ) → w < 2 ^ 32 → b < 256 → (j : ℕ) → j < 4 → with_byte w j b < 2 ^ 32
with_fits w b h l = four (λ j. with_byte w j b < 2 ^ 32) (omega arith) (omega arith) (omega arith) (omega arith)

pub with_there : (w b : ℕ) → b < 256 → (j : ℕ) → j < 4 → (i : ℕ) → i < 4 → (i ≡ j → ⊥) → byte_of (with_byte w j b) i ≡ byte_of w i
with_there w b l = four (λ j. (i : ℕ) → i < 4 → (i ≡ j → ⊥) → byte_of (with_byte w j b) i ≡ byte_of w i)
    (four (λ i. (i ≡ 0 → ⊥) → byte_of (with_byte w 0 b) i ≡ byte_of w i) (λ n. absurd (n refl)) (λ _. omega arith) (λ _. omega arith) (λ _. omega arith))
    (four (λ i. (i ≡ 1 → ⊥) → byte_of (with_byte w 1 b) i ≡ byte_of w i) (λ _. omega arith) (λ n. absurd (n refl)) (λ _. omega arith) (λ _. omega arith))
    (four (λ i. (i ≡ 2 → ⊥) → byte_of (with_byte w 2 b) i ≡ byte_of w i) (λ _. omega arith) (λ _. omega arith) (λ n. absurd (n refl)) (λ _. omega arith))
    (four (λ i. (i ≡ 3 → ⊥) → byte_of (with_byte w 3 b) i ≡ byte_of w i) (λ _. omega arith) (λ _. omega arith) (λ _. omega arith) (λ n. absurd (n refl)))

-- ---- the heap stays

-- Word u, 0 or 1, of cell c changes: c is in the body of a, which is a string, so the word is no link, no count and no name.
module _ {g : Ghost} {e p hand : ℕ} {m m' : List ℕ} (S : Shape g e m) (C : Counts g p hand m)
    (c a k max u v : ℕ) (oc : g.own c ≡ on (a + 2) k) (w : word m a 0 ≡ suc max) (low : u < 2) (P : Put m c u v m') where
  body_head : is_head (g.own c) ≡ false
  body_head = ap is_head oc ∙ ne_eqb (a + 2) 1 (λ s. omega arith)

  word_shape : Shape g e m'
  word_shape = element_shape g.aim c a k S oc P.size (λ x y l h. P.there x y l (λ q r. ⊎_elim (λ (z : y ≡ 2). omega arith) (λ (z : y ≡ 3). omega arith) (h q)))

  word_counts : Counts g p hand m'
  word_counts = record {
    places = rw P.size C.places;
    aimed = C.aimed;
    held = C.held;
    count = λ h l. P.there h 2 (omega arith) (λ _ r. omega arith) ∙ C.count h l;
    some = λ h l. rw (P.there h 2 (omega arith) (λ _ r. omega arith)) (C.some h l);
    body = λ d b f od.
        let x = P.there b 0 (omega arith) (λ r. absurd (not_header S c body_head d b f od r)) in
        ⊎_elim
        (λ (s : d ≡ c). let y : word m b 0 ≡ 0 → ⊥ = λ r. let ba : b ≡ a = omega (arith, on_list (sym od ∙ ap g.own s ∙ oc)) in omega (arith, r, ap (λ t. word m t 0) ba, w) in
        C.body d b f od ∙ parts.no_array _ _ _ y ∙ sym (parts.no_array _ _ _ (λ r. y (sym x ∙ r))))
        (λ (s : d ≡ c → ⊥). rw (x, P.there d 0 (omega arith) (λ r. absurd (s r)), P.there d 1 (omega arith) (λ r. absurd (s r))) (C.body d b f od)) (same? d c);
    other = λ d l f. C.other d (rw P.size at l) f;
  }

pub word_full : {g : Ghost} {p hand : ℕ} {s : Lists} {m m' : List ℕ} (c a k max u v : ℕ) → Full g p hand s m → g.own c ≡ on (a + 2) k → word m a 0 ≡ suc max → u < 2
    → Put m c u v m' → Full g p hand s m'
word_full c a k max u v F oc w low P = record {
  heap = record { shape = word_shape F.heap.shape F.counts c a k max u v oc w low P; free = F.heap.free; listed = F.heap.listed; work = F.heap.work; dead = F.heap.dead };
  counts = word_counts F.heap.shape F.counts c a k max u v oc w low P;
}

-- ---- a byte of a string

-- Byte j of cell c, at rank k of the body of the live string a and q cells from its front, becomes b.
module _ {keys : List (List ℕ)} {n : ℕ} {ρ : ℕ → ℕ} {g : Ghost} {e p hand : ℕ} {m m' : List ℕ} {store : List Object} {roots : ℕ → Value}
    (S : Shape g e m) (C : Counts g p hand m) (R : Rep keys n ρ g m store roots)
    (c a k q j b : ℕ) (bs : List ℕ) (oc : g.own c ≡ on (a + 2) k) (la : g.own a ≡ live) (ob : object_at store (ρ a) ≡ text bs) (z : g.size (a + 2) ≡ q + suc k)
    (j8 : j < 8) (in-bs : q * 8 + j < length bs) (small : b < 256) (P : Put m c (j / 4) (with_byte (word m c (j / 4)) (j % 4) b) m') where
  -- Another byte stays in the words,
  byte_there : (d y : ℕ) → y < 8 → (d ≡ c → y ≡ j → ⊥) → byte_of (word m' d (y / 4)) (y % 4) ≡ byte_of (word m d (y / 4)) (y % 4)
  byte_there d y y8 ne = ⊎_elim
      (λ (s : d ≡ c). ⊎_elim
      (λ (t : y / 4 ≡ j / 4). rw (s, t, P.here)
      (with_there (word m c (j / 4)) b small (j % 4) (omega arith) (y % 4) (omega arith) (λ u. ne s (omega arith))))
      (λ (t : y / 4 ≡ j / 4 → ⊥). ap (λ w. byte_of w (y % 4)) (P.there d (y / 4) (omega arith) (λ _. t))) (same? (y / 4) (j / 4)))
      (λ (s : d ≡ c → ⊥). ap (λ w. byte_of w (y % 4)) (P.there d (y / 4) (omega arith) (λ u. absurd (s u)))) (same? d c)

  -- and in the object.
  byte_kept : (i y : ℕ) → (i ≡ ρ a → y ≡ q * 8 + j → ⊥)
      → get_or (bytes_of (object_at (set store (ρ a) (text (set bs (q * 8 + j) b))) i)) y 0 ≡ get_or (bytes_of (object_at store i)) y 0
  unfolding bytes_of
  byte_kept i y ne = ⊎_elim
      (λ (s : i ≡ ρ a). rw s (ap (λ o. get_or (bytes_of o) y 0) (get_or-set_same store (ρ a) (text (set bs (q * 8 + j) b)) (elements []) (R.id a la))
      ∙ get_or-set_other bs (q * 8 + j) y b 0 (ne s) ∙ sym (ap (λ o. get_or (bytes_of o) y 0) ob)))
      (λ (s : i ≡ ρ a → ⊥). ap (λ o. get_or (bytes_of o) y 0) (get_or-set_other store (ρ a) i (text (set bs (q * 8 + j) b)) (elements []) s)) (same? i (ρ a))

  byte_new : byte_of (word m' c (j / 4)) (j % 4) ≡ get_or (bytes_of (object_at (set store (ρ a) (text (set bs (q * 8 + j) b))) (ρ a))) (q * 8 + j) 0
  unfolding bytes_of
  byte_new = ap (λ w. byte_of w (j % 4)) P.here ∙ with_here (word m c (j / 4)) b small (j % 4) (omega arith)
      ∙ sym (ap (λ o. get_or (bytes_of o) (q * 8 + j) 0) (get_or-set_same store (ρ a) (text (set bs (q * 8 + j) b)) (elements []) (R.id a la)) ∙ get_or-set_same bs (q * 8 + j) b 0 in-bs)

  pub rep_byte : Rep keys n ρ g m' (set store (ρ a) (text (set bs (q * 8 + j) b))) roots
  unfolding elements_of bytes_of
  rep_byte = rep_change S C R g.aim m' a (text (set bs (q * 8 + j) b)) la
      (sym (ap is_text ob))
      (sym (ap (λ o. length (elements_of o)) ob))
      (length-set bs (q * 8 + j) b ∙ sym (ap (λ o. length (bytes_of o)) ob))
      P.size
      (λ h l. P.there h 0 (omega arith) (λ s _. no_head S R c a k q oc la z h l s))
      (λ r. refl)
      (λ r i w. absurd (null_names w refl))
      (λ d x f r od lx w zx.
      let xa : x ≡ a → ⊥ = λ s. omega (arith, w, ap (λ y. word m y 0) s, text_word R a la ob) in
      let dc : d ≡ c → ⊥ = λ s. xa (one_place S R c a k q oc la z d x f r od zx s).0 in
      rw (
        get_or-set_other store (ρ a) (ρ x) (text (set bs (q * 8 + j) b)) (elements []) (λ s. xa (R.one x a lx la s)),
        P.there d 0 (omega arith) (λ s. absurd (dc s)),
        P.there d 1 (omega arith) (λ s. absurd (dc s)),
      ) (R.value d x f r od lx w zx))
      (λ d x f r max y od lx w zx y8 l. ⊎_elim
      (λ (s : d ≡ c). let o = one_place S R c a k q oc la z d x f r od zx s in ⊎_elim
      (λ (t : y ≡ j). rw (s, t, o.0, o.1) byte_new)
      (λ (t : y ≡ j → ⊥). byte_there d y y8 (λ _. t) ∙ R.bytes d x f r max y od lx w zx y8 l ∙ sym (byte_kept (ρ x) (r * 8 + y) (λ _ u. t (omega arith)))) (same? y j))
      (λ (s : d ≡ c → ⊥). byte_there d y y8 (λ u. absurd (s u)) ∙ R.bytes d x f r max y od lx w zx y8 l
      ∙ sym (byte_kept (ρ x) (r * 8 + y) (λ t u. other_place S R c a k q oc la z d x f r od lx zx s t (omega arith)))) (same? d c))

-- ---- byte i of a string, eight to a cell

module _ {keys : List (List ℕ)} {n : ℕ} {ρ : ℕ → ℕ} {g : Ghost} {m : List ℕ} {store : List Object} {roots : ℕ → Value} (R : Rep keys n ρ g m store roots) (a : ℕ) (la : g.own a ≡ live) where
  -- It is read from the words of its cell,
  pub byte_read : (c k i max : ℕ) → g.own c ≡ on (a + 2) k → word m a 0 ≡ suc max → g.size (a + 2) ≡ i / 8 + suc k → i < max
      → byte_of (word m c (i % 8 / 4)) (i % 8 % 4) ≡ get_or (bytes_of (object_at store (ρ a))) i 0
  byte_read c k i max oc w z l = let s : i / 8 * 8 + i % 8 ≡ i = omega arith in
      rw s at (R.bytes c a k (i / 8) max (i % 8) oc la w z (omega arith) (omega arith))

  -- it is a byte,
  pub byte_small : {e : ℕ} → Shape g e m → (i max : ℕ) → word m a 0 ≡ suc max → i < max → get_or (bytes_of (object_at store (ρ a))) i 0 < 256
  byte_small S i max w l =
      let k : ℕ = g.size (a + 2) - suc (i / 8) in
      let z : g.size (a + 2) ≡ i / 8 + suc k = omega (arith, (R.text a max la w).2) in
      let c = down (λ x. word m x 2) (i / 8) (g.top (a + 2)) in
      omega (arith, byte_read c k i max (down_at g.own g.top g.size (λ x. word m x 2) S.chains (a + 2) (i / 8) k z) w z l)

  -- and it is set there.
  pub byte_set_lem : {e p hand : ℕ} {m' : List ℕ} → Shape g e m → Counts g p hand m
      → (c k i b : ℕ) (bs : List ℕ) → g.own c ≡ on (a + 2) k → object_at store (ρ a) ≡ text bs → g.size (a + 2) ≡ i / 8 + suc k → i < length bs → b < 256
      → Put m c (i % 8 / 4) (with_byte (word m c (i % 8 / 4)) (i % 8 % 4) b) m' → Rep keys n ρ g m' (set store (ρ a) (text (set bs i b))) roots
  byte_set_lem S C c k i b bs oc ob z l small P = let s : i / 8 * 8 + i % 8 ≡ i = omega arith in
      rw s at (rep_byte S C R c a k (i / 8) (i % 8) b bs oc la ob z (omega arith) (omega arith) small P)
