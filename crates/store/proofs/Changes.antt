-- One object becomes another of its kind and size, and a word of its body or what a cell names may change. Whatever else is said of
-- headers, roots and the dead stays, so only the changed object's values and bytes are left to show.
-- Assumes nothing.
use mathlib.Core.Path.{◌≡◌, refl, sym, ◌∙◌}
use mathlib.Core.List.{List, [], map}
use mathlib.Core.Logic.{inl, inr, ⊎_elim}
use Prim.Native.Nat.{ℕ, suc, ◌+◌, ◌*◌, ◌/◌, ◌%◌, ◌<◌}
use native.Mathlib.Omega.{arith}
use lib.ListN.{length, get_or, set, length-set}
use lib.Seq.{get_or-set_same, get_or-set_other, map-set_same}
use Rattle.semantics.specs.Values.{Value, null, Object, elements}
use Rattle.semantics.specs.Machine.{elements_of, bytes_of}
use Rattle.heap.specs.Word.{word}
use Rattle.heap.specs.Chain.{live, on}
use Rattle.heap.specs.Shape.{Ghost, Shape, Counts, cells}
use Rattle.heap.proofs.Upds.{same?}
use Rattle.store.specs.Rep.{is_text, Stands, byte_of, Names, object_at, element, Alive, Rep}
use Rattle.store.proofs.Places.{byte_same}
use Rattle.store.proofs.Deaths.{dead_keeps, alive?, element_alive}

-- ---- words that stand for nothing

-- All but words 0 and word 1 of body cells may change.
pub rep_kept : {keys : List (List ℕ)} {n : ℕ} {ρ : ℕ → ℕ} {g : Ghost} {m m' : List ℕ} {store : List Object} {roots : ℕ → Value} → Rep keys n ρ g m store roots
    → length m' ≡ length m → ((x : ℕ) → word m' x 0 ≡ word m x 0) → ((c a k : ℕ) → g.own c ≡ on (a + 2) k → word m' c 1 ≡ word m c 1) → Rep keys n ρ g m' store roots
rep_kept {m = m} {m' = m'} R size same pay = record {
  id = R.id;
  one = R.one;
  array = λ h l w. R.array h l (sym (same h) ∙ w);
  text = λ h max l w. R.text h max l (sym (same h) ∙ w);
  value = λ c a k q o l w z. rw (same c, pay c a k o) (R.value c a k q o l (sym (same a) ∙ w) z);
  bytes = λ c a k q max j o l w z j8 b.
      byte_same m m' c j j8 (same c) (pay c a k o) ∙ R.bytes c a k q max j o l (sym (same a) ∙ w) z j8 b;
  root = λ r h q. R.root r h (rw size at q);
  rooted = λ r i v. let y = R.rooted r i v in let x = y.1 in (y.0, (x.0, rw size x.1, x.2));
  every = R.every;
}

-- Counts and links may.
pub rep_words : {keys : List (List ℕ)} {n : ℕ} {ρ : ℕ → ℕ} {g : Ghost} {m m' : List ℕ} {store : List Object} {roots : ℕ → Value} → Rep keys n ρ g m store roots
    → length m' ≡ length m → ((x u : ℕ) → u < 2 → word m' x u ≡ word m x u) → Rep keys n ρ g m' store roots
rep_words R size same = rep_kept R size (λ x. same x 0 (omega arith)) (λ c a k o. same c 1 (omega arith))

-- ---- an object

-- The same cells, with other places naming.
abbrev pub aiming : Ghost → (ℕ → ℕ) → Ghost
aiming g aim = record { own = g.own; top = g.top; size = g.size; aim = aim }

-- What is said of an object, said of the one that takes its place.
pub at_set : (P : Object → Object → Type 0) (store : List Object) (j : ℕ) (o : Object) → j < length store
    → P o (object_at store j) → (i : ℕ) → P (object_at store i) (object_at store i) → P (object_at (set store j o) i) (object_at store i)
at_set P store j o l new i old = ⊎_elim
    (λ (e : i ≡ j). rw (e, get_or-set_same store j o (elements []) l) new)
    (λ (e : i ≡ j → ⊥). rw (get_or-set_other store j i o (elements []) e) old) (same? i j)

module _ {keys : List (List ℕ)} {n : ℕ} {ρ : ℕ → ℕ} {g : Ghost} {e p hand : ℕ} {m : List ℕ} {store : List Object} {roots : ℕ → Value}
    (S : Shape g e m) (C : Counts g p hand m) (R : Rep keys n ρ g m store roots)
    (aim : ℕ → ℕ) (m' : List ℕ) (a : ℕ) (o : Object) (la : g.own a ≡ live)
    (kind : is_text o ≡ is_text (object_at store (ρ a)))
    (many : length (elements_of o) ≡ length (elements_of (object_at store (ρ a))))
    (long : length (bytes_of o) ≡ length (bytes_of (object_at store (ρ a))))
    (size : length m' ≡ length m)
    (heads : (h : ℕ) → g.own h ≡ live → word m' h 0 ≡ word m h 0)
    (aims : (r : ℕ) → aim (cells m + r) ≡ g.aim (cells m + r))
    (lives : (q i : ℕ) → Names (get_or (elements_of o) q null) i → Alive ρ g i) where
  pub rep_change :
      ((c b k q : ℕ) → g.own c ≡ on (b + 2) k → g.own b ≡ live → word m b 0 ≡ 0 → g.size (b + 2) ≡ q + suc k
      → Stands keys (map is_text store) ρ (element (set store (ρ a) o) (ρ b) q) (word m' c 0) (word m' c 1))
      → ((c b k q max j : ℕ) → g.own c ≡ on (b + 2) k → g.own b ≡ live → word m b 0 ≡ suc max → g.size (b + 2) ≡ q + suc k → j < 8 → q * 8 + j < max
      → byte_of (word m' c (j / 4)) (j % 4) ≡ get_or (bytes_of (object_at (set store (ρ a) o) (ρ b))) (q * 8 + j) 0)
      → Rep keys n ρ (aiming g aim) m' (set store (ρ a) o) roots
  rep_change values bytes =
      let la' = R.id a la in
      let kinds : (i : ℕ) → is_text (object_at (set store (ρ a) o) i) ≡ is_text (object_at store i) = λ i. at_set (λ x y. is_text x ≡ is_text y) store (ρ a) o la' kind i refl in
      let many' : (i : ℕ) → length (elements_of (object_at (set store (ρ a) o) i)) ≡ length (elements_of (object_at store i)) =
      λ i. at_set (λ x y. length (elements_of x) ≡ length (elements_of y)) store (ρ a) o la' many i refl in
      let long' : (i : ℕ) → length (bytes_of (object_at (set store (ρ a) o) i)) ≡ length (bytes_of (object_at store i)) =
      λ i. at_set (λ x y. length (bytes_of x) ≡ length (bytes_of y)) store (ρ a) o la' long i refl in
      record {
        id = λ h l. rw (length-set store (ρ a) o) (R.id h l);
        one = R.one;
        array = λ h l w. let x = R.array h l (sym (heads h l) ∙ w) in (kinds (ρ h) ∙ x.0, many' (ρ h) ∙ x.1);
        text = λ h max l w. let x = R.text h max l (sym (heads h l) ∙ w) in (kinds (ρ h) ∙ x.0, long' (ρ h) ∙ x.1, x.2);
        value = λ c b k q oc lb w z. rw (map-set_same is_text store (ρ a) o (elements []) kind) (values c b k q oc lb (sym (heads b lb) ∙ w) z);
        bytes = λ c b k q max j oc lb w z. bytes c b k q max j oc lb (sym (heads b lb) ∙ w) z;
        root = λ r h x. R.root r h (sym (aims r) ∙ (rw size at x));
        rooted = λ r i v. let y = R.rooted r i v in let x = y.1 in (y.0, (x.0, rw size (aims r ∙ x.1), x.2));
        every = λ i l. ⊎_elim inl
            (λ x. inr (dead_keeps (Alive ρ g) store (set store (ρ a) o) roots roots (alive? S ρ)
            (λ r h w. inr w)
            (λ j q h y. at_set (λ x _. Names (get_or (elements_of x) q null) h → Alive ρ g h) store (ρ a) o la' (lives q h) j
            (λ w. element_alive S C R y.0 q h y.1 (rw y.2 w)))
            (λ j q h y w. rw (get_or-set_other store (ρ a) j o (elements []) (λ s. y (a, la, sym s))) at w)
            i (⊎_elim (λ y. absurd (x y)) (λ d. d) (R.every i (rw (length-set store (ρ a) o) at l))) x))
            (alive? S ρ i);
      }
