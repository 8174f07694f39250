-- Names in words: four bytes make a word, a loop of eight words packs a name, and words that agree byte by byte are equal.
-- Assumes nothing.
use mathlib.Core.Path.{◌≡◌, refl, sym, ap, ◌∙◌, subst}
use mathlib.Core.Bool.{Bool, true, false}
use mathlib.Core.List.{List}
use mathlib.Core.Logic.{⊎_elim}
use Prim.Native.Nat.{ℕ, ◌+◌, ◌*◌, ◌/◌, ◌%◌, ◌^◌, ◌≤◌, ◌<◌}
use native.Mathlib.Omega.{arith}
use lib.ListN.{length, get_or, set, length-set}
use lib.Seq.{get_or-set_same, get_or-set_other}
use Rattle.heap.proofs.Since.{lt_or_le}
use Rattle.store.specs.Rep.{byte_of}
use Rattle.store.proofs.Bytes.{four}
use Rattle.dictionary.specs.Packing.{Packs, Spells, Agrees, Tells, First, Bytes}

-- ---- a word and its bytes

low_byte : (y z : ℕ) → y < 256 → (y + 256 * z) % 256 ≡ y
low_byte y z l = omega arith

past_one : (y z : ℕ) → y < 256 → (y + 256 * z) / 256 ≡ z
past_one y z l = omega arith

past_two : (y z : ℕ) → y < 65536 → (y + 65536 * z) / 65536 ≡ z
past_two y z l = omega arith

past_three : (y z : ℕ) → y < 16777216 → (y + 16777216 * z) / 16777216 ≡ z
past_three y z l = omega arith

-- The word of four bytes.
abbrev pub word_of : ℕ → ℕ → ℕ → ℕ → ℕ
word_of a b c d = a + 256 * b + 65536 * c + 16777216 * d

module _ (a b c d : ℕ) (al : a < 256) (bl : b < 256) (cl : c < 256) (dl : d < 256) where
  first_byte : byte_of (word_of a b c d) 0 ≡ a
  first_byte =
      let e : word_of a b c d / 1 ≡ a + 256 * (b + 256 * (c + 256 * d)) = omega arith in
      ap (λ x. x % 256) e ∙ low_byte a (b + 256 * (c + 256 * d)) al

  second_byte : byte_of (word_of a b c d) 1 ≡ b
  second_byte =
      let e : word_of a b c d ≡ a + 256 * (b + 256 * (c + 256 * d)) = omega arith in
      ap (λ x. x / 256 % 256) e ∙ ap (λ x. x % 256) (past_one a (b + 256 * (c + 256 * d)) al) ∙ low_byte b (c + 256 * d) bl

  third_byte : byte_of (word_of a b c d) 2 ≡ c
  third_byte =
      let e : word_of a b c d ≡ a + 256 * b + 65536 * (c + 256 * d) = omega arith in
      ap (λ x. x / 65536 % 256) e ∙ ap (λ x. x % 256) (past_two (a + 256 * b) (c + 256 * d) (omega arith)) ∙ low_byte c d cl

  fourth_byte : byte_of (word_of a b c d) 3 ≡ d
  fourth_byte =
      let e : d ≡ d + 256 * 0 = omega arith in
      ap (λ x. x % 256) (past_three (a + 256 * b + 65536 * c) d (omega arith)) ∙ ap (λ x. x % 256) e ∙ low_byte d 0 dl

pub four_bytes : (n : List ℕ) (start : ℕ) {a b c d : ℕ}
    → a < 256
    → b < 256
    → c < 256
    → d < 256
    → a ≡ get_or n start 0
    → b ≡ get_or n (start + 1) 0
    → c ≡ get_or n (start + 2) 0
    → d ≡ get_or n (start + 3) 0
    → Bytes n start (word_of a b c d)
four_bytes n start {a} {b} {c} {d} al bl cl dl ae be ce de =
    let same : start ≡ start + 0 = omega arith in
    record {
      are = four (λ j. byte_of (word_of a b c d) j ≡ get_or n (start + j) 0)
          (first_byte a b c d al bl cl dl ∙ ae ∙ ap (λ x. get_or n x 0) same)
          (second_byte a b c d al bl cl dl ∙ be)
          (third_byte a b c d al bl cl dl ∙ ce)
          (fourth_byte a b c d al bl cl dl ∙ de);
    }

-- A word is that of its bytes.
halves : (w : ℕ) → w ≡ w % 65536 + 65536 * (w / 65536)
halves w = omega arith

low_half : (w : ℕ) → w % 65536 ≡ w % 256 + 256 * (w / 256 % 256)
low_half w = omega arith

high_half : (w : ℕ) → w < 2 ^ 32 → w / 65536 ≡ w / 65536 % 256 + 256 * (w / 16777216 % 256)
high_half w l = omega arith

pub made_of : (w : ℕ) → w < 2 ^ 32 → w ≡ word_of (byte_of w 0) (byte_of w 1) (byte_of w 2) (byte_of w 3)
made_of w l =
    let one : w / 1 ≡ w = omega arith in
    let first : byte_of w 0 ≡ w % 256 = ap (λ x. x % 256) one in
    halves w
    ∙ ap (λ x. x + 65536 * (w / 65536)) (low_half w)
    ∙ ap (λ x. w % 256 + 256 * byte_of w 1 + 65536 * x) (high_half w l)
    ∙ joined (w % 256) (byte_of w 0) (byte_of w 1) (byte_of w 2) (byte_of w 3) first
  where
    joined : (z a b c d : ℕ) → a ≡ z → z + 256 * b + 65536 * (c + 256 * d) ≡ word_of a b c d
    joined z a b c d e = omega arith

pub same_bytes : (w v : ℕ) → w < 2 ^ 32 → v < 2 ^ 32 → ((j : ℕ) → j < 4 → byte_of w j ≡ byte_of v j) → w ≡ v
same_bytes w v wl vl h =
    made_of w wl
    ∙ ap (λ x. word_of x (byte_of w 1) (byte_of w 2) (byte_of w 3)) (h 0 (omega arith))
    ∙ ap (λ x. word_of (byte_of v 0) x (byte_of w 2) (byte_of w 3)) (h 1 (omega arith))
    ∙ ap (λ x. word_of (byte_of v 0) (byte_of v 1) x (byte_of w 3)) (h 2 (omega arith))
    ∙ ap (λ x. word_of (byte_of v 0) (byte_of v 1) (byte_of v 2) x) (h 3 (omega arith))
    ∙ sym (made_of v vl)

-- ---- a name is packed

-- The first i words are packed.
pub record Packing (n : List ℕ) (at : ℕ) (d d' : List ℕ) (i : ℕ) : Type 0 where
  pub few : i ≤ 8
  pub long : length d' ≡ length d
  pub packs : Packs i n at d d'

module _ {n : List ℕ} {at : ℕ} {d : List ℕ} where
  pub pack_begin : Packing n at d d 0
  pack_begin =
      record { few = omega arith; long = refl; packs = record { spelt = λ j l. absurd (omega arith); below = λ k l. refl; above = λ k l. refl } }

  module _ {i : ℕ} {d' : List ℕ} (P : Packing n at d d' i) where
    pub pack_inside : at + 8 ≤ length d → i < 8 → at + i < length d'
    pack_inside room l = omega (arith, P.long)

    pub pack_again : {w : ℕ} → at + 8 ≤ length d → i < 8 → Bytes n (4 * i) w → Packing n at d (set d' (at + i) w) (i + 1)
    pack_again {w} room l B =
        record {
          few = omega arith;
          long = length-set d' (at + i) w ∙ P.long;
          packs = record {
            spelt = λ j x.
                ⊎_elim
                (λ (y : j < 4 * i).
                ap (λ v. byte_of v (j % 4)) (get_or-set_other d' (at + i) (at + j / 4) w 0 (λ e. omega arith)) ∙ P.packs.spelt j y)
                (λ (y : 4 * i ≤ j).
                let place : at + j / 4 ≡ at + i = omega arith in
                let byte : 4 * i + j % 4 ≡ j = omega arith in
                ap (λ v. byte_of (get_or (set d' (at + i) w) v 0) (j % 4)) place
                ∙ ap (λ v. byte_of v (j % 4)) (get_or-set_same d' (at + i) w 0 (pack_inside room l))
                ∙ B.are (j % 4) (omega arith)
                ∙ ap (λ v. get_or n v 0) byte)
                (lt_or_le j (4 * i));
            below = λ k x. get_or-set_other d' (at + i) k w 0 (λ e. omega arith) ∙ P.packs.below k x;
            above = λ k x. get_or-set_other d' (at + i) k w 0 (λ e. omega arith) ∙ P.packs.above k (omega arith);
          };
        }

    pub pack_end : 8 ≤ i → Packs 8 n at d d'
    pack_end l =
        let all : i ≡ 8 = omega (arith, P.few) in
        subst (λ x. Packs x n at d d') all P.packs

-- A length before them.
pub spells : {k : ℕ} {n d d' : List ℕ} → 12 * k + 12 ≤ length d → Packs 8 n (12 * k + 1) (set d (12 * k) (length n)) d' → Spells k n d d'
spells {k} {n} {d} room P =
    record {
      size = P.below (12 * k) (omega arith) ∙ get_or-set_same d (12 * k) (length n) 0 (omega arith);
      spelt = λ j l. P.spelt j (omega arith);
      others = λ i f.
          ⊎_elim
          (λ (y : i < 12 * k). P.below i (omega arith) ∙ get_or-set_other d (12 * k) i (length n) 0 (λ e. omega arith))
          (λ (y : 12 * k ≤ i). P.above i (omega (arith, f y)) ∙ get_or-set_other d (12 * k) i (length n) 0 (λ e. omega (arith, f y)))
          (lt_or_le i (12 * k));
    }

-- ---- words are compared

-- The size agrees, and the first i words.
pub record Agreeing (d : List ℕ) (at size : ℕ) (w : List ℕ) (i : ℕ) : Type 0 where
  pub few : i ≤ 8
  pub size_is : get_or d at 0 ≡ size
  pub words_are : (k : ℕ) → k < i → get_or d (at + 1 + k) 0 ≡ get_or w k 0

module _ {d : List ℕ} {at size : ℕ} {w : List ℕ} where
  pub agree_begin : get_or d at 0 ≡ size → Agreeing d at size w 0
  agree_begin q = record { few = omega arith; size_is = q; words_are = λ k l. absurd (omega arith) }

  pub size_differs : (get_or d at 0 ≡ size → ⊥) → Agrees d at size w → ⊥
  size_differs f A = f A.size_is

  pub word_differs : (i : ℕ)
      → i < 8
      → get_or d (at + 1 + i) 0 < 2 ^ 32
      → get_or w i 0 < 2 ^ 32
      → (get_or d (at + 1 + i) 0 ≡ get_or w i 0 → ⊥)
      → Agrees d at size w
      → ⊥
  word_differs i l dl wl f A =
      f (same_bytes (get_or d (at + 1 + i) 0) (get_or w i 0) dl wl
      (λ j x.
      let place : i ≡ (4 * i + j) / 4 = omega arith in
      let byte : j ≡ (4 * i + j) % 4 = omega arith in
      ap (λ y. byte_of (get_or d (at + 1 + y) 0) j) place
      ∙ ap (λ y. byte_of (get_or d (at + 1 + (4 * i + j) / 4) 0) y) byte
      ∙ A.bytes_are (4 * i + j) (omega arith)
      ∙ sym (ap (λ y. byte_of (get_or w y 0) j) place ∙ ap (λ y. byte_of (get_or w ((4 * i + j) / 4) 0) y) byte)))

  module _ {i : ℕ} (A : Agreeing d at size w i) where
    pub agree_again : i < 8 → get_or d (at + 1 + i) 0 ≡ get_or w i 0 → Agreeing d at size w (i + 1)
    agree_again l q =
        record {
          few = omega arith;
          size_is = A.size_is;
          words_are = λ k x.
              ⊎_elim
              (λ (y : k < i). A.words_are k y)
              (λ (y : i ≤ k).
              let e : i ≡ k = omega arith in
              ap (λ z. get_or d (at + 1 + z) 0) (sym e) ∙ q ∙ ap (λ z. get_or w z 0) e)
              (lt_or_le k i);
        }

    pub agree_end : 8 ≤ i → Agrees d at size w
    agree_end l = record { size_is = A.size_is; bytes_are = λ j x. ap (λ v. byte_of v (j % 4)) (A.words_are (j / 4) (omega arith)) }

-- ---- slots are searched

told : {A : Type 0} (b : Bool) → b ≡ true → Tells A b → A
told true e h = h
told false e h =
    let z : ◌≡◌ {A = ℕ} 0 1 = cc in
    absurd (omega arith)

told_not : {A : Type 0} (b : Bool) → b ≡ false → Tells A b → A → ⊥
told_not true e h =
    let z : ◌≡◌ {A = ℕ} 0 1 = cc in
    absurd (omega arith)
told_not false e h = h

-- None of the first k agrees.
pub record Passed (d : List ℕ) (n size : ℕ) (w : List ℕ) (k : ℕ) : Type 0 where
  pub few : k ≤ n
  pub none : (i : ℕ) → i < k → Agrees d (12 * i) size w → ⊥

module _ {d : List ℕ} {n size : ℕ} {w : List ℕ} where
  pub pass_begin : Passed d n size w 0
  pass_begin = record { few = omega arith; none = λ i l. absurd (omega arith) }

  module _ {k : ℕ} (P : Passed d n size w k) where
    pub pass_again : k < n → {b : Bool} → Tells (Agrees d (12 * k) size w) b → b ≡ false → Passed d n size w (k + 1)
    pass_again l {b} t q =
        let f = told_not b q t in
        record {
          few = omega arith;
          none = λ i x A.
              ⊎_elim
              (λ (y : i < k). P.none i y A)
              (λ (y : k ≤ i).
              let e : i ≡ k = omega arith in
              f (rw e at A))
              (lt_or_le i k);
        }

    pub pass_found : {b : Bool} → Tells (Agrees d (12 * k) size w) b → b ≡ true → First d n size w k
    pass_found {b} t q = record { before = P.none; here = λ l. told b q t }

    pub pass_end : n ≤ k → First d n size w k
    pass_end l = record { before = P.none; here = λ x. absurd (omega arith) }
