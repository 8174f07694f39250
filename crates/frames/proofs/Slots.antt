-- Six words, or the first three, are stored at an execution slot.
-- Assumes nothing.
use mathlib.Core.Path.{◌≡◌, ◌∙◌}
use mathlib.Core.List.{List}
use Prim.Native.Nat.{ℕ, ◌+◌, ◌*◌, ◌≤◌, ◌<◌}
use native.Mathlib.Omega.{arith}
use lib.ListN.{length, get_or, set, length-set}
use lib.Seq.{get_or-set_same, get_or-set_other}
use Rattle.machine.specs.Words.{frame_kind, frame_tag, frame_payload, frame_cell, frame_left, frame_final}
use Rattle.frames.proofs.Entering.{Put}

module _ (e : List ℕ) (n : ℕ) (fits : 8 * n + 8 ≤ length e) where
  -- Word 0 and two others.
  module _ (x i y j z : ℕ) (low : 0 < i) (up : i < j) (high : j < 8) where
    abbrev triple : List ℕ
    triple = set (set (set e (8 * n) x) (8 * n + i) y) (8 * n + j) z

    triple_long : length triple ≡ length e
    triple_long = length-set (set (set e (8 * n) x) (8 * n + i) y) (8 * n + j) z ∙ length-set (set e (8 * n) x) (8 * n + i) y ∙ length-set e (8 * n) x

    triple_else : (k : ℕ) → (k ≡ 8 * n → ⊥) → (k ≡ 8 * n + i → ⊥) → (k ≡ 8 * n + j → ⊥) → get_or triple k 0 ≡ get_or e k 0
    triple_else k a b c =
        get_or-set_other (set (set e (8 * n) x) (8 * n + i) y) (8 * n + j) k z 0 c
        ∙ get_or-set_other (set e (8 * n) x) (8 * n + i) k y 0 b
        ∙ get_or-set_other e (8 * n) k x 0 a

    triple_first : frame_kind triple n ≡ x
    triple_first =
        get_or-set_other (set (set e (8 * n) x) (8 * n + i) y) (8 * n + j) (8 * n) z 0 (λ q. omega arith)
        ∙ get_or-set_other (set e (8 * n) x) (8 * n + i) (8 * n) y 0 (λ q. omega arith)
        ∙ get_or-set_same e (8 * n) x 0 (omega arith)

    triple_second : get_or triple (8 * n + i) 0 ≡ y
    triple_second =
        get_or-set_other (set (set e (8 * n) x) (8 * n + i) y) (8 * n + j) (8 * n + i) z 0 (λ q. omega arith)
        ∙ get_or-set_same (set e (8 * n) x) (8 * n + i) y 0 (omega (arith, length-set e (8 * n) x))

    triple_third : get_or triple (8 * n + j) 0 ≡ z
    triple_third =
        get_or-set_same (set (set e (8 * n) x) (8 * n + i) y) (8 * n + j) z 0
        (omega (arith, length-set (set e (8 * n) x) (8 * n + i) y, length-set e (8 * n) x))

  -- Kind and value, or kind and two numbers; the other words are as they were.
  module _ (kind t p : ℕ) where
    abbrev three : List ℕ
    three = set (set (set e (8 * n) kind) (8 * n + 1) t) (8 * n + 2) p

    three_else : (k : ℕ) → (k ≡ 8 * n → ⊥) → (k ≡ 8 * n + 1 → ⊥) → (k ≡ 8 * n + 2 → ⊥) → get_or three k 0 ≡ get_or e k 0
    three_else = triple_else kind 1 t 2 p (omega arith) (omega arith) (omega arith)

    pub put_three : Put e three n kind t p (frame_cell e n) (frame_left e n) (frame_final e n)
    put_three =
        record {
          long = triple_long kind 1 t 2 p (omega arith) (omega arith) (omega arith);
          below = λ k l. three_else k (λ q. omega arith) (λ q. omega arith) (λ q. omega arith);
          kind_is = triple_first kind 1 t 2 p (omega arith) (omega arith) (omega arith);
          tag_is = triple_second kind 1 t 2 p (omega arith) (omega arith) (omega arith);
          pay_is = triple_third kind 1 t 2 p (omega arith) (omega arith) (omega arith);
          a_is = three_else (8 * n + 3) (λ q. omega arith) (λ q. omega arith) (λ q. omega arith);
          b_is = three_else (8 * n + 4) (λ q. omega arith) (λ q. omega arith) (λ q. omega arith);
          c_is = three_else (8 * n + 5) (λ q. omega arith) (λ q. omega arith) (λ q. omega arith);
        }

  pub put_numbers : (kind a b : ℕ)
      → Put e (set (set (set e (8 * n) kind) (8 * n + 3) a) (8 * n + 4) b) n kind (frame_tag e n) (frame_payload e n) a b (frame_final e n)
  put_numbers kind a b =
      let others = triple_else kind 3 a 4 b (omega arith) (omega arith) (omega arith) in
      record {
        long = triple_long kind 3 a 4 b (omega arith) (omega arith) (omega arith);
        below = λ k l. others k (λ q. omega arith) (λ q. omega arith) (λ q. omega arith);
        kind_is = triple_first kind 3 a 4 b (omega arith) (omega arith) (omega arith);
        tag_is = others (8 * n + 1) (λ q. omega arith) (λ q. omega arith) (λ q. omega arith);
        pay_is = others (8 * n + 2) (λ q. omega arith) (λ q. omega arith) (λ q. omega arith);
        a_is = triple_second kind 3 a 4 b (omega arith) (omega arith) (omega arith);
        b_is = triple_third kind 3 a 4 b (omega arith) (omega arith) (omega arith);
        c_is = others (8 * n + 5) (λ q. omega arith) (λ q. omega arith) (λ q. omega arith);
      }

  -- All six.
  module _ (kind t p a b c : ℕ) where
    abbrev pub six : List ℕ
    six = set (set (set (three kind t p) (8 * n + 3) a) (8 * n + 4) b) (8 * n + 5) c

    six_else : (k : ℕ) → (k ≡ 8 * n + 3 → ⊥) → (k ≡ 8 * n + 4 → ⊥) → (k ≡ 8 * n + 5 → ⊥) → get_or six k 0 ≡ get_or (three kind t p) k 0
    six_else k x y z =
        get_or-set_other (set (set (three kind t p) (8 * n + 3) a) (8 * n + 4) b) (8 * n + 5) k c 0 z
        ∙ get_or-set_other (set (three kind t p) (8 * n + 3) a) (8 * n + 4) k b 0 y
        ∙ get_or-set_other (three kind t p) (8 * n + 3) k a 0 x

    four_long : length (set (three kind t p) (8 * n + 3) a) ≡ length e
    four_long = length-set (three kind t p) (8 * n + 3) a ∙ (put_three kind t p).long

    five_long : length (set (set (three kind t p) (8 * n + 3) a) (8 * n + 4) b) ≡ length e
    five_long = length-set (set (three kind t p) (8 * n + 3) a) (8 * n + 4) b ∙ four_long

    pub put_six : Put e six n kind t p a b c
    put_six =
        record {
          long = length-set (set (set (three kind t p) (8 * n + 3) a) (8 * n + 4) b) (8 * n + 5) c ∙ five_long;
          below = λ k l. six_else k (λ q. omega arith) (λ q. omega arith) (λ q. omega arith) ∙ three_else kind t p k (λ q. omega arith) (λ q. omega arith) (λ q. omega arith);
          kind_is = six_else (8 * n) (λ q. omega arith) (λ q. omega arith) (λ q. omega arith) ∙ (put_three kind t p).kind_is;
          tag_is = six_else (8 * n + 1) (λ q. omega arith) (λ q. omega arith) (λ q. omega arith) ∙ (put_three kind t p).tag_is;
          pay_is = six_else (8 * n + 2) (λ q. omega arith) (λ q. omega arith) (λ q. omega arith) ∙ (put_three kind t p).pay_is;
          a_is =
              get_or-set_other (set (set (three kind t p) (8 * n + 3) a) (8 * n + 4) b) (8 * n + 5) (8 * n + 3) c 0 (λ q. omega arith)
              ∙ get_or-set_other (set (three kind t p) (8 * n + 3) a) (8 * n + 4) (8 * n + 3) b 0 (λ q. omega arith)
              ∙ get_or-set_same (three kind t p) (8 * n + 3) a 0 (omega (arith, (put_three kind t p).long));
          b_is =
              get_or-set_other (set (set (three kind t p) (8 * n + 3) a) (8 * n + 4) b) (8 * n + 5) (8 * n + 4) c 0 (λ q. omega arith)
              ∙ get_or-set_same (set (three kind t p) (8 * n + 3) a) (8 * n + 4) b 0 (omega (arith, four_long));
          c_is = get_or-set_same (set (set (three kind t p) (8 * n + 3) a) (8 * n + 4) b) (8 * n + 5) c 0 (omega (arith, five_long));
        }
