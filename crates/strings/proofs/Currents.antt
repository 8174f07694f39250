-- The loop of `current_length`: no byte before byte q is zero.
-- Assumes nothing.
use mathlib.Core.Path.{◌≡◌, refl, sym, ap, ◌∙◌}
use mathlib.Core.List.{List, ◌∷◌}
use Prim.Native.Nat.{ℕ, suc, ◌+◌, ◌≤◌, ◌<◌}
use native.Mathlib.Omega.{arith}
use borrow.Author.Tests.{ne_eqb}
use lib.ListN.{length, get_or, drop, drop_of_length-le}
use lib.Seq.{drop-cons}
use Rattle.semantics.specs.Values.{null, string, current}
use Rattle.semantics.specs.Machine as Floo
use Rattle.semantics.specs.Machine.{object, bytes_of}
use Rattle.machine.specs.Rep.{Rep}
use Rattle.machine.specs.declared.Machine.{Machine}
use Rattle.elements.specs.Elements.{StringSize, ByteOf}
use Rattle.strings.specs.Strings.{CurrentSize}

-- ---- on lists

-- The first q bytes are all current.
abbrev pub Scans : List ℕ → ℕ → Type 0
Scans l q = length (current l) ≡ q + length (current (drop q l))

current_zero : (b : ℕ) (l : List ℕ) → b ≡ 0 → length (current (b ∷ l)) ≡ 0
unfolding current
current_zero b l z = rw z refl

current_more : (b : ℕ) (l : List ℕ) → (b ≡ 0 → ⊥) → length (current (b ∷ l)) ≡ suc (length (current l))
unfolding current
current_more b l z = rw (ne_eqb b 0 z, current) refl

pub scans_zero : (l : List ℕ) (q : ℕ) → Scans l q → q < length l → get_or l q 0 ≡ 0 → q ≡ length (current l)
scans_zero l q h inside z =
    let here = ap (λ (t : List ℕ). length (current t)) (drop-cons l q 0 inside) ∙ current_zero (get_or l q 0) (drop (suc q) l) z in
    omega (arith, h, here)

pub scans_more : (l : List ℕ) (q : ℕ) → Scans l q → q < length l → (get_or l q 0 ≡ 0 → ⊥) → Scans l (q + 1)
scans_more l q h inside z =
    let here = ap (λ (t : List ℕ). length (current t)) (drop-cons l q 0 inside) ∙ current_more (get_or l q 0) (drop (suc q) l) z in
    let next : q + 1 ≡ suc q = omega arith in
    let same = ap (λ k. length (current (drop k l))) next in
    omega (arith, h, here, same)

pub scans_all : (l : List ℕ) (q : ℕ) → Scans l q → length l ≤ q → q ≡ length (current l)
unfolding current
scans_all l q h past =
    let here = ap (λ (t : List ℕ). length (current t)) (drop_of_length-le l {i = q} past) in
    omega (arith, h, here)

-- ---- the loop

pub record Scanned (i : ℕ) (m : Machine) (s c : List ℕ) (q : ℕ) : Type 0 where
  pub says : (e d l : List ℕ) (μ : Floo.Machine)
      → Rep m s e d c l μ
      → (id : ℕ)
      → get_or μ.stack i null ≡ string id
      → Scans (bytes_of (object μ id)) q

pub begin : (i : ℕ) (m : Machine) (s c : List ℕ) → Scanned i m s c 0
begin i m s c = record { says = λ e d l μ R id x. omega arith }

module _ {i : ℕ} {m : Machine} {s c : List ℕ} {most q : ℕ} (Z : StringSize i m s c most) where
  module _ (S : Scanned i m s c q) where
    pub ends : most ≤ q → CurrentSize i m s c q
    ends h = record { says = λ e d l μ R id x. scans_all (bytes_of (object μ id)) q (S.says e d l μ R id x) (omega (arith, h, Z.says e d l μ R id x)) }

    module _ (h : q < most) {b : ℕ} (B : ByteOf i q m s c b) where
      pub stops : b ≡ 0 → CurrentSize i m s c q
      stops z =
          record {
            says = λ e d l μ R id x. scans_zero (bytes_of (object μ id)) q (S.says e d l μ R id x) (omega (arith, h, Z.says e d l μ R id x))
                (sym (B.says e d l μ R id x) ∙ z);
          }

      pub again : (b ≡ 0 → ⊥) → Scanned i m s c (q + 1)
      again z =
          record {
            says = λ e d l μ R id x. scans_more (bytes_of (object μ id)) q (S.says e d l μ R id x) (omega (arith, h, Z.says e d l μ R id x))
                (λ y. z (B.says e d l μ R id x ∙ y));
          }
