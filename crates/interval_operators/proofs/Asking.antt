-- What the primitives ask of putinterval's operands, by their tags and sizes.
-- Assumes nothing.
use mathlib.Core.Path.{◌≡◌, sym, subst}
use mathlib.Core.List.{List}
use Prim.Native.Nat.{ℕ, ◌+◌, ◌≤◌, ◌<◌}
use native.Mathlib.Omega.{arith}
use lib.ListN.{get_or}
use Rattle.semantics.specs.Values.{null}
use Rattle.machine.specs.Rep.{Somewhere}
use Rattle.machine.specs.declared.Machine.{Machine}
use Rattle.elements.specs.Elements.{HasArray, HasString, ItemTag, ArraySize, StringSize, SomewhereThat}
use Rattle.elements.proofs.Tags.{tag_string, tag_array}
use Rattle.strings.specs.Strings.{Copies}
use Rattle.strings.proofs.Parts as bytewise
use Rattle.interval_operators.specs.Intervals.{ArrayItem, CopiesElements}
use Rattle.interval_operators.proofs.Moving as elementwise

module _ {i : ℕ} {m : Machine} {s c : List ℕ} where
  module _ (deep : i < m.depth) {n : ℕ} where
    pub small_string : SomewhereThat (HasString i) m s c → StringSize i m s c n → n ≤ 262144
    small_string (e, d, l, μ, R, a) N =
        let P = bytewise.part_too R i 0 0 deep (record { string = a; inside = omega arith }) R in
        omega (arith, P.few, N.says e d l μ R _ P.item)

    pub small_array : SomewhereThat (HasArray i) m s c → ArraySize i m s c n → n ≤ 32768
    small_array (e, d, l, μ, R, a) N =
        let P = elementwise.part R i 0 0 deep (record { array = a; inside = omega arith }) in
        omega (arith, P.few, N.says e d l μ R P.executable _ P.item)

module _ {m : Machine} {s c : List ℕ} {start n k : ℕ} (h : start + n ≤ k) where
  pub copies_bytes : ItemTag 2 m s 8 → ItemTag 0 m s 8 → Somewhere m s c → StringSize 0 m s c n → StringSize 2 m s c k → SomewhereThat (Copies 2 start 0 0 n) m s c
  copies_bytes X Z W N K =
      let e = W.0 in
      let d = W.1 in
      let l = W.2 in
      let μ = W.3 in
      let R = W.4 in
      let x = tag_string (get_or μ.stack 2 null) (sym (X.says e d c l μ R)) in
      let z = tag_string (get_or μ.stack 0 null) (sym (Z.says e d c l μ R)) in (
        e,
        d,
        l,
        μ,
        R,
        (
          record { string = record { id = x.0; item = x.1 }; inside = omega (arith, h, K.says e d l μ R x.0 x.1) },
          record { string = record { id = z.0; item = z.1 }; inside = omega (arith, N.says e d l μ R z.0 z.1) },
        ),
      )

  pub copies_elements : ArrayItem 2 m s → ArrayItem 0 m s → Somewhere m s c → ArraySize 0 m s c n → ArraySize 2 m s c k → SomewhereThat (CopiesElements 2 start 0 0 n) m s c
  copies_elements X Z W N K =
      let e = W.0 in
      let d = W.1 in
      let l = W.2 in
      let μ = W.3 in
      let R = W.4 in
      let x = tag_array (get_or μ.stack 2 null) (omega (arith, X.1, X.2.says e d c l μ R)) in
      let z = tag_array (get_or μ.stack 0 null) (omega (arith, Z.1, Z.2.says e d c l μ R)) in (
        e,
        d,
        l,
        μ,
        R,
        (
          record { array = record { executable = x.0; id = x.1; item = x.2 }; inside = omega (arith, h, K.says e d l μ R x.0 x.1 x.2) },
          record { array = record { executable = z.0; id = z.1; item = z.2 }; inside = omega (arith, N.says e d l μ R z.0 z.1 z.2) },
        ),
      )

pub whole_size : {i n : ℕ} {m : Machine} {s c : List ℕ} → ArraySize i m s c n → ArraySize i m s c (0 + n)
whole_size {i} {n} {m} {s} {c} N =
    let same : n ≡ 0 + n = omega arith in
    subst (ArraySize i m s c) same N
