-- The loop that copies a string's current bytes to the log: the first q of them are written.
-- Assumes nothing.
use mathlib.Core.Path.{◌≡◌, refl, sym, ◌∙◌, subst}
use mathlib.Core.List.{List, []}
use Prim.Native.Nat.{ℕ, ◌+◌, ◌≤◌, ◌<◌}
use native.Mathlib.Omega.{arith}
use lib.ListN.{length, get_or, take, set, length-set}
use lib.Seq.{take_all}
use Rattle.semantics.specs.Values.{null, string, current}
use Rattle.semantics.specs.Machine as Floo
use Rattle.semantics.specs.Machine.{object, bytes_of}
use Rattle.text.specs.Writing.{Written}
use Rattle.text.proofs.Pasting.{nothing, next}
use Rattle.machine.specs.Rep.{Rep}
use Rattle.machine.specs.declared.Machine.{Machine}
use Rattle.elements.specs.Elements.{HasString, HasByte, SomewhereThat, ByteOf}
use Rattle.strings.specs.Strings.{CurrentSize}
use Rattle.strings.proofs.Prefixes.{current_byte, current_few}
use Rattle.output_operators.specs.Output.{CopiesCurrent}

pub record Copied (m : Machine) (s c : List ℕ) (q : ℕ) (old new : List ℕ) : Type 0 where
  pub long : length new ≡ length old
  pub says : (e d l : List ℕ) (μ : Floo.Machine)
      → Rep m s e d c l μ
      → (id : ℕ)
      → get_or μ.stack 0 null ≡ string id
      → Written m.written (take q (current (bytes_of (object μ id)))) old new (m.written + q)

pub copied_begin : (m : Machine) (s c old : List ℕ) → Copied m s c 0 old old
copied_begin m s c old =
    let end : m.written ≡ m.written + 0 = omega arith in
    record { long = refl; says = λ e d l μ R id x. subst (λ r. Written m.written [] old old r) end (nothing m.written old) }

module _ {m : Machine} {s c : List ℕ} {n : ℕ} (Z : CurrentSize 0 m s c n) {q : ℕ} where
  -- A current byte is one of the string's bytes.
  pub has_byte : SomewhereThat (HasString 0) m s c → q < n → SomewhereThat (HasByte 0 q) m s c
  has_byte (e, d, l, μ, R, a) h =
      let size = Z.says e d l μ R a.id a.item in
      (e, d, l, μ, R, record { string = a; inside = omega (arith, h, size, current_few (bytes_of (object μ a.id))) })

  module _ {old new : List ℕ} (T : Copied m s c q old new) (room : m.written + n ≤ length old) where
    pub copied_again : {b : ℕ} → q < n → ByteOf 0 q m s c b → Copied m s c (q + 1) old (set new (m.written + q) b)
    copied_again {b} inside B =
        record {
          long = length-set new (m.written + q) b ∙ T.long;
          says = λ e d l μ R id x.
              let bs = current (bytes_of (object μ id)) in
              let size = Z.says e d l μ R id x in
              let low : q < length bs = omega (arith, inside, size) in
              let byte : get_or bs q 0 ≡ b = current_byte (bytes_of (object μ id)) q low ∙ sym (B.says e d l μ R id x) in
              subst (λ v. Written m.written (take (q + 1) bs) old (set new (m.written + q) v) (m.written + (q + 1))) byte
              (next m.written q bs low (omega (arith, room, size)) (T.says e d l μ R id x));
        }

    pub copied_ends : q ≡ n → CopiesCurrent m s c old new n
    copied_ends z =
        record {
          says = λ e d l μ R id x.
              let bs = current (bytes_of (object μ id)) in
              let all = take_all q bs (omega (arith, z, Z.says e d l μ R id x)) in
              subst (λ k. Written m.written bs old new (m.written + k)) z (subst (λ (t : List ℕ). Written m.written t old new (m.written + q)) all (T.says e d l μ R id x));
        }
