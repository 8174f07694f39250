-- The loop of `read_bytes`: the first q bytes of the item are read, and the others are as they were. Current bytes are the first of a string's.
-- Assumes nothing.
use mathlib.Core.Path.{◌≡◌, refl, sym, ap, ◌∙◌}
use mathlib.Core.List.{List}
use mathlib.Core.Logic.{⊎_elim}
use Prim.Native.Nat.{ℕ, ◌+◌, ◌≤◌, ◌<◌}
use native.Mathlib.Omega.{arith}
use lib.ListN.{length, get_or, set, take, length-set}
use lib.Seq.{length-take-le, get_or-take, get_or-set_same, get_or-set_other, ext_get_or}
use Rattle.semantics.specs.Values.{null, string, current}
use Rattle.semantics.specs.Machine as Floo
use Rattle.semantics.specs.Machine.{object, bytes_of}
use Rattle.heap.proofs.Since.{lt_or_le}
use Rattle.machine.specs.Rep.{Rep}
use Rattle.machine.specs.declared.Machine.{Machine}
use Rattle.elements.specs.Elements.{HasByte, SomewhereThat, ByteOf}
use Rattle.strings.specs.Strings.{HasBytes, ReadsBytes}
use Rattle.strings.proofs.Prefixes.{current_byte}

pub record Reads (i n : ℕ) (m : Machine) (s c out₀ out : List ℕ) (q : ℕ) : Type 0 where
  pub long : length out ≡ length out₀
  pub low : q ≤ n
  pub bytes : ReadsBytes i q m s c out₀ out

pub begin : (i n : ℕ) (m : Machine) (s c out : List ℕ) → Reads i n m s c out out 0
begin i n m s c out = record { long = refl; low = omega arith; bytes = record { says = λ e d l μ R id x q h. absurd (omega arith); rest = λ q h. refl } }

pub has_byte : {i : ℕ} {m : Machine} {s c : List ℕ} {n q : ℕ} → SomewhereThat (HasBytes i 0 n) m s c → q < n → SomewhereThat (HasByte i q) m s c
has_byte (e, d, l, μ, R, a) h = (e, d, l, μ, R, record { string = a.string; inside = omega (arith, h, a.inside) })

pub again : {i n : ℕ} {m : Machine} {s c out₀ out : List ℕ} {q b : ℕ}
    → Reads i n m s c out₀ out q
    → q < n
    → q < length out₀
    → ByteOf i q m s c b
    → Reads i n m s c out₀ (set out q b) (q + 1)
again {i} {n} {m} {s} {c} {out₀} {out} {q} {b} S less inside B =
    record {
      long = length-set out q b ∙ S.long;
      low = omega (arith, less);
      bytes = record {
        says = λ e d l μ R id x j h.
            ⊎_elim
            (λ (z : j < q). get_or-set_other out q j b 0 (λ w. omega arith) ∙ S.bytes.says e d l μ R id x j z)
            (λ (z : q ≤ j).
            let here : j ≡ q = omega arith in
            ap (λ w. get_or (set out q b) w 0) here
            ∙ get_or-set_same out q b 0 (omega (arith, S.long))
            ∙ B.says e d l μ R id x
            ∙ ap (λ w. get_or (bytes_of (object μ id)) w 0) (sym here))
            (lt_or_le j q);
        rest = λ j h. get_or-set_other out q j b 0 (λ w. omega arith) ∙ S.bytes.rest j (omega arith);
      };
    }

pub finish : {i n q : ℕ} {m : Machine} {s c out₀ out : List ℕ} → n ≤ q → Reads i n m s c out₀ out q → ReadsBytes i n m s c out₀ out
finish h S =
    record {
      says = λ e d l μ R id x j z. S.bytes.says e d l μ R id x j (omega arith);
      rest = λ j z. S.bytes.rest j (omega (arith, S.low));
    }

-- As many as there are current bytes: these are read.
pub read_all : {i n : ℕ} {m : Machine} {s e d c l out₀ out : List ℕ} {μ : Floo.Machine}
    → Rep m s e d c l μ
    → (id : ℕ)
    → get_or μ.stack i null ≡ string id
    → n ≡ length (current (bytes_of (object μ id)))
    → n ≤ length out
    → ReadsBytes i n m s c out₀ out
    → take n out ≡ current (bytes_of (object μ id))
read_all {n = n} {e = e} {d = d} {l = l} {out = out} {μ = μ} R id x size room B =
    let long = length-take-le n out room in
    let bs = bytes_of (object μ id) in
    ext_get_or 0 (take n out) (current bs) (long ∙ size)
    (λ j h.
    let low : j < n = omega (arith, long) in
    get_or-take n out j 0 low ∙ B.says e d l μ R id x j low ∙ sym (current_byte bs j (omega (arith, size))))
