-- The loop of `read_name`: after each turn one byte more of the name stands in the buffer, so that at the end its first bytes are the name.
-- Assumes nothing.
use mathlib.Core.Path.{◌≡◌, refl, sym, ap, ◌∙◌}
use mathlib.Core.List.{List}
use mathlib.Core.Logic.{⊎_elim}
use mathlib.Core.Option.{some}
use Prim.Native.Nat.{ℕ, ◌+◌, ◌≤◌, ◌<◌}
use native.Mathlib.Omega.{arith}
use lib.ListN.{length, get_or, get_elem?, set, take, length-set}
use lib.Seq.{length-take-le, get_or-take, get_or-set_same, get_or-set_other, ext_get_or}
use Rattle.semantics.specs.Sizes.{name_most}
use Rattle.semantics.specs.Machine as Floo
use Rattle.heap.proofs.Since.{lt_or_le}
use Rattle.machine.specs.Places.{keys}
use Rattle.machine.specs.Rep.{Rep}
use Rattle.machine.specs.declared.Machine.{Machine}
use Rattle.names.specs.Names.{Named, NameSize, NameByte}
use Rattle.conversions.specs.Texts.{NameRead}

pub few : {k r : ℕ} {d : List ℕ} → NameSize k d r → Named k d → r ≤ name_most
few Z N = (Z.says N.small N.stack N.exec N.heap N.log N.machine N.rep N.name N.slot).1

pub record Reads (k : ℕ) (d out₀ out : List ℕ) (j : ℕ) : Type 0 where
  pub long : length out ≡ length out₀
  pub says : (m : Machine) (s e c l : List ℕ) (μ : Floo.Machine)
      → Rep m s e d c l μ
      → (n : List ℕ)
      → get_elem? (keys μ) k ≡ some n
      → (i : ℕ)
      → i < j
      → get_or out i 0 ≡ get_or n i 0

pub begin : (k : ℕ) (d out : List ℕ) → Reads k d out out 0
begin k d out = record { long = refl; says = λ m s e c l μ R n q i h. absurd (omega arith) }

module _ {k : ℕ} {d out₀ out : List ℕ} {j : ℕ} (S : Reads k d out₀ out j) where
  pub again : j < length out₀ → {b : ℕ} → NameByte k j d b → Reads k d out₀ (set out j b) (j + 1)
  again inside {b} B =
      record {
        long = length-set out j b ∙ S.long;
        says = λ m s e c l μ R n q i h.
            ⊎_elim
            (λ (z : i < j). get_or-set_other out j i b 0 (λ w. omega arith) ∙ S.says m s e c l μ R n q i z)
            (λ (z : j ≤ i).
            let here : i ≡ j = omega arith in
            ap (λ w. get_or (set out j b) w 0) here
            ∙ get_or-set_same out j b 0 (omega (arith, S.long, inside))
            ∙ B.says m s e c l μ R n q
            ∙ ap (λ w. get_or n w 0) (sym here))
            (lt_or_le i j);
      }

  pub finish : {r : ℕ} → NameSize k d r → r ≤ j → r ≤ length out₀ → NameRead k d out r
  finish {r} Z past room =
      record {
        inside = omega (arith, room, S.long);
        says = λ m s e c l μ R n q.
            let long = length-take-le r out (omega (arith, room, S.long)) in
            ext_get_or 0 (take r out) n (long ∙ (Z.says m s e c l μ R n q).0)
            (λ i h.
            let low : i < r = omega (arith, long, h) in
            get_or-take r out i 0 low ∙ S.says m s e c l μ R n q i (omega (arith, low, past)));
      }
