-- A refusal of 0 says that all nine tests failed: each would have given its number, which is not 0.
-- Assumes nothing.
use mathlib.Core.Path.{◌≡◌, refl}
use mathlib.Core.Bool.{Bool, true, false}
use mathlib.Core.List.{List, ◌∷◌}
use Prim.Native.Nat.{ℕ, suc, ◌<◌}
use native.Mathlib.Omega.{arith}
use borrow.Author.Tests.{ltb-false, not-false}
use Rattle.semantics.specs.Sizes.{name_count, stack_least, stack_most, exec_least, exec_most, dictionary_most, cells_least, cells_most}
use Rattle.semantics.specs.Setup.{Lent, refusal}
use Rattle.setup.specs.declared.Refusal.{Refusal}
use Rattle.setup.specs.declared.Refusal.TheVariants.{ScriptTooLong, NotAScript, TooMuchFuel, StackSlots, ExecutionSlots, DictionarySlots, Cells, LogTooLong, OutcomeTooShort}
use Rattle.setup.specs.Lending.{Accepted, number_of}
use Rattle.setup.proofs.Refusing.{Decides, untested, fails, holds, from_to}

-- No refusal has the number 0.
pub number_some : (r : Refusal) → 0 < number_of r
number_some ScriptTooLong = omega arith
number_some NotAScript = omega arith
number_some TooMuchFuel = omega arith
number_some StackSlots = omega arith
number_some ExecutionSlots = omega arith
number_some DictionarySlots = omega arith
number_some Cells = omega arith
number_some LogTooLong = omega arith
number_some OutcomeTooShort = omega arith

-- The first test fails, and the others decide.
zero_fails : {r n : ℕ} {t : Bool} {ts : List Bool} → r ≡ 0 → Decides r (suc n) (t ∷ ts) → (t ≡ false) × Decides r (suc (suc n)) ts
zero_fails {t = true} z D = absurd (omega (arith, z, holds D refl))
zero_fails {t = false} z D = (refl, fails D refl)

pub accepted : (script : List ℕ) (fuel : ℕ) (l : Lent) → refusal script fuel l ≡ 0 → Accepted script fuel l
accepted script fuel l z =
    let (short, D₁) = zero_fails z (untested script fuel l) in
    let (begins, D₂) = zero_fails z D₁ in
    let (fueled, D₃) = zero_fails z D₂ in
    let (stack, D₄) = zero_fails z D₃ in
    let (exec, D₅) = zero_fails z D₄ in
    let (dictionary, D₆) = zero_fails z D₅ in
    let (cells, D₇) = zero_fails z D₆ in
    let (log, D₈) = zero_fails z D₇ in
    let (outcome, _) = zero_fails z D₈ in
    record {
      short = ltb-false _ _ short;
      begins = not-false _ begins;
      fueled = ltb-false _ _ fueled;
      stack_slots = from_to stack_least stack_most _ stack;
      exec_slots = from_to exec_least exec_most _ exec;
      dictionary_slots = from_to name_count dictionary_most _ dictionary;
      cell_count = from_to cells_least cells_most _ cells;
      log_bytes = ltb-false _ _ log;
      outcome_bytes = ltb-false _ _ outcome;
    }
