-- `refused_number` meets its contract: an answer that is no refusal of setup has no number of one.
-- Assumes nothing.
use mathlib.Core.Path.{◌≡◌, refl}
use Prim.Native.Nat.{ℕ}
use Rattle.floor.specs.declared.Answer.{Answer}
use Rattle.floor.specs.declared.Answer.TheVariants.{Refused, BookMalformed, LabelTooLong, NoSlot, NoCells, NotFinished, BadStack, Late, NoRoom, Replaced, Added}
use Rattle.floor_c.specs.Reply.{refused_number}
use Rattle.floor_c.proofs.refused_number.Goals as goal

not_refused : (x : Answer) → ((n : ℕ) → x ≡ Refused n → ⊥) → 0 ≡ refused_number x
not_refused (Refused n) h = absurd (h n refl)
not_refused BookMalformed h = refl
not_refused LabelTooLong h = refl
not_refused NoSlot h = refl
not_refused NoCells h = refl
not_refused NotFinished h = refl
not_refused BadStack h = refl
not_refused Late h = refl
not_refused NoRoom h = refl
not_refused (Replaced at) h = refl
not_refused (Added at) h = refl

pub returns-in_default : goal.returns-in_default
returns-in_default c = not_refused c.args.answer c.in_default.not-Refused
