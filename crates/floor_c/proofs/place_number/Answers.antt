-- `place_number` meets its contract: an answer that wrote no record has no place.
-- Assumes nothing.
use mathlib.Core.Path.{◌≡◌, refl}
use Prim.Native.Nat.{ℕ}
use Rattle.floor.specs.declared.Answer.{Answer}
use Rattle.floor.specs.declared.Answer.TheVariants.{Refused, BookMalformed, LabelTooLong, NoSlot, NoCells, NotFinished, BadStack, Late, NoRoom, Replaced, Added}
use Rattle.floor_c.specs.Reply.{place_number}
use Rattle.floor_c.proofs.place_number.Goals as goal

not_written : (x : Answer) → ((at : ℕ) → x ≡ Replaced at → ⊥) → ((at : ℕ) → x ≡ Added at → ⊥) → 0 ≡ place_number x
not_written (Refused n) r a = refl
not_written BookMalformed r a = refl
not_written LabelTooLong r a = refl
not_written NoSlot r a = refl
not_written NoCells r a = refl
not_written NotFinished r a = refl
not_written BadStack r a = refl
not_written Late r a = refl
not_written NoRoom r a = refl
not_written (Replaced at) r a = absurd (r at refl)
not_written (Added at) r a = absurd (a at refl)

pub returns-in_default : goal.returns-in_default
returns-in_default c = not_written c.args.answer c.in_default.not-Replaced c.in_default.not-Added
