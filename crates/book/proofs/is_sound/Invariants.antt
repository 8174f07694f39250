-- Every record before the place is sound.
use Rattle.std.proofs.Common.{◌≡◌, true, ◌≤◌, ◌<◌, ℕ, length}
use Rattle.book.specs.Books.{room_of}
use Rattle.book.proofs.SoundLaws.{sound_at}
use Rattle.book.proofs.is_sound.Given as goal

abbrev pub invariant-loop-i : goal.invariant-loop-i
invariant-loop-i l = (l.count ≤ room_of (length l.book)) × ((j : ℕ) → j < l.i → sound_at l.book j ≡ true)
