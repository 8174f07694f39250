-- `is_sound` meets its contract: a count past the room, a place that is not sound, or every place is (SoundLaws).
use Rattle.std.proofs.Common.{◌∙◌, sym, arith, length}
use Rattle.book.proofs.SoundLaws.{room_within, each_sound, past_room, one_bad}
use Rattle.book.proofs.is_sound.Goals as goal

pub returns-then-room_of-count : goal.returns-then-room_of-count
returns-then-room_of-count c = sym (past_room c.args.book.now c.args.count (omega arith))

pub is_sound_at-requires : goal.is_sound_at-requires
is_sound_at-requires c =
    omega (arith, (room_within (length c.args.book.now)).0)

pub returns-then-not-is_sound_at : goal.returns-then-not-is_sound_at
returns-then-not-is_sound_at c = sym (one_bad c.args.book.now c.args.count c.loop-i.i (omega arith) (sym c.is_sound_at.ensures ∙ c.if-not-is_sound_at.true))

pub returns : goal.returns
returns c = sym (each_sound c.args.book.now c.args.count c.loop-i.invariant.0 (λ j l. c.loop-i.invariant.1 j (omega (arith, l))))
