-- `write` meets its contract: a book that is not sound is not written, nor one whose text is longer than what is lent (Answers).
-- Assumes nothing.
use Rattle.std.proofs.Common.{◌∙◌, sym}
use Rattle.ledger_writer.proofs.Answers.{writes_malformed, writes_short, fits, writes_all}
use Rattle.ledger_writer.proofs.write.Goals as goal

pub returns-then-not-is_sound : goal.returns-then-not-is_sound
returns-then-not-is_sound c = writes_malformed _ _ _ (sym c.is_sound.ensures ∙ c.if-not-is_sound.true)

pub returns-then-text-bytes : goal.returns-then-text-bytes
returns-then-text-bytes c = writes_short _ _ _ (sym c.is_sound.ensures ∙ c.if-not-is_sound.false) c.emit-bytes.ensures c.if-text-bytes.true

pub emit-requires : goal.emit-requires
emit-requires c =
    let sound = sym c.is_sound.ensures ∙ c.if-not-is_sound.false in
    (sound, λ e. fits _ _ _ sound c.emit-bytes.ensures c.if-text-bytes.false)

pub returns : goal.returns
returns c = writes_all _ _ _ (sym c.is_sound.ensures ∙ c.if-not-is_sound.false) c.emit-bytes.ensures c.if-text-bytes.false c.emit.ensures
