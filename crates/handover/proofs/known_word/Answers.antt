-- `known_word` meets its contract: the length of the name in the slot tells the empty name.
-- Assumes nothing.
use Rattle.handover.proofs.Knowing.{stored_empty, stored_slot}
use Rattle.dictionary.proofs.Rebinding.{slot_size}
use mathlib.Core.Path.{refl, sym, ◌∙◌}
use Rattle.handover.proofs.known_word.Goals as goal

pub returns-then-dict-slot-eq0 : goal.returns-then-dict-slot-eq0
returns-then-dict-slot-eq0 c = record { knows = λ m s e k l μ R n key. stored_empty R n (sym (slot_size R _ n key) ∙ c.if-dict-slot-eq0.true) }

pub returns : goal.returns
returns c = record { knows = λ m s e k l μ R n key. stored_slot R n _ _ key (λ z. c.if-dict-slot-eq0.false (slot_size R _ n key ∙ z)) refl }
