-- `forf_steps::act` meets its contract: each way to an answer by its law.
-- Assumes nothing.
use Rattle.forf_steps.proofs.Acting.{number_acts, substack_acts, word_acts, acts_as, held_as}
use native.Mathlib.Omega.{arith}
use Rattle.forf_steps.proofs.act.Goals as goal

pub overflow_add-start : goal.overflow_add-start
overflow_add-start c = let h = held_as _ c.in-Word.is c.requires.held in omega (arith, c.requires.short)

pub overflow_cast-body : goal.overflow_cast-body
overflow_cast-body c = let h = held_as _ c.in-Substack.is c.requires.held in omega (arith, h.inside, c.requires.short)

pub returns-in-Number : goal.returns-in-Number
returns-in-Number c = acts_as c.in-Number.is (number_acts _ _ c.push.ensures)

pub returns-in-Word : goal.returns-in-Word
returns-in-Word c = acts_as c.in-Word.is (word_acts _ _ c.operator_of-word.ensures c.perform_word.ensures)

pub returns-in-Substack : goal.returns-in-Substack
returns-in-Substack c = acts_as c.in-Substack.is (substack_acts _ _ (held_as _ c.in-Substack.is c.requires.held) c.push-in-Substack.ensures)
