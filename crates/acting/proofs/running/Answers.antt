-- `acting::running` meets its contract: by how many elements are left, and by the tag of the next.
-- Assumes nothing.
use mathlib.Core.Path.{sym, ◌∙◌}
use native.Mathlib.Omega.{arith}
use Rattle.frames.proofs.Running.{run_at, cell_room}
use Rattle.turns.proofs.Fitting.{turn_frames}
use Rattle.operators.proofs.Named.{frames_all}
use Rattle.acting.proofs.Executing.{binding_all}
use Rattle.acting.proofs.running.Goals as goal

pub finish-requires : goal.finish-requires
finish-requires c = (c.requires.0, c.requires.1, c.if-left-eq0.true, (_, _, _, _, c.requires.3.1))

pub returns-then-left-eq0 : goal.returns-then-left-eq0
returns-then-left-eq0 c = frames_all _ (turn_frames _ c.finish.ensures _) _ _

pub get-tag-requires : goal.get-tag-requires
get-tag-requires c = let R = c.requires.3.1 in let x = run_at R _ (omega (arith, c.requires.0)) c.requires.1 in (omega arith, cell_room R _ (omega (arith, c.requires.0)) x.0 x.1 x.2 (omega (arith, c.if-left-eq0.false)))

pub perform_element-requires : goal.perform_element-requires
perform_element-requires c = let four = sym c.get-tag.ensures ∙ c.if-tag-eq-TAG_OPERATOR.true in
    (c.requires.0, c.requires.1, omega (arith, c.if-left-eq0.false), four, c.requires.2.element c.requires.1 (omega (arith, c.if-left-eq0.false)) four, c.requires.3)

pub returns-then-tag-eq-TAG_OPERATOR : goal.returns-then-tag-eq-TAG_OPERATOR
returns-then-tag-eq-TAG_OPERATOR c = c.perform_element.ensures

pub name_element-requires : goal.name_element-requires
name_element-requires c = (c.requires.0, c.requires.1, omega (arith, c.if-left-eq0.false), sym c.get-tag.ensures ∙ c.if-tag-eq-TAG_EXECUTABLE.true, (_, _, _, c.requires.3.1))

pub returns-then-tag-eq-TAG_EXECUTABLE : goal.returns-then-tag-eq-TAG_EXECUTABLE
returns-then-tag-eq-TAG_EXECUTABLE c = binding_all _ c.name_element.ensures _ _

pub push_next-requires : goal.push_next-requires
push_next-requires c = (c.requires.0, c.requires.1, omega (arith, c.if-left-eq0.false), (λ q. c.if-tag-eq-TAG_OPERATOR.false (c.get-tag.ensures ∙ q), λ q. c.if-tag-eq-TAG_EXECUTABLE.false (c.get-tag.ensures ∙ q)), (_, _, _, c.requires.3.1))

pub returns : goal.returns
returns c = frames_all _ c.push_next.ensures _ _
