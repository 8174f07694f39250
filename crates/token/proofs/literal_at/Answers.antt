-- `token::literal_at` meets its contract: what follows the slash is a name byte, no number's beginning, and short enough.
-- Assumes nothing.
use Rattle.token.proofs.Lexemes.{literal_none, literal_number, literal_long, literal_name_lem}
use native.Mathlib.Omega.{arith}
use Rattle.token.proofs.Digits.{signs_few}
use Rattle.token.proofs.literal_at.Goals as goal

pub overflow_cast-result : goal.overflow_cast-result
overflow_cast-result c = let pre = c.requires in
    omega (arith, pre.slash_at.inside, pre.script_len_bound)

pub returns-then-size-eq0 : goal.returns-then-size-eq0
returns-then-size-eq0 c = let pre = c.requires in
    literal_none pre.slash_at c.run_end-end.ensures.value c.run_end-end.ensures.upper_bound c.if-size-eq0.true

pub starts_number-requires : goal.starts_number-requires
starts_number-requires c = tt

pub signs-requires : goal.signs-requires
signs-requires c = tt

pub overflow_add-result : goal.overflow_add-result
overflow_add-result c = let pre = c.requires in
    let few = signs_few _ c.signs.ensures in
    omega (arith, few, c.if-size-eq0.false, c.run_end-end.ensures.upper_bound, pre.script_len_bound)

pub overflow_cast-result-then-starts_number : goal.overflow_cast-result-then-starts_number
overflow_cast-result-then-starts_number c = let pre = c.requires in
    let few = signs_few _ c.signs.ensures in
    omega (arith, few, c.if-size-eq0.false, c.run_end-end.ensures.upper_bound, pre.script_len_bound)

pub returns-then-starts_number : goal.returns-then-starts_number
returns-then-starts_number c = let pre = c.requires in
    literal_number pre.slash_at c.run_end-end.ensures.value c.run_end-end.ensures.upper_bound _ c.starts_number.ensures c.if-size-eq0.false c.if-starts_number.true c.signs.ensures

pub returns-then-size-gt-NAME_MOST : goal.returns-then-size-gt-NAME_MOST
returns-then-size-gt-NAME_MOST c = let pre = c.requires in
    literal_long pre.slash_at c.run_end-end.ensures.value c.run_end-end.ensures.upper_bound _ c.starts_number.ensures c.if-size-eq0.false c.if-starts_number.false c.if-size-gt-NAME_MOST.true

pub returns : goal.returns
returns c = let pre = c.requires in
    literal_name_lem pre.slash_at c.run_end-end.ensures.value c.run_end-end.ensures.upper_bound _ c.starts_number.ensures c.if-size-eq0.false c.if-starts_number.false c.if-size-gt-NAME_MOST.false
