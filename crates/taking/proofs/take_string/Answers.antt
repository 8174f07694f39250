-- `take_string` meets its contract: the tests of room in the definition's order, then null, a new string in its place, and the token's bytes in that.
-- Assumes nothing.
use Rattle.std.proofs.lemmas.Result.{err_from_is_err_and}
use Rattle.taking.proofs.Texts.{string_few, string_over, string_full, string_done, null_there, fills, words_free, words_depth}
use mathlib.Core.Path.{◌∙◌}
use native.Mathlib.Omega.{arith}
use Rattle.taking.proofs.take_string.Goals as goal

pub returns-in_err-has_room : goal.returns-in_err-has_room
returns-in_err-has_room c =
    let p = err_from_is_err_and c.from_residual.result c.from_residual.ensures.1 in
    rw (p.1, p.2, c.in_err-has_room.ensures.1) (string_over (omega (arith, c.in_err-has_room.ensures.0)))

pub overflow_cast-n : goal.overflow_cast-n
overflow_cast-n c = omega (arith, c.requires.0, string_few c.requires.1)

pub overflow_add-n : goal.overflow_add-n
overflow_add-n c = omega (arith, c.requires.0, string_few c.requires.1)

pub overflow_add-n-2 : goal.overflow_add-n-2
overflow_add-n-2 c = omega (arith, c.requires.0, string_few c.requires.1)

pub returns-then-free_cells-n : goal.returns-then-free_cells-n
returns-then-free_cells-n c = string_full c.requires.1 (omega (arith, c.in_ok-has_room.ensures)) (omega (arith, c.if-free_cells-n.true, c.free_cells.ensures))

pub new_string-made-requires : goal.new_string-made-requires
new_string-made-requires c = let W = c.push_words-deeper.ensures in
    (omega (arith, words_depth W), omega (arith, words_free c.args.cells.now W, c.if-free_cells-n.false, c.free_cells.ensures), null_there (omega (arith, c.in_ok-has_room.ensures)) W c.requires.2)

pub fill-requires : goal.fill-requires
fill-requires c = let W = c.push_words-deeper.ensures in
    (omega (arith, words_depth W, c.new_string-made.ensures.depth_value), fills (omega (arith, c.in_ok-has_room.ensures)) W c.new_string-made.ensures.moves_heap c.requires.1 c.requires.2)

pub returns : goal.returns
returns c = let W = c.push_words-deeper.ensures in
    string_done c.requires.1 (omega (arith, c.in_ok-has_room.ensures)) W c.new_string-made.ensures.moves_heap c.fill.ensures (c.new_string-made.auto.stack ∙ c.push_words-deeper.auto.stack) (omega (arith, c.if-free_cells-n.false, c.free_cells.ensures))
