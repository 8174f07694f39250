-- `read_piece` meets its contract: a leaf and each brace by a law, and a fault or the end cannot be where a group is.
-- Assumes nothing.
use Rattle.group_building.proofs.Inverting.{some_piece, piece_open, piece_close, never_end, piece_leaf}
use native.Mathlib.Omega.{arith}
use Rattle.group_building.proofs.read_piece.Goals as goal

pub skip-start-requires : goal.skip-start-requires
skip-start-requires c = c.requires.4

pub token_at-requires : goal.token_at-requires
token_at-requires c = record { start_in_bounds = c.skip-start.ensures.upper_bound; script_len_bound = omega (arith, c.requires.5) }

pub unwrap-read-requires : goal.unwrap-read-requires
unwrap-read-requires c = some_piece _ _ _ c.skip-start.ensures.value c.requires.3 _ c.token_at.ensures

pub returns-in-OpenBrace : goal.returns-in-OpenBrace
returns-in-OpenBrace c = piece_open _ _ _ c.skip-start.ensures.value c.requires.3 c.token_at.ensures c.unwrap-read.ensures c.in-OpenBrace.is

pub returns-in-CloseBrace : goal.returns-in-CloseBrace
returns-in-CloseBrace c = piece_close _ _ _ c.skip-start.ensures.value c.requires.3 c.token_at.ensures c.unwrap-read.ensures c.in-CloseBrace.is

pub unreachable-requires : goal.unreachable-requires
unreachable-requires c = never_end _ _ _ c.skip-start.ensures.value c.requires.3 c.token_at.ensures c.unwrap-read.ensures c.in-End.is

pub returns-in_default : goal.returns-in_default
returns-in_default c = piece_leaf _ _ _ c.skip-start.ensures.value c.requires.3 c.token_at.ensures c.unwrap-read.ensures c.in_default.not-OpenBrace c.in_default.not-CloseBrace c.in_default.not-End
