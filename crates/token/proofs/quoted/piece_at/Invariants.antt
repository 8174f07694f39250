-- `token::quoted::piece_at` meets its contract. The loop's invariant: up to i the string gave no byte, and the machine is in the state.
-- Assumes nothing.
use Rattle.token.proofs.Escapes.{Reading}
use Rattle.token.proofs.quoted.piece_at.Given as goal

abbrev pub invariant-loop-i : goal.invariant-loop-i
invariant-loop-i l = Reading l.script l.at l.i l.met
