-- `frames::run_top` meets its contract: the header says how many elements are left, and `seek` finds the first one's cell.
-- Assumes nothing.
use Rattle.frames.proofs.Running.{header_room, lives, sized, shape, starts}
use native.Mathlib.Omega.{arith}
use mathlib.Core.Path.{sym, ◌∙◌}
use Prim.Native.Nat.{◌-◌}
use Rattle.frames.proofs.run_top.Goals as goal

pub size-n-requires : goal.size-n-requires
size-n-requires c = let R = c.requires.2.4 in header_room R _ (omega (arith, c.requires.0)) c.requires.1

pub seek-first-requires : goal.seek-first-requires
seek-first-requires c = let R = c.requires.2.4 in let k = c.args.m.frames - 1 in (
  R.world.ghost,
  _,
  shape R k (omega (arith, c.requires.0)),
  lives R k (omega (arith, c.requires.0)) c.requires.1,
  omega (arith, c.size-n.ensures, sized R k (omega (arith, c.requires.0)) c.requires.1, c.if-n-eq0.false),
)

pub returns-then-n-eq0 : goal.returns-then-n-eq0
returns-then-n-eq0 c = starts _ _ c.requires.0 c.requires.1 0 0 (sym c.if-n-eq0.true ∙ c.size-n.ensures) (λ g x S l r z s. absurd (omega (arith, z))) c.reset_top.ensures.resets

pub returns-else-n-eq0 : goal.returns-else-n-eq0
returns-else-n-eq0 c = starts _ _ c.requires.0 c.requires.1 _ _ c.size-n.ensures (λ g x S l r z s. c.seek-first.ensures g x S l r s) c.reset_top-else-n-eq0.ensures.resets
