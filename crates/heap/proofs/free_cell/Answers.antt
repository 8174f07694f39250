-- `free_cell` meets its contract: the cell goes on the list of free cells (`push_shape`).
-- Assumes nothing.
use Prim.Native.Nat.{suc}
use mathlib.Core.Path.{refl, ◌∙◌}
use native.Mathlib.Omega.{arith}
use native.Mathlib.Numerals.{add-one}
use Rattle.heap.specs.Chain.{out}
use Rattle.heap.proofs.Upds.{upd_same, upd_other}
use Rattle.heap.proofs.Shapes.{room, list_lt, push_shape}
use Rattle.heap.proofs.free_cell.Goals as goal

pub put-requires : goal.put-requires
put-requires c = (omega arith, room c.requires.1.shape _ c.requires.2 refl)

pub overflow_add-result : goal.overflow_add-result
overflow_add-result c = omega (arith, list_lt c.requires.1.shape 0 _ c.requires.2 refl refl, c.requires.1.listed, c.requires.1.shape.few)

pub returns : goal.returns
returns c = let P = c.put.ensures in (
  P,
  refl,
  λ g H o. record {
    shape = push_shape g _ _ _ H.shape _ 0 out o (omega arith) (λ t. refl) refl refl refl (λ _. c.requires.3) (rw H.free P);
    free = upd_same g.top 0 c.args.c;
    listed = upd_same g.size 0 (suc (g.size 0)) ∙ rw (add-one, H.listed);
    work = upd_other g.top 0 _ 1 (λ q. omega arith) ∙ H.work;
    dead = upd_other g.size 0 _ 1 (λ q. omega arith) ∙ H.dead;
  },
)
