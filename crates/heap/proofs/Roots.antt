-- The value in hand and the one in a root place change places: the sums of the counts stay.
-- Assumes nothing.
use Prim.Native.Nat.{ℕ, suc, ◌≤◌, ◌<◌}
use mathlib.Core.Path.{◌≡◌, refl, ◌∙◌}
use mathlib.Core.List.{List}
use native.Mathlib.Omega.{arith}
use Rattle.heap.specs.Chain.{live}
use Rattle.heap.specs.Shape.{Ghost, Full, cells, is}
use Rattle.heap.specs.Assign.{aimed}
use Rattle.heap.specs.declared.Lists.{Lists}
use Rattle.heap.proofs.Upds.{upd_other, at_upd, total_upd}
use Rattle.heap.proofs.Shapes.{inside, aim_shape}

pub root_swap : {g : Ghost} {p hand : ℕ} {s : Lists} {m : List ℕ} (x : ℕ) → Full g p hand s m → cells m ≤ x → x < p → Full (aimed g x hand) p (g.aim x) s m
root_swap {g} {p} {hand} {s} {m} x F lo hi = let S = F.heap.shape in let C = F.counts in record {
  heap = record {
    shape = aim_shape (aimed g x hand).aim S;
    free = F.heap.free;
    listed = F.heap.listed;
    work = F.heap.work;
    dead = F.heap.dead;
  };
  counts = record {
    places = C.places;
    aimed = λ y h l. at_upd (λ t. t ≡ suc h → g.own h ≡ live) g.aim x hand y (λ r q. C.held h q) (λ r q. C.aimed y h l q);
    held = λ h q. C.aimed x h hi q;
    count = λ h l. omega (arith, C.count h l, total_upd (is h) g.aim p x hand hi);
    some = C.some;
    body = λ c a k q. upd_other g.aim x hand c (λ r. omega (arith, (inside S c q refl).0)) ∙ C.body c a k q;
    other = λ c l f. upd_other g.aim x hand c (λ r. omega arith) ∙ C.other c l f;
  };
}
