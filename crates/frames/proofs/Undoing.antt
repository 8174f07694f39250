-- A running procedure's slot that has been moved on is put back: its three words are stored again, and all words are as before.
-- Assumes nothing.
use mathlib.Core.Path.{◌≡◌, sym, ap, ◌∙◌}
use mathlib.Core.List.{List}
use Prim.Native.Nat.{ℕ, ◌+◌, ◌-◌, ◌*◌}
use native.Mathlib.Omega.{arith}
use lib.ListN.{get_or, set}
use lib.Seq.{set-set, set_comm, set-get_or}
use Rattle.machine.specs.Words.{frame_kind, frame_cell, frame_left}
use Rattle.machine.specs.declared.Machine.{Machine}
use Rattle.frames.specs.Moves.{reset_words}

-- A store under another one is undone.
under : (e : List ℕ) (i j a b : ℕ) → (j ≡ i → ⊥) → set (set (set e i a) j b) i (get_or e i 0) ≡ set e j b
under e i j a b ne =
    set_comm (set e i a) j i b (get_or e i 0) ne
    ∙ ap (λ (l : List ℕ). set l j b) (set-set e i a (get_or e i 0) ∙ set-get_or e i 0)

-- Three stores at three places are undone by three more.
thrice : (e : List ℕ) (i a b : ℕ)
    → set (set (set (set (set (set e i 1) (i + 3) a) (i + 4) b) i (get_or e i 0)) (i + 3) (get_or e (i + 3) 0)) (i + 4) (get_or e (i + 4) 0) ≡ e
thrice e i a b =
    let first : set (set (set (set e i 1) (i + 3) a) (i + 4) b) i (get_or e i 0) ≡ set (set e (i + 3) a) (i + 4) b =
    set_comm (set (set e i 1) (i + 3) a) (i + 4) i b (get_or e i 0) (λ q. omega arith)
    ∙ ap (λ (l : List ℕ). set l (i + 4) b) (under e i (i + 3) 1 a (λ q. omega arith)) in
    ap (λ (l : List ℕ). set (set l (i + 3) (get_or e (i + 3) 0)) (i + 4) (get_or e (i + 4) 0)) first
    ∙ ap (λ (l : List ℕ). set l (i + 4) (get_or e (i + 4) 0)) (under e (i + 3) (i + 4) a b (λ q. omega arith))
    ∙ (set-set e (i + 4) b (get_or e (i + 4) 0) ∙ set-get_or e (i + 4) 0)

pub undone : (m : Machine) (e : List ℕ) (a b : ℕ)
    → frame_kind e (m.frames - 1) ≡ 1
    → reset_words 1 (frame_cell e (m.frames - 1)) (frame_left e (m.frames - 1)) m (reset_words 1 a b m e) ≡ e
undone m e a b k =
    let i = 8 * (m.frames - 1) in
    ap (λ x. set (set (set (reset_words 1 a b m e) i x) (i + 3) (get_or e (i + 3) 0)) (i + 4) (get_or e (i + 4) 0)) (sym k) ∙ thrice e i a b
