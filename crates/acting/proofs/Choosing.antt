-- A frequent operator that is pending, or is a procedure's next element, is found and executed: what it promises on the words then is what the step promises, and
-- three words put the slot back where it fails. What is left to the other ways to act is a rare operator or none.
-- Assumes nothing.
use Rattle.std.specs.Prelude.{Option, Some, None, Ok, Err}
use mathlib.Core.Path.{◌≡◌, refl, sym, ap, ◌∙◌, subst}
use mathlib.Core.List.{List}
use Prim.Native.Nat.{ℕ, ◌+◌, ◌-◌, ◌*◌, ◌≤◌, ◌<◌}
use native.Mathlib.Omega.{arith}
use lib.ListN.{length, get_or, set}
use lib.Seq.{set-get_or}
use Rattle.semantics.specs.Values.{Result}
use Rattle.semantics.specs.Machine as Floo
use Rattle.semantics.specs.declared.Error.{Error}
use Rattle.heap.specs.Word.{word}
use Rattle.machine.specs.Words.{frame_kind, frame_tag, frame_payload, frame_cell, frame_left}
use Rattle.machine.specs.Rep.{Rep}
use Rattle.machine.specs.Room.{lent, fitted}
use Rattle.machine.specs.declared.Machine.{Machine}
use Rattle.machine.specs.Answers.{Did}
use Rattle.machine.specs.FrameMoves.{frame_dropped, ForgetsFrame}
use Rattle.frames.specs.Moves.{reset_words, Turned, Advances}
use Rattle.operators.specs.Titles.{perform_at, Everywhere, DoesAll, EverywhereButLog, DoesButLog}
use Rattle.turns.specs.Turns.{resumed}
use Rattle.acting.specs.Nexts.{Executes, Infrequent, NextIs}
use Rattle.acting.proofs.Executing.{alike, operator_fits, back, after, stands, fits}

-- ---- found

-- Words that are stored again where they are.
same_words : (e : List ℕ) (i : ℕ) → set (set (set e i (get_or e i 0)) (i + 3) (get_or e (i + 3) 0)) (i + 4) (get_or e (i + 4) 0) ≡ e
same_words e i =
    ap (λ (x : List ℕ). set (set x (i + 3) (get_or e (i + 3) 0)) (i + 4) (get_or e (i + 4) 0)) (set-get_or e i 0)
    ∙ ap (λ (x : List ℕ). set x (i + 4) (get_or e (i + 4) 0)) (set-get_or e (i + 3) 0)
    ∙ set-get_or e (i + 4) 0

pub pending_executes : {m left : Machine} {e : List ℕ}
    → 1 ≤ m.frames
    → frame_kind e (m.frames - 1) ≡ 0
    → frame_tag e (m.frames - 1) ≡ 4
    → frame_payload e (m.frames - 1) < 42
    → ForgetsFrame m left
    → (c : List ℕ)
    → Executes (frame_payload e (m.frames - 1)) m left e e c
pending_executes {m} {e = e} slots kind four few F c =
    record {
      few = few;
      stands = λ s d l μ R. (
        frame_dropped μ,
        F.moves s e d c l μ R (omega (arith, four)),
        operator_fits R (m.frames - 1) (omega (arith, slots)) kind four,
      );
      back = same_words e (8 * (m.frames - 1));
    }

pub element_executes : {m : Machine} {e e₁ c : List ℕ}
    → 1 ≤ m.frames
    → (kind : frame_kind e (m.frames - 1) ≡ 1)
    → 1 ≤ frame_left e (m.frames - 1)
    → Turned m e e₁
    → length e₁ ≡ length e
    → Advances m e e₁ c
    → word c (frame_cell e (m.frames - 1)) 0 ≡ 4
    → {p : ℕ}
    → p ≡ word c (frame_cell e (m.frames - 1)) 1
    → p < 42
    → Executes p m m e e₁ c
element_executes {m} {e} {e₁} {c} slots kind left T long A four {p} number few =
    record {
      few = few;
      stands = λ s d l μ R. (
        after m e e₁ e d c c slots kind left T long A s l μ R,
        stands m e e₁ e d c c slots kind left T long A s l μ R,
        subst (λ q. fitted (lent s e d c l) resumed μ ≡ fitted (lent s e₁ d c l) (perform_at q) (after m e e₁ e d c c slots kind left T long A s l μ R)) (sym number)
            (fits m e e₁ e d c c slots kind left T long A four number s s d l l μ R),
      );
      back =
          let i = 8 * (m.frames - 1) in
          ap (λ x. reset_words x (get_or e (i + 3) 0) (get_or e (i + 4) 0) m e₁) kind ∙ back m e e₁ e₁ _ kind T refl refl;
    }

-- A pending object that is no frequent operator.
pub pending_other : {m : Machine} {e : List ℕ}
    → frame_kind e (m.frames - 1) ≡ 0
    → (frame_tag e (m.frames - 1) ≡ 4 → 42 ≤ frame_payload e (m.frames - 1))
    → (c : List ℕ)
    → (e ≡ e) × Infrequent m e c
pending_other kind rare c = (refl, record { pending = λ k. rare; element = λ k some four. absurd (omega (arith, kind, k)) })

-- ---- executed

module _ {m : Machine} {e e₁ c : List ℕ} {next : Option (ℕ × Machine)} (N : NextIs m e e₁ c next) where
  module _ {number : ℕ} {left : Machine} (q : next ≡ Some (number, left)) where
    executes : Executes number m left e e₁ c
    executes = subst (NextIs m e e₁ c) q N

    pub frequent_ready : {s d l : List ℕ} → Everywhere m s e d c l → (number < 42) × EverywhereButLog left s e₁ d c
    frequent_ready {s} {d} {l} (μ, R) = let w = executes.stands s d l μ R in (executes.few, (l, (w.0, w.1)))

    module _ {s s' e₂ d d' c' l : List ℕ} {did : Did} (E : DoesButLog (perform_at number) left s s' e₁ e₂ d d' c c' did) where
      pub frequent_done : {r : Machine} → did ≡ Ok r → DoesAll resumed m s s' e e₂ d d' c c' l l (Ok r)
      frequent_done {r} g =
          let D = subst (DoesAll (perform_at number) left s s' e₁ e₂ d d' c c' l l) g (E.all l) in
          record {
            does = λ μ R.
                let w = executes.stands s d l μ R in
                alike (λ m'. Rep m' s' e₂ d' c' l) ((s' ≡ s) × (e₂ ≡ e) × (d' ≡ d) × (c' ≡ c) × (l ≡ l)) (Ok r) w.2 (D.does w.0 w.1);
            rest = D.rest;
          }

      pub frequent_failed : {x : Error} {e₃ : List ℕ}
          → did ≡ Err x
          → e₃ ≡ reset_words (frame_kind e (m.frames - 1)) (frame_cell e (m.frames - 1)) (frame_left e (m.frames - 1)) m e₂
          → DoesAll resumed m s s' e e₃ d d' c c' l l (Err x)
      frequent_failed {x} g z =
          let D = subst (DoesAll (perform_at number) left s s' e₁ e₂ d d' c c' l l) g (E.all l) in
          record {
            does = λ μ R.
                let w = executes.stands s d l μ R in
                let a = D.does w.0 w.1 in
                let i = 8 * (m.frames - 1) in
                (w.2 ∙ a.0, (a.1.0, z ∙ ap (reset_words (get_or e i 0) (get_or e (i + 3) 0) (get_or e (i + 4) 0) m) a.1.1 ∙ executes.back, a.1.2, a.1.3, a.1.4));
            rest = D.rest;
          }

  -- ---- otherwise

  module _ (q : next ≡ None) where
    otherwise : (e₁ ≡ e) × Infrequent m e c
    otherwise = subst (NextIs m e e₁ c) q N

    pub other_ready : {s d l : List ℕ} → Everywhere m s e d c l → Infrequent m e₁ c × Everywhere m s e₁ d c l
    other_ready {s} {d} {l} W = subst (λ x. Infrequent m x c × Everywhere m s x d c l) (sym otherwise.0) (otherwise.1, W)

    pub other_does : {s s' e₂ d d' c' l l' : List ℕ} {r : Did} → DoesAll resumed m s s' e₁ e₂ d d' c c' l l' r → DoesAll resumed m s s' e e₂ d d' c c' l l' r
    other_does {s} {s'} {e₂} {d} {d'} {c'} {l} {l'} {r} D = subst (λ x. DoesAll resumed m s s' x e₂ d d' c c' l l' r) otherwise.0 D

-- ---- a rare operator, whose answer was made anew

pub settled_does : {f : Floo.Machine → Result Floo.Machine} {m : Machine} {s s' e e' d d' c c' l l' : List ℕ} {did r : Did}
    → r ≡ did
    → DoesAll f m s s' e e' d d' c c' l l' did
    → DoesAll f m s s' e e' d d' c c' l l' r
settled_does {f} {m} {s} {s'} {e} {e'} {d} {d'} {c} {c'} {l} {l'} q D = subst (DoesAll f m s s' e e' d d' c c' l l') (sym q) D
