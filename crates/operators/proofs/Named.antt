-- The operator of a number is that of its name.
-- Assumes nothing.
use Rattle.std.specs.Prelude.{Ok, Err}
use mathlib.Core.Path.{◌≡◌, refl, subst, sym, ap, ◌∙◌}
use mathlib.Core.Bool.{Bool, true, false}
use mathlib.Core.List.{List, []}
use mathlib.Core.Logic.{⊎_elim}
use Prim.Native.Nat.{ℕ, suc, ◌≤◌, ◌<◌}
use native.Mathlib.Omega.{arith}
use lib.ListN.{get_or}
use lib.Dec.{eqb}
use borrow.Author.Tests.{eq-eqb, ne_eqb}
use Rattle.semantics.specs.Values.{Result}
use Rattle.semantics.specs.Machine as Floo
use Rattle.semantics.specs.Operators.{perform, table, ◌is◌}
use Rattle.heap.proofs.Upds.{same?}
use Rattle.store.specs.Rep.{titles}
use Rattle.machine.specs.Room.{DoesStack, DoesHeap}
use Rattle.machine.specs.declared.Machine.{Machine}
use Rattle.machine.specs.Answers.{Did}
use Rattle.control_operators.specs.Promises.{DoesState, DoesCells, DoesFrames}
use Rattle.dictionary_operators.specs.Promises.{DoesDictionary}
use Rattle.equality.specs.Comparing.{name_of}
use Rattle.number_operators.specs.Pegs.{peg_name}
use Rattle.conversions.specs.Texts.{DoesNamedHeap}
use Rattle.output_operators.specs.Output.{LogRest, DoesLog}
use Rattle.operators.specs.Titles.{perform_at, DoesAll}

pub named : (k j : ℕ) (n : List ℕ) → k ≡ j → get_or titles j [] ≡ n → perform n ≡ perform_at k
unfolding perform_at
named k j n e t = ap perform (sym t) ∙ ap (λ i. perform (get_or titles i [])) (sym e)

module _ {m : Machine} {s s' : List ℕ} {r : Did} {k : ℕ} (j : ℕ) (n : List ℕ) (e : k ≡ j) (t : get_or titles j [] ≡ n) where
  pub stack_named : DoesStack (perform n) m s s' r → DoesStack (perform_at k) m s s' r
  stack_named D = subst (λ f. DoesStack f m s s' r) (named k j n e t) D

  pub heap_named : {c c' : List ℕ} → DoesHeap (perform n) m s s' c c' r → DoesHeap (perform_at k) m s s' c c' r
  heap_named {c} {c'} D = subst (λ f. DoesHeap f m s s' c c' r) (named k j n e t) D

  pub frames_named : {e₀ e' c c' : List ℕ} → DoesFrames (perform n) m s s' e₀ e' c c' r → DoesFrames (perform_at k) m s s' e₀ e' c c' r
  frames_named {e₀} {e'} {c} {c'} D = subst (λ f. DoesFrames f m s s' e₀ e' c c' r) (named k j n e t) D

pub cells_named : {m : Machine} {r : Did} {k : ℕ} (j : ℕ) (n : List ℕ) → k ≡ j → get_or titles j [] ≡ n
    → {e c c' : List ℕ} → DoesCells (perform n) m e c c' r → DoesCells (perform_at k) m e c c' r
cells_named {m} {r} {k} j n q t {e} {c} {c'} D = subst (λ f. DoesCells f m e c c' r) (named k j n q t) D

-- A promise that leaves words out is one for all such words.
pub stack_does : {f : Floo.Machine → Result Floo.Machine} {m : Machine} {s s' : List ℕ} (r : Did) → DoesStack f m s s' r → (c : List ℕ) → DoesHeap f m s s' c c r
stack_does (Err x) D c = record { does = λ e d l μ R. let a = D.does e d c l μ R in (a.0, (a.1, refl)) }
stack_does (Ok m') D c = record { does = λ e d l μ R. D.does e d c l μ R }

pub state_cells : {f : Floo.Machine → Result Floo.Machine} {m : Machine} (r : Did) → DoesState f m r → (e c : List ℕ) → DoesCells f m e c c r
state_cells (Err x) D e c = record { does = λ s d l μ R. ((D.does s e d c l μ R).0, refl) }
state_cells (Ok m') D e c = record { does = λ s d l μ R. D.does s e d c l μ R }

pub heap_dictionary : {f : Floo.Machine → Result Floo.Machine} {m : Machine} {s s' c c' : List ℕ} (r : Did) → DoesHeap f m s s' c c' r → (d : List ℕ) → DoesDictionary f m s s' d d c c' r
heap_dictionary (Err x) D d = record { does = λ e l μ R. let a = D.does e d l μ R in (a.0, (a.1.0, refl, a.1.1)) }
heap_dictionary (Ok m') D d = record { does = λ e l μ R. D.does e d l μ R }

pub stack_dictionary : {f : Floo.Machine → Result Floo.Machine} {m : Machine} {s s' : List ℕ} (r : Did) → DoesStack f m s s' r → (d c : List ℕ) → DoesDictionary f m s s' d d c c r
stack_dictionary r D d c = heap_dictionary r (stack_does r D c) d

pub named_dictionary : {f : Floo.Machine → Result Floo.Machine} {m : Machine} {s s' d c c' : List ℕ} (r : Did) → DoesNamedHeap f m s s' d c c' r → DoesDictionary f m s s' d d c c' r
named_dictionary (Err x) D = record { does = λ e l μ R. let a = D.does e l μ R in (a.0, (a.1.0, refl, a.1.1)) }
named_dictionary (Ok m') D = record { does = λ e l μ R. D.does e l μ R }

pub dictionary_named : {m : Machine} {s s' d d' c c' : List ℕ} {r : Did} {k : ℕ} (j : ℕ) (n : List ℕ)
    → k ≡ j
    → get_or titles j [] ≡ n
    → DoesDictionary (perform n) m s s' d d' c c' r
    → DoesDictionary (perform_at k) m s s' d d' c c' r
dictionary_named {m} {s} {s'} {d} {d'} {c} {c'} {r} {k} j n e t D = subst (λ f. DoesDictionary f m s s' d d' c c' r) (named k j n e t) D

pub heap_frames : {f : Floo.Machine → Result Floo.Machine} {m : Machine} {s s' c c' : List ℕ} (r : Did) → DoesHeap f m s s' c c' r → (e : List ℕ) → DoesFrames f m s s' e e c c' r
heap_frames (Err x) D e = record { does = λ d l μ R. let a = D.does e d l μ R in (a.0, (a.1.0, refl, a.1.1)) }
heap_frames (Ok m') D e = record { does = λ d l μ R. D.does e d l μ R }

-- The same of an answer that was made anew.
pub settled_frames : {f : Floo.Machine → Result Floo.Machine} {m : Machine} {s s' c c' : List ℕ} {did r : Did}
    → r ≡ did
    → DoesHeap f m s s' c c' did
    → (e : List ℕ)
    → DoesFrames f m s s' e e c c' r
settled_frames {f} {m} {s} {s'} {c} {c'} {r = r} q D e = heap_frames r (subst (DoesHeap f m s s' c c') (sym q) D) e

-- Two operators of one function: the second is told from the first by its number.
module _ (j : ℕ) (name : Bool → List ℕ) (first : get_or titles j [] ≡ name false) (second : get_or titles (suc j) [] ≡ name true) where
  paired_name : (k : ℕ) → j ≤ k → k < suc (suc j) → get_or titles k [] ≡ name (eqb k (suc j))
  paired_name k low high =
      ⊎_elim
      (λ (e : k ≡ suc j). ap (λ i. get_or titles i []) e ∙ second ∙ ap name (sym (eq-eqb k (suc j) e)))
      (λ (n : k ≡ suc j → ⊥).
      let e : k ≡ j = omega (arith, n, low, high) in
      ap (λ i. get_or titles i []) e ∙ first ∙ ap name (sym (ne_eqb k (suc j) n))) (same? k (suc j))

pub equality_name : (k : ℕ) → 18 ≤ k → k < 20 → get_or titles k [] ≡ name_of (eqb k 19)
unfolding titles table ◌is◌ name_of
equality_name = paired_name 18 name_of refl refl

pub peg_name_lem : (k : ℕ) → 58 ≤ k → k < 60 → get_or titles k [] ≡ peg_name (eqb k 59)
unfolding titles table ◌is◌
peg_name_lem = paired_name 58 peg_name refl refl

-- ---- all words

-- A log that is not lent.
pub log_same : (l : List ℕ) (r : Did) → LogRest l l r
log_same l (Ok m) = refl
log_same l (Err x) = tt

pub dictionary_all : {f : Floo.Machine → Result Floo.Machine} {m : Machine} {s s' d d' c c' : List ℕ} (r : Did)
    → DoesDictionary f m s s' d d' c c' r
    → (e l : List ℕ)
    → DoesAll f m s s' e e d d' c c' l l r
dictionary_all (Err x) D e l = record { does = λ μ R. let a = D.does e l μ R in (a.0, (a.1.0, refl, a.1.1, a.1.2, refl)); rest = log_same l (Err x) }
dictionary_all (Ok m') D e l = record { does = λ μ R. D.does e l μ R; rest = log_same l (Ok m') }

pub heap_all : {f : Floo.Machine → Result Floo.Machine} {m : Machine} {s s' c c' : List ℕ} (r : Did)
    → DoesHeap f m s s' c c' r
    → (e d l : List ℕ)
    → DoesAll f m s s' e e d d c c' l l r
heap_all r D e d l = dictionary_all r (heap_dictionary r D d) e l

pub stack_all : {f : Floo.Machine → Result Floo.Machine} {m : Machine} {s s' : List ℕ} (r : Did)
    → DoesStack f m s s' r
    → (e d c l : List ℕ)
    → DoesAll f m s s' e e d d c c l l r
stack_all r D e d c l = heap_all r (stack_does r D c) e d l

pub frames_all : {f : Floo.Machine → Result Floo.Machine} {m : Machine} {s s' e e' c c' : List ℕ} (r : Did)
    → DoesFrames f m s s' e e' c c' r
    → (d l : List ℕ)
    → DoesAll f m s s' e e' d d c c' l l r
frames_all (Err x) D d l = record { does = λ μ R. let a = D.does d l μ R in (a.0, (a.1.0, a.1.1, refl, a.1.2, refl)); rest = log_same l (Err x) }
frames_all (Ok m') D d l = record { does = λ μ R. D.does d l μ R; rest = log_same l (Ok m') }

pub log_named : {m : Machine} {s d c c' l l' : List ℕ} {r : Did} {k : ℕ} (j : ℕ) (n : List ℕ)
    → k ≡ j
    → get_or titles j [] ≡ n
    → DoesLog (perform n) m s d c c' l l' r
    → DoesLog (perform_at k) m s d c c' l l' r
log_named {m} {s} {d} {c} {c'} {l} {l'} {r} {k} j n e t D = subst (λ f. DoesLog f m s d c c' l l' r) (named k j n e t) D

pub log_all : {f : Floo.Machine → Result Floo.Machine} {m : Machine} {s d c c' l l' : List ℕ} (r : Did)
    → DoesLog f m s d c c' l l' r
    → (e : List ℕ)
    → DoesAll f m s s e e d d c c' l l' r
log_all (Err x) D e = record { does = λ μ R. let a = D.does e μ R in (a.0, (refl, refl, refl, a.1.0, a.1.1)); rest = D.rest }
log_all (Ok m') D e = record { does = λ μ R. D.does e μ R; rest = D.rest }
