-- A step loses no object: a new one goes after the others, a changed one keeps its kind and length, and a brace group fills only its own. And it takes no mark for
-- read only away.
-- Assumes nothing.
use mathlib.Core.Path.{◌≡◌, refl, sym, ap, ◌∙◌, subst}
use mathlib.Core.List.{List, [], ◌∷◌}
use Prim.Native.Nat.{ℕ, ◌≤◌, ◌<◌}
use native.Mathlib.Omega.{arith}
use native.Mathlib.Decide.{ℕ_discrete}
use lib.ListN.{length, get_or, length-append, length-set, get_or-append}
use lib.Seq.{get_or-set_same, get_or-set_other}
use Rattle.semantics.specs.Values.{Object, elements}
use Rattle.semantics.specs.Machine.{Machine, object, make, made, change, with_store, with_read_only, protect, machinery}
use Rattle.semantics.specs.ObjectOperators.{size}
use Rattle.semantics.specs.Steps.{Limits, State, goes, step}
use Rattle.semantics.specs.ListLaws.{all_any}
use Rattle.semantics.specs.HeldLaws.{◌∈◌}
use Rattle.semantics.proofs.HeldLaws.{append_left}
use Rattle.walk.specs.Objects.{is_string, Alike}
use Rattle.walk.proofs.Property.{Property, Fit}
use Rattle.walk.proofs.StepsKeep.{step_goes}
use Rattle.growth.specs.Stores.{Remains}
use Rattle.growth.proofs.Kinding.{kinds, Kinded}

-- ---- objects and stores that remain

alike_itself : (o : Object) → Alike o o
alike_itself o = record { kind = refl; extent = refl }

alike_then : {a b c : Object} → Alike a b → Alike b c → Alike a c
alike_then f g = record { kind = g.kind ∙ f.kind; extent = g.extent ∙ f.extent }

alike_equal : {a b c : Object} → Alike a b → c ≡ b → Alike a c
alike_equal f e = record { kind = ap is_string e ∙ f.kind; extent = ap size e ∙ f.extent }

pub remains_itself : (m : Machine) → Remains m m
remains_itself m = record { long = omega arith; each = λ i l. alike_itself (object m i); marked = λ i h. h }

pub remains_then : {a b c : Machine} → Remains a b → Remains b c → Remains a c
remains_then f g =
    record {
      long = omega (arith, f.long, g.long);
      each = λ i l. alike_then (f.each i l) (g.each i (omega (arith, l, f.long)));
      marked = λ i h. g.marked i (f.marked i h);
    }

-- ---- what the changes do to them

module _ {before : Machine} where
  same_store : {m n : Machine} → n.store ≡ m.store → n.read_only ≡ m.read_only → Remains before m → Remains before n
  unfolding made object
  same_store {m} {n} e r h =
      record {
        long = omega (arith, h.long, ap length e);
        each = λ i l. alike_equal (h.each i l) (ap (λ (s : List Object). get_or s i (elements [])) e);
        marked = λ i t. subst (λ (l : List ℕ). i ∈ l) (sym r) (h.marked i t);
      }

  protected_remains : (i : ℕ) (m : Machine) → Remains before m → Remains before (protect i m)
  unfolding made object protect with_read_only
  protected_remains i m h =
      record { long = h.long; each = h.each; marked = λ j t. append_left j m.read_only (i ∷ []) (h.marked j t) }

  made_remains : (o : Object) (m : Machine) → Remains before m → Remains before (make o m)
  unfolding made object make with_store
  made_remains o m h =
      record {
        long = omega (arith, h.long, length-append m.store (o ∷ []));
        each = λ i l. alike_equal (h.each i l) (get_or-append m.store (o ∷ []) (elements []) i (omega (arith, l, h.long)));
        marked = h.marked;
      }

  changed_remains : (i : ℕ) (o : Object) (m : Machine) → Alike (object m i) o → Remains before m → Remains before (change i o m)
  unfolding made object change with_store
  changed_remains i o m a h =
      record { long = omega (arith, h.long, length-set m.store i o); each = λ j l. by j l (ℕ_discrete j i); marked = h.marked }
    where
      by : (j : ℕ) → j < made before → Dec (j ≡ i) → Alike (object before j) (object (change i o m) j)
      by j l (yes p) =
          let now : Alike (object before i) (object m i) = subst (λ (n : ℕ). Alike (object before n) (object m n)) p (h.each j l) in
          let inside : i < length m.store = omega (arith, l, h.long, p) in
          subst (λ (n : ℕ). Alike (object before n) (object (change i o m) n)) (sym p)
          (alike_equal (alike_then now a) (get_or-set_same m.store i o (elements []) inside))
      by j l (no q) = alike_equal (h.each j l) (get_or-set_other m.store i j o (elements []) q)

  filled_remains : (i : ℕ) (o : Object) (m : Machine) → made before ≤ i → Remains before m → Remains before (change i o m)
  unfolding made object change with_store
  filled_remains i o m b h =
      record {
        long = omega (arith, h.long, length-set m.store i o);
        each = λ j l. alike_equal (h.each j l) (get_or-set_other m.store i j o (elements []) (λ e. absurd (omega (arith, e, l, b))));
        marked = h.marked;
      }

unfoldable store_remains : Machine → Property
unfolding machinery kinds
store_remains before =
    record {
      parts = kinds;
      base = made before;
      Whole = Remains before;
      since = λ m h. h.long;
      other_stack = λ s m h. same_store refl refl h;
      other_dictionary = λ d m h. same_store refl refl h;
      other_exec = λ e m h. same_store refl refl h;
      other_handler = λ n v m t h. same_store refl refl h;
      other_latest = λ t m h. same_store refl refl h;
      halting = λ m h. same_store refl refl h;
      writing = λ t m h. same_store refl refl h;
      making = λ o m h. made_remains o m h;
      protecting = λ i m a h. protected_remains i m h;
      changing = λ i o m a h. changed_remains i o m (a tt) h;
      filling = λ i o m b h. filled_remains i o m b h;
    }

-- ---- a step

step_fit : (l : Limits) (script : List ℕ) (σ τ : State) → Kinded σ.machine → step l script σ ≡ goes τ → Fit (store_remains σ.machine) τ.machine
unfolding store_remains kinds
step_fit l script σ τ k e =
    let m = σ.machine in
    step_goes (store_remains m) l script σ τ (all_any script) tt tt e (record { parts = k; whole = remains_itself m })

-- A step that goes on loses no object and no mark.
pub step_store : (l : Limits) (script : List ℕ) (σ τ : State) → Kinded σ.machine → step l script σ ≡ goes τ → Remains σ.machine τ.machine
unfolding store_remains
step_store l script σ τ k e = (step_fit l script σ τ k e).whole

-- Values go on naming objects of their own kind.
pub step_kinded : (l : Limits) (script : List ℕ) (σ τ : State) → Kinded σ.machine → step l script σ ≡ goes τ → Kinded τ.machine
unfolding store_remains
step_kinded l script σ τ k e = (step_fit l script σ τ k e).parts
