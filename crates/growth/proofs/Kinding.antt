-- Values name objects of their own kind: on both stacks, in the dictionary and in arrays a string names a string of the store, and an array an array. A store grows
-- at its end, and an object gives way only to one of its kind. In any other machine bind, astore and cvs could put an object of one kind in the place of the other.
-- Assumes nothing.
use mathlib.Core.Path.{◌≡◌, sym, ap, ◌∙◌}
use mathlib.Core.Bool.{Bool}
use mathlib.Core.List.{List, [], ◌∷◌, ◌++◌}
use Prim.Native.Nat.{ℕ, ◌<◌}
use native.Mathlib.Omega.{arith}
use native.Mathlib.Decide.{ℕ_discrete}
use lib.ListN.{length, get_or, set, length-append, length-set, get_or-append}
use lib.Seq.{get_or-set_same, get_or-set_other, get_or-append_seam}
use Rattle.semantics.specs.Values.{Object, elements}
use Rattle.semantics.specs.Machine.{Machine}
use Rattle.semantics.specs.Steps.{initial}
use Rattle.walk.specs.Objects.{is_string}
use Rattle.walk.specs.Parts.{Parts, Everywhere, any_numbers}
use Rattle.walk.proofs.RunsKeep.{initial_keeps}

-- An object is there, of that kind.
pub record There (store : List Object) (r : ℕ × Bool) : Type 0 where
  pub inside : r.0 < length store
  pub kind : is_string (get_or store r.0 (elements [])) ≡ r.1

pub there_new : (s : List Object) (o : Object) (b : Bool) → is_string o ≡ b → There (s ++ (o ∷ [])) (length s, b)
there_new s o b e =
    record { inside = omega (arith, length-append s (o ∷ [])); kind = ap is_string (get_or-append_seam s o [] (elements [])) ∙ e }

pub there_after_new : (s : List Object) (o : Object) (r : ℕ × Bool) → There s r → There (s ++ (o ∷ [])) r
there_after_new s o r h =
    record {
      inside = omega (arith, h.inside, length-append s (o ∷ []));
      kind = ap is_string (get_or-append s (o ∷ []) (elements []) r.0 h.inside) ∙ h.kind;
    }

pub there_after_change : (s : List Object) (i : ℕ) (o : Object)
    → is_string o ≡ is_string (get_or s i (elements []))
    → (r : ℕ × Bool)
    → There s r
    → There (set s i o) r
there_after_change s i o e r h =
    record { inside = omega (arith, h.inside, length-set s i o); kind = by r.0 r.1 (ℕ_discrete r.0 i) h.inside h.kind }
  where
    by : (j : ℕ) (b : Bool) → Dec (j ≡ i) → j < length s → is_string (get_or s j (elements [])) ≡ b → is_string (get_or (set s i o) j (elements [])) ≡ b
    by j b (yes p) h k =
        let h' : i < length s = omega (arith, h, p) in
        ap (λ (n : ℕ). is_string (get_or (set s i o) n (elements []))) p
        ∙ ap is_string (get_or-set_same s i o (elements []) h')
        ∙ e
        ∙ ap (λ (n : ℕ). is_string (get_or s n (elements []))) (sym p)
        ∙ k
    by j b (no q) h k = ap is_string (get_or-set_other s i j o (elements []) q) ∙ k

unfoldable pub kinds : Parts
unfolding any_numbers
kinds =
    record {
      numbers = any_numbers;
      references = record {
        Reference = There;
        Kinds = Unit {0};
        new = λ s o b e. there_new s o b (e tt);
        after_new = there_after_new;
        after_change = λ s i o e r h. there_after_change s i o (e tt) r h;
        kind = λ q s i b h. h.kind;
        inside = λ q s i b h. h.inside;
      };
    }

abbrev pub Kinded : Machine → Type 0
Kinded m = Everywhere kinds m

-- The start names no object.
pub initial_kinded : Kinded initial.machine
initial_kinded = initial_keeps kinds
