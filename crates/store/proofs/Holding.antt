-- The live headers stand for the objects that the definition holds: both are the largest supported set, one of the heap's relation and one
-- of the definition, and the two notions of support say the same where the root places name what the machine's roots list.
-- Assumes nothing.
use mathlib.Core.Path.{◌≡◌, refl, sym, ap, ◌∙◌}
use mathlib.Core.Bool.{false, ◌||◌, or_assoc}
use mathlib.Core.List.{List, [], ◌∷◌, ◌++◌}
use mathlib.Core.Logic.{inl, inr, ⊎_elim, ◌↔◌}
use Prim.Native.Nat.{ℕ, zero, suc}
use lib.ListN.{get_or}
use lib.Dec.{eqb, eqb→eq, eqb_refl}
use Rattle.semantics.specs.Values.{Value, integer, boolean, null, mark, operator, name, string, array, Object, elements, text}
use Rattle.semantics.specs.Machine.{Machine, object, elements_of, member}
use Rattle.semantics.specs.Held
use Rattle.semantics.specs.Held.{of_value, gather, of_object, held}
use Rattle.semantics.proofs.HeldLaws as laws
use Rattle.semantics.specs.HeldLaws.{◌∈◌, Named}
use Rattle.semantics.proofs.HeldLaws.{or_cases, or_left, or_right}
use Rattle.heap.specs.Shape.{Ghost, Shape, Counts}
use Rattle.store.specs.Rep.{Names, by_string, by_array, object_at, Alive, Rep}
use Rattle.store.proofs.Standing.{null_names}
use Rattle.store.proofs.Deaths.{live_supported, live_largest}

-- ---- membership

member_append : (i : ℕ) (a b : List ℕ) → member i (a ++ b) ≡ (member i a || member i b)
unfolding member
member_append i [] b = refl
member_append i (j ∷ a) b = ap (λ t. eqb i j || t) (member_append i a b) ∙ sym (or_assoc (eqb i j) (member i a) (member i b))

-- ---- what a value and an object name

in_one : (i j : ℕ) → i ∈ j ∷ [] → i ≡ j
unfolding member
in_one i j t = ⊎_elim (eqb→eq i j) (λ u. absurd u) (or_cases (eqb i j) false t)

one_in : (i : ℕ) → i ∈ i ∷ []
unfolding member
one_in i = or_left (eqb i i) false (eqb_refl i)

pub names_in : {v : Value} {i : ℕ} → Names v i → i ∈ of_value v
unfolding of_value
names_in (by_string {i = i}) = one_in i
names_in (by_array {i = i}) = one_in i

pub in_names : (v : Value) (i : ℕ) → i ∈ of_value v → Names v i
unfolding of_value member
in_names (integer w) i t = absurd t
in_names (boolean b) i t = absurd t
in_names null i t = absurd t
in_names mark i t = absurd t
in_names (operator o) i t = absurd t
in_names (name x n) i t = absurd t
in_names (string j) i t = rw (in_one i j t) by_string
in_names (array x j) i t = rw (in_one i j t) by_array

pub names_gather : (vs : List Value) (q i : ℕ) → Names (get_or vs q null) i → i ∈ gather of_value vs
unfolding gather
names_gather [] q i w = absurd (null_names w refl)
names_gather (v ∷ vs) zero i w = rw (member_append i (of_value v) (gather of_value vs)) (or_left (member i (of_value v)) (member i (gather of_value vs)) (names_in w))
names_gather (v ∷ vs) (suc q) i w = rw (member_append i (of_value v) (gather of_value vs)) (or_right (member i (of_value v)) (member i (gather of_value vs)) (names_gather vs q i w))

pub gather_names : (vs : List Value) (i : ℕ) → i ∈ gather of_value vs → (q : ℕ) × Names (get_or vs q null) i
unfolding gather member
gather_names [] i t = absurd t
gather_names (v ∷ vs) i t = ⊎_elim (λ u. (0, in_names v i u)) (λ u. let x = gather_names vs i u in (suc x.0, x.1))
    (or_cases (member i (of_value v)) (member i (gather of_value vs)) (rw (member_append i (of_value v) (gather of_value vs)) at t))

names_object : (o : Object) (q i : ℕ) → Names (get_or (elements_of o) q null) i → i ∈ of_object o
unfolding of_object elements_of
names_object (elements vs) q i w = names_gather vs q i w
names_object (text bs) q i w = absurd (null_names w refl)

object_names : (o : Object) (i : ℕ) → i ∈ of_object o → (q : ℕ) × Names (get_or (elements_of o) q null) i
unfolding of_object elements_of member
object_names (elements vs) i t = gather_names vs i t
object_names (text bs) i t = absurd t

-- ---- held

-- The root places name what the machine's roots list.
abbrev pub Roots : Machine → (ℕ → Value) → Type 0
Roots μ roots = (i : ℕ) → (i ∈ Held.roots μ) ↔ ((r : ℕ) × Names (roots r) i)

module _ {keys : List (List ℕ)} {n : ℕ} {ρ : ℕ → ℕ} {g : Ghost} {e p : ℕ} {m : List ℕ} {roots : ℕ → Value} (μ : Machine)
    (S : Shape g e m) (C : Counts g p 0 m) (R : Rep keys n ρ g m μ.store roots) (z : g.size 1 ≡ 0) (named : Roots μ roots) where
  pub alive_held : (i : ℕ) → Alive ρ g i → i ∈ held μ
  unfolding Named object
  alive_held = laws.held_largest μ (Alive ρ g) (record {
    made = λ i L. rw (← L.2) (R.id L.0 L.1);
    named = λ i L. ⊎_elim (λ x. inl ((named i).1 x)) (λ x. inr (x.0, x.2, names_object (object_at μ.store x.0) x.1 i x.3)) (live_supported S C R z i L);
  })

  pub held_alive : (i : ℕ) → i ∈ held μ → Alive ρ g i
  unfolding Named object
  held_alive = live_largest S C R z (λ i. i ∈ held μ)
      (λ i t. ⊎_elim (λ x. inl ((named i).0 x)) (λ x. let y = object_names (object_at μ.store x.0) i x.2 in inr (x.0, y.0, x.1, y.1)) ((laws.held_supported μ).named i t))
      (λ i t. (laws.held_supported μ).made i t)
