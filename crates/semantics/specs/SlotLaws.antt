-- Slots of a dictionary, or of the handlers: what is looked up, assigned and added is at the slot that has the name. One that is given a slot is bound to nothing, so
-- every name stays bound as it was.
-- Assumes nothing.
use Rattle.std.proofs.Math.Path.{◌≡◌, refl, ap}
use Rattle.std.proofs.Common.{sym, ◌∙◌, arith}
use Rattle.std.specs.Prelude.{Bool, ◌||◌, ℕ, zero, suc, ◌<◌, length, set}
use Rattle.std.proofs.Math.Bool.{true, false}
use mathlib.Core.List.{List, [], ◌∷◌, ◌++◌, map}
use Rattle.std.proofs.Math.Option.{Option, some, none}
use Rattle.std.proofs.Math.ListN.{get_elem?}
use Rattle.semantics.specs.Text.{same}
use Rattle.semantics.specs.Values.{Value}
use Rattle.semantics.specs.Machine.{Slot, lookup, assign, slotted}
use Rattle.semantics.specs.ControlOperators.{has_slot}
use Rattle.semantics.specs.ListLaws.{some_one, none_some}
use Rattle.semantics.specs.SameLaws.{same_refl, same_equal}
use Rattle.semantics.specs.NameLaws.{Distinct}

-- ---- the same bytes

pub data Compared (n k : List ℕ) (t : Bool) : Type 0 where
  yes : t ≡ true → n ≡ k → Compared n k t
  no : t ≡ false → (n ≡ k → ⊥) → Compared n k t

true_false : (t : Bool) → t ≡ true → t ≡ false → ⊥
true_false t a b =
    let z : ◌≡◌ {A = ℕ} 0 1 = cc in
    absurd (omega arith)

pub compare : (n k : List ℕ) → Compared n k (same n k)
compare n k = by (same n k) refl
  where
    by : (t : Bool) → same n k ≡ t → Compared n k (same n k)
    by true q = yes q (same_equal n k q)
    by false q = no q (λ e. true_false (same n k) (ap (λ x. same n x) (sym e) ∙ same_refl n) q)

-- ---- a name's slot

abbrev pub keys_of : List Slot → List (List ℕ)
keys_of d = map (λ (s : Slot). s.key) d

-- The first slot of the name n is slot i.
pub data Sits (n : List ℕ) : List Slot → ℕ → Slot → Type 0 where
  here : {s : Slot} {d : List Slot} → same n s.key ≡ true → s.key ≡ n → Sits n (s ∷ d) 0 s
  there : {t : Slot} {d : List Slot} {i : ℕ} {s : Slot} → same n t.key ≡ false → Sits n d i s → Sits n (t ∷ d) (suc i) s

-- No slot has the name n.
pub data Absent (n : List ℕ) : List Slot → Type 0 where
  nil : Absent n []
  cons : {s : Slot} {d : List Slot} → same n s.key ≡ false → (n ≡ s.key → ⊥) → Absent n d → Absent n (s ∷ d)

module _ (n : List ℕ) where
  -- By its place, where no name has two slots.
  pub sits : (d : List Slot) (i : ℕ) → Distinct (keys_of d) → get_elem? (keys_of d) i ≡ some n → (s : Slot) × Sits n d i s
  sits [] i one e = absurd (none_some e)
  sits (t ∷ d) zero one e = (t, here (ap (λ x. same n x) (some_one e) ∙ same_refl n) (some_one e))
  sits (t ∷ d) (suc i) one e = step (compare n t.key) (sits d i (λ a b k p q. suc_one (one (suc a) (suc b) k p q)) e)
    where
      suc_one : {a b : ℕ} → suc a ≡ suc b → a ≡ b
      suc_one q = omega arith

      step : Compared n t.key (same n t.key) → ((s : Slot) × Sits n d i s) → (s : Slot) × Sits n (t ∷ d) (suc i) s
      step (yes q same_name) r =
          let z : 0 ≡ suc i = one 0 (suc i) n (ap some (sym same_name)) e in
          absurd (omega arith)
      step (no q other) r = (r.0, there q r.1)

  pub lookup_sits : {d : List Slot} {i : ℕ} {s : Slot} → Sits n d i s → lookup n d ≡ s.binding
  unfolding lookup
  lookup_sits (here q e) = rw (q, lookup) refl
  lookup_sits (there q r) = rw (q, lookup) (lookup_sits r)

  pub assign_sits : (v : Value) {d : List Slot} {i : ℕ} {s : Slot} → Sits n d i s → assign n v d ≡ set d i (record { key = n; binding = some v })
  unfolding assign
  assign_sits v (here q e) = rw (q, assign) refl
  assign_sits v (there {t = t} q r) = rw (q, assign) (ap (λ x. t ∷ x) (assign_sits v r))

  pub slotted_sits : {d : List Slot} {i : ℕ} {s : Slot} → Sits n d i s → slotted n d ≡ d
  unfolding slotted
  slotted_sits (here q e) = rw (q, slotted) refl
  slotted_sits (there {t = t} q r) = rw (q, slotted) (ap (λ x. t ∷ x) (slotted_sits r))

  pub has_sits : {d : List Slot} {i : ℕ} {s : Slot} → Sits n d i s → has_slot n d ≡ true
  unfolding has_slot
  has_sits (here q e) = rw (q, has_slot) refl
  has_sits (there q r) = rw (q, has_slot) (has_sits r)

  pub key_sits : {d : List Slot} {i : ℕ} {s : Slot} → Sits n d i s → get_elem? (keys_of d) i ≡ some n
  key_sits (here q e) = ap some e
  key_sits (there q r) = key_sits r

  pub element_sits : {d : List Slot} {i : ℕ} {s : Slot} → Sits n d i s → (get_elem? d i ≡ some s) × (s.key ≡ n) × (i < length d)
  element_sits (here q e) = (refl, e, omega arith)
  element_sits (there q r) = let x = element_sits r in (x.0, x.1, omega (arith, x.2))

  -- The names stay where a binding is set.
  pub keys_set : {d : List Slot} {i : ℕ} {s : Slot} (o : Option Value) → Sits n d i s → keys_of (set d i (record { key = n; binding = o })) ≡ keys_of d
  keys_set o (here {d = d} q e) = ap (λ x. x ∷ keys_of d) (sym e)
  keys_set o (there {t = t} q r) = ap (λ x. t.key ∷ x) (keys_set o r)

  -- ---- a name with no slot

  pub lookup_absent : {d : List Slot} → Absent n d → lookup n d ≡ none
  unfolding lookup
  lookup_absent nil = refl
  lookup_absent (cons q e r) = rw (q, lookup) (lookup_absent r)

  pub slotted_absent : {d : List Slot} → Absent n d → slotted n d ≡ d ++ (record { key = n; binding = none } ∷ [])
  unfolding slotted
  slotted_absent nil = refl
  slotted_absent (cons {s = s} q other r) = rw (q, slotted) (ap (λ x. s ∷ x) (slotted_absent r))

  pub has_absent : {d : List Slot} → Absent n d → has_slot n d ≡ false
  unfolding has_slot
  has_absent nil = refl
  has_absent (cons q other r) = rw (q, has_slot) (has_absent r)

  pub no_key : {d : List Slot} → Absent n d → (i : ℕ) → get_elem? (keys_of d) i ≡ some n → ⊥
  no_key nil i e = none_some e
  no_key (cons q other r) zero e = other (sym (some_one e))
  no_key (cons q other r) (suc i) e = no_key r i e

  -- ---- by the test

  -- A name has its first slot, or none.
  pub data Placed (d : List Slot) : Bool → Type 0 where
    at : {i : ℕ} {s : Slot} → Sits n d i s → Placed d true
    nowhere : Absent n d → Placed d false

  pub placed : (d : List Slot) → Placed d (has_slot n d)
  unfolding has_slot
  placed [] = nowhere nil
  placed (s ∷ d) = step (compare n s.key) (placed d)
    where
      after : same n s.key ≡ false → (n ≡ s.key → ⊥) → {t : Bool} → Placed d t → Placed (s ∷ d) t
      after q other (at r) = at (there q r)
      after q other (nowhere r) = nowhere (cons q other r)

      step : Compared n s.key (same n s.key) → Placed d (has_slot n d) → Placed (s ∷ d) (same n s.key || has_slot n d)
      step (yes q e) r = rw q (at (here q (sym e)))
      step (no q e) r = rw q (after q e r)

  -- A name at some place has a slot.
  pub has_key : (d : List Slot) (i : ℕ) → get_elem? (keys_of d) i ≡ some n → has_slot n d ≡ true
  has_key d i e = by (placed d)
    where
      by : {t : Bool} → Placed d t → t ≡ true
      by (at r) = refl
      by (nowhere r) = absurd (no_key r i e)

  -- And one that is at none has none.
  pub lacks_key : (d : List Slot) → ((i : ℕ) → get_elem? (keys_of d) i ≡ some n → ⊥) → has_slot n d ≡ false
  lacks_key d f = by (placed d)
    where
      by : {t : Bool} → Placed d t → t ≡ false
      by (at r) = absurd (f _ (key_sits r))
      by (nowhere r) = refl

  -- To bind a name anew changes no name.
  pub assign_keys : (v : Value) (d : List Slot) → has_slot n d ≡ true → keys_of (assign n v d) ≡ keys_of d
  assign_keys v d = by (placed d)
    where
      by : {t : Bool} → Placed d t → t ≡ true → keys_of (assign n v d) ≡ keys_of d
      by (at r) e = ap keys_of (assign_sits v r) ∙ keys_set (some v) r
      by (nowhere r) e = absurd (true_false false e refl)

  -- By its place, where no name has two slots: the binding there, and that binding alone is set.
  pub lookup_place : (d : List Slot)
      → Distinct (keys_of d)
      → (i : ℕ) (s : Slot)
      → get_elem? (keys_of d) i ≡ some n
      → get_elem? d i ≡ some s
      → lookup n d ≡ s.binding
  lookup_place d one i s k e =
      let r = sits d i one k in
      lookup_sits r.1 ∙ ap (λ (t : Slot). t.binding) (some_one (sym (element_sits r.1).0 ∙ e))

  pub assign_place : (v : Value) (d : List Slot)
      → Distinct (keys_of d)
      → (i : ℕ)
      → get_elem? (keys_of d) i ≡ some n
      → assign n v d ≡ set d i (record { key = n; binding = some v })
  assign_place v d one i e = assign_sits v (sits d i one e).1

  -- ---- a name that is given a slot

  pub slotted_known : (d : List Slot) → has_slot n d ≡ true → slotted n d ≡ d
  slotted_known d = by (placed d)
    where
      by : {t : Bool} → Placed d t → t ≡ true → slotted n d ≡ d
      by (at r) e = slotted_sits r
      by (nowhere r) e = absurd (true_false false e refl)

  pub slotted_unknown : (d : List Slot) → has_slot n d ≡ false → slotted n d ≡ d ++ (record { key = n; binding = none } ∷ [])
  slotted_unknown d = by (placed d)
    where
      by : {t : Bool} → Placed d t → t ≡ false → slotted n d ≡ d ++ (record { key = n; binding = none } ∷ [])
      by (at r) e = absurd (true_false true refl e)
      by (nowhere r) e = slotted_absent r

  -- Every name is bound as before.
  pub lookup_slotted : (k : List ℕ) (d : List Slot) → lookup k (slotted n d) ≡ lookup k d
  unfolding lookup slotted
  lookup_slotted k [] = by (same k n)
    where
      by : (t : Bool) → ◌≡◌ {A = Option Value} (elim t [ true ↦ none | false ↦ none ]) none
      by true = refl
      by false = refl
  lookup_slotted k (s ∷ d) = by (same n s.key) (lookup_slotted k d)
    where
      by : (t : Bool)
          → lookup k (slotted n d) ≡ lookup k d
          → lookup k (elim t [ true ↦ s ∷ d | false ↦ s ∷ slotted n d ]) ≡ lookup k (s ∷ d)
      by true r = refl
      by false r = ap (λ (o : Option Value). elim (same k s.key) [ true ↦ s.binding | false ↦ o ]) r
