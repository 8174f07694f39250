-- The first slot whose words agree with the packed name is the name's slot: words agree just where the names are the same.
-- Assumes nothing.
use Rattle.std.specs.Prelude.{Option, Some, None, IfSome, unwrap_or}
use mathlib.Core.Path.{◌≡◌, refl, sym, ap, ◌∙◌, subst}
use mathlib.Core.Bool.{Bool, true, false}
use mathlib.Core.List.{List, ◌∷◌}
use mathlib.Core.Logic.{⊎_elim}
use Prim.Native.Nat.{ℕ, suc, ◌+◌, ◌*◌, ◌/◌, ◌%◌, ◌≤◌, ◌<◌}
use native.Mathlib.Omega.{arith}
use lib.ListN.{length, get_or}
use lib.Seq.{ext_get_or}
use Rattle.semantics.specs.Sizes.{name_most}
use Rattle.semantics.specs.Text.{same}
use Rattle.semantics.specs.Values.{Value}
use Rattle.semantics.specs.Machine.{Slot}
use Rattle.heap.proofs.Since.{lt_or_le}
use Rattle.store.specs.Rep.{byte_of}
use Rattle.machine.specs.Rep.{IsIn, SlotIs, Slots, end, slot}
use Rattle.machine.specs.declared.Machine.{Machine}
use Rattle.dictionary.specs.Names.{slot_of, Finds}
use Rattle.dictionary.specs.Packing.{Packs, Agrees, Tells, First}
use Rattle.dictionary.specs.Listing.{IsNamed}
use Rattle.dictionary.proofs.Slots.{slot_at}
use Rattle.semantics.specs.SlotLaws.{Compared, yes, no, compare, sits, element_sits}

spelt : {n d₀ w : List ℕ} → Packs 8 n 0 d₀ w → (j : ℕ) → j < 32 → byte_of (get_or w (j / 4) 0) (j % 4) ≡ get_or n j 0
spelt {w = w} P j l =
    let e : j / 4 ≡ 0 + j / 4 = omega arith in
    ap (λ x. byte_of (get_or w x 0) (j % 4)) e ∙ P.spelt j l

module _ {Is : Value → ℕ → ℕ → Type 0} {d n d₀ w : List ℕ} (short : length n ≤ name_most) (P : Packs 8 n 0 d₀ w) where
  same_name : {k : ℕ} {s : Slot} → SlotIs Is d k s → Agrees d (12 * k) (length n) w → n ≡ s.key
  same_name {k} {s} S A =
      let long : length n ≡ length s.key = sym A.size_is ∙ S.size in
      ext_get_or 0 n s.key long
      (λ j l. sym (spelt P j (omega arith)) ∙ sym (A.bytes_are j (omega arith)) ∙ S.spelt j (omega arith))

  other_name : {k : ℕ} {s : Slot} → SlotIs Is d k s → n ≡ s.key → Agrees d (12 * k) (length n) w
  other_name {k} {s} S e =
      record {
        size_is = S.size ∙ ap length (sym e);
        bytes_are = λ j l. S.spelt j l ∙ ap (λ x. get_or x j 0) (sym e) ∙ sym (spelt P j l);
      }

  pub first_slot : {ss : List Slot} {k : ℕ} (r : ℕ)
      → Slots Is d k ss
      → k ≤ r
      → r ≤ k + length ss
      → ((i : ℕ) → i < r → Agrees d (12 * i) (length n) w → ⊥)
      → (r < k + length ss → Agrees d (12 * r) (length n) w)
      → k + slot_of n ss ≡ r
  unfolding slot_of
  first_slot r end low high before there = omega arith
  first_slot {k = k} r (slot {s = s} {ss = ss} S rest) low high before there =
      step (compare n s.key) (λ x. first_slot r rest x (omega arith) before (λ y. there (omega arith)))
    where
      step : Compared n s.key (same n s.key) → (suc k ≤ r → suc k + slot_of n ss ≡ r) → k + slot_of n (s ∷ ss) ≡ r
      step (yes q e) go =
          let is : 0 ≡ slot_of n (s ∷ ss) = rw (q, slot_of) refl in
          ⊎_elim
          (λ (l : k < r). absurd (before k l (other_name S e)))
          (λ (l : r ≤ k). omega arith)
          (lt_or_le k r)
      step (no q f) go =
          let is : suc (slot_of n ss) ≡ slot_of n (s ∷ ss) = rw (q, slot_of) refl in
          ⊎_elim
          (λ (l : k < r). omega (arith, go l))
          (λ (l : r ≤ k).
          let at_k : r ≡ k = omega arith in
          let A : Agrees d (12 * r) (length n) w = there (omega arith) in
          absurd (f (same_name S (rw at_k at A))))
          (lt_or_le k r)

pub finds : {m : Machine} {d n d₀ w : List ℕ} {r : ℕ}
    → length n ≤ name_most
    → Packs 8 n 0 d₀ w
    → First d m.names (length n) w r
    → r ≤ m.names
    → Finds m d n r
finds {r = r} short P F low =
    record {
      says = λ s e c l μ R.
          let q = first_slot short P r R.slots (omega arith) (omega (arith, R.naming.many)) F.before (λ x. F.here (omega (arith, R.naming.many))) in
          omega (arith, q);
    }

-- A slot that is found is in use.
pub found_low : {n : ℕ} (o : Option ℕ) → IfSome o (λ k. k < n) → unwrap_or o n ≤ n
found_low (Some k) low = omega (arith, low)
found_low None low = omega arith

-- ---- the name of one slot

pub tells_named : {d n d₀ w : List ℕ} {k : ℕ} (r : Bool)
    → length n ≤ name_most
    → Packs 8 n 0 d₀ w
    → Tells (Agrees d (12 * k) (length n) w) r
    → IsNamed d k n r
tells_named {d} {n} {d₀} {w} {k} r short P T =
    record {
      says = λ m s e c l μ R x key.
          let at = (sits x μ.dictionary k R.naming.distinct key).1 in
          let here : 0 + k ≡ k = omega arith in
          let S = subst (λ i. SlotIs (IsIn R.world μ) d i (sits x μ.dictionary k R.naming.distinct key).0) here (slot_at k (element_sits x at).0 R.slots) in
          by r T (λ A. same_name short P S A ∙ (element_sits x at).1) (λ e. other_name short P S (e ∙ sym (element_sits x at).1)) (compare n x);
    }
  where
    by : {x : List ℕ} (t : Bool) → Tells (Agrees d (12 * k) (length n) w) t → (Agrees d (12 * k) (length n) w → n ≡ x) → (n ≡ x → Agrees d (12 * k) (length n) w) → Compared n x (same n x) → t ≡ same n x
    by true A to from (yes q e) = sym q
    by true A to from (no q f) = absurd (f (to A))
    by false A to from (yes q e) = absurd (A (from e))
    by false A to from (no q f) = sym q
