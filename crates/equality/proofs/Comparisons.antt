-- What each return of `equal`, `same_bytes` and `byte_or_zero` shows: by the words of the two topmost items, and by the bytes read so far.
-- Assumes nothing.
use mathlib.Core.Path.{◌≡◌, refl, sym, ap, ◌∙◌, subst}
use mathlib.Core.Bool.{Bool, true, false}
use mathlib.Core.List.{List, [], ◌∷◌}
use Prim.Native.Nat.{ℕ, zero, suc, ◌+◌, ◌-◌, ◌≤◌}
use native.Mathlib.Omega.{arith}
use borrow.Author.Tests.{ne_eqb}
use mathlib.Core.Logic.{⊎_elim}
use lib.Dec.{eqb}
use lib.ListN.{get_or, drop, get_or-eq_default}
use Rattle.semantics.specs.Text.{same}
use Rattle.semantics.specs.Values.{Value, null, string, current}
use Rattle.semantics.specs.Machine as Floo
use Rattle.semantics.specs.Machine.{with_stack, object, bytes_of}
use Rattle.semantics.specs.NumberOperators.{key}
use Rattle.semantics.specs.SameLaws.{heads_differ, heads_agree}
use Rattle.heap.proofs.Upds.{same?}
use Rattle.machine.specs.Words.{item_tag, item_payload}
use Rattle.machine.specs.Rep.{Rep, IsIn, Somewhere}
use Rattle.machine.specs.Moves.{tag_as}
use Rattle.machine.specs.declared.Machine.{Machine}
use Rattle.machine.proofs.Copying.{word_of}
use Rattle.elements.specs.Elements.{HasString, SomewhereThat, StringSize, ByteOf}
use Rattle.equality.specs.Comparing.{Compares, HasStrings, SameBytes}
use Rattle.equality.proofs.Keys.{kinds_differ, words_agree, both_null, both_mark, both_strings, words_differ}

-- ---- current bytes

current_ends : (l : List ℕ) (q : ℕ) → get_or l q 0 ≡ 0 → current (drop q l) ≡ []
unfolding current
current_ends [] zero e = refl
current_ends [] (suc q) e = refl
current_ends (b ∷ l) zero e = rw e refl
current_ends (b ∷ l) (suc q) e = current_ends l q e

current_goes : (l : List ℕ) (q : ℕ) → (get_or l q 0 ≡ 0 → ⊥) → current (drop q l) ≡ get_or l q 0 ∷ current (drop (suc q) l)
unfolding current
current_goes [] q n = absurd (n refl)
current_goes (b ∷ l) zero n = rw (ne_eqb b 0 n, current) refl
current_goes (b ∷ l) (suc q) n = current_goes l q n

-- Whether two strings are the same depends on the bytes from byte q on alone.
abbrev Agree : List ℕ → List ℕ → ℕ → Type 0
Agree k l q = same (current k) (current l) ≡ same (current (drop q k)) (current (drop q l))

module _ (k l : List ℕ) (q : ℕ) where
  bytes_differ : (get_or k q 0 ≡ get_or l q 0 → ⊥) → same (current (drop q k)) (current (drop q l)) ≡ false
  unfolding same
  bytes_differ n =
      ⊎_elim
      (λ (x : get_or k q 0 ≡ 0). rw (current_ends k q x, current_goes l q (λ y. n (x ∙ sym y))) refl)
      (λ (x : get_or k q 0 ≡ 0 → ⊥). ⊎_elim
      (λ (y : get_or l q 0 ≡ 0). rw (current_goes k q x, current_ends l q y) refl)
      (λ (y : get_or l q 0 ≡ 0 → ⊥). rw (current_goes k q x, current_goes l q y) (heads_differ (current (drop (suc q) k)) (current (drop (suc q) l)) n)) (same? (get_or l q 0) 0)) (same? (get_or k q 0) 0)

  bytes_end : get_or k q 0 ≡ 0 → get_or l q 0 ≡ 0 → same (current (drop q k)) (current (drop q l)) ≡ true
  unfolding same
  bytes_end x y = rw (current_ends k q x, current_ends l q y) refl

  bytes_go : get_or k q 0 ≡ get_or l q 0 → (get_or k q 0 ≡ 0 → ⊥) → same (current (drop q k)) (current (drop q l)) ≡ same (current (drop (q + 1) k)) (current (drop (q + 1) l))
  bytes_go e n =
      let next : suc q ≡ q + 1 = omega arith in
      ap (λ (t : List ℕ). same t (current (drop q l))) (current_goes k q n)
      ∙ ap (λ (t : List ℕ). same (get_or k q 0 ∷ current (drop (suc q) k)) t) (current_goes l q (λ y. n (e ∙ y)))
      ∙ heads_agree (current (drop (suc q) k)) (current (drop (suc q) l)) e
      ∙ ap (λ j. same (current (drop j k)) (current (drop j l))) next

-- ---- the loop

pub record Agreed (m : Machine) (s c : List ℕ) (q : ℕ) : Type 0 where
  pub says : (e d l : List ℕ) (μ : Floo.Machine)
      → Rep m s e d c l μ
      → (i j : ℕ)
      → get_or μ.stack 1 null ≡ string i
      → get_or μ.stack 0 null ≡ string j
      → Agree (bytes_of (object μ i)) (bytes_of (object μ j)) q

pub begin : (m : Machine) (s c : List ℕ) → Agreed m s c 0
begin m s c = record { says = λ e d l μ R i j x y. refl }

pub lower_string : {m : Machine} {s c : List ℕ} → SomewhereThat HasStrings m s c → SomewhereThat (HasString 1) m s c
lower_string (e, d, l, μ, R, a) = (e, d, l, μ, R, a.0)

pub upper_string : {m : Machine} {s c : List ℕ} → SomewhereThat HasStrings m s c → SomewhereThat (HasString 0) m s c
upper_string (e, d, l, μ, R, a) = (e, d, l, μ, R, a.1)

module _ {m : Machine} {s c : List ℕ} {q : ℕ} (A : Agreed m s c q) where
  module _ {a b : ℕ} (X : ByteOf 1 q m s c a) (Y : ByteOf 0 q m s c b) where
    pub bytes_unlike : (a ≡ b → ⊥) → SameBytes m s c false
    bytes_unlike n =
        record {
          says = λ e d l μ R i j x y.
              sym (A.says e d l μ R i j x y ∙ bytes_differ (bytes_of (object μ i)) (bytes_of (object μ j)) q
              (λ z. n (X.says e d l μ R i x ∙ z ∙ sym (Y.says e d l μ R j y))));
        }

    module _ (same : a ≡ b) where
      pub bytes_over : a ≡ 0 → SameBytes m s c true
      bytes_over z =
          record {
            says = λ e d l μ R i j x y.
                sym (A.says e d l μ R i j x y ∙ bytes_end (bytes_of (object μ i)) (bytes_of (object μ j)) q
                (sym (X.says e d l μ R i x) ∙ z) (sym (Y.says e d l μ R j y) ∙ sym same ∙ z));
          }

      pub again : (a ≡ 0 → ⊥) → Agreed m s c (q + 1)
      again n =
          record {
            says = λ e d l μ R i j x y.
                A.says e d l μ R i j x y ∙ bytes_go (bytes_of (object μ i)) (bytes_of (object μ j)) q
                (sym (X.says e d l μ R i x) ∙ same ∙ Y.says e d l μ R j y) (λ z. n (X.says e d l μ R i x ∙ z));
          }

  -- The lower string is at its end.
  pub ends : {most b : ℕ} → StringSize 1 m s c most → most ≤ q → ByteOf 0 q m s c b → SameBytes m s c (eqb b 0)
  ends {b = b} Z past Y =
      record {
        says = λ e d l μ R i j x y.
            let k = bytes_of (object μ i) in
            let zero : get_or k q 0 ≡ 0 = get_or-eq_default k 0 {n = q} (omega (arith, past, Z.says e d l μ R i x)) in
            let u = Y.says e d l μ R j y in
            sym (A.says e d l μ R i j x y ∙ ⊎_elim
            (λ (z : b ≡ 0). bytes_end k (bytes_of (object μ j)) q zero (sym u ∙ z) ∙ sym (ap (λ n. eqb n 0) z))
            (λ (z : b ≡ 0 → ⊥). bytes_differ k (bytes_of (object μ j)) q (λ w. z (u ∙ sym w ∙ zero)) ∙ sym (ne_eqb b 0 z)) (same? b 0));
      }

-- ---- a byte or zero

module _ {i q : ℕ} {m : Machine} {s c : List ℕ} {most : ℕ} (Z : StringSize i m s c most) where
  pub past_end : most ≤ q → ByteOf i q m s c 0
  past_end h = record { says = λ e d l μ R id x. sym (get_or-eq_default (bytes_of (object μ id)) 0 {n = q} (omega (arith, h, Z.says e d l μ R id x))) }

-- ---- by the words

-- The words of the item below the topmost one, and of the topmost one.
module _ (m : Machine) (s : List ℕ) where
  abbrev tag : ℕ
  tag = item_tag s (m.depth - 2)

  abbrev pay : ℕ
  pay = item_payload s (m.depth - 2)

  abbrev tag' : ℕ
  tag' = item_tag s (m.depth - 1)

  abbrev pay' : ℕ
  pay' = item_payload s (m.depth - 1)

module _ {m : Machine} {s c : List ℕ} (deep : 2 ≤ m.depth) where
  module _ {e d l : List ℕ} {μ : Floo.Machine} (R : Rep m s e d c l μ) where
    lower_words : IsIn R.world μ (get_or μ.stack 1 null) (tag m s) (pay m s)
    lower_words = word_of R 1 (m.depth - 2) (omega (arith, deep))

    upper_words : IsIn R.world μ (get_or μ.stack 0 null) (tag' m s) (pay' m s)
    upper_words = word_of R 0 (m.depth - 1) (omega (arith, deep))

    module _ {x y : Value} {rest : List Value} (h : μ.stack ≡ y ∷ x ∷ rest) where
      lower : IsIn R.world μ x (tag m s) (pay m s)
      lower = subst (λ v. IsIn R.world μ v (tag m s) (pay m s)) (ap (λ (t : List Value). get_or t 1 null) h) lower_words

      upper : IsIn R.world μ y (tag' m s) (pay' m s)
      upper = subst (λ v. IsIn R.world μ v (tag' m s) (pay' m s)) (ap (λ (t : List Value). get_or t 0 null) h) upper_words

  module _ {kind kind' : ℕ} (a : kind ≡ tag_as false (tag m s)) (b : kind' ≡ tag_as false (tag' m s)) where
    pub other_kind : (kind ≡ kind' → ⊥) → Compares m s c false
    other_kind n =
        record { says = λ e d l μ R x y rest h. kinds_differ (with_stack rest μ) (lower R h).stands (upper R h).stands (λ q. n (a ∙ q ∙ sym b)) }

    module _ (agree : kind ≡ kind') where
      pub nulls : kind ≡ 0 → Compares m s c true
      nulls z = record { says = λ e d l μ R x y rest h. both_null (with_stack rest μ) (lower R h).stands (upper R h).stands (sym a ∙ agree ∙ b) (sym a ∙ z) }

      pub marks : kind ≡ 3 → Compares m s c true
      marks z = record { says = λ e d l μ R x y rest h. both_mark (with_stack rest μ) (lower R h).stands (upper R h).stands (sym a ∙ agree ∙ b) (sym a ∙ z) }

      pub one_payload : (pay m s) ≡ (pay' m s) → Compares m s c true
      one_payload z = record { says = λ e d l μ R x y rest h. words_agree (with_stack rest μ) (lower R h).stands (upper R h).stands (sym a ∙ agree ∙ b) z }

      pub have_strings : Somewhere m s c → kind ≡ 8 → SomewhereThat HasStrings m s c
      have_strings (e, d, l, μ, R) z =
          let both = both_strings μ (lower_words R).stands (upper_words R).stands (sym a ∙ agree ∙ b) (sym a ∙ z) in
          (e, d, l, μ, R, (record { id = both.0; item = both.2 }, record { id = both.1; item = both.3 }))

      pub by_bytes : {r : Bool} → kind ≡ 8 → SameBytes m s c r → Compares m s c r
      unfolding key same with_stack object
      by_bytes {r} z B =
          record {
            says = λ e d l μ R x y rest h.
                let both = both_strings μ (lower R h).stands (upper R h).stands (sym a ∙ agree ∙ b) (sym a ∙ z) in
                let i = both.0 in
                let j = both.1 in
                let at_lower : get_or μ.stack 1 null ≡ string i = ap (λ (t : List Value). get_or t 1 null) h ∙ both.2 in
                let at_upper : get_or μ.stack 0 null ≡ string j = ap (λ (t : List Value). get_or t 0 null) h ∙ both.3 in
                B.says e d l μ R i j at_lower at_upper
                ∙ sym (ap (λ v. same (key (with_stack rest μ) v) (key (with_stack rest μ) y)) both.2 ∙ ap (λ v. same (key (with_stack rest μ) (string i)) (key (with_stack rest μ) v)) both.3);
          }

      pub two_payloads : (kind ≡ 0 → ⊥) → (kind ≡ 3 → ⊥) → (kind ≡ 8 → ⊥) → ((pay m s) ≡ (pay' m s) → ⊥) → Compares m s c false
      two_payloads p q r n =
          record {
            says = λ e d l μ R x y rest h.
                let X = lower R h in
                let Y = upper R h in
                words_differ (with_stack rest μ) X.stands Y.stands (sym a ∙ agree ∙ b) R.world.ghost X.alive Y.alive R.naming.distinct R.stored.objects.one
                (λ z. p (a ∙ z)) (λ z. q (a ∙ z)) (λ z. r (a ∙ z)) n;
          }
