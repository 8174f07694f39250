-- The text of a value that is no string, by the tag: what is written is the text that the definition gives the value.
-- Assumes nothing.
use mathlib.Core.Path.{◌≡◌, refl, sym, ap, ◌∙◌}
use mathlib.Core.Bool.{Bool, true, false}
use mathlib.Core.List.{List, [], ◌∷◌}
use mathlib.Core.Option.{some}
use Prim.Native.Nat.{ℕ, ◌+◌, ◌≤◌}
use native.Mathlib.Omega.{arith}
use lib.ListN.{length, take, drop, get_elem?}
use lib.Seq.{take_at}
use Rattle.semantics.specs.Sizes.{name_most}
use Rattle.semantics.specs.Text.{bytes}
use Rattle.semantics.specs.Words.{signed, decimal_z}
use Rattle.semantics.specs.Values.{Value}
use Rattle.semantics.specs.Machine as Floo
use Rattle.semantics.specs.ObjectOperators.{pasted}
use Rattle.semantics.specs.Printing.{stringval, truth}
use Rattle.store.specs.Rep.{bit, Stands, a_null, an_integer, a_boolean, a_mark, an_operator, a_literal, an_executable, a_string, an_array, a_procedure}
use Rattle.store.proofs.Standing.{is_integer, is_boolean, is_literal, is_executable}
use Rattle.machine.specs.Places.{keys}
use Rattle.machine.specs.Rep.{Rep, IsIn}
use Rattle.machine.specs.declared.Machine.{Machine}
use Rattle.text.specs.Writing.{Written}
use Rattle.text.proofs.Pasting.{kept}
use Rattle.names.specs.Names.{Named}
use Rattle.conversions.specs.Texts.{Known, TextOf, NameRead}

-- The value's text is T in every machine.
abbrev Always : List ℕ → ℕ → ℕ → List ℕ → Type 0
Always d t p T = (m : Machine) (s e c l : List ℕ) (μ : Floo.Machine) (R : Rep m s e d c l μ) (v : Value) → IsIn R.world μ v t p → stringval μ v ≡ T

front : {t old new : List ℕ} {r : ℕ} → Written 0 t old new r → take r new ≡ t
unfolding pasted
front {t} {old} {new} {r} w =
    let size : length t ≡ r = omega (arith, w.end) in
    ap (λ (u : List ℕ). take r u) w.bytes ∙ take_at t (drop (0 + length t) old) r size

module _ {d : List ℕ} {t p : ℕ} {T old new : List ℕ} {r : ℕ} (A : Always d t p T) (w : Written 0 T old new r) (few : length T ≤ name_most) (room : name_most ≤ length old) where
  written : TextOf d t p new r
  written =
      record {
        inside = omega (arith, w.end, few, room, kept {at = 0} (omega (arith, few, room)) w);
        says = λ m s e c l μ R v I. front w ∙ sym (A m s e c l μ R v I);
      }

  written_few : r ≤ name_most
  written_few = omega (arith, w.end, few)

-- ---- each tag

truth_yes : (b : Bool) (p : ℕ) → p ≡ bit b → p ≡ 1 → truth b ≡ 116 ∷ 114 ∷ 117 ∷ 101 ∷ []
unfolding truth bytes
truth_yes true p q e = refl
truth_yes false p q e = absurd (omega (arith, q, e))

truth_no : (b : Bool) (p : ℕ) → p ≡ bit b → (p ≡ 1 → ⊥) → truth b ≡ 102 ∷ 97 ∷ 108 ∷ 115 ∷ 101 ∷ []
unfolding truth bytes
truth_no true p q e = absurd (e q)
truth_no false p q e = refl

abbrev nothing : List ℕ
nothing = 45 ∷ 45 ∷ 110 ∷ 111 ∷ 115 ∷ 116 ∷ 114 ∷ 105 ∷ 110 ∷ 103 ∷ 118 ∷ 97 ∷ 108 ∷ 45 ∷ 45 ∷ []

no_text : {keys : List (List ℕ)} {texts : List Bool} {ρ : ℕ → ℕ} {v : Value} {t p : ℕ} (μ : Floo.Machine)
    → Stands keys texts ρ v t p
    → (t ≡ 8 → ⊥)
    → (t ≡ 1 → ⊥)
    → (t ≡ 2 → ⊥)
    → (t ≡ 5 → ⊥)
    → (t ≡ 6 → ⊥)
    → stringval μ v ≡ nothing
unfolding stringval bytes
no_text μ a_null a b c d e = refl
no_text μ an_integer a b c d e = absurd (b refl)
no_text μ a_boolean a b c d e = absurd (c refl)
no_text μ a_mark a b c d e = refl
no_text μ (an_operator x) a b c d e = refl
no_text μ (a_literal x) a b c d e = absurd (d refl)
no_text μ (an_executable x) a b c d e = absurd (e refl)
no_text μ (a_string r x) a b c d e = absurd (a refl)
no_text μ (an_array r x) a b c d e = refl
no_text μ (a_procedure r x) a b c d e = refl

module _ {d : List ℕ} {t p : ℕ} where
  always_integer : t ≡ 1 → Always d t p (decimal_z (signed p))
  unfolding stringval
  always_integer q m s e c l μ R v I = ap (stringval μ) (is_integer I.stands q)

  always_true : t ≡ 2 → p ≡ 1 → Always d t p (116 ∷ 114 ∷ 117 ∷ 101 ∷ [])
  unfolding stringval
  always_true q one m s e c l μ R v I = let y = is_boolean I.stands q in ap (stringval μ) y.1 ∙ truth_yes y.0 p y.2 one

  always_false : t ≡ 2 → (p ≡ 1 → ⊥) → Always d t p (102 ∷ 97 ∷ 108 ∷ 115 ∷ 101 ∷ [])
  unfolding stringval
  always_false q one m s e c l μ R v I = let y = is_boolean I.stands q in ap (stringval μ) y.1 ∙ truth_no y.0 p y.2 one

  module _ {old new : List ℕ} {r : ℕ} (room : name_most ≤ length old) where
    pub integer_text_lem : t ≡ 1 → length (decimal_z (signed p)) ≤ 11 → Written 0 (decimal_z (signed p)) old new r → TextOf d t p new r × (r ≤ name_most)
    integer_text_lem q few w =
        let short : length (decimal_z (signed p)) ≤ name_most = omega (arith, few) in
        (written (always_integer q) w short room, written_few (always_integer q) w short room)

    pub true_text : t ≡ 2 → p ≡ 1 → Written 0 (116 ∷ 114 ∷ 117 ∷ 101 ∷ []) old new r → TextOf d t p new r × (r ≤ name_most)
    true_text q one w = (written (always_true q one) w (omega arith) room, written_few (always_true q one) w (omega arith) room)

    pub false_text : t ≡ 2 → (p ≡ 1 → ⊥) → Written 0 (102 ∷ 97 ∷ 108 ∷ 115 ∷ 101 ∷ []) old new r → TextOf d t p new r × (r ≤ name_most)
    false_text q one w = (written (always_false q one) w (omega arith) room, written_few (always_false q one) w (omega arith) room)

    pub nothing_text : (t ≡ 8 → ⊥) → (t ≡ 1 → ⊥) → (t ≡ 2 → ⊥) → (t ≡ 5 → ⊥) → (t ≡ 6 → ⊥) → Written 0 nothing old new r → TextOf d t p new r × (r ≤ name_most)
    nothing_text a b x y z w =
        let A : Always d t p nothing = λ m s e c l μ R v I. no_text μ I.stands a b x y z in
        (written A w (omega arith) room, written_few A w (omega arith) room)

  -- ---- names

  named : (K : Known d t p) (n : List ℕ) → get_elem? (keys K.machine) p ≡ some n → Named p d
  named K n q =
      record { small = K.small; stack = K.stack; exec = K.exec; heap = K.heap; log = K.log; machine = K.machine; rep = K.rep; name = n; slot = q }

  pub literal_named : Known d t p → t ≡ 5 → Named p d
  literal_named K q = let y = is_literal K.words.stands q in named K y.0 y.2

  pub executable_named : Known d t p → t ≡ 6 → Named p d
  executable_named K q = let y = is_executable K.words.stands q in named K y.0 y.2

  module _ {new : List ℕ} {r : ℕ} (N : NameRead p d new r) where
    pub literal_text : t ≡ 5 → TextOf d t p new r
    unfolding stringval
    literal_text q =
        record {
          inside = N.inside;
          says = λ m s e c l μ R v I.
              let y = is_literal I.stands q in
              N.says m s e c l μ R y.0 y.2 ∙ sym (ap (stringval μ) y.1);
        }

    pub executable_text : t ≡ 6 → TextOf d t p new r
    unfolding stringval
    executable_text q =
        record {
          inside = N.inside;
          says = λ m s e c l μ R v I.
              let y = is_executable I.stands q in
              N.says m s e c l μ R y.0 y.2 ∙ sym (ap (stringval μ) y.1);
        }
