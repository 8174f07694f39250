-- The text of a value that is no array, by its tag.
-- Assumes nothing.
use mathlib.Core.Path.{◌≡◌, refl, sym, ap, ◌∙◌, subst}
use mathlib.Core.Bool.{Bool, true, false}
use mathlib.Core.List.{List, ◌∷◌, ◌++◌}
use mathlib.Core.Option.{some}
use Prim.Native.Nat.{ℕ, ◌+◌, ◌≤◌, ◌<◌}
use native.Mathlib.Omega.{arith}
use lib.ListN.{length, set, get_elem?, length-append, length-set}
use Rattle.semantics.specs.Text.{bytes}
use Rattle.semantics.specs.Words.{signed, decimal_z}
use Rattle.semantics.specs.Values.{Value, null, string, current}
use Rattle.semantics.specs.Machine as Floo
use Rattle.semantics.specs.Machine.{object, bytes_of}
use Rattle.semantics.specs.Printing.{shown, escaped, name_byte, name_text, truth}
use Rattle.store.specs.Rep.{bit, Stands, a_null, an_integer, a_boolean, a_mark, an_operator, a_literal, an_executable, a_string, an_array, a_procedure}
use Rattle.store.proofs.Standing.{is_integer, is_boolean, is_mark_lem, is_operator, is_literal, is_executable, is_string_lem}
use Rattle.machine.specs.Places.{keys}
use Rattle.machine.specs.Rep.{Rep, IsIn}
use Rattle.machine.specs.declared.Machine.{Machine}
use Rattle.text.specs.Writing.{Written, quoted}
use Rattle.text.proofs.Pasting.{respelt, first}
use Rattle.names.specs.Names.{Named, NameSize}
use Rattle.names.proofs.Spelling.{title_slot}
use Rattle.printing.specs.Shown.{Known, KnownString, PlainRoom, PlainSize, PlainWrites, StringRoom, StringSize, StringWrites}
use Rattle.printing.specs.Shown.{NameRoom, NameLength, NameWrites, TitleRoom, TitleWrites, operator_text, truth_text}

-- ---- texts that the words alone give

-- The value's text is T in every machine.
abbrev pub Always : List ℕ → List ℕ → ℕ → ℕ → List ℕ → Type 0
Always d c t p T =
    (m : Machine) (s e l : List ℕ) (μ : Floo.Machine) (R : Rep m s e d c l μ) (v : Value) → IsIn R.world μ v t p → (inside : List Value → List ℕ) → shown inside μ v ≡ T

module _ {d c : List ℕ} {t p : ℕ} (T : List ℕ) (A : Always d c t p T) where
  pub always_size : {r : ℕ} → r ≡ length T → PlainSize d c t p r
  always_size h = record { says = λ m s e l μ R v I inside. h ∙ sym (ap length (A m s e l μ R v I inside)) }

  pub always_writes : {at r : ℕ} {old new : List ℕ} → Written at T old new r → PlainWrites d c t p at old new r
  always_writes w = record { says = λ m s e l μ R v I inside. respelt (A m s e l μ R v I inside) w }

  pub always_room : {at : ℕ} {out : List ℕ} → PlainRoom d c t p at out → at + length T ≤ length out
  always_room N = let K = N.known in omega (arith, N.fits, ap length (A _ _ _ _ _ K.rep K.value K.words N.inside))

truth_bit : (b : Bool) (p : ℕ) → p ≡ bit b → truth b ≡ truth_text p
unfolding truth_text
truth_bit true p e = rw e refl
truth_bit false p e = rw e refl

-- No other tag is left.
null_left : {keys : List (List ℕ)} {texts : List Bool} {ρ : ℕ → ℕ} {v : Value} {t p : ℕ}
    → Stands keys texts ρ v t p
    → t < 9
    → (t ≡ 1 → ⊥)
    → (t ≡ 2 → ⊥)
    → (t ≡ 8 → ⊥)
    → (t ≡ 4 → ⊥)
    → (t ≡ 6 → ⊥)
    → (t ≡ 5 → ⊥)
    → (t ≡ 3 → ⊥)
    → v ≡ null
null_left a_null h a b c d e f g = refl
null_left an_integer h a b c d e f g = absurd (a refl)
null_left a_boolean h a b c d e f g = absurd (b refl)
null_left a_mark h a b c d e f g = absurd (g refl)
null_left (an_operator x) h a b c d e f g = absurd (d refl)
null_left (a_literal x) h a b c d e f g = absurd (f refl)
null_left (an_executable x) h a b c d e f g = absurd (e refl)
null_left (a_string r x) h a b c d e f g = absurd (c refl)
null_left (an_array r x) h a b c d e f g = absurd (omega arith)
null_left (a_procedure r x) h a b c d e f g = absurd (omega arith)

module _ {d c : List ℕ} (t p : ℕ) where
  pub always_integer : t ≡ 1 → Always d c t p (decimal_z (signed p))
  unfolding shown
  always_integer e m s x l μ R v I inside = ap (shown inside μ) (is_integer I.stands e)

  pub always_truth : t ≡ 2 → Always d c t p (truth_text p)
  unfolding shown
  always_truth e m s x l μ R v I inside =
      let y = is_boolean I.stands e in
      ap (shown inside μ) y.1 ∙ truth_bit y.0 p y.2

  pub always_mark : t ≡ 3 → Always d c t p (bytes "-mark-")
  unfolding shown
  always_mark e m s x l μ R v I inside = ap (shown inside μ) (is_mark_lem I.stands e)

  pub always_null : t < 9
      → (t ≡ 1 → ⊥)
      → (t ≡ 2 → ⊥)
      → (t ≡ 8 → ⊥)
      → (t ≡ 4 → ⊥)
      → (t ≡ 6 → ⊥)
      → (t ≡ 5 → ⊥)
      → (t ≡ 3 → ⊥)
      → Always d c t p (bytes "null")
  unfolding shown
  always_null h a b c d e f g m s x l μ R v I inside = ap (shown inside μ) (null_left I.stands h a b c d e f g)

-- ---- strings

module _ {m : Machine} {s e d c l : List ℕ} {μ : Floo.Machine} (R : Rep m s e d c l μ) {v : Value} {t p : ℕ} (I : IsIn R.world μ v t p) where
  -- The string, and its text.
  module _ (tag : t ≡ 8) where
    pub as_string : (id : ℕ) × IsIn R.world μ (string id) t p × ((inside : List Value → List ℕ) → shown inside μ v ≡ quoted (current (bytes_of (object μ id))))
    unfolding shown
    as_string =
        let y = is_string_lem I.stands tag in
        (y.0, subst (λ v. IsIn R.world μ v t p) y.1 I, λ inside. ap (shown inside μ) y.1)

  -- A name, and its text.
  pub as_literal : t ≡ 5 → (n : List ℕ) × (get_elem? (keys μ) p ≡ some n) × ((inside : List Value → List ℕ) → shown inside μ v ≡ 47 ∷ escaped name_byte n)
  unfolding shown name_text bytes
  as_literal tag =
      let y = is_literal I.stands tag in
      (y.0, y.2, λ inside. ap (shown inside μ) y.1)

  pub as_executable_lem : t ≡ 6 → (n : List ℕ) × (get_elem? (keys μ) p ≡ some n) × ((inside : List Value → List ℕ) → shown inside μ v ≡ escaped name_byte n)
  unfolding shown name_text bytes
  as_executable_lem tag =
      let y = is_executable I.stands tag in
      (y.0, y.2, λ inside. ap (shown inside μ) y.1)

  pub as_operator : t ≡ 4 → (n : List ℕ) × (get_elem? (keys μ) p ≡ some n) × ((inside : List Value → List ℕ) → shown inside μ v ≡ operator_text n)
  unfolding shown
  as_operator tag =
      let y = is_operator I.stands tag in
      (y.0, title_slot R p y.0 y.2, λ inside. ap (shown inside μ) y.1)

-- ---- what they ask

module _ {d c : List ℕ} {t p : ℕ} (K : Known d c t p) where
  abbrev pub known_string : t ≡ 8 → KnownString c p
  known_string e =
      let y = as_string K.rep K.words e in
      record { small = K.small; stack = K.stack; exec = K.exec; dict = d; log = K.log; machine = K.machine; rep = K.rep; id = y.0; tag = t; words = y.1 }

  abbrev named : (n : List ℕ) → get_elem? (keys K.machine) p ≡ some n → Named p d
  named n q = record { small = K.small; stack = K.stack; exec = K.exec; heap = c; log = K.log; machine = K.machine; rep = K.rep; name = n; slot = q }

  abbrev pub known_literal : t ≡ 5 → Named p d
  known_literal e = let y = as_literal K.rep K.words e in named y.0 y.1

  abbrev pub known_executable : t ≡ 6 → Named p d
  known_executable e = let y = as_executable_lem K.rep K.words e in named y.0 y.1

  abbrev pub known_operator : t ≡ 4 → Named p d
  known_operator e = let y = as_operator K.rep K.words e in named y.0 y.1

module _ {d c : List ℕ} {t p at : ℕ} {out : List ℕ} (N : PlainRoom d c t p at out) where
  pub string_fits : t ≡ 8 → StringRoom c p at out
  string_fits e =
      let K = N.known in
      let y = as_string K.rep K.words e in
      record { known = known_string K e; fits = omega (arith, N.fits, ap length (y.2 N.inside)) }

  pub literal_fits : t ≡ 5 → NameRoom p d (at + 1) out
  literal_fits e =
      let K = N.known in
      let y = as_literal K.rep K.words e in
      record { named = known_literal K e; fits = omega (arith, N.fits, ap length (y.2 N.inside)) }

  pub executable_fits : t ≡ 6 → NameRoom p d at out
  executable_fits e =
      let K = N.known in
      let y = as_executable_lem K.rep K.words e in
      record { named = known_executable K e; fits = omega (arith, N.fits, ap length (y.2 N.inside)) }

  pub operator_fits : t ≡ 4 → TitleRoom p d at out
  operator_fits e =
      let K = N.known in
      let y = as_operator K.rep K.words e in
      record { named = known_operator K e; fits = omega (arith, N.fits, ap length (y.2 N.inside)) }

-- ---- what is measured

module _ {d c : List ℕ} {t p r : ℕ} where
  pub string_size : t ≡ 8 → StringSize c p r → PlainSize d c t p r
  string_size e Z =
      record {
        says = λ m s x l μ R v I inside.
            let y = as_string R I e in
            Z.says m s x d l μ R y.0 t y.1 ∙ sym (ap length (y.2 inside));
      }

  pub literal_size : t ≡ 5 → NameLength p d r → PlainSize d c t p (1 + r)
  literal_size e Z =
      record {
        says = λ m s x l μ R v I inside.
            let y = as_literal R I e in
            omega (arith, Z.says m s x c l μ R y.0 y.1, ap length (y.2 inside));
      }

  pub executable_size : t ≡ 6 → NameLength p d r → PlainSize d c t p r
  executable_size e Z =
      record {
        says = λ m s x l μ R v I inside.
            let y = as_executable_lem R I e in
            Z.says m s x c l μ R y.0 y.1 ∙ sym (ap length (y.2 inside));
      }

  pub operator_size : t ≡ 4 → NameSize p d r → PlainSize d c t p (11 + r)
  unfolding bytes
  operator_size e Z =
      record {
        says = λ m s x l μ R v I inside.
            let y = as_operator R I e in
            omega (
              arith,
              (Z.says m s x c l μ R y.0 y.1).0,
              ap length (y.2 inside),
              length-append (bytes "<operator:" ++ y.0) (bytes ">"),
              length-append (bytes "<operator:") y.0,
            );
      }

-- ---- what is written

module _ {d c : List ℕ} {t p at r : ℕ} {old new : List ℕ} where
  pub string_writes : t ≡ 8 → StringWrites c p at old new r → PlainWrites d c t p at old new r
  string_writes e W =
      record {
        says = λ m s x l μ R v I inside.
            let y = as_string R I e in
            respelt (y.2 inside) (W.says m s x d l μ R y.0 t y.1);
      }

  pub executable_writes : t ≡ 6 → NameWrites p d at old new r → PlainWrites d c t p at old new r
  executable_writes e W =
      record {
        says = λ m s x l μ R v I inside.
            let y = as_executable_lem R I e in
            respelt (y.2 inside) (W.says m s x c l μ R y.0 y.1);
      }

  pub operator_writes : t ≡ 4 → TitleWrites p d at old new r → PlainWrites d c t p at old new r
  operator_writes e W =
      record {
        says = λ m s x l μ R v I inside.
            let y = as_operator R I e in
            respelt (y.2 inside) (W.says m s x c l μ R y.0 y.1);
      }

pub literal_writes : {d c : List ℕ} {t p r : ℕ} (at : ℕ) (old : List ℕ) {new : List ℕ}
    → at < length old
    → t ≡ 5
    → NameWrites p d (at + 1) (set old at 47) new r
    → PlainWrites d c t p at old new r
literal_writes {d} {c} at old low e W =
    record {
      says = λ m s x l μ R v I inside.
          let y = as_literal R I e in
          respelt (y.2 inside) (first at 47 old low (W.says m s x c l μ R y.0 y.1));
    }

-- The byte before a literal name.
pub literal_low : {d c : List ℕ} {t p at : ℕ} {out : List ℕ} → PlainRoom d c t p at out → t ≡ 5 → at < length out
literal_low N e = omega (arith, (literal_fits N e).fits)

pub literal_set : {k at : ℕ} {d out : List ℕ} (x b : ℕ) → NameRoom k d at out → NameRoom k d at (set out x b)
literal_set {out = out} x b N = record { named = N.named; fits = omega (arith, N.fits, length-set out x b) }
