-- The loops over the bytes of a string, by its header: its current length is found, and the text of its first q current bytes is measured or written.
-- Assumes nothing.
use mathlib.Core.Path.{◌≡◌, refl, sym, ap, ◌∙◌}
use mathlib.Core.List.{List}
use Prim.Native.Nat.{ℕ, ◌+◌, ◌*◌, ◌%◌, ◌/◌, ◌≤◌, ◌<◌}
use native.Mathlib.Omega.{arith}
use lib.ListN.{length, get_or, take, set, length-set}
use Rattle.semantics.specs.Text.{bytes}
use Rattle.semantics.specs.Values.{string, current}
use Rattle.semantics.specs.Machine as Floo
use Rattle.semantics.specs.Machine.{object, bytes_of}
use Rattle.semantics.specs.Printing.{escaped, string_byte}
use Rattle.heap.specs.Word.{word}
use Rattle.store.specs.Rep.{byte_of}
use Rattle.text.specs.Writing.{Written, byte_text}
use Rattle.text.proofs.Pasting.{nothing, first, last}
use Rattle.text.proofs.Escapes.{length_quoted}
use Rattle.machine.specs.Rep.{Rep, IsIn}
use Rattle.machine.specs.declared.Machine.{Machine}
use Rattle.elements.proofs.Arrays.{Found}
use Rattle.strings.proofs.Currents.{Scans, scans_zero, scans_more, scans_all}
use Rattle.strings.proofs.Prefixes.{current_byte}
use Rattle.printing.specs.Shown.{KnownString, StringRoom, StringByte, CurrentSize, StringSize, StringWrites}
use Rattle.printing.proofs.Headers.{most_is, byte_at}
use Rattle.printing.proofs.Letters.{string_short, sum_more, byte_fits, text_more, sum_all, text_all}

-- ---- a byte

pub byte_read : {c : List ℕ} {h q cell w b : ℕ}
    → q + 1 < word c h 0
    → Found c h (q / 8) cell
    → w ≡ word c cell (q % 8 / 4)
    → b ≡ byte_of w (q % 8 % 4)
    → StringByte c h q b
byte_read {c} {h} {q} {cell} inside found x y =
    record { says = λ m s e d l μ R id t I. y ∙ ap (λ v. byte_of v (q % 8 % 4)) x ∙ byte_at R I q inside cell found }

-- ---- the current length

pub record Scanned (c : List ℕ) (h q : ℕ) : Type 0 where
  pub within : q < word c h 0
  pub says : (m : Machine) (s e d l : List ℕ) (μ : Floo.Machine) (R : Rep m s e d c l μ) (id t : ℕ)
      → IsIn R.world μ (string id) t h
      → Scans (bytes_of (object μ id)) q

pub scan_begin : {c : List ℕ} {h : ℕ} → KnownString c h → Scanned c h 0
scan_begin K =
    record { within = omega (arith, most_is K.rep K.words); says = λ m s e d l μ R id t I. omega arith }

module _ {c : List ℕ} {h q : ℕ} (S : Scanned c h q) where
  pub scan_ends : word c h 0 ≤ q + 1 → CurrentSize c h q
  scan_ends past =
      record { says = λ m s e d l μ R id t I. scans_all (bytes_of (object μ id)) q (S.says m s e d l μ R id t I) (omega (arith, past, most_is R I)) }

  module _ (inside : q + 1 < word c h 0) {b : ℕ} (B : StringByte c h q b) where
    pub scan_stops : b ≡ 0 → CurrentSize c h q
    scan_stops z =
        record {
          says = λ m s e d l μ R id t I.
              scans_zero (bytes_of (object μ id)) q (S.says m s e d l μ R id t I) (omega (arith, inside, most_is R I)) (sym (B.says m s e d l μ R id t I) ∙ z);
        }

    pub scan_again : (b ≡ 0 → ⊥) → Scanned c h (q + 1)
    scan_again z =
        record {
          within = inside;
          says = λ m s e d l μ R id t I.
              scans_more (bytes_of (object μ id)) q (S.says m s e d l μ R id t I) (omega (arith, inside, most_is R I)) (λ y. z (B.says m s e d l μ R id t I ∙ y));
        }

-- ---- measured

pub record StringSum (c : List ℕ) (h q sum : ℕ) : Type 0 where
  pub short : sum ≤ 4 * q + 2
  pub says : (m : Machine) (s e d l : List ℕ) (μ : Floo.Machine) (R : Rep m s e d c l μ) (id t : ℕ)
      → IsIn R.world μ (string id) t h
      → sum ≡ length (escaped string_byte (take q (current (bytes_of (object μ id))))) + 2

pub sum_begin : (c : List ℕ) (h : ℕ) → StringSum c h 0 2
unfolding escaped
sum_begin c h = record { short = omega arith; says = λ m s e d l μ R id t I. refl }

module _ {c : List ℕ} {h size : ℕ} (Z : CurrentSize c h size) where
  -- A byte is one of the current bytes.
  byte_current : {q b : ℕ}
      → q < size
      → StringByte c h q b
      → (m : Machine) (s e d l : List ℕ) (μ : Floo.Machine) (R : Rep m s e d c l μ) (id t : ℕ)
      → IsIn R.world μ (string id) t h
      → b ≡ get_or (current (bytes_of (object μ id))) q 0
  byte_current {q} inside B m s e d l μ R id t I =
      B.says m s e d l μ R id t I ∙ sym (current_byte (bytes_of (object μ id)) q (omega (arith, inside, Z.says m s e d l μ R id t I)))

  module _ {q : ℕ} (inside : q < size) {b : ℕ} (B : StringByte c h q b) where
    pub sum_again : {sum len : ℕ} → StringSum c h q sum → len ≡ length (string_byte b) → StringSum c h (q + 1) (sum + len)
    sum_again {sum} {len} S g =
        record {
          short = omega (arith, S.short, g, string_short b);
          says = λ m s e d l μ R id t I.
              let bs = current (bytes_of (object μ id)) in
              let more = sum_more string_byte bs q (omega (arith, inside, Z.says m s e d l μ R id t I)) (byte_current inside B m s e d l μ R id t I) {sum = length (escaped string_byte (take q bs))} refl g in
              omega (arith, more, S.says m s e d l μ R id t I);
        }

  pub sum_ends : {q sum : ℕ} → size ≤ q → StringSum c h q sum → StringSize c h sum
  unfolding byte_text
  sum_ends {q} past S =
      record {
        says = λ m s e d l μ R id t I.
            let bs = current (bytes_of (object μ id)) in
            let all = sum_all string_byte bs q (omega (arith, past, Z.says m s e d l μ R id t I)) {sum = length (escaped string_byte (take q bs))} refl in
            omega (arith, all, S.says m s e d l μ R id t I, length_quoted bs);
      }

-- ---- written, after the opening quote

pub record StringText (c : List ℕ) (h q at : ℕ) (old new : List ℕ) (r : ℕ) : Type 0 where
  pub long : length new ≡ length old
  pub says : (m : Machine) (s e d l : List ℕ) (μ : Floo.Machine) (R : Rep m s e d c l μ) (id t : ℕ)
      → IsIn R.world μ (string id) t h
      → Written at (escaped string_byte (take q (current (bytes_of (object μ id))))) old new r

pub text_begin : (c : List ℕ) (h at : ℕ) (old : List ℕ) → StringText c h 0 at old old at
unfolding escaped
text_begin c h at old = record { long = refl; says = λ m s e d l μ R id t I. nothing at old }

module _ {c : List ℕ} {h at : ℕ} {out : List ℕ} (N : StringRoom c h at out) where
  abbrev bs : List ℕ
  bs = current (bytes_of (object N.known.machine N.known.id))

  pub quoted_fits : at + length (escaped string_byte bs) + 2 ≤ length out
  unfolding byte_text
  quoted_fits = omega (arith, N.fits, length_quoted bs)

  module _ {size : ℕ} (Z : CurrentSize c h size) {old : List ℕ} (same : length old ≡ length out) where
    module _ {q : ℕ} {mid : List ℕ} {r : ℕ} (T : StringText c h q (at + 1) old mid r) where
      module _ (inside : q < size) {b : ℕ} (B : StringByte c h q b) where
        pub text_room : r + length (string_byte b) ≤ length mid
        text_room =
            let K = N.known in
            let size = Z.says _ _ _ _ _ _ K.rep K.id K.tag K.words in
            let fits : at + 1 + length (escaped string_byte bs) ≤ length old = omega (arith, quoted_fits) in
            omega (
              arith,
              T.long,
              byte_fits string_byte bs q (omega (arith, inside, size)) (byte_current Z inside B _ _ _ _ _ _ K.rep K.id K.tag K.words)
                  (T.says _ _ _ _ _ _ K.rep K.id K.tag K.words) fits,
            )

        pub text_again : {new : List ℕ} {r' : ℕ} → Written r (string_byte b) mid new r' → length new ≡ length mid → StringText c h (q + 1) (at + 1) old new r'
        text_again W long =
            record {
              long = long ∙ T.long;
              says = λ m s e d l μ R id t I.
                  text_more string_byte (current (bytes_of (object μ id))) q (omega (arith, inside, Z.says m s e d l μ R id t I)) (byte_current Z inside B m s e d l μ R id t I)
                  (omega (arith, quoted_fits)) (T.says m s e d l μ R id t I) W;
            }

      pub text_past : size ≤ q → r < length mid
      text_past past =
          let K = N.known in
          let size = Z.says _ _ _ _ _ _ K.rep K.id K.tag K.words in
          let all = text_all string_byte bs q (omega (arith, past, size)) (T.says _ _ _ _ _ _ K.rep K.id K.tag K.words) in
          omega (arith, all.end, quoted_fits, T.long)

  pub text_ends : {size : ℕ}
      → CurrentSize c h size
      → {q : ℕ} {mid : List ℕ} {r : ℕ}
      → size ≤ q
      → StringText c h q (at + 1) (set out at 34) mid r
      → StringWrites c h at out (set mid r 34) (r + 1)
  unfolding bytes
  text_ends Z {q} {mid} {r} past T =
      let same = length-set out at 34 in
      let low = text_past Z same T past in
      record {
        says = λ m s e d l μ R id t I.
            let all = text_all string_byte (current (bytes_of (object μ id))) q (omega (arith, past, Z.says m s e d l μ R id t I)) (T.says m s e d l μ R id t I) in
            first at 34 out (omega (arith, quoted_fits)) (last 34 (omega (arith, quoted_fits, same)) low all);
      }
