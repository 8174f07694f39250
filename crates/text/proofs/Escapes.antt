-- The text of a byte by the tests that the code makes, and the text of a list of bytes, one byte after the other. By the tests' values, and by induction on the list.
-- Assumes nothing.
use mathlib.Core.Path.{◌≡◌, refl, ap}
use mathlib.Core.Bool.{Bool, true, false, not, ◌&&◌}
use mathlib.Core.List.{List, [], ◌∷◌, ◌++◌, append_assoc, append-nil}
use Prim.Native.Nat.{ℕ, ◌+◌, ◌*◌, ◌≤◌, ◌<◌}
use native.Mathlib.Numerals.{add-one}
use native.Mathlib.Omega.{arith}
use lib.ListN.{length, take, drop, get_or, length-append, take-append-drop}
use lib.Seq.{take-suc}
use lib.Dec.{leb, eqb}
use borrow.Author.Tests.{le-leb, lt-leb, ne_eqb}
use Rattle.semantics.specs.Text.{bytes, octal}
use Rattle.semantics.specs.Printing.{escaped, string_byte, name_byte, name_text}
use Rattle.text.specs.Writing.{Written, is_plain, visible, byte_text, quoted}
use Rattle.text.specs.Lengths.{string_byte_short, name_byte_short}
use Rattle.text.proofs.Pasting.{then}

-- ---- a byte

pub plain_below : (low b : ℕ) → b < low → is_plain low b ≡ false
unfolding is_plain
plain_below low b h = rw (lt-leb low b h)

pub plain_above : (low b : ℕ) → 126 < b → is_plain low b ≡ false
unfolding is_plain
plain_above low b h = rw (lt-leb b 126 h) (both (leb low b))
  where
    both : (t : Bool) → t && false && not (eqb b 92) ≡ false
    both true = refl
    both false = refl

pub plain_within : (low b : ℕ) → low ≤ b → b ≤ 126 → is_plain low b ≡ not (eqb b 92)
unfolding is_plain
plain_within low b h k = rw (le-leb low b h, le-leb b 126 k)

pub visible_plain : (low b : ℕ) → is_plain low b ≡ true → visible low b ≡ b ∷ []
unfolding visible
visible_plain low b e = rw e

pub visible_octal : (low b : ℕ) → is_plain low b ≡ false → visible low b ≡ octal b
unfolding visible
visible_octal low b e = rw e

pub string_quote : (b : ℕ) → b ≡ 34 → string_byte b ≡ 92 ∷ 34 ∷ []
unfolding string_byte bytes
string_quote b e = rw e

pub string_newline : (b : ℕ) → b ≡ 10 → string_byte b ≡ 92 ∷ 110 ∷ []
unfolding string_byte bytes
string_newline b e = rw e

pub string_visible : (b : ℕ) → (b ≡ 34 → ⊥) → (b ≡ 10 → ⊥) → string_byte b ≡ visible 32 b
unfolding string_byte visible is_plain
string_visible b q n = rw (ne_eqb b 34 q, ne_eqb b 10 n)

pub name_visible : (b : ℕ) → name_byte b ≡ visible 33 b
unfolding name_byte visible is_plain
name_visible b = refl

pub byte_short : (k : Bool) (b : ℕ) → length (byte_text k b) ≤ 4
unfolding byte_text
byte_short true b = string_byte_short b
byte_short false b = name_byte_short b

-- ---- a list of bytes, with the text of a byte given

pub escaped_append : (f : ℕ → List ℕ) (a b : List ℕ) → escaped f (a ++ b) ≡ escaped f a ++ escaped f b
unfolding escaped
escaped_append f [] b = refl
escaped_append f (x ∷ a) b = rw (escaped_append f a b, append_assoc)

pub escaped_more : (f : ℕ → List ℕ) (s : List ℕ) (i : ℕ) → i < length s → escaped f (take (i + 1) s) ≡ escaped f (take i s) ++ f (get_or s i 0)
unfolding escaped
escaped_more f s i h = rw (add-one, take-suc s i 0, escaped_append) (ap (λ (l : List ℕ). escaped f (take i s) ++ l) (append-nil (f (get_or s i 0))))

pub escaped_longer : (f : ℕ → List ℕ) (s : List ℕ) (i : ℕ) → i < length s → length (escaped f (take (i + 1) s)) ≡ length (escaped f (take i s)) + length (f (get_or s i 0))
escaped_longer f s i h = rw (escaped_more f s i h, length-append)

-- what is written stays within the whole text
pub escaped_part : (f : ℕ → List ℕ) (s : List ℕ) (i : ℕ) → length (escaped f (take i s)) ≤ length (escaped f s)
escaped_part f s i =
    omega (arith, ap (λ (l : List ℕ). length (escaped f l)) (take-append-drop i s), ap length (escaped_append f (take i s) (drop i s)), length-append (escaped f (take i s)) (escaped f (drop i s)))

-- a byte takes 4 at most
pub escaped_within : (f : ℕ → List ℕ) → ((b : ℕ) → length (f b) ≤ 4) → (s : List ℕ) → length (escaped f s) ≤ 4 * length s
unfolding escaped
escaped_within f h [] = omega arith
escaped_within f h (b ∷ s) = rw length-append (omega (arith, h b, escaped_within f h s))

pub escaped_short : (k : Bool) (s : List ℕ) → length (escaped (byte_text k) s) ≤ 4 * length s
escaped_short k s = escaped_within (byte_text k) (byte_short k) s

-- a turn of a loop that writes the text of s
pub escaped_next : {at r q : ℕ} {old mid new : List ℕ} (f : ℕ → List ℕ) (s : List ℕ) (i : ℕ) → i < length s → at ≤ length old
    → Written at (escaped f (take i s)) old mid r → Written r (f (get_or s i 0)) mid new q → Written at (escaped f (take (i + 1) s)) old new q
escaped_next f s i h room x y = rw (escaped_more f s i h) (then room x y)

-- ---- strings and names

pub length_quoted : (s : List ℕ) → length (quoted s) ≡ length (escaped string_byte s) + 2
unfolding bytes
length_quoted s = rw length-append (omega arith)

pub quoted_parts : (s : List ℕ) → quoted s ≡ 34 ∷ (escaped string_byte s ++ (34 ∷ []))
unfolding bytes
quoted_parts s = refl

pub name_executable : (s : List ℕ) (x : Bool) → x ≡ true → name_text x s ≡ escaped name_byte s
unfolding name_text
name_executable s x e = rw e

pub name_literal : (s : List ℕ) (x : Bool) → x ≡ false → name_text x s ≡ 47 ∷ escaped name_byte s
unfolding name_text bytes
name_literal s x e = rw e
