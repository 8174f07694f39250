-- The loops over the bytes of a name: the text of its first j bytes is measured or written.
-- Assumes nothing.
use mathlib.Core.Path.{◌≡◌, refl, sym, ◌∙◌, subst}
use mathlib.Core.List.{List, [], ◌++◌}
use mathlib.Core.Option.{some}
use Prim.Native.Nat.{ℕ, ◌+◌, ◌*◌, ◌≤◌, ◌<◌}
use native.Mathlib.Omega.{arith}
use lib.ListN.{length, take, set, get_elem?, length-append, length-set}
use lib.Seq.{take_all}
use Rattle.semantics.specs.Sizes.{name_most}
use Rattle.semantics.specs.Text.{bytes}
use Rattle.semantics.specs.Machine as Floo
use Rattle.semantics.specs.Printing.{escaped, name_byte}
use Rattle.text.specs.Writing.{Written, byte_text}
use Rattle.text.proofs.Pasting.{nothing, next, last, then}
use Rattle.text.proofs.Escapes.{escaped_short}
use mathlib.Core.Bool.{false}
use Rattle.machine.specs.Places.{keys}
use Rattle.machine.specs.Rep.{Rep}
use Rattle.machine.specs.declared.Machine.{Machine}
use Rattle.names.specs.Names.{Named, NameSize, NameByte}
use Rattle.names.proofs.Spelling.{size_is}
use Rattle.printing.specs.Shown.{NameRoom, NameLength, NameWrites, TitleRoom, TitleWrites}
use Rattle.printing.proofs.Letters.{name_short, sum_more, byte_fits, text_more, sum_all, text_all}

-- ---- measured

pub record NameSum (k : ℕ) (d : List ℕ) (j sum : ℕ) : Type 0 where
  pub short : sum ≤ 4 * j
  pub says : (m : Machine) (s e c l : List ℕ) (μ : Floo.Machine)
      → Rep m s e d c l μ
      → (n : List ℕ)
      → get_elem? (keys μ) k ≡ some n
      → sum ≡ length (escaped name_byte (take j n))

pub sum_begin : (k : ℕ) (d : List ℕ) → NameSum k d 0 0
unfolding escaped
sum_begin k d = record { short = omega arith; says = λ m s e c l μ R n q. refl }

module _ {k : ℕ} {d : List ℕ} {size : ℕ} (Z : NameSize k d size) where
  -- A name has 31 bytes at most.
  pub name_few : Named k d → size ≤ name_most
  name_few N = (Z.says _ _ _ _ _ _ N.rep N.name N.slot).1

  module _ {j : ℕ} (inside : j < size) {b : ℕ} (B : NameByte k j d b) where
    pub sum_again : {sum len : ℕ} → NameSum k d j sum → len ≡ length (name_byte b) → NameSum k d (j + 1) (sum + len)
    sum_again S h =
        record {
          short = omega (arith, S.short, h, name_short b);
          says = λ m s e c l μ R n q.
              sum_more name_byte n j (omega (arith, inside, (Z.says m s e c l μ R n q).0)) (B.says m s e c l μ R n q) (S.says m s e c l μ R n q) h;
        }

  pub sum_ends : {j sum : ℕ} → size ≤ j → NameSum k d j sum → NameLength k d sum
  sum_ends {j} past S =
      record {
        says = λ m s e c l μ R n q. sum_all name_byte n j (omega (arith, past, (Z.says m s e c l μ R n q).0)) (S.says m s e c l μ R n q);
      }

-- A byte takes 4 at most.
pub name_small : {k : ℕ} {d : List ℕ} {r : ℕ} → NameLength k d r → Named k d → r ≤ 124
unfolding byte_text
name_small {k} L N =
    let size = size_is N.rep k N.name N.slot in
    omega (arith, L.says _ _ _ _ _ _ N.rep N.name N.slot, escaped_short false N.name, size.0, size.1)

-- ---- written

pub record NameText (k : ℕ) (d : List ℕ) (j at : ℕ) (old new : List ℕ) (r : ℕ) : Type 0 where
  pub long : length new ≡ length old
  pub says : (m : Machine) (s e c l : List ℕ) (μ : Floo.Machine)
      → Rep m s e d c l μ
      → (n : List ℕ)
      → get_elem? (keys μ) k ≡ some n
      → Written at (escaped name_byte (take j n)) old new r

pub text_begin : (k : ℕ) (d : List ℕ) (at : ℕ) (old : List ℕ) → NameText k d 0 at old old at
unfolding escaped
text_begin k d at old = record { long = refl; says = λ m s e c l μ R n q. nothing at old }

module _ {k : ℕ} {d : List ℕ} {size : ℕ} (Z : NameSize k d size) {at : ℕ} {old : List ℕ} (N : NameRoom k d at old) where
  module _ {j : ℕ} (inside : j < size) {b : ℕ} (B : NameByte k j d b) {mid : List ℕ} {r : ℕ} (T : NameText k d j at old mid r) where
    pub text_room : r + length (name_byte b) ≤ length mid
    text_room =
        let K = N.named in
        let name = K.name in
        let q = K.slot in
        omega (
          arith,
          T.long,
          byte_fits name_byte name j (omega (arith, inside, (Z.says _ _ _ _ _ _ K.rep name q).0)) (B.says _ _ _ _ _ _ K.rep name q)
              (T.says _ _ _ _ _ _ K.rep name q) N.fits,
        )

    pub text_again : {new : List ℕ} {r' : ℕ} → Written r (name_byte b) mid new r' → length new ≡ length mid → NameText k d (j + 1) at old new r'
    text_again W long =
        record {
          long = long ∙ T.long;
          says = λ m s e c l μ R n q.
              text_more name_byte n j (omega (arith, inside, (Z.says m s e c l μ R n q).0)) (B.says m s e c l μ R n q) (omega (arith, N.fits)) (T.says m s e c l μ R n q) W;
        }

  pub text_ends : {j : ℕ} → size ≤ j → {new : List ℕ} {r : ℕ} → NameText k d j at old new r → NameWrites k d at old new r
  text_ends {j} past T =
      record {
        says = λ m s e c l μ R n q. text_all name_byte n j (omega (arith, past, (Z.says m s e c l μ R n q).0)) (T.says m s e c l μ R n q);
      }

-- ---- an operator's name

-- Its first j bytes are written as they are.
pub record TitleText (k : ℕ) (d : List ℕ) (j start : ℕ) (old new : List ℕ) : Type 0 where
  pub long : length new ≡ length old
  pub says : (m : Machine) (s e c l : List ℕ) (μ : Floo.Machine)
      → Rep m s e d c l μ
      → (n : List ℕ)
      → get_elem? (keys μ) k ≡ some n
      → Written start (take j n) old new (start + j)

pub title_begin : (k : ℕ) (d : List ℕ) (start : ℕ) (old : List ℕ) → TitleText k d 0 start old old
title_begin k d start old =
    let end : start ≡ start + 0 = omega arith in
    record { long = refl; says = λ m s e c l μ R n q. subst (λ r. Written start [] old old r) end (nothing start old) }

module _ {k : ℕ} {d : List ℕ} {size : ℕ} (Z : NameSize k d size) {at : ℕ} {out : List ℕ} (N : TitleRoom k d at out) where
  pub title_fits : at + size + 11 ≤ length out
  unfolding bytes
  title_fits =
      let K = N.named in
      omega (arith, N.fits, (Z.says _ _ _ _ _ _ K.rep K.name K.slot).0, length-append (bytes "<operator:" ++ K.name) (bytes ">"), length-append (bytes "<operator:") K.name)

  pub title_again : {j start : ℕ} {old mid : List ℕ} {b : ℕ}
      → j < size
      → start + size ≤ length old
      → NameByte k j d b
      → TitleText k d j start old mid
      → TitleText k d (j + 1) start old (set mid (start + j) b)
  title_again {j} {start} {old} {mid} {b} inside room B T =
      record {
        long = length-set mid (start + j) b ∙ T.long;
        says = λ m s e c l μ R n q.
            let z = (Z.says m s e c l μ R n q).0 in
            subst (λ v. Written start (take (j + 1) n) old (set mid (start + j) v) (start + (j + 1))) (sym (B.says m s e c l μ R n q))
            (next start j n (omega (arith, inside, z)) (omega (arith, room, z)) (T.says m s e c l μ R n q));
      }

  -- The text before it, the name, and the byte after it.
  pub title_ends : {j start : ℕ} {mid new : List ℕ}
      → j ≡ size
      → Written at (bytes "<operator:") out mid start
      → TitleText k d j start mid new
      → length mid ≡ length out
      → TitleWrites k d at out (set new (start + size) 62) (start + size + 1)
  unfolding bytes
  title_ends {j} {start} {mid} {new} z first T same =
      record {
        says = λ m s e c l μ R n q.
            let long : length n ≤ j = omega (arith, z, (Z.says m s e c l μ R n q).0) in
            let name : Written start n mid new (start + size) =
            subst (λ x. Written start n mid new (start + x)) z (subst (λ (t : List ℕ). Written start t mid new (start + j)) (take_all j n long) (T.says m s e c l μ R n q)) in
            last 62 (omega (arith, title_fits)) (omega (arith, title_fits, first.end, T.long, same)) (then (omega (arith, title_fits)) first name);
      }
