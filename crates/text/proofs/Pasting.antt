-- Writings compose: a text written after another is the two written as one. By splitting the buffer at the places where the texts begin and end.
-- Assumes nothing.
use mathlib.Core.Path.{◌≡◌, refl, sym, ap, ◌∙◌}
use mathlib.Core.List.{List, [], ◌∷◌, ◌++◌, append_assoc, append-nil}
use Prim.Native.Nat.{ℕ, ◌+◌, ◌≤◌, ◌<◌}
use native.Mathlib.Nat.{add-zero, add_assoc}
use native.Mathlib.Numerals.{add-one}
use native.Mathlib.Omega.{arith}
use lib.ListN.{length, take, drop, set, get_or, length-append, length-drop, take-append-drop}
use lib.Seq.{length-take-le, take_at, drop_at, drop-drop, set_split, take-suc, append_snoc}
use borrow.Rule.Slice.PartMut.{put_mid}
use Rattle.semantics.specs.ObjectOperators.{pasted}
use Rattle.text.specs.Writing.{Written}

pub pasted_nil : (at : ℕ) (old : List ℕ) → pasted at [] old ≡ old
unfolding pasted
pasted_nil at old = rw (add-zero, append-nil) (take-append-drop at old)

-- what stands before the end of a text that is written
length_head : (at : ℕ) (t old : List ℕ) → at ≤ length old → length (take at old ++ t) ≡ at + length t
length_head at t old h = rw (length-append, length-take-le)

pub length_pasted : (at : ℕ) (t old : List ℕ) → at + length t ≤ length old → length (pasted at t old) ≡ length old
unfolding pasted
length_pasted at t old h =
    let low : at ≤ length old = omega arith in
    rw (length-append (take at old ++ t), length_head, length-drop) (omega arith)

pub pasted_append : (at : ℕ) (a b old : List ℕ) → at ≤ length old → pasted at (a ++ b) old ≡ pasted (at + length a) b (pasted at a old)
unfolding pasted
pasted_append at a b old h =
    let e = length_head at a old h in
    let rest = drop (at + length a) old in
    rw (
      sym (drop-drop (length b) (at + length a) (take at old ++ a ++ rest)),
      take_at (take at old ++ a) rest (at + length a) e,
      drop_at (take at old ++ a) rest (at + length a) e,
      drop-drop,
      length-append,
      add_assoc,
    ) (simp append_assoc)

-- one byte
pub set_pasted : (at v : ℕ) (old : List ℕ) → at < length old → set old at v ≡ pasted at (v ∷ []) old
unfolding pasted
set_pasted at v old h = rw (set_split, append_snoc, add-one)

-- ---- as writers do it

pub nothing : (at : ℕ) (old : List ℕ) → Written at [] old old at
nothing at old = record { end = omega arith; bytes = sym (pasted_nil at old) }

pub one : {at : ℕ} {v : ℕ} {old : List ℕ} → at < length old → Written at (v ∷ []) old (set old at v) (at + 1)
one h = record { end = refl; bytes = set_pasted _ _ _ h }

pub then : {at r q : ℕ} {a b old mid new : List ℕ} → at ≤ length old → Written at a old mid r → Written r b mid new q → Written at (a ++ b) old new q
then {a} {b} h x y = record { end = omega (arith, length-append a b); bytes = rw (y.bytes, x.end, x.bytes, pasted_append) }

-- a byte, then a text
pub first : (at v : ℕ) (old : List ℕ) {t new : List ℕ} {r : ℕ} → at < length old → Written (at + 1) t (set old at v) new r → Written at (v ∷ t) old new r
first at v old h w = then (omega arith) (one h) w

-- a text, then a byte
pub last : {at r : ℕ} {t old mid : List ℕ} (v : ℕ) → at ≤ length old → r < length mid → Written at t old mid r → Written at (t ++ (v ∷ [])) old (set mid r v) (r + 1)
last v h k w = then h w (one k)

pub kept : {at r : ℕ} {t old new : List ℕ} → at + length t ≤ length old → Written at t old new r → length new ≡ length old
kept h x = ap length x.bytes ∙ length_pasted _ _ _ h

pub respelt : {at r : ℕ} {t u old new : List ℕ} → u ≡ t → Written at t old new r → Written at u old new r
respelt e w = rw e w

-- a turn of a loop that copies t
pub next : (at i : ℕ) (t : List ℕ) {old new : List ℕ} → i < length t → at + length t ≤ length old → Written at (take i t) old new (at + i) → Written at (take (i + 1) t) old (set new (at + i) (get_or t i 0)) (at + (i + 1))
next at i t {old} {new} h room w =
    let few : length (take i t) ≡ i = length-take-le i t (omega arith) in
    let same : length new ≡ length old = kept (omega arith) w in
    rw (add-one i, take-suc t i 0, ← add-one i, ← add_assoc) (last (get_or t i 0) (omega arith) (omega arith) w)

-- a text put over a part as long as it is
pub put : (at k : ℕ) (t : List ℕ) {old part : List ℕ} → part ≡ t → k ≡ length t → Written at t old (put_mid at k old part) (at + length t)
unfolding pasted
put at k t e f = record { end = refl; bytes = rw (e, f, drop-drop) (simp append_assoc) }
