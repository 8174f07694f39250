-- What put, putinterval, astore, bind and cvs write over an object asks no more than the object did, and is of its kind and length where kinds are known:
-- each writes within its bounds.
-- Assumes nothing.
use mathlib.Core.Path.{◌≡◌, refl, sym, ◌∙◌, subst}
use mathlib.Core.Bool.{true, false}
use mathlib.Core.List.{List, ◌++◌, map, reverse}
use Prim.Native.Nat.{ℕ, ◌+◌, ◌≤◌}
use native.Mathlib.Omega.{arith}
use native.Mathlib.Nat.{min-le_right}
use lib.IntN.{ℤ}
use lib.Dec.{T, leb→le}
use lib.ListN.{length, take, drop, set, length-append, length-take, length-drop, length-set, length-reverse, length-map}
use lib.Seq.{length-take-le}
use Rattle.semantics.specs.Values.{Result, Value, Object, elements, text}
use Rattle.semantics.specs.Machine.{elements_of, bytes_of}
use Rattle.semantics.specs.ObjectOperators.{put_element, put_byte, put_into, size, part, pasted, put_all}
use Rattle.semantics.specs.TextOperators.{overwrite}
use Rattle.semantics.specs.ResultLaws.{Gives, gives, fails, gives_then, gives_check}
use Rattle.semantics.specs.ListLaws.{All, all_append, all_take, all_drop, all_reverse, all_set, all_map}
use Rattle.walk.specs.Objects.{is_string, Alike}
use Rattle.walk.specs.Parts.{Parts, Good, GoodObject}
use Rattle.walk.proofs.Parts.{array_object, text_object}
use Rattle.walk.proofs.Property.{gives_each}

-- ---- sizes

elements_size : (o : Object) → length (elements_of o) ≤ size o
unfolding size elements_of
elements_size (elements us) = omega arith
elements_size (text bs) = omega arith

bytes_size : (o : Object) → length (bytes_of o) ≤ size o
unfolding size bytes_of
bytes_size (elements us) = omega arith
bytes_size (text bs) = omega arith

overwrite_length : (t bs : List ℕ) → length t ≤ length bs → length (overwrite t bs) ≡ length bs
unfolding overwrite
overwrite_length t bs h =
    let rest = set bs (length t) 0 in
    omega (arith, h, length-append t (drop (length t) rest), length-drop (length t) rest, length-set bs (length t) 0)

part_length : {A : Type 0} (a n : ℕ) (l : List A) → length (take n (drop a l)) ≤ length l
part_length a n l = omega (arith, length-take n (drop a l), length-drop a l, min-le_right n (length (drop a l)))

pasted_length : {A : Type 0} (start : ℕ) (new old : List A) → start + length new ≤ length old → length (pasted start new old) ≡ length old
unfolding pasted
pasted_length start new old h =
    let after = drop (start + length new) old in
    let low : start ≤ length old = omega (arith, h) in
    omega (
      arith,
      h,
      length-append (take start old ++ new) after,
      length-append (take start old) new,
      length-take-le start old low,
      length-drop (start + length new) old,
    )

pasted_all : {A : Type 0} {P : A → Type 0} (a : ℕ) {new old : List A} → All P new → All P old → All P (pasted a new old)
unfolding pasted
pasted_all a {new} h k = all_append (all_append (all_take a k) h) (all_drop (a + length new) k)

-- ---- kinds

array_alike : (o : Object) → is_string o ≡ false → (vs : List Value) → length vs ≡ size o → Alike o (elements vs)
unfolding size
array_alike (elements us) e vs l = record { kind = refl; extent = l }
array_alike (text bs) e vs l = absurd (subst T e tt)

text_alike : (o : Object) → is_string o ≡ true → (cs : List ℕ) → length cs ≡ length (bytes_of o) → Alike o (text cs)
unfolding size bytes_of
text_alike (elements us) e cs l = absurd (subst T (sym e) tt)
text_alike (text bs) e cs l = record { kind = refl; extent = l }

elements_all : (o : Object) → is_string o ≡ false → length (elements_of o) ≡ size o
unfolding size elements_of
elements_all (elements us) e = refl
elements_all (text bs) e = absurd (subst T e tt)

pub bind_alike : (f : Value → Value) (o : Object) → is_string o ≡ false → Alike o (elements (map f (elements_of o)))
bind_alike f o e = array_alike o e (map f (elements_of o)) (length-map (elements_of o) f ∙ elements_all o e)

stored_length : (o : Object) (s : List Value) → size o ≤ length s → length (reverse (take (size o) s)) ≡ size o
stored_length o s h = length-reverse (take (size o) s) ∙ length-take-le (size o) s h

pub astore_alike : (o : Object) (s : List Value) → is_string o ≡ false → size o ≤ length s → Alike o (elements (reverse (take (size o) s)))
astore_alike o s e h = array_alike o e (reverse (take (size o) s)) (stored_length o s h)

pub cvs_alike : (t : List ℕ) (o : Object) → is_string o ≡ true → length t ≤ length (bytes_of o) → Alike o (text (overwrite t (bytes_of o)))
cvs_alike t o e h = text_alike o e (overwrite t (bytes_of o)) (overwrite_length t (bytes_of o) h)

-- ---- what is asked

module _ {A : Parts} {s : List Object} where
  pub bind_good : (f : Value → Value) (o : Object) → ((v : Value) → Good A s v → Good A s (f v)) → GoodObject A s o → GoodObject A s (elements (map f (elements_of o)))
  bind_good f o g h =
      array_object (all_map f g h.inside) (A.numbers.smaller _ (size o) (omega (arith, length-map (elements_of o) f, elements_size o)) h.extent)

  pub astore_good : (o : Object) {t : List Value} → GoodObject A s o → All (Good A s) t → size o ≤ length t → GoodObject A s (elements (reverse (take (size o) t)))
  astore_good o {t} h k l = array_object (all_reverse (all_take (size o) k)) (A.numbers.smaller _ (size o) (omega (arith, stored_length o t l)) h.extent)

  pub cvs_good : (t : List ℕ) (o : Object)
      → GoodObject A s o
      → All A.numbers.Byte t
      → length t ≤ length (bytes_of o)
      → GoodObject A s (text (overwrite t (bytes_of o)))
  unfolding overwrite
  cvs_good t o h k l =
      text_object (all_append k (all_drop (length t) (all_set h.stored (length t) (A.numbers.byte 0 (omega arith)))))
      (A.numbers.smaller _ (size o) (omega (arith, overwrite_length t (bytes_of o) l, bytes_size o)) h.extent)

  pub part_good : (a n : ℕ) (o : Object) → GoodObject A s o → GoodObject A s (part a n o)
  unfolding part elements_of bytes_of size
  part_good a n (elements vs) h = array_object (all_take n (all_drop a h.inside)) (A.numbers.smaller _ (length vs) (part_length a n vs) h.extent)
  part_good a n (text bs) h = text_object (all_take n (all_drop a h.stored)) (A.numbers.smaller _ (length bs) (part_length a n bs) h.extent)

  pub put_into_good : (o : Object) → GoodObject A s o → (v : Value) → Good A s v → Gives (λ (f : ℤ → Result Object). (z : ℤ) → Gives (λ (p : Object). Alike o p × GoodObject A s p) (f z)) (put_into o v)
  unfolding put_into put_element put_byte elements_of bytes_of size
  put_into_good (elements vs) h v k =
      gives
      (λ z. gives_each _
      (λ n. gives_each _
      (λ u. gives (record { kind = refl; extent = length-set vs n v }, array_object (all_set h.inside n k) (A.numbers.smaller _ (length vs) (omega (arith, length-set vs n v)) h.extent)))))
  put_into_good (text bs) h v k =
      gives_each _
      (λ y. gives
      (λ z. gives_each _
      (λ n. gives_each _
      (λ b. gives_then (gives_check _ _)
      (λ u t. gives_each _
      (λ w. gives (record { kind = refl; extent = length-set bs n b }, text_object (all_set h.stored n (A.numbers.byte b (leb→le b 255 t))) (A.numbers.smaller _ (length bs) (omega (arith, length-set bs n b)) h.extent))))))))

  -- At a place where it fits.
  pub put_all_good : (o q : Object)
      → GoodObject A s o
      → GoodObject A s q
      → Gives (λ (f : ℕ → Object). (a : ℕ) → a + size q ≤ size o → Alike o (f a) × GoodObject A s (f a)) (put_all o q)
  unfolding put_all elements_of bytes_of size
  put_all_good (elements vs) (elements us) h k =
      gives (λ a l.
      (record { kind = refl; extent = pasted_length a us vs l }, array_object (pasted_all a k.inside h.inside) (A.numbers.smaller _ (length vs) (omega (arith, pasted_length a us vs l)) h.extent)))
  put_all_good (elements vs) (text bs) h k = fails
  put_all_good (text bs) (elements vs) h k = fails
  put_all_good (text bs) (text cs) h k =
      gives (λ a l.
      (record { kind = refl; extent = pasted_length a cs bs l }, text_object (pasted_all a k.stored h.stored) (A.numbers.smaller _ (length bs) (omega (arith, pasted_length a cs bs l)) h.extent)))
