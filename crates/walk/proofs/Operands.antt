-- The values that operators make of their operands ask no more than the operands: numbers are words, lengths or bytes, and references are to what the operands name.
-- Assumes nothing.
use mathlib.Core.Bool.{Bool, true, false}
use mathlib.Core.List.{List, [], ◌∷◌}
use mathlib.Core.Option.{Option}
use Prim.Native.Nat.{ℕ, suc, ◌+◌, ◌-◌, ◌*◌, ◌/◌, ◌%◌, ◌^◌, ◌≤◌, ◌<◌}
use native.Mathlib.Omega.{arith}
use native.Mathlib.Nat.{div-le_self}
use lib.IntN.{ℤ, pos, negsuc}
use lib.ListN.{length}
use lib.Dec.{ltb, eqb, leb→le}
use Rattle.semantics.specs.Words.{signed, word, shift}
use Rattle.semantics.specs.Values.{ok, Value, integer, name, Object, elements, text, current, array_id, procedure_id, string_id, object_id}
use Rattle.semantics.specs.Text.{bytes}
use Rattle.semantics.specs.Machine.{Machine, Frame, pending, running, looping, repeating, counting, elements_of, bytes_of}
use Rattle.semantics.specs.Printing.{stringval}
use Rattle.semantics.specs.NumberOperators.{Logical, bits, truth as logical_truth, neither, logical, logical2, negated}
use Rattle.semantics.specs.ControlOperators.{operator_or, bound, from_loop}
use Rattle.semantics.specs.ObjectOperators.{new_length, is_mark, above_mark, length_of, got, size, redirect}
use Rattle.semantics.specs.TextOperators.{as_executable}
use Rattle.semantics.specs.ResultLaws.{Gives, gives, fails, gives_then, gives_check, choose}
use Rattle.semantics.specs.ListLaws.{All, nil, cons, Maybe, nothing, just, gives_given, all_get_d, all-getElem?, all_weaker}
use Rattle.semantics.specs.AsciiLaws.{Ascii, words_ascii, decimal_z_ascii, truth_ascii}
use Rattle.walk.specs.Parts.{Bitwise, Parts, Good, a_word, a_truth, a_null, a_mark, an_operator, a_name, a_string, an_array, GoodFrame, GoodObject, Everywhere}
use Rattle.walk.proofs.Parts.{lookup_good}
use Rattle.walk.proofs.Property.{Property, gives_each, Fit, object_good}

-- ---- numbers

pub word_small : (z : ℤ) → word z < 2 ^ 32
unfolding word
word_small (pos n) = omega arith
word_small (negsuc n) = omega arith

shift_small : (w : ℕ) (z : ℤ) → w < 2 ^ 32 → shift w z < 2 ^ 32
unfolding shift
shift_small w (pos k) h =
    choose (λ (n : ℕ). n < 2 ^ 32) (ltb k 32) (w * 2 ^ k % 2 ^ 32) 0 (λ t. modulo_small (w * 2 ^ k)) (λ t. omega arith)
  where
    modulo_small : (n : ℕ) → n % 2 ^ 32 < 2 ^ 32
    modulo_small n = omega arith
shift_small w (negsuc k) h =
    choose (λ (n : ℕ). n < 2 ^ 32) (ltb (suc k) 32) (w / 2 ^ suc k) 0 (λ t. omega (arith, div-le_self w (2 ^ suc k))) (λ t. omega arith)

current_length : (bs : List ℕ) → length (current bs) ≤ length bs
unfolding current
current_length [] = omega arith
current_length (b ∷ bs) =
    choose (λ (l : List ℕ). length l ≤ suc (length bs)) (eqb b 0) [] (b ∷ current bs) (λ t. omega arith) (λ t. omega (arith, current_length bs))

length_of_size : (o : Object) → length_of o ≤ size o
unfolding length_of size
length_of_size (elements vs) = omega arith
length_of_size (text bs) = current_length bs

-- What is asked of the bits of an operand of and, or, xor and not.
abbrev Low : Parts → Logical → Type 0
Low A (bits a) = A.numbers.Word a
Low A (logical_truth b) = Unit {0}
Low A neither = Unit {0}

-- A length that array or string takes.
pub new_length_size : (A : Parts) (v : Value) → Gives A.numbers.Size (new_length v)
unfolding new_length
new_length_size A v = gives_each _ (λ z. gives_each _ (λ n. gives_then (gives_check _ _) (λ u t. gives (A.numbers.size n (leb→le n 32767 t)))))

-- The same reference to another object, if the objects are of one kind.
abbrev Redirects : (A : Parts) → List Object → Value → ℕ → Type 0
Redirects A s v i = (t : List Object) (j : ℕ) → ((b : Bool) → A.references.Reference s (i, b) → A.references.Reference t (j, b)) → Good A t (redirect v j)

module _ {A : Parts} {s : List Object} where
  pub word_good : (z : ℤ) → Good A s (integer (word z))
  word_good z = a_word (A.numbers.word (word z) (word_small z))

  pub shift_good : (a b : ℤ) → Good A s (integer (shift (word a) b))
  shift_good a b = a_word (A.numbers.word (shift (word a) b) (shift_small (word a) b (word_small a)))

  -- What ones, lowpeg and highpeg give.
  pub pegs_good : (k : ℕ) → k ≤ 32 → Good A s (integer k)
  pegs_good k h = a_word (A.numbers.word k (omega (arith, h)))

  pub length_good : (o : Object) → GoodObject A s o → Good A s (integer (length_of o))
  length_good o h = a_word (A.numbers.size_word (length_of o) (A.numbers.smaller (length_of o) (size o) (length_of_size o) h.extent))

  logical_low : (v : Value) → Good A s v → Low A (logical v)
  unfolding logical
  logical_low v (a_word h) = h
  logical_low v a_truth = tt
  logical_low v a_null = tt
  logical_low v a_mark = tt
  logical_low v (an_operator h) = tt
  logical_low v (a_name h) = tt
  logical_low v (a_string h) = tt
  logical_low v (an_array h) = tt

  connected : (f : ℕ → ℕ → ℕ) (g : Bool → Bool → Bool) → Bitwise f → (x y : Logical) → Low A x → Low A y → Gives (Good A s) (logical2 f g x y)
  unfolding logical2
  connected f g e (bits a) (bits b) p q = gives (a_word (A.numbers.bitwise f e a b p q))
  connected f g e (bits a) (logical_truth b) p q = fails
  connected f g e (bits a) neither p q = fails
  connected f g e (logical_truth a) (bits b) p q = fails
  connected f g e (logical_truth a) (logical_truth b) p q = gives a_truth
  connected f g e (logical_truth a) neither p q = fails
  connected f g e neither y p q = fails

  pub logical2_good : (f : ℕ → ℕ → ℕ) (g : Bool → Bool → Bool)
      → Bitwise f
      → (x y : Value)
      → Good A s x
      → Good A s y
      → Gives (Good A s) (logical2 f g (logical x) (logical y))
  logical2_good f g e x y h k = connected f g e (logical x) (logical y) (logical_low x h) (logical_low y k)

  pub negated_good : (x : Logical) → Gives (Good A s) (negated x)
  unfolding negated
  negated_good (bits a) = gives (a_word (A.numbers.word ((2 ^ 32 - 1) - a) (omega arith)))
  negated_good (logical_truth b) = gives a_truth
  negated_good neither = fails

  -- ---- references

  pub array_id_there : (v : Value) → Good A s v → Gives (λ (i : ℕ). A.references.Reference s (i, false)) (array_id v)
  unfolding array_id
  array_id_there v (a_word h) = fails
  array_id_there v a_truth = fails
  array_id_there v a_null = fails
  array_id_there v a_mark = fails
  array_id_there v (an_operator h) = fails
  array_id_there v (a_name h) = fails
  array_id_there v (a_string h) = fails
  array_id_there v (an_array h) = gives h

  pub procedure_id_there : (v : Value) → Good A s v → Gives (λ (i : ℕ). A.references.Reference s (i, false)) (procedure_id v)
  unfolding procedure_id
  procedure_id_there v (a_word h) = fails
  procedure_id_there v a_truth = fails
  procedure_id_there v a_null = fails
  procedure_id_there v a_mark = fails
  procedure_id_there v (an_operator h) = fails
  procedure_id_there v (a_name h) = fails
  procedure_id_there v (a_string h) = fails
  procedure_id_there v (an_array {x = true} h) = gives h
  procedure_id_there v (an_array {x = false} h) = fails

  pub string_id_there : (v : Value) → Good A s v → Gives (λ (i : ℕ). A.references.Reference s (i, true)) (string_id v)
  unfolding string_id
  string_id_there v (a_word h) = fails
  string_id_there v a_truth = fails
  string_id_there v a_null = fails
  string_id_there v a_mark = fails
  string_id_there v (an_operator h) = fails
  string_id_there v (a_name h) = fails
  string_id_there v (a_string h) = gives h
  string_id_there v (an_array h) = fails

  pub object_id_there : (v : Value) → Good A s v → Gives (λ (i : ℕ). (b : Bool) × A.references.Reference s (i, b)) (object_id v)
  unfolding object_id
  object_id_there v (a_word h) = fails
  object_id_there v a_truth = fails
  object_id_there v a_null = fails
  object_id_there v a_mark = fails
  object_id_there v (an_operator h) = fails
  object_id_there v (a_name h) = fails
  object_id_there v (a_string h) = gives (true, h)
  object_id_there v (an_array h) = gives (false, h)

  pub object_id_redirects : (v : Value) → Good A s v → Gives (Redirects A s v) (object_id v)
  unfolding object_id redirect
  object_id_redirects v (a_word h) = fails
  object_id_redirects v a_truth = fails
  object_id_redirects v a_null = fails
  object_id_redirects v a_mark = fails
  object_id_redirects v (an_operator h) = fails
  object_id_redirects v (a_name h) = fails
  object_id_redirects v (a_string h) = gives (λ t j f. a_string (f true h))
  object_id_redirects v (an_array h) = gives (λ t j f. an_array (f false h))

  pub as_executable_good : (e : Bool) (v : Value) → Good A s v → Good A s (as_executable e v)
  unfolding as_executable
  as_executable_good e v (a_word h) = a_word h
  as_executable_good e v a_truth = a_truth
  as_executable_good e v a_null = a_null
  as_executable_good e v a_mark = a_mark
  as_executable_good e v (an_operator h) = an_operator h
  as_executable_good e v (a_name h) = a_name h
  as_executable_good e v (a_string h) = a_string h
  as_executable_good e v (an_array h) = an_array h

  operator_or_good : (v : Value) → Good A s v → {o : Option Value} → Maybe (Good A s) o → Good A s (operator_or v o)
  unfolding operator_or
  operator_or_good v h nothing = h
  operator_or_good v h (just (a_word k)) = h
  operator_or_good v h (just a_truth) = h
  operator_or_good v h (just a_null) = h
  operator_or_good v h (just a_mark) = h
  operator_or_good v h (just (an_operator k)) = an_operator k
  operator_or_good v h (just (a_name k)) = h
  operator_or_good v h (just (a_string k)) = h
  operator_or_good v h (just (an_array k)) = h

  -- ---- lists

  pub above_mark_good : {vs t : List Value} (n : ℕ)
      → All (Good A s) vs
      → All (Good A s) t
      → length vs + length t ≤ n
      → Gives (λ (r : List Value × List Value). All (Good A s) r.0 × All (Good A s) r.1 × (length r.0 ≤ n)) (above_mark vs t)
  unfolding above_mark
  above_mark_good n a nil l = fails
  above_mark_good {vs} n a (cons {a = v} {l = t} p ps) l =
      choose (Gives (λ (r : List Value × List Value). All (Good A s) r.0 × All (Good A s) r.1 × (length r.0 ≤ n))) (is_mark v) (ok (vs, t)) (above_mark (v ∷ vs) t)
      (λ b. gives (a, ps, omega arith))
      (λ b. above_mark_good n (cons p a) ps (omega arith))

  pub from_loop_good : {fs : List Frame} → All (GoodFrame A s) fs → All (GoodFrame A s) (from_loop fs)
  unfolding from_loop
  from_loop_good nil = nil
  from_loop_good (cons {a = f} {l = fs} p ps) = by f p (from_loop_good ps)
    where
      by : (f : Frame) → GoodFrame A s f → All (GoodFrame A s) (from_loop fs) → All (GoodFrame A s) (from_loop (f ∷ fs))
      by (pending v) q r = r
      by (running i k) q r = r
      by (looping b) q r = cons q ps
      by (repeating n b) q r = cons q ps
      by (counting n i g b) q r = cons q ps

  pub got_good : (o : Object) → GoodObject A s o → (n : ℕ) → Gives (Good A s) (got o n)
  unfolding got elements_of bytes_of
  got_good (elements vs) h n = gives_given (all-getElem? h.inside n) _
  got_good (text bs) h n = gives_each _ (λ u. gives (a_word (A.numbers.byte_word _ (all_get_d h.stored n (A.numbers.byte 0 (omega arith))))))

pub bound_good : {A : Parts} {m : Machine} → Everywhere A m → (v : Value) → Good A m.store v → Good A m.store (bound m v)
unfolding bound
bound_good h v (a_word k) = a_word k
bound_good h v a_truth = a_truth
bound_good h v a_null = a_null
bound_good h v a_mark = a_mark
bound_good h v (an_operator k) = an_operator k
bound_good h v (a_name {x = true} {n = n} k) = operator_or_good (name true n) (a_name k) (lookup_good n h.dictionary)
bound_good h v (a_name {x = false} k) = a_name k
bound_good h v (a_string k) = a_string k
bound_good h v (an_array k) = an_array k

-- ---- texts of cvs, and the names of cvn

module _ (A : Parts) where
  ascii_bytes : {t : List ℕ} → Ascii t → All A.numbers.Byte t
  ascii_bytes h = all_weaker (λ b l. A.numbers.byte b (omega arith)) h

  no_text : All A.numbers.Byte (bytes "--nostringval--")
  unfolding bytes
  no_text = ascii_bytes (words_ascii _ tt)

pub current_bytes : {P : ℕ → Type 0} {bs : List ℕ} → All P bs → All P (current bs)
unfolding current
current_bytes nil = nil
current_bytes {P} (cons {a = b} {l = bs} p ps) = choose (All P) (eqb b 0) [] (b ∷ current bs) (λ t. nil) (λ t. cons p (current_bytes ps))

pub stringval_bytes : {K : Property} {m : Machine} → Fit K m → (v : Value) → Good K.parts m.store v → All K.parts.numbers.Byte (stringval m v)
unfolding stringval
stringval_bytes {K} h v (a_word {w = w} k) = ascii_bytes K.parts (decimal_z_ascii (signed w))
stringval_bytes {K} h v (a_truth {b = b}) = ascii_bytes K.parts (truth_ascii b)
stringval_bytes {K} h v a_null = no_text K.parts
stringval_bytes {K} h v a_mark = no_text K.parts
stringval_bytes {K} h v (an_operator k) = no_text K.parts
stringval_bytes {K} h v (a_name {n = n} k) = K.parts.numbers.spelt n k
stringval_bytes {K} h v (a_string {i = i} k) = current_bytes (object_good h i).stored
stringval_bytes {K} h v (an_array k) = no_text K.parts
