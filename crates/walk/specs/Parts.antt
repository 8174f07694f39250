-- What may be asked of the parts of a machine, everywhere in it, so that operators and steps keep it.
-- Assumes nothing.
use Rattle.std.specs.Prelude.{◌≡◌, Bool, true, false, List, [], ◌∷◌, ◌++◌, ℕ, ◌^◌, ◌≤◌, ◌<◌, length, get_or, set}
use Rattle.semantics.specs.Sizes.{name_most}
use Rattle.semantics.specs.Values.{Value, integer, boolean, null, mark, operator, name, string, array, Object, elements}
use Rattle.semantics.specs.Machine.{Machine, Frame, pending, running, looping, repeating, counting, Slot, Latest, elements_of, bytes_of}
use Rattle.semantics.specs.ObjectOperators.{size}
use Rattle.semantics.specs.Steps.{Limits}
use Rattle.semantics.specs.ListLaws.{All, Maybe, all_any}
use Rattle.walk.specs.Objects.{is_string}

-- A function of two words whose values are words.
abbrev pub Bitwise : (ℕ → ℕ → ℕ) → Type 0
Bitwise f = (a b : ℕ) → a < 2 ^ 32 → b < 2 ^ 32 → f a b < 2 ^ 32

-- What is asked of numbers, bytes, sizes and names, and that it is so of all that the definition makes: of numbers below 2 ^ 32, of bytes, of lengths that array and
-- string take, and of names of at most 31 bytes.
pub record Numbers : Type 1 where
  pub Word : ℕ → Type 0  -- an integer's bits
  pub Byte : ℕ → Type 0  -- a byte of a string, of a name or of the script
  pub Size : ℕ → Type 0  -- how many elements or bytes an object has
  pub Spelling : List ℕ → Type 0  -- the bytes of a name
  pub word : (w : ℕ) → w < 2 ^ 32 → Word w
  pub bitwise : (f : ℕ → ℕ → ℕ) → Bitwise f → (a b : ℕ) → Word a → Word b → Word (f a b)
  pub byte_word : (b : ℕ) → Byte b → Word b
  pub size_word : (n : ℕ) → Size n → Word n
  pub byte : (b : ℕ) → b ≤ 255 → Byte b
  pub size : (n : ℕ) → n ≤ 32767 → Size n
  pub smaller : (k n : ℕ) → k ≤ n → Size n → Size k
  pub spelling : (n : List ℕ) → All Byte n → length n ≤ name_most → Spelling n
  pub spelt : (n : List ℕ) → Spelling n → All Byte n

-- What is asked of references: among these objects the one that a value names, and whether as a string. It is so of objects that are new, and stays so of others.
pub record References : Type 1 where
  pub Reference : List Object → ℕ × Bool → Type 0
  pub Kinds : Type 0  -- whether references tell of which kind the objects are
  pub new : (s : List Object) (o : Object) (b : Bool) → (Kinds → is_string o ≡ b) → Reference (s ++ (o ∷ [])) (length s, b)
  pub after_new : (s : List Object) (o : Object) (r : ℕ × Bool) → Reference s r → Reference (s ++ (o ∷ [])) r
  pub after_change : (s : List Object) (i : ℕ) (o : Object)
      → (Kinds → is_string o ≡ is_string (get_or s i (elements [])))
      → (r : ℕ × Bool)
      → Reference s r
      → Reference (set s i o) r
  pub kind : Kinds → (s : List Object) (i : ℕ) (b : Bool) → Reference s (i, b) → is_string (get_or s i (elements [])) ≡ b
  pub inside : Kinds → (s : List Object) (i : ℕ) (b : Bool) → Reference s (i, b) → i < length s

pub record Parts : Type 1 where
  pub numbers : Numbers
  pub references : References

-- Nothing is asked.
unfoldable pub any_numbers : Numbers
any_numbers =
    record {
      Word = λ w. Unit {0};
      Byte = λ b. Unit {0};
      Size = λ n. Unit {0};
      Spelling = λ n. Unit {0};
      word = λ w l. tt;
      bitwise = λ f e a b h k. tt;
      byte_word = λ b h. tt;
      size_word = λ n h. tt;
      byte = λ b l. tt;
      size = λ n l. tt;
      smaller = λ k n l h. tt;
      spelling = λ n h l. tt;
      spelt = λ n h. all_any n;
    }

unfoldable pub any_references : References
any_references =
    record {
      Reference = λ s r. Unit {0};
      Kinds = ⊥;
      new = λ s o b e. tt;
      after_new = λ s o r h. tt;
      after_change = λ s i o e r h. tt;
      kind = λ q s i b h. absurd q;
      inside = λ q s i b h. absurd q;
    }

-- The value that a frame holds; a running procedure is named by its object alone.
abbrev pub value_of : Frame → Value
value_of (pending v) = v
value_of (running i k) = null
value_of (looping b) = b
value_of (repeating n b) = b
value_of (counting n i f b) = b

-- Of a value, a frame, a slot and an object, among these objects.
module _ (A : Parts) (s : List Object) where
  pub data Good : Value → Type 0 where
    a_word : {w : ℕ} → A.numbers.Word w → Good (integer w)
    a_truth : {b : Bool} → Good (boolean b)
    a_null : Good null
    a_mark : Good mark
    an_operator : {o : List ℕ} → A.numbers.Spelling o → Good (operator o)
    a_name : {x : Bool} {n : List ℕ} → A.numbers.Spelling n → Good (name x n)
    a_string : {i : ℕ} → A.references.Reference s (i, true) → Good (string i)
    an_array : {x : Bool} {i : ℕ} → A.references.Reference s (i, false) → Good (array x i)

  pub record GoodFrame (f : Frame) : Type 0 where
    pub held : Good (value_of f)

  pub record GoodSlot (g : Slot) : Type 0 where
    pub bound : Maybe Good g.binding

  pub record GoodObject (o : Object) : Type 0 where
    pub inside : All Good (elements_of o)
    pub stored : All A.numbers.Byte (bytes_of o)
    pub extent : A.numbers.Size (size o)

-- Of the names of the latest error and of its command.
pub record GoodLatest (A : Parts) (t : Latest) : Type 0 where
  pub errorname : Maybe A.numbers.Spelling t.errorname
  pub command : Maybe A.numbers.Spelling t.command

-- It is so everywhere in a machine. A running procedure only reads its object.
pub record Everywhere (A : Parts) (m : Machine) : Type 0 where
  pub stack : All (Good A m.store) m.stack
  pub dictionary : All (GoodSlot A m.store) m.dictionary
  pub exec : All (GoodFrame A m.store) m.exec
  pub store : All (GoodObject A m.store) m.store
  pub handlers : All (GoodSlot A m.store) m.handlers
  pub latest : GoodLatest A m.latest

-- Names, execution slots, items and log are within what is lent, as the test of room after each step asks.
pub record Within (l : Limits) (m : Machine) : Type 0 where
  pub dictionary : length m.dictionary ≤ l.dictionary_slots
  pub exec : length m.exec ≤ l.exec_slots
  pub stack : length m.stack ≤ l.stack_slots
  pub log : length m.log ≤ l.log_bytes

-- A step leaves them within what is lent if they were so before it. Most steps test for that; one that hands over to a handler tests only for the slots that it takes.
pub record Stays (l : Limits) (before after : Machine) : Type 0 where
  pub dictionary : length before.dictionary ≤ l.dictionary_slots → length after.dictionary ≤ l.dictionary_slots
  pub exec : length after.exec ≤ l.exec_slots
  pub stack : length before.stack ≤ l.stack_slots → length after.stack ≤ l.stack_slots
  pub log : length before.log ≤ l.log_bytes → length after.log ≤ l.log_bytes
