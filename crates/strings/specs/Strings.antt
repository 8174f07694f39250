-- What the loops over bytes read and do, in terms of a machine of the definition. Items are counted from the top, from 0.
-- Assumes nothing.
use Rattle.std.specs.Prelude.{◌≡◌, List, ◌++◌, ℕ, ◌+◌, ◌≤◌, ◌<◌, length, get_or, take, drop}
use Rattle.semantics.specs.Values.{null, string, text, current}
use Rattle.semantics.specs.Machine as Floo
use Rattle.semantics.specs.Machine.{object, bytes_of, change}
use Rattle.machine.specs.Rep.{Rep, MovesHeap}
use Rattle.machine.specs.declared.Machine.{Machine}
use Rattle.elements.specs.Elements.{HasString, item_id, SomewhereThat, IsString}
use Rattle.token.specs.Strings.{StringAt}

-- ---- what is asked

-- Item i is a string, and has n bytes from byte q on.
pub record HasBytes (i q n : ℕ) (μ : Floo.Machine) : Type 0 where
  pub string : HasString i μ
  pub inside : q + n ≤ length (bytes_of (object μ string.id))

-- There are n bytes to copy, and room for them.
abbrev pub Copies : ℕ → ℕ → ℕ → ℕ → ℕ → Floo.Machine → Type 0
Copies to at from start n μ = HasBytes to at n μ × HasBytes from start n μ

-- At `at` is a string token, and item i is a string with room for its bytes.
pub record Fills (i : ℕ) (m : Machine) (s c script : List ℕ) (at : ℕ) : Type 0 where
  pub contents : List ℕ
  pub next : ℕ
  pub reads : StringAt script at contents next
  pub room : SomewhereThat (HasBytes i 0 (length contents)) m s c

-- Header h stands for a string with room for n bytes.
pub record HasRoom (h n : ℕ) (c : List ℕ) : Type 0 where
  pub machine : Machine
  pub stack : List ℕ
  pub exec : List ℕ
  pub dict : List ℕ
  pub log : List ℕ
  pub state : Floo.Machine
  pub rep : Rep machine stack exec dict c log state
  pub id : ℕ
  pub string : IsString rep.world state.store h id
  pub inside : n ≤ length (bytes_of (object state id))

-- At `at` is a string token, and header h stands for a string with room for its bytes.
pub record FillsAt (h : ℕ) (c script : List ℕ) (at : ℕ) : Type 0 where
  pub contents : List ℕ
  pub next : ℕ
  pub reads : StringAt script at contents next
  pub room : HasRoom h (length contents) c

-- ---- what is read

-- How many bytes item i has before its first zero.
pub record CurrentSize (i : ℕ) (m : Machine) (s c : List ℕ) (r : ℕ) : Type 0 where
  pub says : (e d l : List ℕ) (μ : Floo.Machine)
      → Rep m s e d c l μ
      → (id : ℕ)
      → get_or μ.stack i null ≡ string id
      → r ≡ length (current (bytes_of (object μ id)))

-- The first n bytes of item i, at the front of `out'`, which was `out`.
pub record ReadsBytes (i n : ℕ) (m : Machine) (s c out out' : List ℕ) : Type 0 where
  pub says : (e d l : List ℕ) (μ : Floo.Machine)
      → Rep m s e d c l μ
      → (id : ℕ)
      → get_or μ.stack i null ≡ string id
      → (q : ℕ)
      → q < n
      → get_or out' q 0 ≡ get_or (bytes_of (object μ id)) q 0
  pub rest : (q : ℕ) → n ≤ q → get_or out' q 0 ≡ get_or out q 0

-- ---- what is done

-- A list, n of its elements from place `at` on replaced by as many of another's, from place start on.
unfoldable pub pasted : {A : Type 0} → List A → ℕ → List A → ℕ → ℕ → List A
pasted old at source start n = take at old ++ take n (drop start source) ++ drop (at + n) old

-- Bytes of item `from` are copied to item `to`, all read before any is written.
unfoldable pub bytes_copied : ℕ → ℕ → ℕ → ℕ → ℕ → Floo.Machine → Floo.Machine
bytes_copied to at from start n μ =
    change (item_id to μ) (text (pasted (bytes_of (object μ (item_id to μ))) at (bytes_of (object μ (item_id from μ))) start n)) μ

-- The bytes go to the front of the string id;
unfoldable pub string_filled : ℕ → List ℕ → Floo.Machine → Floo.Machine
string_filled id bs μ = change id (text (bs ++ drop (length bs) (bytes_of (object μ id)))) μ

-- of the one that is item i.
unfoldable pub bytes_filled : ℕ → List ℕ → Floo.Machine → Floo.Machine
bytes_filled i bs μ = change (item_id i μ) (text (bs ++ drop (length bs) (bytes_of (object μ (item_id i μ))))) μ

-- The bytes go to the front of the string with header h, and each header stands for what it stood for.
pub record FillsString (h : ℕ) (bs c c' : List ℕ) : Type 0 where
  pub fills : {m : Machine} {s e d l : List ℕ} {μ : Floo.Machine} (R : Rep m s e d c l μ) (id : ℕ)
      → IsString R.world μ.store h id
      → length bs ≤ length (bytes_of (object μ id))
      → (R' : Rep m s e d c' l (string_filled id bs μ)) × (R'.world ≡ R.world)

-- The bytes of the string token at `at` do.
pub record FilledAt (h : ℕ) (c c' script : List ℕ) (at : ℕ) : Type 0 where
  pub fills : (bs : List ℕ) (next : ℕ) → StringAt script at bs next → FillsString h bs c c'

-- The bytes of the string token at `at` go to the front of item i.
pub record Filled (i : ℕ) (m : Machine) (s c c' script : List ℕ) (at : ℕ) : Type 0 where
  pub fills : (bs : List ℕ) (next : ℕ) → StringAt script at bs next → MovesHeap (bytes_filled i bs) m m s s c c'
