-- Arrays that are being built: which cell is which element, what stays while objects are made, and what the primitives do to a machine of the definition.
-- Assumes nothing.
use Rattle.std.specs.Prelude.{◌≡◌, true, false, List, ℕ, suc, ◌+◌, ◌≤◌, ◌<◌, length, set, replicate}
use Rattle.semantics.specs.Values.{Value, null, string, array, Object, elements, text}
use Rattle.semantics.specs.Machine as Floo
use Rattle.semantics.specs.Machine.{object, elements_of, make, made, change, protect}
use Rattle.heap.specs.Chain.{live, on}
use Rattle.heap.specs.Grow.{Made}
use Rattle.heap.specs.Seal.{Seals}
use Rattle.heap.specs.Word.{Put}
use Rattle.store.specs.Rep.{is_text, Stands, object_at, element}
use Rattle.machine.specs.Places.{keys, texts}
use Rattle.machine.specs.Rep.{Rep, World}
use Rattle.machine.specs.declared.Machine.{Machine}
use Rattle.elements.specs.Elements.{IsString}

-- ---- worlds

-- From w to w' nothing is freed: what lives stands for the same object, and its cells stay where they are.
pub record Grown (w w' : World) : Type 0 where
  pub lives : (h : ℕ) → w.ghost.own h ≡ live → (w'.ghost.own h ≡ live) × (w'.ρ h ≡ w.ρ h)
  pub keeps : (x h k : ℕ) → w.ghost.own h ≡ live → w.ghost.own x ≡ on (h + 2) k → w'.ghost.own x ≡ on (h + 2) k

-- From one list of objects to another each object keeps its kind and its number of elements.
pub record Extended (store store' : List Object) : Type 0 where
  pub longer : length store ≤ length store'
  pub kinds : (j : ℕ) → j < length store → is_text (object_at store' j) ≡ is_text (object_at store j)
  pub lengths : (j : ℕ) → j < length store → length (elements_of (object_at store' j)) ≡ length (elements_of (object_at store j))

-- Header h stands for the array id.
pub record IsArray (w : World) (store : List Object) (h id : ℕ) : Type 0 where
  pub lives : w.ghost.own h ≡ live
  pub stands : w.ρ h ≡ id
  pub kind : is_text (object_at store id) ≡ false

-- Cell c is element q of the array id with header h, and k elements come after it.
pub record ElementAt (w : World) (store : List Object) (c h k id q : ℕ) : Type 0 where
  pub array : IsArray w store h id
  pub cell : w.ghost.own c ≡ on (h + 2) k
  pub rank : length (elements_of (object_at store id)) ≡ q + suc k

-- ---- what is done

-- Element q of the array id becomes v.
unfoldable pub element_set : ℕ → ℕ → Value → Floo.Machine → Floo.Machine
element_set id q v μ = change id (elements (set (elements_of (object μ id)) q v)) μ

-- It becomes a new procedure of n nulls, which is read only;
unfoldable pub array_set : ℕ → ℕ → ℕ → Floo.Machine → Floo.Machine
array_set id q n μ = protect (made μ) (element_set id q (array true (made μ)) (make (elements (replicate n null)) μ))

-- a new string of n zeros, which is too.
unfoldable pub string_set : ℕ → ℕ → ℕ → Floo.Machine → Floo.Machine
string_set id q n μ = protect (made μ) (element_set id q (string (made μ)) (make (text (replicate n 0)) μ))

-- The element that cell c is, null before, becomes the value that tag and pay stand for, in a world that has only grown.
pub record SetsPlain (c tag pay : ℕ) (cs cs' : List ℕ) : Type 0 where
  pub sets : {m : Machine} {s e d l : List ℕ} {μ : Floo.Machine} (R : Rep m s e d cs l μ) (h k id q : ℕ)
      → ElementAt R.world μ.store c h k id q
      → element μ.store id q ≡ null
      → (v : Value)
      → Stands (keys μ) (texts μ) R.world.ρ v tag pay
      → (R' : Rep m s e d cs' l (element_set id q v μ)) × Grown R.world R'.world

-- It becomes a new procedure of n nulls, with header x;
pub record SetsArray (c n : ℕ) (m : Machine) (cs : List ℕ) (r : Machine) (x : ℕ) (cs' : List ℕ) : Type 0 where
  pub sets : {s e d l : List ℕ} {μ : Floo.Machine} (R : Rep m s e d cs l μ) (h k id q : ℕ)
      → ElementAt R.world μ.store c h k id q
      → element μ.store id q ≡ null
      → (R' : Rep r s e d cs' l (array_set id q n μ)) × Grown R.world R'.world × IsArray R'.world (array_set id q n μ).store x (made μ)

-- a new string of n zeros.
pub record SetsString (c n : ℕ) (m : Machine) (cs : List ℕ) (r : Machine) (x : ℕ) (cs' : List ℕ) : Type 0 where
  pub sets : {s e d l : List ℕ} {μ : Floo.Machine} (R : Rep m s e d cs l μ) (h k id q : ℕ)
      → ElementAt R.world μ.store c h k id q
      → element μ.store id q ≡ null
      → (R' : Rep r s e d cs' l (string_set id q n μ)) × Grown R.world R'.world × IsString R'.world (string_set id q n μ).store x (made μ)

-- The element that cell c is becomes a new object of header x, of this kind and size, which is read only, by the words.
pub record SetsObject (c kind size tag : ℕ) (m : Machine) (cs : List ℕ) (r : Machine) (x : ℕ) (cs' : List ℕ) : Type 0 where
  pub made_words : List ℕ
  pub tagged : List ℕ
  pub paid : List ℕ
  pub made : Made kind size x m.lists cs r.lists made_words
  pub none_dead : r.lists.dead ≡ m.lists.dead
  pub tag_put : Put made_words c 0 tag tagged
  pub pay_put : Put tagged c 1 x paid
  pub seals : Seals paid x cs'
  pub rest : r ≡ record { depth = m.depth; frames = m.frames; names = m.names; written = m.written; lists = r.lists; stopped = m.stopped }

-- All but the lists of cells is as before.
pub record SameBut (m r : Machine) : Type 0 where
  pub depth : r.depth ≡ m.depth
  pub frames : r.frames ≡ m.frames
  pub names : r.names ≡ m.names
  pub written : r.written ≡ m.written
