-- How the lent words and the small state stand for a machine of the definition.
-- Assumes nothing.
use Rattle.std.specs.Prelude.{◌≡◌, Bool, true, false, List, [], ◌∷◌, ℕ, suc, ◌+◌, ◌*◌, ◌/◌, ◌%◌, ◌≤◌, ◌<◌, ℤ, length, get_or, take, Ok, Err}
use Rattle.std.proofs.Math.Option.{Option, none, some}
use Rattle.std.proofs.Math.ListN.{get_elem?}
use Rattle.semantics.specs.Sizes.{operator_count, name_most, stack_width, exec_width, dictionary_width, stack_words_most, exec_words_most, dictionary_words_most}
use Rattle.semantics.specs.Words.{signed, word, in_range}
use Rattle.semantics.specs.Values.{Value, array, Object, Result, ok, fault}
use Rattle.semantics.specs.Machine as Floo
use Rattle.semantics.specs.Machine.{Frame, pending, running, looping, repeating, counting, Slot, Latest, elements_of}
use Rattle.semantics.specs.Errors.{error_names}
use Rattle.semantics.specs.Steps.{beyond}
use Rattle.heap.specs.Chain.{on}
use Rattle.heap.specs.Shape.{Ghost, Full, NoOut, cells}
use Rattle.heap.specs.Assign.{Alives}
use Rattle.heap.specs.declared.Lists.{Lists}
use Rattle.store.specs.Rep as Store
use Rattle.store.specs.Rep.{Stands, Sealed, byte_of, titles}
use Rattle.machine.specs.Words.{item_tag, item_payload, frame_kind, frame_tag, frame_payload, frame_cell, frame_left, frame_final, binding_tag, binding_payload, handler_tag, handler_payload, handler_name, latest_error, latest_command}
use Rattle.semantics.specs.NameLaws.{Distinct}
use Rattle.semantics.specs.SlotLaws.{keys_of}
use Rattle.machine.specs.Places.{roots, root_count, keys, texts}
use Rattle.machine.specs.declared.Machine.{Machine}
use Rattle.machine.specs.Answers.{Did}

-- The two words of each stack item, the topmost item first.
pub data Items (IsValue : Value → ℕ → ℕ → Type 0) (words : List ℕ) : ℕ → List Value → Type 0 where
  bottom : Items IsValue words 0 []
  item : {n : ℕ} {v : Value} {s : List Value}
      → IsValue v (item_tag words n) (item_payload words n)
      → Items IsValue words n s
      → Items IsValue words (suc n) (v ∷ s)

-- The words of an execution slot: kind, the value's two, and three numbers. Of a running procedure these are the cell of its next element, if
-- any is left, and how many are left. A `for` whose next number has left 32 bits is over, and has a kind of its own.
pub data FrameIs (IsValue : Value → ℕ → ℕ → Type 0) (g : Ghost) (store : List Object) : Frame → ℕ → ℕ → ℕ → ℕ → ℕ → ℕ → Type 0 where
  a_pending : {v : Value} {t p a b c : ℕ} → IsValue v t p → FrameIs IsValue g store (pending v) 0 t p a b c
  a_running : {i k t p a b c : ℕ}
      → IsValue (array true i) t p
      → b + k ≡ length (elements_of (Store.object_at store i))
      → ((r : ℕ) → b ≡ suc r → g.own a ≡ on (p + 2) r)
      → FrameIs IsValue g store (running i k) 1 t p a b c
  a_looping : {v : Value} {t p a b c : ℕ} → IsValue v t p → FrameIs IsValue g store (looping v) 2 t p a b c
  a_repeating : {v : Value} {n t p b c : ℕ} → IsValue v t p → FrameIs IsValue g store (repeating n v) 3 t p n b c
  a_counting : {v : Value} {z : ℤ} {n i f t p : ℕ} → IsValue v t p → z ≡ signed n → FrameIs IsValue g store (counting z i f v) 4 t p n i f
  a_past : {v : Value} {z : ℤ} {n i f t p : ℕ}
      → IsValue v t p
      → word z ≡ n
      → in_range z ≡ false
      → beyond z (signed i) (signed f) ≡ true
      → FrameIs IsValue g store (counting z i f v) 5 t p n i f

-- The words of the execution slots, the topmost first.
pub data Frames (IsValue : Value → ℕ → ℕ → Type 0) (g : Ghost) (store : List Object) (words : List ℕ) : ℕ → List Frame → Type 0 where
  bottom : Frames IsValue g store words 0 []
  frame : {n : ℕ} {f : Frame} {fs : List Frame}
      → FrameIs IsValue g store f (frame_kind words n) (frame_tag words n) (frame_payload words n) (frame_cell words n) (frame_left words n) (frame_final words n)
      → Frames IsValue g store words n fs
      → Frames IsValue g store words (suc n) (f ∷ fs)

-- A binding's two words; tag 7 where there is none.
pub data Bound (IsValue : Value → ℕ → ℕ → Type 0) : Option Value → ℕ → ℕ → Type 0 where
  unbound : {p : ℕ} → Bound IsValue none 7 p
  bound : {v : Value} {t p : ℕ} → IsValue v t p → Bound IsValue (some v) t p

-- The words of dictionary slot d: the name's length, its bytes, four to a word and zeros after them, and the binding.
pub record SlotIs (IsValue : Value → ℕ → ℕ → Type 0) (words : List ℕ) (d : ℕ) (s : Slot) : Type 0 where
  pub size : get_or words (12 * d) 0 ≡ length s.key
  pub short : length s.key ≤ name_most
  pub spelt : (j : ℕ) → j < 32 → byte_of (get_or words (12 * d + 1 + j / 4) 0) (j % 4) ≡ get_or s.key j 0
  pub binding : Bound IsValue s.binding (binding_tag words d) (binding_payload words d)

-- The words of the dictionary's slots from slot d on.
pub data Slots (IsValue : Value → ℕ → ℕ → Type 0) (words : List ℕ) : ℕ → List Slot → Type 0 where
  end : {d : ℕ} → Slots IsValue words d []
  slot : {d : ℕ} {s : Slot} {ss : List Slot} → SlotIs IsValue words d s → Slots IsValue words (suc d) ss → Slots IsValue words d (s ∷ ss)

-- The words of an error's row: its handler, if it has one, and then the slot of the error's name.
pub record RowIs (IsValue : Value → ℕ → ℕ → Type 0) (names : List (List ℕ)) (words : List ℕ) (j : ℕ) (s : Slot) : Type 0 where
  pub handler : Bound IsValue s.binding (handler_tag words j) (handler_payload words j)
  pub named : (v : Value) → s.binding ≡ some v → get_elem? names (handler_name words j) ≡ some s.key

-- The rows from row j on.
pub data Rows (IsValue : Value → ℕ → ℕ → Type 0) (names : List (List ℕ)) (words : List ℕ) : ℕ → List Slot → Type 0 where
  end : {j : ℕ} → Rows IsValue names words j []
  row : {j : ℕ} {s : Slot} {ss : List Slot} → RowIs IsValue names words j s → Rows IsValue names words (suc j) ss → Rows IsValue names words j (s ∷ ss)

-- A stored name: none, or one more than its slot.
pub data Noted (names : List (List ℕ)) : Option (List ℕ) → ℕ → Type 0 where
  nothing : Noted names none 0
  noted : {k : ℕ} {n : List ℕ} → get_elem? names k ≡ some n → Noted names (some n) (suc k)

-- The handlers, a row for each error's name, and the latest error's names (02, W1).
pub record Handled (IsValue : Value → ℕ → ℕ → Type 0) (names : List (List ℕ)) (words : List ℕ) (handlers : List Slot) (latest : Latest) : Type 0 where
  pub rows : Rows IsValue names words 0 handlers
  pub errors : keys_of handlers ≡ error_names
  pub errorname : Noted names latest.errorname (latest_error words)
  pub command : Noted names latest.command (latest_command words)

-- What all parts share: which names have slots, which objects are strings, and which header stands for which object.
pub record World : Type 0 where
  pub ρ : ℕ → ℕ
  pub ghost : Ghost

-- The heap stands for the objects, with these root values. No object waits to be freed, and no cell is lost.
pub record Stored (w : World) (lists : Lists) (cs : List ℕ) (names : List (List ℕ)) (store : List Object) (rts : ℕ → Value) : Type 0 where
  pub full : Full w.ghost (cells cs + root_count) 0 lists cs
  pub none_dead : lists.dead ≡ 0
  pub none_out : NoOut w.ghost
  pub objects : Store.Rep names root_count w.ρ w.ghost cs store rts

-- Two words are a value: they stand for it, and the header that they name lives.
pub record Is (w : World) (names : List (List ℕ)) (strings : List Bool) (v : Value) (t p : ℕ) : Type 0 where
  pub stands : Stands names strings w.ρ v t p
  pub alive : Alives w.ghost t p

abbrev pub IsIn : World → Floo.Machine → Value → ℕ → ℕ → Type 0
IsIn w μ = Is w (keys μ) (texts μ)

-- The slots in use lie within the words, of which there are no more than setup accepts.
pub record Rooms (depth frames names : ℕ) (s e d : List ℕ) : Type 0 where
  pub stack_fits : stack_width * depth ≤ length s
  pub exec_fits : exec_width * frames ≤ length e
  pub dict_fits : dictionary_width * names ≤ length d
  pub stack_few : length s ≤ stack_words_most
  pub exec_few : length e ≤ exec_words_most
  pub dict_few : length d ≤ dictionary_words_most

-- The names by their slots: as many as are counted, the operators' first, in the operators' order, and none twice.
pub record Naming (count : ℕ) (dictionary : List Slot) : Type 0 where
  pub many : count ≡ length dictionary
  pub titled : take operator_count (keys_of dictionary) ≡ titles
  pub distinct : Distinct (keys_of dictionary)

-- The log's bytes that are written.
pub record Logging (written : ℕ) (log text : List ℕ) : Type 0 where
  pub logged : take written log ≡ text
  pub fits : written ≤ length log

-- (What is smallest comes first: a search through what is known goes by this order.)
pub record Rep (m : Machine) (stack exec dict cs log : List ℕ) (μ : Floo.Machine) : Type 0 where
  pub rooms : Rooms m.depth m.frames m.names stack exec dict
  pub naming : Naming m.names μ.dictionary
  pub logging : Logging m.written log μ.log
  pub stopped : m.stopped ≡ μ.stopped
  pub world : World
  pub stored : Stored world m.lists cs (keys μ) μ.store (roots μ)
  pub items : Items (IsIn world μ) stack m.depth μ.stack
  pub frames : Frames (IsIn world μ) world.ghost μ.store exec m.frames μ.exec
  pub slots : Slots (IsIn world μ) dict 0 μ.dictionary
  pub handled : Handled (IsIn world μ) (keys μ) dict μ.handlers μ.latest
  pub sealed : Sealed world.ρ world.ghost cs μ.store μ.read_only

-- ---- promises

-- What an operator's answer means: R says that a machine stands for one of the definition, Same that no word has changed.
abbrev pub Answer : (Machine → Floo.Machine → Type 0) → Type 0 → Did → Result Floo.Machine → Type 0
Answer R Same (Err e) q = (q ≡ fault e) × Same
Answer R Same (Ok m) q = (μ : Floo.Machine) × (q ≡ ok μ) × R m μ

-- A primitive that touches the stack's words alone does f.
pub record MovesStack (f : Floo.Machine → Floo.Machine) (m r : Machine) (s s' : List ℕ) : Type 0 where
  pub moves : (e d c l : List ℕ) (μ : Floo.Machine) → Rep m s e d c l μ → Rep r s' e d c l (f μ)

-- An operator that touches the stack's words alone does f, or fails as f does.
pub record OnStack (f : Floo.Machine → Result Floo.Machine) (m : Machine) (s s' : List ℕ) (r : Did) : Type 0 where
  pub does : (e d c l : List ℕ) (μ : Floo.Machine) → Rep m s e d c l μ → Answer (λ m'. Rep m' s' e d c l) (s' ≡ s) r (f μ)

-- ---- promises about the stack and the heap

-- The words stand for some machine.
abbrev pub Somewhere : Machine → List ℕ → List ℕ → Type 0
Somewhere m s c = (e : List ℕ) × (d : List ℕ) × (l : List ℕ) × (μ : Floo.Machine) × Rep m s e d c l μ

-- A primitive that touches the words of the stack and of the cells does f.
pub record MovesHeap (f : Floo.Machine → Floo.Machine) (m r : Machine) (s s' c c' : List ℕ) : Type 0 where
  pub moves : (e d l : List ℕ) (μ : Floo.Machine) → Rep m s e d c l μ → Rep r s' e d c' l (f μ)

-- An operator that touches them does f, or fails as f does.
pub record OnHeap (f : Floo.Machine → Result Floo.Machine) (m : Machine) (s s' c c' : List ℕ) (r : Did) : Type 0 where
  pub does : (e d l : List ℕ) (μ : Floo.Machine) → Rep m s e d c l μ → Answer (λ m'. Rep m' s' e d c' l) ((s' ≡ s) × (c' ≡ c)) r (f μ)
