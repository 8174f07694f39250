-- What is asked of the parts of a machine stays so while objects are made and changed, and names bound.
-- Assumes nothing.
use mathlib.Core.Bool.{Bool, ◌&&◌}
use mathlib.Core.List.{List, ◌∷◌}
use mathlib.Core.Option.{Option, none, some}
use Prim.Native.Nat.{ℕ}
use lib.ListN.{length}
use lib.Dec.{T, leb, leb→le}
use Rattle.semantics.specs.Sizes.{name_most}
use Rattle.semantics.specs.Text.{bytes, same}
use Rattle.semantics.specs.Errors.{error_text, error_names}
use Rattle.semantics.specs.Values.{Value, integer, boolean, null, mark, operator, name, string, array, Object, elements, text}
use Rattle.semantics.specs.Machine.{Machine, Frame, Slot, elements_of, bytes_of, lookup, assign, slotted, name_or_null}
use Rattle.semantics.specs.ObjectOperators.{size}
use Rattle.semantics.specs.ResultLaws.{choose}
use Rattle.semantics.specs.ListLaws.{All, nil, cons, every, both, all_every, at_all, Maybe, nothing, just, all_of, all_any, all_weaker, maybe_weaker}
use Rattle.semantics.specs.ErrorLaws.{error_row, error_named}
use Rattle.semantics.specs.declared.Error.{Error}
use Rattle.walk.specs.Parts.{Parts, any_numbers, any_references, value_of, Good, a_word, a_truth, a_null, a_mark, an_operator, a_name, a_string, an_array, GoodFrame, GoodSlot, GoodObject, Everywhere}

-- ---- other objects

-- What is named among the first objects is named among the second.
pub record Later (A : Parts) (s t : List Object) : Type 0 where
  pub still : (r : ℕ × Bool) → A.references.Reference s r → A.references.Reference t r

pub later_itself : {A : Parts} {s : List Object} → Later A s s
later_itself = record { still = λ r h. h }

pub later_then : {A : Parts} {s t u : List Object} → Later A s t → Later A t u → Later A s u
later_then f g = record { still = λ r h. g.still r (f.still r h) }

module _ {A : Parts} {s t : List Object} (f : Later A s t) where
  pub good_later : (v : Value) → Good A s v → Good A t v
  good_later v (a_word h) = a_word h
  good_later v a_truth = a_truth
  good_later v a_null = a_null
  good_later v a_mark = a_mark
  good_later v (an_operator h) = an_operator h
  good_later v (a_name h) = a_name h
  good_later v (a_string h) = a_string (f.still _ h)
  good_later v (an_array h) = an_array (f.still _ h)

  pub frame_later : (g : Frame) → GoodFrame A s g → GoodFrame A t g
  frame_later g h = record { held = good_later _ h.held }

  pub slot_later : (g : Slot) → GoodSlot A s g → GoodSlot A t g
  slot_later g h = record { bound = maybe_weaker good_later h.bound }

  pub object_later : (o : Object) → GoodObject A s o → GoodObject A t o
  object_later o h = record { inside = all_weaker good_later h.inside; stored = h.stored; extent = h.extent }

-- ---- objects

module _ {A : Parts} {s : List Object} where
  pub array_object : {vs : List Value} → All (Good A s) vs → A.numbers.Size (length vs) → GoodObject A s (elements vs)
  unfolding elements_of bytes_of size
  array_object h n = record { inside = h; stored = nil; extent = n }

  pub text_object : {bs : List ℕ} → All A.numbers.Byte bs → A.numbers.Size (length bs) → GoodObject A s (text bs)
  unfolding elements_of bytes_of size
  text_object h n = record { inside = nil; stored = h; extent = n }

  -- ---- names

  pub lookup_good : (n : List ℕ) {d : List Slot} → All (GoodSlot A s) d → Maybe (Good A s) (lookup n d)
  unfolding lookup
  lookup_good n nil = nothing
  lookup_good n (cons {a = g} {l = d} p ps) =
      choose (Maybe (Good A s)) (same n g.key) g.binding (lookup n d) (λ t. p.bound) (λ t. lookup_good n ps)

  pub assign_good : (n : List ℕ) {v : Value} → Good A s v → {d : List Slot} → All (GoodSlot A s) d → All (GoodSlot A s) (assign n v d)
  unfolding assign
  assign_good n h nil = cons (record { bound = just h }) nil
  assign_good n {v} h (cons {a = g} {l = d} p ps) =
      choose (All (GoodSlot A s)) (same n g.key) (record { key = n; binding = some v } ∷ d) (g ∷ assign n v d)
      (λ t. cons (record { bound = just h }) ps)
      (λ t. cons p (assign_good n h ps))

  pub slotted_good : (n : List ℕ) {d : List Slot} → All (GoodSlot A s) d → All (GoodSlot A s) (slotted n d)
  unfolding slotted
  slotted_good n nil = cons (record { bound = nothing }) nil
  slotted_good n (cons {a = g} {l = d} p ps) =
      choose (All (GoodSlot A s)) (same n g.key) (g ∷ d) (g ∷ slotted n d) (λ t. cons p ps) (λ t. cons p (slotted_good n ps))

  pub name_or_null_good : {o : Option (List ℕ)} → Maybe A.numbers.Spelling o → Good A s (name_or_null o)
  unfolding name_or_null
  name_or_null_good nothing = a_null
  name_or_null_good (just h) = a_name h

-- ---- spelling

module _ (A : Parts) where
  -- A text of at most 31 bytes.
  pub spelled : (t : List ℕ) → T (leb (length t) name_most && every (λ b. leb b 255) t) → A.numbers.Spelling t
  spelled t h =
      let q = both (leb (length t) name_most) (every (λ b. leb b 255) t) h in
      A.numbers.spelling t (all_weaker (λ b l. A.numbers.byte b (leb→le b 255 l)) (all_every (λ b. leb b 255) t q.1)) (leb→le (length t) name_most q.0)

  errors_spelled : All A.numbers.Spelling error_names
  unfolding error_names bytes
  errors_spelled = all_weaker spelled (all_every (λ t. leb (length t) name_most && every (λ b. leb b 255) t) error_names tt)

  pub error_spelled : (e : Error) → A.numbers.Spelling (error_text e)
  error_spelled e = at_all errors_spelled (error_row e) (error_text e) (error_named e)

-- ---- nothing is asked

unfoldable pub nothing_asked : Parts
unfolding any_numbers any_references
nothing_asked = record { numbers = any_numbers; references = any_references }

module _ (s : List Object) where
  any_value : (v : Value) → Good nothing_asked s v
  unfolding nothing_asked
  any_value (integer w) = a_word tt
  any_value (boolean b) = a_truth
  any_value null = a_null
  any_value mark = a_mark
  any_value (operator o) = an_operator tt
  any_value (name x n) = a_name tt
  any_value (string i) = a_string tt
  any_value (array x i) = an_array tt

  any_bound : (o : Option Value) → Maybe (Good nothing_asked s) o
  any_bound none = nothing
  any_bound (some v) = just (any_value v)

  any_slot : (g : Slot) → GoodSlot nothing_asked s g
  any_slot g = record { bound = any_bound g.binding }

  any_object : (o : Object) → GoodObject nothing_asked s o
  unfolding nothing_asked
  any_object o = record { inside = all_of any_value (elements_of o); stored = all_any (bytes_of o); extent = tt }

any_name : (o : Option (List ℕ)) → Maybe nothing_asked.numbers.Spelling o
unfolding nothing_asked
any_name none = nothing
any_name (some n) = just tt

pub asked_nowhere : (m : Machine) → Everywhere nothing_asked m
asked_nowhere m =
    record {
      stack = all_of (any_value m.store) m.stack;
      dictionary = all_of (any_slot m.store) m.dictionary;
      exec = all_of (λ f. record { held = any_value m.store (value_of f) }) m.exec;
      store = all_of (any_object m.store) m.store;
      handlers = all_of (any_slot m.store) m.handlers;
      latest = record { errorname = any_name m.latest.errorname; command = any_name m.latest.command };
    }
