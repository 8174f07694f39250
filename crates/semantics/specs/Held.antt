-- Held objects (01, Room). Held is the largest set of made objects in which each is named by a root, or by an element of a member.
-- It is computed by leaving out what is not named, again and again. `HeldLaws` proves that it is that set.
-- Assumes nothing.
use Rattle.std.specs.Prelude.{Bool, true, false, List, [], ◌∷◌, ◌++◌, ℕ, zero, suc, ◌+◌, length, eqb}
use Rattle.std.proofs.Math.Option.{Option, none, some}
use Rattle.semantics.specs.Values.{Value, integer, boolean, null, mark, operator, name, string, array, Object, elements, text, cells}
use Rattle.semantics.specs.Machine.{Machine, Frame, pending, running, looping, repeating, counting, object, member}

-- ---- what a place names

-- A place is a stack item, a dictionary binding, a handler (02, W1), an array element, or an execution slot; circles stay held (R89).
unfoldable pub of_value : Value → List ℕ
of_value (integer w) = []
of_value (boolean b) = []
of_value null = []
of_value mark = []
of_value (operator o) = []
of_value (name x n) = []
of_value (string i) = i ∷ []
of_value (array x i) = i ∷ []

-- An execution slot names its pending object, running procedure or loop body until dropped (R94); a loop's slot and its running body are two (R90).
unfoldable pub of_frame : Frame → List ℕ
of_frame (pending v) = of_value v
of_frame (running i k) = i ∷ []
of_frame (looping b) = of_value b
of_frame (repeating n b) = of_value b
of_frame (counting n i f b) = of_value b

unfoldable pub of_binding : Option Value → List ℕ
of_binding none = []
of_binding (some v) = of_value v

unfoldable pub gather : {A : Type 0} → (A → List ℕ) → List A → List ℕ
gather f [] = []
gather f (a ∷ l) = f a ++ gather f l

unfoldable pub of_object : Object → List ℕ
of_object (elements vs) = gather of_value vs
of_object (text bs) = []

-- ---- held

unfoldable pub roots : Machine → List ℕ
roots m =
    gather of_value m.stack
    ++ gather (λ s. of_binding s.binding) m.dictionary
    ++ gather of_frame m.exec
    ++ gather (λ s. of_binding s.binding) m.handlers

-- What the roots and the elements of these objects name.
unfoldable pub named_by : Machine → List ℕ → List ℕ
named_by m ids = roots m ++ gather (λ i. of_object (object m i)) ids

unfoldable pub keep : Bool → ℕ → List ℕ → List ℕ
keep true i ids = i ∷ ids
keep false i ids = ids

-- Those of `ids` that `names` has.
unfoldable pub among : List ℕ → List ℕ → List ℕ
among names [] = []
among names (i ∷ ids) = keep (member i names) i (among names ids)

unfoldable pub prune : Machine → List ℕ → List ℕ
prune m ids = among (named_by m ids) ids

-- Pruned as often as anything falls out, and at most k times.
unfoldable pub pruned : Machine → ℕ → List ℕ → List ℕ
pruned m zero ids = ids
pruned m (suc k) ids =
    let fewer = prune m ids in
    elim (eqb (length fewer) (length ids)) [ true ↦ ids | false ↦ pruned m k fewer ]

-- n - 1, .. , 1, 0
unfoldable pub below : ℕ → List ℕ
below zero = []
below (suc n) = n ∷ below n

unfoldable pub held : Machine → List ℕ
held m = pruned m (length m.store) (below (length m.store))

unfoldable pub sum_of : {A : Type 0} → (A → ℕ) → List A → ℕ
sum_of f [] = 0
sum_of f (a ∷ l) = f a + sum_of f l

unfoldable pub held_cells : Machine → ℕ
held_cells m = sum_of (λ i. cells (object m i)) (held m)

-- Opens every definition of this file.
unfoldable pub holding : Unit {0}
unfolding of_value of_frame of_binding gather of_object roots named_by keep among prune pruned below held sum_of held_cells
holding = tt
