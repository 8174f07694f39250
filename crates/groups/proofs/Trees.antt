-- The definition's reading of a brace group that is there gives what its nodes say: by induction on the nodes, each of which adds its own names and
-- objects to the machine, and marks what it adds as read only.
-- Assumes nothing.
use mathlib.Core.Path.{◌≡◌, refl, sym, ap, ◌∙◌}
use mathlib.Core.Bool.{true, false≢true}
use mathlib.Core.List.{List, [], ◌∷◌, ◌++◌, reverse, reverse-cons, append_assoc, append-nil}
use Prim.Native.Nat.{ℕ, zero, suc, ◌+◌, ◌-◌, ◌≤◌, ◌<◌}
use native.Mathlib.Omega.{arith}
use lib.ListN.{length, set, length-append}
use lib.Seq.{set-append_seam}
use Rattle.semantics.specs.Tokens.{Lexing, Token, lexeme}
use Rattle.semantics.specs.Values.{Value, integer, name, array, Object, elements, cells, ◌>>=◌}
use Rattle.semantics.specs.Machine.{Machine, Slot, with_dictionary, with_store, with_read_only, make, made, change, protect, intern, slotted}
use Rattle.semantics.specs.Held.{sum_of}
use Rattle.semantics.specs.Groups.{Taken, taken, skip, Reader, opened, enclosed, closed, element, group}
use Rattle.semantics.proofs.TokenLaws.{skip_le}
use Rattle.token.specs.Lexing.{Lexes}
use Rattle.groups.specs.Nodes.{Nodes, end, leaf, inner, is_leaf, leaf_value, leaf_objects, leaf_names, count, objects, values, news, wanted, names, intern_all, up_from, marked, grown, filled}
use Rattle.groups.specs.Parsing.{Parsed, closes, token, opens}

-- ---- counting

pub news_length : (k : ℕ) (ns : Nodes) → length (news k ns) ≡ objects ns
unfolding news objects
news_length k end = refl
news_length k (leaf t ns) = length-append (leaf_objects t) _ ∙ ap (λ n. length (leaf_objects t) + n) (news_length (length (leaf_objects t) + k) ns)
news_length k (inner ms ns) =
    let l : length (news (suc k) ms ++ news (suc (objects ms + k)) ns) ≡ objects ms + objects ns = length-append (news (suc k) ms) _
    ∙ (ap (λ n. n + length (news (suc (objects ms + k)) ns)) (news_length (suc k) ms) ∙ ap (λ n. objects ms + n) (news_length (suc (objects ms + k)) ns)) in
    ap suc l

pub values_length : (k : ℕ) (ns : Nodes) → length (values k ns) ≡ count ns
unfolding values count
values_length k end = refl
values_length k (leaf t ns) = ap suc (values_length (length (leaf_objects t) + k) ns)
values_length k (inner ms ns) = ap suc (values_length (suc (objects ms + k)) ns)

sum_append : (a b : List Object) → sum_of cells (a ++ b) ≡ sum_of cells a + sum_of cells b
unfolding sum_of
sum_append [] b = omega arith
sum_append (x ∷ a) b = let h = sum_append a b in omega arith

pub news_cells : (k : ℕ) (ns : Nodes) → sum_of cells (news k ns) ≡ wanted ns
unfolding news wanted sum_of cells
news_cells k end = refl
news_cells k (leaf t ns) =
    sum_append (leaf_objects t) (news (length (leaf_objects t) + k) ns) ∙ ap (λ n. sum_of cells (leaf_objects t) + n) (news_cells (length (leaf_objects t) + k) ns)
news_cells k (inner ms ns) = omega (
  arith,
  values_length (suc k) ms,
  sum_append (news (suc k) ms) (news (suc (objects ms + k)) ns),
  news_cells (suc k) ms,
  news_cells (suc (objects ms + k)) ns,
)

-- ---- names

pub intern_append : (a b : List (List ℕ)) (d : List Slot) → intern_all (a ++ b) d ≡ intern_all b (intern_all a d)
unfolding intern_all
intern_append [] b d = refl
intern_append (n ∷ a) b d = intern_append a b (slotted n d)

-- ---- marks

up_append : (k a b : ℕ) → up_from k (a + b) ≡ up_from k a ++ up_from (a + k) b
unfolding up_from
up_append k zero b =
    let many : 0 + b ≡ b = omega arith in
    let first : k ≡ 0 + k = omega arith in
    ap (up_from k) many ∙ ap (λ n. up_from n b) first
up_append k (suc a) b =
    let many : suc a + b ≡ suc (a + b) = omega arith in
    let first : a + suc k ≡ suc a + k = omega arith in
    ap (up_from k) many ∙ ap (λ (l : List ℕ). k ∷ l) (up_append (suc k) a b ∙ ap (λ n. up_from (suc k) a ++ up_from n b) first)

-- n objects are read only: a of them, and then b others, of which the first has number j.
pub marks_then : (r : List ℕ) (k n a b j : ℕ) → n ≡ a + b → j ≡ a + k → r ++ up_from k n ≡ (r ++ up_from k a) ++ up_from j b
marks_then r k n a b j d e =
    ap (λ i. r ++ up_from k i) d
    ∙ ap (λ (l : List ℕ). r ++ l) (up_append k a b)
    ∙ sym (append_assoc r (up_from k a) (up_from (a + k) b))
    ∙ ap (λ n. (r ++ up_from k a) ++ up_from n b) (sym e)

-- ---- the machine after each node

-- The machine after a token.
abbrev pub leafed : Token → Machine → Machine
leafed t m =
    with_read_only (marked (length (leaf_objects t)) m) (with_dictionary (intern_all (leaf_names t) m.dictionary) (with_store (m.store ++ leaf_objects t) m))

machine_same : (m : Machine) {q r : List ℕ} {d e : List Slot} {s t : List Object}
    → q ≡ r
    → d ≡ e
    → s ≡ t
    → with_read_only q (with_dictionary d (with_store s m)) ≡ with_read_only r (with_dictionary e (with_store t m))
machine_same m o p q = rw (o, p, q) refl

-- One machine by its parts.
parts : (m : Machine) → with_read_only m.read_only (with_dictionary m.dictionary (with_store m.store m)) ≡ m
unfolding with_read_only with_dictionary with_store
parts m = refl

grown_end : (m : Machine) → grown end m ≡ m
unfolding grown objects names news intern_all up_from
grown_end m = machine_same m (append-nil m.read_only) refl (append-nil m.store) ∙ parts m

grown_leaf : (t : Token) (ns : Nodes) (m : Machine) → grown (leaf t ns) m ≡ grown ns (leafed t m)
unfolding grown objects names news made with_read_only with_dictionary with_store
grown_leaf t ns m =
    let e : length (m.store ++ leaf_objects t) ≡ length (leaf_objects t) + length m.store = omega (arith, length-append m.store (leaf_objects t)) in
    machine_same m (marks_then m.read_only (length m.store) _ (length (leaf_objects t)) (objects ns) (length (m.store ++ leaf_objects t)) refl e)
    (intern_append (leaf_names t) (names ns) m.dictionary)
    (sym (append_assoc m.store (leaf_objects t) _) ∙ ap (λ k. (m.store ++ leaf_objects t) ++ news k ns) (sym e))

values_leaf : (t : Token) (ns : Nodes) (m : Machine) → values (length (leaf_objects t) + made m) ns ≡ values (made (leafed t m)) ns
unfolding made with_read_only with_dictionary with_store
values_leaf t ns m =
    let e : length (m.store ++ leaf_objects t) ≡ length (leaf_objects t) + length m.store = omega (arith, length-append m.store (leaf_objects t)) in
    ap (λ k. values k ns) (sym e)

-- The machine after an inner group.
abbrev pub nested : Nodes → Machine → Machine
nested ms m = filled (made m) (values (made (opened m)) ms) (grown ms (opened m))

made_opened : (m : Machine) → made (opened m) ≡ suc (made m)
unfolding opened protect make made with_read_only with_store
made_opened m = omega (arith, length-append m.store (elements [] ∷ []))

-- Its objects: what there was, the group, and what is inside.
pub nested_store : (ms : Nodes) (m : Machine) → (nested ms m).store ≡ m.store ++ (elements (values (suc (made m)) ms) ∷ news (suc (made m)) ms)
unfolding filled grown opened protect make change with_read_only with_store with_dictionary made
nested_store ms m =
    let s = m.store in
    let blank : Object = elements [] in
    let e : length (s ++ (blank ∷ [])) ≡ suc (length s) = omega (arith, length-append s (blank ∷ [])) in
    ap (λ k. set ((s ++ (blank ∷ [])) ++ news k ms) (length s) (elements (values k ms))) e
    ∙ ap (λ (l : List Object). set l (length s) (elements (values (suc (length s)) ms))) (append_assoc s (blank ∷ []) (news (suc (length s)) ms))
    ∙ set-append_seam s blank (news (suc (length s)) ms) (elements (values (suc (length s)) ms))

nested_made : (ms : Nodes) (m : Machine) → made (nested ms m) ≡ suc (objects ms + made m)
unfolding made
nested_made ms m =
    let s = m.store in
    ap (λ (l : List Object). length l) (nested_store ms m)
    ∙ length-append s (elements (values (suc (length s)) ms) ∷ news (suc (length s)) ms)
    ∙ omega (arith, news_length (suc (length s)) ms)

-- What a group makes, itself included, is read only.
pub nested_marks : (ms : Nodes) (m : Machine) → (nested ms m).read_only ≡ marked (suc (objects ms)) m
unfolding filled grown opened protect make change with_read_only with_store with_dictionary made up_from
nested_marks ms m =
    let s = m.store in
    let blank : Object = elements [] in
    sym (marks_then m.read_only (length s) (suc (objects ms)) 1 (objects ms) (length (s ++ (blank ∷ []))) (omega arith) (omega (arith, length-append s (blank ∷ []))))

grown_inner : (ms ns : Nodes) (m : Machine) → grown (inner ms ns) m ≡ grown ns (nested ms m)
unfolding grown objects names news made filled opened protect make change with_read_only with_store with_dictionary
grown_inner ms ns m =
    let s = m.store in
    let k = length s in
    let o : Object = elements (values (suc k) ms) in
    machine_same m
    (marks_then m.read_only k (suc (objects ms + objects ns)) (suc (objects ms)) (objects ns) (made (nested ms m)) (omega arith) (nested_made ms m ∙ omega arith)
    ∙ ap (λ (l : List ℕ). l ++ up_from (made (nested ms m)) (objects ns)) (sym (nested_marks ms m)))
    (intern_append (names ms) (names ns) m.dictionary)
    (sym (append_assoc s (o ∷ news (suc k) ms) (news (suc (objects ms + k)) ns))
    ∙ ap (λ (l : List Object). l ++ news (suc (objects ms + k)) ns) (sym (nested_store ms m))
    ∙ ap (λ j. (nested ms m).store ++ news j ns) (sym (nested_made ms m)))

values_inner : (ms ns : Nodes) (m : Machine) → values (suc (objects ms + made m)) ns ≡ values (made (nested ms m)) ns
values_inner ms ns m = ap (λ j. values j ns) (sym (nested_made ms m))

-- ---- reading

-- A token of a group is read, and the rest with less fuel.
module _ (script : List ℕ) where
  pub group_token : (o : ℕ) {next : ℕ} {t : Token}
      → Lexes script (skip script o) t next
      → (fuel i brace depth : ℕ) (vs : List Value) (m : Machine)
      → group script (suc fuel) i brace depth o vs m ≡ element (group script fuel) i brace depth (skip script o) next vs m t
  unfolding group ◌>>=◌ lexeme
  group_token o {next} {t} h fuel i brace depth vs m =
      let e : skip script o + (next - skip script o) ≡ next = omega (arith, h.past) in
      rw h.lexes (ap (λ n. element (group script fuel) i brace depth (skip script o) n vs m t) e)

-- A token that makes no object adds no mark.
nothing_made : (m : Machine) (d : List Slot) → with_dictionary d m ≡ with_read_only (m.read_only ++ []) (with_dictionary d (with_store (m.store ++ []) m))
unfolding with_read_only with_dictionary with_store
nothing_made m d = sym (machine_same m (append-nil m.read_only) refl (append-nil m.store))

-- A token that is no brace adds its value, its names and its objects.
pub element_leaf : (t : Token)
    → is_leaf t ≡ true
    → (rest : Reader) (i brace depth start after : ℕ) (vs : List Value) (m : Machine)
    → element rest i brace depth start after vs m t ≡ rest i brace depth after (leaf_value (made m) t ∷ vs) (leafed t m)
unfolding element enclosed protect intern intern_all make made with_read_only with_dictionary with_store up_from
element_leaf (Token.integer w) h rest i brace depth start after vs m =
    ap (λ (n : Machine). rest i brace depth after (integer w ∷ vs) n) (nothing_made m m.dictionary)
element_leaf (Token.string bs) h rest i brace depth start after vs m = refl
element_leaf (Token.name x n) h rest i brace depth start after vs m =
    ap (λ (y : Machine). rest i brace depth after (name x n ∷ vs) y) (nothing_made m (slotted n m.dictionary))
element_leaf Token.open_brace h rest i brace depth start after vs m = absurd (false≢true h)
element_leaf Token.close_brace h rest i brace depth start after vs m = absurd (false≢true h)
element_leaf Token.end h rest i brace depth start after vs m = absurd (false≢true h)

-- A group takes at least a byte, within the script.
pub parsed_inside : {script : List ℕ} {d o after : ℕ} {ns : Nodes} → Parsed script d o ns after → o ≤ length script → (o < after) × (after ≤ length script)
parsed_inside {script = script} (closes {o = o} l) le = (omega (arith, l.past, (skip_le script o le).0), l.inside)
parsed_inside {script = script} (token {o = o} l e p) le = let r = parsed_inside p l.inside in (omega (arith, l.past, (skip_le script o le).0), r.1)
parsed_inside {script = script} (opens {o = o} l p q) le =
    let r = parsed_inside p l.inside in
    let u = parsed_inside q r.1 in
    (omega (arith, l.past, (skip_le script o le).0), u.1)

-- A group that is there is read to its end, and gives what its nodes say.
module _ (script : List ℕ) where
  pub group_parsed : {d o after : ℕ} {ns : Nodes}
      → Parsed script d o ns after
      → o ≤ length script
      → (fuel i brace : ℕ) (vs : List Value) (m : Machine)
      → length script < o + fuel
      → group script fuel i brace d o vs m ≡ taken (array true i) (filled i (reverse vs ++ values (made m) ns) (grown ns m)) after
  unfolding element closed filled values taken ◌>>=◌
  group_parsed {o = o} p le zero i brace vs m h = absurd (omega arith)
  group_parsed (closes {d} {o} {next} l) le (suc fuel) i brace vs m h =
      group_token script o l fuel i brace d vs m
      ∙ ap (λ (n : Machine). taken (array true i) (change i (elements (reverse vs)) n) next) (sym (grown_end m))
      ∙ ap (λ (us : List Value). taken (array true i) (change i (elements us) (grown end m)) next) (sym (append-nil (reverse vs)))
  group_parsed (token {d} {o} {next} {after} {t} {ns} l e p) le (suc fuel) i brace vs m h =
      group_token script o l fuel i brace d vs m
      ∙ element_leaf t e (group script fuel) i brace d (skip script o) next vs m
      ∙ group_parsed p l.inside fuel i brace (leaf_value (made m) t ∷ vs) (leafed t m) (omega (arith, l.past, (skip_le script o le).0))
      ∙ ap (λ (n : Machine). taken (array true i) (filled i (reverse (leaf_value (made m) t ∷ vs) ++ values (made (leafed t m)) ns) n) after) (sym (grown_leaf t ns m))
      ∙ ap (λ (us : List Value). taken (array true i) (filled i us (grown (leaf t ns) m)) after)
      (ap (λ (us : List Value). us ++ values (made (leafed t m)) ns) (reverse-cons (leaf_value (made m) t) vs)
      ∙ append_assoc (reverse vs) (leaf_value (made m) t ∷ []) (values (made (leafed t m)) ns)
      ∙ ap (λ (us : List Value). reverse vs ++ (leaf_value (made m) t ∷ us)) (sym (values_leaf t ns m)))
  group_parsed (opens {d} {o} {next} {mid} {after} {ms} {ns} l p q) le (suc fuel) i brace vs m h =
      let r = parsed_inside p l.inside in
      let far = (skip_le script o le).0 in
      let x : Value = array true (made m) in
      group_token script o l fuel i brace (suc d) vs m
      ∙ ap (λ (r : Lexing Taken). r >>= λ t. group script fuel i brace (suc d) t.after (t.value ∷ vs) t.machine)
      (group_parsed p l.inside fuel (made m) (skip script o) [] (opened m) (omega (arith, l.past, far)))
      ∙ group_parsed q r.1 fuel i brace (x ∷ vs) (nested ms m) (omega (arith, l.past, far, r.0))
      ∙ ap (λ (n : Machine). taken (array true i) (filled i (reverse (x ∷ vs) ++ values (made (nested ms m)) ns) n) after) (sym (grown_inner ms ns m))
      ∙ ap (λ (us : List Value). taken (array true i) (filled i us (grown (inner ms ns) m)) after)
      (ap (λ (us : List Value). us ++ values (made (nested ms m)) ns) (reverse-cons x vs)
      ∙ append_assoc (reverse vs) (x ∷ []) (values (made (nested ms m)) ns)
      ∙ ap (λ (us : List Value). reverse vs ++ (x ∷ us)) (sym (values_inner ms ns m)))
