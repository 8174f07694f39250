-- What `planted` comes to: the array's elements from q on are the values of the group's nodes, the new objects follow the old ones and are read only, and all else stays. By
-- induction on the nodes: each of them sets one element and adds its own objects.
-- Assumes nothing.
use mathlib.Core.Path.{◌≡◌, refl, sym, ap, ◌∙◌}
use mathlib.Core.Bool.{true, false}
use mathlib.Core.List.{List, [], ◌∷◌, ◌++◌, append_assoc, append-nil}
use Prim.Native.Nat.{ℕ, suc, ◌+◌, ◌≤◌, ◌<◌}
use native.Mathlib.Omega.{arith}
use lib.ListN.{length, set, take, drop, replicate, length-set, length-append, length-replicate, get_or-append}
use lib.Seq.{take-length, drop-length, set-get_or, set-set, set-append_left, set-append_seam, set_at, get_or-set_same, get_or-append_seam, get_or_at, take-suc-set, append_snoc}
use Rattle.semantics.specs.Tokens.{Token}
use Rattle.semantics.specs.Values.{Value, null, string, array, Object, elements, text}
use Rattle.semantics.specs.Machine.{Machine, with_dictionary, with_store, with_read_only, object, elements_of, bytes_of, make, made, change, protect}
use Rattle.semantics.specs.Groups.{opened}
use Rattle.store.specs.Rep.{is_text, object_at}
use Rattle.store.proofs.Standing.{array_is}
use Rattle.strings.specs.Strings.{string_filled}
use Rattle.groups.specs.Nodes.{Nodes, end, leaf, inner, leaf_value, leaf_objects, count, objects, values, news, names, intern_all, up_from, marked, grown, filled}
use Rattle.groups.proofs.Trees.{news_length, marks_then, nested, nested_store, nested_marks}
use Rattle.construction.specs.Growth.{element_set, array_set, string_set}
use Rattle.group_building.specs.Building.{leaf_set, planted}

-- Object id is an array of these values, and more objects follow, which are read only.
abbrev pub restored : ℕ → List Value → List Object → Machine → Machine
restored id vs more μ = with_read_only (marked (length more) μ) (with_store (set μ.store id (elements vs) ++ more) μ)

-- The elements of object id.
abbrev pub held : ℕ → Machine → List Value
held id μ = elements_of (object_at μ.store id)

same_parts : (μ : Machine) {r q : List ℕ} {a b : List Object} → r ≡ q → a ≡ b → with_read_only r (with_store a μ) ≡ with_read_only q (with_store b μ)
same_parts μ d e = rw (d, e) refl

unchanged : (μ : Machine) → with_read_only μ.read_only (with_store μ.store μ) ≡ μ
unfolding with_read_only with_store
unchanged μ = refl

-- ---- one node

-- An element is set after an object was made, which is read only then.
set_made : (id q : ℕ) (v : Value) (o : Object) (μ : Machine)
    → id < length μ.store
    → protect (made μ) (element_set id q v (make o μ)) ≡ restored id (set (held id μ) q v) (o ∷ []) μ
unfolding protect element_set make change object with_read_only with_store up_from
set_made id q v o μ low =
    let s = μ.store in
    same_parts μ refl
    (ap (λ (y : Object). set (s ++ (o ∷ [])) id (elements (set (elements_of y) q v))) (get_or-append s (o ∷ []) (elements []) id low)
    ∙ set-append_left s (o ∷ []) id (elements (set (held id μ) q v)) low)

set_alone : (id q : ℕ) (v : Value) (μ : Machine) → element_set id q v μ ≡ restored id (set (held id μ) q v) [] μ
unfolding element_set change object with_read_only with_store up_from
set_alone id q v μ = same_parts μ (sym (append-nil μ.read_only)) (sym (append-nil (set μ.store id (elements (set (held id μ) q v)))))

pub array_is_set : (id q n : ℕ) (μ : Machine)
    → id < length μ.store
    → array_set id q n μ ≡ restored id (set (held id μ) q (array true (made μ))) (elements (replicate n null) ∷ []) μ
unfolding array_set
array_is_set id q n μ low = set_made id q (array true (made μ)) (elements (replicate n null)) μ low

length_made : (id : ℕ) (vs : List Value) (μ : Machine) → length (set μ.store id (elements vs)) ≡ made μ
unfolding made
length_made id vs μ = length-set μ.store id (elements vs)

-- The last object is filled.
filled_last : (bs : List ℕ) (s : List Object) (k : ℕ) (r : List ℕ) (μ : Machine)
    → length s ≡ k
    → string_filled k bs (with_read_only r (with_store (s ++ (text (replicate (length bs) 0) ∷ [])) μ)) ≡ with_read_only r (with_store (s ++ (text bs ∷ [])) μ)
unfolding string_filled change with_read_only with_store object bytes_of
filled_last bs s k r μ e =
    let zeros : List ℕ = replicate (length bs) 0 in
    let none : drop (length bs) zeros ≡ [] = ap (λ n. drop n zeros) (sym (length-replicate (length bs) 0)) ∙ drop-length zeros in
    rw (sym e)
    (same_parts μ refl
    (set-append_seam s (text zeros) [] (text (bs ++ drop (length bs) (bytes_of (object_at (s ++ (text zeros ∷ [])) (length s)))))
    ∙ ap (λ (y : Object). s ++ (text (bs ++ drop (length bs) (bytes_of y)) ∷ [])) (get_or-append_seam s (text zeros) [] (elements []))
    ∙ ap (λ (y : List ℕ). s ++ (text (bs ++ y) ∷ [])) none
    ∙ ap (λ (y : List ℕ). s ++ (text y ∷ [])) (append-nil bs)))

pub leaf_is_set : (id q : ℕ) (t : Token) (μ : Machine)
    → id < length μ.store
    → leaf_set id q t μ ≡ restored id (set (held id μ) q (leaf_value (made μ) t)) (leaf_objects t) μ
unfolding leaf_set string_set
leaf_is_set id q (Token.integer w) μ low = set_alone id q (leaf_value (made μ) (Token.integer w)) μ
leaf_is_set id q (Token.string bs) μ low =
    let vs = set (held id μ) q (string (made μ)) in
    ap (λ (ν : Machine). string_filled (made μ) bs ν) (set_made id q (string (made μ)) (text (replicate (length bs) 0)) μ low)
    ∙ filled_last bs (set μ.store id (elements vs)) (made μ) (marked 1 μ) μ (length_made id vs μ)
leaf_is_set id q (Token.name x n) μ low = set_alone id q (leaf_value (made μ) (Token.name x n)) μ
leaf_is_set id q Token.open_brace μ low = set_alone id q null μ
leaf_is_set id q Token.close_brace μ low = set_alone id q null μ
leaf_is_set id q Token.end μ low = set_alone id q null μ

-- ---- a machine with an array restored

module _ (id : ℕ) (vs : List Value) (more : List Object) (μ : Machine) where
  pub made_restored : made (restored id vs more μ) ≡ length more + made μ
  unfolding made with_read_only with_store
  made_restored =
      let s = set μ.store id (elements vs) in
      omega (arith, length-append s more, length-set μ.store id (elements vs))

  pub restored_low : length μ.store ≤ length (restored id vs more μ).store
  unfolding with_read_only with_store
  restored_low =
      let s = set μ.store id (elements vs) in
      omega (arith, length-append s more, length-set μ.store id (elements vs))

  pub restored_again : (us : List Value) (after : List Object) → id < length μ.store → restored id us after (restored id vs more μ) ≡ restored id us (more ++ after) μ
  unfolding with_read_only with_store
  restored_again us after low =
      let s = μ.store in
      let inside : id < length (set s id (elements vs)) = rw (length-set s id (elements vs)) low in
      same_parts μ
      (sym (marks_then μ.read_only (made μ) (length (more ++ after)) (length more) (length after) (made (restored id vs more μ)) (length-append more after) made_restored))
      (ap (λ (l : List Object). l ++ after) (set-append_left (set s id (elements vs)) more id (elements us) inside ∙ ap (λ (l : List Object). l ++ more) (set-set s id (elements vs) (elements us)))
      ∙ append_assoc (set s id (elements us)) more after)

  pub restored_object : id < length μ.store → object_at (restored id vs more μ).store id ≡ elements vs
  unfolding with_read_only with_store
  restored_object low =
      let s = μ.store in
      let inside : id < length (set s id (elements vs)) = rw (length-set s id (elements vs)) low in
      get_or-append (set s id (elements vs)) more (elements []) id inside ∙ get_or-set_same s id (elements vs) (elements []) low

-- ---- all nodes

-- The law for these nodes.
abbrev Law : Nodes → Type 0
Law ns =
    (id q : ℕ) (μ : Machine)
    → id < length μ.store
    → is_text (object_at μ.store id) ≡ false
    → length (held id μ) ≡ q + count ns
    → planted id q ns μ ≡ restored id (take q (held id μ) ++ values (made μ) ns) (news (made μ) ns) μ

-- One element is set, and the rest is planted.
then : (id q : ℕ) (v : Value) (more : List Object) (μ : Machine) (ns : Nodes)
    → Law ns
    → id < length μ.store
    → length (held id μ) ≡ q + suc (count ns)
    → (ν : Machine)
    → ν ≡ restored id (set (held id μ) q v) more μ
    → planted id (suc q) ns ν ≡ restored id (take q (held id μ) ++ (v ∷ values (length more + made μ) ns)) (more ++ news (length more + made μ) ns) μ
unfolding elements_of
then id q v more μ ns law low long ν e =
    let vs = held id μ in
    let us = set vs q v in
    let ν₁ = restored id us more μ in
    let k = length more + made μ in
    let here : object_at ν₁.store id ≡ elements us = restored_object id us more μ low in
    let inside : id < length ν₁.store = omega (arith, restored_low id us more μ, low) in
    let kept : length (held id ν₁) ≡ suc q + count ns = ap (λ (o : Object). length (elements_of o)) here ∙ length-set vs q v ∙ long ∙ omega arith in
    let front : take (suc q) (held id ν₁) ++ values k ns ≡ take q vs ++ (v ∷ values k ns) =
    ap (λ (o : Object). take (suc q) (elements_of o) ++ values k ns) here
    ∙ ap (λ (l : List Value). l ++ values k ns) (take-suc-set vs q v (omega (arith, long)))
    ∙ append_snoc (take q vs) v (values k ns) in
    ap (λ (ν : Machine). planted id (suc q) ns ν) e
    ∙ law id (suc q) ν₁ inside (ap is_text here) kept
    ∙ ap (λ n. restored id (take (suc q) (held id ν₁) ++ values n ns) (news n ns) ν₁) (made_restored id us more μ)
    ∙ ap (λ (l : List Value). restored id l (news k ns) ν₁) front
    ∙ restored_again id us more μ (take q vs ++ (v ∷ values k ns)) (news k ns) low

-- An inner group's array is made, and what is in it planted.
module _ (id q : ℕ) (ms : Nodes) (law : Law ms) (μ : Machine) (low : id < length μ.store) where
  pub inner_set : planted (made μ) 0 ms (array_set id q (count ms) μ)
      ≡ restored id (set (held id μ) q (array true (made μ))) (elements (values (suc (made μ)) ms) ∷ news (suc (made μ)) ms) μ
  unfolding made elements_of with_read_only with_store
  inner_set =
      let k = length μ.store in
      let us = set (held id μ) q (array true k) in
      let blank : Object = elements (replicate (count ms) null) in
      let s = set μ.store id (elements us) in
      let ρ = restored id us (blank ∷ []) μ in
      let all : length s ≡ k = length-set μ.store id (elements us) in
      let here : object_at ρ.store k ≡ blank = get_or_at s blank [] (elements []) k all in
      let inside : k < length ρ.store = omega (arith, all, length-append s (blank ∷ [])) in
      let many : length (held k ρ) ≡ 0 + count ms = ap (λ (o : Object). length (elements_of o)) here ∙ length-replicate (count ms) null ∙ omega arith in
      let next : length (s ++ (blank ∷ [])) ≡ suc k = omega (arith, all, length-append s (blank ∷ [])) in
      ap (λ (ν : Machine). planted k 0 ms ν) (array_is_set id q (count ms) μ low)
      ∙ law k 0 ρ inside (ap is_text here) many
      ∙ ap (λ n. restored k (values n ms) (news n ms) ρ) next
      ∙ same_parts μ
      (sym (marks_then μ.read_only k (suc (length (news (suc k) ms))) 1 (length (news (suc k) ms)) (length (s ++ (blank ∷ []))) (omega arith) (next ∙ omega arith)))
      (ap (λ (l : List Object). l ++ news (suc k) ms) (set_at s blank [] (elements (values (suc k) ms)) k all)
      ∙ append_assoc s (elements (values (suc k) ms) ∷ []) (news (suc k) ms))

pub planted_is : (ns : Nodes) → Law ns
unfolding planted values news count made up_from
planted_is end id q μ low kind long =
    let vs = held id μ in
    let size : q ≡ length vs = omega (arith, long) in
    let all : take q vs ++ [] ≡ vs = append-nil (take q vs) ∙ ap (λ n. take n vs) size ∙ take-length vs in
    sym (same_parts μ (append-nil μ.read_only)
    (append-nil (set μ.store id (elements (take q vs ++ [])))
    ∙ ap (λ (l : List Value). set μ.store id (elements l)) all
    ∙ ap (λ (o : Object). set μ.store id o) (sym (array_is (object_at μ.store id) kind))
    ∙ set-get_or μ.store id (elements []))
    ∙ unchanged μ)
planted_is (leaf t ns) id q μ low kind long =
    then id q (leaf_value (made μ) t) (leaf_objects t) μ ns (planted_is ns) low long (leaf_set id q t μ) (leaf_is_set id q t μ low)
planted_is (inner ms ns) id q μ low kind long =
    let k = made μ in
    let more : List Object = elements (values (suc k) ms) ∷ news (suc k) ms in
    let many : length more + k ≡ suc (objects ms + k) = omega (arith, news_length (suc k) ms) in
    then id q (array true k) more μ ns (planted_is ns) low long _ (inner_set id q ms (planted_is ms) μ low)
    ∙ ap (λ n. restored id (take q (held id μ) ++ (array true k ∷ values n ns)) (more ++ news n ns) μ) many

-- From the first element of an array of as many nulls: the definition's array, and the definition's objects.
pub planted_whole : (id : ℕ) (ns : Nodes) (μ : Machine)
    → id < length μ.store
    → object_at μ.store id ≡ elements (replicate (count ns) null)
    → planted id 0 ns μ ≡ restored id (values (made μ) ns) (news (made μ) ns) μ
unfolding elements_of
planted_whole id ns μ low is =
    planted_is ns id 0 μ low (ap is_text is) (ap (λ (o : Object). length (elements_of o)) is ∙ length-replicate (count ns) null ∙ omega arith)

-- ---- the definition's reading

-- Where the group's names have slots and its array was made, read only and with a null for each element, planting comes to the machine that the definition's reading of the
-- group gives (`group_parsed`).
pub planted_group : (ns : Nodes) (μ : Machine)
    → planted (made μ) 0 ns (protect (made μ) (make (elements (replicate (count ns) null)) (with_dictionary (intern_all (names ns) μ.dictionary) μ))) ≡ nested ns μ
unfolding made make filled grown opened protect change with_read_only with_store with_dictionary up_from
planted_group ns μ =
    let s = μ.store in
    let k = length s in
    let blank : Object = elements (replicate (count ns) null) in
    let d = intern_all (names ns) μ.dictionary in
    let ν = protect k (make blank (with_dictionary d μ)) in
    let next : length (s ++ (blank ∷ [])) ≡ suc k = omega (arith, length-append s (blank ∷ [])) in
    let o : Object = elements (values (suc k) ns) in
    let more = news (length (s ++ (blank ∷ []))) ns in
    planted_whole k ns ν (omega (arith, next)) (get_or-append_seam s blank [] (elements []))
    ∙ same_parts (with_dictionary d μ)
    (sym (marks_then μ.read_only k (suc (length more)) 1 (length more) (length (s ++ (blank ∷ []))) (omega arith) (next ∙ omega arith))
    ∙ ap (λ n. μ.read_only ++ up_from k (suc n)) (news_length (length (s ++ (blank ∷ []))) ns)
    ∙ sym (nested_marks ns μ))
    (ap (λ n. set (s ++ (blank ∷ [])) k (elements (values n ns)) ++ news n ns) next
    ∙ ap (λ (t : List Object). t ++ news (suc k) ns) (set-append_seam s blank [] o)
    ∙ append_assoc s (o ∷ []) (news (suc k) ns)
    ∙ sym (nested_store ns μ))
