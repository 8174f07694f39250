-- cvn: the string's current bytes are read, and the item gives way to the name of these bytes by its slot, which is found or added.
-- Assumes nothing.
use Rattle.std.specs.Prelude.{Ok, Err}
use mathlib.Core.Path.{◌≡◌, refl, sym, ap, ◌∙◌, subst}
use mathlib.Core.Bool.{Bool, false}
use mathlib.Core.List.{List, ◌∷◌}
use Prim.Native.Nat.{ℕ, ◌+◌, ◌-◌, ◌*◌, ◌≤◌, ◌<◌}
use native.Mathlib.Omega.{arith}
use lib.Dec.{leb}
use lib.ListN.{length, get_or, set, take}
use borrow.Author.Tests.{le-leb, lt-leb}
use Rattle.semantics.specs.Sizes.{name_most, dictionary_words_most}
use Rattle.semantics.specs.Text.{bytes, textual}
use Rattle.semantics.specs.Values.{Value, name, null, string, Result, ok, fault, ◌>>=◌, check, string_id, current}
use Rattle.semantics.specs.Machine as Floo
use Rattle.semantics.specs.Machine.{with_stack, with_dictionary, push, object, bytes_of, intern}
use Rattle.semantics.specs.Operators.{perform, find, table, ◌is◌}
use Rattle.semantics.specs.TextOperators.{cvn}
use Rattle.semantics.specs.Steps.{room_for}
use Rattle.semantics.specs.declared.Error.TheVariants.{StackUnderflow, TypeCheck, LimitCheck}
use Rattle.store.specs.Rep.{Stands, a_null, an_integer, a_boolean, a_mark, an_operator, a_literal, an_executable, a_string, an_array, a_procedure}
use Rattle.machine.specs.Words.{item_tag}
use Rattle.machine.specs.Rep.{Rep}
use Rattle.machine.specs.Room.{lent, fitted}
use Rattle.machine.specs.declared.Machine.{Machine}
use Rattle.machine.specs.Answers.{Did}
use Rattle.machine.proofs.Copying.{word_of}
use Rattle.machine.proofs.Operands.{pop1_some, pop1_under}
use Rattle.machine.proofs.Outcomes.{stack_depth, first_item}
use Rattle.elements.specs.Elements.{HasString, SomewhereThat}
use Rattle.elements.proofs.Tags.{string_tagged}
use Rattle.strings.specs.Strings.{HasBytes, CurrentSize, ReadsBytes}
use Rattle.dictionary.specs.Names.{Finds, Adds}
use Rattle.dictionary.specs.Bindings.{NamedStack, PutsName}
use Rattle.dictionary_operators.specs.Promises.{Represented, DoesDictionary}
use Rattle.dictionary_operators.specs.Interning.{item_named}
use Rattle.dictionary_operators.proofs.Promising.{fails, does, alike}
use Rattle.dictionary.proofs.Lookups.{room_slots}
use Rattle.dictionary.proofs.Interning.{found_key, found_same, new_slot, new_key, new_slot_lacks}
use Rattle.strings.proofs.Prefixes.{current_few}
use Rattle.strings.proofs.Reading.{read_all}

-- ---- the item becomes the name

named_store : (n : List ℕ) (μ : Floo.Machine) → length (with_stack (set μ.stack 0 (name false n)) (intern n μ)).store ≡ length μ.store
unfolding with_stack intern with_dictionary
named_store n μ = refl

named_is : (n : List ℕ) (μ : Floo.Machine) → item_named n μ ≡ ok (with_stack (set μ.stack 0 (name false n)) (intern n μ))
unfolding item_named
named_is n μ = refl

interned_stack : (n : List ℕ) (μ : Floo.Machine) → (intern n μ).stack ≡ μ.stack
unfolding intern with_dictionary
interned_stack n μ = refl

stacked_dictionary : (n : List ℕ) (s : List Value) (μ : Floo.Machine) → (with_stack s (intern n μ)).dictionary ≡ (intern n μ).dictionary
unfolding with_stack
stacked_dictionary n s μ = refl

module _ {m : Machine} {s d c : List ℕ} where
  pub few : Represented m s d c → length d ≤ dictionary_words_most
  few (e, l, μ, R) = R.rooms.dict_few

  module _ {n : List ℕ} {k : ℕ} (F : Finds m d n k) where
    module _ (low : k < m.names) where
      pub found_stack : Represented m s d c → NamedStack k m s c
      found_stack (e, l, μ, R) = (e, d, l, μ, n, found_key R n F low, R)

      pub found_good : {r : Machine} {s' c' : List ℕ} → PutsName k 0 m r s s' c c' → length s' ≡ length s → DoesDictionary (item_named n) m s s' d d c c' (Ok r)
      found_good {r} {s'} {c'} P long =
          does long refl
          (λ e l μ R. (
            with_stack (set μ.stack 0 (name false n)) (intern n μ),
            named_is n μ,
            named_store n μ,
            subst (λ x. Rep r s' e d c' l (with_stack (set μ.stack 0 (name false n)) x)) (sym (found_same R n F low)) (P.moves e d l μ R n (found_key R n F low)),
          ))

    module _ (low : k ≤ m.names) (high : m.names ≤ k) where
      pub named_full : length d < 12 * m.names + 12 → DoesDictionary (item_named n) m s s d d c c (Err LimitCheck)
      unfolding fitted ◌>>=◌
      named_full h =
          record {
            does = λ e l μ R.
                let new = with_stack (set μ.stack 0 (name false n)) (intern n μ) in
                let many = ap length (stacked_dictionary n (set μ.stack 0 (name false n)) μ) in
                let lacks = new_slot_lacks R n F low high h in
                (ap (λ q. q >>= room_for (lent s e d c l) μ) (named_is n μ) ∙ room_slots (lent s e d c l) μ new (omega (arith, many, lacks)), (refl, refl, refl));
          }

      module _ {r : Machine} {d' : List ℕ} (A : Adds m r d d' n) where
        pub added_stack : Represented m s d c → NamedStack k r s c
        added_stack (e, l, μ, R) = (e, d', l, intern n μ, n, new_key R n F low high, A.moves s e c l μ R (new_slot R n F low high))

        pub added_good : {r' : Machine} {s' c' : List ℕ}
            → PutsName k 0 r r' s s' c c'
            → length s' ≡ length s
            → length d' ≡ length d
            → DoesDictionary (item_named n) m s s' d d' c c' (Ok r')
        added_good {r'} {s'} {c'} P long dict =
            does long dict
            (λ e l μ R. (
              with_stack (set μ.stack 0 (name false n)) (intern n μ),
              named_is n μ,
              named_store n μ,
              subst (λ x. Rep r' s' e d' c' l (with_stack (set x 0 (name false n)) (intern n μ))) (interned_stack n μ)
                  (P.moves e d' l (intern n μ) (A.moves s e c l μ R (new_slot R n F low high)) n (new_key R n F low high)),
            ))

-- ---- the definition's cvn

cvn_is : (μ : Floo.Machine) → perform (bytes "cvn") μ ≡ cvn μ
unfolding textual perform find table ◌is◌
cvn_is μ = refl

stands_no_string : {ks : List (List ℕ)} {texts : List Bool} {ρ : ℕ → ℕ} {v : Value} {t p : ℕ} → Stands ks texts ρ v t p → (t ≡ 8 → ⊥) → string_id v ≡ fault TypeCheck
unfolding string_id
stands_no_string a_null n = refl
stands_no_string an_integer n = refl
stands_no_string a_boolean n = refl
stands_no_string a_mark n = refl
stands_no_string (an_operator q) n = refl
stands_no_string (a_literal q) n = refl
stands_no_string (an_executable q) n = refl
stands_no_string (a_string q k) n = absurd (n refl)
stands_no_string (an_array q k) n = refl
stands_no_string (a_procedure q k) n = refl

-- What comes of a string's current bytes.
abbrev become : Floo.Machine → List ℕ → Result Floo.Machine
become τ n = check (leb (length n) name_most) LimitCheck >>= λ u. ok (push (name false n) (intern n τ))

abbrev converted : Floo.Machine → ℕ → Result Floo.Machine
converted τ i = become τ (current (bytes_of (object τ i)))

module _ (μ : Floo.Machine) where
  cvn_under : length μ.stack < 1 → perform (bytes "cvn") μ ≡ fault StackUnderflow
  unfolding cvn ◌>>=◌
  cvn_under h = cvn_is μ ∙ ap (λ r. r >>= λ p. string_id p.0 >>= converted p.1) (pop1_under μ h)

  converting : {x : Value} {s : List Value} → μ.stack ≡ x ∷ s → perform (bytes "cvn") μ ≡ (string_id x >>= converted (with_stack s μ))
  unfolding cvn ◌>>=◌
  converting q = cvn_is μ ∙ ap (λ r. r >>= λ p. string_id p.0 >>= converted p.1) (pop1_some μ q)

  cvn_type : 1 ≤ length μ.stack → string_id (get_or μ.stack 0 null) ≡ fault TypeCheck → perform (bytes "cvn") μ ≡ fault TypeCheck
  unfolding ◌>>=◌
  cvn_type h q =
      let f = first_item μ.stack h in
      converting f.2 ∙ ap (λ r. r >>= converted (with_stack f.1 μ)) (ap (λ t. string_id (get_or t 0 null)) (sym f.2) ∙ q)

  module _ (id : ℕ) (h : 1 ≤ length μ.stack) (x : get_or μ.stack 0 null ≡ string id) where
    abbrev text : List ℕ
    text = current (bytes_of (object μ id))

    abbrev rest : List Value
    rest = (first_item μ.stack h).1

    of_string : perform (bytes "cvn") μ ≡ become (with_stack rest μ) text
    unfolding ◌>>=◌ string_id object with_stack
    of_string =
        let f = first_item μ.stack h in
        converting f.2 ∙ ap (λ v. string_id v >>= converted (with_stack f.1 μ)) (ap (λ t. get_or t 0 null) (sym f.2) ∙ x)

    cvn_long : name_most < length text → perform (bytes "cvn") μ ≡ fault LimitCheck
    unfolding ◌>>=◌ check
    cvn_long q =
        of_string ∙ ap (λ t. check t LimitCheck >>= λ u. ok (push (name false text) (intern text (with_stack rest μ)))) (lt-leb (length text) name_most q)

    cvn_done : length text ≤ name_most → item_named text μ ≡ perform (bytes "cvn") μ
    unfolding ◌>>=◌ check item_named push with_stack intern with_dictionary
    cvn_done q =
        sym
        (of_string
        ∙ ap (λ t. check t LimitCheck >>= λ u. ok (push (name false text) (intern text (with_stack rest μ)))) (le-leb (length text) name_most q)
        ∙ sym (ap (λ (t : List Value). ok (with_stack (set t 0 (name false text)) (intern text μ))) (first_item μ.stack h).2))

-- ---- the returns

module _ {m : Machine} {s d c : List ℕ} where
  pub cvn_short : m.depth < 1 → DoesDictionary (perform (bytes "cvn")) m s s d d c c (Err StackUnderflow)
  cvn_short h = fails (λ e l μ R. cvn_under μ (omega (arith, stack_depth R)))

  module _ (one : 1 ≤ m.depth) where
    pub cvn_mistyped : (item_tag s (m.depth - 1) ≡ 8 → ⊥) → DoesDictionary (perform (bytes "cvn")) m s s d d c c (Err TypeCheck)
    cvn_mistyped q =
        fails (λ e l μ R. cvn_type μ (omega (arith, stack_depth R)) (stands_no_string (word_of R 0 (m.depth - 1) (omega arith)).stands q))

    module _ (q : item_tag s (m.depth - 1) ≡ 8) where
      has_string : {e l : List ℕ} {μ : Floo.Machine} → Rep m s e d c l μ → HasString 0 μ
      has_string R = string_tagged R 0 (m.depth - 1) (omega arith) q

      pub cvn_string : Represented m s d c → SomewhereThat (HasString 0) m s c
      cvn_string (e, l, μ, R) = (e, d, l, μ, R, has_string R)

      module _ {n : ℕ} (Z : CurrentSize 0 m s c n) where
        pub cvn_over : name_most < n → DoesDictionary (perform (bytes "cvn")) m s s d d c c (Err LimitCheck)
        cvn_over h =
            fails
            (λ e l μ R.
            let x = has_string R in
            cvn_long μ x.id (omega (arith, stack_depth R)) x.item (omega (arith, Z.says e d l μ R x.id x.item)))

        pub cvn_bytes : Represented m s d c → SomewhereThat (HasBytes 0 0 n) m s c
        cvn_bytes (e, l, μ, R) =
            let x = has_string R in
            (e, d, l, μ, R, record { string = x; inside = omega (arith, Z.says e d l μ R x.id x.item, current_few (bytes_of (object μ x.id))) })

        module _ (h : n ≤ name_most) {out₀ out : List ℕ} (B : ReadsBytes 0 n m s c out₀ out) (long : n ≤ length out) where
          pub cvn_good : {s' d' c' : List ℕ} (r : Did)
              → DoesDictionary (item_named (take (n - 0) out)) m s s' d d' c c' r
              → DoesDictionary (perform (bytes "cvn")) m s s' d d' c c' r
          cvn_good r D =
              alike r
              (λ e l μ R.
              let x = has_string R in
              let size = Z.says e d l μ R x.id x.item in
              let all : n - 0 ≡ n = omega arith in
              ap (λ t. item_named (take t out) μ) all ∙ ap (λ t. item_named t μ) (read_all R x.id x.item size long B) ∙ cvn_done μ x.id (omega (arith, stack_depth R)) x.item (omega (arith, size)))
              D
