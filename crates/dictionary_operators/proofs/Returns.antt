-- What each return of def and load shows, by the words that the code has compared and by what its primitives did.
-- Assumes nothing.
use Rattle.std.specs.Prelude.{Ok, Err}
use mathlib.Core.Path.{◌≡◌, refl}
use mathlib.Core.List.{List}
use Prim.Native.Nat.{ℕ, ◌+◌, ◌-◌, ◌*◌, ◌≤◌, ◌<◌}
use native.Mathlib.Omega.{arith}
use lib.ListN.{length, get_or, set}
use Rattle.semantics.specs.Sizes.{dictionary_words_most}
use Rattle.semantics.specs.Text.{bytes}
use Rattle.semantics.specs.Values.{null}
use Rattle.semantics.specs.Machine.{with_stack, with_dictionary, assign}
use Rattle.semantics.specs.Operators.{perform}
use Rattle.semantics.specs.declared.Error.TheVariants.{StackUnderflow, TypeCheck, Undefined}
use Rattle.machine.specs.Words.{item_tag, item_payload, binding_tag}
use Rattle.machine.specs.Rep.{Somewhere, MovesHeap}
use Rattle.machine.specs.Moves.{dropped}
use Rattle.machine.specs.declared.Machine.{Machine}
use Rattle.machine.proofs.Outcomes.{stack_depth}
use Rattle.dictionary.specs.Bindings.{NamedItems, BoundItems, BindsItem, LoadsBinding}
use Rattle.dictionary.proofs.Rebinding.{slot_room}
use Rattle.dictionary_operators.specs.Promises.{Represented, DoesDictionary}
use Rattle.dictionary_operators.proofs.Promising.{fails, does}
use Rattle.dictionary_operators.proofs.Naming.{named, name_unbound, name_bound, def_under, def_typed, def_done, load_under, load_typed, load_undefined, load_done}

-- The places of item 1 and of item 0, and the payload of item 0.
abbrev second : Machine → ℕ
second m = m.depth - 2

abbrev topmost : Machine → ℕ
topmost m = m.depth - 1

abbrev slot_in : Machine → List ℕ → ℕ
slot_in m s = item_payload s (topmost m)

module _ {m : Machine} {s d c : List ℕ} where
  -- ---- def

  pub def_short : m.depth < 2 → DoesDictionary (perform (bytes "def")) m s s d d c c (Err StackUnderflow)
  def_short h = fails (λ e l μ R. def_under μ (omega (arith, stack_depth R)))

  module _ (two : 2 ≤ m.depth) where
    pub def_mistyped : (item_tag s (second m) ≡ 5 → ⊥) → DoesDictionary (perform (bytes "def")) m s s d d c c (Err TypeCheck)
    def_mistyped q = fails (λ e l μ R. def_typed R (second m) (omega arith) q)

    module _ (q : item_tag s (second m) ≡ 5) where
      pub def_named : Represented m s d c → NamedItems (item_payload s (second m)) m s d c
      def_named (e, l, μ, R) =
          let N = named R 1 (second m) (omega arith) q in
          (e, l, μ, N.text, N.slot, R)

      module _ {r : Machine} {d' c₁ : List ℕ} (B : BindsItem (item_payload s (second m)) 0 m r s d d' c c₁) where
        pub def_bound : Represented m s d c → Somewhere r s c₁
        def_bound (e, l, μ, R) =
            let N = named R 1 (second m) (omega arith) q in
            (e, d', l, with_dictionary (assign N.text (get_or μ.stack 0 null) μ.dictionary) μ, B.moves e l μ R N.text N.slot)

        pub def_good : {r₁ r₂ : Machine} {c₂ c' : List ℕ}
            → MovesHeap dropped r r₁ s s c₁ c₂
            → MovesHeap dropped r₁ r₂ s s c₂ c'
            → length d' ≡ length d
            → DoesDictionary (perform (bytes "def")) m s s d d' c c' (Ok r₂)
        unfolding dropped with_stack with_dictionary
        def_good X Y dict =
            does refl dict
            (λ e l μ R.
            let N = named R 1 (second m) (omega arith) q in
            let τ = with_dictionary (assign N.text (get_or μ.stack 0 null) μ.dictionary) μ in
            (dropped (dropped τ), def_done μ N.text (omega (arith, stack_depth R)) N.item, refl, Y.moves e d' l (dropped τ) (X.moves e d' l τ (B.moves e l μ R N.text N.slot))))

  -- ---- load

  pub load_short : m.depth < 1 → DoesDictionary (perform (bytes "load")) m s s d d c c (Err StackUnderflow)
  load_short h = fails (λ e l μ R. load_under μ (omega (arith, stack_depth R)))

  module _ (one : 1 ≤ m.depth) where
    pub load_mistyped : (item_tag s (topmost m) ≡ 5 → ⊥) → DoesDictionary (perform (bytes "load")) m s s d d c c (Err TypeCheck)
    load_mistyped q = fails (λ e l μ R. load_typed R (topmost m) (omega arith) q)

    module _ (q : item_tag s (topmost m) ≡ 5) where
      pub load_room : Represented m s d c → (12 * slot_in m s + 12 ≤ length d) × (length d ≤ dictionary_words_most)
      load_room (e, l, μ, R) =
          let N = named R 0 (topmost m) (omega arith) q in
          (slot_room R (slot_in m s) N.text N.slot, R.rooms.dict_few)

      pub load_unbound : binding_tag d (slot_in m s) ≡ 7 → DoesDictionary (perform (bytes "load")) m s s d d c c (Err Undefined)
      load_unbound z =
          fails
          (λ e l μ R.
          let N = named R 0 (topmost m) (omega arith) q in
          load_undefined μ N.text (omega (arith, stack_depth R)) N.item (name_unbound R (slot_in m s) N.text N.slot z))

      module _ (z : binding_tag d (slot_in m s) ≡ 7 → ⊥) where
        pub load_bound : Represented m s d c → BoundItems (slot_in m s) m s d c
        load_bound (e, l, μ, R) =
            let N = named R 0 (topmost m) (omega arith) q in
            let v = name_bound R (slot_in m s) N.text N.slot z in
            (e, l, μ, N.text, v.0, record { slot = N.slot; value = v.1 }, R)

        pub load_good : {r : Machine} {s' c' : List ℕ}
            → LoadsBinding (slot_in m s) 0 m r s s' d c c'
            → length s' ≡ length s
            → DoesDictionary (perform (bytes "load")) m s s' d d c c' (Ok r)
        unfolding with_stack
        load_good L long =
            does long refl
            (λ e l μ R.
            let N = named R 0 (topmost m) (omega arith) q in
            let v = name_bound R (slot_in m s) N.text N.slot z in
            (with_stack (set μ.stack 0 v.0) μ, load_done μ N.text (omega (arith, stack_depth R)) N.item v.0 v.1, refl, L.moves e l μ R N.text v.0 N.slot v.1))
