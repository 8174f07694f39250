-- onerror by the tags of its operands and by the row of the error that its name is, and what each of its returns shows.
-- Assumes nothing.
use Rattle.std.specs.Prelude.{Ok, Err}
use mathlib.Core.Path.{◌≡◌, refl, ap, ◌∙◌}
use mathlib.Core.Bool.{true, false}
use mathlib.Core.List.{List}
use Prim.Native.Nat.{ℕ, ◌+◌, ◌-◌, ◌*◌, ◌≤◌, ◌<◌}
use native.Mathlib.Omega.{arith}
use lib.ListN.{length, get_or}
use Rattle.semantics.specs.Sizes.{error_count, dictionary_words_most}
use Rattle.semantics.specs.Text.{bytes, textual}
use Rattle.semantics.specs.Values.{Value, Result, name, null, ok, fault, ◌>>=◌, check}
use Rattle.semantics.specs.Machine as Floo
use Rattle.semantics.specs.Machine.{with_stack, with_handlers, assign}
use Rattle.semantics.specs.Operators.{perform, find, table, ◌is◌}
use Rattle.semantics.specs.ControlOperators.{has_slot, onerror}
use Rattle.semantics.specs.ErrorLaws.{handler_has, handler_lacks}
use Rattle.semantics.specs.declared.Error.TheVariants.{StackUnderflow, TypeCheck, RangeCheck}
use Rattle.machine.specs.Words.{item_tag, item_payload}
use Rattle.machine.specs.Rep.{Somewhere, MovesHeap}
use Rattle.machine.specs.Moves.{dropped}
use Rattle.machine.specs.declared.Machine.{Machine}
use Rattle.machine.proofs.Outcomes.{stack_depth}
use Rattle.dictionary.proofs.Rebinding.{slot_room}
use Rattle.handlers.specs.Handling.{NamesRow, BindsHandler}
use Rattle.dictionary_operators.specs.Promises.{Represented, DoesDictionary}
use Rattle.dictionary_operators.proofs.Promising.{fails, does}
use Rattle.dictionary_operators.proofs.Naming.{named, on_named, named_under, named_typed, named_done}

-- ---- the definition's operator

abbrev setting : List ℕ → Value → Floo.Machine → Result Floo.Machine
setting n v τ = check (has_slot n τ.handlers) RangeCheck >>= λ _. ok (with_handlers (assign n v τ.handlers) τ)

onerror_is : (μ : Floo.Machine) → perform (bytes "onerror") μ ≡ on_named setting μ
unfolding textual perform find table ◌is◌ onerror
onerror_is μ = refl

module _ (μ : Floo.Machine) (n : List ℕ) (h : 2 ≤ length μ.stack) (q : get_or μ.stack 1 null ≡ name false n) where
  onerror_range : has_slot n μ.handlers ≡ false → perform (bytes "onerror") μ ≡ fault RangeCheck
  unfolding ◌>>=◌ check with_stack dropped
  onerror_range other =
      onerror_is μ
      ∙ named_done setting μ n h q
      ∙ ap (λ t. check t RangeCheck >>= λ _. ok (with_handlers (assign n (get_or μ.stack 0 null) μ.handlers) (dropped (dropped μ)))) other

  onerror_done : has_slot n μ.handlers ≡ true → perform (bytes "onerror") μ ≡ ok (dropped (dropped (with_handlers (assign n (get_or μ.stack 0 null) μ.handlers) μ)))
  unfolding ◌>>=◌ check with_stack with_handlers dropped
  onerror_done known =
      onerror_is μ
      ∙ named_done setting μ n h q
      ∙ ap (λ t. check t RangeCheck >>= λ _. ok (with_handlers (assign n (get_or μ.stack 0 null) μ.handlers) (dropped (dropped μ)))) known

-- ---- its returns

abbrev second : Machine → ℕ
second m = m.depth - 2

abbrev slot_in : Machine → List ℕ → ℕ
slot_in m s = item_payload s (second m)

module _ {m : Machine} {s d c : List ℕ} where
  pub onerror_short : m.depth < 2 → DoesDictionary (perform (bytes "onerror")) m s s d d c c (Err StackUnderflow)
  onerror_short h = fails (λ e l μ R. onerror_is μ ∙ named_under setting μ (omega (arith, stack_depth R)))

  module _ (two : 2 ≤ m.depth) where
    pub onerror_mistyped : (item_tag s (second m) ≡ 5 → ⊥) → DoesDictionary (perform (bytes "onerror")) m s s d d c c (Err TypeCheck)
    onerror_mistyped q = fails (λ e l μ R. onerror_is μ ∙ named_typed setting R (second m) (omega arith) q)

    module _ (q : item_tag s (second m) ≡ 5) where
      pub onerror_room : Represented m s d c → (12 * slot_in m s + 12 ≤ length d) × (length d ≤ dictionary_words_most)
      onerror_room (e, l, μ, R) =
          let N = named R 1 (second m) (omega arith) q in
          (slot_room R (slot_in m s) N.text N.slot, R.rooms.dict_few)

      module _ {j : ℕ} (X : NamesRow d (slot_in m s) j) where
        pub onerror_unknown : error_count ≤ j → DoesDictionary (perform (bytes "onerror")) m s s d d c c (Err RangeCheck)
        onerror_unknown high =
            fails
            (λ e l μ R.
            let N = named R 1 (second m) (omega arith) q in
            let none = X.nowhere m s e c l μ R N.text N.slot high in
            onerror_range μ N.text (omega (arith, stack_depth R)) N.item (handler_lacks μ.handlers R.handled.errors N.text none))

        module _ (low : j < error_count) {r : Machine} {d' c₁ : List ℕ} (B : BindsHandler j (slot_in m s) 0 m r s d d' c c₁) where
          pub onerror_bound : Represented m s d c → Somewhere r s c₁
          onerror_bound (e, l, μ, R) =
              let N = named R 1 (second m) (omega arith) q in
              let row = X.here m s e c l μ R N.text N.slot low in
              (e, d', l, with_handlers (assign N.text (get_or μ.stack 0 null) μ.handlers) μ, B.moves e l μ R N.text N.slot row)

          pub onerror_good : {r₁ r₂ : Machine} {c₂ c' : List ℕ}
              → MovesHeap dropped r r₁ s s c₁ c₂
              → MovesHeap dropped r₁ r₂ s s c₂ c'
              → length d' ≡ length d
              → DoesDictionary (perform (bytes "onerror")) m s s d d' c c' (Ok r₂)
          unfolding dropped with_stack with_handlers
          onerror_good Y Z dict =
              does refl dict
              (λ e l μ R.
              let N = named R 1 (second m) (omega arith) q in
              let row = X.here m s e c l μ R N.text N.slot low in
              let τ = with_handlers (assign N.text (get_or μ.stack 0 null) μ.handlers) μ in
              let has = handler_has μ.handlers R.handled.errors j N.text row in
              let done = onerror_done μ N.text (omega (arith, stack_depth R)) N.item has in
              let one = Y.moves e d' l τ (B.moves e l μ R N.text N.slot row) in
              (dropped (dropped τ), done, refl, Z.moves e d' l (dropped τ) one))
