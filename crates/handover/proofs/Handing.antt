-- The error is handed over, or not, as the definition decides: what failed is taken, both names are stored, and the handler becomes pending.
-- Assumes nothing.
use Rattle.std.specs.Prelude.{Some, None}
use mathlib.Core.Path.{◌≡◌, refl, sym, ap, ◌∙◌, subst}
use mathlib.Core.Bool.{Bool, true, false}
use mathlib.Core.List.{List}
use mathlib.Core.Option.{Option, none, some}
use Prim.Native.Nat.{ℕ, suc, ◌+◌, ◌*◌, ◌/◌, ◌≤◌, ◌<◌}
use native.Mathlib.Omega.{arith}
use native.Mathlib.Numerals.{add-one}
use borrow.Author.Tests.{leb-true}
use lib.Dec.{leb}
use lib.ListN.{length, get_elem?, length-map}
use Rattle.semantics.specs.Sizes.{operator_count, dictionary_words_most}
use Rattle.semantics.specs.Values.{Value}
use Rattle.semantics.specs.Errors.{error_text, error_names}
use Rattle.semantics.specs.ErrorLaws.{error_row, error_named, error_not_empty, noted_found, handling_noted}
use Rattle.semantics.specs.ListLaws.{inside_list}
use Rattle.semantics.specs.SlotLaws.{keys_of, has_key}
use Rattle.semantics.specs.Machine as Floo
use Rattle.semantics.specs.Machine.{Slot, Latest, pending, enter, with_exec, with_dictionary, with_latest, lookup}
use Rattle.semantics.specs.Steps.{Limits, noted, handling}
use Rattle.semantics.specs.declared.Error.{Error}
use Rattle.ending.specs.Endings.{command_text, IsCommand}
use Rattle.ending.specs.declared.Command.{Command}
use Rattle.machine.specs.Words.{handler_tag, handler_name}
use Rattle.machine.specs.Places.{keys}
use Rattle.machine.specs.Rep as Words
use Rattle.machine.specs.Rep.{Rep, Bound, unbound, bound, Noted}
use Rattle.machine.specs.FrameMoves.{MovesFrames}
use Rattle.machine.specs.declared.Machine.{Machine}
use Rattle.machine.proofs.Rooms.{frames_length, dictionary_fits}
use Rattle.handlers.specs.Handling.{HasHandler, HandledFrames, PendsHandler, NotesNames}
use Rattle.dictionary.proofs.Rebinding.{bound_none, bound_some}
use Rattle.handlers.proofs.Setting.{rows_room, rows_few, handler_at, handler_named}
use Rattle.handover.specs.Handover.{left_of, passed_top, HasSlot, MayKnow, Knows, handed_over, MayHand, HandsOver}
use Rattle.handover.specs.declared.Known.{Known}

module _ (limits : Limits) (x : Error) (text : List ℕ) (μ : Floo.Machine) where
  -- Without a handler, or without a slot for it, nothing takes over.
  none_over : lookup (error_text x) μ.handlers ≡ none → handed_over limits x text μ ≡ none
  unfolding handed_over
  none_over q = rw (q, handed_over) refl

  full_over : {h : Value} → lookup (error_text x) μ.handlers ≡ some h → leb (suc (length (left_of μ.exec))) limits.exec_slots ≡ false → handed_over limits x text μ ≡ none
  unfolding handed_over
  full_over q f = rw (q, handed_over, f) refl

  some_over : {h : Value}
      → lookup (error_text x) μ.handlers ≡ some h
      → leb (suc (length (left_of μ.exec))) limits.exec_slots ≡ true
      → handed_over limits x text μ ≡ some (handling limits h x text (left_of μ.exec) μ)
  unfolding handed_over
  some_over q f = rw (q, handed_over, f) refl

-- ---- what handles the error, by the tag of its row

module _ (x : Error) {row : ℕ} (is : row ≡ error_row x) where
  named : get_elem? error_names row ≡ some (error_text x)
  named = ap (get_elem? error_names) is ∙ error_named x

  module _ {m : Machine} {s e d c l : List ℕ} {μ : Floo.Machine} (R : Rep m s e d c l μ) where
    unhandled : handler_tag d row ≡ 7 → lookup (error_text x) μ.handlers ≡ none
    unhandled q = bound_none (handler_at R row (error_text x) named) q

    handler : (handler_tag d row ≡ 7 → ⊥) → (h : Value) × (lookup (error_text x) μ.handlers ≡ some h)
    handler q = bound_some (handler_at R row (error_text x) named) q

module _ (script : List ℕ) (x : Error) (command : Command) (m : Machine) (e d c : List ℕ) {row : ℕ} (is : row ≡ error_row x) where
  pub hands_none : handler_tag d row ≡ 7 → HandsOver script x command m e e d d c c None
  hands_none q = record { hands = λ s l μ limits R i a b. (none_over limits x _ μ (unhandled x is R q), (refl, refl, refl)) }

  module _ (tagged : handler_tag d row ≡ 7 → ⊥) {t : Bool} (H : HasSlot m e t) where
    pub hands_full : t ≡ false → HandsOver script x command m e e d d c c None
    hands_full q =
        record {
          hands = λ s l μ limits R i a b.
              let free = ap (leb (suc (length (left_of μ.exec)))) a ∙ sym (H.says s d c l μ R) ∙ q in
              (full_over limits x _ μ (handler x is R tagged).1 free, (refl, refl, refl));
        }

    -- ---- the handler takes over, one change after another: what failed is taken,

    module _ (free : t ≡ true) (p : Machine) (e₁ c₁ : List ℕ) (P : MovesFrames passed_top m p e e₁ c c₁) (exec-long : length e₁ ≡ length e) where
      passed_rep : {s l : List ℕ} {μ : Floo.Machine} → Rep m s e d c l μ → Rep p s e₁ d c₁ l (with_exec (left_of μ.exec) μ)
      unfolding passed_top
      passed_rep {s} {l} {μ} R = P.moves s d l μ R

      pub may_know : MayHand script command m e d c → MayKnow script command p d
      unfolding with_exec
      may_know M = (M.stack, e₁, c₁, M.log, with_exec (left_of M.machine.exec) M.machine, passed_rep M.stands, M.is)

      -- the command's name is stored,

      module _ (known : Known) (d₁ : List ℕ) (K : Knows script command p d d₁ known) (dict_long : length d₁ ≡ length d) where
        module _ {s l : List ℕ} {μ : Floo.Machine} (R : Rep m s e d c l μ) (there : IsCommand script (keys μ) command) where
          abbrev after : Option (List ℕ) × List Slot
          after = noted (length d / 12) (command_text script (keys μ) command) μ.dictionary

          abbrev machine₁ : Floo.Machine
          machine₁ = with_dictionary after.1 (with_exec (left_of μ.exec) μ)

          stored : Rep known.machine s e₁ d₁ c₁ l machine₁ × Noted (keys_of after.1) after.0 known.word
          unfolding with_exec
          stored = K.knows s e₁ c₁ l (with_exec (left_of μ.exec) μ) (passed_rep R) there

          -- the error's own name has its slot,
          error_slot : get_elem? (keys_of after.1) (handler_name d₁ row) ≡ some (error_text x)
          unfolding with_dictionary with_exec
          error_slot = handler_named stored.0 row (error_text x) (named x is) (handler x is R tagged).1

        pub rows_there : MayHand script command m e d c → (12 * operator_count ≤ length d₁) × (length d₁ ≤ dictionary_words_most)
        rows_there M = (rows_room (stored M.stands M.is).0, rows_few (stored M.stands M.is).0)

        pub slot_small : MayHand script command m e d c → handler_name d₁ row < 512
        unfolding with_dictionary with_exec
        slot_small M =
            let R = (stored M.stands M.is).0 in
            omega (arith, inside_list (keys_of (after M.stands M.is).1) (handler_name d₁ row) (error_slot M.stands M.is), length-map (after M.stands M.is).1 (λ (s : Slot). s.key), dictionary_fits R, R.rooms.dict_few)

        -- it is stored too,

        module _ (word : ℕ) (is_IsWord : word ≡ handler_name d₁ row + 1) (d₂ : List ℕ) (N : NotesNames word known.word d₁ d₂) (dict-longer : length d₂ ≡ length d₁) where
          module _ {s l : List ℕ} {μ : Floo.Machine} (R : Rep m s e d c l μ) (there : IsCommand script (keys μ) command) where
            abbrev machine₂ : Floo.Machine
            machine₂ = with_latest (record { errorname = some (error_text x); command = (after R there).0 }) (machine₁ R there)

            noted_rep : Rep known.machine s e₁ d₂ c₁ l machine₂
            unfolding with_dictionary
            noted_rep =
                N.moves known.machine s e₁ c₁ l (machine₁ R there) (some (error_text x)) (after R there).0 (stored R there).0
                (subst (Noted (keys_of (after R there).1) (some (error_text x))) (sym (is_IsWord ∙ add-one (handler_name d₁ row))) (Words.noted (error_slot R there)))
                (stored R there).1

            -- and the handler is there.
            handler_there : HasHandler row (error_text x) (handler x is R tagged).0 machine₂
            unfolding with_latest with_dictionary with_exec
            handler_there = record { row = named x is; value = (handler x is R tagged).1 }

            room_for : suc (length (left_of μ.exec)) ≤ length e / 8
            room_for = leb-true _ _ (sym (H.says s d c l μ R) ∙ free)

          pub pend_room : MayHand script command m e d c → 8 * known.machine.frames + 8 ≤ length e₁
          unfolding with_latest with_dictionary with_exec
          pend_room M = omega (arith, exec-long, room_for M.stands M.is, frames_length (noted_rep M.stands M.is).frames)

          pub pend_there : MayHand script command m e d c → HandledFrames row known.machine e₁ d₂ c₁
          pend_there M = (M.stack, M.log, _, _, _, handler_there M.stands M.is, noted_rep M.stands M.is)

          pub hands : {r : Machine} {e₂ c₂ : List ℕ} → PendsHandler row known.machine r e₁ e₂ d₂ c₁ c₂ → HandsOver script x command m e e₂ d d₂ c c₂ (Some r)
          unfolding enter with_latest with_dictionary with_exec
          hands {r} {e₂} {c₂} Q =
              record {
                hands = λ s l μ limits R there slots names.
                    let h = handler x is R tagged in
                    let text = command_text script (keys μ) command in
                    let found = noted_found limits.dictionary_slots (error_text x) μ.dictionary (error_not_empty x)
                    (has_key (error_text x) μ.dictionary (handler_name d row) (handler_named R row (error_text x) (named x is) h.1))
                    (rw names (dictionary_fits R)) in
                    let second : noted limits.dictionary_slots text μ.dictionary ≡ ((after R there).0, (after R there).1) = ap (λ n. noted n text μ.dictionary) names in
                    let made = handling_noted limits h.0 x text (left_of μ.exec) μ found second in
                    let fits = ap (leb (suc (length (left_of μ.exec)))) slots ∙ sym (H.says s d c l μ R) ∙ free in (
                      handling limits h.0 x text (left_of μ.exec) μ,
                      some_over limits x text μ h.1 fits,
                      subst (λ ν. Rep r s e₂ d₂ c₂ l ν) (sym made) (Q.moves s l (machine₂ R there) (noted_rep R there) (error_text x) h.0 (handler_there R there)),
                    );
              }
