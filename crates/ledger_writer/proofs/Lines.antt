-- A line part by part: there is room for each part after those before it, and the parts one after the other are the line.
-- Assumes nothing.
use mathlib.Core.Path.{◌≡◌, sym}
use mathlib.Core.Bool.{Bool}
use mathlib.Core.List.{List, [], ◌∷◌, ◌++◌}
use Prim.Native.Nat.{ℕ}
use lib.ListN.{length, take}
use Rattle.semantics.specs.Text.{decimal}
use Rattle.book.specs.declared.Record.{Record}
use Rattle.ledger.specs.Ledger.{field}
use Rattle.ledger_writer.specs.Emitting.{Emitted, Roomy, line_of}
use Rattle.ledger_writer.proofs.Emits.{room_first, room_rest, room_of_lem, emits_as, emits_then}
use Rattle.ledger_writer.proofs.Places.{line_parts}

module _ (e : Record) {live : Bool} {at : ℕ} {old : List ℕ} (room : Roomy live at (line_of e) old) where
  abbrev number : List ℕ
  number = decimal e.number

  abbrev comma : List ℕ
  comma = 44 ∷ []

  abbrev place : List ℕ
  place = field (take e.length e.place) []

  abbrev time : List ℕ
  time = decimal e.time

  abbrev break : List ℕ
  break = 13 ∷ 10 ∷ []

  whole : Roomy live at (number ++ (comma ++ (place ++ (comma ++ (time ++ break))))) old
  whole = room_of_lem (line_parts e) room

  pub room_number : Roomy live at number old
  room_number = room_first number _ whole

  module _ {r₁ : ℕ} {l₁ : List ℕ} (x₁ : Emitted live at number old l₁ r₁) (k₁ : length l₁ ≡ length old) where
    after_number : Roomy live r₁ (comma ++ (place ++ (comma ++ (time ++ break)))) l₁
    after_number = room_rest number _ whole x₁ k₁

    pub room_comma : Roomy live r₁ comma l₁
    room_comma = room_first comma _ after_number

    module _ {r₂ : ℕ} {l₂ : List ℕ} (x₂ : Emitted live r₁ comma l₁ l₂ r₂) (k₂ : length l₂ ≡ length l₁) where
      after_comma : Roomy live r₂ (place ++ (comma ++ (time ++ break))) l₂
      after_comma = room_rest comma _ after_number x₂ k₂

      pub room_place : Roomy live r₂ place l₂
      room_place = room_first place _ after_comma

      module _ {r₃ : ℕ} {l₃ : List ℕ} (x₃ : Emitted live r₂ place l₂ l₃ r₃) (k₃ : length l₃ ≡ length l₂) where
        after_place : Roomy live r₃ (comma ++ (time ++ break)) l₃
        after_place = room_rest place _ after_comma x₃ k₃

        pub room_comma_2 : Roomy live r₃ comma l₃
        room_comma_2 = room_first comma _ after_place

        module _ {r₄ : ℕ} {l₄ : List ℕ} (x₄ : Emitted live r₃ comma l₃ l₄ r₄) (k₄ : length l₄ ≡ length l₃) where
          after_comma_2 : Roomy live r₄ (time ++ break) l₄
          after_comma_2 = room_rest comma _ after_place x₄ k₄

          pub room_time : Roomy live r₄ time l₄
          room_time = room_first time _ after_comma_2

          module _ {r₅ : ℕ} {l₅ : List ℕ} (x₅ : Emitted live r₄ time l₄ l₅ r₅) (k₅ : length l₅ ≡ length l₄) where
            pub room_break : Roomy live r₅ break l₅
            room_break = room_rest time break after_comma_2 x₅ k₅

            pub line_emits : {r : ℕ} {new : List ℕ} → Emitted live r₅ break l₅ new r → Emitted live at (line_of e) old new r
            line_emits x₆ =
                emits_as (sym (line_parts e))
                (emits_then number _ whole x₁ (emits_then comma _ after_number x₂ (emits_then place _ after_comma x₃ (emits_then comma _ after_place x₄ (emits_then time _ after_comma_2 x₅ x₆)))))
