-- The outcome of a machine that words stand for is ASCII: names are packed into bytes, and those of the operators have no byte to escape.
-- Assumes nothing.
use mathlib.Core.Path.{◌≡◌, subst}
use mathlib.Core.Bool.{true}
use mathlib.Core.List.{List, [], ◌∷◌}
use mathlib.Core.Option.{some}
use Prim.Native.Nat.{ℕ, suc, ◌+◌, ◌*◌, ◌/◌, ◌%◌, ◌^◌, ◌<◌}
use native.Mathlib.Omega.{arith}
use native.Mathlib.Nat.{mod-lt}
use lib.ListN.{length, get_or, get_elem?}
use Rattle.semantics.specs.Values.{Value}
use Rattle.semantics.specs.Machine as Floo
use Rattle.semantics.specs.Outcome.{outcome}
use Rattle.semantics.specs.ListLaws.{All, nil, cons, all_take, all_drop, an_element}
use Rattle.semantics.specs.AsciiLaws.{Ascii, Bytes, Plain, PlainEnding, name_ascii, outcome_ascii}
use Rattle.store.specs.Rep.{titles, Stands, a_null, an_integer, a_boolean, a_mark, an_operator, a_literal, an_executable, a_string, an_array, a_procedure}
use Rattle.names.proofs.Spelling.{title_slot, size_is, byte_is}
use Rattle.ending.specs.Endings.{command_text, IsCommand, ending_of, IsEnding}
use Rattle.ending.specs.declared.Command.{Command}
use Rattle.ending.specs.declared.Command.TheVariants.{Nothing, Operator, Name, Token, Taken}
use Rattle.ending.specs.declared.Ending.{Ending}
use Rattle.ending.specs.declared.Ending.TheVariants.{Finished, Stopped, OutOfFuel, Failed, Misread}
use Rattle.machine.specs.Places.{keys, texts}
use Rattle.machine.specs.Rep.{Rep, IsIn, Items, bottom, item}
use Rattle.machine.specs.declared.Machine.{Machine}
use Rattle.outcome.proofs.Beginnings.{title_plain}
use Rattle.outcome.proofs.Commands.{title_there}

each_byte : (n : List ℕ) → ((j : ℕ) → j < length n → get_or n j 0 < 256) → Bytes n
each_byte [] h = nil
each_byte (b ∷ n) h = cons (h 0 (omega arith)) (each_byte n (λ j l. h (suc j) (omega (arith, l))))

module _ {m : Machine} {s e d c l : List ℕ} {μ : Floo.Machine} (R : Rep m s e d c l μ) where
  -- A byte of a name is part of a word.
  key_bytes : (k : ℕ) (n : List ℕ) → get_elem? (keys μ) k ≡ some n → Bytes n
  key_bytes k n q =
      let few = size_is R k n q in
      each_byte n (λ j h. subst (λ b. b < 256) (byte_is R k n q j (omega (arith, h, few))) (mod-lt (get_or d (12 * k + 1 + j / 4) 0 / 2 ^ (8 * (j % 4))) {m = 256} (omega arith)))

  title_ascii : (k : ℕ) (o : List ℕ) → get_elem? titles k ≡ some o → Ascii o
  title_ascii k o q = subst Ascii (title_plain k o q) (name_ascii true (key_bytes k o (title_slot R k o q)))

  plain : {v : Value} {t p : ℕ} → Stands (keys μ) (texts μ) R.world.ρ v t p → Plain v
  plain a_null = tt
  plain an_integer = tt
  plain a_boolean = tt
  plain a_mark = tt
  plain (an_operator {o} {q = q} h) = title_ascii q o h
  plain (a_literal {n} {q = q} h) = key_bytes q n h
  plain (an_executable {n} {q = q} h) = key_bytes q n h
  plain (a_string h x) = tt
  plain (an_array h x) = tt
  plain (a_procedure h x) = tt

  all_plain : {n : ℕ} {vs : List Value} → Items (IsIn R.world μ) s n vs → All Plain vs
  all_plain bottom = nil
  all_plain (item h r) = cons (plain h.stands) (all_plain r)

  module _ {script : List ℕ} (script-bytes : Bytes script) where
    command_bytes : (command : Command) → IsCommand script (keys μ) command → Bytes (command_text script (keys μ) command)
    unfolding command_text
    command_bytes Nothing h = nil
    command_bytes (Operator k) h = let n = get_or titles k [] in key_bytes k n (title_slot R k n (title_there k h))
    command_bytes (Name k) h = key_bytes k (get_or (keys μ) k []) (an_element (keys μ) k [] h)
    command_bytes (Taken after) h = nil
    command_bytes (Token at size) h = all_take size (all_drop at script-bytes)

    plain_ending : (ending : Ending) → IsEnding script (keys μ) ending → PlainEnding (ending_of script (keys μ) ending)
    unfolding ending_of
    plain_ending Finished h = tt
    plain_ending Stopped h = tt
    plain_ending OutOfFuel h = tt
    plain_ending (Failed error command) h = command_bytes command h
    plain_ending (Misread f) h = tt

    pub readable : (ending : Ending) (next at steps : ℕ)
        → IsEnding script (keys μ) ending
        → Ascii (outcome (record { ending = ending_of script (keys μ) ending; final = record { machine = μ; next = next; at = at; steps = steps } }))
    readable ending next at steps h = outcome_ascii _ (plain_ending ending h) (all_plain R.items)
