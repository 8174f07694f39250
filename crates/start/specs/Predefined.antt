-- The words of the predefined names' slots, and of no handler.
-- Assumes nothing.
use Rattle.std.specs.Prelude.{◌≡◌, List, map, ℕ, ◌+◌, ◌*◌, ◌/◌, ◌%◌, ◌≤◌, ◌<◌, length, get_or, ltb, leb, eqb}
use Rattle.std.proofs.Math.Option.{some}
use Rattle.std.proofs.Math.ListN.{get_elem?}
use Rattle.machine.specs.Words.{binding_tag, binding_payload, handler_tag, latest_error, latest_command}
use Rattle.semantics.specs.Sizes.{operator_count, error_count, name_words}
use Rattle.semantics.specs.Machine.{Slot}
use Rattle.semantics.specs.Steps.{predefined}
use Rattle.heap.specs.Upd.{pick}
use Rattle.store.specs.Rep.{byte_of}

unfoldable pub names : List (List ℕ)
names = map (λ (s : Slot). s.key) predefined

-- The words of the binding of name k.
unfoldable pub tag_of : ℕ → ℕ
tag_of k = pick (leb k operator_count) 4 (pick (leb k (operator_count + 2)) 2 0)

unfoldable pub payload_of : ℕ → ℕ
payload_of k = pick (ltb k operator_count) k (pick (eqb k operator_count) 37 (pick (eqb k (operator_count + 1)) 1 0))

-- The words of slot k, of the name n.
pub record Written (words : List ℕ) (k : ℕ) (n : List ℕ) : Type 0 where
  pub size : get_or words (12 * k) 0 ≡ length n
  pub spelt : (j : ℕ) → j < 32 → byte_of (get_or words (12 * k + 1 + j / 4) 0) (j % 4) ≡ get_or n j 0
  pub tag : binding_tag words k ≡ tag_of k
  pub payload : binding_payload words k ≡ payload_of k

-- The predefined names have their slots, and all words after them are as they were.
pub record Filled (d d' : List ℕ) : Type 0 where
  pub slots : (k : ℕ) (n : List ℕ) → get_elem? names k ≡ some n → Written d' k n
  pub kept : (i : ℕ) → name_words ≤ i → get_or d' i 0 ≡ get_or d i 0

-- No error has a handler, and no name of an error is stored; all words but those are as they were.
pub record Unhandled (d d' : List ℕ) : Type 0 where
  pub none : (j : ℕ) → j < error_count → handler_tag d' j ≡ 7
  pub error : latest_error d' ≡ 0
  pub command : latest_command d' ≡ 0
  pub kept : (i : ℕ) → (i % 12 ≡ 11 → i < name_words → ⊥) → get_or d' i 0 ≡ get_or d i 0
