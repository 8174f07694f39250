-- The words at the start stand for the definition's initial machine: the slots are those of the predefined names, no root names an object, and a heap
-- with no object fits any words.
-- Assumes nothing.
use mathlib.Core.Path.{◌≡◌, refl, sym, ap, subst}
use mathlib.Core.Bool.{Bool, false}
use mathlib.Core.List.{List, [], ◌∷◌, map}
use mathlib.Core.Option.{some}
use Prim.Native.Nat.{ℕ, zero, suc, ◌+◌, ◌/◌, ◌%◌, ◌≤◌}
use native.Mathlib.Omega.{arith}
use lib.ListN.{length, take, get_elem?}
use Rattle.semantics.specs.Sizes.{operator_count, name_count, cells_most, name_words, dictionary_words_most}
use Rattle.semantics.specs.Machine.{Slot}
use Rattle.semantics.specs.Operators.{table}
use Rattle.semantics.specs.Steps as Steps
use Rattle.semantics.specs.Steps.{predefined, initial}
use Rattle.semantics.specs.ListLaws.{nil, some_one, none_some}
use Rattle.semantics.specs.NameLaws.{name_count_lem, names_differ}
use Rattle.heap.specs.Shape.{Empty, blank, cells}
use Rattle.heap.specs.declared.Lists.{Lists}
use Rattle.heap.proofs.Chains.{fresh_live, fresh_on}
use Rattle.store.specs.Rep.{Names, titles}
use Rattle.semantics.specs.NameLaws.{Distinct}
use Rattle.machine.specs.Places.{roots, root_in, from_end, root_count, keys}
use Rattle.machine.specs.Rep as Words
use Rattle.machine.specs.Rep.{World, Stored, Is, Slots, SlotIs, slot}
use Rattle.machine.specs.declared.Machine.{Machine}
use Rattle.semantics.specs.NameLaws.{distinct}
use Rattle.dictionary.proofs.Slots.{slots_from}
use Rattle.start.specs.Predefined.{names, Filled, Unhandled}
use Rattle.start.specs.Begins.{Begins}
use Rattle.start.proofs.Bindings.{bound_at, no_object, null_names}
use Rattle.start.proofs.Filling.{name_short, filled_still}
use Rattle.start.proofs.Unhandling.{handled_none, none_handled}

-- ---- the parts of `Rep`

keys_are : keys initial.machine ≡ map (λ (s : Slot). s.key) predefined
unfolding initial
keys_are = refl

titled : take operator_count (keys initial.machine) ≡ titles
unfolding initial predefined titles Steps.slot table
titled = refl

names_distinct : Distinct (keys initial.machine)
names_distinct = subst Distinct (sym keys_are) (distinct (map (λ (s : Slot). s.key) predefined) names_differ)

no_root : (r i : ℕ) → Names (roots initial.machine r) i → ⊥
unfolding roots root_in from_end initial
no_root r i = by (r % 4)
  where
    by : (k : ℕ) → Names (root_in initial.machine k (r / 4)) i → ⊥
    by zero n = null_names n
    by (suc zero) n = null_names n
    by (suc (suc zero)) n = no_object (r / 4) i n
    by (suc (suc (suc zero))) n = null_names (subst (λ v. Names v i) (none_handled (r / 4)) n)
    by (suc (suc (suc (suc k)))) n = null_names n

abbrev world : World
world = record { ρ = λ _. 0; ghost = blank }

stored : {lists : Lists} {c : List ℕ} → Empty lists → cells c ≤ cells_most → Stored world lists c (keys initial.machine) [] (roots initial.machine)
stored {c = c} E few =
    let heap = E c (cells c + root_count) few (omega arith) (omega arith) in
    record {
      full = heap.0;
      none_dead = sym heap.0.heap.dead;
      none_out = heap.1;
      objects = record {
        id = λ h q. absurd (fresh_live q);
        one = λ h i q. absurd (fresh_live q);
        array = λ h q. absurd (fresh_live q);
        text = λ h max q. absurd (fresh_live q);
        value = λ c a k q o. absurd (fresh_on o);
        bytes = λ c a k q max j o. absurd (fresh_on o);
        root = λ r h q. absurd (omega arith);
        rooted = λ r i n. absurd (no_root r i n);
        every = λ i l. absurd (omega arith);
      };
    }

key_at : (d : List Slot) (k : ℕ) (s : Slot) → get_elem? d k ≡ some s → get_elem? (map (λ (t : Slot). t.key) d) k ≡ some s.key
key_at [] k s e = absurd (none_some e)
key_at (t ∷ d) zero s e = ap (λ (u : Slot). some u.key) (some_one e)
key_at (t ∷ d) (suc k) s e = key_at d k s e

name_at : (k : ℕ) (s : Slot) → get_elem? predefined k ≡ some s → get_elem? names k ≡ some s.key
unfolding names
name_at k s e = key_at predefined k s e

slots : {d d' : List ℕ} (ks : List (List ℕ)) (ts : List Bool) → Filled d d' → Slots (Is world ks ts) d' 0 predefined
slots {d' = d'} ks ts F =
    slots_from 0 predefined
    (λ k s e.
    let here : k ≡ 0 + k = omega arith in
    let W = F.slots k s.key (name_at k s e) in
    subst (λ x. SlotIs (Is world ks ts) d' x s) here
    (record {
      size = W.size;
      short = name_short k s.key (name_at k s e);
      spelt = W.spelt;
      binding = rw (W.tag, W.payload) (bound_at world ks ts k s e);
    }))

-- ---- the start

abbrev fresh_state : Lists → Machine
fresh_state lists = record { depth = 0; frames = 0; names = name_count; written = 0; lists = lists; stopped = false }

pub begins : {d d₁ d' c : List ℕ} {lists : Lists}
    → Empty lists
    → cells c ≤ cells_most
    → name_words ≤ length d'
    → length d' ≤ dictionary_words_most
    → Filled d d₁
    → Unhandled d₁ d'
    → Begins d d' c (fresh_state lists)
unfolding initial
begins E few large small W U =
    let F = filled_still W U in
    record {
      stands = λ s e l sl el.
          record {
            world = world;
            stored = stored E few;
            items = Words.bottom;
            frames = Words.bottom;
            slots = slots (keys initial.machine) [] F;
            handled = handled_none U;
            sealed = record { marks = λ h l. absurd (fresh_live l); made = nil };
            naming = record {
              many = sym name_count_lem;
              titled = titled;
              distinct = names_distinct;
            };
            logging = record { logged = refl; fits = omega arith };
            stopped = refl;
            rooms = record {
              stack_fits = omega arith;
              exec_fits = omega arith;
              dict_fits = large;
              stack_few = sl;
              exec_few = el;
              dict_few = small;
            };
          };
      kept = F.kept;
    }
