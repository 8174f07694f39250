-- What the definition makes of a group, against what is judged, named and tested: a fault, no room in the order of errors, or the procedure.
-- Assumes nothing.
use Rattle.std.specs.Prelude.{Ok, Err}
use mathlib.Core.Path.{◌≡◌, refl, sym, ap, ◌∙◌, subst}
use mathlib.Core.Bool.{true}
use mathlib.Core.List.{List, [], ◌∷◌, ◌++◌}
use Prim.Native.Nat.{ℕ, suc, ◌+◌, ◌-◌, ◌*◌, ◌/◌, ◌≤◌, ◌<◌}
use native.Mathlib.Omega.{arith}
use lib.ListN.{length}
use Rattle.semantics.specs.Values.{Object, fault, array, elements, cells}
use Rattle.semantics.specs.Machine as Floo
use Rattle.semantics.specs.Machine.{with_stack, with_store, with_dictionary, with_read_only, push, make, made, change, protect}
use Rattle.semantics.specs.Sizes.{script_most}
use Rattle.semantics.specs.Groups.{taken, opened}
use Rattle.semantics.specs.Held.{sum_of}
use Rattle.semantics.specs.declared.Fault.{Fault}
use Rattle.semantics.specs.declared.Error.{Error}
use Rattle.semantics.specs.declared.Error.TheVariants.{StackOverflow, VmError}
use Rattle.machine.specs.Rep.{Rep}
use Rattle.machine.specs.Room.{lent}
use Rattle.machine.specs.declared.Machine.{Machine}
use Rattle.machine.proofs.Items.{items_length}
use Rattle.machine.proofs.Rooms.{room_stack, exec_fits, dictionary_fits, log_fits}
use Rattle.elements.specs.Elements.{free_cells}
use Rattle.elements.proofs.Vacancy.{room_made, room_none}
use Rattle.dictionary.proofs.Adding.{kept_rep}
use Rattle.dictionary.proofs.Lookups.{room_slots}
use Rattle.groups.specs.Nodes.{Nodes, count, wanted, names, values, news, grown, filled}
use Rattle.groups.specs.Parsing.{Parsed, JudgedAs}
use Rattle.groups.proofs.Trees.{nested, nested_store, values_length, news_cells, group_parsed}
use Rattle.taking.specs.Flat.{NamedAs, AddsNames, with_names}
use Rattle.machine.specs.Answers.{Did}
use Rattle.taking.proofs.Flattening.{parsed_flat}
use Rattle.group_building.proofs.Planting.{planted_group}
use Rattle.group_taking.specs.Taking.{group_read, Roomy, ReadyGroup, ConstructsGroup, TakesGroup}
use Rattle.group_taking.specs.declared.GroupError.TheVariants.{Failed, Misread}

-- ---- a fault

pub group_fault : {script : List ℕ} {from : ℕ} {x : Fault}
    → JudgedAs script 15 from (Err x)
    → 1 ≤ from
    → {m : Machine} {s d c : List ℕ}
    → TakesGroup script from m s s d d c c (Err (Misread x))
unfolding group_read
group_fault {script} F first =
    record { takes = λ e l μ R. (F.says (length script) (made μ) [] (opened μ) (omega (arith, first)), refl, refl, R) }

-- ---- what the definition makes

abbrev procedure : Nodes → Floo.Machine → Floo.Machine
procedure ns μ = push (array true (made μ)) (nested ns μ)

-- The objects of the group.
abbrev group_news : Nodes → Floo.Machine → List Object
group_news ns μ = elements (values (suc (made μ)) ns) ∷ news (suc (made μ)) ns

group_cells : (ns : Nodes) (μ : Floo.Machine) → sum_of cells (group_news ns μ) ≡ count ns + 1 + wanted ns
unfolding sum_of cells
group_cells ns μ = omega (arith, values_length (suc (made μ)) ns, news_cells (suc (made μ)) ns)

store_is : (ns : Nodes) (μ : Floo.Machine) → (procedure ns μ).store ≡ μ.store ++ group_news ns μ
unfolding push with_stack
store_is ns μ = nested_store ns μ

module _ {script : List ℕ} {from : ℕ} (first : 1 ≤ from) (inside : from ≤ length script) {ns : Nodes} {after : ℕ} (P : Parsed script 15 from ns after) (low : after ≤ length script) where
  read_is : (μ : Floo.Machine) → group_read script from μ ≡ taken (array true (made μ)) (nested ns μ) after
  unfolding group_read
  read_is μ = group_parsed script P inside (length script) (made μ) (from - 1) [] (opened μ) (omega (arith, first))

  -- ---- the names

  module _ {m : Machine} {d d' : List ℕ} {r : Did} (N : AddsNames script from after m d d' r) (long : length d' ≡ length d) where
    named_as : {s e c l : List ℕ} {μ : Floo.Machine} → Rep m s e d c l μ → NamedAs (names ns) m s e d d' c l μ r
    named_as {s} {e} {c} {l} {μ} R = N.adds (names ns) (parsed_flat P) s e c l μ R

    stays : {s e c l : List ℕ} {μ : Floo.Machine} → Rep m s e d c l μ → Rep m s e d' c l μ
    stays R = kept_rep R (omega (arith, long, R.rooms.dict_fits)) (omega (arith, long, R.rooms.dict_few)) N.kept

    pub group_full : {s c : List ℕ} {x : Error} → r ≡ Err x → TakesGroup script from m s s d d' c c (Err (Failed x after))
    unfolding lent push with_stack filled grown change opened protect make with_read_only with_store with_dictionary
    group_full {s} {c} u = record {
      takes = λ e l μ R.
          let full = subst (NamedAs (names ns) m s e d d' c l μ) u (named_as R) in
          (nested ns μ, read_is μ, room_slots (lent s e d c l) μ (procedure ns μ) full.1 ∙ ap fault (sym full.0), refl, refl, stays R, low);
    }

    module _ {q : Machine} (u : r ≡ Ok q) where
      done : {s e c l : List ℕ} {μ : Floo.Machine} → Rep m s e d c l μ → NamedAs (names ns) m s e d d' c l μ (Ok q)
      done {s} {e} {c} {l} {μ} R = subst (NamedAs (names ns) m s e d d' c l μ) u (named_as R)

      names_fit : {s e c l : List ℕ} {μ : Floo.Machine} → Rep m s e d c l μ → length (procedure ns μ).dictionary ≤ length d / 12
      unfolding push with_stack filled grown change opened protect make with_read_only with_store with_dictionary
      names_fit {μ = μ} R = subst (λ n. length (procedure ns μ).dictionary ≤ n / 12) long (dictionary_fits (done R).0)

      pub group_over : {s c : List ℕ} → length s < 2 * m.depth + 2 → TakesGroup script from m s s d d' c c (Err (Failed StackOverflow after))
      unfolding lent push with_stack filled grown change opened protect make with_read_only with_store with_dictionary
      group_over {s} {c} over = record {
        takes = λ e l μ R.
            let deep : length s / 2 < length (procedure ns μ).stack = omega (arith, items_length R.items, over) in
            (nested ns μ, read_is μ, room_stack (lent s e d c l) μ (procedure ns μ) (names_fit R) (exec_fits R) deep, refl, refl, stays R, low);
      }

      module _ {s c : List ℕ} (room : 2 * m.depth + 2 ≤ length s) where
        stack_fit : {e l : List ℕ} {μ : Floo.Machine} → Rep m s e d c l μ → length (procedure ns μ).stack ≤ length s / 2
        unfolding push with_stack filled grown change opened protect make with_read_only with_store with_dictionary
        stack_fit R = omega (arith, items_length R.items, room)

        pub group_none : free_cells m c < count ns + 1 + wanted ns → TakesGroup script from m s s d d' c c (Err (Failed VmError after))
        unfolding push with_stack filled grown change opened protect make with_read_only with_store with_dictionary
        group_none few = record {
          takes = λ e l μ R.
              let many : free_cells m c < sum_of cells (group_news ns μ) = omega (arith, few, group_cells ns μ) in
              (nested ns μ, read_is μ, room_none R (procedure ns μ) (group_news ns μ) (store_is ns μ) (names_fit R) (exec_fits R) (stack_fit R) many, refl, refl, stays R, low);
        }

        module _ (enough : count ns + 1 + wanted ns ≤ free_cells m c) where
          roomy : {e l : List ℕ} {μ : Floo.Machine} → Rep m s e d c l μ → Roomy script from q s e d' c l (with_names (names ns) μ) ns after
          unfolding with_dictionary
          roomy R =
              let D = done R in
              record {
                rep = D.0;
                parsed = P;
                known = D.1;
                stack = omega (arith, D.2.depth, room);
                cells = subst (λ x. count ns + 1 + wanted ns ≤ x) (ap (λ x. x.listed + (length c / 4 - x.edge)) (sym D.2.lists)) enough;
              }

          pub group_ready : {size : ℕ} → length script ≤ script_most → size ≡ count ns → size ≤ 32768 → (e : List ℕ) × (l : List ℕ) × (μ : Floo.Machine) × Rep m s e d c l μ → ReadyGroup script from size q s d' c
          group_ready short is few (e, l, μ, R) = (inside, short, few, (e, l, with_names (names ns) μ, ns, after, roomy R, is))

          pub group_done : {r : Machine} {s' c' : List ℕ} → ConstructsGroup script from q r s s' d' c c' → TakesGroup script from m s s' d d' c c' (Ok (r, after))
          unfolding made push with_stack filled grown change opened protect make with_read_only with_store with_dictionary
          group_done {r} {s'} {c'} C = record {
            takes = λ e l μ R.
                let few : sum_of cells (group_news ns μ) ≤ free_cells m c = omega (arith, enough, group_cells ns μ) in
                let log : length (procedure ns μ).log ≤ length l = log_same l μ (log_fits R) in (
                  nested ns μ,
                  read_is μ,
                  room_made R (procedure ns μ) (group_news ns μ) (store_is ns μ) (names_fit R) (exec_fits R) (stack_fit R) few log,
                  subst (λ ν. Rep r s' e d' c' l (push (array true (made μ)) ν)) (planted_group ns μ) (C.constructs (roomy R)),
                  low,
                );
          }
            where
              log_same : (l : List ℕ) (μ : Floo.Machine) → length μ.log ≤ length l → length (procedure ns μ).log ≤ length l
              log_same l μ h = h
