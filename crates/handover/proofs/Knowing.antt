-- The name of a command is stored: it has its slot, gets one, or is none.
-- Assumes nothing.
use mathlib.Core.Path.{◌≡◌, refl, sym, ap, ◌∙◌, subst}
use mathlib.Core.List.{List, [], ◌∷◌, ◌++◌}
use mathlib.Core.Option.{Option, none, some}
use mathlib.Core.Bool.{true}
use Prim.Native.Nat.{ℕ, ◌+◌, ◌-◌, ◌*◌, ◌/◌, ◌≤◌, ◌<◌}
use native.Mathlib.Omega.{arith}
use native.Mathlib.Numerals.{add-one}
use lib.Dec.{T, ltb, ltb→lt}
use lib.ListN.{length, get_or, get_elem?, take, drop, length-map, length-take}
use Rattle.semantics.specs.Sizes.{operator_count, name_most, dictionary_words_most}
use Rattle.semantics.specs.Text.{textual}
use Rattle.semantics.specs.Operators.{table, ◌is◌}
use Rattle.semantics.specs.ListLaws.{every, all_every, at_all, an_element}
use Rattle.store.specs.Rep.{titles}
use Rattle.store.proofs.Standing.{titles_count}
use Rattle.names.proofs.Spelling.{title_slot}
use Rattle.ending.specs.Endings.{command_text, IsCommand}
use Rattle.ending.specs.declared.Command.{Command}
use Rattle.ending.specs.declared.Command.TheVariants.{Nothing, Operator, Name, Token, Taken}
use Rattle.semantics.specs.Machine as Floo
use Rattle.semantics.specs.Machine.{Slot, with_dictionary, slotted, intern}
use Rattle.semantics.specs.ErrorLaws.{noted_empty, noted_found, noted_new, noted_full}
use Rattle.semantics.specs.SlotLaws.{keys_of, has_key, has_absent, slotted_absent}
use Rattle.semantics.specs.Steps.{noted}
use Rattle.machine.specs.Places.{keys}
use Rattle.machine.specs.Rep as Words
use Rattle.machine.specs.Rep.{Rep, Noted, nothing}
use Rattle.machine.specs.declared.Machine.{Machine}
use Rattle.machine.proofs.Rooms.{dictionary_fits}
use Rattle.dictionary.specs.Names.{slot_of, Finds, Adds}
use Rattle.dictionary.proofs.Dictionaries.{absent}
use Rattle.dictionary.proofs.Interning.{new_slot, new_key}
use Rattle.handover.specs.Handover.{Stored, KnowsName, KnowsSlot, Knows, NamesSomewhere, MayKnow}
use Rattle.handover.specs.declared.Known.{Known}

-- A machine with its own dictionary is itself.
own_names : (μ : Floo.Machine) → with_dictionary μ.dictionary μ ≡ μ
unfolding with_dictionary
own_names μ = refl

module _ {m : Machine} {s e d c l : List ℕ} {μ : Floo.Machine} (R : Rep m s e d c l μ) where
  -- What `noted` gives is stored by these words.
  stored_by : (n d' : List ℕ) (r : Known) (o : Option (List ℕ)) (f : List Slot)
      → noted (length d / 12) n μ.dictionary ≡ (o, f)
      → Rep r.machine s e d' c l (with_dictionary f μ)
      → Noted (keys_of f) o r.word
      → Stored n d d' r s e c l μ
  stored_by n d' r o f q there word =
      (subst (λ x. Rep r.machine s e d' c l (with_dictionary x.1 μ)) (sym q) there, subst (λ x. Noted (keys_of x.1) x.0 r.word) (sym q) word)

  same : Rep m s e d c l (with_dictionary μ.dictionary μ)
  same = subst (λ ν. Rep m s e d c l ν) (sym (own_names μ)) R

  pub stored_empty : (n : List ℕ) → length n ≡ 0 → Stored n d d (record { machine = m; word = 0 }) s e c l μ
  stored_empty n z = stored_by n d (record { machine = m; word = 0 }) none μ.dictionary (ap (λ x. noted (length d / 12) x μ.dictionary) (empty n z) ∙ noted_empty (length d / 12) μ.dictionary) same nothing
    where
      empty : (n : List ℕ) → length n ≡ 0 → n ≡ []
      empty [] z = refl
      empty (b ∷ n) z = absurd (omega arith)

  -- A name that has the slot k.
  pub stored_slot : (n : List ℕ) (k w : ℕ) → get_elem? (keys μ) k ≡ some n → (length n ≡ 0 → ⊥) → w ≡ k + 1 → Stored n d d (record { machine = m; word = w }) s e c l μ
  stored_slot n k w key some_bytes w_is =
      stored_by n d (record { machine = m; word = w }) (some n) μ.dictionary (noted_found (length d / 12) n μ.dictionary (omega (arith, some_bytes)) (has_key n μ.dictionary k key) (dictionary_fits R)) same
      (subst (Noted (keys μ) (some n)) (sym (w_is ∙ add-one k)) (Words.noted key))

  module _ (n : List ℕ) (F : Finds m d n m.names) where
    lacks : slot_of n μ.dictionary ≡ m.names
    lacks = new_slot R n F (omega arith) (omega arith)

    -- No slot is free.
    pub stored_none : length d < 12 * m.names + 12 → Stored n d d (record { machine = m; word = 0 }) s e c l μ
    stored_none full =
        let without = has_absent n (absent n μ.dictionary (lacks ∙ R.naming.many)) in
        stored_by n d (record { machine = m; word = 0 }) none μ.dictionary (noted_full (length d / 12) n μ.dictionary without (omega (arith, full, R.naming.many))) same nothing

    -- One is.
    pub stored_new : (d' : List ℕ) (r : Machine) (w : ℕ)
        → 12 * m.names + 12 ≤ length d
        → (length n ≡ 0 → ⊥)
        → Adds m r d d' n
        → w ≡ m.names + 1
        → Stored n d d' (record { machine = r; word = w }) s e c l μ
    unfolding intern with_dictionary
    stored_new d' r w room some_bytes A w_is =
        let missing = absent n μ.dictionary (lacks ∙ R.naming.many) in
        let more = slotted_absent n missing in
        stored_by n d' (record { machine = r; word = w }) (some n) (μ.dictionary ++ (record { key = n; binding = none } ∷ [])) (noted_new (length d / 12) n μ.dictionary (omega (arith, some_bytes)) (has_absent n missing) (omega (arith, room, R.naming.many)))
        (subst (λ f. Rep r s e d' c l (with_dictionary f μ)) more (A.moves s e c l μ R lacks))
        (subst (λ f. Noted (keys_of f) (some n) w) more (subst (Noted (keys_of (slotted n μ.dictionary)) (some n)) (sym (w_is ∙ add-one m.names)) (Words.noted (new_key R n F (omega arith) (omega arith)))))

-- ---- commands

-- No operator's name is empty.
titles_spelled : every (λ n. ltb 0 (length n)) titles ≡ true
unfolding titles table ◌is◌ textual
titles_spelled = refl

title_there : (k : ℕ) → k < operator_count → get_elem? titles k ≡ some (get_or titles k [])
title_there k l = an_element titles k [] (omega (arith, l, titles_count))

title_spelled : (k : ℕ) → k < operator_count → length (get_or titles k []) ≡ 0 → ⊥
title_spelled k l z =
    let long : 0 < length (get_or titles k []) = ltb→lt 0 _ (at_all (all_every (λ n. ltb 0 (length n)) titles (subst T (sym titles_spelled) tt)) k _ (title_there k l)) in
    omega arith

module _ (script : List ℕ) (command : Command) (m : Machine) (d : List ℕ) where
  pub nothing_known : command ≡ Nothing → Knows script command m d d (record { machine = m; word = 0 })
  unfolding command_text
  nothing_known q =
      record {
        knows = λ s e c l μ R i.
            subst (λ (x : Command). Stored (command_text script (keys μ) x) d d (record { machine = m; word = 0 }) s e c l μ) (sym q) (stored_empty R [] refl);
      }

  pub token_silent : (after : ℕ) → command ≡ Taken after → Knows script command m d d (record { machine = m; word = 0 })
  unfolding command_text
  token_silent after q =
      record {
        knows = λ s e c l μ R i.
            subst (λ (x : Command). Stored (command_text script (keys μ) x) d d (record { machine = m; word = 0 }) s e c l μ) (sym q) (stored_empty R [] refl);
      }

  module _ (k : ℕ) (q : command ≡ Operator k) where
    operator_low : (names : List (List ℕ)) → IsCommand script names command → k < operator_count
    operator_low names i = subst (IsCommand script names) q i

    pub operator_small : MayKnow script command m d → k < operator_count
    operator_small M = operator_low (keys M.4) M.6

    pub operator_known : Knows script command m d d (record { machine = m; word = k + 1 })
    unfolding command_text
    operator_known =
        record {
          knows = λ s e c l μ R i.
              let low = operator_low (keys μ) i in
              subst (λ (x : Command). Stored (command_text script (keys μ) x) d d (record { machine = m; word = k + 1 }) s e c l μ) (sym q)
              (stored_slot R (get_or titles k []) k (k + 1) (title_slot R k _ (title_there k low)) (title_spelled k low) refl);
        }

  module _ (k : ℕ) (q : command ≡ Name k) where
    name_low : (names : List (List ℕ)) → IsCommand script names command → k < length names
    name_low names i = subst (IsCommand script names) q i

    pub name_inside : MayKnow script command m d → (12 * k + 12 ≤ length d) × (length d ≤ dictionary_words_most)
    name_inside M =
        let R = M.5 in
        let μ = M.4 in
        (omega (arith, name_low (keys μ) M.6, length-map μ.dictionary (λ (s : Slot). s.key), R.naming.many, R.rooms.dict_fits), R.rooms.dict_few)

    pub name_known : {w : ℕ} → KnowsSlot k d w → Knows script command m d d (record { machine = m; word = w })
    unfolding command_text
    name_known {w} W =
        record {
          knows = λ s e c l μ R i.
              subst (λ (x : Command). Stored (command_text script (keys μ) x) d d (record { machine = m; word = w }) s e c l μ) (sym q)
              (W.knows m s e c l μ R (get_or (keys μ) k []) (an_element (keys μ) k [] (name_low (keys μ) i)));
        }

  module _ (at size : ℕ) (q : command ≡ Token at size) where
    pub token_inside : MayKnow script command m d → (at + size ≤ length script) × (size ≤ name_most)
    token_inside M = subst (IsCommand script (keys M.4)) q M.6

    pub token_there : MayKnow script command m d → (length (take (at + size - at) (drop at script)) ≤ name_most) × NamesSomewhere m d
    token_there M =
        (omega (arith, (token_inside M).1, length-take (at + size - at) (drop at script)), (M.0, M.1, M.2, M.3, M.4, M.5))

    pub token_known : {d' : List ℕ} {r : Known} → KnowsName (take (at + size - at) (drop at script)) m d d' r → Knows script command m d d' r
    unfolding command_text
    token_known {d'} {r} N =
        let part : at + size - at ≡ size = omega arith in
        record {
          knows = λ s e c l μ R i.
              subst (λ (x : Command). Stored (command_text script (keys μ) x) d d' r s e c l μ) (sym q)
              (subst (λ n. Stored (take n (drop at script)) d d' r s e c l μ) part (N.knows s e c l μ R));
        }
