-- What an item's line says: by its tag the sizes of an object, an operator's name, or what echo writes of it.
-- Assumes nothing.
use mathlib.Core.Path.{◌≡◌, sym, ap, ◌∙◌}
use mathlib.Core.Bool.{Bool, true}
use mathlib.Core.List.{List, ◌++◌}
use mathlib.Core.Option.{some}
use Prim.Native.Nat.{ℕ, suc, ◌+◌, ◌-◌, ◌≤◌, ◌<◌}
use native.Mathlib.Omega.{arith}
use lib.ListN.{length, get_or, get_elem?, set, length-append, length-set}
use Rattle.semantics.specs.Text.{bytes, decimal}
use Rattle.semantics.specs.TextLaws.{decimal_length}
use Rattle.semantics.specs.Values.{Value, null, operator, name, string, array}
use Rattle.semantics.specs.Machine as Floo
use Rattle.semantics.specs.Machine.{object, bytes_of, elements_of}
use Rattle.semantics.specs.Printing.{item, echoed_to}
use Rattle.semantics.specs.OutcomeLaws.{Short, plain, item_length}
use Rattle.store.specs.Rep.{Stands, a_null, an_integer, a_boolean, a_mark, an_operator, a_literal, an_executable, a_string, an_array, a_procedure, titles}
use Rattle.store.proofs.Standing.{is_mark_lem, is_operator}
use Rattle.text.specs.Writing.{Written}
use Rattle.text.proofs.Pasting.{then, last, respelt}
use Rattle.names.proofs.Spelling.{title_slot, size_is}
use Rattle.printing.specs.Shown.{WithRoom, Writes}
use Rattle.machine.specs.Words.{item_tag, item_payload}
use Rattle.machine.specs.Places.{keys, texts}
use Rattle.machine.specs.Rep.{Rep, IsIn}
use Rattle.machine.specs.declared.Machine.{Machine}
use Rattle.machine.proofs.Copying.{word_of}
use Rattle.elements.specs.Elements.{tag_of, HasString, HasArray, ArraySize, StringSize, SomewhereThat}
use Rattle.elements.proofs.Tags.{item_tag_lem, tag_string, tag_array}
use Rattle.strings.specs.Strings.{CurrentSize}
use Rattle.outcome.specs.Reports.{ItemRoom, WritesValue, WritesSizes, kind_text, sizes_text}
use Rattle.outcome.proofs.Beginnings.{item_mark, item_string, item_array, item_operator, item_plain}
use Rattle.outcome.proofs.Commands.{executable_words, executable_known}

-- ---- the sizes of a string

module _ (at : ℕ) {out : List ℕ} (room : at + 21 ≤ length out) (size most : ℕ) where
  module _ {mid : List ℕ} {next : ℕ} (D : Written at (decimal size) out mid next) (same : length mid ≡ length out) where
    pub slash_room : next < length mid
    slash_room = omega (arith, room, D.end, same, decimal_length size)

    pub most_room : next + 1 + length (decimal most) ≤ length (set mid next 47)
    most_room = omega (arith, room, D.end, same, length-set mid next 47, decimal_length size, decimal_length most)

    pub sizes_written : {i : ℕ} {m : Machine} {s c : List ℕ}
        → CurrentSize i m s c size
        → StringSize i m s c most
        → {new : List ℕ} {r : ℕ}
        → Written (next + 1) (decimal most) (set mid next 47) new r
        → WritesSizes i m s c at out new r
    unfolding sizes_text bytes
    sizes_written Z X W =
        record {
          says = λ e d l μ R id q.
              let low : at ≤ length out = omega (arith, room) in
              respelt
              (ap (λ n. decimal n ++ bytes "/" ++ decimal (length (bytes_of (object μ id)))) (sym (Z.says e d l μ R id q))
              ∙ ap (λ n. decimal size ++ bytes "/" ++ decimal n) (sym (X.says e d l μ R id q)))
              (then low (last 47 low slash_room D) W);
        }

-- ---- an item

-- Names of slots are short.
stands_short : {m : Machine} {s e d c l : List ℕ} {μ : Floo.Machine} {ρ : ℕ → ℕ}
    → Rep m s e d c l μ
    → {v : Value} {t p : ℕ}
    → Stands (keys μ) (texts μ) ρ v t p
    → Short v
stands_short R a_null = plain tt
stands_short R an_integer = plain tt
stands_short R a_boolean = plain tt
stands_short R a_mark = plain tt
stands_short R (an_operator {o = o} {q = q} h) = record { brief = omega (arith, size_is R q o (title_slot R q o h)) }
stands_short R (a_literal {n = n} {q = q} h) = record { brief = omega (arith, size_is R q n h) }
stands_short R (an_executable {n = n} {q = q} h) = record { brief = omega (arith, size_is R q n h) }
stands_short R (a_string r h) = plain tt
stands_short R (an_array r h) = plain tt
stands_short R (a_procedure r h) = plain tt

module _ {i : ℕ} {m : Machine} {s d c : List ℕ} (N : ItemRoom i m s d c) where
  abbrev place : ℕ
  place = m.depth - 1 - i

  abbrev tag : ℕ
  tag = item_tag s place

  abbrev pay : ℕ
  pay = item_payload s place

  split : m.depth ≡ place + suc i
  split = omega (arith, N.inside)

  module _ {e l : List ℕ} {μ : Floo.Machine} (R : Rep m s e d c l μ) where
    abbrev value : Value
    value = get_or μ.stack i null

    tag_is : tag ≡ tag_of value
    tag_is = item_tag_lem R i place split

    words : IsIn R.world μ value tag pay
    words = word_of R i place split

    pub item_few : length (item μ value) ≤ 130
    item_few = item_length μ value (stands_short R words.stands)

  module _ {at : ℕ} {out : List ℕ} (room : at + 130 ≤ length out) {mid : List ℕ} {next : ℕ} (K : Written at (kind_text tag) out mid next) (same : length mid ≡ length out) where
    -- Room for the second part of the item,
    rest_room : {e l : List ℕ} {μ : Floo.Machine} (R : Rep m s e d c l μ) (t : List ℕ) → item μ (value R) ≡ kind_text (tag_of (value R)) ++ t → next + length t ≤ length mid
    rest_room R t q =
        omega (
          arith,
          room,
          K.end,
          same,
          item_few R,
          ap length q,
          length-append (kind_text (tag_of (value R))) t,
          ap (λ n. length (kind_text n)) (tag_is R),
        )

    -- and the item, with it.
    rest_written : {new : List ℕ} {r : ℕ}
        → ((e l : List ℕ) (μ : Floo.Machine) (R : Rep m s e d c l μ) → (t : List ℕ) × (item μ (value R) ≡ kind_text (tag_of (value R)) ++ t) × Written next t mid new r)
        → WritesValue i m s d c at out new r
    rest_written h =
        record {
          says = λ e l μ R.
              let x = h e l μ R in
              respelt (x.1 ∙ ap (λ n. kind_text n ++ x.0) (sym (tag_is R))) (then (omega (arith, room)) K x.2);
        }

    pub mark_written : tag ≡ 3 → WritesValue i m s d c at out mid next
    mark_written q =
        record { says = λ e l μ R. respelt (item_mark μ (is_mark_lem (words R).stands q) ∙ ap kind_text (sym (tag_is R))) K }

    -- ---- a string

    module _ (q : tag ≡ 8) where
      the_string : {e l : List ℕ} {μ : Floo.Machine} (R : Rep m s e d c l μ) → (id : ℕ) × (value R ≡ string id)
      the_string R = tag_string (value R) (sym (tag_is R) ∙ q)

      pub string_somewhere : SomewhereThat (HasString i) m s c
      string_somewhere = let x = the_string N.rep in (N.exec, d, N.log, N.machine, N.rep, record { id = x.0; item = x.1 })

      pub sizes_room : next + 21 ≤ length mid
      unfolding kind_text bytes
      sizes_room = omega (arith, room, K.end, same, ap (λ n. length (kind_text n)) q)

      pub string_written : {new : List ℕ} {r : ℕ} → WritesSizes i m s c next mid new r → WritesValue i m s d c at out new r
      string_written W =
          rest_written (λ e l μ R.
          let x = the_string R in
          (sizes_text μ x.0, item_string μ x.1, W.says e d l μ R x.0 x.1))

    -- ---- an array

    module _ (q : 9 ≤ tag) where
      the_array : {e l : List ℕ} {μ : Floo.Machine} (R : Rep m s e d c l μ) → (x : Bool) × (id : ℕ) × (value R ≡ array x id)
      the_array R = tag_array (value R) (omega (arith, q, tag_is R))

      pub array_somewhere : SomewhereThat (HasArray i) m s c
      array_somewhere =
          let x = the_array N.rep in
          (N.exec, d, N.log, N.machine, N.rep, record { executable = x.0; id = x.1; item = x.2 })

      module _ {n : ℕ} (Z : ArraySize i m s c n) where
        pub count_room : next + length (decimal n) ≤ length mid
        count_room =
            let x = the_array N.rep in
            let size = Z.says N.exec d N.log N.machine N.rep x.0 x.1 x.2 in
            omega (
              arith,
              rest_room N.rep (decimal (length (elements_of (object N.machine x.1)))) (item_array N.machine x.0 x.2),
              ap (λ k. length (decimal k)) size,
            )

        pub array_written : {new : List ℕ} {r : ℕ} → Written next (decimal n) mid new r → WritesValue i m s d c at out new r
        array_written W =
            rest_written (λ e l μ R.
            let x = the_array R in (
              decimal (length (elements_of (object μ x.1))),
              item_array μ x.0 x.2,
              respelt (ap decimal (sym (Z.says e d l μ R x.0 x.1 x.2))) W,
            ))

    -- ---- an operator

    module _ (q : tag ≡ 4) where
      the_operator : {e l : List ℕ} {μ : Floo.Machine} (R : Rep m s e d c l μ) → (o : List ℕ) × (value R ≡ operator o) × (get_elem? titles pay ≡ some o)
      the_operator R = is_operator (words R).stands q

      pub operator_room : WithRoom d c 6 pay 0 next mid
      operator_room =
          let x = the_operator N.rep in
          record {
            known = executable_known N.rep pay (title_slot N.rep pay x.0 x.2);
            fits = rest_room N.rep (echoed_to 0 N.machine (name true x.0)) (item_operator N.machine pay x.1 x.2);
          }

      pub operator_written : {new : List ℕ} {r : ℕ} → Writes d c 6 pay 0 next mid new r → WritesValue i m s d c at out new r
      operator_written W =
          rest_written (λ e l μ R.
          let x = the_operator R in (
            echoed_to 0 μ (name true x.0),
            item_operator μ pay x.1 x.2,
            W.says m s e l μ R (name true x.0) (executable_words R pay (title_slot R pay x.0 x.2)),
          ))

    -- ---- any other value

    module _ (low : tag < 9) (no-string : tag ≡ 8 → ⊥) (no-mark : tag ≡ 3 → ⊥) (no-operator : tag ≡ 4 → ⊥) where
      parts : {e l : List ℕ} {μ : Floo.Machine} (R : Rep m s e d c l μ) → item μ (value R) ≡ kind_text (tag_of (value R)) ++ echoed_to 0 μ (value R)
      parts {μ = μ} R =
          item_plain μ (value R) (omega (arith, low, no-string, tag_is R)) (λ q. no-mark (tag_is R ∙ q)) (λ q. no-operator (tag_is R ∙ q))

      pub plain_room : WithRoom d c tag pay 0 next mid
      plain_room =
          record {
            known = record { small = m; stack = s; exec = N.exec; log = N.log; machine = N.machine; rep = N.rep; value = value N.rep; words = words N.rep };
            fits = rest_room N.rep (echoed_to 0 N.machine (value N.rep)) (parts N.rep);
          }

      pub plain_written : {new : List ℕ} {r : ℕ} → Writes d c tag pay 0 next mid new r → WritesValue i m s d c at out new r
      plain_written W = rest_written (λ e l μ R. (echoed_to 0 μ (value R), parts R, W.says m s e l μ R (value R) (words R)))
