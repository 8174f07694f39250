-- What a header's words say of the string or array that it stands for: its size, and the cell of each byte or element, in every machine that the words stand for.
-- Assumes nothing.
use mathlib.Core.Path.{◌≡◌, refl, sym, ap, ◌∙◌, subst}
use mathlib.Core.Bool.{Bool}
use mathlib.Core.List.{List}
use Prim.Native.Nat.{ℕ, suc, ◌+◌, ◌-◌, ◌*◌, ◌/◌, ◌%◌, ◌≤◌, ◌<◌}
use native.Mathlib.Omega.{arith}
use lib.ListN.{length, get_or}
use Rattle.semantics.specs.Values.{null, string, array}
use Rattle.semantics.specs.Machine as Floo
use Rattle.semantics.specs.Machine.{object, elements_of, bytes_of}
use Rattle.heap.specs.Word.{word}
use Rattle.heap.specs.Chain.{on}
use Rattle.heap.specs.Shape.{size_unit}
use Rattle.heap.proofs.Shapes.{room}
use Rattle.store.specs.Rep.{Stands, byte_of, object_at}
use Rattle.store.proofs.Elements.{element_read, body_alives}
use Rattle.machine.specs.Places.{keys, texts}
use Rattle.machine.specs.Rep.{Rep, IsIn}
use Rattle.machine.specs.declared.Machine.{Machine}
use Rattle.elements.specs.Elements.{HasCell}
use Rattle.elements.proofs.Arrays.{ArrayAt, array_at, Found}
use Rattle.elements.proofs.Strings.{StringAt, string_at, byte_here, cell_here, read_here}

-- The cell after cell q of a body is cell q + 1.
found_next : (c : List ℕ) (h q cell : ℕ) → Found c h q cell → Found c h (q + 1) (word c cell 2)
found_next c h q cell found g n S lives r z =
    let before : g.size (h + 2) ≡ q + suc (suc r) = omega arith in
    S.chains.link cell (h + 2) r (found g n S lives (suc r) before)

pub found_after : (c : List ℕ) (h q cell r : ℕ) → Found c h q cell → r ≡ word c cell 2 → Found c h (q + 1) r
found_after c h q cell r found e = rw e (found_next c h q cell found)

module _ {m : Machine} {st e d c l : List ℕ} {μ : Floo.Machine} (R : Rep m st e d c l μ) {h t : ℕ} where
  -- ---- strings

  module _ {id : ℕ} (I : IsIn R.world μ (string id) t h) where
    string_here : StringAt R.world c μ.store h id
    string_here = string_at R.stored I

    -- Word 0 is the maximum and 1.
    pub most_is : word c h 0 ≡ suc (length (bytes_of (object μ id)))
    unfolding object
    most_is = string_here.kind ∙ ap (λ j. suc (length (bytes_of (object_at μ.store j)))) string_here.stands

    pub string_room : h * 4 + 4 ≤ length c
    string_room = room R.stored.full.heap.shape h string_here.lives refl

    module _ (q : ℕ) (inside : q + 1 < word c h 0) where
      low : q < length (bytes_of (object μ id))
      low = omega (arith, inside, most_is)

      pub byte_sought : HasCell c h (q / 8)
      byte_sought = byte_here R h id q string_here low

      module _ (cell : ℕ) (found : Found c h (q / 8) cell) where
        pub byte_room : cell * 4 + 4 ≤ length c
        byte_room = room R.stored.full.heap.shape cell (cell_here R h id q string_here low cell found) refl

        pub byte_at : byte_of (word c cell (q % 8 / 4)) (q % 8 % 4) ≡ get_or (bytes_of (object μ id)) q 0
        byte_at = read_here R h id q string_here low cell found

  -- ---- arrays

  module _ {x : Bool} {id : ℕ} (I : IsIn R.world μ (array x id) t h) where
    array_here : ArrayAt R.world c μ.store h id
    array_here = array_at R.stored I

    -- The lower part of word 1 is the number of elements.
    pub count_is : word c h 1 % size_unit ≡ length (elements_of (object μ id))
    unfolding object
    count_is = array_here.size ∙ sym array_here.many ∙ ap (λ j. length (elements_of (object_at μ.store j))) array_here.stands

    pub array_room : h * 4 + 4 ≤ length c
    array_room = room R.stored.full.heap.shape h array_here.lives refl

    module _ (q : ℕ) (inside : q < word c h 1 % size_unit) where
      abbrev after : ℕ
      after = R.world.ghost.size (h + 2) - suc q

      splits : R.world.ghost.size (h + 2) ≡ q + suc after
      splits = omega (arith, inside, array_here.size)

      pub cell_sought : HasCell c h q
      cell_sought = (R.world.ghost, m.lists.edge, R.stored.full.heap.shape, array_here.lives, omega (arith, splits))

      module _ (cell : ℕ) (found : Found c h q cell) where
        cell_at : R.world.ghost.own cell ≡ on (h + 2) after
        cell_at = found R.world.ghost m.lists.edge R.stored.full.heap.shape array_here.lives after splits

        pub cell_room : cell * 4 + 4 ≤ length c
        cell_room = room R.stored.full.heap.shape cell cell_at refl

        pub element_is : IsIn R.world μ (get_or (elements_of (object μ id)) q null) (word c cell 0) (word c cell 1)
        unfolding object
        element_is =
            record {
              stands = subst (λ i. Stands (keys μ) (texts μ) R.world.ρ (get_or (elements_of (object_at μ.store i)) q null) (word c cell 0) (word c cell 1)) array_here.stands
                  (element_read R.stored.objects cell h after q _ cell_at array_here.lives array_here.whole splits);
              alive = body_alives R.stored.full.heap.shape R.stored.full.counts cell h after cell_at array_here.kind;
            }
