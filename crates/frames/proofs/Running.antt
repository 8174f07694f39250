-- A procedure starts to run, goes on to its next element, and its element is pushed.
-- Assumes nothing.
use mathlib.Core.Path.{◌≡◌, refl, sym, ap, ◌∙◌, subst}
use mathlib.Core.Bool.{Bool, true}
use mathlib.Core.List.{List}
use Prim.Native.Nat.{ℕ, suc, ◌+◌, ◌-◌, ◌*◌, ◌%◌, ◌≤◌}
use native.Mathlib.Omega.{arith}
use lib.ListN.{length, get_or}
use Rattle.semantics.specs.Values.{Value, null, array, Object}
use Rattle.semantics.specs.Machine as Floo
use Rattle.semantics.specs.Machine.{Frame, pending, running, elements_of}
use Rattle.heap.specs.Chain.{live, on}
use Rattle.heap.specs.Shape.{Ghost, Shape, size_unit}
use Rattle.heap.specs.Word.{word}
use Rattle.heap.proofs.Shapes.{room, header_of}
use Rattle.store.specs.Rep.{object_at, element, Stands, a_procedure, by_array}
use Rattle.store.proofs.Elements.{body_alives}
use Rattle.store.proofs.Sorts.{array_length, procedure_tag}
use Rattle.store.proofs.Standing.{stands_names}
use Rattle.machine.specs.Words.{frame_kind, frame_tag, frame_payload, frame_cell, frame_left, frame_final}
use Rattle.machine.specs.Places.{frame_value, keys, texts}
use Rattle.machine.specs.Rep.{Rep, IsIn, FrameIs, a_pending, a_running, a_looping, a_repeating, a_counting, a_past}
use Rattle.machine.specs.declared.Machine.{Machine}
use Rattle.machine.specs.FrameMoves.{top_frame, top_value}
use Rattle.frames.specs.Moves.{Resets, Starts, Advances}
use Rattle.machine.proofs.Tops.{slot, words, top_value_lem}

procedure_ten : {keys : List (List ℕ)} {texts : List Bool} {ρ : ℕ → ℕ} {i t p : ℕ} → Stands keys texts ρ (array true i) t p → t ≡ 10
procedure_ten (a_procedure q x) = refl

-- What the words of a running procedure's slot say.
pub record Runs (A : Value → ℕ → ℕ → Type 0) (g : Ghost) (store : List Object) (i k t p a b : ℕ) : Type 0 where
  pub procedure : A (array true i) t p
  pub left : b + k ≡ length (elements_of (object_at store i))
  pub next : (r : ℕ) → b ≡ suc r → g.own a ≡ on (p + 2) r

module _ {A : Value → ℕ → ℕ → Type 0} {g : Ghost} {store : List Object} where
  pub runs : {f : Frame} {kind t p a b c : ℕ} (i k : ℕ) → f ≡ running i k → FrameIs A g store f kind t p a b c → Runs A g store i k t p a b
  runs {kind = kind} {t = t} {p = p} {a = a} {b = b} {c = c} i k q h = by (subst (λ x. FrameIs A g store x kind t p a b c) q h)
    where
      by : {kind c : ℕ} → FrameIs A g store (running i k) kind t p a b c → Runs A g store i k t p a b
      by (a_running w s n) = record { procedure = w; left = s; next = n }

  -- Kind 1 is a running procedure's.
  pub kind_runs : {f : Frame} {kind t p a b c : ℕ} → kind ≡ 1 → FrameIs A g store f kind t p a b c → (i : ℕ) × (k : ℕ) × (f ≡ running i k)
  kind_runs q (a_pending h) = absurd (omega (arith, q))
  kind_runs q (a_running {i = i} {k = k} h s n) = (i, k, refl)
  kind_runs q (a_looping h) = absurd (omega (arith, q))
  kind_runs q (a_repeating h) = absurd (omega (arith, q))
  kind_runs q (a_counting h e) = absurd (omega (arith, q))
  kind_runs q (a_past h e o b) = absurd (omega (arith, q))

module _ {m : Machine} {st e d c l : List ℕ} {μ : Floo.Machine} (R : Rep m st e d c l μ) (k : ℕ) (h : m.frames ≡ suc k) where
  abbrev tag : ℕ
  tag = frame_tag e k

  abbrev header : ℕ
  header = frame_payload e k

  pub shape : Shape R.world.ghost m.lists.edge c
  shape = R.stored.full.heap.shape

  -- ---- a procedure that waits

  module _ (is : tag ≡ 10) where
    pub lives : R.world.ghost.own header ≡ live
    lives = (words R k h).alive (omega (arith, is))

    pub header_room : header * 4 + 4 ≤ length c
    header_room = room shape header lives refl

    pub sized : word c header 1 % size_unit ≡ R.world.ghost.size (header + 2)
    sized = (header_of shape header lives refl).0

    -- The slot's words once it runs.
    pub started : (i a b z : ℕ)
        → top_value μ ≡ array true i
        → b ≡ word c header 1 % size_unit
        → ((r : ℕ) → b ≡ suc r → R.world.ghost.own a ≡ on (header + 2) r)
        → FrameIs (IsIn R.world μ) R.world.ghost μ.store (running i 0) 1 tag header a b z
    started i a b z q n own =
        let w = subst (λ v. IsIn R.world μ v tag header) (sym (top_value_lem R k h) ∙ q) (words R k h) in
        let same : R.world.ρ header ≡ i = (stands_names w.stands by_array).1 in
        let long : length (elements_of (object_at μ.store i)) ≡ word c header 1 % size_unit =
        ap (λ j. length (elements_of (object_at μ.store j))) (sym same)
        ∙ array_length R.stored.objects header lives shape (procedure_tag R.stored.objects header lives (words R k h).stands is) in
        a_running {k = 0} {b = b} w (omega (arith, n, long)) own

  -- ---- a procedure that runs

  pub run_at : frame_kind e k ≡ 1 → (i : ℕ) × (j : ℕ) × (top_frame μ ≡ running i j)
  run_at q =
      let x = kind_runs q (slot R k h).words in
      (x.0, x.1, ap (λ fs. get_or fs 0 (pending null)) (slot R k h).split ∙ x.2)

  module _ (i j : ℕ) (is : top_frame μ ≡ running i j) where
    pub top_runs : Runs (IsIn R.world μ) R.world.ghost μ.store i j tag header (frame_cell e k) (frame_left e k)
    top_runs = runs i j (sym (ap (λ fs. get_or fs 0 (pending null)) (slot R k h).split) ∙ is) (slot R k h).words

    module _ (some_left : 1 ≤ frame_left e k) where
      abbrev cell : ℕ
      cell = frame_cell e k

      abbrev r : ℕ
      r = frame_left e k - 1

      more : frame_left e k ≡ suc r
      more = omega arith

      pub cell_owned : R.world.ghost.own cell ≡ on (header + 2) r
      cell_owned = top_runs.next r more

      pub cell_room : cell * 4 + 4 ≤ length c
      cell_room = room shape cell cell_owned refl

      -- The slot's words once it has gone on.
      pub advanced : (z : ℕ) → FrameIs (IsIn R.world μ) R.world.ghost μ.store (running i (suc j)) 1 tag header (word c cell 2) (frame_left e k - 1) z
      advanced z =
          a_running {k = suc j} {b = frame_left e k - 1} top_runs.procedure (omega (arith, more, top_runs.left))
          (λ x q. shape.chains.link cell (header + 2) x (subst (λ y. R.world.ghost.own cell ≡ on (header + 2) y) (omega (arith, more, q)) cell_owned))

      tag_ten : tag ≡ 10
      tag_ten = procedure_ten top_runs.procedure.stands

      -- Its next element.
      pub element_words : IsIn R.world μ (element μ.store i j) (word c cell 0) (word c cell 1)
      element_words =
          let O = R.stored.objects in
          let w = top_runs.procedure in
          let alive : R.world.ghost.own header ≡ live = w.alive (omega (arith, tag_ten)) in
          let zero-kind = procedure_tag O header alive w.stands tag_ten in
          let same : R.world.ρ header ≡ i = (stands_names w.stands by_array).1 in
          let size : R.world.ghost.size (header + 2) ≡ j + suc r =
          sym (O.array header alive zero-kind).1 ∙ ap (λ y. length (elements_of (object_at μ.store y))) same ∙ omega (arith, more, top_runs.left) in
          record {
            stands = subst (λ y. Stands (keys μ) (texts μ) R.world.ρ (element μ.store y j) (word c cell 0) (word c cell 1)) same
                (O.value cell header r j cell_owned alive zero-kind size);
            alive = body_alives shape R.stored.full.counts cell header r cell_owned zero-kind;
          }

      -- The same, by the words that were read.
      pub element_is : {t p : ℕ} → t ≡ word c cell 0 → p ≡ word c cell 1 → IsIn R.world μ (element μ.store i j) t p
      element_is x y = rw (x, y) element_words

-- ---- as the slot is reset

module _ {m : Machine} (e c : List ℕ) {e' : List ℕ} (some : 1 ≤ m.frames) where
  -- The first cell is that of the first element, if there is one.
  pub starts : frame_tag e (m.frames - 1) ≡ 10
      → (a b : ℕ)
      → b ≡ word c (frame_payload e (m.frames - 1)) 1 % size_unit
      → ((g : Ghost) (x : ℕ) → Shape g x c → g.own (frame_payload e (m.frames - 1)) ≡ live → (r : ℕ) → b ≡ suc r → g.size (frame_payload e (m.frames - 1) + 2) ≡ 0 + suc r → g.own a ≡ on (frame_payload e (m.frames - 1) + 2) r)
      → Resets 1 a b m e e'
      → Starts m e e' c
  starts is a b n first reset =
      record {
        moves = λ s d l μ R i q.
            let h : m.frames ≡ suc (m.frames - 1) = omega (arith, some) in
            let own = first R.world.ghost m.lists.edge (shape R (m.frames - 1) h) (lives R (m.frames - 1) h is) in
            reset.moves s d c l μ R (running i 0) (sym q) (started R (m.frames - 1) h is i a b _ q n (λ r z. own r z (omega (arith, sized R (m.frames - 1) h is, n, z))));
      }

  pub advances : {next : ℕ}
      → 1 ≤ frame_left e (m.frames - 1)
      → next ≡ word c (frame_cell e (m.frames - 1)) 2
      → Resets 1 next (frame_left e (m.frames - 1) - 1) m e e'
      → Advances m e e' c
  unfolding top_value
  advances {next} left is reset =
      record {
        moves = λ s d l μ R i j q.
            let h : m.frames ≡ suc (m.frames - 1) = omega (arith, some) in
            reset.moves s d c l μ R (running i (suc j)) (ap frame_value (sym q))
            (subst (λ y. FrameIs (IsIn R.world μ) R.world.ghost μ.store (running i (suc j)) 1 (frame_tag e (m.frames - 1)) (frame_payload e (m.frames - 1)) y (frame_left e (m.frames - 1) - 1) (frame_final e (m.frames - 1))) (sym is)
            (advanced R (m.frames - 1) h i j q left (frame_final e (m.frames - 1))));
      }
